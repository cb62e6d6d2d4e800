-- After an accepted clear and any lines, the register in the room is the arrangement worked out afresh from the records that the lines leave live.
-- Each line keeps it, as each call of a history does: the register's parts go out of the room and come back as long as they were.
use Prim.Native.Nat.{ℕ, ◌*◌, ◌≤◌}
use native.Mathlib.Omega.{arith}
use mathlib.Core.Path.{◌≡◌, refl, sym, ap, ◌∙◌, subst}
use mathlib.Core.Bool.{Bool, true, false, cond}
use mathlib.Core.List.{List, [], ◌∷◌, ◌++◌}
use lib.ListN.{length, take, drop, length-append, length-take, length-drop}
use lib.Seq.{length-take-le, take_at}
use lib.Dec.{leb}
use borrow.Author.Tests.{leb-true, le-leb, eq-eqb}
use Rattle.std.specs.Prelude.{Option, Some, None}
use Rattle.std.proofs.lemmas.Bool.{false≢true}
use Rattle.register.specs.declared.head.Head.{Head}
use Rattle.register.specs.Head.{good_head}
use Rattle.register.specs.Answers.{Out, out, open_number, length_number}
use Rattle.register.specs.Clear.{clear_of, new_head}
use Rattle.register.proofs.Opened.{opened_lent, good_lengths}
use Rattle.history.specs.Calls.{State, Call, find, store, remove, change, check, left, after, run}
use Rattle.history.specs.Live.{Live, none_live, after_live, valid_clear, head_for, Afresh, History, run_live}
use Rattle.history.proofs.History.{KeptAt, kept_after, kept, afresh}
use Rattle.frames.specs.declared.frame.Frame.{Frame}
use Rattle.frames.specs.declared.frame.Frame.TheVariants.{Clear, Store, Find, Remove, Change, Check}
use Rattle.frames.specs.Parsing.{parse_of}
use Rattle.frames.specs.Serving.{call_of, room_of, answered_of}
use Rattle.frames.proofs.Room.{clear_refused}
use Rattle.lines.specs.Room.{Room, register_in, leaves, after_lines, room_clear, frame_live, line_live, lines_live}

-- a room of w words and c counts whose register holds the live records l
record Held (w c : ℕ) (r : Room) (l : Live) : Type 0 where
  words : length r.words ≡ w
  counts : length r.counts ≡ c
  enough_words : 2 * r.head.slots ≤ w
  enough_counts : r.head.slots ≤ c
  kept : KeptAt (2 * r.head.slots) r.head.slots (register_in r) l

-- a register of m slots put back into a room from which m slots were lent
put_back : (ws cs : List ℕ) (m : ℕ) (o : Out) (l : Live) → 2 * m ≤ length ws → m ≤ length cs → KeptAt (2 * m) m (left o) l →
    Held (length ws) (length cs) (leaves (out o.answer (o.words ++ drop (2 * m) ws) (o.counts ++ drop m cs))) l
put_back ws cs m o l a b K =
    let g = opened_lent (head_for l) o.words o.counts K.holding.opens in
    let s : o.answer.head.slots ≡ m = ap (λ (h : Head). h.slots) K.head ∙ sym g.counts ∙ K.counts in
    let us = o.words ++ drop (2 * m) ws in
    let vs = o.counts ++ drop m cs in
    let p : take (2 * m) us ≡ o.words = take_at o.words (drop (2 * m) ws) (2 * m) K.words in
    let q : take m vs ≡ o.counts = take_at o.counts (drop m cs) m K.counts in
    record {
      words = length-append o.words (drop (2 * m) ws) ∙ (rw (K.words, length-drop (2 * m) ws) (omega arith));
      counts = length-append o.counts (drop m cs) ∙ (rw (K.counts, length-drop m cs) (omega arith));
      enough_words = rw s a;
      enough_counts = rw s b;
      kept =
          subst (λ (n : ℕ). KeptAt (2 * n) n (record { head = o.answer.head; words = take (2 * n) us; counts = take n vs }) l) (sym s)
          (subst (λ (u : List ℕ). KeptAt (2 * m) m (record { head = o.answer.head; words = u; counts = take m vs }) l) (sym p)
          (subst (λ (v : List ℕ). KeptAt (2 * m) m (record { head = o.answer.head; words = o.words; counts = v }) l) (sym q) K));
    }

-- the same lengths under other names
renamed : {w c v d : ℕ} {r : Room} {l : Live} → v ≡ w → d ≡ c → Held v d r l → Held w c r l
renamed {w} {c} {v} {d} {r} {l} e f H = subst (λ (n : ℕ). Held n c r l) e (subst (λ (n : ℕ). Held v n r l) f H)

-- a call on the register in the room keeps it
call_held : {w c : ℕ} {r : Room} {l : Live} → Held w c r l → (o : Out) (k : Call) → left o ≡ after k (register_in r) →
    let m = r.head.slots in
    Held w c (leaves (out o.answer (o.words ++ drop (2 * m) r.words) (o.counts ++ drop m r.counts))) (after_live (2 * m) m k l)
call_held {w} {c} {r} {l} H o k e =
    let m = r.head.slots in
    renamed H.words H.counts
    (put_back r.words r.counts m o (after_live (2 * m) m k l) (rw H.words H.enough_words) (rw H.counts H.enough_counts)
    (subst (λ (s : State). KeptAt (2 * m) m s (after_live (2 * m) m k l)) (sym e) (kept_after H.kept k)))

three_tests : (a b c : Bool) → cond a (cond b c false) false ≡ true → (a ≡ true) × (b ≡ true) × (c ≡ true)
three_tests true true true e = (refl, refl, refl)
three_tests true true false e = absurd (false≢true e)
three_tests true false c e = absurd (false≢true e)
three_tests false b c e = absurd (false≢true e)

module _ (h : Head) (ws cs : List ℕ) (m rule salt : ℕ) where
  -- an accepted clear: the room's register is cleared
  clear_held : room_clear m rule salt (length ws) (length cs) ≡ true → Held (length ws) (length cs) (leaves (room_of h ws cs (Clear m rule salt))) (none_live m rule salt)
  unfolding room_of run run_live after
  clear_held e =
      let t = three_tests (good_head (new_head m rule salt)) (leb (2 * m) (length ws)) (leb m (length cs)) e in
      let a : 2 * m ≤ length ws = leb-true (2 * m) (length ws) t.1 in
      let b : m ≤ length cs = leb-true m (length cs) t.2 in
      let p : length (take (2 * m) ws) ≡ 2 * m = length-take-le (2 * m) ws a in
      let q : length (take m cs) ≡ m = length-take-le m cs b in
      let v : valid_clear m rule salt (length (take (2 * m) ws)) (length (take m cs)) ≡ true =
      rw (t.0, eq-eqb (length (take (2 * m) ws)) (2 * m) p, eq-eqb (length (take m cs)) m q) in
      let G : History = record {
        before = record { head = h; words = take (2 * m) ws; counts = take m cs };
        slots = m;
        rule = rule;
        salt = salt;
        calls = [];
        valid = v;
      } in
      put_back ws cs m (clear_of h m rule salt (take (2 * m) ws) (take m cs)) (none_live m rule salt) a b (rw (p, q) at (kept G))

  -- a clear that opens has its room
  opens_in_room : open_number (new_head m rule salt) (length (take (2 * m) ws)) (length (take m cs)) ≡ 0 → room_clear m rule salt (length ws) (length cs) ≡ true
  unfolding open_number
  opens_in_room e = go (good_head (new_head m rule salt)) e
    where
      go : (g : Bool) → cond g (length_number m (length (take (2 * m) ws)) (length (take m cs))) 1 ≡ 0 →
          cond g (cond (leb (2 * m) (length ws)) (leb m (length cs)) false) false ≡ true
      go true f =
          let n = good_lengths m (length (take (2 * m) ws)) (length (take m cs)) f in
          rw (le-leb (2 * m) (length ws) (omega (arith, n.0, length-take (2 * m) ws)), le-leb m (length cs) (omega (arith, n.1, length-take m cs)))
      go false f = absurd (omega (arith, f))

  -- a refused clear leaves the room as it was
  clear_kept_out : room_clear m rule salt (length ws) (length cs) ≡ false → leaves (room_of h ws cs (Clear m rule salt)) ≡ record { head = h; words = ws; counts = cs }
  clear_kept_out e =
      ap leaves (clear_refused h ws cs m rule salt _ (λ n. false≢true (sym e ∙ opens_in_room n)) refl)

-- a frame's call on the register in the room
abbrev asked : Room → Frame → Out
asked r f = call_of r.head (take (2 * r.head.slots) r.words) (take r.head.slots r.counts) f

-- every frame keeps the register in the room
frame_held : {w c : ℕ} {r : Room} {l : Live} → Held w c r l → (f : Frame) → Held w c (leaves (room_of r.head r.words r.counts f)) (frame_live w c f l)
unfolding room_of after after_live
frame_held {w} {c} {r} {l} H (Clear m rule salt) = go (room_clear m rule salt w c) refl
  where
    here : room_clear m rule salt w c ≡ room_clear m rule salt (length r.words) (length r.counts)
    here = rw (H.words, H.counts)

    go : (b : Bool) → room_clear m rule salt w c ≡ b → Held w c (leaves (room_of r.head r.words r.counts (Clear m rule salt))) (cond b (none_live m rule salt) l)
    go true e = renamed H.words H.counts (clear_held r.head r.words r.counts m rule salt (sym here ∙ e))
    go false e = subst (λ (q : Room). Held w c q l) (sym (clear_kept_out r.head r.words r.counts m rule salt (sym here ∙ e))) H
frame_held {r = r} H (Store x v) = call_held H (asked r (Store x v)) (store x v) refl
frame_held {r = r} H (Find x) = call_held H (asked r (Find x)) (find x) refl
frame_held {r = r} H (Remove x) = call_held H (asked r (Remove x)) (remove x) refl
frame_held {r = r} H (Change x v) = call_held H (asked r (Change x v)) (change x v) refl
frame_held {r = r} H Check = call_held H (asked r Check) check refl

line_held : {w c : ℕ} {r : Room} {l : Live} → Held w c r l → (p : Option Frame) → Held w c (leaves (answered_of r.head r.words r.counts p)) (line_live w c p l)
line_held H (Some f) = frame_held H f
line_held H None = H

lines_held : {w c : ℕ} {r : Room} {l : Live} → Held w c r l → (lines : List (List ℕ)) → Held w c (after_lines lines r) (lines_live w c lines l)
unfolding after_lines lines_live
lines_held H [] = H
lines_held {r = r} H (line ∷ lines) = lines_held {r = leaves (answered_of r.head r.words r.counts (parse_of line))} (line_held H (parse_of line)) lines

pub lines_afresh : (r : Room) (line : List ℕ) (m rule salt : ℕ) (lines : List (List ℕ)) → parse_of line ≡ Some (Clear m rule salt) →
    room_clear m rule salt (length r.words) (length r.counts) ≡ true →
    Afresh (register_in (after_lines (line ∷ lines) r)) (lines_live (length r.words) (length r.counts) lines (none_live m rule salt))
unfolding after_lines
lines_afresh r line m rule salt lines p e =
    subst
    (λ (q : Option Frame). Afresh (register_in (after_lines lines (leaves (answered_of r.head r.words r.counts q)))) (lines_live (length r.words) (length r.counts) lines (none_live m rule salt)))
    (sym p)
    (afresh (lines_held (clear_held r.head r.words r.counts m rule salt e) lines).kept)
