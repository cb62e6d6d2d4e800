-- Request One: an absent answer says where the walk ended, and a store of the identifier that comes next is done there.
-- By demand 2 the slots and probes of both calls are the end of one walk; on any input that end says which slot it is.
use Prim.Native.Nat.{ℕ, ◌*◌, ◌<◌}
use native.Mathlib.Omega.{arith}
use mathlib.Core.Path.{◌≡◌, refl, sym, ap, ◌∙◌, subst}
use mathlib.Core.Bool.{Bool, true, false, cond}
use mathlib.Core.List.Memᴰ
use mathlib.Core.List.{List, []}
use lib.ListN.{length, replicate}
use lib.Dec.{eqb}
use Rattle.arrangement.specs.Proper.{slot_at}
use Rattle.arrangement.specs.Walk.{End, found, absent, endless}
use Rattle.arrangement.specs.Changes.{First, after, none, first_settled}
use Rattle.arrangement.proofs.Cycle.{slot_first}
use Rattle.arrangement.proofs.Walk.{absent_at, absent_in}
use Rattle.arrangement.proofs.Bounds.{absent_le}
use Rattle.register.specs.declared.head.Head.{Head}
use Rattle.register.specs.declared.answer.Answer.{Answer}
use Rattle.register.specs.Head.{most_live_of, good_head}
use Rattle.register.specs.Homes.{home_of, home_below, space_of}
use Rattle.register.specs.Slices.{table_of}
use Rattle.register.specs.Answers.{Out, out, refusal, absent_answer, length_number, open_number}
use Rattle.register.specs.Clear.{new_head}
use Rattle.register.specs.Find.{walk_of, find_by, find_of}
use Rattle.register.specs.Remove.{remove_run, remove_by, remove_of}
use Rattle.register.specs.Change.{change_by, change_of}
use Rattle.register.proofs.Opened.{opened_good, good_head_lem}
use Rattle.history.specs.Map.{missing}
use Rattle.history.specs.Mapped.{Accepted, the_map, Untouched, Walked, Version, cited, Mapped}
use Rattle.history.specs.Absent.{AsSaid, stored_next, SaysWhere, EndsAt, AllEndAt, RemoveCleared}
use Rattle.history.proofs.Cases.{opened, tested}
use Rattle.history.proofs.Holding.{cleared_holding, fresh_missed, opens_of, remove_by_lem}
use Rattle.history.proofs.Mapped.{mapped}

-- what is followed by a store, for any version that meets demand 2

module _ (W : Version) (M : Mapped W) where
  module _ (h : Head) (ws cs : List ℕ) (A : Accepted h ws cs) (room : h.live < most_live_of h) (x v : ℕ) where
    -- the call left the register as it was, and the walk that missed x is the one by which the store goes
    stored_as_said : (o : Out) → Untouched h ws cs o → Walked h ws cs x o.answer → the_map h ws cs x ≡ missing → o.answer.number ≡ 5
        → AsSaid o.answer (stored_next W o x v)
    stored_as_said o u w m five =
        let same : (W.store h ws cs x v).answer ≡ stored_next W o x v = sym (λ i. (W.store (u.head i) (u.words i) (u.counts i) x v).answer) in
        let s = M.stores h ws cs A x v in
        let done = s.done.1 (m, room) in
        let p = w.missed_walk five in
        let q = s.done_walk done in
        subst (λ (a : Answer). AsSaid o.answer a) same (record { done = done; slot = cc; probes = cc })

  pub says_where : SaysWhere W
  says_where =
      record {
        finds = λ h ws cs A room x v five.
            let a = M.finds h ws cs A x in
            stored_as_said h ws cs A room x v _ (record { head = a.head; words = refl; counts = refl }) a.walked (a.missed.0 five) five;
        removes = λ h ws cs A room x v five.
            let o = M.removes h ws cs A x in
            stored_as_said h ws cs A room x v _ (o.refused (λ z. omega arith)) o.walked (o.missed.0 five) five;
        changes = λ h ws cs A room x e v five.
            let o = M.changes h ws cs A x e in
            stored_as_said h ws cs A room x v _ (o.refused (λ z. omega arith)) o.walked (o.missed.0 five) five;
      }

-- the calls proved are such a version
pub calls_say_where : SaysWhere cited
calls_say_where = says_where cited mapped

-- on every input

opening_not_five : (h : Head) (w c : ℕ) → open_number h w c ≡ 5 → ⊥
unfolding open_number length_number
opening_not_five h w c = go (good_head h) (eqb w (2 * h.slots)) (eqb c h.slots)
  where
    go : (g a b : Bool) → ◌≡◌ {A = ℕ} (cond g (cond a (cond b 0 2) 2) 1) 5 → ⊥
    go true true true e = omega arith
    go true true false e = omega arith
    go true false b e = omega arith
    go false a b e = omega arith

module _ (h : Head) (ws cs : List ℕ) (x : ℕ) where
  -- any other number says nothing of a slot
  no_end : (a : Answer) → (a.number ≡ 5 → ⊥) → EndsAt h ws cs x a
  no_end a n = record { walk = λ z. absurd (n z); slot = λ z. absurd (n z); below = λ z. absurd (n z) }

  six : EndsAt h ws cs x (refusal 6 h)
  six = no_end _ (λ z. omega arith)

  absent_end : open_number h (length ws) (length cs) ≡ 0 → {i p : ℕ} → walk_of h (table_of ws cs) x ≡ absent i p → EndsAt h ws cs x (absent_answer h i p)
  absent_end opens e =
      let g = opened_good h (length ws) (length cs) opens in
      record {
        walk = λ z. e;
        slot = λ z. (absent_at h.slots (home_of h x) x (table_of ws cs) e).slot;
        below = λ z. absent_in (space_of h (omega (arith, g.least))) (table_of ws cs) x e;
      }

  -- past the opening, which never gives 5
  opened_end : (o : Out) → (open_number h (length ws) (length cs) ≡ 0 → EndsAt h ws cs x o.answer)
      → let n = open_number h (length ws) (length cs) in EndsAt h ws cs x (cond (eqb n 0) o (out (refusal n h) ws cs)).answer
  opened_end o rest =
      opened (λ (u : Out). EndsAt h ws cs x u.answer) (open_number h (length ws) (length cs)) rest (λ z. no_end _ (opening_not_five h (length ws) (length cs)))

  find_ends : EndsAt h ws cs x (find_of h ws cs x)
  unfolding find_of
  find_ends =
      opened (EndsAt h ws cs x) (open_number h (length ws) (length cs)) (λ opens. by_end opens (walk_of h (table_of ws cs) x) refl)
      (λ z. no_end _ (opening_not_five h (length ws) (length cs)))
    where
      by_end : open_number h (length ws) (length cs) ≡ 0 → (e : End) → walk_of h (table_of ws cs) x ≡ e → EndsAt h ws cs x (find_by h (table_of ws cs) e)
      by_end opens (found i p) w = no_end _ (λ z. omega arith)
      by_end opens (absent i p) w = absent_end opens w
      by_end opens endless w = six

  remove_ends : EndsAt h ws cs x (remove_of h ws cs x).answer
  unfolding remove_of
  remove_ends = opened_end _ (λ opens. by_end opens (walk_of h (table_of ws cs) x) refl)
    where
      by_run : (s p : ℕ) (f : First) → EndsAt h ws cs x (remove_run h ws cs s p f).answer
      by_run s p none = six
      by_run s p (after k) = no_end _ (λ z. omega arith)

      by_end : open_number h (length ws) (length cs) ≡ 0 → (e : End) → walk_of h (table_of ws cs) x ≡ e → EndsAt h ws cs x (remove_by h ws cs e).answer
      by_end opens (found s p) w = tested (λ (u : Out). EndsAt h ws cs x u.answer) (eqb h.live 0) six (by_run s p (first_settled h.slots s (table_of ws cs)))
      by_end opens (absent i p) w = absent_end opens w
      by_end opens endless w = six

  change_ends : (v : ℕ) → EndsAt h ws cs x (change_of h ws cs x v).answer
  unfolding change_of
  change_ends v = opened_end _ (λ opens. by_end opens (walk_of h (table_of ws cs) x) refl)
    where
      by_end : open_number h (length ws) (length cs) ≡ 0 → (e : End) → walk_of h (table_of ws cs) x ≡ e → EndsAt h ws cs x (change_by h ws cs v e).answer
      by_end opens (found i p) w = no_end _ (λ z. omega arith)
      by_end opens (absent i p) w = absent_end opens w
      by_end opens endless w = six

pub all_end_at : AllEndAt
all_end_at = record { find = find_ends; remove = remove_ends; change = change_ends }

-- in a cleared register the first probe decides, at the home
pub remove_cleared : RemoveCleared
remove_cleared m rule salt good x =
    let h = new_head m rule salt in
    let H = cleared_holding m rule salt (2 * m) m (opens_of h (2 * m) m (good_head_lem h good) refl refl) in
    let w = fresh_missed H (λ r a. absurd (Memᴰ.not-nil a)) in
    let at = absent_at m (home_of h x) x (table_of (replicate (2 * m) 0) (replicate m 0)) w.2 in
    let few = absent_le (space_of h H.some) [] (table_of (replicate (2 * m) 0) (replicate m 0)) H.proper x w.0 w.1 w.2 in
    let p : w.1 ≡ 1 = omega (arith, at.from, few) in
    let j : w.0 ≡ home_of h x = at.slot ∙ ap (slot_at m (home_of h x)) p ∙ slot_first (home_below h x H.some) in
    remove_by_lem h _ _ H.opens x 0 w.2 ∙ rw (j, p)
