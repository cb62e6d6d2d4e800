-- A buffer filled from its start, field by field: what is done stands before the rest of the buffer as it was.
-- By one equation a field. Assumes nothing.
use Prim.Native.Nat.{ℕ, ◌+◌, ◌≤◌}
use mathlib.Core.Path.{◌≡◌, refl, sym, ◌∙◌, ap}
use mathlib.Core.List.{List, [], ◌∷◌, ◌++◌, append_assoc}
use native.Mathlib.Omega.{arith}
use lib.ListN.{length, take, drop, length-append, length-drop}
use lib.Seq.{take_at, drop-drop, drop-append-add}
use borrow.Author.Tests.{le-leb, le-ltb}
use Rattle.register.specs.declared.answer.Answer.{Answer}
use Rattle.digits.specs.Digits.{digits_of, write_of, ended}
use Rattle.digits.proofs.Filling.{length_digits}
use Rattle.frames.specs.Printing.{line_of, print_of}

-- the buffer b, of which the first bytes were written
record Done (i : ℕ) (done b s : List ℕ) : Type 0 where
  count : length done ≡ i
  is : s ≡ done ++ drop i b

length_ended : (w n e : ℕ) → length (ended w n e) ≡ w + 1
length_ended w n e = length-append (digits_of w n) (e ∷ []) ∙ (rw (length_digits w n))

field_done : (i w n e : ℕ) (done b s : List ℕ) → Done i done b s → i + (w + 1) ≤ length b → Done (i + (w + 1)) (done ++ ended w n e) b (write_of s i w n e)
unfolding write_of
field_done i w n e done b s d h =
    let c : length (ended w n e) ≡ w + 1 = length_ended w n e in
    let l : length s ≡ length b = ap length d.is ∙ length-append done (drop i b) ∙ (rw (d.count, length-drop i b) (omega arith)) in
    let front : take i s ≡ done = (rw d.is) ∙ take_at done (drop i b) i d.count in
    let rest : drop (i + (w + 1)) s ≡ drop (i + (w + 1)) b =
    (rw (d.is, ← d.count)) ∙ drop-append-add done (drop (length done) b) (w + 1) ∙ drop-drop (w + 1) (length done) b ∙ (rw d.count) in
    let room : i + (w + 1) ≤ length s = rw l h in
    record {
      count = length-append done (ended w n e) ∙ (rw (d.count, c));
      is = rw (le-leb (i + (w + 1)) (length s) room, front, rest) (sym (append_assoc done (ended w n e) (drop (i + (w + 1)) b)));
    }

-- the six fields of an answer, each written behind what is done
pub six_fields : (x : Answer) (b : List ℕ) → 40 ≤ length b →
    write_of (write_of (write_of (write_of (write_of (write_of b 0 2 x.number 32) 3 4 x.slot 32) 8 16 x.entry 32) 25 4 x.probes 32) 30 4 x.moved 32) 35 4 x.head.live 10 ≡ print_of x b
unfolding print_of line_of
six_fields x b h =
    let a = field_done 0 2 x.number 32 [] b b (record { count = refl; is = refl }) (omega arith) in
    let c = field_done 3 4 x.slot 32 _ b _ a (omega arith) in
    let d = field_done 8 16 x.entry 32 _ b _ c (omega arith) in
    let e = field_done 25 4 x.probes 32 _ b _ d (omega arith) in
    let f = field_done 30 4 x.moved 32 _ b _ e (omega arith) in
    let g = field_done 35 4 x.head.live 10 _ b _ f (omega arith) in
    g.is ∙ (rw (le-ltb (length b) 40 h) (simp append_assoc))
