-- A line that is kept in part is answered from its first 37 bytes.
-- What is kept has bytes, so the line in hand is what keeping the part leaves.
use Rattle.std.proofs.Common.{arith, ◌≡◌, ◌++◌, [], take, ℕ, false, nat_eq, List, ◌∷◌, length, refl, ◌∙◌, sym, ap}
use Rattle.program.specs.Lines.{joined_line}
use Rattle.program.proofs.input.Session.answer.Goals as goal

-- a line of which something is kept
behind : (xs ys : List ℕ) → nat_eq (length xs) 0 ≡ false → joined_line xs ys ≡ take 37 (xs ++ ys)
behind [] ys some = cc
behind (x ∷ xs) ys some = refl

pub returns-clause-answered : goal.returns-clause-answered
returns-clause-answered c =
    let kept = c.args.self.now.line.items in
    let line : c.deref.result.now ≡ joined_line kept c.args.part.now =
    c.deref.ensures.0
    ∙ ap (λ v. v.items) c.take-line.ensures.value
    ∙ ap (λ s. s.line.items) c.keep.ensures
    ∙ sym (behind kept c.args.part.now (grind arith)) in
    rw (← line) (rw c.keep.ensures at c.serve-2.ensures.answered)
