-- What is kept of a line is its first 37 bytes.
-- The part that is appended is cut to the room, which is what is left of the 37.
use Rattle.std.proofs.Common.{arith, ◌≡◌, ◌∙◌, sym, ap, List, ◌++◌, take, length, ℕ, ◌+◌, min}
use Rattle.std.proofs.lemmas.List.{take_min, length-take}
use Rattle.std.proofs.Math.Seq.{take-append-add}
use Rattle.program.proofs.input.Session.keep.Goals as goal

-- a list filled up from another to 37
filled : (xs ys all : List ℕ) (room : ℕ) → room + length xs ≡ 37 → all ≡ xs ++ take (min room (length ys)) ys → all ≡ take 37 (xs ++ ys)
filled xs ys all room fits is =
    let whole : length xs + room ≡ 37 = omega (arith, fits) in
    is ∙ ap (λ zs. xs ++ zs) (take_min room ys) ∙ sym (take-append-add xs ys room) ∙ ap (λ n. take n (xs ++ ys)) whole

pub returns : goal.returns
returns c = ap (λ xs. record c.args.self.now { line = record { items = xs } }) (filled _ _ _ _ c.remaining_capacity.ensures (grind (arith, length-take)))
