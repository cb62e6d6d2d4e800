-- When a function's own contract is tight: document 01, "How tight each call's statement is". Assumes nothing.
use Rattle.std.specs.Prelude.{ℕ, ◌≡◌, List}
use contract.Lifetimes.{Lfts}
use borrow.Fn.Kinds.{ParamKind, ResultKind, Dens, res_t, Out, ended_of}
use denote.Triple.Clauses.{Lasts, at_exit}

-- any two results, with what stands in the lent slices afterwards (the last values of the `&mut` parameters), that meet a function's contract are equal, whatever the arguments
abbrev pub Determined : {n : ℕ} (ps : List (ParamKind n)) (r : ResultKind n) → Out n ps r → Type 0
Determined {n} ps r contract =
    (κs : Lfts n) (a : Dens κs ps) (z w : (res_t r κs).Denot) (u v : Lasts (ended_of n ps r) κs a)
    → contract κs a z (at_exit (ended_of n ps r) κs a u) → contract κs a w (at_exit (ended_of n ps r) κs a v) → (z ≡ w) × (u ≡ v)
