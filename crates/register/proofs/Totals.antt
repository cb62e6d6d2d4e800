-- The greatest count and the stored total as the code finds them, by std's words for a chain. Assumes nothing.
use Rattle.std.specs.Prelude.{ℕ, ◌≤◌, ◌≡◌, max, List, [], ◌∷◌, length, sum, fold, Option, Some, None, unwrap_or, option_map}
use Rattle.std.specs.List.{reduce}
use Rattle.std.proofs.Common.{refl, ap, ◌∙◌, arith}
use Rattle.std.proofs.lemmas.List.Sums.{sum_by-cons}
use Rattle.register.specs.Census.{greatest_of, stored_of}
use Rattle.register.specs.Lent.{Lent}

greater_lem : (cs : List ℕ) (c : ℕ) → fold max c cs ≡ max c (greatest_of cs)
unfolding greatest_of
greater_lem [] c = omega arith
greater_lem (d ∷ cs) c = omega (arith, greater_lem cs (max c d))

as_option : (r : Option ℕ) → unwrap_or r 0 ≡ unwrap_or (option_map (λ x. x) r) 0
as_option None = refl
as_option (Some c) = refl

of_reduce : (cs : List ℕ) → unwrap_or (reduce max cs) 0 ≡ greatest_of cs
unfolding greatest_of
of_reduce [] = refl
of_reduce (c ∷ cs) = greater_lem cs c

pub greatest_picked : (cs : List ℕ) (r : Option ℕ) → option_map (λ x. x) r ≡ reduce max cs → unwrap_or r 0 ≡ greatest_of cs
greatest_picked cs r e = as_option r ∙ ap (λ o. unwrap_or o 0) e ∙ of_reduce cs

pub stored_sum : (cs : List ℕ) → sum cs ≡ stored_of cs
unfolding stored_of
stored_sum [] = refl
stored_sum (c ∷ cs) = omega (arith, sum_by-cons (λ x. x) c cs, stored_sum cs)

-- so few counts that no sum of them overflows
pub few_counts : {m : ℕ} {ws cs : List ℕ} → Lent m ws cs → length cs ≤ 32768
few_counts l = omega (arith, l.counts, l.most)
