-- The number of records that changed slot: document 01, "The walk and the changes". Assumes nothing.
use Rattle.std.specs.Prelude.{ℕ, zero, suc, Bool, true, false, cond, eqb}
use Rattle.arrangement.specs.Table.{Cell, Table}

-- the record in the first cell does not stand in the second
abbrev pub leaves : Cell → Cell → Bool
leaves c d = cond (eqb c.count 0) false (cond (eqb d.count 0) true (cond (eqb d.identifier c.identifier) false true))

-- how many of n numbers from i on pass a test
unfoldable pub count_if : (ℕ → Bool) → ℕ → ℕ → ℕ
count_if test i zero = 0
count_if test i (suc n) = let rest = count_if test (suc i) n in cond (test i) (suc rest) rest

-- how many of the records of t stand in another slot in u, where u has them all
abbrev pub moved_to : ℕ → Table → Table → ℕ
moved_to m t u = count_if (λ i. leaves (t i) (u i)) 0 m
