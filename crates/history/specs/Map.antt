-- The records of a table as a partial function from identifiers to entries: document 01, "The arrangement" and demand 2. Assumes nothing.
use Rattle.std.specs.Prelude.{ℕ, cond, List, [], ◌∷◌, eqb}
use Rattle.arrangement.specs.Table.{Table, Record, records_of}

-- what an identifier maps to: the entry of a live one, or nothing
pub data Found : Type 0 where
  live : ℕ → Found
  missing : Found

-- the entry of x among records
unfoldable pub lookup : ℕ → List Record → Found
lookup x [] = missing
lookup x (r ∷ rs) = let rest = lookup x rs in cond (eqb r.identifier x) (live r.entry) rest

-- the map of a table of m slots, read off its slots
abbrev pub map_of : ℕ → Table → ℕ → Found
map_of m t x = lookup x (records_of m t)

-- the map f but for x, which maps to e
abbrev pub with : ℕ → Found → (ℕ → Found) → ℕ → Found
with x e f y = cond (eqb x y) e (f y)
