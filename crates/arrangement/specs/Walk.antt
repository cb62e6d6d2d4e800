-- The walk, as document 01 says it, for the home h of x over a table of m slots. Assumes nothing.
use Rattle.std.specs.Prelude.{ℕ, zero, suc, cond, ◌&&◌, ◌||◌, eqb, ltb}
use Rattle.arrangement.specs.Table.{Cell, Table}
use Rattle.arrangement.specs.Proper.{slot_at}

-- where a walk ends: found or absent at a slot with p, or without an end
pub data End : Type 0 where
  found : ℕ → ℕ → End
  absent : ℕ → ℕ → End
  endless : End

-- what the walk for x does at a slot with p
pub data Turn : Type 0 where
  hit : Turn
  miss : Turn
  on : Turn

-- found where the count is p and the identifier is x; absent where the count is below p, or equals p with an identifier above x; otherwise it goes on
unfoldable pub turn : ℕ → ℕ → Cell → Turn
turn p x c =
    cond (eqb c.count p && eqb c.identifier x) hit
    (cond (ltb c.count p || (eqb c.count p && ltb x c.identifier)) miss on)

abbrev pub end_at : Turn → ℕ → ℕ → End → End
end_at hit i p rest = found i p
end_at miss i p rest = absent i p
end_at on i p rest = rest

-- the walk from p on, over n slots
unfoldable pub walk_from : ℕ → ℕ → ℕ → Table → ℕ → ℕ → End
walk_from m h x t zero p = endless
walk_from m h x t (suc n) p = end_at (turn p x (t (slot_at m h p))) (slot_at m h p) p (walk_from m h x t n (suc p))

-- the walk goes p = 1, 2, .. m
unfoldable pub walk : ℕ → ℕ → ℕ → Table → End
walk m h x t = walk_from m h x t m 1
