-- What the two shifts leave, slot by slot. Assumes nothing.
use Rattle.std.specs.Prelude.{ℕ, ◌-◌, ◌≤◌, cond, ◌&&◌, leb, ltb}
use Rattle.arrangement.specs.Table.{Table, rank, onward}
use Rattle.arrangement.specs.Changes.{raised, lowered, prior, next}

-- the records of the slots from a up to before b stand one slot on, count plus 1; no slot lies around the end
unfoldable pub lifted : ℕ → ℕ → Table → Table
lifted a b t i = cond (ltb a i && leb i b) (raised (t (i - 1))) (t i)

-- the k records from s on stand one slot on, count plus 1, cyclically
unfoldable pub shifted_on : ℕ → ℕ → ℕ → Table → Table
shifted_on m s k t i = cond (ltb 0 (rank m s i) && leb (rank m s i) k) (raised (t (prior m i))) (t i)

-- the first l records after s stand one slot back, count minus 1, cyclically
unfoldable pub shifted_back : ℕ → ℕ → ℕ → Table → Table
shifted_back m s l t i = cond (ltb (rank m s i) l) (lowered (t (next m i))) (t i)

-- each of the k records after s has a count of 2 or more
abbrev pub Liftable : ℕ → ℕ → ℕ → Table → Type 0
Liftable m s k t = (i : ℕ) → 1 ≤ i → i ≤ k → 2 ≤ (t (onward m s i)).count
