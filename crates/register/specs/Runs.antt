-- A store's run and a remove's run with what they must not meet, as one answer each: how far after s the run ends, or none. Assumes nothing.
use Rattle.std.specs.Prelude.{ℕ, cond}
use Rattle.arrangement.specs.Table.{Table}
use Rattle.arrangement.specs.Changes.{First, after, none, first_empty, any_far}

abbrev pub near_by : ℕ → ℕ → Table → First → First
near_by m s t none = none
near_by m s t (after k) = cond (any_far m s t k) none (after k)

-- the first empty slot from s on, unless a record before it has count m - 1 or more
unfoldable pub store_reach : ℕ → ℕ → Table → First
store_reach m s t = near_by m s t (first_empty m s t)
