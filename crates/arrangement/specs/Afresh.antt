-- The arrangement worked out afresh from the records: each is stored in turn into a cleared table. Assumes nothing.
use Rattle.std.specs.Prelude.{ℕ, List, [], ◌∷◌}
use Rattle.arrangement.specs.Table.{Table, Record, empty}
use Rattle.arrangement.specs.Proper.{Space}
use Rattle.arrangement.specs.Walk.{End, found, absent, endless, walk}
use Rattle.arrangement.specs.Changes.{First, after, none, first_empty, stored}

-- a cleared table
abbrev pub cleared : Table
cleared i = empty

abbrev pub placed_at : ℕ → ℕ → ℕ → Record → First → Table → Table
placed_at m s p r (after k) t = stored m s k (record { count = p; identifier = r.identifier; entry = r.entry }) t
placed_at m s p r none t = t

abbrev pub placed_by : ℕ → Record → End → Table → Table
placed_by m r (found s p) t = t
placed_by m r (absent s p) t = placed_at m s p r (first_empty m s t) t
placed_by m r endless t = t

-- the table with the record stored by the walk and the shift
unfoldable pub placed : Space → Record → Table → Table
placed s r t = placed_by s.size r (walk s.size (s.home r.identifier) r.identifier t) t

-- the records, last one first, stored into a cleared table
unfoldable pub arranged : Space → List Record → Table
arranged s [] = cleared
arranged s (r ∷ rs) = placed s r (arranged s rs)
