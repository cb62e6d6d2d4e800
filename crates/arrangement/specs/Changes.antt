-- The changes, as document 01 says them: what each slot holds after a store, a remove, a change. Assumes nothing.
use Rattle.std.specs.Prelude.{ℕ, zero, suc, ◌+◌, ◌-◌, ◌%◌, Bool, false, cond, ◌||◌, eqb, ltb, leb}
use Rattle.arrangement.specs.Table.{Cell, Table, empty, onward, rank}

-- how many slots after s the first slot is that passes a test, or none does
pub data First : Type 0 where
  after : ℕ → First
  none : First

-- the first of n slots that passes the test, from k slots after s on
unfoldable pub first_from : (Cell → Bool) → ℕ → ℕ → Table → ℕ → ℕ → First
first_from test m s t zero k = none
first_from test m s t (suc n) k = cond (test (t (onward m s k))) (after k) (first_from test m s t n (suc k))

-- an empty slot
abbrev pub is_empty : Cell → Bool
is_empty c = eqb c.count 0

-- a slot whose count is 0 or 1: no record in it has left its home
abbrev pub is_settled : Cell → Bool
is_settled c = leb c.count 1

-- e, the first empty slot from s on, cyclically, as how far after s it is
unfoldable pub first_empty : ℕ → ℕ → Table → First
first_empty m s t = first_from is_empty m s t m 0

-- the first slot of those following s whose count is 0 or 1, as how far after s it is
unfoldable pub first_settled : ℕ → ℕ → Table → First
first_settled m s t = first_from is_settled m s t (m - 1) 1

-- one slot on, count plus 1
abbrev pub raised : Cell → Cell
raised c = record { count = c.count + 1; identifier = c.identifier; entry = c.entry }

-- one slot back, count minus 1
abbrev pub lowered : Cell → Cell
lowered c = record { count = c.count - 1; identifier = c.identifier; entry = c.entry }

-- the slot before slot i, and the one after it
abbrev pub prior : ℕ → ℕ → ℕ
prior m i = (i + (m - 1)) % m

abbrev pub next : ℕ → ℕ → ℕ
next m i = (i + 1) % m

-- store: e lies k slots after s; records in s up to before e move one slot on, count plus 1; the new one takes s; no other slot is written
unfoldable pub stored : ℕ → ℕ → ℕ → Cell → Table → Table
stored m s k new t i =
    cond (eqb (rank m s i) 0) new
    (cond (leb (rank m s i) k) (raised (t (prior m i))) (t i))

-- remove: the k records that follow s move one slot back, count minus 1; the slot last vacated is zeroed; no other slot is written
unfoldable pub removed : ℕ → ℕ → ℕ → Table → Table
removed m s k t i =
    cond (ltb (rank m s i) k) (lowered (t (next m i)))
    (cond (eqb (rank m s i) k) empty (t i))

-- change: one word of slot s
unfoldable pub changed : ℕ → ℕ → Table → Table
changed s entry t i = cond (eqb i s) (record { count = (t i).count; identifier = (t i).identifier; entry = entry }) (t i)

-- a record in k slots from s on has count m - 1 or more
unfoldable pub any_far : ℕ → ℕ → Table → ℕ → Bool
any_far m s t zero = false
any_far m s t (suc k) = any_far m s t k || leb (m - 1) (t (onward m s k)).count
