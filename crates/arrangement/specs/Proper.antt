-- When an arrangement is proper: document 01, "The arrangement", point by point, for any home function. Assumes nothing.
use Rattle.std.specs.Prelude.{ℕ, suc, ◌+◌, ◌-◌, ◌%◌, ◌≤◌, ◌<◌, ◌≡◌, List, length}
use Rattle.arrangement.specs.Table.{Table, Occupied, Record, record_of, Among, Distinct, empty}

-- m slots and a home among them for every identifier
pub record Space : Type 0 where
  pub size : ℕ
  pub home : ℕ → ℕ
  pub home_in : (x : ℕ) → home x < size

-- the slot at p for a home: home + p - 1 modulo m
abbrev pub slot_at : ℕ → ℕ → ℕ → ℕ
slot_at m h p = (h + p - 1) % m

-- count c with identifier x beats count d with identifier y: c exceeds d, or equals it with a smaller identifier
pub record Beats (c x d y : ℕ) : Type 0 where
  pub ge : d ≤ c
  pub tie : c ≤ d → x < y

-- the slot at p was passed by the record in slot i: p lies below its count
pub record Passed (s : Space) (t : Table) (i p : ℕ) : Type 0 where
  pub within : i < s.size
  pub from : 1 ≤ p
  pub below : p < (t i).count

-- t is a proper arrangement of the records rs
pub record Proper (s : Space) (rs : List Record) (t : Table) : Type 0 where
  -- a set of records with distinct identifiers, at most M-1 of them
  pub distinct : Distinct rs
  pub few : length rs < s.size
  -- each record stands in a slot
  pub stands : (r : Record) → Among r rs → (i : ℕ) × (i < s.size) × Occupied t i × (record_of (t i) ≡ r)
  -- in exactly one
  pub once : (i j : ℕ) → i < s.size → j < s.size → Occupied t i → Occupied t j → (t i).identifier ≡ (t j).identifier → i ≡ j
  -- its count says how far from home
  pub far : (i : ℕ) → i < s.size → Occupied t i → i ≡ slot_at s.size (s.home (t i).identifier) (t i).count
  -- all other slots are empty
  pub others : (i : ℕ) → i < s.size → Occupied t i → Among (record_of (t i)) rs
  -- no record has passed an empty slot
  pub no_gap : (i p : ℕ) → Passed s t i p → Occupied t (slot_at s.size (s.home (t i).identifier) p)
  -- at every slot that a record passed, the occupant's count exceeds the count which the record had there, or equals it with a smaller identifier
  pub wins : (i p : ℕ) → Passed s t i p → let j = slot_at s.size (s.home (t i).identifier) p in Beats (t j).count (t j).identifier p (t i).identifier

-- the two words of every empty slot are 0
abbrev pub Clean : ℕ → Table → Type 0
Clean m t = (i : ℕ) → i < m → (t i).count ≡ 0 → t i ≡ empty

-- one slot and the one before it: the count agrees with the home, and a count of 2 or more stands behind one that, raised by one, beats it
pub record LocalAt (s : Space) (t : Table) (before i : ℕ) : Type 0 where
  pub far : Occupied t i → i ≡ slot_at s.size (s.home (t i).identifier) (t i).count
  pub behind : 2 ≤ (t i).count → Beats (suc (t before).count) (t before).identifier (t i).count (t i).identifier

-- every slot agrees with the one before it, cyclically
abbrev pub Local : Space → Table → Type 0
Local s t = (i : ℕ) → i < s.size → LocalAt s t ((i + (s.size - 1)) % s.size) i

-- a slot is free
abbrev pub Room : Space → Table → Type 0
Room s t = (i : ℕ) × (i < s.size) × ((t i).count ≡ 0)
