-- The same over buckets of b slots: linear probing over m buckets, of which document 01's slots are the case b = 1. Assumes nothing.
use Rattle.std.specs.Prelude.{ℕ, ◌+◌, ◌*◌, ◌≤◌, ◌<◌, ◌≡◌, List, length}
use Rattle.arrangement.specs.Table.{Cell, Table, Record, record_of, Among, Distinct, empty}
use Rattle.arrangement.specs.Proper.{Space, slot_at, Beats}

-- what stands in each place of each bucket
abbrev pub Buckets : Type 0
Buckets = ℕ → ℕ → Cell

-- place q of bucket j is occupied
abbrev pub Held : Buckets → ℕ → ℕ → Type 0
Held t j q = 0 < (t j q).count

-- place q of bucket j is one of a space with b places a bucket
pub record Place (s : Space) (b j q : ℕ) : Type 0 where
  pub bucket : j < s.size
  pub place : q < b

-- the bucket at p was passed by the record in place q of bucket j
pub record PassedBucket (s : Space) (b : ℕ) (t : Buckets) (j q p : ℕ) : Type 0 where
  pub within : Place s b j q
  pub from : 1 ≤ p
  pub below : p < (t j q).count

-- t is a proper arrangement of the records rs in buckets of b places
pub record ProperBuckets (s : Space) (b : ℕ) (rs : List Record) (t : Buckets) : Type 0 where
  pub distinct : Distinct rs
  pub few : length rs < s.size * b
  -- each record stands in a place
  pub stands : (r : Record) → Among r rs → (j : ℕ) × (q : ℕ) × Place s b j q × Held t j q × (record_of (t j q) ≡ r)
  -- in exactly one
  pub once : (j q k o : ℕ) → Place s b j q → Place s b k o → Held t j q → Held t k o → (t j q).identifier ≡ (t k o).identifier → (j ≡ k) × (q ≡ o)
  -- its count says how far from home
  pub far : (j q : ℕ) → Place s b j q → Held t j q → j ≡ slot_at s.size (s.home (t j q).identifier) (t j q).count
  -- all other places are empty
  pub others : (j q : ℕ) → Place s b j q → Held t j q → Among (record_of (t j q)) rs
  -- no record has passed a place with room
  pub no_gap : (j q p o : ℕ) → PassedBucket s b t j q p → o < b → Held t (slot_at s.size (s.home (t j q).identifier) p) o
  -- at every bucket passed, each occupant's count exceeds the record's count there, or equals it with a smaller identifier
  pub wins : (j q p o : ℕ) → PassedBucket s b t j q p → o < b → let k = slot_at s.size (s.home (t j q).identifier) p in Beats (t k o).count (t k o).identifier p (t j q).identifier

-- inside a bucket: larger counts first, then smaller identifiers, empty slots last
abbrev pub InOrder : Space → ℕ → Buckets → Type 0
InOrder s b t = (j q : ℕ) → Place s b j (q + 1) → 0 < (t j (q + 1)).count → Beats (t j q).count (t j q).identifier (t j (q + 1)).count (t j (q + 1)).identifier

-- the two words of every empty place are 0
abbrev pub CleanPlaces : Space → ℕ → Buckets → Type 0
CleanPlaces s b t = (j q : ℕ) → Place s b j q → (t j q).count ≡ 0 → t j q ≡ empty

-- slots are buckets of one place
abbrev pub one_each : Table → Buckets
one_each t j q = t j
