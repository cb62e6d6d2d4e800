-- A table, its slots in a circle, and the records that stand in it. Assumes nothing.
use Rattle.std.specs.Prelude.{ℕ, zero, suc, ◌+◌, ◌-◌, ◌%◌, ◌<◌, ◌≡◌, cond, ◌↔◌, eqb}
use mathlib.Core.List.{List, [], ◌∷◌, Memᴰ}

-- what stands in a slot: a count of 0 marks an empty slot, any other is the record's probe count
pub record Cell : Type 0 where
  pub count : ℕ
  pub identifier : ℕ
  pub entry : ℕ

-- an empty slot: count 0, both words 0
abbrev pub empty : Cell
empty = record { count = 0; identifier = 0; entry = 0 }

-- a table says what stands in each slot
abbrev pub Table : Type 0
Table = ℕ → Cell

-- slot i is occupied
abbrev pub Occupied : Table → ℕ → Type 0
Occupied t i = 0 < (t i).count

-- the slot k slots on from slot i, cyclically
abbrev pub onward : ℕ → ℕ → ℕ → ℕ
onward m i k = (i + k) % m

-- how many slots i comes after s, cyclically
abbrev pub rank : ℕ → ℕ → ℕ → ℕ
rank m s i = (i + (m - s)) % m

-- a record: an identifier and its entry
pub record Record : Type 0 where
  pub identifier : ℕ
  pub entry : ℕ

-- the record that stands in a slot
abbrev pub record_of : Cell → Record
record_of c = record { identifier = c.identifier; entry = c.entry }

-- r is one of the records rs
abbrev pub Among : Record → List Record → Type 0
Among r rs = Memᴰ r rs

-- x is the identifier of none of the records rs
abbrev pub Fresh : ℕ → List Record → Type 0
Fresh x rs = (r : Record) → Among r rs → r.identifier ≡ x → ⊥

-- records with distinct identifiers
unfoldable pub Distinct : List Record → Type 0
Distinct [] = Unit {0}
Distinct (r ∷ rs) = Fresh r.identifier rs × Distinct rs

-- the records that stand in n slots from slot i on, in slot order
unfoldable pub records_from : Table → ℕ → ℕ → List Record
records_from t i zero = []
records_from t i (suc n) = let rest = records_from t (suc i) n in cond (eqb (t i).count 0) rest (record_of (t i) ∷ rest)

-- the records of a table of m slots
unfoldable pub records_of : ℕ → Table → List Record
records_of m t = records_from t 0 m

-- how many of n slots from slot i on are occupied
unfoldable pub occupied_from : Table → ℕ → ℕ → ℕ
occupied_from t i zero = 0
occupied_from t i (suc n) = let rest = occupied_from t (suc i) n in cond (eqb (t i).count 0) rest (suc rest)

-- the number of occupied slots of a table of m slots
unfoldable pub occupied : ℕ → Table → ℕ
occupied m t = occupied_from t 0 m

-- the records with another identifier than x
unfoldable pub without : ℕ → List Record → List Record
without x [] = []
without x (r ∷ rs) = let rest = without x rs in cond (eqb r.identifier x) rest (r ∷ rest)

-- the same records, in any order
abbrev pub SameRecords : List Record → List Record → Type 0
SameRecords rs qs = (r : Record) → Among r rs ↔ Among r qs
