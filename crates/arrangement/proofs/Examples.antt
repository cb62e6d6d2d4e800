-- Proper arrangements of document 01, computed, and for each single rule a table that is not proper because of it.
use Prim.Native.Nat.{ℕ, zero, suc, ◌+◌, ◌%◌, ◌≤◌, ◌<◌}
use native.Mathlib.Nat.{mod-lt}
use native.Mathlib.Decide.{ℕ_discrete}
use native.Mathlib.Omega.{arith}
use mathlib.Core.Path.{◌≡◌, refl, ap, subst}
use mathlib.Core.List.Memᴰ
use mathlib.Core.List.{List, [], ◌∷◌}
use lib.ListN.{get_or}
use Rattle.arrangement.specs.Table.{Cell, Table, Record, Distinct, empty, records_from, records_of}
use Rattle.arrangement.specs.Proper.{Space, Proper, LocalAt, Passed}
use Rattle.arrangement.specs.Walk.{walk, walk_from, turn, absent}
use Rattle.arrangement.specs.Changes.{after, first_from, first_empty, first_settled, stored, removed}
use Rattle.arrangement.specs.Afresh.{arranged, placed}
use Rattle.arrangement.proofs.Accepted.{proper_of_local}

-- eight slots, the home by the remainder
abbrev eight : Space
eight = record { size = 8; home = λ x. x % 8; home_in = λ x. mod-lt x (omega arith) }

abbrev cell : ℕ → ℕ → Cell
cell c x = record { count = c; identifier = x; entry = 0 }

abbrev named : ℕ → Record
named x = record { identifier = x; entry = 0 }

abbrev table : List Cell → Table
table cells i = get_or cells i empty

-- n slots from slot i on
abbrev cells : Table → ℕ → ℕ → List Cell
cells t i zero = []
cells t i (suc n) = t i ∷ cells t (suc i) n

-- a fact for each of n numbers from i on
abbrev Each : (ℕ → Type 0) → ℕ → ℕ → Type 0
Each A i zero = Unit {0}
Each A i (suc n) = A i × Each A (suc i) n

each_of : (A : ℕ → Type 0) (i n : ℕ) → Each A i n → (k : ℕ) → i ≤ k → k < i + n → A k
each_of A i zero all k l h = absurd (omega arith)
each_of A i (suc n) all k l h = go (ℕ_discrete i k) (λ g. each_of A (suc i) n all.1 k g (omega arith))
  where
    go : Dec (i ≡ k) → (i < k → A k) → A k
    go (yes e) below = subst A e all.0
    go (no n) below = below (omega arith)

-- eight slots that agree with those before them, the fourth one free
eight_proper : (t : Table) → Each (λ i. LocalAt eight t ((i + 7) % 8) i) 0 8 → (t 4).count ≡ 0 → Proper eight (records_of 8 t) t
eight_proper t all free = proper_of_local eight t (λ i l. each_of (λ i. LocalAt eight t ((i + 7) % 8) i) 0 8 all i (omega arith) (omega arith)) (4, omega arith, free)

-- P2: 07, 0f, 08, 10 in slots 7, 0, 1, 2 with counts 1, 2, 2, 3
abbrev p2 : Table
p2 = table (cell 2 0x0f ∷ cell 2 0x08 ∷ cell 3 0x10 ∷ empty ∷ empty ∷ empty ∷ empty ∷ cell 1 0x07 ∷ [])

pub p2_proper : Proper eight (named 0x0f ∷ named 0x08 ∷ named 0x10 ∷ named 0x07 ∷ []) p2
unfolding records_of records_from
p2_proper = eight_proper p2 (omega arith, (omega arith, (omega arith, (omega arith, (omega arith, (omega arith, (omega arith, (omega arith, tt)))))))) refl

-- in two orders
pub p2_afresh : cells (arranged eight (named 0x10 ∷ named 0x08 ∷ named 0x0f ∷ named 0x07 ∷ [])) 0 8 ≡ cells p2 0 8
unfolding arranged placed walk walk_from turn first_empty first_from stored
p2_afresh = refl

pub p2_otherwise : cells (arranged eight (named 0x07 ∷ named 0x10 ∷ named 0x0f ∷ named 0x08 ∷ [])) 0 8 ≡ cells p2 0 8
unfolding arranged placed walk walk_from turn first_empty first_from stored
p2_otherwise = refl

-- P3: 01 stored in P2, in slot 3 with count 3
abbrev p3 : Table
p3 = table (cell 2 0x0f ∷ cell 2 0x08 ∷ cell 3 0x10 ∷ cell 3 0x01 ∷ empty ∷ empty ∷ empty ∷ cell 1 0x07 ∷ [])

pub p3_stored : (walk 8 1 1 p2 ≡ absent 3 3) × (first_empty 8 3 p2 ≡ after 0) × (cells (stored 8 3 0 (cell 3 0x01) p2) 0 8 ≡ cells p3 0 8)
unfolding walk walk_from turn first_empty first_from stored
p3_stored = (refl, refl, refl)

-- P4: 07 removed from P3
abbrev p4 : Table
p4 = table (cell 1 0x08 ∷ cell 2 0x10 ∷ cell 2 0x01 ∷ empty ∷ empty ∷ empty ∷ empty ∷ cell 1 0x0f ∷ [])

pub p4_removed : (first_settled 8 7 p3 ≡ after 5) × (cells (removed 8 7 4 p3) 0 8 ≡ cells p4 0 8)
unfolding first_settled first_from removed
p4_removed = (refl, refl)

pub p4_proper : Proper eight (named 0x08 ∷ named 0x10 ∷ named 0x01 ∷ named 0x0f ∷ []) p4
unfolding records_of records_from
p4_proper = eight_proper p4 (omega arith, (omega arith, (omega arith, (omega arith, (omega arith, (omega arith, (omega arith, (omega arith, tt)))))))) refl

-- not proper, each because of one rule

passed : (t : Table) (i p : ℕ) → i < 8 → 1 ≤ p → p < (t i).count → Passed eight t i p
passed t i p l f g = record { within = l; from = f; below = g }

-- two records of one identifier
pub not_distinct : Proper eight (named 8 ∷ named 8 ∷ []) (table (cell 1 8 ∷ [])) → ⊥
unfolding Distinct
not_distinct P = P.distinct.0 (named 8) (Memᴰ.head refl) refl

-- as many records as slots
pub too_many : Proper eight (named 0 ∷ named 1 ∷ named 2 ∷ named 3 ∷ named 4 ∷ named 5 ∷ named 6 ∷ named 7 ∷ []) (table (cell 1 0 ∷ cell 1 1 ∷ cell 1 2 ∷ cell 1 3 ∷ cell 1 4 ∷ cell 1 5 ∷ cell 1 6 ∷ cell 1 7 ∷ [])) → ⊥
too_many P = omega (arith, P.few)

-- a record that stands nowhere
pub nowhere : Proper eight (named 8 ∷ []) (table []) → ⊥
nowhere P = omega (arith, (P.stands (named 8) (Memᴰ.head refl)).2)

-- a record in two slots
pub twice : Proper eight (named 8 ∷ []) (table (cell 1 8 ∷ cell 2 8 ∷ [])) → ⊥
twice P = omega (arith, P.once 0 1 (omega arith) (omega arith) (omega arith) (omega arith) refl)

-- a count that does not say how far from home
pub miscounted : Proper eight (named 8 ∷ []) (table (empty ∷ cell 1 8 ∷ [])) → ⊥
miscounted P = omega (arith, P.far 1 (omega arith) (omega arith))

-- a slot that should be empty
pub left_over : Proper eight (named 8 ∷ []) (table (cell 1 8 ∷ cell 1 1 ∷ [])) → ⊥
left_over P = omega (arith, ap (λ (r : Record). r.identifier) (Memᴰ.eq_of_singleton (P.others 1 (omega arith) (omega arith))))

-- an empty slot passed
pub over_a_gap : Proper eight (named 8 ∷ []) (table (empty ∷ cell 2 8 ∷ [])) → ⊥
over_a_gap P = omega (arith, P.no_gap 1 1 (passed _ 1 1 (omega arith) (omega arith) (omega arith)))

-- a smaller count passed
pub ahead_of_its_turn : Proper eight (named 8 ∷ named 1 ∷ named 0x10 ∷ []) (table (cell 1 8 ∷ cell 1 1 ∷ cell 3 0x10 ∷ [])) → ⊥
ahead_of_its_turn P = omega (arith, (P.wins 2 2 (passed _ 2 2 (omega arith) (omega arith) (omega arith))).ge)

-- the same count with a larger identifier passed
pub tie_lost : Proper eight (named 0x10 ∷ named 8 ∷ []) (table (cell 1 0x10 ∷ cell 2 8 ∷ [])) → ⊥
tie_lost P = omega (arith, (P.wins 1 1 (passed _ 1 1 (omega arith) (omega arith) (omega arith))).tie (omega arith))
