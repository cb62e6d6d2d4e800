-- What each slot holds after a store, a remove, a change, by its rank from the slot of the change; outside the run, what it held.
use Prim.Native.Nat.{ℕ, ◌≤◌, ◌<◌}
use mathlib.Core.Path.{◌≡◌}
use native.Mathlib.Omega.{arith}
use borrow.Author.Tests.{eq-eqb, ne_eqb, le-leb, lt-leb, lt-ltb, le-ltb}
use Rattle.arrangement.specs.Table.{Cell, Table, empty, rank}
use Rattle.arrangement.specs.Changes.{raised, lowered, prior, next, stored, removed, changed}

module _ (m s k : ℕ) (t : Table) (i : ℕ) where
  pub stored_new : (c : Cell) → rank m s i ≡ 0 → stored m s k c t i ≡ c
  unfolding stored
  stored_new c h = rw (eq-eqb (rank m s i) 0 h)

  pub stored_moved : (c : Cell) → 0 < rank m s i → rank m s i ≤ k → stored m s k c t i ≡ raised (t (prior m i))
  unfolding stored
  stored_moved c z h = rw (ne_eqb (rank m s i) 0 (omega arith), le-leb (rank m s i) k h)

  pub stored_same : (c : Cell) → k < rank m s i → stored m s k c t i ≡ t i
  unfolding stored
  stored_same c h = rw (ne_eqb (rank m s i) 0 (omega arith), lt-leb (rank m s i) k h)

  pub removed_moved : rank m s i < k → removed m s k t i ≡ lowered (t (next m i))
  unfolding removed
  removed_moved h = rw (lt-ltb (rank m s i) k h)

  pub removed_last : rank m s i ≡ k → removed m s k t i ≡ empty
  unfolding removed
  removed_last h = rw (le-ltb (rank m s i) k (omega arith), eq-eqb (rank m s i) k h)

  pub removed_same : k < rank m s i → removed m s k t i ≡ t i
  unfolding removed
  removed_same h = rw (le-ltb (rank m s i) k (omega arith), ne_eqb (rank m s i) k (omega arith))

-- the same record with another entry
abbrev pub renewed : ℕ → Cell → Cell
renewed entry c = record { count = c.count; identifier = c.identifier; entry = entry }

module _ (s entry : ℕ) (t : Table) (i : ℕ) where
  pub changed_here : i ≡ s → changed s entry t i ≡ renewed entry (t i)
  unfolding changed
  changed_here h = rw (eq-eqb i s h)

  pub changed_same : (i ≡ s → ⊥) → changed s entry t i ≡ t i
  unfolding changed
  changed_same h = rw (ne_eqb i s h)
