-- check's judgement of a slot, by its tests, and its count of the occupied slots. Assumes nothing.
use Prim.Native.Nat.{ℕ, suc, ◌+◌, ◌-◌, ◌%◌, ◌≤◌, ◌<◌}
use mathlib.Core.Path.{◌≡◌, refl, ap, ◌∙◌}
use mathlib.Core.Bool.{Bool, true, false, cond, not}
use mathlib.Core.List.{List, [], ◌∷◌}
use native.Mathlib.Omega.{arith}
use lib.Dec.{eqb}
use lib.ListN.{length, get_or}
use Rattle.std.specs.Prelude.{count_by}
use Rattle.std.proofs.lemmas.List.Sums.{sum_by-cons}
use borrow.Author.Tests.{eq-eqb, ne_eqb, le-leb, lt-leb}
use Rattle.arrangement.specs.Table.{Table, onward, occupied_from}
use Rattle.arrangement.specs.Proper.{slot_at}
use Rattle.arrangement.specs.Changes.{prior}
use Rattle.register.specs.declared.head.Head.{Head}
use Rattle.register.specs.Homes.{home_of}
use Rattle.register.specs.Check.{is_empty_good, behind_good, is_slot_good}

-- a record's place, as the code finds it
pub place_on : (m home c : ℕ) → 0 < c → onward m home (c - 1) ≡ slot_at m home c
place_on m home c some = ap (λ (k : ℕ). k % m) (omega arith)

-- one slot, by its tests
module _ (h : Head) (t : Table) (i : ℕ) where
  pub slot_empty : (t i).count ≡ 0 → is_slot_good h t i ≡ is_empty_good (t i).identifier (t i).entry
  unfolding is_slot_good
  slot_empty e = rw (eq-eqb _ _ e)

  pub slot_far : ((t i).count ≡ 0 → ⊥) → h.slots - 1 < (t i).count → is_slot_good h t i ≡ false
  unfolding is_slot_good
  slot_far n l = rw (ne_eqb _ _ n, lt-leb _ _ l)

  pub slot_away : ((t i).count ≡ 0 → ⊥) → (t i).count ≤ h.slots - 1 → (slot_at h.slots (home_of h (t i).identifier) (t i).count ≡ i → ⊥) → is_slot_good h t i ≡ false
  unfolding is_slot_good
  slot_away n l a = rw (ne_eqb _ _ n, le-leb _ _ l, ne_eqb _ _ a)

  pub slot_behind : ((t i).count ≡ 0 → ⊥) → (t i).count ≤ h.slots - 1 → slot_at h.slots (home_of h (t i).identifier) (t i).count ≡ i → is_slot_good h t i ≡ behind_good (t (prior h.slots i)).count (t (prior h.slots i)).identifier (t i).count (t i).identifier
  unfolding is_slot_good
  slot_behind n l e = rw (ne_eqb _ _ n, le-leb _ _ l, eq-eqb _ _ e)

-- the counts that are not 0 are as many as the occupied slots, where they are those slots' counts
pub occupied_counts : (t : Table) (cs : List ℕ) (i : ℕ) → ((k : ℕ) → (t (i + k)).count ≡ get_or cs k 0) → count_by (λ c. not (eqb c 0)) cs ≡ occupied_from t i (length cs)
unfolding occupied_from
occupied_counts t [] i h = refl
occupied_counts t (c ∷ cs) i h = sum_by-cons (λ c. cond (not (eqb c 0)) 1 0) c cs ∙ rw first (go (eqb c 0) (occupied_counts t cs (suc i) (λ k. ap (λ (n : ℕ). (t n).count) (omega arith) ∙ h (suc k))))
  where
    first : (t i).count ≡ c
    first = ap (λ (n : ℕ). (t n).count) (omega arith) ∙ h 0

    go : (b : Bool) {n m : ℕ} → n ≡ m → cond (not b) 1 0 + n ≡ cond b m (suc m)
    go true e = omega arith
    go false e = omega arith
