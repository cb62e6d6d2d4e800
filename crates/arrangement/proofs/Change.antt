-- A change of an entry touches no count and no identifier, so everything that rests on those stays.
use Prim.Native.Nat.{ℕ, ◌<◌}
use mathlib.Core.Path.{◌≡◌, refl, sym, ap, ◌∙◌}
use mathlib.Core.Logic.{◌⊎◌, inl, inr}
use native.Mathlib.Decide.{ℕ_discrete}
use native.Mathlib.Omega.{arith}
use Rattle.arrangement.specs.Table.{Table, Record, Occupied, record_of, empty}
use Rattle.arrangement.specs.Proper.{Space, Local, Room, Clean}
use Rattle.arrangement.specs.Changes.{prior, changed}
use Rattle.arrangement.proofs.Local.{Stands, Other, ordered_of_local}
use Rattle.arrangement.proofs.Outside.{changed_here, changed_same}

module _ (j v : ℕ) (t : Table) where
  pub changed_count : (i : ℕ) → (changed j v t i).count ≡ (t i).count
  changed_count i = go (ℕ_discrete i j)
    where
      go : Dec (i ≡ j) → (changed j v t i).count ≡ (t i).count
      go (yes e) = rw (changed_here j v t i e)
      go (no n) = rw (changed_same j v t i n)

  pub changed_identifier : (i : ℕ) → (changed j v t i).identifier ≡ (t i).identifier
  changed_identifier i = go (ℕ_discrete i j)
    where
      go : Dec (i ≡ j) → (changed j v t i).identifier ≡ (t i).identifier
      go (yes e) = rw (changed_here j v t i e)
      go (no n) = rw (changed_same j v t i n)

module _ (s : Space) (t : Table) {j : ℕ} (v : ℕ) (start : j < s.size) (occ : Occupied t j) where
  open s use {size as m}

  pub changed_local : Local s t → Local s (changed j v t)
  changed_local local i h =
      record {
        far = rw (changed_count j v t i, changed_identifier j v t i) (local i h).far;
        behind =
            rw
            (changed_count j v t i, changed_identifier j v t i, changed_count j v t (prior m i), changed_identifier j v t (prior m i))
            (local i h).behind;
      }

  pub changed_room : Room s t → Room s (changed j v t)
  changed_room (f, h, z) = (f, h, changed_count j v t f ∙ z)

  pub changed_clean : Clean m t → Clean m (changed j v t)
  changed_clean clean i h z = go (ℕ_discrete i j)
    where
      go : Dec (i ≡ j) → changed j v t i ≡ empty
      go (yes e) = absurd (omega (arith, changed_count j v t i, ap (λ (a : ℕ). (t a).count) e))
      go (no n) = changed_same j v t i n ∙ clean i h (sym (changed_count j v t i) ∙ z)

  -- its records are the old ones, the changed one with the new entry

  pub changed_stands_new : Stands m (changed j v t) (record { identifier = (t j).identifier; entry = v })
  changed_stands_new = (j, start, rw (changed_count j v t j) occ, ap record_of (changed_here j v t j refl))

  pub changed_stands_old : (r : Record) → Stands m t r → Other t j r → Stands m (changed j v t) r
  changed_stands_old r (i, h, o, e) n =
      let c = changed_same j v t i (λ q. n (sym (ap (λ (a : Record). a.identifier) e) ∙ ap (λ (a : ℕ). (t a).identifier) q)) in
      (i, h, rw c o, ap record_of c ∙ e)

  pub changed_stands_back : Local s t → (r : Record) → Stands m (changed j v t) r
      → (r ≡ record { identifier = (t j).identifier; entry = v }) ⊎ (Stands m t r × Other t j r)
  changed_stands_back local r (i, h, o, e) = go (ℕ_discrete i j)
    where
      go : Dec (i ≡ j) → (r ≡ record { identifier = (t j).identifier; entry = v }) ⊎ (Stands m t r × Other t j r)
      go (yes q) = inl (sym e ∙ ap record_of (changed_here j v t i q) ∙ rw q refl)
      go (no n) =
          let c = changed_same j v t i n in
          let w : Stands m t r = (i, h, rw c at o, sym (ap record_of c) ∙ e) in
          let y : (t i).identifier ≡ r.identifier = ap (λ (a : Record). a.identifier) w.3 in
          inr (w, λ u. n ((ordered_of_local s t local).once i j h start w.2 occ (y ∙ u)))
