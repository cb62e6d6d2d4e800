-- On a proper arrangement the walk decides which records live, and each change is the map's own.
-- Neighbours still agree after a change, and what stands is what the map says; so the result is proper.
use Prim.Native.Nat.{ℕ, suc, ◌<◌}
use native.Mathlib.Omega.{arith}
use mathlib.Core.Path.{◌≡◌, refl, sym, ap, ◌∙◌, subst}
use mathlib.Core.Bool.{false}
use mathlib.Core.Logic.{◌↔◌, ⊎_elim, ◌≢◌}
use mathlib.Core.List.Memᴰ
use mathlib.Core.List.{List, ◌∷◌}
use lib.ListN.{length}
use Rattle.arrangement.specs.Table.{Table, Occupied, Record, record_of, Among, Fresh, Distinct, without}
use Rattle.arrangement.specs.Proper.{Space, Proper, Local, Room, Clean}
use Rattle.arrangement.specs.Walk.{found, absent, walk}
use Rattle.arrangement.specs.Changes.{after, first_empty, first_settled, stored, removed, changed, any_far}
use Rattle.arrangement.proofs.Local.{Stands, ordered_of_local}
use Rattle.arrangement.proofs.Walk.{found_at, found_in, absent_in, walk_misses, walk_finds, absent_means}
use Rattle.arrangement.proofs.Store.{cell, empty_there, stored_stands_new, stored_stands_old, stored_stands_back, stored_clean, stored_local, stored_near, stored_none_far}
use Rattle.arrangement.proofs.Remove.{settled_there, removed_local, removed_room, removed_clean, removed_stands_old, removed_stands_back}
use Rattle.arrangement.proofs.Change.{changed_local, changed_room, changed_clean, changed_stands_new, changed_stands_old, changed_stands_back}
use Rattle.arrangement.proofs.Records.{free_of_few, among_without, without_among, without_distinct}
use Rattle.arrangement.proofs.Accepted.{proper_of_stands, local_of_proper, room_of_proper, stands_of_proper}

pub found_occupied : (s : Space) (t : Table) (x : ℕ) {j p : ℕ} → walk s.size (s.home x) x t ≡ found j p → Occupied t j
found_occupied s t x ends = let f = found_at s.size (s.home x) x t ends in omega arith

-- the walk ends absent exactly for an identifier that is not among the records, found exactly for one that is

module _ {s : Space} {rs : List Record} {t : Table} (P : Proper s rs t) where
  pub absent_fresh : {x j p : ℕ} → walk s.size (s.home x) x t ≡ absent j p → Fresh x rs
  absent_fresh ends r a e =
      let st = P.stands r a in
      absent_means s t (local_of_proper P) (room_of_proper P) ends st.0 st.1 st.2 (ap (λ (q : Record). q.identifier) st.3 ∙ e)

  pub fresh_absent : {x : ℕ} → Fresh x rs → (j : ℕ) × (p : ℕ) × (walk s.size (s.home x) x t ≡ absent j p)
  fresh_absent {x} fresh = walk_misses s t (room_of_proper P) x (λ i l o e. fresh (record_of (t i)) (P.others i l o) e)

  pub found_among : {x j p : ℕ} → walk s.size (s.home x) x t ≡ found j p → Among (record_of (t j)) rs × ((t j).identifier ≡ x)
  found_among {x} {j} ends = (P.others j (found_in s t x ends) (found_occupied s t x ends), (found_at s.size (s.home x) x t ends).identifier)

  pub among_found : {r : Record} → Among r rs → (j : ℕ) × (p : ℕ) × (walk s.size (s.home r.identifier) r.identifier t ≡ found j p) × (record_of (t j) ≡ r)
  among_found {r} a =
      let st = P.stands r a in
      let e : (t st.0).identifier ≡ r.identifier = ap (λ (q : Record). q.identifier) st.3 in
      (st.0, (t st.0).count, subst (λ (y : ℕ). walk s.size (s.home y) y t ≡ found st.0 (t st.0).count) e (walk_finds s t (local_of_proper P) (room_of_proper P) st.0 st.1 st.2), st.3)

-- store: what it does to a proper arrangement of rs
pub record Stored (s : Space) (rs : List Record) (t : Table) (x v j p k : ℕ) : Type 0 where
  -- it is not refused as damaged
  pub near : p < s.size
  pub none_far : any_far s.size j t k ≡ false
  pub proper : Proper s (record { identifier = x; entry = v } ∷ rs) (stored s.size j k (cell p x v) t)
  pub clean : Clean s.size t → Clean s.size (stored s.size j k (cell p x v) t)

module _ {s : Space} {rs : List Record} {t : Table} (P : Proper s rs t) (few : suc (length rs) < s.size) (x v : ℕ) {j p k : ℕ} (ends : walk s.size (s.home x) x t ≡ absent j p) (first : first_empty s.size j t ≡ after k) where
  stored_standing : (r : Record) → Stands s.size (stored s.size j k (cell p x v) t) r ↔ Among r (record { identifier = x; entry = v } ∷ rs)
  stored_standing r = (λ st. ⊎_elim Memᴰ.head (λ old. Memᴰ.tail ((stands_of_proper P r).0 old)) (stored_stands_back s t x v ends first r st), λ a. ⊎_elim new (λ old. stored_stands_old s t x v ends first r (P.stands r old)) (Memᴰ.cases_cons a))
    where
      new : r ≡ record { identifier = x; entry = v } → Stands s.size (stored s.size j k (cell p x v) t) r
      new e = subst (Stands s.size (stored s.size j k (cell p x v) t)) (sym e) (stored_stands_new s t x v ends first)

  pub stored_at : Stored s rs t x v j p k
  unfolding Distinct
  stored_at =
      record {
        near = stored_near s t x v ends first (local_of_proper P) room;
        none_far = stored_none_far s t x v ends first (local_of_proper P) room;
        proper = proper_of_stands s _ _ local room (absent_fresh P ends, P.distinct) stored_standing;
        clean = stored_clean s t x v ends first;
      }
    where
      local : Local s (stored s.size j k (cell p x v) t)
      local = stored_local s t x v ends first (local_of_proper P)

      room : Room s (stored s.size j k (cell p x v) t)
      room = free_of_few s.size _ (record { identifier = x; entry = v } ∷ rs) (ordered_of_local s _ local).once (λ i l o. (stored_standing _).0 (i, l, o, refl)) few

pub stored_proper : {s : Space} {rs : List Record} {t : Table} (x v : ℕ) → Proper s rs t → Fresh x rs → suc (length rs) < s.size → (j : ℕ) × (p : ℕ) × (k : ℕ) × (walk s.size (s.home x) x t ≡ absent j p) × (first_empty s.size j t ≡ after k) × Stored s rs t x v j p k
stored_proper {s} {rs} {t} x v P fresh few =
    let w = fresh_absent P fresh in
    let e = empty_there s t (absent_in s t x w.2) (room_of_proper P) in
    (w.0, w.1, e.0, w.2, e.1, stored_at P few x v w.2 e.1)

-- remove: what it does to a proper arrangement of rs
pub record Removed (s : Space) (rs : List Record) (t : Table) (x j k : ℕ) : Type 0 where
  pub proper : Proper s (without x rs) (removed s.size j k t)
  pub clean : Clean s.size t → Clean s.size (removed s.size j k t)

-- change: what it does to a proper arrangement of rs
pub record Renewed (s : Space) (rs : List Record) (t : Table) (x v j : ℕ) : Type 0 where
  pub proper : Proper s (record { identifier = x; entry = v } ∷ without x rs) (changed j v t)
  pub clean : Clean s.size t → Clean s.size (changed j v t)

module _ {s : Space} {rs : List Record} {t : Table} (P : Proper s rs t) (x : ℕ) {j p : ℕ} (ends : walk s.size (s.home x) x t ≡ found j p) where
  start : j < s.size
  start = found_in s t x ends

  occ : Occupied t j
  occ = found_occupied s t x ends

  named : (t j).identifier ≡ x
  named = (found_at s.size (s.home x) x t ends).identifier

  -- the records other than the one in slot j
  left_among : (r : Record) → Stands s.size t r × (r.identifier ≢ (t j).identifier) → Among r (without x rs)
  left_among r st = among_without x rs r ((stands_of_proper P r).0 st.0) (λ e. st.1 (e ∙ sym named))

  left_stands : (r : Record) → Among r (without x rs) → Stands s.size t r × (r.identifier ≢ (t j).identifier)
  left_stands r a =
      let w = without_among x rs r a in
      (P.stands r w.0, λ e. w.1 (e ∙ named))

  pub removed_at : {k : ℕ} → first_settled s.size j t ≡ after (suc k) → Removed s rs t x j k
  removed_at {k} first =
      record {
        proper = proper_of_stands s _ _ (removed_local s t start first (local_of_proper P) occ) (removed_room s t start first) (without_distinct x rs P.distinct) standing;
        clean = removed_clean s t start first;
      }
    where
      standing : (r : Record) → Stands s.size (removed s.size j k t) r ↔ Among r (without x rs)
      standing r = (
        λ st. left_among r (removed_stands_back s t start first (local_of_proper P) occ r st),
        λ a.
            let w = left_stands r a in
            removed_stands_old s t start first r w.0 w.1,
      )

  pub changed_at : (v : ℕ) → Renewed s rs t x v j
  unfolding Distinct
  changed_at v =
      record {
        proper = proper_of_stands s _ _ (changed_local s t v start occ (local_of_proper P)) (changed_room s t v start occ (room_of_proper P)) (λ r a. (without_among x rs r a).1, without_distinct x rs P.distinct) standing;
        clean = changed_clean s t v start occ;
      }
    where
      same : ◌≡◌ {A = Record} (record { identifier = (t j).identifier; entry = v }) (record { identifier = x; entry = v })
      same = ap (λ (y : ℕ). record { identifier = y; entry = v }) named

      back : (r : Record) → Among r (without x rs) → Stands s.size (changed j v t) r
      back r a =
          let w = left_stands r a in
          changed_stands_old s t v start occ r w.0 w.1

      standing : (r : Record) → Stands s.size (changed j v t) r ↔ Among r (record { identifier = x; entry = v } ∷ without x rs)
      standing r = (
        λ st. ⊎_elim (λ e. Memᴰ.head (e ∙ same)) (λ o. Memᴰ.tail (left_among r o)) (changed_stands_back s t v start occ (local_of_proper P) r st),
        λ a. ⊎_elim (λ e. subst (Stands s.size (changed j v t)) (same ∙ sym e) (changed_stands_new s t v start occ)) (back r) (Memᴰ.cases_cons a),
      )

pub removed_proper : {s : Space} {rs : List Record} {t : Table} {r : Record} → Proper s rs t → Among r rs → (j : ℕ) × (p : ℕ) × (k : ℕ) × (walk s.size (s.home r.identifier) r.identifier t ≡ found j p) × (record_of (t j) ≡ r) × (first_settled s.size j t ≡ after (suc k)) × Removed s rs t r.identifier j k
removed_proper {s} {rs} {t} {r} P a =
    let w = among_found P a in
    let e = settled_there s t (found_in s t r.identifier w.2) (found_occupied s t r.identifier w.2) (room_of_proper P) in
    (w.0, w.1, e.0, w.2, w.3, e.1, removed_at P r.identifier w.2 e.1)

pub changed_proper : {s : Space} {rs : List Record} {t : Table} {r : Record} (v : ℕ) → Proper s rs t → Among r rs → (j : ℕ) × (p : ℕ) × (walk s.size (s.home r.identifier) r.identifier t ≡ found j p) × (record_of (t j) ≡ r) × Renewed s rs t r.identifier v j
changed_proper {s} {rs} {t} {r} v P a =
    let w = among_found P a in
    (w.0, w.1, w.2, w.3, changed_at P r.identifier w.2 v)
