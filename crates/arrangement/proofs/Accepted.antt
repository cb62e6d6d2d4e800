-- A table is a proper arrangement of its records exactly when neighbouring slots agree and a slot is free.
-- Neighbours agree exactly when the table is ordered; the rest is which records stand in it.
use Prim.Native.Nat.{ℕ, ◌<◌}
use native.Mathlib.Nat.{eq-zero-or-pos}
use native.Mathlib.Omega.{arith}
use mathlib.Core.Path.{◌≡◌, refl, sym}
use mathlib.Core.Logic.{◌↔◌, ⊎_elim}
use mathlib.Core.List.Memᴰ
use mathlib.Core.List.{List}
use lib.ListN.{length}
use Rattle.arrangement.specs.Table.{Table, Record, record_of, Among, Fresh, Distinct, empty, records_of, occupied, SameRecords}
use Rattle.arrangement.specs.Proper.{Space, Proper, Clean, Local, Room}
use Rattle.arrangement.proofs.Local.{Stands, Ordered, ordered_of_local, local_of_ordered}
use Rattle.arrangement.proofs.Records.{stands_of_among, among_of_stands, distinct_records, length_lt, occupied_length, pigeonhole, same_length, free_of_few, free_of_occupied}

-- neighbours agree, a slot is free, and rs are the records that stand
pub proper_of_stands : (s : Space) (rs : List Record) (t : Table) → Local s t → Room s t → Distinct rs → ((r : Record) → Stands s.size t r ↔ Among r rs) → Proper s rs t
proper_of_stands s rs t local room distinct standing =
    record {
      distinct = distinct;
      few = omega (arith, length_lt s.size t room.0 room.1 room.2, pigeonhole rs (records_of s.size t) distinct (λ r a. among_of_stands s.size t r ((standing r).1 a)));
      stands = λ r. (standing r).1;
      once = o.once;
      far = o.far;
      others = λ i l h. (standing (record_of (t i))).0 (i, l, h, refl);
      no_gap = o.no_gap;
      wins = o.wins;
    }
  where
    o : Ordered s t
    o = ordered_of_local s t local

pub proper_of_local : (s : Space) (t : Table) → Local s t → Room s t → Proper s (records_of s.size t) t
proper_of_local s t local room = proper_of_stands s (records_of s.size t) t local room (distinct_records s.size t (ordered_of_local s t local).once) (λ r. (among_of_stands s.size t r, stands_of_among s.size t r))

-- a free slot is known from the number of occupied ones
pub proper_of_occupied : (s : Space) (t : Table) → Local s t → occupied s.size t < s.size → Proper s (records_of s.size t) t
proper_of_occupied s t local few = proper_of_local s t local (free_of_occupied s.size t few)

module _ {s : Space} {rs : List Record} {t : Table} (P : Proper s rs t) where
  pub local_of_proper : Local s t
  local_of_proper = local_of_ordered (record { once = P.once; far = P.far; no_gap = P.no_gap; wins = P.wins })

  pub room_of_proper : Room s t
  room_of_proper = free_of_few s.size t rs P.once P.others P.few

  -- the records arranged are those that stand
  pub stands_of_proper : (r : Record) → Stands s.size t r ↔ Among r rs
  stands_of_proper r = (λ st. Memᴰ.cast (sym st.3) (P.others st.0 st.1 st.2), P.stands r)

  pub records_of_proper : SameRecords (records_of s.size t) rs
  records_of_proper r = (λ a. (stands_of_proper r).0 (stands_of_among s.size t r a), λ a. among_of_stands s.size t r ((stands_of_proper r).1 a))

  -- and as many as the occupied slots
  pub occupied_of_proper : occupied s.size t ≡ length rs
  occupied_of_proper = omega (arith, occupied_length s.size t, same_length (records_of s.size t) rs (distinct_records s.size t P.once) P.distinct records_of_proper)

  -- a set of records, in any order
  pub proper_of_same : (qs : List Record) → Distinct qs → SameRecords rs qs → Proper s qs t
  proper_of_same qs distinct same = proper_of_stands s qs t local_of_proper room_of_proper distinct (λ r. (λ st. (same r).0 ((stands_of_proper r).0 st), λ a. (stands_of_proper r).1 ((same r).1 a)))

  -- an identifier that is not among the records stands in no slot: only a zeroed one can have it as its word
  pub gone : {x : ℕ} → Fresh x rs → Clean s.size t → (i : ℕ) → i < s.size → (t i).identifier ≡ x → t i ≡ empty
  gone fresh clean i l e = ⊎_elim (clean i l) (λ o. absurd (fresh (record_of (t i)) (P.others i l o) e)) (eq-zero-or-pos (t i).count)
