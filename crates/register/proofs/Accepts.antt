-- check's slot-by-slot judgement says what the arrangement's notions say: every slot is good exactly when the table is
-- local and clean and no count is above M-1. Assumes nothing.
use Prim.Native.Nat.{ℕ, zero, suc, ◌+◌, ◌-◌, ◌≤◌, ◌<◌}
use mathlib.Core.Path.{◌≡◌, refl, sym, ap, ◌∙◌}
use mathlib.Core.Bool.{true, false≢true}
use native.Mathlib.Decide.{ℕ_discrete, dec_le}
use native.Mathlib.Omega.{arith}
use lib.Dec.{eqb}
use lib.ListN.{length}
use borrow.Author.Tests.{eqb-true, ltb-true, eq-eqb, ne_eqb, le-leb, lt-leb, lt-ltb}
use Rattle.arrangement.specs.Table.{Cell, Table, Occupied, empty, records_of}
use Rattle.arrangement.specs.Proper.{Beats, Local, Clean, slot_at}
use Rattle.arrangement.specs.Changes.{prior}
use Rattle.arrangement.proofs.Records.{occupied_length}
use Rattle.register.specs.declared.head.Head.{Head}
use Rattle.register.specs.Homes.{home_of, space_of}
use Rattle.register.specs.Check.{is_empty_good, behind_good, is_slot_good, are_slots_good, accepts}
use Rattle.register.proofs.Picks.{picked_first}
use Rattle.register.proofs.Judged.{slot_empty, slot_far, slot_away, slot_behind}

-- n slots from slot i on are judged good exactly when each of them is
good_each : (h : Head) (t : Table) (i n : ℕ) → are_slots_good h t i n ≡ true → (j : ℕ) → i ≤ j → j < i + n → is_slot_good h t j ≡ true
unfolding are_slots_good
good_each h t i zero e j l u = absurd (omega arith)
good_each h t i (suc n) e j l u = go (ℕ_discrete i j) (λ k. good_each h t (suc i) n now.1 j k (omega arith))
  where
    now : (is_slot_good h t i ≡ true) × (are_slots_good h t (suc i) n ≡ true)
    now = picked_first (is_slot_good h t i) e false≢true

    go : Dec (i ≡ j) → (suc i ≤ j → is_slot_good h t j ≡ true) → is_slot_good h t j ≡ true
    go (yes q) later = ap (is_slot_good h t) (sym q) ∙ now.0
    go (no q) later = later (omega arith)

each_good : (h : Head) (t : Table) (i n : ℕ) → ((j : ℕ) → i ≤ j → j < i + n → is_slot_good h t j ≡ true) → are_slots_good h t i n ≡ true
unfolding are_slots_good
each_good h t i zero f = refl
each_good h t i (suc n) f = rw (f i (omega arith) (omega arith)) (each_good h t (suc i) n (λ j l u. f j (omega arith) (omega arith)))

pub slots_good_lem : (h : Head) (t : Table) (m : ℕ) → are_slots_good h t 0 m ≡ true → (i : ℕ) → i < m → is_slot_good h t i ≡ true
slots_good_lem h t m e i l = good_each h t 0 m e i (omega arith) (omega arith)

pub good_slots : (h : Head) (t : Table) (m : ℕ) → ((i : ℕ) → i < m → is_slot_good h t i ≡ true) → are_slots_good h t 0 m ≡ true
good_slots h t m f = each_good h t 0 m (λ j l u. f j (omega arith))

-- a cell of zeros is the empty one
zeros_empty : (c : Cell) → c.count ≡ 0 → c.identifier ≡ 0 → c.entry ≡ 0 → c ≡ empty
zeros_empty c p q r =
    let e : ◌≡◌ {A = Cell} (record { count = c.count; identifier = c.identifier; entry = c.entry }) empty = cc in
    e

-- an empty slot's words
module _ (x v : ℕ) where
  empty_zero : is_empty_good x v ≡ true → (x ≡ 0) × (v ≡ 0)
  empty_zero e =
      let a : (eqb x 0 ≡ true) × (eqb v 0 ≡ true) = picked_first (eqb x 0) e false≢true in
      (eqb-true _ _ a.0, eqb-true _ _ a.1)

  zero_empty : x ≡ 0 → v ≡ 0 → is_empty_good x v ≡ true
  zero_empty p q = rw (eq-eqb _ _ p, eq-eqb _ _ q)

-- the test against the slot before
module _ (d y c x : ℕ) where
  behind_beats : 2 ≤ c → behind_good d y c x ≡ true → Beats (suc d) y c x
  behind_beats two e = go (dec_le c d) (ℕ_discrete c (d + 1))
    where
      go : Dec (c ≤ d) → Dec (c ≡ d + 1) → Beats (suc d) y c x
      go (yes l) s = record { ge = omega arith; tie = λ k. absurd (omega arith) }
      go (no n) (yes s) =
          let more : d < c = omega arith in
          let less : y < x = ltb-true _ _ (rw (lt-leb c 1 two, lt-leb c d more, eq-eqb c (d + 1) s) at e) in
          record { ge = omega arith; tie = λ k. less }
      go (no n) (no s) =
          let more : d < c = omega arith in
          absurd (false≢true (rw (lt-leb c 1 two, lt-leb c d more, ne_eqb c (d + 1) s) at e))

  beats_behind : (2 ≤ c → Beats (suc d) y c x) → behind_good d y c x ≡ true
  beats_behind b = go (dec_le c 1) (dec_le c d)
    where
      go : Dec (c ≤ 1) → Dec (c ≤ d) → behind_good d y c x ≡ true
      go (yes one) l = rw (le-leb c 1 one)
      go (no two) (yes l) =
          let many : 1 < c = omega arith in
          rw (lt-leb c 1 many, le-leb c d l)
      go (no two) (no n) =
          let many : 1 < c = omega arith in
          let more : d < c = omega arith in
          let w : Beats (suc d) y c x = b (omega arith) in
          let next : c ≡ d + 1 = omega arith in
          rw (lt-leb c 1 many, lt-leb c d more, eq-eqb c (d + 1) next, lt-ltb y x (w.tie (omega arith)))

-- what a good slot is, as facts
pub record GoodAt (h : Head) (t : Table) (i : ℕ) : Type 0 where
  pub clean : (t i).count ≡ 0 → t i ≡ empty
  pub near : (t i).count ≤ h.slots - 1
  pub far : Occupied t i → i ≡ slot_at h.slots (home_of h (t i).identifier) (t i).count
  pub behind : 2 ≤ (t i).count → Beats (suc (t (prior h.slots i)).count) (t (prior h.slots i)).identifier (t i).count (t i).identifier

module _ (h : Head) (t : Table) (i : ℕ) where
  pub good_at : is_slot_good h t i ≡ true → GoodAt h t i
  good_at e = go (ℕ_discrete (t i).count 0) (dec_le (t i).count (h.slots - 1)) (ℕ_discrete (slot_at h.slots (home_of h (t i).identifier) (t i).count) i)
    where
      go : Dec ((t i).count ≡ 0) → Dec ((t i).count ≤ h.slots - 1) → Dec (slot_at h.slots (home_of h (t i).identifier) (t i).count ≡ i) → GoodAt h t i
      go (yes z) n a =
          let w : ((t i).identifier ≡ 0) × ((t i).entry ≡ 0) = empty_zero _ _ (sym (slot_empty h t i z) ∙ e) in
          record { clean = λ _. zeros_empty (t i) z w.0 w.1; near = omega arith; far = λ o. absurd (omega arith); behind = λ b. absurd (omega arith) }
      go (no z) (no n) a = absurd (false≢true (sym (slot_far h t i z (omega arith)) ∙ e))
      go (no z) (yes n) (no a) = absurd (false≢true (sym (slot_away h t i z n a) ∙ e))
      go (no z) (yes n) (yes a) = record {
        clean = λ q. absurd (z q);
        near = n;
        far = λ o. sym a;
        behind = λ b. behind_beats _ _ _ _ b (sym (slot_behind h t i z n a) ∙ e);
      }

  pub at_good : GoodAt h t i → is_slot_good h t i ≡ true
  at_good g = go (ℕ_discrete (t i).count 0)
    where
      go : Dec ((t i).count ≡ 0) → is_slot_good h t i ≡ true
      go (yes z) =
          let w : t i ≡ empty = g.clean z in
          slot_empty h t i z ∙ zero_empty (t i).identifier (t i).entry (cc) (cc)
      go (no z) = slot_behind h t i z g.near (sym (g.far (omega arith))) ∙ beats_behind _ _ _ _ g.behind

-- every slot is good
abbrev pub EachGood : Head → Table → Type 0
EachGood h t = (i : ℕ) → i < h.slots → is_slot_good h t i ≡ true

-- no count is above m - 1
abbrev pub Near : ℕ → Table → Type 0
Near m t = (i : ℕ) → i < m → (t i).count ≤ m - 1

module _ (h : Head) (some : 0 < h.slots) (t : Table) where
  pub good_local : EachGood h t → Local (space_of h some) t
  good_local f i l = let g : GoodAt h t i = good_at h t i (f i l) in record { far = g.far; behind = g.behind }

  pub good_clean : EachGood h t → Clean h.slots t
  good_clean f i l = (good_at h t i (f i l)).clean

  pub good_near : EachGood h t → Near h.slots t
  good_near f i l = (good_at h t i (f i l)).near

  pub local_good : Local (space_of h some) t → Clean h.slots t → Near h.slots t → EachGood h t
  local_good a b n i l = at_good h t i record { clean = b i l; near = n i l; far = (a i l).far; behind = (a i l).behind }

-- check accepts exactly when every slot is good and as many records stand in the table as the head says
module _ (h : Head) (t : Table) where
  pub accepts_good : accepts h t ≡ true → EachGood h t
  unfolding accepts
  accepts_good e = slots_good_lem h t h.slots (picked_first (are_slots_good h t 0 h.slots) e false≢true).0

  pub accepts_live : accepts h t ≡ true → length (records_of h.slots t) ≡ h.live
  unfolding accepts
  accepts_live e = sym (occupied_length h.slots t) ∙ eqb-true _ _ (picked_first (are_slots_good h t 0 h.slots) e false≢true).1

  pub good_accepts : EachGood h t → length (records_of h.slots t) ≡ h.live → accepts h t ≡ true
  unfolding accepts
  good_accepts f e = rw (good_slots h t h.slots f, eq-eqb _ _ (occupied_length h.slots t ∙ e))
