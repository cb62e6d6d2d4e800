-- The shifts in mid-way: one move leads from a state to the next, and the last slot written makes the change whole.
-- Each slot is told by its place or its rank from s: it moved already, or holds what it held. Assumes nothing.
use Prim.Native.Nat.{ℕ, zero, suc, ◌+◌, ◌-◌, ◌*◌, ◌≤◌, ◌<◌}
use mathlib.Core.Path.{◌≡◌, refl, sym, ap, ◌∙◌}
use mathlib.Core.Bool.{Bool, true, false, ◌||◌}
use mathlib.Core.List.{List}
use native.Mathlib.Decide.{dec_lt, dec_le, ℕ_discrete}
use native.Mathlib.Omega.{arith}
use borrow.Author.Tests.{lt-ltb, le-ltb, le-leb, lt-leb, leb-false}
use lib.Dec.{leb}
use lib.ListN.{get_or, set}
use Rattle.arrangement.specs.Table.{Cell, Table, empty, onward, rank}
use Rattle.arrangement.specs.Changes.{raised, lowered, prior, next, stored, removed, any_far}
use Rattle.arrangement.proofs.Cycle.{next_in, next_inner, next_last, onward_in, onward_rank, prior_first, prior_inner, rank_onward, rank_zero, rank_same, rank_self, rank_ahead, rank_behind}
use Rattle.arrangement.proofs.Outside.{stored_new, stored_moved, stored_same, removed_moved, removed_last, removed_same}
use Rattle.register.specs.Private.{Holds, Kept, Leaves}
use Rattle.register.specs.declared.table.OpenedMut.{OpenedMut}
use Rattle.register.specs.Shifts.{lifted, shifted_on, shifted_back, Liftable}
use Rattle.register.specs.Slices.{table_of}
use Rattle.register.specs.Store.{cell_of}
use Rattle.register.proofs.Slices.{holds_as, put_at, put_here, put_other, put_holds}

-- two changes, one after the other

-- what each keeps, both keep
pub kept_trans : {r q p : OpenedMut} → Kept r q → Kept q p → Kept r p
kept_trans k l = record { head = l.head ∙ k.head; words = l.words ∙ k.words; counts = l.counts ∙ k.counts }

-- the table that the second leaves, both leave, where the first keeps the head and slices; the slot count may stand in the table
pub leaves_next : {r q p : OpenedMut} (t : ℕ → Table) → Kept r q → Leaves q p (t q.head.slots) → Leaves r p (t r.head.slots)
leaves_next t k l = record { kept = kept_trans k l.kept; holds = rw k.head at l.holds }

-- a table equal to it slot by slot is left too
pub leaves_as : {r q : OpenedMut} {t u : Table} → Leaves r q t → ((i : ℕ) → i < r.head.slots → t i ≡ u i) → Leaves r q u
leaves_as l e = record { kept = l.kept; holds = holds_as l.holds e }

-- what each slot holds

module _ (a b : ℕ) (t : Table) (i : ℕ) where
  pub lift_moved : a < i → i ≤ b → lifted a b t i ≡ raised (t (i - 1))
  unfolding lifted
  lift_moved h l = rw (lt-ltb a i h, le-leb i b l)

  pub lift_before : i ≤ a → lifted a b t i ≡ t i
  unfolding lifted
  lift_before h = rw (le-ltb a i h)

  pub lift_beyond : b < i → lifted a b t i ≡ t i
  unfolding lifted
  lift_beyond h = go (dec_lt a i)
    where
      go : Dec (a < i) → lifted a b t i ≡ t i
      go (yes l) = rw (lt-ltb a i l, lt-leb i b h)
      go (no n) = rw (le-ltb a i (omega arith))

module _ (m s k : ℕ) (t : Table) (i : ℕ) where
  pub on_moved : 0 < rank m s i → rank m s i ≤ k → shifted_on m s k t i ≡ raised (t (prior m i))
  unfolding shifted_on
  on_moved a b = rw (lt-ltb 0 (rank m s i) a, le-leb (rank m s i) k b)

  pub on_start : rank m s i ≡ 0 → shifted_on m s k t i ≡ t i
  unfolding shifted_on
  on_start a = rw (le-ltb 0 (rank m s i) (omega arith))

  pub on_beyond : k < rank m s i → shifted_on m s k t i ≡ t i
  unfolding shifted_on
  on_beyond a = rw (lt-ltb 0 (rank m s i) (omega arith), lt-leb (rank m s i) k a)

  pub back_moved : rank m s i < k → shifted_back m s k t i ≡ lowered (t (next m i))
  unfolding shifted_back
  back_moved a = rw (lt-ltb (rank m s i) k a)

  pub back_still : k ≤ rank m s i → shifted_back m s k t i ≡ t i
  unfolding shifted_back
  back_still a = rw (le-ltb (rank m s i) k a)

-- a record before the empty slot has a count below m - 1
pub near_at : (m s : ℕ) (t : Table) (k : ℕ) → any_far m s t k ≡ false → (l : ℕ) → l < k → (t (onward m s l)).count < m - 1
unfolding any_far
near_at m s t zero e l h = absurd (omega arith)
near_at m s t (suc k) e l h = go (any_far m s t k) refl (ℕ_discrete l k) e (near_at m s t k)
  where
    go : (b : Bool) → any_far m s t k ≡ b → Dec (l ≡ k) → b || leb (m - 1) (t (onward m s k)).count ≡ false
        → (any_far m s t k ≡ false → (l : ℕ) → l < k → (t (onward m s l)).count < m - 1) → (t (onward m s l)).count < m - 1
    go true f d q ih = let z : ◌≡◌ {A = Bool} true false = q in absurd (let y : ◌≡◌ {A = ℕ} 0 1 = cc in omega arith)
    go false f (yes u) q ih = rw u (leb-false (m - 1) (t (onward m s k)).count q)
    go false f (no n) q ih = ih f l (omega arith)

-- one move

-- the record of slot i put into slot j, its count changed
move_holds : {m : ℕ} {u : Table} {ws cs : List ℕ} (f : ℕ → ℕ) (i j : ℕ) → i < m → j < m → Holds m u ws cs
    → Holds m (put_at j (record { count = f (u i).count; identifier = (u i).identifier; entry = (u i).entry }) u)
    (set (set ws (2 * j) (get_or ws (2 * i) 0)) (2 * j + 1) (get_or ws (2 * i + 1) 0)) (set cs j (f (get_or cs i 0)))
move_holds {m} {u} {ws} {cs} f i j k l h =
    let new : Cell → Cell = λ c. record { count = f c.count; identifier = c.identifier; entry = c.entry } in
    holds_as (put_holds j (new (table_of ws cs i)) l h) (λ q o. ap (λ (c : Cell). put_at j (new c) u q) (h.slots i k))

-- the lift, from the far end

pub lift_none : (b : ℕ) (t : Table) (i : ℕ) → t i ≡ lifted b b t i
lift_none b t i = go (dec_le i b)
  where
    go : Dec (i ≤ b) → t i ≡ lifted b b t i
    go (yes h) = sym (lift_before b b t i h)
    go (no n) = sym (lift_beyond b b t i (omega arith))

pub lift_step : (b : ℕ) (t : Table) (j : ℕ) → 0 < j → j ≤ b → (i : ℕ) → put_at j (raised (lifted j b t (j - 1))) (lifted j b t) i ≡ lifted (j - 1) b t i
lift_step b t j z h i = go (ℕ_discrete i j) (dec_le i b)
  where
    u : Table
    u = lifted j b t

    go : Dec (i ≡ j) → Dec (i ≤ b) → put_at j (raised (u (j - 1))) u i ≡ lifted (j - 1) b t i
    go (yes e) d =
        put_here j (raised (u (j - 1))) u e ∙ ap raised (lift_before j b t (j - 1) (omega arith))
        ∙ ap (λ (k : ℕ). raised (t (k - 1))) (sym e) ∙ sym (lift_moved (j - 1) b t i (omega arith) (omega arith))
    go (no n) (no o) = put_other j (raised (u (j - 1))) u n ∙ lift_beyond j b t i (omega arith) ∙ sym (lift_beyond (j - 1) b t i (omega arith))
    go (no n) (yes o) = put_other j (raised (u (j - 1))) u n ∙ side (dec_lt i j)
      where
        side : Dec (i < j) → lifted j b t i ≡ lifted (j - 1) b t i
        side (yes l) = lift_before j b t i (omega arith) ∙ sym (lift_before (j - 1) b t i (omega arith))
        side (no l) = lift_moved j b t i (omega arith) o ∙ sym (lift_moved (j - 1) b t i (omega arith) o)

-- a run within the table is one lift
pub run_within : (m s k : ℕ) (t : Table) → s < m → s + k < m → (i : ℕ) → i < m → lifted s (s + k) t i ≡ shifted_on m s k t i
run_within m s k t h w i l = go (dec_lt i s)
  where
    go : Dec (i < s) → lifted s (s + k) t i ≡ shifted_on m s k t i
    go (yes b) = lift_before s (s + k) t i (omega arith) ∙ sym (on_beyond m s k t i (omega (arith, rank_behind {m = m} {s = s} {i = i} b h)))
    go (no b) = side (ℕ_discrete i s) (dec_le i (s + k))
      where
        r : rank m s i ≡ i - s
        r = rank_ahead (omega arith) l

        side : Dec (i ≡ s) → Dec (i ≤ s + k) → lifted s (s + k) t i ≡ shifted_on m s k t i
        side (yes e) d = lift_before s (s + k) t i (omega arith) ∙ sym (on_start m s k t i (omega (arith, r)))
        side (no n) (yes d) =
            lift_moved s (s + k) t i (omega arith) d
            ∙ ap (λ (q : ℕ). raised (t q)) (sym (prior_inner (omega arith) l))
            ∙ sym (on_moved m s k t i (omega (arith, r)) (omega (arith, r)))
        side (no n) (no d) = lift_beyond s (s + k) t i (omega arith) ∙ sym (on_beyond m s k t i (omega (arith, r)))

-- a run around the end is a lift from slot 0 on, the last slot's record moved to slot 0, and a lift up to the last slot
pub turned_once : ℕ → ℕ → Table → Table
turned_once m e t = put_at 0 (raised (lifted 0 e t (m - 1))) (lifted 0 e t)

module _ (m s k : ℕ) (t : Table) (h : s < m) (o : k < m) (w : m ≤ s + k) where
  -- the slots from s on are as they were after the first two
  pub turned_still : (i : ℕ) → s ≤ i → turned_once m (s + k - m) t i ≡ t i
  unfolding turned_once
  turned_still i l =
      let e = s + k - m in
      put_other 0 (raised (lifted 0 e t (m - 1))) (lifted 0 e t) (omega arith) ∙ lift_beyond 0 e t i (omega arith)

  pub run_around : (v : Table) → ((i : ℕ) → i < m → v i ≡ turned_once m (s + k - m) t i) → (i : ℕ) → i < m → lifted s (m - 1) v i ≡ shifted_on m s k t i
  unfolding turned_once
  run_around v same i l = go (dec_lt i s)
    where
      go : Dec (i < s) → lifted s (m - 1) v i ≡ shifted_on m s k t i
      go (no b) = side (ℕ_discrete i s)
        where
          r : rank m s i ≡ i - s
          r = rank_ahead (omega arith) l

          side : Dec (i ≡ s) → lifted s (m - 1) v i ≡ shifted_on m s k t i
          side (yes e) =
              lift_before s (m - 1) v i (omega arith) ∙ same i l ∙ turned_still i (omega arith) ∙ sym (on_start m s k t i (omega (arith, r)))
          side (no n) =
              lift_moved s (m - 1) v i (omega arith) (omega arith)
              ∙ ap raised (same (i - 1) (omega arith) ∙ turned_still (i - 1) (omega arith))
              ∙ ap (λ (q : ℕ). raised (t q)) (sym (prior_inner (omega arith) l))
              ∙ sym (on_moved m s k t i (omega (arith, r)) (omega (arith, r)))
      go (yes b) = lift_before s (m - 1) v i (omega arith) ∙ same i l ∙ side (ℕ_discrete i 0) (dec_le i (s + k - m))
        where
          r : rank m s i ≡ i + m - s
          r = rank_behind b h

          side : Dec (i ≡ 0) → Dec (i ≤ s + k - m) → turned_once m (s + k - m) t i ≡ shifted_on m s k t i
          side (yes e) d =
              put_here 0 (raised (lifted 0 (s + k - m) t (m - 1))) (lifted 0 (s + k - m) t) e
              ∙ ap raised (lift_beyond 0 (s + k - m) t (m - 1) (omega arith))
              ∙ ap (λ (q : ℕ). raised (t q)) (sym (ap (prior m) e ∙ prior_first (omega arith)))
              ∙ sym (on_moved m s k t i (omega (arith, r)) (omega (arith, r)))
          side (no n) (yes d) =
              put_other 0 (raised (lifted 0 (s + k - m) t (m - 1))) (lifted 0 (s + k - m) t) n
              ∙ lift_moved 0 (s + k - m) t i (omega arith) d
              ∙ ap (λ (q : ℕ). raised (t q)) (sym (prior_inner (omega arith) l))
              ∙ sym (on_moved m s k t i (omega (arith, r)) (omega (arith, r)))
          side (no n) (no d) =
              put_other 0 (raised (lifted 0 (s + k - m) t (m - 1))) (lifted 0 (s + k - m) t) n
              ∙ lift_beyond 0 (s + k - m) t i (omega arith) ∙ sym (on_beyond m s k t i (omega (arith, r)))

-- the run opened: the new record takes s
pub opens : (m s k : ℕ) (c : Cell) (t : Table) → s < m → (i : ℕ) → i < m → put_at s c (shifted_on m s k t) i ≡ stored m s k c t i
opens m s k c t h i l = go (ℕ_discrete i s) (dec_le (rank m s i) k)
  where
    go : Dec (i ≡ s) → Dec (rank m s i ≤ k) → put_at s c (shifted_on m s k t) i ≡ stored m s k c t i
    go (yes e) d = put_here s c (shifted_on m s k t) e ∙ sym (stored_new m s k t i c (ap (rank m s) e ∙ rank_self h))
    go (no n) d = put_other s c (shifted_on m s k t) n ∙ side (ℕ_discrete (rank m s i) 0) d
      where
        side : Dec (rank m s i ≡ 0) → Dec (rank m s i ≤ k) → shifted_on m s k t i ≡ stored m s k c t i
        side (yes z) e = absurd (n (rank_zero h l z))
        side (no z) (yes e) = on_moved m s k t i (omega arith) e ∙ sym (stored_moved m s k t i c (omega arith) e)
        side (no z) (no e) = on_beyond m s k t i (omega arith) ∙ sym (stored_same m s k t i c (omega arith))

-- the shift back, from the near end

pub back_none : (m s : ℕ) (t : Table) (i : ℕ) → t i ≡ shifted_back m s 0 t i
back_none m s t i = sym (back_still m s 0 t i (omega arith))

pub back_step : (m s : ℕ) (t : Table) (j : ℕ) → s ≤ j → j + 1 < m → (i : ℕ) → i < m
    → put_at j (lowered (shifted_back m s (j - s) t (j + 1))) (shifted_back m s (j - s) t) i ≡ shifted_back m s (j + 1 - s) t i
back_step m s t j h o i l = go (ℕ_discrete i j) (dec_lt i s)
  where
    u : Table
    u = shifted_back m s (j - s) t

    next_one : next m j ≡ j + 1
    next_one = next_inner (omega arith) ∙ omega arith

    go : Dec (i ≡ j) → Dec (i < s) → put_at j (lowered (u (j + 1))) u i ≡ shifted_back m s (j + 1 - s) t i
    go (yes e) d =
        put_here j (lowered (u (j + 1))) u e
        ∙ ap lowered (back_still m s (j - s) t (j + 1) (omega (arith, rank_ahead {m = m} {s = s} {i = j + 1} (omega arith) o)))
        ∙ ap (λ (q : ℕ). lowered (t q)) (sym next_one ∙ ap (next m) (sym e))
        ∙ sym (back_moved m s (j + 1 - s) t i (omega (arith, rank_ahead {m = m} {s = s} {i = i} (omega arith) l)))
    go (no n) (yes d) =
        let r : rank m s i ≡ i + m - s = rank_behind d (omega arith) in
        put_other j (lowered (u (j + 1))) u n ∙ back_still m s (j - s) t i (omega (arith, r)) ∙ sym (back_still m s (j + 1 - s) t i (omega (arith, r)))
    go (no n) (no d) = put_other j (lowered (u (j + 1))) u n ∙ side (dec_lt i j)
      where
        r : rank m s i ≡ i - s
        r = rank_ahead (omega arith) l

        side : Dec (i < j) → u i ≡ shifted_back m s (j + 1 - s) t i
        side (yes a) = back_moved m s (j - s) t i (omega (arith, r)) ∙ sym (back_moved m s (j + 1 - s) t i (omega (arith, r)))
        side (no a) = back_still m s (j - s) t i (omega (arith, r)) ∙ sym (back_still m s (j + 1 - s) t i (omega (arith, r)))

-- a run around the end is one up to the last slot, the record of slot 0 moved to the last slot, and one from slot 0 on
pub turned_back : ℕ → ℕ → Table → Table
turned_back m s t = let u = shifted_back m s (m - 1 - s) t in put_at (m - 1) (lowered (u 0)) u

module _ (m s k : ℕ) (t : Table) (h : s < m) (o : k < m) (w : m ≤ s + k) where
  -- the slots before s are as they were after the first two
  pub back_turned_still : (i : ℕ) → i < s → turned_back m s t i ≡ t i
  unfolding turned_back
  back_turned_still i l =
      let u = shifted_back m s (m - 1 - s) t in
      put_other (m - 1) (lowered (u 0)) u (omega arith) ∙ back_still m s (m - 1 - s) t i (omega (arith, rank_behind {m = m} {s = s} {i = i} l h))

  pub back_around : (v : Table) → ((i : ℕ) → i < m → v i ≡ turned_back m s t i) → (i : ℕ) → i < m → shifted_back m 0 (s + k - m) v i ≡ shifted_back m s k t i
  unfolding turned_back
  back_around v same i l = go (dec_lt i s) (dec_lt i (s + k - m))
    where
      u : Table
      u = shifted_back m s (m - 1 - s) t

      z : rank m 0 i ≡ i
      z = rank_ahead (omega arith) l ∙ omega arith

      go : Dec (i < s) → Dec (i < s + k - m) → shifted_back m 0 (s + k - m) v i ≡ shifted_back m s k t i
      go (yes b) (yes a) =
          let q : next m i ≡ suc i = next_inner (omega arith) in
          back_moved m 0 (s + k - m) v i (omega (arith, z))
          ∙ ap lowered (same (next m i) (next_in l) ∙ back_turned_still (next m i) (omega (arith, q)))
          ∙ sym (back_moved m s k t i (omega (arith, rank_behind {m = m} {s = s} {i = i} b h)))
      go (yes b) (no a) =
          back_still m 0 (s + k - m) v i (omega (arith, z)) ∙ same i l ∙ back_turned_still i b
          ∙ sym (back_still m s k t i (omega (arith, rank_behind {m = m} {s = s} {i = i} b h)))
      go (no b) d = back_still m 0 (s + k - m) v i (omega (arith, z)) ∙ same i l ∙ side (ℕ_discrete i (m - 1))
        where
          r : rank m s i ≡ i - s
          r = rank_ahead (omega arith) l

          side : Dec (i ≡ m - 1) → put_at (m - 1) (lowered (u 0)) u i ≡ shifted_back m s k t i
          side (yes e) =
              put_here (m - 1) (lowered (u 0)) u e
              ∙ ap lowered (back_still m s (m - 1 - s) t 0 (omega (arith, rank_behind {m = m} {s = s} {i = 0} (omega arith) h)))
              ∙ ap (λ (q : ℕ). lowered (t q)) (sym (next_last (omega arith)))
              ∙ sym (back_moved m s k t i (omega (arith, r)))
          side (no n) =
              put_other (m - 1) (lowered (u 0)) u n ∙ back_moved m s (m - 1 - s) t i (omega (arith, r))
              ∙ sym (back_moved m s k t i (omega (arith, r)))

-- the run closed: the slot last vacated is zeroed
pub closes : (m s k : ℕ) (t : Table) → s < m → k < m → (i : ℕ) → i < m → put_at (onward m s k) empty (shifted_back m s k t) i ≡ removed m s k t i
closes m s k t h o i l = go (ℕ_discrete i (onward m s k))
  where
    go : Dec (i ≡ onward m s k) → put_at (onward m s k) empty (shifted_back m s k t) i ≡ removed m s k t i
    go (yes e) = put_here (onward m s k) empty (shifted_back m s k t) e ∙ sym (removed_last m s k t i (ap (rank m s) e ∙ rank_onward h o))
    go (no n) = put_other (onward m s k) empty (shifted_back m s k t) n ∙ side (dec_lt (rank m s i) k) (ℕ_discrete (rank m s i) k)
      where
        side : Dec (rank m s i < k) → Dec (rank m s i ≡ k) → shifted_back m s k t i ≡ removed m s k t i
        side (yes a) d = back_moved m s k t i a ∙ sym (removed_moved m s k t i a)
        side (no a) (yes d) = absurd (n (rank_same h l (onward_in k h) (d ∙ sym (rank_onward h o))))
        side (no a) (no d) = back_still m s k t i (omega arith) ∙ sym (removed_same m s k t i (omega arith))

-- the lift's loop stands at j: the slots above it have been written
pub record Lifting (m a b : ℕ) (t : Table) (ws cs : List ℕ) (j : ℕ) : Type 0 where
  pub from : a ≤ j
  pub to : j ≤ b
  pub top : b < m
  pub holds : Holds m (lifted j b t) ws cs

module _ {m a b : ℕ} {t : Table} where
  pub lifting_start : {ws cs : List ℕ} → Holds m t ws cs → a ≤ b → b < m → Lifting m a b t ws cs b
  lifting_start h l o = record { from = l; to = omega arith; top = o; holds = holds_as h (λ i k. lift_none b t i) }

  -- the record that moves next is as it was
  pub lifting_count : {ws cs : List ℕ} {j : ℕ} → Lifting m a b t ws cs j → a < j → ((i : ℕ) → a ≤ i → i < b → (t i).count < 65535) → get_or cs (j - 1) 0 < 65535
  lifting_count {ws} {cs} {j} g l small =
      let e : (table_of ws cs (j - 1)).count ≡ (t (j - 1)).count
      = ap (λ (c : Cell). c.count) (g.holds.slots (j - 1) (omega (arith, g.to, g.top)) ∙ lift_before j b t (j - 1) (omega arith)) in
      omega (arith, e, small (j - 1) (omega arith) (omega (arith, g.to)))

  lifting_step : {ws cs : List ℕ} {j : ℕ} → Lifting m a b t ws cs j → a < j
      → Lifting m a b t (set (set ws (2 * j) (get_or ws (2 * (j - 1)) 0)) (2 * j + 1) (get_or ws (2 * (j - 1) + 1) 0)) (set cs j (get_or cs (j - 1) 0 + 1)) (j - 1)
  lifting_step {ws} {cs} {j} g l =
      record {
        from = omega arith;
        to = omega (arith, g.to);
        top = g.top;
        holds =
            holds_as (move_holds (λ c. c + 1) (j - 1) j (omega (arith, g.to, g.top)) (omega (arith, g.to, g.top)) g.holds)
            (λ i k. lift_step b t j (omega arith) g.to i);
      }

  pub lifting_next : {ws cs us ds : List ℕ} {j : ℕ} → Lifting m a b t ws cs j → a < j
      → us ≡ set (set ws (2 * (j - 1 + 1)) (get_or ws (2 * (j - 1)) 0)) (2 * (j - 1 + 1) + 1) (get_or ws (2 * (j - 1) + 1) 0)
      → ds ≡ set cs (j - 1 + 1) (get_or cs (j - 1) 0 + 1) → Lifting m a b t us ds (j - 1)
  lifting_next {ws} {cs} {us} {ds} {j} g l e f = let to : j - 1 + 1 ≡ j = omega arith in rw (e, f, to) (lifting_step g l)

-- the shift back's loop stands at slot j: the slots from s up to before it have been written
pub record Lowering (m s k : ℕ) (t : Table) (ws cs : List ℕ) (j : ℕ) : Type 0 where
  pub from : s ≤ j
  pub to : j ≤ s + k
  pub top : s + k < m
  pub holds : Holds m (shifted_back m s (j - s) t) ws cs

-- a record that moves back has a count of 2 or more, told by its slot
pub liftable_at : {m s k : ℕ} (t : Table) → Liftable m s k t → s < m → (i : ℕ) → i < m → 1 ≤ rank m s i → rank m s i ≤ k → 2 ≤ (t i).count
liftable_at {m} {s} {k} t up h i l a b =
    let e : (t (onward m s (rank m s i))).count ≡ (t i).count = ap (λ (q : ℕ). (t q).count) (onward_rank h l) in
    omega (arith, e, up (rank m s i) a b)

module _ {m s k : ℕ} {t : Table} where
  pub lowering_start : {ws cs : List ℕ} → Holds m t ws cs → s + k < m → Lowering m s k t ws cs s
  lowering_start h l =
      let e : 0 ≡ s - s = omega arith in
      record { from = omega arith; to = omega arith; top = l; holds = holds_as h (λ i o. back_none m s t i ∙ ap (λ (n : ℕ). shifted_back m s n t i) e) }

  -- the record that moves next is as it was
  pub lowering_count : {ws cs : List ℕ} {j : ℕ} → Lowering m s k t ws cs j → j < s + k → Liftable m s k t → 0 < get_or cs (j + 1) 0
  lowering_count {ws} {cs} {j} g l up =
      let r : rank m s (j + 1) ≡ j + 1 - s = rank_ahead (omega (arith, g.from)) (omega (arith, g.top)) in
      let e : (table_of ws cs (j + 1)).count ≡ (t (j + 1)).count
      = ap (λ (c : Cell). c.count) (g.holds.slots (j + 1) (omega (arith, g.top)) ∙ back_still m s (j - s) t (j + 1) (omega (arith, r))) in
      omega (arith, e, liftable_at t up (omega (arith, g.top)) (j + 1) (omega (arith, g.top)) (omega (arith, r, g.from)) (omega (arith, r, g.from)))

  lowering_step : {ws cs : List ℕ} {j : ℕ} → Lowering m s k t ws cs j → j < s + k
      → Lowering m s k t (set (set ws (2 * j) (get_or ws (2 * (j + 1)) 0)) (2 * j + 1) (get_or ws (2 * (j + 1) + 1) 0)) (set cs j (get_or cs (j + 1) 0 - 1)) (j + 1)
  lowering_step {ws} {cs} {j} g l =
      record {
        from = omega (arith, g.from);
        to = omega arith;
        top = g.top;
        holds =
            holds_as (move_holds (λ c. c - 1) (j + 1) j (omega (arith, g.top)) (omega (arith, g.top)) g.holds)
            (back_step m s t j g.from (omega (arith, g.top)));
      }

  pub lowering_next : {ws cs us ds : List ℕ} {j : ℕ} → Lowering m s k t ws cs j → j < s + k
      → us ≡ set (set ws (2 * j) (get_or ws (2 * (j + 1)) 0)) (2 * j + 1) (get_or ws (2 * (j + 1) + 1) 0)
      → ds ≡ set cs j (get_or cs (j + 1) 0 - 1) → Lowering m s k t us ds (j + 1)
  lowering_next g l e f = rw (e, f) (lowering_step g l)

-- a slot is as far onward as its rank says
pub onward_of : {m s k i : ℕ} → s < m → i < m → rank m s i ≡ k → i ≡ onward m s k
onward_of {m} {s} h l e = sym (onward_rank h l) ∙ ap (onward m s) e

-- the parts of a shift back around the end, with the lists in between
pub back_turn_holds : {m : ℕ} (s : ℕ) (t : Table) {ws cs us ds : List ℕ} → 0 < m → Holds m (shifted_back m s (m - 1 - s) t) ws cs
    → us ≡ set (set ws (2 * (m - 1)) (get_or ws (2 * 0) 0)) (2 * (m - 1) + 1) (get_or ws (2 * 0 + 1) 0) → ds ≡ set cs (m - 1) (get_or cs 0 0 - 1)
    → Holds m (turned_back m s t) us ds
unfolding turned_back
back_turn_holds {m} s t z h p q = rw (p, q) (move_holds (λ c. c - 1) 0 (m - 1) z (omega arith) h)

module _ (m s k : ℕ) (t : Table) (q : (s < m) × (k < m) × Liftable m s k t) (w : m ≤ s + k) where
  pub back_turn_count : {ws cs : List ℕ} → Holds m (shifted_back m s (m - 1 - s) t) ws cs → 0 < get_or cs 0 0
  back_turn_count {ws} {cs} held =
      let r : rank m s 0 ≡ 0 + m - s = rank_behind (omega arith) q.0 in
      let e : (table_of ws cs 0).count ≡ (t 0).count
      = ap (λ (c : Cell). c.count) (held.slots 0 (omega arith) ∙ back_still m s (m - 1 - s) t 0 (omega (arith, r))) in
      omega (arith, e, liftable_at t q.2 q.0 0 (omega arith) (omega (arith, r)) (omega (arith, r)))

  pub liftable_rest : {ws cs : List ℕ} → Holds m (turned_back m s t) ws cs → Liftable m 0 (s + k - m) (table_of ws cs)
  liftable_rest {ws} {cs} held i a b =
      let r : rank m s i ≡ i + m - s = rank_behind (omega arith) q.0 in
      let z : i ≡ onward m 0 i = onward_of (omega arith) (omega arith) (rank_ahead (omega arith) (omega arith) ∙ omega arith) in
      let y : (table_of ws cs i).count ≡ (table_of ws cs (onward m 0 i)).count = ap (λ (n : ℕ). (table_of ws cs n).count) z in
      let e : (table_of ws cs i).count ≡ (t i).count
      = ap (λ (c : Cell). c.count) (held.slots i (omega arith) ∙ back_turned_still m s k t q.0 q.1 w i (omega arith)) in
      omega (arith, y, e, liftable_at t q.2 q.0 i (omega arith) (omega (arith, r)) (omega (arith, r)))

-- the counts of a store's run stay within 16 bits
module _ (m s k : ℕ) (t : Table) (q : (s < m) × (k < m) × (any_far m s t k ≡ false)) (most : m ≤ 32768) where
  near_slot : (i : ℕ) → i < m → rank m s i < k → (t i).count < 65535
  near_slot i l r =
      let e : (t (onward m s (rank m s i))).count ≡ (t i).count = ap (λ (n : ℕ). (t n).count) (onward_rank q.0 l) in
      omega (arith, e, near_at m s t k q.2 (rank m s i) r)

  pub small_within : s + k < m → (i : ℕ) → s ≤ i → i < s + k → (t i).count < 65535
  small_within w i a b = near_slot i (omega arith) (omega (arith, rank_ahead {m = m} {s = s} {i = i} a (omega arith)))

  pub small_first : m ≤ s + k → (i : ℕ) → 0 ≤ i → i < s + k - m → (t i).count < 65535
  small_first w i a b = near_slot i (omega arith) (omega (arith, rank_behind {m = m} {s = s} {i = i} (omega arith) q.0))

  pub small_last : m ≤ s + k → {ws cs : List ℕ} → Holds m (lifted 0 (s + k - m) t) ws cs → get_or cs (m - 1) 0 < 65535
  small_last w {ws} {cs} held =
      let e : (table_of ws cs (m - 1)).count ≡ (t (m - 1)).count
      = ap (λ (c : Cell). c.count) (held.slots (m - 1) (omega arith) ∙ lift_beyond 0 (s + k - m) t (m - 1) (omega arith)) in
      omega (arith, e, near_slot (m - 1) (omega arith) (omega (arith, rank_ahead {m = m} {s = s} {i = m - 1} (omega arith) (omega arith))))

  pub small_rest : m ≤ s + k → {ws cs : List ℕ} → Holds m (turned_once m (s + k - m) t) ws cs → (i : ℕ) → s ≤ i → i < m - 1 → get_or cs i 0 < 65535
  small_rest w {ws} {cs} held i a b =
      let e : (table_of ws cs i).count ≡ (t i).count = ap (λ (c : Cell). c.count) (held.slots i (omega arith) ∙ turned_still m s k t q.0 q.1 w i a) in
      omega (arith, e, near_slot i (omega arith) (omega (arith, rank_ahead {m = m} {s = s} {i = i} a (omega arith))))

-- the three parts of a shift around the end, with the lists in between
pub turn_holds : {m : ℕ} (e : ℕ) (t : Table) {ws cs us ds : List ℕ} → 0 < m → Holds m (lifted 0 e t) ws cs
    → us ≡ set (set ws (2 * 0) (get_or ws (2 * (m - 1)) 0)) (2 * 0 + 1) (get_or ws (2 * (m - 1) + 1) 0) → ds ≡ set cs 0 (get_or cs (m - 1) 0 + 1)
    → Holds m (turned_once m e t) us ds
unfolding turned_once
turn_holds {m} e t z h p q = rw (p, q) (move_holds (λ c. c + 1) (m - 1) 0 (omega arith) z h)

-- a run's last slot written, with the lists it is written to
pub opened : {m : ℕ} (s k p x v : ℕ) (t : Table) {ws cs us ds : List ℕ} → s < m → Holds m (shifted_on m s k t) ws cs → us ≡ set (set ws (2 * s) x) (2 * s + 1) v
    → ds ≡ set cs s p → Holds m (stored m s k (cell_of p x v) t) us ds
opened {m} s k p x v t h held e f = rw (e, f) (holds_as (put_holds s (cell_of p x v) h held) (opens m s k (cell_of p x v) t h))

pub closed : {m j : ℕ} (s k : ℕ) (t : Table) {ws cs us ds : List ℕ} → s < m → k < m → j ≡ onward m s k → Holds m (shifted_back m s k t) ws cs
    → us ≡ set (set ws (2 * j) 0) (2 * j + 1) 0 → ds ≡ set cs j 0 → Holds m (removed m s k t) us ds
closed {m} {j} s k t h o q held e f = rw (e, f, q) (holds_as (put_holds (onward m s k) empty (onward_in k h) held) (closes m s k t h o))
