-- Storing where the walk ended absent keeps neighbours in agreement, adds the one record and keeps the others.
-- Inside the run both neighbours rise; at its start the new record beats whom it moves; behind its end nobody had passed.
use Prim.Native.Nat.{ℕ, zero, suc, ◌-◌, ◌≤◌, ◌<◌}
use mathlib.Core.Path.{◌≡◌, refl, sym, ap, ◌∙◌}
use mathlib.Core.Bool.{false}
use mathlib.Core.Logic.{◌⊎◌, inl, inr}
use native.Mathlib.Decide.{dec_lt, dec_le, ℕ_discrete}
use native.Mathlib.Numerals.{add-one}
use native.Mathlib.Omega.{arith}
use borrow.Author.Tests.{eq-eqb, eqb-true, eqb-false, lt-leb}
use Rattle.arrangement.specs.Table.{Cell, Table, Record, record_of, empty, onward, rank}
use Rattle.arrangement.specs.Proper.{Space, slot_at, Local, Room, Clean}
use Rattle.arrangement.specs.Walk.{absent, walk}
use Rattle.arrangement.specs.Changes.{after, is_empty, first_empty, raised, prior, next, stored, any_far}
use Rattle.arrangement.proofs.Cycle.{prior_in, next_in, onward_in, onward_suc, prior_next, slot_back, onward_rank, rank_in, rank_self, rank_zero, rank_onward, rank_next, rank_prior, rank_before}
use Rattle.arrangement.proofs.Beats.{CellBeats, Follows, beats_raise, follows_settled, settled_after, follows_raised}
use Rattle.arrangement.proofs.Local.{Stands, Placed, placed_raised, counts_below}
use Rattle.arrangement.proofs.Walk.{AbsentAt, absent_at, absent_in}
use Rattle.arrangement.proofs.First.{first_at, first_there, fails_at, passes_at}
use Rattle.arrangement.proofs.Outside.{stored_new, stored_moved, stored_same}

-- the new record's cell
abbrev pub cell : ℕ → ℕ → ℕ → Cell
cell p x v = record { count = p; identifier = x; entry = v }

-- a free slot has a first one from anywhere
pub empty_there : (s : Space) (t : Table) {j : ℕ} → j < s.size → Room s t → (k : ℕ) × (first_empty s.size j t ≡ after k)
unfolding first_empty
empty_there s t {j} h (f, l, z) =
    first_there is_empty s.size j t s.size 0 (rank s.size j f) (omega arith) (omega (arith, rank_in f h)) (rw (onward_rank h l) (eq-eqb (t f).count 0 z))

-- up to the first empty slot all are occupied
pub record Run (m j k : ℕ) (t : Table) : Type 0 where
  pub short : k < m
  pub full : (i : ℕ) → i < m → rank m j i < k → 0 < (t i).count
  pub free : (i : ℕ) → i < m → rank m j i ≡ k → (t i).count ≡ 0

pub run_of : (m : ℕ) {j k : ℕ} (t : Table) → j < m → first_empty m j t ≡ after k → Run m j k t
unfolding first_empty
run_of m {j} {k} t h e =
    let f = first_at is_empty m j t m 0 e in
    record {
      short = omega arith;
      full = λ i l r. let n = eqb-false (t i).count 0 (fails_at f h l (omega arith) r) in omega arith;
      free = λ i l r. eqb-true (t i).count 0 (passes_at f h l r);
    }

module _ (s : Space) (t : Table) (x v : ℕ) {j p k : ℕ}
    (ends : walk s.size (s.home x) x t ≡ absent j p) (first : first_empty s.size j t ≡ after k) where
  open s use {size as m, home, home_in}

  abbrev now : Table
  now = stored m j k (cell p x v) t

  new_at : (i : ℕ) → rank m j i ≡ 0 → now i ≡ cell p x v
  new_at i = stored_new m j k t i (cell p x v)

  moved_at : (i : ℕ) → 0 < rank m j i → rank m j i ≤ k → now i ≡ raised (t (prior m i))
  moved_at i = stored_moved m j k t i (cell p x v)

  same_at : (i : ℕ) → k < rank m j i → now i ≡ t i
  same_at i = stored_same m j k t i (cell p x v)

  start : j < m
  start = absent_in s t x ends

  why : AbsentAt m (home x) x t j p
  why = absent_at m (home x) x t ends

  run : Run m j k t
  run = run_of m t start first

  -- its records are the old ones and the new one

  pub stored_stands_new : Stands m (stored m j k (cell p x v) t) (record { identifier = x; entry = v })
  stored_stands_new =
      let e = new_at j (rank_self start) in
      (j, start, rw e why.from, ap record_of e)

  pub stored_stands_old : (r : Record) → Stands m t r → Stands m (stored m j k (cell p x v) t) r
  stored_stands_old r (i, h, o, e) = go (dec_lt (rank m j i) k) (dec_lt k (rank m j i))
    where
      go : Dec (rank m j i < k) → Dec (k < rank m j i) → Stands m now r
      go (yes l) d =
          let q = rank_next start h (omega (arith, run.short)) in
          let c : now (next m i) ≡ raised (t i) =
          moved_at (next m i) (omega arith) (omega arith) ∙ ap (λ (a : ℕ). raised (t a)) (prior_next h) in
          (next m i, next_in h, rw c (omega arith), ap record_of c ∙ e)
      go (no l) (yes g) = (i, h, rw (same_at i g) o, ap record_of (same_at i g) ∙ e)
      go (no l) (no g) = absurd (omega (arith, run.free i h (omega arith)))

  pub stored_stands_back : (r : Record) → Stands m (stored m j k (cell p x v) t) r
      → (r ≡ record { identifier = x; entry = v }) ⊎ Stands m t r
  stored_stands_back r (i, h, o, e) = go (rank m j i) refl (dec_le (rank m j i) k)
    where
      go : (q : ℕ) → rank m j i ≡ q → Dec (rank m j i ≤ k) → (r ≡ record { identifier = x; entry = v }) ⊎ Stands m t r
      go zero z d = inl (sym e ∙ ap record_of (new_at i z))
      go (suc q) z (yes l) =
          let b = rank_prior start h z in
          inr (prior m i, prior_in h, run.full (prior m i) (prior_in h) (omega arith), sym (ap record_of (moved_at i (omega arith) l)) ∙ e)
      go (suc q) z (no l) =
          let c = same_at i (omega arith) in
          inr (i, h, rw c at o, sym (ap record_of c) ∙ e)

  -- another free slot stays free
  pub stored_room : (f : ℕ) → f < m → (t f).count ≡ 0 → (f ≡ onward m j k → ⊥) → Room s (stored m j k (cell p x v) t)
  stored_room f h z n = go (dec_lt (rank m j f) k) (dec_lt k (rank m j f))
    where
      go : Dec (rank m j f < k) → Dec (k < rank m j f) → Room s now
      go (yes l) d = absurd (omega (arith, run.full f h l))
      go (no l) (yes g) = (f, h, rw (same_at f g) z)
      go (no l) (no g) =
          let e : rank m j f ≡ k = omega arith in
          absurd (n (sym (onward_rank start h) ∙ ap (onward m j) e))

  -- one of two free slots stays free
  pub stored_room_two : (f g : ℕ) → f < m → g < m → (t f).count ≡ 0 → (t g).count ≡ 0 → (f ≡ g → ⊥)
      → Room s (stored m j k (cell p x v) t)
  stored_room_two f g h l z u n = go (ℕ_discrete f (onward m j k))
    where
      go : Dec (f ≡ onward m j k) → Room s now
      go (yes e) = stored_room g l u (λ q. n (e ∙ sym q))
      go (no d) = stored_room f h z d

  pub stored_clean : Clean m t → Clean m (stored m j k (cell p x v) t)
  stored_clean clean i h z = go (rank m j i) refl (dec_le (rank m j i) k)
    where
      go : (q : ℕ) → rank m j i ≡ q → Dec (rank m j i ≤ k) → now i ≡ empty
      go zero e d = absurd (omega (arith, rw (new_at i e) at z, why.from))
      go (suc q) e (yes l) = absurd (omega (arith, rw (moved_at i (omega arith) l) at z))
      go (suc q) e (no l) = let c = same_at i (omega arith) in c ∙ clean i h (rw c at z)

  module _ (local : Local s t) where
    -- the slot before the new record's is as it was, where the record has passed it
    before_new : 2 ≤ p → let i = prior m j in (now i ≡ t i) × CellBeats (t i) (p - 1) x
    before_new l =
        let c : suc (p - 1) ≡ p = omega arith in
        let back : slot_at m (home x) (p - 1) ≡ prior m j =
        sym (slot_back (home_in x) (omega arith)) ∙ ap (prior m) (ap (slot_at m (home x)) c ∙ sym why.slot) in
        let b = rw back at (why.passed (p - 1) (omega arith) (omega arith)) in
        go b (dec_lt k (rank m j (prior m j)))
      where
        go : let i = prior m j in CellBeats (t i) (p - 1) x → Dec (k < rank m j i) → (now i ≡ t i) × CellBeats (t i) (p - 1) x
        go b (yes r) = (same_at _ r, b)
        go b (no r) =
            let last = rank_before start in
            let z = run.free (prior m j) (prior_in start) (omega (arith, run.short)) in
            absurd (omega (arith, b.ge))

    new_follows : Follows (now (prior m j)) (cell p x v)
    new_follows l =
        let old = before_new l in
        let b = old.1 in
        rw old.0 (record { ge = omega arith; tie = λ u. b.tie (omega arith) })

    moved_follows : (i : ℕ) → i < m → rank m j i < k → Follows (now i) (raised (t i))
    moved_follows i h l = go (rank m j i) refl
      where
        go : (r : ℕ) → rank m j i ≡ r → Follows (now i) (raised (t i))
        go zero e =
            rw (new_at i e, rank_zero start h e, add-one (t j).count) (λ u. beats_raise why.wins)
        go (suc r) e =
            let q = rank_prior start h e in
            rw
            (moved_at i (omega arith) (omega arith))
            (follows_raised (t (prior m i)) (t i) (run.full (prior m i) (prior_in h) (omega arith)) (local i h).behind)

    stored_behind : (i : ℕ) → i < m → Follows (now (prior m i)) (now i)
    stored_behind i h = go (rank m j i) refl
      where
        next_to : (r : ℕ) → rank m j i ≡ suc r → rank m j (prior m i) ≡ r → Dec (r < k) → Dec (k < r)
            → Follows (now (prior m i)) (now i)
        next_to r e q (yes l) d =
            rw (moved_at i (omega arith) (omega arith)) (moved_follows (prior m i) (prior_in h) (omega arith))
        next_to r e q (no l) (yes g) =
            rw
            (same_at i (omega arith), same_at (prior m i) (omega arith))
            (local i h).behind
        next_to r e q (no l) (no g) =
            let z = run.free (prior m i) (prior_in h) (omega arith) in
            rw
            (same_at i (omega arith))
            (follows_settled (now (prior m i)) (t i) (settled_after (t (prior m i)) (t i) z (local i h).behind))

        go : (r : ℕ) → rank m j i ≡ r → Follows (now (prior m i)) (now i)
        go zero e = rw (new_at i e, rank_zero start h e) new_follows
        go (suc r) e = next_to r e (rank_prior start h e) (dec_lt r k) (dec_lt k r)

    stored_far : (i : ℕ) → i < m → Placed s i (now i)
    stored_far i h = go (rank m j i) refl (dec_le (rank m j i) k)
      where
        go : (r : ℕ) → rank m j i ≡ r → Dec (rank m j i ≤ k) → Placed s i (now i)
        go zero e d = rw (new_at i e, rank_zero start h e) (λ u. why.slot)
        go (suc r) e (yes l) =
            let q = rank_prior start h e in
            rw
            (moved_at i (omega arith) l)
            (placed_raised s (t (prior m i)) h (run.full (prior m i) (prior_in h) (omega arith)) (local (prior m i) (prior_in h)).far)
        go (suc r) e (no l) = rw (same_at i (omega arith)) (local i h).far

    pub stored_local : Local s (stored m j k (cell p x v) t)
    stored_local i h = record { far = stored_far i h; behind = stored_behind i h }

    -- no count grows too far, where a free slot remains

    pub stored_near : Room s (stored m j k (cell p x v) t) → p < m
    stored_near room = rw (new_at j (rank_self start)) at (counts_below s now stored_local room j start)

    near_to : Room s now → (q : ℕ) → q ≤ k → any_far m j t q ≡ false
    unfolding any_far
    near_to room zero l = refl
    near_to room (suc q) l = rw (near_to room q (omega arith), lt-leb (m - 1) (t (onward m j q)).count below)
      where
        below : (t (onward m j q)).count < m - 1
        below =
            let o = onward_in q start in
            let e : rank m j (next m (onward m j q)) ≡ suc q =
            ap (rank m j) (sym (onward_suc m j q)) ∙ rank_onward start (omega (arith, run.short)) in
            let c = moved_at (next m (onward m j q)) (omega arith) (omega arith) in
            let b = rw (c, prior_next o) at (counts_below s now stored_local room (next m (onward m j q)) (next_in o)) in
            omega arith

    pub stored_none_far : Room s (stored m j k (cell p x v) t) → any_far m j t k ≡ false
    stored_none_far room = near_to room k (omega arith)
