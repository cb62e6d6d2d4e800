-- Removing and moving back keeps neighbours in agreement, takes out the one record and keeps the others.
-- Inside the run both neighbours sink; at its start one is skipped; behind its end stands one that leans on nobody.
use Prim.Native.Nat.{ℕ, zero, suc, ◌-◌, ◌≤◌, ◌<◌}
use mathlib.Core.Path.{◌≡◌, refl, sym, ap, ◌∙◌}
use native.Mathlib.Decide.{dec_lt}
use native.Mathlib.Omega.{arith}
use borrow.Author.Tests.{le-leb, leb-true, leb-false}
use Rattle.arrangement.specs.Table.{Table, Record, Occupied, record_of, empty, onward, rank}
use Rattle.arrangement.specs.Proper.{Space, Local, Room, Clean}
use Rattle.arrangement.specs.Changes.{after, is_settled, first_settled, lowered, prior, next, removed}
use Rattle.arrangement.proofs.Cycle.{prior_in, next_in, onward_in, next_prior, onward_rank, rank_in, rank_self, rank_zero, rank_onward, rank_next, rank_prior, rank_before}
use Rattle.arrangement.proofs.Beats.{Follows, follows_settled, follows_lowered, follows_skip}
use Rattle.arrangement.proofs.Local.{Stands, Other, Placed, placed_lowered, local_next, ordered_of_local}
use Rattle.arrangement.proofs.First.{first_at, first_there, fails_at, passes_at}
use Rattle.arrangement.proofs.Outside.{removed_moved, removed_last, removed_same}

-- up to the first settled slot all have left their homes
pub record Tail (m j k : ℕ) (t : Table) : Type 0 where
  pub short : suc k < m
  pub moves : (i : ℕ) → i < m → 0 < rank m j i → rank m j i ≤ k → 2 ≤ (t i).count
  pub stays : (i : ℕ) → i < m → rank m j i ≡ suc k → (t i).count ≤ 1

pub tail_of : (m : ℕ) {j k : ℕ} (t : Table) → j < m → first_settled m j t ≡ after (suc k) → Tail m j k t
unfolding first_settled
tail_of m {j} {k} t h e =
    let f = first_at is_settled m j t (m - 1) 1 e in
    record {
      short = omega arith;
      moves = λ i l z r. leb-false (t i).count 1 (fails_at f h l z (omega arith));
      stays = λ i l r. leb-true (t i).count 1 (passes_at f h l r);
    }

-- a free slot elsewhere is settled, so there is a first one
pub settled_there : (s : Space) (t : Table) {j : ℕ} → j < s.size → Occupied t j → Room s t
    → (k : ℕ) × (first_settled s.size j t ≡ after (suc k))
unfolding first_settled
settled_there s t {j} h o (f, l, z) = go (rank s.size j f) refl
  where
    beyond : (q : ℕ) → first_settled s.size j t ≡ after q → (k : ℕ) × (first_settled s.size j t ≡ after (suc k))
    beyond zero e = absurd (omega (arith, (first_at is_settled s.size j t (s.size - 1) 1 e).from))
    beyond (suc k) e = (k, e)

    go : (r : ℕ) → rank s.size j f ≡ r → (k : ℕ) × (first_settled s.size j t ≡ after (suc k))
    go zero e = let c = ap (λ (a : ℕ). (t a).count) (rank_zero h l e) in absurd (omega arith)
    go (suc r) e =
        let b = rank_in f h in
        let q = first_there is_settled s.size j t (s.size - 1) 1 (rank s.size j f) (omega arith) (omega arith) (rw (onward_rank h l) (le-leb (t f).count 1 (omega arith))) in
        beyond q.0 q.1

module _ (s : Space) (t : Table) {j k : ℕ} (start : j < s.size) (first : first_settled s.size j t ≡ after (suc k)) where
  open s use {size as m}

  abbrev now : Table
  now = removed m j k t

  moved_at : (i : ℕ) → rank m j i < k → now i ≡ lowered (t (next m i))
  moved_at = removed_moved m j k t

  last_at : (i : ℕ) → rank m j i ≡ k → now i ≡ empty
  last_at = removed_last m j k t

  same_at : (i : ℕ) → k < rank m j i → now i ≡ t i
  same_at = removed_same m j k t

  tail : Tail m j k t
  tail = tail_of m t start first

  next_moves : (i : ℕ) → i < m → rank m j i < k → (rank m j (next m i) ≡ suc (rank m j i)) × (2 ≤ (t (next m i)).count)
  next_moves i h l =
      let e = rank_next start h (omega (arith, tail.short)) in
      (e, tail.moves (next m i) (next_in h) (omega arith) (omega arith))

  -- the slot last vacated is free
  pub removed_room : Room s (removed m j k t)
  removed_room = (onward m j k, onward_in k start, rw (last_at (onward m j k) (rank_onward start (omega (arith, tail.short)))))

  pub removed_clean : Clean m t → Clean m (removed m j k t)
  removed_clean clean i h z = go (dec_lt (rank m j i) k) (dec_lt k (rank m j i))
    where
      go : Dec (rank m j i < k) → Dec (k < rank m j i) → now i ≡ empty
      go (yes l) d = absurd (omega (arith, rw (moved_at i l) at z, next_moves i h l))
      go (no l) (yes g) = same_at i g ∙ clean i h (rw (same_at i g) at z)
      go (no l) (no g) = last_at i (omega arith)

  -- its records are the old ones but the removed one

  pub removed_stands_old : (r : Record) → Stands m t r → Other t j r → Stands m (removed m j k t) r
  removed_stands_old r (i, h, o, e) n = go (rank m j i) refl (dec_lt k (rank m j i))
    where
      go : (q : ℕ) → rank m j i ≡ q → Dec (k < rank m j i) → Stands m now r
      go zero z d =
          absurd (n (sym (ap (λ (a : Record). a.identifier) e) ∙ ap (λ (a : ℕ). (t a).identifier) (rank_zero start h z)))
      go (suc q) z (yes g) = (i, h, rw (same_at i g) o, ap record_of (same_at i g) ∙ e)
      go (suc q) z (no g) =
          let b = rank_prior start h z in
          let c : now (prior m i) ≡ lowered (t i) =
          moved_at (prior m i) (omega arith) ∙ ap (λ (a : ℕ). lowered (t a)) (next_prior h) in
          (prior m i, prior_in h, rw c (omega (arith, tail.moves i h (omega arith) (omega arith))), ap record_of c ∙ e)

  module _ (local : Local s t) (occ : Occupied t j) where
    -- no other slot has the removed identifier
    alone : (i : ℕ) → i < m → Occupied t i → 0 < rank m j i → (t i).identifier ≡ (t j).identifier → ⊥
    alone i h o z e =
        let c = ap (rank m j) ((ordered_of_local s t local).once i j h start o occ e) in
        omega (arith, rank_self start)

    pub removed_stands_back : (r : Record) → Stands m (removed m j k t) r → Stands m t r × Other t j r
    removed_stands_back r (i, h, o, e) = go (dec_lt (rank m j i) k) (dec_lt k (rank m j i))
      where
        from : (q : ℕ) → q < m → Occupied t q → 0 < rank m j q → record_of (t q) ≡ r → Stands m t r × Other t j r
        from q l u z c = ((q, l, u, c), λ y. alone q l u z (ap (λ (a : Record). a.identifier) c ∙ y))

        go : Dec (rank m j i < k) → Dec (k < rank m j i) → Stands m t r × Other t j r
        go (yes l) d =
            let n = next_moves i h l in
            from (next m i) (next_in h) (omega arith) (omega arith) (sym (ap record_of (moved_at i l)) ∙ e)
        go (no l) (yes g) = from i h (rw (same_at i g) at o) (omega arith) (sym (ap record_of (same_at i g)) ∙ e)
        go (no l) (no g) = absurd (omega (arith, rw (last_at i (omega arith)) at o))

    removed_far : (i : ℕ) → i < m → Placed s i (now i)
    removed_far i h = go (dec_lt (rank m j i) k) (dec_lt k (rank m j i))
      where
        go : Dec (rank m j i < k) → Dec (k < rank m j i) → Placed s i (now i)
        go (yes l) d =
            rw
            (moved_at i l)
            (placed_lowered s (t (next m i)) h (next_moves i h l).1 (local (next m i) (next_in h)).far)
        go (no l) (yes g) = rw (same_at i g) (local i h).far
        go (no l) (no g) = rw (last_at i (omega arith)) (λ z. absurd (omega arith))

    -- the record after the hole moves in behind the one before it
    hole_behind : Dec (0 < k) → Follows (now (prior m j)) (now j)
    hole_behind (yes l) =
        rw
        (same_at (prior m j) (omega (arith, rank_before start, tail.short)), moved_at j (omega (arith, rank_self start)))
        (follows_skip (t (prior m j)) (t j) (t (next m j)) (local j start).behind (local_next s t local j start))
    hole_behind (no l) =
        rw (last_at j (omega (arith, rank_self start))) (follows_settled (now (prior m j)) empty (omega arith))

    removed_behind : (i : ℕ) → i < m → Follows (now (prior m i)) (now i)
    removed_behind i h = go (rank m j i) refl
      where
        inner : (r : ℕ) → rank m j i ≡ suc r → rank m j (prior m i) ≡ r → Dec (suc r < k) → Dec (k < suc r) → Dec (k < r)
            → Follows (now (prior m i)) (now i)
        inner r e q (yes l) d g =
            rw
            (moved_at i (omega arith), moved_at (prior m i) (omega arith), next_prior h)
            (follows_lowered (t i) (t (next m i)) (local_next s t local i h))
        inner r e q (no l) (no d) g = rw (last_at i (omega arith)) (follows_settled (now (prior m i)) empty (omega arith))
        inner r e q (no l) (yes d) (yes g) =
            rw (same_at i (omega arith), same_at (prior m i) (omega arith)) (local i h).behind
        inner r e q (no l) (yes d) (no g) =
            rw
            (same_at i (omega arith))
            (follows_settled (now (prior m i)) (t i) (tail.stays i h (omega arith)))

        go : (r : ℕ) → rank m j i ≡ r → Follows (now (prior m i)) (now i)
        go zero e = rw (rank_zero start h e) (hole_behind (dec_lt 0 k))
        go (suc r) e = inner r e (rank_prior start h e) (dec_lt (suc r) k) (dec_lt k (suc r)) (dec_lt k r)

    pub removed_local : Local s (removed m j k t)
    removed_local i h = record { far = removed_far i h; behind = removed_behind i h }
