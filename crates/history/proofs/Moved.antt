-- Moved is the number of records that changed slot: those that a store moves on, those that a remove moves back.
-- A slot's record leaves it exactly where the slot lies in the run, and as many slots lie less than k after s as k says.
use Prim.Native.Nat.{ℕ, zero, suc, ◌+◌, ◌≤◌, ◌<◌}
use native.Mathlib.Decide.{ℕ_discrete, dec_lt}
use native.Mathlib.Omega.{arith}
use mathlib.Core.Path.{◌≡◌, refl, sym, ap, ◌∙◌}
use mathlib.Core.Bool.{Bool, true, false, cond}
use mathlib.Core.List.{List}
use lib.Dec.{eqb, ltb}
use borrow.Author.Tests.{eq-eqb, ne_eqb, lt-ltb, le-ltb}
use Rattle.arrangement.specs.Table.{Cell, Table, Record, record_of, empty, rank, onward}
use Rattle.arrangement.specs.Proper.{Space, Proper}
use Rattle.arrangement.specs.Walk.{found, absent, walk}
use Rattle.arrangement.specs.Changes.{after, first_empty, first_settled, raised, lowered, prior, next, stored, removed}
use Rattle.arrangement.proofs.Cycle.{prior_in, next_in, onward_in, rank_zero, rank_onward, onward_rank, rank_next, rank_prior}
use Rattle.arrangement.proofs.Walk.{found_in, absent_in}
use Rattle.arrangement.proofs.Outside.{stored_new, stored_moved, stored_same, removed_moved, removed_last, removed_same}
use Rattle.arrangement.proofs.Store.{cell, Run, run_of}
use Rattle.arrangement.proofs.Remove.{Tail, tail_of}
use Rattle.arrangement.proofs.Changed.{absent_fresh, found_occupied}
use Rattle.history.specs.Moved.{leaves, count_if, moved_to}

-- counting

count_as : (f g : ℕ → Bool) (i n : ℕ) → ((k : ℕ) → i ≤ k → k < i + n → f k ≡ g k) → count_if f i n ≡ count_if g i n
unfolding count_if
count_as f g i zero e = refl
count_as f g i (suc n) e = rw (e i (omega arith) (omega arith), count_as f g (suc i) n (λ k a b. e k (omega arith) (omega arith)))

count_none : (f : ℕ → Bool) (i n : ℕ) → ((k : ℕ) → i ≤ k → k < i + n → f k ≡ false) → count_if f i n ≡ 0
unfolding count_if
count_none f i zero e = refl
count_none f i (suc n) e = rw (e i (omega arith) (omega arith)) (count_none f (suc i) n (λ k a b. e k (omega arith) (omega arith)))

-- one number more passes
count_more : (f g : ℕ → Bool) (a i n : ℕ) → i ≤ a → a < i + n → f a ≡ false → g a ≡ true → ((k : ℕ) → k < i + n → (k ≡ a → ⊥) → f k ≡ g k) → count_if g i n ≡ suc (count_if f i n)
unfolding count_if
count_more f g a i zero l u p q e = absurd (omega arith)
count_more f g a i (suc n) l u p q e = go (ℕ_discrete i a) (λ d. count_more f g a (suc i) n (omega arith) (omega arith) p q (λ k b. e k (omega arith)))
  where
    later : (b : Bool) → count_if g (suc i) n ≡ suc (count_if f (suc i) n) → cond b (suc (count_if g (suc i) n)) (count_if g (suc i) n) ≡ suc (cond b (suc (count_if f (suc i) n)) (count_if f (suc i) n))
    later true r = ap suc r
    later false r = r

    go : Dec (i ≡ a) → ((i ≡ a → ⊥) → count_if g (suc i) n ≡ suc (count_if f (suc i) n)) → count_if g i (suc n) ≡ suc (count_if f i (suc n))
    go (yes d) r =
        let same = count_as f g (suc i) n (λ k b c. e k (omega arith) (omega arith)) in
        rw (ap g d ∙ q, ap f d ∙ p) (ap suc (sym same))
    go (no d) r = rw (e i (omega arith) d) (later (g i) (r d))

-- k slots lie less than k after s
count_rank : (m s : ℕ) → s < m → (k : ℕ) → k ≤ m → count_if (λ i. ltb (rank m s i) k) 0 m ≡ k
count_rank m s h zero l = count_none (λ i. ltb (rank m s i) 0) 0 m (λ i a b. le-ltb (rank m s i) 0 (omega arith))
count_rank m s h (suc k) l =
    let a : ℕ = onward m s k in
    let r : rank m s a ≡ k = rank_onward h (omega arith) in
    count_more (λ i. ltb (rank m s i) k) (λ i. ltb (rank m s i) (suc k)) a 0 m (omega arith) (omega (arith, onward_in k h))
    (le-ltb (rank m s a) k (omega arith)) (lt-ltb (rank m s a) (suc k) (omega arith)) other
    ∙ ap suc (count_rank m s h k (omega arith))
  where
    other : (i : ℕ) → i < 0 + m → (i ≡ onward m s k → ⊥) → ltb (rank m s i) k ≡ ltb (rank m s i) (suc k)
    other i b n = go (dec_lt (rank m s i) k)
      where
        go : Dec (rank m s i < k) → ltb (rank m s i) k ≡ ltb (rank m s i) (suc k)
        go (yes d) = lt-ltb (rank m s i) k d ∙ sym (lt-ltb (rank m s i) (suc k) (omega arith))
        go (no d) =
            let apart : rank m s i ≡ k → ⊥ = λ e. n (sym (onward_rank h (omega arith)) ∙ ap (onward m s) e) in
            le-ltb (rank m s i) k (omega arith) ∙ sym (le-ltb (rank m s i) (suc k) (omega arith))

-- when a slot's record leaves it

leaves_other : (c d : Cell) → 0 < c.count → (d.identifier ≡ c.identifier → ⊥) → leaves c d ≡ true
leaves_other c d o n = rw (ne_eqb c.count 0 (omega arith)) (go (eqb d.count 0))
  where
    go : (b : Bool) → cond b true (cond (eqb d.identifier c.identifier) false true) ≡ true
    go true = refl
    go false = rw (ne_eqb d.identifier c.identifier n)

leaves_empty : (c d : Cell) → c.count ≡ 0 → leaves c d ≡ false
leaves_empty c d z = rw (eq-eqb c.count 0 z)

leaves_same : (c d : Cell) → d ≡ c → leaves c d ≡ false
leaves_same c d e = rw (e, eq-eqb c.identifier c.identifier refl) (go (eqb c.count 0))
  where
    go : (b : Bool) → cond b false (cond b true false) ≡ false
    go true = refl
    go false = refl

module _ {s : Space} {rs : List Record} {t : Table} (P : Proper s rs t) where
  open s use {size as m, home}

  -- a store moves the records from its slot up to before the first empty one
  module _ (x v : ℕ) {j p k : ℕ} (ends : walk m (home x) x t ≡ absent j p) (first : first_empty m j t ≡ after k) where
    store_leaves : (i : ℕ) → i < m → leaves (t i) (stored m j k (cell p x v) t i) ≡ ltb (rank m j i) k
    store_leaves i l = go (rank m j i) refl (dec_lt (rank m j i) k) (dec_lt k (rank m j i))
      where
        start : j < m
        start = absent_in s t x ends

        run : Run m j k t
        run = run_of m t start first

        go : (r : ℕ) → rank m j i ≡ r → Dec (rank m j i < k) → Dec (k < rank m j i) → leaves (t i) (stored m j k (cell p x v) t i) ≡ ltb (rank m j i) k
        go zero e (yes a) d =
            let o = run.full i l a in
            rw
            (lt-ltb (rank m j i) k a, stored_new m j k t i (cell p x v) e)
            (leaves_other (t i) (cell p x v) o (λ q. absent_fresh P ends (record_of (t i)) (P.others i l o) (sym q)))
        go (suc r) e (yes a) d =
            let o = run.full i l a in
            let b = rank_prior start l e in
            let c = run.full (prior m i) (prior_in l) (omega arith) in
            rw
            (lt-ltb (rank m j i) k a, stored_moved m j k t i (cell p x v) (omega arith) (omega arith))
            (leaves_other (t i) (raised (t (prior m i))) o (λ q. omega (arith, ap (rank m j) (P.once (prior m i) i (prior_in l) l c o q))))
        go r e (no a) (yes d) = rw (le-ltb (rank m j i) k (omega arith)) (leaves_same (t i) (stored m j k (cell p x v) t i) (stored_same m j k t i (cell p x v) d))
        go r e (no a) (no d) = rw (le-ltb (rank m j i) k (omega arith)) (leaves_empty (t i) (stored m j k (cell p x v) t i) (run.free i l (omega arith)))

    pub store_moved : (u : Table) → ((i : ℕ) → i < m → u i ≡ stored m j k (cell p x v) t i) → moved_to m t u ≡ k
    store_moved u same =
        let start = absent_in s t x ends in
        count_as (λ i. leaves (t i) (u i)) (λ i. ltb (rank m j i) k) 0 m (λ i a b. ap (leaves (t i)) (same i (omega arith)) ∙ store_leaves i (omega arith))
        ∙ count_rank m j start k (omega (arith, (run_of m t start first).short))

  -- a remove moves the records that follow its slot up to before the first settled one
  module _ (x : ℕ) {j p k : ℕ} (ends : walk m (home x) x t ≡ found j p) (first : first_settled m j t ≡ after (suc k)) where
    remove_leaves : (i : ℕ) → i < m → leaves (removed m j k t i) (t i) ≡ ltb (rank m j i) k
    remove_leaves i l = go (dec_lt (rank m j i) k) (dec_lt k (rank m j i))
      where
        start : j < m
        start = found_in s t x ends

        tail : Tail m j k t
        tail = tail_of m t start first

        occupied_in : (r : ℕ) → rank m j i ≡ r → rank m j i < k → 0 < (t i).count
        occupied_in zero e a = rw (rank_zero start l e) (found_occupied s t x ends)
        occupied_in (suc r) e a = omega (arith, tail.moves i l (omega arith) (omega arith))

        go : Dec (rank m j i < k) → Dec (k < rank m j i) → leaves (removed m j k t i) (t i) ≡ ltb (rank m j i) k
        go (yes a) d =
            let o = occupied_in (rank m j i) refl a in
            let b = rank_next start l (omega (arith, tail.short)) in
            let c = tail.moves (next m i) (next_in l) (omega arith) (omega arith) in
            rw
            (lt-ltb (rank m j i) k a, removed_moved m j k t i a)
            (leaves_other (lowered (t (next m i))) (t i) (omega arith) (λ q. omega (arith, ap (rank m j) (P.once i (next m i) l (next_in l) o (omega arith) q))))
        go (no a) (yes d) = rw (le-ltb (rank m j i) k (omega arith)) (leaves_same (removed m j k t i) (t i) (sym (removed_same m j k t i d)))
        go (no a) (no d) = rw (le-ltb (rank m j i) k (omega arith), removed_last m j k t i (omega arith)) (leaves_empty empty (t i) refl)

    pub remove_moved : (u : Table) → ((i : ℕ) → i < m → u i ≡ removed m j k t i) → moved_to m u t ≡ k
    remove_moved u same =
        let start = found_in s t x ends in
        count_as (λ i. leaves (u i) (t i)) (λ i. ltb (rank m j i) k) 0 m (λ i a b. ap (λ (c : Cell). leaves c (t i)) (same i (omega arith)) ∙ remove_leaves i (omega arith))
        ∙ count_rank m j start k (omega (arith, (tail_of m t start first).short))
