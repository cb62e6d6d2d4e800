-- What a run's end says of its records, and the cases of a store and a remove at the walk's end that follow from it. Assumes nothing.
use Prim.Native.Nat.{ℕ, ◌-◌, ◌≤◌, ◌<◌}
use mathlib.Core.Path.{◌≡◌, refl, sym}
use mathlib.Core.Bool.{Bool, true, false, cond}
use mathlib.Core.List.{List}
use native.Mathlib.Omega.{arith}
use borrow.Author.Tests.{leb-false}
use Rattle.arrangement.specs.Table.{Table, onward}
use Rattle.arrangement.specs.Changes.{First, after, none, first_empty, first_settled, is_empty, is_settled, any_far}
use Rattle.arrangement.proofs.First.{first_at}
use Rattle.register.specs.declared.head.Head.{Head}
use Rattle.register.specs.declared.answer.Answer.{Answer}
use Rattle.register.specs.Slices.{table_of, words_of, counts_of}
use Rattle.register.specs.Private.{Holds}
use Rattle.register.specs.Runs.{near_by, store_reach}
use Rattle.register.specs.Shifts.{Liftable}
use Rattle.register.specs.Answers.{Out, out, refusal}
use Rattle.register.specs.Store.{store_done, store_run}
use Rattle.register.proofs.Slices.{held_words, held_counts}

-- lists that hold a table, with an answer
pub held_out : {m : ℕ} {t : Table} {ws cs : List ℕ} {a b : Answer} → a ≡ b → Holds m t ws cs → out a ws cs ≡ out b (words_of m t) (counts_of m t)
held_out {m} {t} {ws} {cs} {a} {b} e h =
    let p = held_words h in
    let q = held_counts h in
    λ j. record { answer = e j; words = p j; counts = q j }

-- the end of a store's run, and that every record of the run may move
pub reach_near : (m s k : ℕ) (t : Table) → after k ≡ store_reach m s t → (first_empty m s t ≡ after k) × (any_far m s t k ≡ false)
unfolding store_reach
reach_near m s k t e = go (first_empty m s t) refl e
  where
    near : (i : ℕ) (b : Bool) → any_far m s t i ≡ b → first_empty m s t ≡ after i → after k ≡ cond b none (after i) → (first_empty m s t ≡ after k) × (any_far m s t k ≡ false)
    near i true f q r = absurd (let z : ◌≡◌ {A = ℕ} 0 1 = cc in omega arith)
    near i false f q r = let y : i ≡ k = cc in (cc, rw (← y) f)

    go : (f : First) → first_empty m s t ≡ f → after k ≡ near_by m s t f → (first_empty m s t ≡ after k) × (any_far m s t k ≡ false)
    go none q r = absurd (let z : ◌≡◌ {A = ℕ} 0 1 = cc in omega arith)
    go (after i) q r = near i (any_far m s t i) refl q r

pub reach_short : (m s k : ℕ) (t : Table) → after k ≡ store_reach m s t → k < m
unfolding first_empty
reach_short m s k t e = let f = first_at is_empty m s t m 0 (reach_near m s k t e).0 in omega (arith, f.to)

-- a store by the slot that its run may reach
module _ (h : Head) (ws cs : List ℕ) (x v s p : ℕ) where
  abbrev pub store_to : First → Out
  store_to none = out (refusal 6 h) ws cs
  store_to (after k) = store_done h (table_of ws cs) x v s p k

  pub store_to_reach : store_run h ws cs x v s p (first_empty h.slots s (table_of ws cs)) ≡ store_to (store_reach h.slots s (table_of ws cs))
  unfolding store_reach
  store_to_reach = go (first_empty h.slots s (table_of ws cs))
    where
      near : (k : ℕ) (b : Bool) → cond b (out (refusal 6 h) ws cs) (store_done h (table_of ws cs) x v s p k) ≡ store_to (cond b none (after k))
      near k true = refl
      near k false = refl

      go : (f : First) → store_run h ws cs x v s p f ≡ store_to (near_by h.slots s (table_of ws cs) f)
      go none = refl
      go (after k) = near k (any_far h.slots s (table_of ws cs) k)

-- the end of a remove's run: the records before it may move back
pub settled_run : (m s e : ℕ) (t : Table) → after e ≡ first_settled m s t → (1 ≤ e) × (e - 1 < m) × Liftable m s (e - 1) t
unfolding first_settled
settled_run m s e t q =
    let f = first_at is_settled m s t (m - 1) 1 (sym q) in
    (f.from, omega (arith, f.from, f.to), λ i l o. leb-false (t (onward m s i)).count 1 (f.fails i l (omega (arith, f.from))))
