-- On every input: a refusal writes nothing, and each change writes only its run.
-- By cases of each call's definition: every end is a refusal or a table that is the old one outside the run.
use Prim.Native.Nat.{ℕ, ◌-◌, ◌<◌}
use native.Mathlib.Omega.{arith}
use mathlib.Core.Path.{◌≡◌, refl, ap, ◌∙◌}
use mathlib.Core.Bool.{Bool, cond}
use mathlib.Core.List.{List}
use lib.ListN.{length}
use lib.Dec.{eqb}
use Rattle.arrangement.specs.Table.{Table, rank}
use Rattle.arrangement.specs.Walk.{End, found, absent, endless}
use Rattle.arrangement.specs.Changes.{First, after, none, first_empty, first_settled, any_far, stored, removed, changed}
use Rattle.arrangement.proofs.Cycle.{rank_self}
use Rattle.arrangement.proofs.Outside.{stored_same, removed_same, changed_same}
use Rattle.register.specs.declared.head.Head.{Head}
use Rattle.register.specs.declared.answer.Answer.{Answer}
use Rattle.register.specs.Head.{most_live_of}
use Rattle.register.specs.Slices.{table_of, words_of, counts_of}
use Rattle.register.specs.Answers.{Out, out, answer_of, refusal, open_number}
use Rattle.register.specs.Find.{walk_of}
use Rattle.register.specs.Store.{cell_of, store_run, store_by, store_of}
use Rattle.register.specs.Remove.{remove_run, remove_by, remove_of}
use Rattle.register.specs.Change.{change_by, change_of}
use Rattle.register.proofs.Slices.{lists_hold}
use Rattle.history.specs.Writes.{Writes}
use Rattle.history.proofs.Cases.{opened, tested}

module _ (h : Head) (ws cs : List ℕ) where
  -- a refusal
  none_written : (a : Answer) → (a.number ≡ 0 → ⊥) → a.head ≡ h → Writes h ws cs (out a ws cs)
  none_written a n e = record { refused = λ u. record { head = e; words = refl; counts = refl }; outside = λ z. absurd (n z) }

  -- a change done: outside its run the new table is the old one
  run_written : (s v p k : ℕ) (g : Head) (u : Table) → ((i : ℕ) → i < h.slots → k < rank h.slots s i → u i ≡ table_of ws cs i)
      → Writes h ws cs (out (answer_of 0 s v p k g) (words_of h.slots u) (counts_of h.slots u))
  run_written s v p k g u same =
      record { refused = λ n. absurd (n refl); outside = λ z i l r. (lists_hold h.slots u).slots i l ∙ same i l r }

  -- the opening, and then the rest
  opened_writes : (o : Out) → Writes h ws cs o → let n = open_number h (length ws) (length cs) in Writes h ws cs (cond (eqb n 0) o (out (refusal n h) ws cs))
  opened_writes o w = opened (Writes h ws cs) (open_number h (length ws) (length cs)) (λ z. w) (λ n. none_written _ n refl)

  -- one test, both ways
  either_writes : (b : Bool) {o u : Out} → Writes h ws cs o → Writes h ws cs u → Writes h ws cs (cond b o u)
  either_writes = tested (Writes h ws cs)

  six : Writes h ws cs (out (refusal 6 h) ws cs)
  six = none_written _ (λ z. omega arith) refl

  pub store_writes : (x v : ℕ) → Writes h ws cs (store_of h ws cs x v)
  unfolding store_of
  store_writes x v = opened_writes _ (by_end (walk_of h (table_of ws cs) x))
    where
      by_run : (s p : ℕ) (f : First) → Writes h ws cs (store_run h ws cs x v s p f)
      by_run s p none = six
      by_run s p (after k) =
          either_writes (any_far h.slots s (table_of ws cs) k) six
          (run_written s v p k _ (stored h.slots s k (cell_of p x v) (table_of ws cs)) (λ i l r. stored_same h.slots s k (table_of ws cs) i (cell_of p x v) r))

      by_end : (e : End) → Writes h ws cs (store_by h ws cs x v e)
      by_end (found i p) = none_written _ (λ z. omega arith) refl
      by_end (absent s p) =
          either_writes (eqb h.live (most_live_of h)) (none_written _ (λ z. omega arith) refl)
          (either_writes (eqb p h.slots) six (by_run s p (first_empty h.slots s (table_of ws cs))))
      by_end endless = six

  pub remove_writes : (x : ℕ) → Writes h ws cs (remove_of h ws cs x)
  unfolding remove_of
  remove_writes x = opened_writes _ (by_end (walk_of h (table_of ws cs) x))
    where
      by_run : (s p : ℕ) (f : First) → Writes h ws cs (remove_run h ws cs s p f)
      by_run s p none = six
      by_run s p (after e) =
          run_written s _ p (e - 1) _ (removed h.slots s (e - 1) (table_of ws cs)) (λ i l r. removed_same h.slots s (e - 1) (table_of ws cs) i r)

      by_end : (e : End) → Writes h ws cs (remove_by h ws cs e)
      by_end (found s p) = either_writes (eqb h.live 0) six (by_run s p (first_settled h.slots s (table_of ws cs)))
      by_end (absent i p) = none_written _ (λ z. omega arith) refl
      by_end endless = six

  pub change_writes : (x v : ℕ) → Writes h ws cs (change_of h ws cs x v)
  unfolding change_of
  change_writes x v = opened_writes _ (by_end (walk_of h (table_of ws cs) x))
    where
      other : (s i : ℕ) → i < h.slots → 0 < rank h.slots s i → i ≡ s → ⊥
      other s i l r e = let q = ap (λ (k : ℕ). rank h.slots k i) e in omega (arith, rank_self l)

      by_end : (e : End) → Writes h ws cs (change_by h ws cs v e)
      by_end (found s p) = run_written s v p 0 _ (changed s v (table_of ws cs)) (λ i l r. changed_same s v (table_of ws cs) i (other s i l r))
      by_end (absent i p) = none_written _ (λ z. omega arith) refl
      by_end endless = six
