-- In every call, on every input, 1 and 2 come back exactly for a bad head and for slices that do not fit a good one.
-- The opening decides; no call answers 1 or 2 after it.
use Prim.Native.Nat.{ℕ, ◌*◌}
use native.Mathlib.Omega.{arith}
use mathlib.Core.Path.{◌≡◌, refl, sym, ◌∙◌}
use mathlib.Core.Bool.{Bool, true, false, cond, false≢true}
use mathlib.Core.List.{List}
use lib.ListN.{length}
use lib.Dec.{eqb}
use borrow.Author.Tests.{eqb-true, eqb-false}
use Rattle.arrangement.specs.Walk.{End, found, absent, endless}
use Rattle.arrangement.specs.Changes.{First, after, none, first_empty, first_settled, any_far}
use Rattle.register.specs.declared.head.Head.{Head}
use Rattle.register.specs.declared.answer.Answer.{Answer}
use Rattle.register.specs.Head.{most_live_of, good_head}
use Rattle.register.specs.Slices.{table_of}
use Rattle.register.specs.Answers.{Out, out, refusal, length_number, open_number}
use Rattle.register.specs.Clear.{new_head, clear_of}
use Rattle.register.specs.Find.{walk_of, find_by, find_of}
use Rattle.register.specs.Store.{store_run, store_by, store_of}
use Rattle.register.specs.Remove.{remove_run, remove_by, remove_of}
use Rattle.register.specs.Change.{change_by, change_of}
use Rattle.register.specs.Check.{accepts, check_of}
use Rattle.register.specs.Census.{census_answer, greatest_of, stored_of, absent_of, census_of}
use Rattle.history.proofs.Exactly.{neither}
use Rattle.history.proofs.Cases.{tested}
use Rattle.history.specs.Numbers.{Opening, Openings}

-- neither 1 nor 2
pub record Later (n : ℕ) : Type 0 where
  pub not_one : n ≡ 1 → ⊥
  pub not_two : n ≡ 2 → ⊥

pub record LaterOut (o : Out) : Type 0 where
  pub number : Later o.answer.number

-- the opening's number, and where it is 0 a later one
opening : (h : Head) (words counts : ℕ) {k : ℕ} → Later k → let n = open_number h words counts in Opening h words counts (cond (eqb n 0) k n)
unfolding open_number length_number
opening h words counts {k} later = go (good_head h) (eqb words (2 * h.slots)) (eqb counts h.slots) refl refl refl
  where
    go : (g a b : Bool) → good_head h ≡ g → eqb words (2 * h.slots) ≡ a → eqb counts h.slots ≡ b
        → let n : ℕ = cond g (cond a (cond b 0 2) 2) 1 in Opening h words counts (cond (eqb n 0) k n)
    go true true true p q r =
        record {
          bad_head = neither later.not_one (λ e. false≢true (sym e ∙ p));
          bad_length = neither later.not_two (λ u. u.1 (eqb-true _ _ q, eqb-true _ _ r));
        }
    go true true false p q r =
        record {
          bad_head = neither (λ z. omega arith) (λ e. false≢true (sym e ∙ p));
          bad_length = (λ z. (p, λ u. eqb-false _ _ r u.1), λ u. refl);
        }
    go true false b p q r =
        record {
          bad_head = neither (λ z. omega arith) (λ e. false≢true (sym e ∙ p));
          bad_length = (λ z. (p, λ u. eqb-false _ _ q u.0), λ u. refl);
        }
    go false a b p q r =
        record {
          bad_head = (λ z. p, λ e. refl);
          bad_length = neither (λ z. omega arith) (λ u. false≢true (sym p ∙ u.0));
        }

-- the same of a call that goes on to o, and hands back the head g where it refuses
opening_out : (h g : Head) (ws cs : List ℕ) (o : Out) → LaterOut o
    → let n = open_number h (length ws) (length cs) in Opening h (length ws) (length cs) (cond (eqb n 0) o (out (refusal n g) ws cs)).answer.number
opening_out h g ws cs o later = go (eqb n 0) (opening h (length ws) (length cs) later.number)
  where
    n : ℕ
    n = open_number h (length ws) (length cs)

    go : (b : Bool) → Opening h (length ws) (length cs) (cond b o.answer.number n) → Opening h (length ws) (length cs) (cond b o (out (refusal n g) ws cs)).answer.number
    go true p = p
    go false p = p

opening_answer : (h : Head) (w c : ℕ) (a : Answer) → Later a.number → let n = open_number h w c in Opening h w c (cond (eqb n 0) a (refusal n h)).number
opening_answer h w c a later = go (eqb n 0) (opening h w c later)
  where
    n : ℕ
    n = open_number h w c

    go : (b : Bool) → Opening h w c (cond b a.number n) → Opening h w c (cond b a (refusal n h)).number
    go true p = p
    go false p = p

either : (b : Bool) {o u : Out} → LaterOut o → LaterOut u → LaterOut (cond b o u)
either = tested LaterOut

module _ (h : Head) (ws cs : List ℕ) where
  find_opening : (x : ℕ) → Opening h (length ws) (length cs) (find_of h ws cs x).number
  unfolding find_of
  find_opening x = opening_answer h (length ws) (length cs) _ (by_end (walk_of h (table_of ws cs) x))
    where
      by_end : (e : End) → Later (find_by h (table_of ws cs) e).number
      by_end (found i p) = omega arith
      by_end (absent i p) = omega arith
      by_end endless = omega arith

  store_opening : (x v : ℕ) → Opening h (length ws) (length cs) (store_of h ws cs x v).answer.number
  unfolding store_of
  store_opening x v = opening_out h h ws cs _ (by_end (walk_of h (table_of ws cs) x))
    where
      by_run : (s p : ℕ) (f : First) → LaterOut (store_run h ws cs x v s p f)
      by_run s p none = omega arith
      by_run s p (after k) = either (any_far h.slots s (table_of ws cs) k) (omega arith) (omega arith)

      by_end : (e : End) → LaterOut (store_by h ws cs x v e)
      by_end (found i p) = omega arith
      by_end (absent s p) =
          either (eqb h.live (most_live_of h)) (omega arith)
          (either (eqb p h.slots) (omega arith) (by_run s p (first_empty h.slots s (table_of ws cs))))
      by_end endless = omega arith

  remove_opening : (x : ℕ) → Opening h (length ws) (length cs) (remove_of h ws cs x).answer.number
  unfolding remove_of
  remove_opening x = opening_out h h ws cs _ (by_end (walk_of h (table_of ws cs) x))
    where
      by_run : (s p : ℕ) (f : First) → LaterOut (remove_run h ws cs s p f)
      by_run s p none = omega arith
      by_run s p (after k) = omega arith

      by_end : (e : End) → LaterOut (remove_by h ws cs e)
      by_end (found s p) = either (eqb h.live 0) (omega arith) (by_run s p (first_settled h.slots s (table_of ws cs)))
      by_end (absent i p) = omega arith
      by_end endless = omega arith

  change_opening : (x v : ℕ) → Opening h (length ws) (length cs) (change_of h ws cs x v).answer.number
  unfolding change_of
  change_opening x v = opening_out h h ws cs _ (by_end (walk_of h (table_of ws cs) x))
    where
      by_end : (e : End) → LaterOut (change_by h ws cs v e)
      by_end (found s p) = omega arith
      by_end (absent i p) = omega arith
      by_end endless = omega arith

  check_opening : Opening h (length ws) (length cs) (check_of h ws cs).number
  unfolding check_of
  check_opening = opening_answer h (length ws) (length cs) _ (by_verdict (accepts h (table_of ws cs)))
    where
      by_verdict : (b : Bool) → Later (cond b (refusal 0 h) (refusal 6 h)).number
      by_verdict true = omega arith
      by_verdict false = omega arith

  census_opening : Opening h (length ws) (length cs) (census_of h ws cs).number
  unfolding census_of
  census_opening = go (eqb n 0) (opening h (length ws) (length cs) {k = 0} (omega arith))
    where
      n : ℕ
      n = open_number h (length ws) (length cs)

      go : (b : Bool) → Opening h (length ws) (length cs) (cond b 0 n)
          → Opening h (length ws) (length cs) (cond b (census_answer 0 (greatest_of cs) (stored_of cs) (absent_of h.slots cs) h) (census_answer n 0 0 0 h)).number
      go true p = p
      go false p = p

clear_opening : (old : Head) (m rule salt : ℕ) (ws cs : List ℕ) → Opening (new_head m rule salt) (length ws) (length cs) (clear_of old m rule salt ws cs).answer.number
unfolding clear_of
clear_opening old m rule salt ws cs = opening_out (new_head m rule salt) old ws cs _ (omega arith)

pub openings : Openings
openings =
    record {
      clear = clear_opening;
      find = find_opening;
      store = store_opening;
      remove = remove_opening;
      change = change_opening;
      check = check_opening;
      census = census_opening;
    }
