-- On every input, a call that only asks leaves the register as it was; and a clear is taken exactly when it is valid.
-- By cases of each definition: every answer has the given head.
use Prim.Native.Nat.{ℕ, ◌*◌}
use mathlib.Core.Path.{◌≡◌, refl}
use mathlib.Core.Bool.{Bool, true, false, cond}
use mathlib.Core.List.{List}
use lib.ListN.{length, replicate}
use lib.Dec.{eqb}
use Rattle.arrangement.specs.Walk.{End, found, absent, endless}
use Rattle.register.specs.declared.head.Head.{Head}
use Rattle.register.specs.Head.{good_head}
use Rattle.register.specs.Slices.{table_of}
use Rattle.register.specs.Answers.{out, refusal, answer_of, length_number, open_number}
use Rattle.register.specs.Clear.{new_head, clear_of}
use Rattle.register.specs.Find.{walk_of, find_by, find_of}
use Rattle.register.specs.Check.{accepts, check_of}
use Rattle.register.specs.Census.{census_answer, greatest_of, stored_of, absent_of, census_of}
use Rattle.history.specs.Calls.{State, find, check, census, after}
use Rattle.history.specs.Live.{valid_clear}

module _ (h : Head) (ws cs : List ℕ) where
  find_head : (x : ℕ) → (find_of h ws cs x).head ≡ h
  unfolding find_of
  find_head x = go (eqb (open_number h (length ws) (length cs)) 0) (walk_of h (table_of ws cs) x)
    where
      go : (b : Bool) (e : End) → (cond b (find_by h (table_of ws cs) e) (refusal (open_number h (length ws) (length cs)) h)).head ≡ h
      go true (found i p) = refl
      go true (absent i p) = refl
      go true endless = refl
      go false e = refl

  check_head : (check_of h ws cs).head ≡ h
  unfolding check_of
  check_head = go (eqb (open_number h (length ws) (length cs)) 0) (accepts h (table_of ws cs))
    where
      go : (b a : Bool) → (cond b (cond a (refusal 0 h) (refusal 6 h)) (refusal (open_number h (length ws) (length cs)) h)).head ≡ h
      go true true = refl
      go true false = refl
      go false a = refl

  census_head : (census_of h ws cs).head ≡ h
  unfolding census_of
  census_head = go (eqb (open_number h (length ws) (length cs)) 0)
    where
      go : (b : Bool) → (cond b (census_answer 0 (greatest_of cs) (stored_of cs) (absent_of h.slots cs) h) (census_answer (open_number h (length ws) (length cs)) 0 0 0 h)).head ≡ h
      go true = refl
      go false = refl

-- find, check and census leave the register as it was, whatever it is
module _ (s : State) where
  pub find_leaves : (x : ℕ) → after (find x) s ≡ s
  unfolding after
  find_leaves x = rw (find_head s.head s.words s.counts x)

  pub check_leaves : after check s ≡ s
  unfolding after
  check_leaves = rw (check_head s.head s.words s.counts)

  pub census_leaves : after census s ≡ s
  unfolding after
  census_leaves = rw (census_head s.head s.words s.counts)

-- a clear is taken exactly when it is valid
pub valid_opens : (m rule salt words counts : ℕ) → eqb (open_number (new_head m rule salt) words counts) 0 ≡ valid_clear m rule salt words counts
unfolding open_number length_number
valid_opens m rule salt words counts = go (good_head (new_head m rule salt)) (eqb words (2 * m)) (eqb counts m)
  where
    go : (g a b : Bool) → eqb (cond g (cond a (cond b 0 2) 2) 1) 0 ≡ cond g (cond a b false) false
    go true true true = refl
    go true true false = refl
    go true false b = refl
    go false a b = refl

module _ (old : Head) (m rule salt : ℕ) (ws cs : List ℕ) where
  pub clear_taken : valid_clear m rule salt (length ws) (length cs) ≡ true → clear_of old m rule salt ws cs ≡ out (answer_of 0 0 0 0 0 (new_head m rule salt)) (replicate (2 * m) 0) (replicate m 0)
  unfolding clear_of
  clear_taken e = rw (valid_opens m rule salt (length ws) (length cs), e)

  pub clear_refused : valid_clear m rule salt (length ws) (length cs) ≡ false → clear_of old m rule salt ws cs ≡ out (refusal (open_number (new_head m rule salt) (length ws) (length cs)) old) ws cs
  unfolding clear_of
  clear_refused e = rw (valid_opens m rule salt (length ws) (length cs), e)
