-- One digit: what it is worth, and which digit a byte is. By the ranges 0 to 9 and a to f. Assumes nothing.
use Prim.Native.Nat.{ℕ, ◌+◌, ◌-◌, ◌*◌, ◌/◌, ◌%◌, ◌<◌, ◌≤◌}
use mathlib.Core.Path.{◌≡◌, refl, sym, ◌∙◌, ap}
use mathlib.Core.Bool.{Bool, true, false, cond}
use native.Mathlib.Omega.{arith}
use lib.Dec.{ltb}
use borrow.Author.Tests.{lt-ltb, le-ltb, ltb-true, ltb-false}
use Rattle.std.specs.Prelude.{Option, Some, None}
use Rattle.std.specs.Bool.{then_some}
use Rattle.std.proofs.lemmas.Option.{none-some, same_Some}
use Rattle.digits.specs.Digits.{digit_of, worth_of}

pub worth_digit : (k : ℕ) → k < 16 → worth_of (digit_of k) ≡ Some k
unfolding digit_of worth_of
worth_digit k h = go (ltb k 10) refl
  where
    go : (t : Bool) → ltb k 10 ≡ t → worth_of (cond t (48 + k) (87 + k)) ≡ Some k
    go true q =
        let l : k < 10 = ltb-true k 10 q in
        let d : 48 + k - 48 ≡ k = omega arith in
        rw (le-ltb (48 + k) 48 (omega arith), lt-ltb (48 + k) 58 (omega arith), d)
    go false q =
        let l : 10 ≤ k = ltb-false k 10 q in
        let d : 87 + k - 87 ≡ k = omega arith in
        rw (le-ltb (87 + k) 48 (omega arith), le-ltb (87 + k) 58 (omega arith), le-ltb (87 + k) 97 (omega arith), lt-ltb (87 + k) 103 (omega arith), d)

-- a byte that is worth v is the digit of v
pub digit_worth : (b v : ℕ) → worth_of b ≡ Some v → (v < 16) × (digit_of v ≡ b)
unfolding digit_of worth_of
digit_worth b v h = go (ltb b 48) (ltb b 58) (ltb b 97) (ltb b 103) refl refl refl refl h
  where
    go : (p q r t : Bool) → ltb b 48 ≡ p → ltb b 58 ≡ q → ltb b 97 ≡ r → ltb b 103 ≡ t →
        cond p None (cond q (Some (b - 48)) (cond r None (cond t (Some (b - 87)) None))) ≡ Some v → (v < 16) × (digit_of v ≡ b)
    go true q r t e f g k l = absurd (none-some v l)
    go false true r t e f g k l =
        let x : 48 ≤ b = ltb-false b 48 e in
        let y : b < 58 = ltb-true b 58 f in
        let z : b - 48 ≡ v = same_Some (b - 48) v l in
        (omega arith, rw (lt-ltb v 10 (omega arith)) (omega arith))
    go false false true t e f g k l = absurd (none-some v l)
    go false false false true e f g k l =
        let x : 97 ≤ b = ltb-false b 97 g in
        let y : b < 103 = ltb-true b 103 k in
        let z : b - 87 ≡ v = same_Some (b - 87) v l in
        (omega arith, rw (le-ltb v 10 (omega arith)) (omega arith))
    go false false false false e f g k l = absurd (none-some v l)

-- the low four bits, and nine more for a letter
abbrev pub guess : ℕ → ℕ
guess b = b % 16 + 9 * (b / 64)

guess_digit : (k : ℕ) → k < 16 → guess (digit_of k) ≡ k
unfolding digit_of
guess_digit k h = go (ltb k 10) refl
  where
    go : (t : Bool) → ltb k 10 ≡ t → guess (cond t (48 + k) (87 + k)) ≡ k
    go true e = omega (arith, ltb-true k 10 e)
    go false e = omega (arith, ltb-false k 10 e)

-- the guess is taken where a test says that its digit is the byte
pub worth_tested : (b : ℕ) (t : Bool) → (t ≡ true → (guess b < 16) × (digit_of (guess b) ≡ b)) → (t ≡ false → guess b < 16 → digit_of (guess b) ≡ b → ⊥) →
    then_some t (guess b) ≡ worth_of b
worth_tested b true y n = let h = y refl in sym (worth_digit (guess b) h.0) ∙ ap worth_of h.1
worth_tested b false y n = go (worth_of b) refl
  where
    go : (o : Option ℕ) → worth_of b ≡ o → None ≡ o
    go None e = refl
    go (Some v) e =
        let d = digit_worth b v e in
        let g : guess b ≡ v = rw d.1 at (guess_digit v d.0) in
        absurd (n refl (rw g d.0) (rw g d.1))
