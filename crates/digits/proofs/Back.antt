-- Digits and numbers go back and forth: a field's number is below its width's power, a number's digits read back as the number,
-- and digits that read as a number are that number's digits. By induction over the digits. Assumes nothing.
use Prim.Native.Nat.{ℕ, zero, suc, ◌+◌, ◌*◌, ◌/◌, ◌%◌, ◌^◌, ◌<◌, ◌≤◌}
use mathlib.Core.Path.{◌≡◌, refl, sym, ◌∙◌}
use mathlib.Core.Bool.{Bool, true, false, cond}
use mathlib.Core.List.{List, [], ◌∷◌, ◌++◌, append_assoc, append-nil}
use native.Mathlib.Nat.{pow-suc, div-add-mod', div-lt_iff_lt-mul, mod-lt}
use native.Mathlib.Omega.{arith}
use lib.ListN.{length, take, drop}
use lib.Dec.{leb}
use borrow.Author.Tests.{leb-true}
use Rattle.std.specs.Prelude.{Option, Some, None}
use Rattle.std.proofs.lemmas.Option.{none-some, same_Some, option_and_then_some}
use Rattle.digits.specs.Digits.{digit_of, digits_of, worth_of, number_from, field_of}
use Rattle.digits.proofs.Single.{worth_digit, digit_worth}
use Rattle.digits.proofs.Reading.{one_more_below}
use Rattle.digits.proofs.Placing.{part_length}

pub number_below : (s : List ℕ) (i a n : ℕ) → a < 16 ^ i → number_from a s ≡ Some n → n < 16 ^ (i + length s)
unfolding number_from
number_below [] i a n h e = let z : i + 0 ≡ i = omega arith in rw (sym (same_Some a n e), z) h
number_below (b ∷ s) i a n h e =
    let k : suc i + length s ≡ i + suc (length s) = omega arith in
    option_and_then_some _ (worth_of b) n e
    (λ v d f. rw k at (number_below s (suc i) (a * 16 + v) n (one_more_below i a v h (digit_worth b v d).0) f))

pub number_append : (s t : List ℕ) (a m : ℕ) → number_from a s ≡ Some m → number_from a (s ++ t) ≡ number_from m t
unfolding number_from
number_append [] t a m e = rw (same_Some a m e)
number_append (b ∷ s) t a m e = option_and_then_some _ (worth_of b) m e (λ v d f. rw d (number_append s t (a * 16 + v) m f))

pub read_back : (w n : ℕ) → n < 16 ^ w → number_from 0 (digits_of w n) ≡ Some n
unfolding number_from digits_of
read_back zero n h = let z : n ≡ 0 = omega arith in rw z
read_back (suc w) n h =
    let v : n % 16 < 16 = mod-lt n (omega arith) in
    let q : n / 16 < 16 ^ w = (div-lt_iff_lt-mul {k = 16} {x = n} {y = 16 ^ w} (omega arith)).1 (rw pow-suc at h) in
    number_append (digits_of w (n / 16)) (digit_of (n % 16) ∷ []) 0 (n / 16) (read_back w (n / 16) q) ∙
    (rw (worth_digit (n % 16) v, div-add-mod' n 16))

pub digits_after : (s : List ℕ) (i a n : ℕ) → number_from a s ≡ Some n → digits_of (i + length s) n ≡ digits_of i a ++ s
unfolding number_from digits_of
digits_after [] i a n e = let z : i + 0 ≡ i = omega arith in rw (sym (same_Some a n e), z) (sym (append-nil (digits_of i a)))
digits_after (b ∷ s) i a n e = option_and_then_some _ (worth_of b) n e (λ v d f. step v (digit_worth b v d) (digits_after s (suc i) (a * 16 + v) n f))
  where
    step : (v : ℕ) → (v < 16) × (digit_of v ≡ b) → digits_of (suc i + length s) n ≡ digits_of (suc i) (a * 16 + v) ++ s →
        digits_of (i + suc (length s)) n ≡ digits_of i a ++ (b ∷ s)
    step v d f =
        let k : suc i + length s ≡ i + suc (length s) = omega arith in
        let h : v < 16 = d.0 in
        let q : (a * 16 + v) / 16 ≡ a = omega arith in
        let r : (a * 16 + v) % 16 ≡ v = omega arith in
        (rw k at f) ∙ (rw (q, r, d.1) (append_assoc (digits_of i a) (b ∷ []) s))

-- a test that gives nothing otherwise was passed
pub test_passed : {A : Type 0} (t : Bool) (o : Option A) (x : A) → cond t o None ≡ Some x → (t ≡ true) × (o ≡ Some x)
test_passed true o x e = (refl, e)
test_passed false o x e = absurd (none-some x e)

field_number : (line : List ℕ) (i w n : ℕ) → field_of line i w ≡ Some n →
    (i + w ≤ length line) × (number_from 0 (take w (drop i line)) ≡ Some n)
unfolding field_of
field_number line i w n e =
    let f = test_passed (leb w 16) (cond (leb (i + w) (length line)) (number_from 0 (take w (drop i line))) None) n e in
    let g = test_passed (leb (i + w) (length line)) (number_from 0 (take w (drop i line))) n f.1 in
    (leb-true (i + w) (length line) g.0, g.1)

pub field_below : (line : List ℕ) (i w n : ℕ) → field_of line i w ≡ Some n → n < 16 ^ w
field_below line i w n e =
    let f = field_number line i w n e in
    let l : 0 + length (take w (drop i line)) ≡ w = omega (arith, part_length line i w f.0) in
    rw l at (number_below (take w (drop i line)) 0 0 n (omega arith) f.1)

pub field_digits : (line : List ℕ) (i w n : ℕ) → field_of line i w ≡ Some n → take w (drop i line) ≡ digits_of w n
unfolding digits_of
field_digits line i w n e =
    let f = field_number line i w n e in
    let l : 0 + length (take w (drop i line)) ≡ w = omega (arith, part_length line i w f.0) in
    sym (rw l at (digits_after (take w (drop i line)) 0 0 n f.1))
