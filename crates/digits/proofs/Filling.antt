-- A part filled with digits from its end: the digits still to come and the part behind them are the number's digits.
-- By one equation a digit. Assumes nothing.
use Prim.Native.Nat.{ℕ, zero, suc, ◌/◌, ◌%◌, ◌<◌}
use mathlib.Core.Path.{◌≡◌, refl, sym}
use mathlib.Core.List.{List, [], ◌∷◌, ◌++◌, append_assoc}
use native.Mathlib.Numerals.{add-one}
use native.Mathlib.Omega.{arith}
use lib.ListN.{length, drop, set, length-append}
use Rattle.std.proofs.lemmas.List.{drop-set}
use Rattle.digits.specs.Digits.{digit_of, digits_of}

pub fill_step : (s : List ℕ) (j n b : ℕ) → j < length s → b ≡ digit_of (n % 16) →
    digits_of j (n / 16) ++ drop j (set s j b) ≡ digits_of (suc j) n ++ drop (suc j) s
unfolding digits_of
fill_step s j n b l e = rw (drop-set s j b l, add-one, e) (sym (append_assoc (digits_of j (n / 16)) (digit_of (n % 16) ∷ []) (drop (suc j) s)))

pub length_digits : (w n : ℕ) → length (digits_of w n) ≡ w
unfolding digits_of
length_digits zero n = refl
length_digits (suc w) n = rw (length-append, length_digits w (n / 16)) (omega arith)
