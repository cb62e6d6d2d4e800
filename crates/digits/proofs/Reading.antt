-- Digits read from the left: what is read so far and the rest of a part make its number, which fits.
-- By one equation a digit. Assumes nothing.
use Prim.Native.Nat.{ℕ, suc, ◌+◌, ◌*◌, ◌^◌, ◌<◌}
use mathlib.Core.Path.{◌≡◌}
use mathlib.Core.List.{List}
use native.Mathlib.Nat.{pow-suc, pow-le-pow_right, lt_of_lt_of_le}
use native.Mathlib.Omega.{arith}
use lib.ListN.{length, drop, get_or}
use lib.Seq.{drop-cons}
use Rattle.std.specs.Prelude.{option_and_then}
use Rattle.digits.specs.Digits.{worth_of, number_from}

pub one_more_below : (i n v : ℕ) → n < 16 ^ i → v < 16 → n * 16 + v < 16 ^ suc i
one_more_below i n v h g = rw pow-suc (omega arith)

pub one_more_fits : (i n v : ℕ) → i < 16 → n < 16 ^ i → v < 16 → n * 16 + v < 2 ^ 64
one_more_fits i n v h g l = lt_of_lt_of_le (one_more_below i n v g l) (pow-le-pow_right {n = 16} (omega arith) {i = suc i} {j = 16} h)

-- the rest of a part begins with the byte at its place
pub byte_read : (s : List ℕ) (i n : ℕ) → i < length s →
    number_from n (drop i s) ≡ option_and_then (λ v. number_from (n * 16 + v) (drop (suc i) s)) (worth_of (get_or s i 0))
unfolding number_from
byte_read s i n h = rw (drop-cons s i 0)
