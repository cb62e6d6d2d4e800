-- Lowercase hexadecimal and fields of fixed width: document 01, "Frames". Assumes nothing.
use Rattle.std.specs.Prelude.{ℕ, zero, suc, ◌+◌, ◌-◌, ◌*◌, ◌/◌, ◌%◌, cond, Option, Some, None, option_and_then, List, [], ◌∷◌, ◌++◌, length, take, drop, leb, ltb}

-- the digit of n: 0 to 9, then a to f
unfoldable pub digit_of : ℕ → ℕ
digit_of n = cond (ltb n 10) (48 + n) (87 + n)

-- the last w digits of n, the most significant first
unfoldable pub digits_of : ℕ → ℕ → List ℕ
digits_of zero n = []
digits_of (suc w) n = digits_of w (n / 16) ++ (digit_of (n % 16) ∷ [])

-- what a byte is worth, if it is a digit
unfoldable pub worth_of : ℕ → Option ℕ
worth_of b = cond (ltb b 48) None (cond (ltb b 58) (Some (b - 48)) (cond (ltb b 97) None (cond (ltb b 103) (Some (b - 87)) None)))

-- the number that digits write after those of n, if each byte is a digit
unfoldable pub number_from : ℕ → List ℕ → Option ℕ
number_from n [] = Some n
number_from n (b ∷ s) = option_and_then (λ v. number_from (n * 16 + v) s) (worth_of b)

-- the field of exactly w digits, at most 16, from place i of a line on
unfoldable pub field_of : List ℕ → ℕ → ℕ → Option ℕ
field_of line i w = cond (leb w 16) (cond (leb (i + w) (length line)) (number_from 0 (take w (drop i line))) None) None

-- a field of w digits with the byte that ends it
abbrev pub ended : ℕ → ℕ → ℕ → List ℕ
ended w n end = digits_of w n ++ (end ∷ [])

-- a line with such a field from place i on; a line that has no room for it stays as it is
unfoldable pub write_of : List ℕ → ℕ → ℕ → ℕ → ℕ → List ℕ
write_of line i w n end = cond (leb (i + (w + 1)) (length line)) (take i line ++ (ended w n end ++ drop (i + (w + 1)) line)) line
