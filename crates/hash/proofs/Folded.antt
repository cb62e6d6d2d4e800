-- The hash is the fold of its step, and a number's bytes are those that the library's method gives.
-- By induction on the list; and the two lists of bytes are the remainders of the same eight quotients.
use Rattle.std.proofs.Common.{◌≡◌, ℕ, List, [], ◌∷◌, fold, w64, refl}
use Rattle.std.proofs.Math.Nat.{div-div-eq-div-mul}
use Rattle.std.specs.Int.{to_le_bytes}
use Rattle.hash.specs.Fnv.{fnv_start, fnv_step, fnv_from, fnv, low_bytes, little_bytes}

folded : (h : ℕ) (s : List ℕ) → fold fnv_step h s ≡ fnv_from h s
unfolding fnv_from
folded h [] = refl
folded h (b ∷ s) = folded (fnv_step h b) s

pub hash_of_list : (s : List ℕ) → fold fnv_step fnv_start s ≡ fnv s
unfolding fnv
hash_of_list s = folded fnv_start s

pub little : (n : ℕ) → to_le_bytes w64 n ≡ little_bytes n
unfolding little_bytes low_bytes
little n = simp div-div-eq-div-mul
