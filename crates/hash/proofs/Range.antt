-- A hash is a 64-bit number, whatever it is a hash of.
-- By induction on the list: the start is one, and each step is a remainder by 2^64.
use Rattle.std.proofs.Common.{ℕ, ◌^◌, ◌<◌, List, [], ◌∷◌, ◌++◌, mod-lt, arith, pow_pos}
use Rattle.hash.specs.Fnv.{fnv_start, fnv_step, fnv_from, fnv, little_bytes, key_hash}

step_lt : (h b : ℕ) → fnv_step h b < 2 ^ 64
unfolding fnv_step
step_lt h b = mod-lt _ (pow_pos 64)

from_lt : (h : ℕ) (s : List ℕ) → h < 2 ^ 64 → fnv_from h s < 2 ^ 64
unfolding fnv_from
from_lt h [] small = small
from_lt h (b ∷ s) small = from_lt (fnv_step h b) s (step_lt h b)

pub fnv_lt : (s : List ℕ) → fnv s < 2 ^ 64
unfolding fnv fnv_start
fnv_lt s = from_lt fnv_start s (omega arith)

pub key_hash_lt : (salt id : ℕ) → key_hash salt id < 2 ^ 64
unfolding key_hash
key_hash_lt salt id = fnv_lt (little_bytes salt ++ little_bytes id)
