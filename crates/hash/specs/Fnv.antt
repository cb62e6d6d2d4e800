-- 64-bit FNV-1a, from its authors' public description (document 01, "Homes").
use Rattle.std.specs.Prelude.{ℕ, zero, suc, ◌+◌, ◌-◌, ◌*◌, ◌/◌, ◌%◌, ◌^◌, List, [], ◌∷◌, ◌++◌, bit_xor}

-- the start: cbf29ce484222325 (hexadecimal)
unfoldable pub fnv_start : ℕ
fnv_start = 0xcbf29ce484222325

-- the multiplier: 100000001b3 (hexadecimal)
unfoldable pub fnv_prime : ℕ
fnv_prime = 0x100000001b3

-- a byte xored into the lowest eight bits: the rest is the state less its remainder by 256
unfoldable pub xor_byte_of : ℕ → ℕ → ℕ
xor_byte_of h b = (h - h % 256) + bit_xor (h % 256) b

-- each byte is first xored in, then the whole is multiplied and kept modulo 2^64
unfoldable pub fnv_step : ℕ → ℕ → ℕ
unfolding xor_byte_of fnv_prime
fnv_step h b = (xor_byte_of h b * fnv_prime) % 2 ^ 64

-- the hash of the bytes that are left, from a state
unfoldable pub fnv_from : ℕ → List ℕ → ℕ
fnv_from h [] = h
fnv_from h (b ∷ s) = fnv_from (fnv_step h b) s

-- the hash of a list of bytes
unfoldable pub fnv : List ℕ → ℕ
fnv s = fnv_from fnv_start s

-- a number's lowest k bytes, least significant first
unfoldable pub low_bytes : ℕ → ℕ → List ℕ
low_bytes zero n = []
low_bytes (suc k) n = (n % 256) ∷ low_bytes k (n / 256)

-- the eight bytes of a 64-bit number, least significant first
unfoldable pub little_bytes : ℕ → List ℕ
little_bytes n = low_bytes 8 n

-- the hash of sixteen bytes, the salt and then the identifier
unfoldable pub key_hash : ℕ → ℕ → ℕ
key_hash salt id = fnv (little_bytes salt ++ little_bytes id)
