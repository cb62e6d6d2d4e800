-- A byte xored into a number changes its lowest eight bits alone: the xor against its remainder form.
-- By the laws that xor keeps quotients and remainders by 2^8; those of a byte are zero and the byte.
use Rattle.std.proofs.Common.{◌≡◌, ℕ, ◌/◌, ◌%◌, ◌^◌, ◌<◌, ap, ◌∙◌, bit_xor, arith}
use Rattle.std.proofs.lemmas.Nat.{xor_mod, xor_shr}
use lib.Bits.{xor_zero_r}
use Rattle.hash.specs.Fnv.{xor_byte_of}

pub xor_remainder : (h b : ℕ) → b < 256 → bit_xor h b ≡ xor_byte_of h b
unfolding xor_byte_of
xor_remainder h b small =
    let rest : bit_xor h b / 2 ^ 8 ≡ h / 2 ^ 8 = xor_shr h b 8 ∙ ap (bit_xor (h / 2 ^ 8)) (omega arith) ∙ xor_zero_r (h / 2 ^ 8) in
    let lowest : bit_xor h b % 2 ^ 8 ≡ bit_xor (h % 2 ^ 8) b = xor_mod h b 8 ∙ ap (bit_xor (h % 2 ^ 8)) (omega arith) in
    omega arith
