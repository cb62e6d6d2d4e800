-- The product of two numbers of two digits each in base P, kept modulo P * P, from three products of digits.
-- By multiplying out: the fourth product is a multiple of P * P, and the wrapping adds drop the others.
use Rattle.std.proofs.Common.{◌≡◌, ℕ, ◌+◌, ◌*◌, ◌/◌, ◌%◌, ◌^◌, sym, refl, ◌∙◌, add_assoc, mul_assoc, mul_comm, add-mul, add_comm, div-add-mod', mul-add, mul_left_comm}
use native.Mathlib.Nat.{add_left_comm, mod-add-mod, add-mod-mod, mul-add-mod_self_right}

multiplied_out : (P a₀ a₁ b₀ b₁ : ℕ) → (a₁ * P + a₀) * (b₁ * P + b₀) ≡ a₁ * b₁ * (P * P) + (a₀ * b₀ + a₁ * b₀ * P + a₀ * b₁ * P)
multiplied_out P a₀ a₁ b₀ b₁ = simp (mul-add, add-mul, mul_assoc, mul_comm, mul_left_comm, add_assoc, add_comm, add_left_comm) refl

wraps : (P a₀ a₁ b₀ b₁ : ℕ)
    → ((a₀ * b₀ + (a₁ * b₀ * P) % (P * P)) % (P * P) + (a₀ * b₁ * P) % (P * P)) % (P * P) ≡ ((a₁ * P + a₀) * (b₁ * P + b₀)) % (P * P)
wraps P a₀ a₁ b₀ b₁ =
    simp (mod-add-mod, add-mod-mod) (sym (mul-add-mod_self_right (a₁ * b₁) (P * P) (a₀ * b₀ + a₁ * b₀ * P + a₀ * b₁ * P)) ∙ rw (multiplied_out P a₀ a₁ b₀ b₁))

-- what the multiply computes is the product modulo 2^64
pub wrapped : (a b : ℕ)
    → (((a % 2 ^ 32) * (b % 2 ^ 32) + ((a / 2 ^ 32) * (b % 2 ^ 32) * 2 ^ 32) % 2 ^ 64) % 2 ^ 64 + ((a % 2 ^ 32) * (b / 2 ^ 32) * 2 ^ 32) % 2 ^ 64) % 2 ^ 64 ≡ (a * b) % 2 ^ 64
wrapped a b = wraps (2 ^ 32) (a % 2 ^ 32) (a / 2 ^ 32) (b % 2 ^ 32) (b / 2 ^ 32) ∙ rw (div-add-mod' a (2 ^ 32), div-add-mod' b (2 ^ 32))
