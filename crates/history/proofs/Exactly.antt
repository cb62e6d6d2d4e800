-- Exactly when: two statements that both hold, or neither of which does.
use mathlib.Core.Logic.{◌↔◌}

pub both : {A B : Type 0} → A → B → A ↔ B
both a b = (λ u. b, λ u. a)

pub neither : {A B : Type 0} → (A → ⊥) → (B → ⊥) → A ↔ B
neither f g = (λ a. absurd (f a), λ b. absurd (g b))
