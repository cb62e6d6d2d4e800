-- What a pick's value says of its test, where the other case has another value. Assumes nothing.
use mathlib.Core.Path.{◌≡◌, refl}
use mathlib.Core.Bool.{Bool, true, false, cond}

pub picked_first : {A : Type 0} (b : Bool) {x y z : A} → cond b x y ≡ z → (y ≡ z → ⊥) → (b ≡ true) × (x ≡ z)
picked_first true e n = (refl, e)
picked_first false e n = absurd (n e)

pub picked_second : {A : Type 0} (b : Bool) {x y z : A} → cond b x y ≡ z → (x ≡ z → ⊥) → (b ≡ false) × (y ≡ z)
picked_second true e n = absurd (n e)
picked_second false e n = (refl, e)
