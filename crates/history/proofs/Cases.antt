-- The two ways a call goes on: past an opening number that is 0 or not, and by one test.
-- Each is said of any property of what comes back.
use Prim.Native.Nat.{ℕ}
use mathlib.Core.Path.{◌≡◌, refl}
use mathlib.Core.Bool.{Bool, true, false, cond}
use lib.Dec.{eqb}
use borrow.Author.Tests.{eqb-true, eqb-false}

pub opened : {A : Type 0} (P : A → Type 0) (n : ℕ) {a b : A} → (n ≡ 0 → P a) → ((n ≡ 0 → ⊥) → P b) → P (cond (eqb n 0) a b)
opened {A} P n {a} {b} past refused = go (eqb n 0) refl
  where
    go : (t : Bool) → eqb n 0 ≡ t → P (cond t a b)
    go true e = past (eqb-true n 0 e)
    go false e = refused (eqb-false n 0 e)

pub tested : {A : Type 0} (P : A → Type 0) (t : Bool) {a b : A} → P a → P b → P (cond t a b)
tested P true p q = p
tested P false p q = q
