-- The map of distinct records: it finds exactly the records that are among them, whatever their order.
-- Each law by recursion over the records.
use Prim.Native.Nat.{ℕ}
use native.Mathlib.Decide.{ℕ_discrete}
use native.Mathlib.Omega.{arith}
use mathlib.Core.Path.{◌≡◌, refl, sym, ap, ◌∙◌}
use mathlib.Core.Bool.{Bool, true, false, cond}
use mathlib.Core.Logic.{◌⊎◌, inl, inr}
use mathlib.Core.List.Memᴰ
use mathlib.Core.List.{List, [], ◌∷◌}
use lib.Dec.{eqb}
use borrow.Author.Tests.{eqb-true, eqb-false, eq-eqb, ne_eqb}
use Rattle.arrangement.specs.Table.{Record, Among, Fresh, Distinct, SameRecords, without}
use Rattle.arrangement.proofs.Records.{distinct_same}
use Rattle.history.specs.Map.{Found, live, missing, lookup, with}

-- what the map says of an identifier, and why
pub data Looked (x : ℕ) (rs : List Record) : Found → Type 0 where
  is_live : (v : ℕ) → Among (record { identifier = x; entry = v }) rs → Looked x rs (live v)
  is_missing : Fresh x rs → Looked x rs missing

pub looked : (x : ℕ) (rs : List Record) → Looked x rs (lookup x rs)
unfolding lookup
looked x [] = is_missing (λ r a e. Memᴰ.not-nil a)
looked x (r ∷ rs) = go (eqb r.identifier x) refl (looked x rs)
  where
    fresh : (r.identifier ≡ x → ⊥) → Fresh x rs → (q : Record) → (q ≡ r) ⊎ Among q rs → q.identifier ≡ x → ⊥
    fresh n f q (inl same) e = n (ap (λ (y : Record). y.identifier) (sym same) ∙ e)
    fresh n f q (inr a) e = f q a e

    go : (b : Bool) → eqb r.identifier x ≡ b → {f : Found} → Looked x rs f → Looked x (r ∷ rs) (cond b (live r.entry) f)
    go true e l = is_live r.entry (Memᴰ.head (λ i. record { identifier = sym (eqb-true r.identifier x e) i; entry = r.entry }))
    go false e (is_live v a) = is_live v (Memᴰ.tail a)
    go false e (is_missing f) = is_missing (λ q a. fresh (eqb-false r.identifier x e) f q (Memᴰ.cases_cons a))

pub lookup_fresh : (x : ℕ) (rs : List Record) → Fresh x rs → lookup x rs ≡ missing
lookup_fresh x rs fresh = go (looked x rs)
  where
    go : {f : Found} → Looked x rs f → f ≡ missing
    go (is_live v a) = absurd (fresh _ a refl)
    go (is_missing g) = refl

pub lookup_among : (x v : ℕ) (rs : List Record) → Distinct rs → Among (record { identifier = x; entry = v }) rs → lookup x rs ≡ live v
lookup_among x v rs distinct a = go (looked x rs)
  where
    go : {f : Found} → Looked x rs f → f ≡ live v
    go (is_live w b) = ap (λ (r : Record). live r.entry) (distinct_same rs (record { identifier = x; entry = w }) (record { identifier = x; entry = v }) distinct b a refl)
    go (is_missing g) = absurd (g _ a refl)

-- the same records have the same map
pub lookup_same : (rs qs : List Record) → Distinct qs → SameRecords rs qs → (x : ℕ) → lookup x rs ≡ lookup x qs
lookup_same rs qs distinct same x = go (looked x rs)
  where
    go : {f : Found} → Looked x rs f → f ≡ lookup x qs
    go (is_live v a) = sym (lookup_among x v qs distinct ((same _).0 a))
    go (is_missing g) = sym (lookup_fresh x qs (λ r a. g r ((same r).1 a)))

-- and the other way round
pub same_lookup : (rs qs : List Record) → Distinct rs → Distinct qs → ((x : ℕ) → lookup x rs ≡ lookup x qs) → SameRecords rs qs
same_lookup rs qs d e same r = (one rs qs d same, one qs rs e (λ x. sym (same x)))
  where
    one : (ps bs : List Record) → Distinct ps → ((x : ℕ) → lookup x ps ≡ lookup x bs) → Among r ps → Among r bs
    one ps bs d same a = go (looked r.identifier bs) (sym (same r.identifier) ∙ lookup_among r.identifier r.entry ps d a)
      where
        go : {f : Found} → Looked r.identifier bs f → f ≡ live r.entry → Among r bs
        go (is_live v b) u = let q : v ≡ r.entry = cc in rw q at b
        go (is_missing g) u = let z : ◌≡◌ {A = ℕ} 0 1 = cc in absurd (omega arith)

-- a record put in front, and an identifier taken out

pub lookup_put : (x v : ℕ) (rs : List Record) (y : ℕ) → lookup y (record { identifier = x; entry = v } ∷ rs) ≡ with x (live v) (λ z. lookup z rs) y
unfolding lookup
lookup_put x v rs y = refl

pub lookup_without : (x : ℕ) (rs : List Record) (y : ℕ) → lookup y (without x rs) ≡ with x missing (λ z. lookup z rs) y
unfolding lookup without
lookup_without x [] y = go (eqb x y)
  where
    go : (b : Bool) → missing ≡ cond b missing missing
    go true = refl
    go false = refl
lookup_without x (r ∷ rs) y = go (ℕ_discrete r.identifier x) (ℕ_discrete r.identifier y) (lookup_without x rs y)
  where
    go : Dec (r.identifier ≡ x) → Dec (r.identifier ≡ y) → lookup y (without x rs) ≡ cond (eqb x y) missing (lookup y rs)
        → lookup y (without x (r ∷ rs)) ≡ cond (eqb x y) missing (lookup y (r ∷ rs))
    go (yes e) (yes f) ih = rw (eq-eqb r.identifier x e, eq-eqb x y (sym e ∙ f)) (ih ∙ rw (eq-eqb x y (sym e ∙ f)))
    go (yes e) (no f) ih = rw (eq-eqb r.identifier x e, ne_eqb r.identifier y f) ih
    go (no e) (yes f) ih = rw (ne_eqb r.identifier x e, eq-eqb r.identifier y f, ne_eqb x y (λ q. e (f ∙ sym q)))
    go (no e) (no f) ih = rw (ne_eqb r.identifier x e, ne_eqb r.identifier y f) ih

-- one taken out and put in again with another entry
pub lookup_renew : (x v : ℕ) (rs : List Record) (y : ℕ) → lookup y (record { identifier = x; entry = v } ∷ without x rs) ≡ with x (live v) (λ z. lookup z rs) y
lookup_renew x v rs y = lookup_put x v (without x rs) y ∙ go (eqb x y) (lookup_without x rs y)
  where
    go : (b : Bool) → lookup y (without x rs) ≡ cond b missing (lookup y rs) → cond b (live v) (lookup y (without x rs)) ≡ cond b (live v) (lookup y rs)
    go true e = refl
    go false e = e
