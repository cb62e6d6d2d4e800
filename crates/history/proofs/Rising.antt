-- The live records as a rising list: each of the map's changes keeps it rising and does to its members what the map says.
-- By recursion over the list.
use Prim.Native.Nat.{ℕ, ◌<◌}
use native.Mathlib.Omega.{arith}
use mathlib.Core.Path.{◌≡◌, refl, sym}
use mathlib.Core.Bool.{Bool, true, false, cond}
use mathlib.Core.Logic.{◌⊎◌, inl, inr, ◌≢◌, ◌↔◌}
use mathlib.Core.List.Memᴰ
use mathlib.Core.List.{List, [], ◌∷◌}
use lib.Dec.{eqb, ltb}
use borrow.Author.Tests.{ltb-true, ltb-false}
use Rattle.arrangement.specs.Table.{Record, Among, Fresh, Distinct, SameRecords, without}
use Rattle.arrangement.proofs.Records.{without_among}
use Rattle.history.specs.Live.{insert, Rising}

-- every record of rs has an identifier above a
abbrev Above : ℕ → List Record → Type 0
Above a rs = (q : Record) → Among q rs → a < q.identifier

above_cons : {a : ℕ} {r : Record} {rs : List Record} → a < r.identifier → Above a rs → Above a (r ∷ rs)
above_cons {a} {r} {rs} l f q m = go (Memᴰ.cases_cons m)
  where
    go : (q ≡ r) ⊎ Among q rs → a < q.identifier
    go (inl e) = rw e l
    go (inr n) = f q n

pub rising_distinct : (rs : List Record) → Rising rs → Distinct rs
unfolding Rising Distinct
rising_distinct [] u = tt
rising_distinct (r ∷ rs) u = (λ q a e. omega (arith, u.0 q a), rising_distinct rs u.1)

-- a record put in

pub insert_among : (r : Record) (rs : List Record) → SameRecords (r ∷ rs) (insert r rs)
unfolding insert
insert_among r [] q = (λ a. a, λ a. a)
insert_among r (p ∷ ps) q = go (ltb r.identifier p.identifier) (insert_among r ps q)
  where
    deeper : (q ≡ r) ⊎ Among q (p ∷ ps) → (Among q (r ∷ ps) → Among q (insert r ps)) → Among q (p ∷ insert r ps)
    deeper (inl e) f = Memᴰ.tail (f (Memᴰ.head e))
    deeper (inr a) f = below (Memᴰ.cases_cons a)
      where
        below : (q ≡ p) ⊎ Among q ps → Among q (p ∷ insert r ps)
        below (inl e) = Memᴰ.head e
        below (inr b) = Memᴰ.tail (f (Memᴰ.tail b))

    higher : (q ≡ p) ⊎ Among q (insert r ps) → (Among q (insert r ps) → Among q (r ∷ ps)) → Among q (r ∷ p ∷ ps)
    higher (inl e) f = Memᴰ.tail (Memᴰ.head e)
    higher (inr a) f = above (Memᴰ.cases_cons (f a))
      where
        above : (q ≡ r) ⊎ Among q ps → Among q (r ∷ p ∷ ps)
        above (inl e) = Memᴰ.head e
        above (inr b) = Memᴰ.tail (Memᴰ.tail b)

    go : (b : Bool) → Among q (r ∷ ps) ↔ Among q (insert r ps) → Among q (r ∷ p ∷ ps) ↔ Among q (cond b (r ∷ p ∷ ps) (p ∷ insert r ps))
    go true ih = (λ a. a, λ a. a)
    go false ih = (λ a. deeper (Memᴰ.cases_cons a) ih.0, λ a. higher (Memᴰ.cases_cons a) ih.1)

pub insert_rising : (r : Record) (rs : List Record) → Fresh r.identifier rs → Rising rs → Rising (insert r rs)
unfolding insert Rising
insert_rising r [] fresh u = (λ q a. absurd (Memᴰ.not-nil a), tt)
insert_rising r (p ∷ ps) fresh u =
    go (ltb r.identifier p.identifier) refl (insert_rising r ps (λ q a. fresh q (Memᴰ.tail a)) u.1)
  where
    apart : p.identifier ≢ r.identifier
    apart = fresh p (Memᴰ.head refl)

    split : (q : Record) → p.identifier < r.identifier → (q ≡ r) ⊎ Among q ps → p.identifier < q.identifier
    split q l (inl e) = rw e l
    split q l (inr a) = u.0 q a

    go : (b : Bool) → ltb r.identifier p.identifier ≡ b → Rising (insert r ps) → Rising (cond b (r ∷ p ∷ ps) (p ∷ insert r ps))
    go true e ih =
        let l = ltb-true r.identifier p.identifier e in
        (above_cons l (λ q a. omega (arith, u.0 q a)), u)
    go false e ih =
        let l = ltb-false r.identifier p.identifier e in
        (λ q a. split q (omega (arith, apart)) (Memᴰ.cases_cons ((insert_among r ps q).1 a)), ih)

-- an identifier taken out

pub without_rising : (x : ℕ) (rs : List Record) → Rising rs → Rising (without x rs)
unfolding without Rising
without_rising x [] u = tt
without_rising x (r ∷ rs) u = go (eqb r.identifier x) (without_rising x rs u.1)
  where
    go : (b : Bool) → Rising (without x rs) → Rising (cond b (without x rs) (r ∷ without x rs))
    go true ih = ih
    go false ih = (λ q a. u.0 q (without_among x rs q a).0, ih)

-- a set of records has one rising list
pub rising_same : (rs qs : List Record) → Rising rs → Rising qs → SameRecords rs qs → rs ≡ qs
unfolding Rising
rising_same [] [] u w same = refl
rising_same [] (q ∷ qs) u w same = absurd (Memᴰ.not-nil ((same q).1 (Memᴰ.head refl)))
rising_same (r ∷ rs) [] u w same = absurd (Memᴰ.not-nil ((same r).0 (Memᴰ.head refl)))
rising_same (r ∷ rs) (q ∷ qs) u w same = cc (first, rising_same rs qs u.1 w.1 (λ p. (rest r q rs qs first u.0 (λ a. (same p).0 a), rest q r qs rs (sym first) w.0 (λ a. (same p).1 a))))
  where
    meet : (r ≡ q) ⊎ Among r qs → (q ≡ r) ⊎ Among q rs → r ≡ q
    meet (inl e) d = e
    meet (inr a) (inl e) = sym e
    meet (inr a) (inr b) = absurd (omega (arith, u.0 q b, w.0 r a))

    first : r ≡ q
    first = meet (Memᴰ.cases_cons ((same r).0 (Memᴰ.head refl))) (Memᴰ.cases_cons ((same q).1 (Memᴰ.head refl)))

    rest : {p : Record} (a b : Record) (ps os : List Record) → a ≡ b → Above a.identifier ps → (Among p (a ∷ ps) → Among p (b ∷ os)) → Among p ps → Among p os
    rest {p} a b ps os e l f m = go (Memᴰ.cases_cons (f (Memᴰ.tail m)))
      where
        go : (p ≡ b) ⊎ Among p os → Among p os
        go (inl c) = let d : p.identifier ≡ a.identifier = cc in absurd (omega (arith, l p m))
        go (inr n) = n
