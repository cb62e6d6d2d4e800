-- The records read off any table are those that stand in it; lists of distinct records are counted by their members.
-- By recursion over the slots and over the lists; the pigeonhole takes one record at a time out of the longer list.
use Prim.Native.Nat.{ℕ, zero, suc, ◌+◌, ◌≤◌, ◌<◌}
use native.Mathlib.Nat.{eq-zero-or-pos}
use native.Mathlib.Omega.{arith}
use native.Mathlib.Decide.{ℕ_discrete}
use mathlib.Core.Path.{◌≡◌, refl, sym, ap, ◌∙◌}
use mathlib.Core.Bool.{Bool, true, false, cond}
use mathlib.Core.List.Memᴰ
use mathlib.Core.List.{List, [], ◌∷◌}
use mathlib.Core.Logic.{◌⊎◌, inl, inr, ⊎_elim, ◌≢◌}
use lib.ListN.{length}
use lib.Dec.{eqb}
use borrow.Author.Tests.{eqb-true, eqb-false, ne_eqb}
use Rattle.arrangement.specs.Table.{Table, Occupied, Record, record_of, Among, Fresh, Distinct, records_from, records_of, occupied_from, occupied, without, SameRecords}
use Rattle.arrangement.proofs.Local.{Stands}

-- a record stands in one of n slots from slot i on
abbrev pub StandsFrom : Table → ℕ → ℕ → Record → Type 0
StandsFrom t i n r = (k : ℕ) × (i ≤ k) × (k < i + n) × Occupied t k × (record_of (t k) ≡ r)

stands_from : (t : Table) (i n : ℕ) (r : Record) → Among r (records_from t i n) → StandsFrom t i n r
unfolding records_from
stands_from t i zero r a = absurd (Memᴰ.not-nil a)
stands_from t i (suc n) r a = go (eqb (t i).count 0) refl (stands_from t (suc i) n r) a
  where
    later : StandsFrom t (suc i) n r → StandsFrom t i (suc n) r
    later s = (s.0, omega arith, omega arith, s.3, s.4)

    here : Occupied t i → (r ≡ record_of (t i)) ⊎ Among r (records_from t (suc i) n) → (Among r (records_from t (suc i) n) → StandsFrom t (suc i) n r) → StandsFrom t i (suc n) r
    here o (inl e) below = (i, omega arith, omega arith, o, sym e)
    here o (inr a) below = later (below a)

    go : (b : Bool) → eqb (t i).count 0 ≡ b → (Among r (records_from t (suc i) n) → StandsFrom t (suc i) n r) → Among r (cond b (records_from t (suc i) n) (record_of (t i) ∷ records_from t (suc i) n)) → StandsFrom t i (suc n) r
    go true e below a = later (below a)
    go false e below a = here (omega (arith, eqb-false (t i).count 0 e)) (Memᴰ.cases_cons a) below

among_from : (t : Table) (i n k : ℕ) → i ≤ k → k < i + n → Occupied t k → Among (record_of (t k)) (records_from t i n)
unfolding records_from
among_from t i zero k l h o = absurd (omega arith)
among_from t i (suc n) k l h o = go (eqb (t i).count 0) refl (ℕ_discrete k i) (λ g. among_from t (suc i) n k (omega arith) (omega arith) o)
  where
    go : (b : Bool) → eqb (t i).count 0 ≡ b → Dec (k ≡ i) → (i < k → Among (record_of (t k)) (records_from t (suc i) n)) → Among (record_of (t k)) (cond b (records_from t (suc i) n) (record_of (t i) ∷ records_from t (suc i) n))
    go true e (yes q) below = absurd (omega (arith, eqb-true (t i).count 0 e, ap (λ (j : ℕ). (t j).count) q))
    go true e (no q) below = below (omega arith)
    go false e (yes q) below = Memᴰ.head (ap (λ (j : ℕ). record_of (t j)) q)
    go false e (no q) below = Memᴰ.tail (below (omega arith))

-- the records of a table are those that stand in it
pub stands_of_among : (m : ℕ) (t : Table) (r : Record) → Among r (records_of m t) → Stands m t r
unfolding records_of
stands_of_among m t r a = let s = stands_from t 0 m r a in (s.0, omega arith, s.3, s.4)

pub among_of_stands : (m : ℕ) (t : Table) (r : Record) → Stands m t r → Among r (records_of m t)
unfolding records_of
among_of_stands m t r s = Memᴰ.cast (sym s.3) (among_from t 0 m s.0 (omega arith) (omega arith) s.2)

-- no identifier stands in two of the first m slots
abbrev pub Once : ℕ → Table → Type 0
Once m t = (i j : ℕ) → i < m → j < m → Occupied t i → Occupied t j → (t i).identifier ≡ (t j).identifier → i ≡ j

distinct_from : (t : Table) (i n m : ℕ) → i + n ≤ m → Once m t → Distinct (records_from t i n)
unfolding records_from Distinct
distinct_from t i zero m l once = tt
distinct_from t i (suc n) m l once = go (eqb (t i).count 0) refl (distinct_from t (suc i) n m (omega arith) once)
  where
    fresh : Occupied t i → Fresh (t i).identifier (records_from t (suc i) n)
    fresh o r a e =
        let s = stands_from t (suc i) n r a in
        let same : (t s.0).identifier ≡ (t i).identifier = ap (λ (q : Record). q.identifier) s.4 ∙ e in
        omega (arith, once s.0 i (omega arith) (omega arith) s.3 o same)

    go : (b : Bool) → eqb (t i).count 0 ≡ b → Distinct (records_from t (suc i) n) → Distinct (cond b (records_from t (suc i) n) (record_of (t i) ∷ records_from t (suc i) n))
    go true e below = below
    go false e below = (fresh (omega (arith, eqb-false (t i).count 0 e)), below)

pub distinct_records : (m : ℕ) (t : Table) → Once m t → Distinct (records_of m t)
unfolding records_of
distinct_records m t once = distinct_from t 0 m m (omega arith) once

length_from : (t : Table) (i n : ℕ) → occupied_from t i n ≡ length (records_from t i n)
unfolding records_from occupied_from
length_from t i zero = refl
length_from t i (suc n) = go (eqb (t i).count 0) (length_from t (suc i) n)
  where
    go : (b : Bool) → occupied_from t (suc i) n ≡ length (records_from t (suc i) n) → cond b (occupied_from t (suc i) n) (suc (occupied_from t (suc i) n)) ≡ length (cond b (records_from t (suc i) n) (record_of (t i) ∷ records_from t (suc i) n))
    go true e = e
    go false e = ap suc e

-- there are as many records as occupied slots
pub occupied_length : (m : ℕ) (t : Table) → occupied m t ≡ length (records_of m t)
unfolding records_of occupied
occupied_length m t = length_from t 0 m

occupied_from_le : (t : Table) (i n : ℕ) → occupied_from t i n ≤ n
unfolding occupied_from
occupied_from_le t i zero = omega arith
occupied_from_le t i (suc n) = go (eqb (t i).count 0) (occupied_from_le t (suc i) n)
  where
    go : (b : Bool) → occupied_from t (suc i) n ≤ n → cond b (occupied_from t (suc i) n) (suc (occupied_from t (suc i) n)) ≤ suc n
    go true e = omega arith
    go false e = omega arith

occupied_from_lt : (t : Table) (i n k : ℕ) → i ≤ k → k < i + n → (t k).count ≡ 0 → occupied_from t i n < n
unfolding occupied_from
occupied_from_lt t i zero k l h free = omega arith
occupied_from_lt t i (suc n) k l h free = go (eqb (t i).count 0) refl (ℕ_discrete k i) (λ g. occupied_from_lt t (suc i) n k (omega arith) (omega arith) free)
  where
    go : (b : Bool) → eqb (t i).count 0 ≡ b → Dec (k ≡ i) → (i < k → occupied_from t (suc i) n < n) → cond b (occupied_from t (suc i) n) (suc (occupied_from t (suc i) n)) < suc n
    go true e d below = omega (arith, occupied_from_le t (suc i) n)
    go false e (yes q) below = absurd (eqb-false (t i).count 0 e (ap (λ (j : ℕ). (t j).count) (sym q) ∙ free))
    go false e (no q) below = let b : occupied_from t (suc i) n < n = below (omega arith) in omega arith

occupied_from_full : (t : Table) (i n : ℕ) → ((k : ℕ) → k < i + n → Occupied t k) → occupied_from t i n ≡ n
unfolding occupied_from
occupied_from_full t i zero full = refl
occupied_from_full t i (suc n) full = go (eqb (t i).count 0) refl (occupied_from_full t (suc i) n (λ k l. full k (omega arith)))
  where
    go : (b : Bool) → eqb (t i).count 0 ≡ b → occupied_from t (suc i) n ≡ n → cond b (occupied_from t (suc i) n) (suc (occupied_from t (suc i) n)) ≡ suc n
    go true e below = absurd (omega (arith, eqb-true (t i).count 0 e, full i (omega arith)))
    go false e below = ap suc below

-- no more records than slots, fewer if a slot is free, as many if none is
pub length_le : (m : ℕ) (t : Table) → length (records_of m t) ≤ m
unfolding occupied
length_le m t = omega (arith, occupied_length m t, occupied_from_le t 0 m)

pub length_lt : (m : ℕ) (t : Table) (k : ℕ) → k < m → (t k).count ≡ 0 → length (records_of m t) < m
unfolding occupied
length_lt m t k h free = omega (arith, occupied_length m t, occupied_from_lt t 0 m k (omega arith) (omega arith) free)

pub length_full : (m : ℕ) (t : Table) → ((k : ℕ) → k < m → Occupied t k) → length (records_of m t) ≡ m
unfolding occupied
length_full m t full = omega (arith, occupied_length m t, occupied_from_full t 0 m (λ k l. full k (omega arith)))

-- without x: the members with another identifier, and no others
pub among_without : (x : ℕ) (rs : List Record) (r : Record) → Among r rs → r.identifier ≢ x → Among r (without x rs)
unfolding without
among_without x [] r a n = absurd (Memᴰ.not-nil a)
among_without x (q ∷ qs) r a n = go (eqb q.identifier x) refl (Memᴰ.cases_cons a) (λ b. among_without x qs r b n)
  where
    go : (b : Bool) → eqb q.identifier x ≡ b → (r ≡ q) ⊎ Among r qs → (Among r qs → Among r (without x qs)) → Among r (cond b (without x qs) (q ∷ without x qs))
    go true e (inl same) below = absurd (n (ap (λ (y : Record). y.identifier) same ∙ eqb-true q.identifier x e))
    go true e (inr a) below = below a
    go false e (inl same) below = Memᴰ.head same
    go false e (inr a) below = Memᴰ.tail (below a)

pub without_among : (x : ℕ) (rs : List Record) (r : Record) → Among r (without x rs) → Among r rs × (r.identifier ≢ x)
unfolding without
without_among x [] r a = absurd (Memᴰ.not-nil a)
without_among x (q ∷ qs) r a = go (eqb q.identifier x) refl (without_among x qs r) a
  where
    later : Among r qs × (r.identifier ≢ x) → Among r (q ∷ qs) × (r.identifier ≢ x)
    later s = (Memᴰ.tail s.0, s.1)

    here : q.identifier ≢ x → (r ≡ q) ⊎ Among r (without x qs) → (Among r (without x qs) → Among r qs × (r.identifier ≢ x)) → Among r (q ∷ qs) × (r.identifier ≢ x)
    here n (inl same) below = (Memᴰ.head same, λ e. n (ap (λ (y : Record). y.identifier) (sym same) ∙ e))
    here n (inr a) below = later (below a)

    go : (b : Bool) → eqb q.identifier x ≡ b → (Among r (without x qs) → Among r qs × (r.identifier ≢ x)) → Among r (cond b (without x qs) (q ∷ without x qs)) → Among r (q ∷ qs) × (r.identifier ≢ x)
    go true e below a = later (below a)
    go false e below a = here (eqb-false q.identifier x e) (Memᴰ.cases_cons a) below

pub without_distinct : (x : ℕ) (rs : List Record) → Distinct rs → Distinct (without x rs)
unfolding without Distinct
without_distinct x [] d = tt
without_distinct x (q ∷ qs) d = go (eqb q.identifier x) (without_distinct x qs d.1)
  where
    go : (b : Bool) → Distinct (without x qs) → Distinct (cond b (without x qs) (q ∷ without x qs))
    go true below = below
    go false below = (λ r a. d.0 r (without_among x qs r a).0, below)

pub without_fresh : (x : ℕ) (rs : List Record) → Fresh x rs → without x rs ≡ rs
unfolding without
without_fresh x [] f = refl
without_fresh x (q ∷ qs) f = rw (ne_eqb q.identifier x (f q (Memᴰ.head refl))) (ap (λ (l : List Record). q ∷ l) (without_fresh x qs (λ r a. f r (Memᴰ.tail a))))

without_le : (x : ℕ) (rs : List Record) → length (without x rs) ≤ length rs
unfolding without
without_le x [] = omega arith
without_le x (q ∷ qs) = go (eqb q.identifier x) (without_le x qs)
  where
    go : (b : Bool) → length (without x qs) ≤ length qs → length (cond b (without x qs) (q ∷ without x qs)) ≤ suc (length qs)
    go true below = omega arith
    go false below = omega arith

without_lt : (rs : List Record) (r : Record) → Among r rs → length (without r.identifier rs) < length rs
unfolding without
without_lt [] r a = absurd (Memᴰ.not-nil a)
without_lt (q ∷ qs) r a = go (eqb q.identifier r.identifier) refl (Memᴰ.cases_cons a) (without_lt qs r)
  where
    go : (b : Bool) → eqb q.identifier r.identifier ≡ b → (r ≡ q) ⊎ Among r qs → (Among r qs → length (without r.identifier qs) < length qs) → length (cond b (without r.identifier qs) (q ∷ without r.identifier qs)) < suc (length qs)
    go true e a below = omega (arith, without_le r.identifier qs)
    go false e (inl same) below = absurd (eqb-false _ _ e (ap (λ (y : Record). y.identifier) (sym same)))
    go false e (inr a) below = let b : length (without r.identifier qs) < length qs = below a in omega arith

-- the pigeonhole: distinct records that are all among others are no more than these
pub pigeonhole : (rs qs : List Record) → Distinct rs → ((r : Record) → Among r rs → Among r qs) → length rs ≤ length qs
unfolding Distinct
pigeonhole [] qs d sub = omega arith
pigeonhole (r ∷ rs) qs d sub =
    let rest : length rs ≤ length (without r.identifier qs) = pigeonhole rs (without r.identifier qs) d.1 (λ q a. among_without r.identifier qs q (sub q (Memᴰ.tail a)) (d.0 q a)) in
    omega (arith, without_lt qs r (sub r (Memᴰ.head refl)))

-- so the same distinct records are as many
pub same_length : (rs qs : List Record) → Distinct rs → Distinct qs → SameRecords rs qs → length rs ≡ length qs
same_length rs qs d e same = omega (arith, pigeonhole rs qs d (λ r. (same r).0), pigeonhole qs rs e (λ r. (same r).1))

-- one identifier, one record
pub distinct_same : (rs : List Record) (q r : Record) → Distinct rs → Among q rs → Among r rs → q.identifier ≡ r.identifier → q ≡ r
unfolding Distinct
distinct_same [] q r d a b e = absurd (Memᴰ.not-nil a)
distinct_same (p ∷ ps) q r d a b e = go (Memᴰ.cases_cons a) (Memᴰ.cases_cons b) (λ a b. distinct_same ps q r d.1 a b e)
  where
    go : (q ≡ p) ⊎ Among q ps → (r ≡ p) ⊎ Among r ps → (Among q ps → Among r ps → q ≡ r) → q ≡ r
    go (inl a) (inl b) below = cc
    go (inl a) (inr b) below = absurd (d.0 r b (cc))
    go (inr a) (inl b) below = absurd (d.0 q a (cc))
    go (inr a) (inr b) below = below a b

-- without the identifier of one among distinct records there is one record less
pub without_length : (rs : List Record) (r : Record) → Distinct rs → Among r rs → length rs ≡ suc (length (without r.identifier rs))
without_length rs r d a = omega (arith, without_lt rs r a, pigeonhole rs (r ∷ without r.identifier rs) d (λ q b. sub q b (ℕ_discrete q.identifier r.identifier)))
  where
    sub : (q : Record) → Among q rs → Dec (q.identifier ≡ r.identifier) → Among q (r ∷ without r.identifier rs)
    sub q b (yes e) = Memᴰ.head (distinct_same rs q r d b a e)
    sub q b (no n) = Memᴰ.tail (among_without r.identifier rs q b n)

-- below n, some number is of the first kind, or all are of the second
pub some_or_all : (n : ℕ) (A B : ℕ → Type 0) → ((i : ℕ) → i < n → A i ⊎ B i) → ((i : ℕ) × (i < n) × A i) ⊎ ((i : ℕ) → i < n → B i)
some_or_all zero A B each = inr (λ i l. absurd (omega arith))
some_or_all (suc n) A B each = go (each n (omega arith)) (some_or_all n A B (λ i l. each i (omega arith)))
  where
    all : B n → ((i : ℕ) → i < n → B i) → (i : ℕ) → i < suc n → Dec (i ≡ n) → B i
    all b f i l (yes e) = rw e b
    all b f i l (no e) = f i (omega arith)

    go : A n ⊎ B n → ((i : ℕ) × (i < n) × A i) ⊎ ((i : ℕ) → i < n → B i) → ((i : ℕ) × (i < suc n) × A i) ⊎ ((i : ℕ) → i < suc n → B i)
    go (inl a) below = inl (n, omega arith, a)
    go (inr b) (inl s) = inl (s.0, omega arith, s.2)
    go (inr b) (inr f) = inr (λ i l. all b f i l (ℕ_discrete i n))

-- a slot is free, or all are occupied
free_or_full : (m : ℕ) (t : Table) → ((i : ℕ) × (i < m) × ((t i).count ≡ 0)) ⊎ ((i : ℕ) → i < m → Occupied t i)
free_or_full m t = some_or_all m (λ i. (t i).count ≡ 0) (Occupied t) (λ i l. eq-zero-or-pos (t i).count)

-- fewer occupied slots than slots leave one free
pub free_of_occupied : (m : ℕ) (t : Table) → occupied m t < m → (i : ℕ) × (i < m) × ((t i).count ≡ 0)
free_of_occupied m t few = ⊎_elim (λ free. free) (λ full. absurd (omega (arith, occupied_length m t, length_full m t full))) (free_or_full m t)

-- so do fewer records
pub free_of_few : (m : ℕ) (t : Table) (rs : List Record) → Once m t → ((i : ℕ) → i < m → Occupied t i → Among (record_of (t i)) rs) → length rs < m → (i : ℕ) × (i < m) × ((t i).count ≡ 0)
free_of_few m t rs once others few = free_of_occupied m t (omega (arith, occupied_length m t, pigeonhole (records_of m t) rs (distinct_records m t once) among))
  where
    among : (r : Record) → Among r (records_of m t) → Among r rs
    among r a =
        let s = stands_of_among m t r a in
        Memᴰ.cast (sym s.3) (others s.0 s.1 s.2)
