-- Two buckets of two places, computed: a proper arrangement in which a record has passed a full bucket, so that no premise over b is empty.
-- Each fact is one of four, a place at a time.
use Prim.Native.Nat.{ℕ, zero, suc, ◌%◌, ◌≤◌, ◌<◌}
use native.Mathlib.Nat.{mod-lt}
use native.Mathlib.Omega.{arith}
use mathlib.Core.Path.{◌≡◌, refl, sym, ap, subst, ◌∙◌}
use mathlib.Core.Logic.{◌⊎◌, inl, inr}
use mathlib.Core.List.Memᴰ
use mathlib.Core.List.{List, [], ◌∷◌, Memᴰ}
use Rattle.arrangement.specs.Table.{Cell, Record, record_of, Among, Fresh, Distinct, empty}
use Rattle.arrangement.specs.Proper.{Space, slot_at, Beats}
use Rattle.arrangement.specs.Buckets.{Buckets, Held, Place, PassedBucket, ProperBuckets, InOrder, CleanPlaces}

-- two buckets, the home by the remainder
abbrev two : Space
two = record { size = 2; home = λ x. x % 2; home_in = λ x. mod-lt x (omega arith) }

abbrev cell : ℕ → ℕ → Cell
cell c x = record { count = c; identifier = x; entry = 0 }

abbrev named : ℕ → Record
named x = record { identifier = x; entry = 0 }

-- 1 and 3 fill their home, bucket 1; 5 has passed it and stands in bucket 0
abbrev buckets : Buckets
buckets zero zero = cell 2 5
buckets zero (suc q) = empty
buckets (suc j) zero = cell 1 1
buckets (suc j) (suc q) = cell 1 3

abbrev three : List Record
three = named 1 ∷ named 3 ∷ named 5 ∷ []

-- a fact for each of the four places
four : (A : ℕ → ℕ → Type 0) → A 0 0 → A 0 1 → A 1 0 → A 1 1 → (j q : ℕ) → Place two 2 j q → A j q
four A a b c d zero zero w = a
four A a b c d zero (suc zero) w = b
four A a b c d zero (suc (suc q)) w = absurd (omega (arith, w.place))
four A a b c d (suc zero) zero w = c
four A a b c d (suc zero) (suc zero) w = d
four A a b c d (suc zero) (suc (suc q)) w = absurd (omega (arith, w.place))
four A a b c d (suc (suc j)) q w = absurd (omega (arith, w.bucket))

pub buckets_in_order : InOrder two 2 buckets
buckets_in_order zero zero w h = absurd (omega arith)
buckets_in_order (suc j) zero w h = record { ge = omega arith; tie = λ l. omega arith }
buckets_in_order j (suc q) w h = absurd (omega (arith, w.place))

pub buckets_clean : CleanPlaces two 2 buckets
buckets_clean =
    four (λ j q. (buckets j q).count ≡ 0 → buckets j q ≡ empty)
    (λ e. absurd (omega arith)) (λ e. refl) (λ e. absurd (omega arith)) (λ e. absurd (omega arith))

fresh_none : {x : ℕ} → Fresh x []
fresh_none r a e = Memᴰ.not-nil a

fresh_cons : (x y : ℕ) {rs : List Record} → Fresh x rs → (y ≡ x → ⊥) → Fresh x (named y ∷ rs)
fresh_cons x y {rs} f n r a e = go (Memᴰ.cases_cons a)
  where
    go : (r ≡ named y) ⊎ Among r rs → ⊥
    go (inl q) = n (ap (λ (z : Record). z.identifier) (sym q) ∙ e)
    go (inr m) = f r m e

-- where each record stands
standing : (r : Record) → Among r three → (j : ℕ) × (q : ℕ) × Place two 2 j q × Held buckets j q × (record_of (buckets j q) ≡ r)
standing r a = first (Memᴰ.cases_cons a)
  where
    third : (r ≡ named 5) ⊎ Memᴰ r [] → (j : ℕ) × (q : ℕ) × Place two 2 j q × Held buckets j q × (record_of (buckets j q) ≡ r)
    third (inl e) = (0, 0, omega arith, omega arith, sym e)
    third (inr m) = absurd (Memᴰ.not-nil m)

    second : (r ≡ named 3) ⊎ Memᴰ r (named 5 ∷ []) → (j : ℕ) × (q : ℕ) × Place two 2 j q × Held buckets j q × (record_of (buckets j q) ≡ r)
    second (inl e) = (1, 1, omega arith, omega arith, sym e)
    second (inr m) = third (Memᴰ.cases_cons m)

    first : (r ≡ named 1) ⊎ Memᴰ r (named 3 ∷ named 5 ∷ []) → (j : ℕ) × (q : ℕ) × Place two 2 j q × Held buckets j q × (record_of (buckets j q) ≡ r)
    first (inl e) = (1, 0, omega arith, omega arith, sym e)
    first (inr m) = second (Memᴰ.cases_cons m)

-- one place's identifier is no other's
abbrev Same : ℕ → ℕ → ℕ → ℕ → Type 0
Same j q k o = Held buckets j q → Held buckets k o → (buckets j q).identifier ≡ (buckets k o).identifier → (j ≡ k) × (q ≡ o)

sole : (j q : ℕ) → Place two 2 j q → (k o : ℕ) → Place two 2 k o → Same j q k o
sole =
    four (λ j q. (k o : ℕ) → Place two 2 k o → Same j q k o)
    (four (Same 0 0) (omega arith) (omega arith) (omega arith) (omega arith))
    (four (Same 0 1) (omega arith) (omega arith) (omega arith) (omega arith))
    (four (Same 1 0) (omega arith) (omega arith) (omega arith) (omega arith))
    (four (Same 1 1) (omega arith) (omega arith) (omega arith) (omega arith))

-- 5 alone has passed a bucket, at p = 1: its home, which is full of records that beat it
passed : (j q p o : ℕ) → PassedBucket two 2 buckets j q p → o < 2
    → let k = slot_at 2 ((buckets j q).identifier % 2) p in (0 < (buckets k o).count) × Beats (buckets k o).count (buckets k o).identifier p (buckets j q).identifier
passed j q p o w l = four Past at_five (λ f b. absurd (omega arith)) (λ f b. absurd (omega arith)) (λ f b. absurd (omega arith)) j q w.within w.from w.below
  where
    Past : ℕ → ℕ → Type 0
    Past i h = 1 ≤ p → p < (buckets i h).count → let k = slot_at 2 ((buckets i h).identifier % 2) p in (0 < (buckets k o).count) × Beats (buckets k o).count (buckets k o).identifier p (buckets i h).identifier

    at_five : Past 0 0
    at_five f b = subst (λ (n : ℕ). (0 < (buckets (slot_at 2 1 n) o).count) × Beats (buckets (slot_at 2 1 n) o).count (buckets (slot_at 2 1 n) o).identifier n 5) (omega arith) (home o l)
      where
        home : (h : ℕ) → h < 2 → (0 < (buckets 1 h).count) × Beats (buckets 1 h).count (buckets 1 h).identifier 1 5
        home zero k = (omega arith, record { ge = omega arith; tie = λ t. omega arith })
        home (suc h) k = (omega arith, record { ge = omega arith; tie = λ t. omega arith })

pub buckets_proper : ProperBuckets two 2 three buckets
unfolding Distinct
buckets_proper =
    record {
      distinct = (fresh_cons 1 3 (fresh_cons 1 5 fresh_none (omega arith)) (omega arith), (fresh_cons 3 5 fresh_none (omega arith), (fresh_none, tt)));
      few = omega arith;
      stands = standing;
      once = λ j q k o u w a b e. sole j q u k o w a b e;
      far = four (λ j q. Held buckets j q → j ≡ slot_at 2 ((buckets j q).identifier % 2) (buckets j q).count) (λ h. refl) (λ h. absurd (omega arith)) (λ h. refl) (λ h. refl);
      others = four (λ j q. Held buckets j q → Among (record_of (buckets j q)) three) (λ h. Memᴰ.tail (Memᴰ.tail (Memᴰ.head refl))) (λ h. absurd (omega arith)) (λ h. Memᴰ.head refl) (λ h. Memᴰ.tail (Memᴰ.head refl));
      no_gap = λ j q p o w l. (passed j q p o w l).0;
      wins = λ j q p o w l. (passed j q p o w l).1;
    }
