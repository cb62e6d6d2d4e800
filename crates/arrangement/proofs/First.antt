-- The search for the first slot that passes a test: where it ends on any table, and why.
use Prim.Native.Nat.{ℕ, zero, suc, ◌+◌, ◌≤◌, ◌<◌}
use mathlib.Core.Path.{◌≡◌, refl}
use mathlib.Core.Bool.{Bool, true, false, cond}
use native.Mathlib.Decide.{ℕ_discrete}
use native.Mathlib.Omega.{arith}
use Rattle.arrangement.specs.Table.{Cell, Table, onward, rank}
use Rattle.arrangement.specs.Changes.{First, after, none, first_from}
use Rattle.arrangement.proofs.Cycle.{onward_rank}

-- the test fails at each slot from a to before b slots after s
abbrev pub Fails : (Cell → Bool) → ℕ → ℕ → Table → ℕ → ℕ → Type 0
Fails test m s t a b = (k : ℕ) → a ≤ k → k < b → test (t (onward m s k)) ≡ false

-- e is the first from a to before b at which it passes
pub record FirstAt (test : Cell → Bool) (m s : ℕ) (t : Table) (a b e : ℕ) : Type 0 where
  pub from : a ≤ e
  pub to : e < b
  pub passes : test (t (onward m s e)) ≡ true
  pub fails : Fails test m s t a e

pub data Searched (test : Cell → Bool) (m s : ℕ) (t : Table) (a b : ℕ) : First → Type 0 where
  at_first : (e : ℕ) → FirstAt test m s t a b e → Searched test m s t a b (after e)
  at_none : Fails test m s t a b → Searched test m s t a b none

module _ (test : Cell → Bool) (m s : ℕ) (t : Table) where
  fails_more : (a b : ℕ) → test (t (onward m s a)) ≡ false → Fails test m s t (suc a) b → Fails test m s t a b
  fails_more a b w o k u l = go (ℕ_discrete a k)
    where
      go : Dec (a ≡ k) → test (t (onward m s k)) ≡ false
      go (yes e) = rw (← e) w
      go (no n) = o k (omega arith) l

  pub searched : (n k : ℕ) → Searched test m s t k (k + n) (first_from test m s t n k)
  unfolding first_from
  searched zero k = at_none (λ q u l. absurd (omega arith))
  searched (suc n) k = go (test (t (onward m s k))) refl (searched n (suc k))
    where
      go : (b : Bool) → test (t (onward m s k)) ≡ b → {f : First} → Searched test m s t (suc k) (suc k + n) f
          → Searched test m s t k (k + suc n) (cond b (after k) f)
      go true e r = at_first k (record { from = omega arith; to = omega arith; passes = e; fails = λ q u l. absurd (omega arith) })
      go false e (at_first f r) =
          at_first f
          (record { from = omega arith; to = omega arith; passes = r.passes; fails = fails_more k f e r.fails })
      go false e (at_none r) = at_none (fails_more k (k + suc n) e (λ q u l. r q u (omega arith)))

  pub first_at : (n k : ℕ) {e : ℕ} → first_from test m s t n k ≡ after e → FirstAt test m s t k (k + n) e
  first_at n k {e} = go (searched n k)
    where
      go : {f : First} → Searched test m s t k (k + n) f → f ≡ after e → FirstAt test m s t k (k + n) e
      go (at_first f r) u = let q : f ≡ e = cc in rw q at r
      go (at_none r) u = let z : ◌≡◌ {A = ℕ} 0 1 = cc in absurd (omega arith)

  pub first_none : (n k : ℕ) → first_from test m s t n k ≡ none → Fails test m s t k (k + n)
  first_none n k = go (searched n k)
    where
      go : {f : First} → Searched test m s t k (k + n) f → f ≡ none → Fails test m s t k (k + n)
      go (at_first f r) u = let z : ◌≡◌ {A = ℕ} 0 1 = cc in absurd (omega arith)
      go (at_none r) u = r

  -- it ends at one where there is one
  pub first_there : (n k e : ℕ) → k ≤ e → e < k + n → test (t (onward m s e)) ≡ true
      → (f : ℕ) × (first_from test m s t n k ≡ after f)
  first_there n k e u l w = go (searched n k)
    where
      go : {f : First} → Searched test m s t k (k + n) f → (q : ℕ) × (f ≡ after q)
      go (at_first q r) = (q, refl)
      go (at_none r) = let v = r e u l in let z : ◌≡◌ {A = ℕ} 0 1 = cc in absurd (omega arith)

-- the same by rank

pub fails_at : {test : Cell → Bool} {m s : ℕ} {t : Table} {a b e : ℕ} → FirstAt test m s t a b e → {i : ℕ} → s < m → i < m
    → a ≤ rank m s i → rank m s i < e → test (t i) ≡ false
fails_at {test} {m} {s} {t} f {i} h l u v = rw (onward_rank h l) at (f.fails (rank m s i) u v)

pub passes_at : {test : Cell → Bool} {m s : ℕ} {t : Table} {a b e : ℕ} → FirstAt test m s t a b e → {i : ℕ} → s < m → i < m
    → rank m s i ≡ e → test (t i) ≡ true
passes_at {test} {m} {s} {t} f {i} h l r = rw (← r, onward_rank h l) at f.passes
