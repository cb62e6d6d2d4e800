-- The search for the end of a run in mid-way: what is left of it equals the whole, and no record passed is too far from home to move.
-- Assumes nothing.
use Prim.Native.Nat.{ℕ, zero, suc, ◌+◌, ◌-◌, ◌≤◌, ◌<◌}
use mathlib.Core.Path.{◌≡◌, refl, sym, ap, ◌∙◌}
use mathlib.Core.Bool.{Bool, true, false, cond}
use native.Mathlib.Omega.{arith}
use borrow.Author.Tests.{le-leb, lt-leb, eq-eqb, ne_eqb}
use lib.Dec.{leb}
use Rattle.arrangement.specs.Table.{Cell, Table, onward}
use Rattle.arrangement.specs.Changes.{First, after, none, first_from, first_empty, first_settled, is_empty, is_settled, any_far}
use Rattle.arrangement.proofs.Cycle.{onward_suc}
use Rattle.arrangement.proofs.First.{first_at}
use Rattle.register.specs.Runs.{near_by, store_reach}

-- a slot one on from the slot k on is the slot k + 1 on
pub onward_next : (m s k : ℕ) {i j : ℕ} → j ≡ onward m i 1 → i ≡ onward m s k → j ≡ onward m s (k + 1)
onward_next m s k e a = e ∙ ap (λ (n : ℕ). onward m n 1) a ∙ sym (onward_suc m s k) ∙ ap (onward m s) (omega arith)

-- the search stands k slots after s
pub record Seeking (test : Cell → Bool) (m s : ℕ) (t : Table) (whole : First) (k : ℕ) : Type 0 where
  pub rest : first_from test m s t (m - k) k ≡ whole

module _ {test : Cell → Bool} {m s : ℕ} {t : Table} {whole : First} where
  -- the search is this slot's test, then the rest
  tested : {i k : ℕ} → Seeking test m s t whole k → k < m → i ≡ onward m s k → (b : Bool) → test (t i) ≡ b
      → cond b (after k) (first_from test m s t (m - suc k) (suc k)) ≡ whole
  unfolding first_from
  tested {i} {k} g l a b e =
      let rest = first_from test m s t (m - suc k) (suc k) in
      let n : m - k ≡ suc (m - suc k) = omega arith in
      ap (λ (b : Bool). cond b (after k) rest) (sym e ∙ ap (λ (j : ℕ). test (t j)) a) ∙ ap (λ (n : ℕ). first_from test m s t n k) (sym n) ∙ g.rest

  pub seek_stop : {i k : ℕ} → Seeking test m s t whole k → k < m → i ≡ onward m s k → test (t i) ≡ true → after k ≡ whole
  seek_stop g l a e = tested g l a true e

  pub seek_on : {i k : ℕ} → Seeking test m s t whole k → k < m → i ≡ onward m s k → test (t i) ≡ false → Seeking test m s t whole (k + 1)
  seek_on {i} {k} g l a e =
      let q : k + 1 ≡ suc k = omega arith in
      record { rest = ap (λ (n : ℕ). first_from test m s t (m - n) n) q ∙ tested g l a false e }

  pub seek_end : {k : ℕ} → Seeking test m s t whole k → m ≤ k → none ≡ whole
  unfolding first_from
  seek_end {k} g l =
      let e : m - k ≡ 0 = omega arith in
      ap (λ (n : ℕ). first_from test m s t n k) (sym e) ∙ g.rest

pub seek_settled : (m s : ℕ) (t : Table) → Seeking is_settled m s t (first_settled m s t) 1
unfolding first_settled
seek_settled m s t = record { rest = refl }

module _ {m s : ℕ} {t : Table} {whole : First} where
  pub settled_stop : {i k : ℕ} → Seeking is_settled m s t whole k → k < m → i ≡ onward m s k → (t i).count ≤ 1 → after k ≡ whole
  settled_stop {i} g l a c = seek_stop g l a (le-leb (t i).count 1 c)

  pub settled_on : {i k : ℕ} → Seeking is_settled m s t whole k → k < m → i ≡ onward m s k → 1 < (t i).count → Seeking is_settled m s t whole (k + 1)
  settled_on {i} g l a c = seek_on g l a (lt-leb (t i).count 1 c)

-- any_far of one slot more, and of more slots
far_suc : (m s : ℕ) (t : Table) (k : ℕ) (b : Bool) → leb (m - 1) (t (onward m s k)).count ≡ b → any_far m s t k ≡ false → any_far m s t (suc k) ≡ b
unfolding any_far
far_suc m s t k b h n = rw n h

far_more : (m s : ℕ) (t : Table) (k n : ℕ) → any_far m s t k ≡ true → any_far m s t (n + k) ≡ true
unfolding any_far
far_more m s t k zero h =
    let e : 0 + k ≡ k = omega arith in
    ap (any_far m s t) e ∙ h
far_more m s t k (suc n) h =
    let e : suc n + k ≡ suc (n + k) = omega arith in
    ap (any_far m s t) e ∙ rw (far_more m s t k n h) refl

-- the search of a store: no record passed has count m - 1 or more
pub record Storing (m s : ℕ) (t : Table) (k : ℕ) : Type 0 where
  pub seeking : Seeking is_empty m s t (first_empty m s t) k
  pub near : any_far m s t k ≡ false

pub storing_start : (m s : ℕ) (t : Table) → Storing m s t 0
unfolding first_empty any_far
storing_start m s t = record { seeking = record { rest = ap (λ (n : ℕ). first_from is_empty m s t n 0) (omega arith) }; near = refl }

module _ {m s : ℕ} {t : Table} where
  pub storing_stop : {i k : ℕ} → Storing m s t k → k < m → i ≡ onward m s k → (t i).count ≡ 0 → after k ≡ store_reach m s t
  unfolding store_reach
  storing_stop {i} {k} g l a e =
      sym (ap (near_by m s t) (sym (seek_stop g.seeking l a (eq-eqb (t i).count 0 e)))
      ∙ ap (λ (b : Bool). cond b none (after k)) g.near)

  pub storing_far : {i k : ℕ} → Storing m s t k → k < m → i ≡ onward m s k → 2 ≤ m → m - 1 ≤ (t i).count → none ≡ store_reach m s t
  unfolding store_reach first_empty
  storing_far {i} {k} g l a two c = go (first_empty m s t) refl
    where
      on : Seeking is_empty m s t (first_empty m s t) (k + 1)
      on = seek_on g.seeking l a (ne_eqb (t i).count 0 (λ e. omega arith))

      past : {e : ℕ} → first_empty m s t ≡ after e → any_far m s t e ≡ true
      past {e} h =
          let f = first_at is_empty m s t (m - (k + 1)) (k + 1) (on.rest ∙ h) in
          let q : e - suc k + suc k ≡ e = omega (arith, f.from) in
          ap (any_far m s t) (sym q) ∙ far_more m s t (suc k) (e - suc k) (far_suc m s t k true (rw (← a) (le-leb (m - 1) (t i).count c)) g.near)

      go : (w : First) → first_empty m s t ≡ w → none ≡ near_by m s t w
      go none h = refl
      go (after e) h = sym (ap (λ (b : Bool). cond b none (after e)) (past h))

  pub storing_on : {i k : ℕ} → Storing m s t k → k < m → i ≡ onward m s k → ((t i).count ≡ 0 → ⊥) → (t i).count < m - 1 → Storing m s t (k + 1)
  storing_on {i} {k} g l a z c =
      let q : k + 1 ≡ suc k = omega arith in
      record {
        seeking = seek_on g.seeking l a (ne_eqb (t i).count 0 z);
        near = ap (any_far m s t) q ∙ far_suc m s t k false (rw (← a) (lt-leb (m - 1) (t i).count c)) g.near;
      }

  pub storing_end : {k : ℕ} → Storing m s t k → m ≤ k → none ≡ store_reach m s t
  unfolding store_reach
  storing_end g l = ap (near_by m s t) (seek_end g.seeking l)
