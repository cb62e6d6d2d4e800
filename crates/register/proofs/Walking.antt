-- The walk in mid-way: what is left of it equals the whole, so one turn's outcome is the walk's end or leads to the next slot.
-- Assumes nothing.
use Prim.Native.Nat.{ℕ, suc, ◌+◌, ◌-◌, ◌≤◌, ◌<◌}
use mathlib.Core.Path.{◌≡◌, sym, ap, ◌∙◌}
use native.Mathlib.Omega.{arith}
use Rattle.arrangement.specs.Table.{Table}
use Rattle.arrangement.specs.Proper.{slot_at}
use Rattle.arrangement.specs.Changes.{next}
use Rattle.arrangement.specs.Walk.{endless, Turn, on, turn, end_at, walk_from, walk}
use Rattle.arrangement.proofs.Cycle.{slot_first, slot_step, next_in}

-- the walk stands at slot i with p
pub record Going (m h x : ℕ) (t : Table) (i p : ℕ) : Type 0 where
  pub at : i ≡ slot_at m h p
  pub inside : i < m
  pub rest : walk_from m h x t (m + 1 - p) p ≡ walk m h x t

module _ {m h x : ℕ} {t : Table} where
  pub going_start : h < m → Going m h x t h 1
  unfolding walk
  going_start l = record { at = sym (slot_first l); inside = l; rest = ap (λ (n : ℕ). walk_from m h x t n 1) (omega arith) }

  -- the walk is this slot's turn, then the rest
  pub going_turn : {i p : ℕ} {τ : Turn} → Going m h x t i p → p ≤ m → τ ≡ turn p x (t i)
      → end_at τ i p (walk_from m h x t (m - p) (suc p)) ≡ walk m h x t
  unfolding walk_from
  going_turn {i} {p} {τ} g l e =
      let rest = walk_from m h x t (m - p) (suc p) in
      let n : suc (m - p) ≡ m + 1 - p = omega arith in
      ap (λ (o : Turn). end_at o i p rest) e ∙ ap (λ (j : ℕ). end_at (turn p x (t j)) j p rest) g.at
      ∙ ap (λ (k : ℕ). walk_from m h x t k p) n ∙ g.rest

  pub going_on : {i p : ℕ} → Going m h x t i p → 1 ≤ p → p ≤ m → on ≡ turn p x (t i) → Going m h x t (next m i) (p + 1)
  going_on {i} {p} g z l e =
      let q : p + 1 ≡ suc p = omega arith in
      let n : m + 1 - (p + 1) ≡ m - p = omega arith in
      record {
        at = ap (next m) g.at ∙ sym (slot_step m h z) ∙ ap (slot_at m h) (sym q);
        inside = next_in g.inside;
        rest = ap (λ (k : ℕ). walk_from m h x t k (p + 1)) n ∙ ap (walk_from m h x t (m - p)) q ∙ going_turn g l e;
      }

  pub going_end : {i p : ℕ} → Going m h x t i p → m < p → endless ≡ walk m h x t
  unfolding walk_from
  going_end {i} {p} g l =
      let e : 0 ≡ m + 1 - p = omega arith in
      ap (λ (n : ℕ). walk_from m h x t n p) e ∙ g.rest
