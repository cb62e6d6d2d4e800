-- Slots in a circle: what next, prior, onward, rank and slot_at are, without a remainder.
-- Each remainder is of a number below two turns, so one decision says it; the rest is linear.
use Prim.Native.Nat.{ℕ, suc, ◌+◌, ◌-◌, ◌%◌, ◌≤◌, ◌<◌}
use mathlib.Core.Path.{◌≡◌, sym, ap, ◌∙◌}
use native.Mathlib.Nat.{mod-lt, mod-eq_of_lt, mod-eq-sub-mod, mod-add-mod}
use native.Mathlib.Decide.{dec_lt, ℕ_discrete}
use native.Mathlib.Omega.{arith}
use Rattle.arrangement.specs.Table.{onward, rank}
use Rattle.arrangement.specs.Proper.{slot_at}
use Rattle.arrangement.specs.Changes.{prior, next}

-- a remainder of a number below two turns
pub data Turned (m a : ℕ) : Type 0 where
  within : a < m → a % m ≡ a → Turned m a
  around : m ≤ a → a % m + m ≡ a → a % m < m → Turned m a

pub turned : {m a : ℕ} → a < m + m → Turned m a
turned {m} {a} h = go (dec_lt a m)
  where
    go : Dec (a < m) → Turned m a
    go (yes l) = within l (mod-eq_of_lt l)
    go (no n) =
        let e : a % m ≡ a - m = mod-eq-sub-mod (omega arith) ∙ mod-eq_of_lt (omega arith) in
        around (omega arith) (omega arith) (omega arith)

-- they are slots

pub next_in : {m i : ℕ} → i < m → next m i < m
next_in h = mod-lt _ (omega arith)

pub prior_in : {m i : ℕ} → i < m → prior m i < m
prior_in h = mod-lt _ (omega arith)

pub onward_in : {m s : ℕ} (k : ℕ) → s < m → onward m s k < m
onward_in k h = mod-lt _ (omega arith)

pub rank_in : {m s : ℕ} (i : ℕ) → s < m → rank m s i < m
rank_in i h = mod-lt _ (omega arith)

pub slot_at_in : {m h : ℕ} (p : ℕ) → h < m → slot_at m h p < m
slot_at_in p l = mod-lt _ (omega arith)

-- next and prior

pub next_inner : {m i : ℕ} → suc i < m → next m i ≡ suc i
next_inner {m} {i} h = mod-eq_of_lt (omega arith) ∙ omega arith

pub next_last : {m i : ℕ} → suc i ≡ m → next m i ≡ 0
next_last {m} {i} h = go (turned (omega arith))
  where
    go : Turned m (i + 1) → next m i ≡ 0
    go (within l e) = omega arith
    go (around l e b) = omega arith

pub prior_inner : {m i : ℕ} → 0 < i → i < m → prior m i ≡ i - 1
prior_inner {m} {i} z h = go (turned (omega arith))
  where
    go : Turned m (i + (m - 1)) → prior m i ≡ i - 1
    go (within l e) = omega arith
    go (around l e b) = omega arith

pub prior_first : {m : ℕ} → 0 < m → prior m 0 ≡ m - 1
prior_first {m} h = go (turned (omega arith))
  where
    go : Turned m (0 + (m - 1)) → prior m 0 ≡ m - 1
    go (within l e) = omega arith
    go (around l e b) = omega arith

pub prior_next : {m i : ℕ} → i < m → prior m (next m i) ≡ i
prior_next {m} {i} h = go (turned (omega arith)) (turned (omega (arith, next_in h)))
  where
    go : Turned m (i + 1) → Turned m (next m i + (m - 1)) → prior m (next m i) ≡ i
    go (within l e) (within k f) = omega arith
    go (within l e) (around k f b) = omega arith
    go (around l e b) (within k f) = omega arith
    go (around l e b) (around k f d) = omega arith

pub next_prior : {m i : ℕ} → i < m → next m (prior m i) ≡ i
next_prior {m} {i} h = go (turned (omega arith)) (turned (omega (arith, prior_in h)))
  where
    go : Turned m (i + (m - 1)) → Turned m (prior m i + 1) → next m (prior m i) ≡ i
    go (within l e) (within k f) = omega arith
    go (within l e) (around k f b) = omega arith
    go (around l e b) (within k f) = omega arith
    go (around l e b) (around k f d) = omega arith

-- onward, and the slots of a walk

pub onward_zero : {m s : ℕ} → s < m → onward m s 0 ≡ s
onward_zero h = mod-eq_of_lt (omega arith) ∙ omega arith

pub onward_suc : (m s k : ℕ) → onward m s (suc k) ≡ next m (onward m s k)
onward_suc m s k =
    let e : s + suc k ≡ s + k + 1 = omega arith in
    ap (λ (a : ℕ). a % m) e ∙ sym (mod-add-mod (s + k) m 1)

pub slot_suc : (m h k : ℕ) → slot_at m h (suc k) ≡ onward m h k
slot_suc m h k =
    let e : h + suc k - 1 ≡ h + k = omega arith in
    ap (λ (a : ℕ). a % m) e

pub slot_first : {m h : ℕ} → h < m → slot_at m h 1 ≡ h
slot_first {m} {h} l = slot_suc m h 0 ∙ onward_zero l

pub slot_step : (m h : ℕ) {p : ℕ} → 1 ≤ p → slot_at m h (suc p) ≡ next m (slot_at m h p)
slot_step m h {p} l =
    let e : h + suc p - 1 ≡ h + p - 1 + 1 = omega arith in
    ap (λ (a : ℕ). a % m) e ∙ sym (mod-add-mod (h + p - 1) m 1)

pub slot_back : {m h p : ℕ} → h < m → 1 ≤ p → prior m (slot_at m h (suc p)) ≡ slot_at m h p
slot_back {m} {h} {p} z l = ap (prior m) (slot_step m h l) ∙ prior_next (slot_at_in p z)

-- rank: how far after s

pub rank_self : {m s : ℕ} → s < m → rank m s s ≡ 0
rank_self {m} {s} h = go (turned (omega arith))
  where
    go : Turned m (s + (m - s)) → rank m s s ≡ 0
    go (within l e) = omega arith
    go (around l e b) = omega arith

pub rank_zero : {m s i : ℕ} → s < m → i < m → rank m s i ≡ 0 → i ≡ s
rank_zero {m} {s} {i} h l z = go (turned (omega arith))
  where
    go : Turned m (i + (m - s)) → i ≡ s
    go (within k e) = omega arith
    go (around k e b) = omega arith

pub onward_rank : {m s i : ℕ} → s < m → i < m → onward m s (rank m s i) ≡ i
onward_rank {m} {s} {i} h l = go (turned (omega arith)) (turned (omega (arith, rank_in i h)))
  where
    go : Turned m (i + (m - s)) → Turned m (s + rank m s i) → onward m s (rank m s i) ≡ i
    go (within k e) (within o f) = omega arith
    go (within k e) (around o f d) = omega arith
    go (around k e b) (within o f) = omega arith
    go (around k e b) (around o f d) = omega arith

pub rank_onward : {m s k : ℕ} → s < m → k < m → rank m s (onward m s k) ≡ k
rank_onward {m} {s} {k} h l = go (turned (omega arith)) (turned (omega (arith, onward_in k h)))
  where
    go : Turned m (s + k) → Turned m (onward m s k + (m - s)) → rank m s (onward m s k) ≡ k
    go (within o e) (within u f) = omega arith
    go (within o e) (around u f d) = omega arith
    go (around o e b) (within u f) = omega arith
    go (around o e b) (around u f d) = omega arith

pub rank_same : {m s i j : ℕ} → s < m → i < m → j < m → rank m s i ≡ rank m s j → i ≡ j
rank_same {m} {s} h k l e = sym (onward_rank h k) ∙ ap (onward m s) e ∙ onward_rank h l

-- the slot after i lies one further on, or is s again
next_onward : {m s i : ℕ} → s < m → i < m → next m i ≡ onward m s (suc (rank m s i))
next_onward {m} {s} {i} h l = ap (next m) (sym (onward_rank h l)) ∙ sym (onward_suc m s (rank m s i))

pub rank_next : {m s i : ℕ} → s < m → i < m → suc (rank m s i) < m → rank m s (next m i) ≡ suc (rank m s i)
rank_next {m} {s} {i} h l k = ap (rank m s) (next_onward h l) ∙ rank_onward h k

pub onward_round : {m s : ℕ} → s < m → onward m s m ≡ s
onward_round {m} {s} h = go (turned (omega arith))
  where
    go : Turned m (s + m) → onward m s m ≡ s
    go (within l e) = omega arith
    go (around l e b) = omega arith

pub rank_last : {m s i : ℕ} → s < m → i < m → suc (rank m s i) ≡ m → next m i ≡ s
rank_last {m} {s} {i} h l e = next_onward h l ∙ ap (onward m s) e ∙ onward_round h

pub rank_step : {m s i : ℕ} → s < m → i < m → (next m i ≡ s → ⊥) → rank m s (next m i) ≡ suc (rank m s i)
rank_step {m} {s} {i} h l n = go (dec_lt (suc (rank m s i)) m)
  where
    go : Dec (suc (rank m s i) < m) → rank m s (next m i) ≡ suc (rank m s i)
    go (yes k) = rank_next h l k
    go (no k) = absurd (n (rank_last h l (omega (arith, rank_in i h))))

-- the slot before i lies one less far on, and before s the farthest
pub rank_prior : {m s i r : ℕ} → s < m → i < m → rank m s i ≡ suc r → rank m s (prior m i) ≡ r
rank_prior {m} {s} {i} {r} h l e =
    let b : rank m s i < m = rank_in i h in
    let o : onward m s r < m = onward_in r h in
    let u : i ≡ next m (onward m s r) = sym (onward_rank h l) ∙ ap (onward m s) e ∙ onward_suc m s r in
    ap (λ (a : ℕ). rank m s (prior m a)) u ∙ ap (rank m s) (prior_next o) ∙ rank_onward h (omega arith)

pub rank_before : {m s : ℕ} → s < m → rank m s (prior m s) ≡ m - 1
rank_before {m} {s} h = go (ℕ_discrete (suc (rank m s (prior m s))) m) (rank_in (prior m s) h)
  where
    go : Dec (suc (rank m s (prior m s)) ≡ m) → rank m s (prior m s) < m → rank m s (prior m s) ≡ m - 1
    go (yes e) b = omega arith
    go (no n) b =
        let e = rank_next h (prior_in h) (omega arith) in
        let z : rank m s (next m (prior m s)) ≡ 0 = ap (rank m s) (next_prior h) ∙ rank_self h in
        absurd (omega arith)

-- every slot is reached from a home within m
pub slot_reach : {m h f : ℕ} → h < m → f < m → slot_at m h (suc (rank m h f)) ≡ f
slot_reach {m} {h} {f} l k = slot_suc m h (rank m h f) ∙ onward_rank l k

-- rank without a remainder: i lies ahead of s, or behind it and around the end
pub rank_ahead : {m s i : ℕ} → s ≤ i → i < m → rank m s i ≡ i - s
rank_ahead {m} {s} {i} h l = go (turned (omega arith))
  where
    go : Turned m (i + (m - s)) → rank m s i ≡ i - s
    go (within k e) = omega arith
    go (around k e b) = omega arith

pub rank_behind : {m s i : ℕ} → i < s → s < m → rank m s i ≡ i + m - s
rank_behind {m} {s} {i} h l = go (turned (omega arith))
  where
    go : Turned m (i + (m - s)) → rank m s i ≡ i + m - s
    go (within k e) = omega arith
    go (around k e b) = omega arith

-- a remainder of a number one turn past
pub around_past : {m a : ℕ} → m ≤ a → a < m + m → a % m ≡ a - m
around_past {m} {a} h l = go (turned l)
  where
    go : Turned m a → a % m ≡ a - m
    go (within k e) = absurd (omega arith)
    go (around k e b) = omega arith
