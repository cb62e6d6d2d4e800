-- One record beats another: an order on counts and identifiers, unchanged when both counts grow by one.
-- And what it says of two neighbouring cells.
use Prim.Native.Nat.{ℕ, suc, ◌+◌, ◌≤◌, ◌<◌}
use mathlib.Core.Path.{◌≡◌}
use native.Mathlib.Decide.{dec_le}
use native.Mathlib.Omega.{arith}
use Rattle.arrangement.specs.Table.{Cell}
use Rattle.arrangement.specs.Proper.{Beats}
use Rattle.arrangement.specs.Changes.{raised, lowered}

pub beats_trans : {a x b y c z : ℕ} → Beats a x b y → Beats b y c z → Beats a x c z
beats_trans p q =
    record {
      ge = omega arith;
      tie = λ l. omega (arith, p.tie (omega arith), q.tie (omega arith));
    }

pub beats_not_both : {a x b y : ℕ} → Beats a x b y → Beats b y a x → ⊥
beats_not_both p q = omega (arith, p.tie (omega arith), q.tie (omega arith))

pub beats_raise : {a x b y : ℕ} → Beats a x b y → Beats (suc a) x (suc b) y
beats_raise p = record { ge = omega arith; tie = λ l. p.tie (omega arith) }

pub beats_lower : {a x b y : ℕ} → Beats (suc a) x (suc b) y → Beats a x b y
beats_lower p = record { ge = omega arith; tie = λ l. p.tie (omega arith) }

pub beats_more : {a b : ℕ} (x y : ℕ) → b < a → Beats a x b y
beats_more x y h = record { ge = omega arith; tie = λ l. absurd (omega arith) }

-- the cell beats count p with identifier x
abbrev pub CellBeats : Cell → ℕ → ℕ → Type 0
CellBeats c p x = Beats c.count c.identifier p x

-- count p with identifier x beats the cell
abbrev pub BeatsCell : ℕ → ℕ → Cell → Type 0
BeatsCell p x c = Beats p x c.count c.identifier

-- cell b may stand behind cell a
abbrev pub Follows : Cell → Cell → Type 0
Follows a b = 2 ≤ b.count → BeatsCell (suc a.count) a.identifier b

pub follows_settled : (a b : Cell) → b.count ≤ 1 → Follows a b
follows_settled a b h = λ l. absurd (omega arith)

-- nothing far from home stands behind an empty cell
pub settled_after : (a b : Cell) → a.count ≡ 0 → Follows a b → b.count ≤ 1
settled_after a b z f = go (dec_le 2 b.count)
  where
    go : Dec (2 ≤ b.count) → b.count ≤ 1
    go (yes l) = absurd (omega (arith, (f l).ge))
    go (no l) = omega arith

-- both one slot on
pub follows_raised : (a b : Cell) → 0 < a.count → Follows a b → Follows (raised a) (raised b)
follows_raised a b z f l = go (dec_le 2 b.count)
  where
    go : Dec (2 ≤ b.count) → Beats (suc (a.count + 1)) a.identifier (b.count + 1) b.identifier
    go (yes k) = let p = f k in record { ge = omega arith; tie = λ u. p.tie (omega arith) }
    go (no k) = beats_more _ _ (omega arith)

-- both one slot back
pub follows_lowered : (a b : Cell) → Follows a b → Follows (lowered a) (lowered b)
follows_lowered a b f = λ l.
    let p = f (omega arith) in
    record { ge = omega arith; tie = λ k. p.tie (omega arith) }

-- the last of three, one slot back, may stand behind the first
pub follows_skip : (a b c : Cell) → Follows a b → Follows b c → Follows a (lowered c)
follows_skip a b c f g = λ l.
    let q = g (omega arith) in
    let p = f (omega arith) in
    record { ge = omega arith; tie = λ k. omega (arith, p.tie (omega arith), q.tie (omega arith)) }
