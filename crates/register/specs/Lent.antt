-- Lent slices that fit a slot count: what every helper past the opening is given. Assumes nothing.
use Rattle.std.specs.Prelude.{ℕ, ◌*◌, ◌≤◌, ◌≡◌, List, length}

-- a good slot count, and slices of 2m words and m counts
pub record Lent (m : ℕ) (ws cs : List ℕ) : Type 0 where
  pub least : 2 ≤ m
  pub most : m ≤ 32768
  pub words : length ws ≡ 2 * m
  pub counts : length cs ≡ m
