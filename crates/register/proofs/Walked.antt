-- Where a walk from a slot may end. Assumes nothing.
use Prim.Native.Nat.{ℕ, ◌≤◌, ◌<◌}
use mathlib.Core.Path.{◌≡◌, sym}
use Rattle.arrangement.specs.Table.{Table}
use Rattle.arrangement.specs.Proper.{Space}
use Rattle.arrangement.specs.Walk.{found, absent, walk}
use Rattle.arrangement.proofs.Walk.{found_in, absent_in, absent_at}

-- every identifier's home is slot g
abbrev from_slot : (m g : ℕ) → g < m → Space
from_slot m g l = record { size = m; home = λ _. g; home_in = λ _. l }

-- the walk for x from slot g ends at slot i with p
module _ (m g x : ℕ) (t : Table) {i p : ℕ} (l : g < m) where
  pub found_slot : found i p ≡ walk m g x t → i < m
  found_slot e = found_in (from_slot m g l) t x (sym e)

  pub absent_place : absent i p ≡ walk m g x t → (i < m) × (p ≤ m)
  absent_place e = (absent_in (from_slot m g l) t x (sym e), (absent_at m g x t (sym e)).to)
