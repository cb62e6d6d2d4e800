-- Numbers 1 and 2 have their exact condition in every call, on every input: document 01, "Numbers that come back". Assumes nothing.
use Rattle.std.specs.Prelude.{ℕ, ◌*◌, ◌≡◌, true, false, ◌↔◌, List, length}
use Rattle.register.specs.declared.head.Head.{Head}
use Rattle.register.specs.Head.{good_head}
use Rattle.register.specs.Clear.{new_head, clear_of}
use Rattle.register.specs.Find.{find_of}
use Rattle.register.specs.Store.{store_of}
use Rattle.register.specs.Remove.{remove_of}
use Rattle.register.specs.Change.{change_of}
use Rattle.register.specs.Check.{check_of}
use Rattle.register.specs.Census.{census_of}

-- the number of a call on this head and slices of these lengths: 1 exactly for a bad head, 2 exactly for a good one that they do not fit
pub record Opening (h : Head) (words counts number : ℕ) : Type 0 where
  pub bad_head : (number ≡ 1) ↔ (good_head h ≡ false)
  pub bad_length : (number ≡ 2) ↔ (good_head h ≡ true) × ((words ≡ 2 * h.slots) × (counts ≡ h.slots) → ⊥)

-- every call; clear tests the new head, not the old
pub record Openings : Type 0 where
  pub clear : (old : Head) (m rule salt : ℕ) (ws cs : List ℕ) → Opening (new_head m rule salt) (length ws) (length cs) (clear_of old m rule salt ws cs).answer.number
  pub find : (h : Head) (ws cs : List ℕ) (x : ℕ) → Opening h (length ws) (length cs) (find_of h ws cs x).number
  pub store : (h : Head) (ws cs : List ℕ) (x v : ℕ) → Opening h (length ws) (length cs) (store_of h ws cs x v).answer.number
  pub remove : (h : Head) (ws cs : List ℕ) (x : ℕ) → Opening h (length ws) (length cs) (remove_of h ws cs x).answer.number
  pub change : (h : Head) (ws cs : List ℕ) (x v : ℕ) → Opening h (length ws) (length cs) (change_of h ws cs x v).answer.number
  pub check : (h : Head) (ws cs : List ℕ) → Opening h (length ws) (length cs) (check_of h ws cs).number
  pub census : (h : Head) (ws cs : List ℕ) → Opening h (length ws) (length cs) (census_of h ws cs).number
