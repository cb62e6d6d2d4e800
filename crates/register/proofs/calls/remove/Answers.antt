-- `calls::remove` past its opening: the slices fit the head, and the walk ends at a slot.
use Rattle.register.proofs.Opened.{opened}
use Rattle.register.proofs.Walked.{found_slot}
use Rattle.register.proofs.calls.remove.Goals as goal

pub invariant_of-opened : goal.invariant_of-opened
invariant_of-opened c = opened _ _ _ c.in_ok-opening.ensures

pub remove_at-requires : goal.remove_at-requires
remove_at-requires c = rw (← c.view.ensures.head) (found_slot _ _ _ _ (rw c.view.ensures.head c.home.ensures.1) c.in-Found.ensures)
