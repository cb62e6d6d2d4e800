-- `calls::store` past its opening: the slices fit the head, and the walk ends at a slot.
use Rattle.register.proofs.Opened.{opened}
use Rattle.register.proofs.Walked.{found_slot, absent_place}
use Rattle.register.proofs.calls.store.Goals as goal

pub invariant_of-opened : goal.invariant_of-opened
invariant_of-opened c = opened _ _ _ c.in_ok-opening.ensures

pub entry-requires : goal.entry-requires
entry-requires c = rw (c.view-in-Found.ensures.head, ← c.view.ensures.head) (found_slot _ _ _ _ (rw c.view.ensures.head c.home.ensures.1) c.in-Found.ensures)

pub store_at-requires : goal.store_at-requires
store_at-requires c = rw (← c.view.ensures.head) (absent_place _ _ _ _ (rw c.view.ensures.head c.home.ensures.1) c.in-Absent.ensures)
