-- `calls::find` past its opening: the walk ends at a slot.
use Rattle.register.proofs.Walked.{found_slot}
use Rattle.register.proofs.calls.find.Goals as goal

pub entry-requires : goal.entry-requires
entry-requires c = found_slot _ _ _ _ (rw c.in_ok-opened.ensures.same.0 c.home.ensures.1) c.in-Found.ensures
