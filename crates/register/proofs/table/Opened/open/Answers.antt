-- `Opened::open`: the slices fit the head where the opening does not refuse.
use Rattle.register.proofs.Opened.{opened}
use Rattle.register.proofs.table.Opened.open.Goals as goal

pub invariant_of-result : goal.invariant_of-result
invariant_of-result c = opened _ _ _ c.in_ok-opening.ensures
