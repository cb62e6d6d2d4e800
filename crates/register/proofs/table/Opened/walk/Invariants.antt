-- `Opened::walk` meets its contract: the walk in mid-way, `Going`, is the loop's invariant.
use Rattle.register.specs.Private.{table_in}
use Rattle.register.proofs.Walking.{Going}
use Rattle.register.proofs.table.Opened.walk.Given as goal

abbrev pub invariant-loop-p : goal.invariant-loop-p
invariant-loop-p l = Going l.self.head.slots l.home l.x (table_in l.self) l.i l.p
