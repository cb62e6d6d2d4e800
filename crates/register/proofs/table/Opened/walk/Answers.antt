-- `Opened::walk` meets its contract: the walk in mid-way, `Going`, is the loop's invariant.
use native.Mathlib.Omega.{arith}
use Rattle.register.proofs.Walking.{going_start, going_turn, going_on, going_end}
use Rattle.register.proofs.table.Opened.walk.Goals as goal

pub loop-p-init : goal.loop-p-init
loop-p-init c = going_start (omega arith)

pub returns-in-Equal : goal.returns-in-Equal
returns-in-Equal c = going_turn c.loop-p.invariant (omega arith) c.in-Equal.ensures

pub returns-in-Less : goal.returns-in-Less
returns-in-Less c = going_turn c.loop-p.invariant (omega arith) c.in-Less.ensures

pub loop-p-preserved : goal.loop-p-preserved
loop-p-preserved c = rw c.next-i.ensures.0 (going_on c.loop-p.invariant (omega arith) (omega arith) c.in-Greater.ensures)

pub returns : goal.returns
returns c = going_end c.loop-p.invariant (omega arith)
