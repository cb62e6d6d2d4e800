-- `Opened::reach_settled` meets its contract: the search in mid-way, `Seeking`, is the loop's invariant.
use native.Mathlib.Omega.{arith}
use Rattle.register.proofs.Reaching.{onward_next, seek_settled, settled_stop, settled_on, seek_end}
use Rattle.register.proofs.table.Opened.reach_settled.Goals as goal

pub loop-k-init : goal.loop-k-init
loop-k-init c = (c.next-i.ensures.0, c.next-i.ensures.1, seek_settled _ _ _)

pub returns-then-count-le1 : goal.returns-then-count-le1
returns-then-count-le1 c = settled_stop c.loop-k.invariant.2 (omega arith) c.loop-k.invariant.0 (omega arith)

pub loop-k-preserved : goal.loop-k-preserved
loop-k-preserved c =
    let l = c.loop-k.invariant in
    (onward_next _ _ _ c.next-i-in-loop-k.ensures.0 l.0, c.next-i-in-loop-k.ensures.1, settled_on l.2 (omega arith) l.0 (omega arith))

pub returns : goal.returns
returns c = seek_end c.loop-k.invariant.2 (omega arith)
