-- `Opened::reach_empty` meets its contract: the search in mid-way, `Storing`, is the loop's invariant.
use mathlib.Core.Path.{sym}
use native.Mathlib.Omega.{arith}
use Rattle.arrangement.proofs.Cycle.{onward_zero}
use Rattle.register.proofs.Reaching.{onward_next, storing_start, storing_stop, storing_far, storing_on, storing_end}
use Rattle.register.proofs.table.Opened.reach_empty.Goals as goal

pub loop-k-init : goal.loop-k-init
loop-k-init c = (sym (onward_zero (omega arith)), omega arith, storing_start _ _ _)

pub returns-then-c-eq0 : goal.returns-then-c-eq0
returns-then-c-eq0 c = storing_stop c.loop-k.invariant.2 (omega arith) c.loop-k.invariant.0 (omega arith)

pub returns-then-m-c : goal.returns-then-m-c
returns-then-m-c c = storing_far c.loop-k.invariant.2 (omega arith) c.loop-k.invariant.0 (omega arith) (omega arith)

pub loop-k-preserved : goal.loop-k-preserved
loop-k-preserved c =
    let l = c.loop-k.invariant in
    (onward_next _ _ _ c.next-i.ensures.0 l.0, c.next-i.ensures.1, storing_on l.2 (omega arith) l.0 (λ e. omega arith) (omega arith))

pub returns : goal.returns
returns c = storing_end c.loop-k.invariant.2 (omega arith)
