-- `OpenedMut::lower` meets its contract: the shift in mid-way, `Lowering`, is the loop's invariant.
use native.Mathlib.Omega.{arith}
use Rattle.register.proofs.Slices.{holds_own}
use Rattle.register.proofs.Shifting.{kept_trans, lowering_start, lowering_count, lowering_next}
use Rattle.register.proofs.table.OpenedMut.lower.Goals as goal

pub loop-j-init : goal.loop-j-init
loop-j-init c =
    let a = c.args.self.now.lent in (search, lowering_start (holds_own a.words a.counts) c.requires.0)

pub overflow_sub-count : goal.overflow_sub-count
overflow_sub-count c = lowering_count c.loop-j.invariant.1 (omega arith) c.requires.1

pub loop-j-preserved : goal.loop-j-preserved
loop-j-preserved c =
    let i = c.loop-j.invariant in
    let e = c.move_to.ensures in
    (kept_trans i.0 e.kept, lowering_next i.1 (omega arith) e.words e.counts)
