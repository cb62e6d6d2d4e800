-- `OpenedMut::lift` meets its contract: the lift in mid-way, `Lifting`, is the loop's invariant.
use native.Mathlib.Omega.{arith}
use Rattle.register.proofs.Slices.{holds_own}
use Rattle.register.proofs.Shifting.{kept_trans, lifting_start, lifting_count, lifting_next}
use Rattle.register.proofs.table.OpenedMut.lift.Goals as goal

pub loop-j-init : goal.loop-j-init
loop-j-init c =
    let a = c.args.self.now.lent in (search, lifting_start (holds_own a.words a.counts) c.requires.0 c.requires.1)

pub overflow_add-count : goal.overflow_add-count
overflow_add-count c = omega (arith, lifting_count c.loop-j.invariant.1 c.loop-j-test.true c.requires.2)

pub loop-j-preserved : goal.loop-j-preserved
loop-j-preserved c =
    let i = c.loop-j.invariant in
    let e = c.move_to.ensures in
    (kept_trans i.0 e.kept, lifting_next i.1 c.loop-j-test.true e.words e.counts)
