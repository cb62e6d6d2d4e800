-- `OpenedMut::shift_on` meets its contract: a run within the table is one lift, a run around the end three parts.
use Prim.Native.Nat.{◌+◌, ◌-◌}
use native.Mathlib.Omega.{arith}
use Rattle.register.specs.Private.{Leaves, table_in_mut}
use Rattle.register.specs.Shifts.{lifted}
use Rattle.register.proofs.Shifting.{kept_trans, leaves_as, leaves_next, run_within, run_around, turned_once, small_within, small_first, small_last, small_rest, turn_holds}
use Rattle.register.proofs.table.OpenedMut.shift_on.Goals as goal
use Rattle.register.proofs.table.OpenedMut.shift_on.Goals.{After-move_to}

-- around the end, the first two of the three parts
turned : (c : After-move_to)
    → let r = c.args.self.now in
    Leaves r c.move_to.new.self (turned_once r.head.slots (c.args.s + c.args.k - r.head.slots) (table_in_mut r))
turned c =
    let e = c.move_to.ensures in
    record { kept = kept_trans c.lift-2.ensures.kept e.kept; holds = turn_holds _ _ (omega arith) c.lift-2.ensures.holds e.words e.counts }

pub lift-requires : goal.lift-requires
lift-requires c = (omega arith, omega arith, small_within _ _ _ _ c.requires (omega arith) (omega arith))

pub returns-then-far-m : goal.returns-then-far-m
returns-then-far-m c = leaves_as c.lift.ensures (run_within _ _ _ _ c.requires.0 (omega arith))

pub lift-requires-2 : goal.lift-requires-2
lift-requires-2 c = (omega arith, omega arith, small_first _ _ _ _ c.requires (omega arith) (omega arith))

pub overflow_add-count : goal.overflow_add-count
overflow_add-count c = omega (arith, small_last _ _ _ _ c.requires (omega arith) (omega arith) c.lift-2.ensures.holds)

pub lift-requires-3 : goal.lift-requires-3
lift-requires-3 c =
    let t = turned (goal.at.lift-requires-3 c).After-move_to in
    (omega arith, rw t.kept.head (omega arith), small_rest _ _ _ _ c.requires (omega arith) (omega arith) t.holds)

pub returns : goal.returns
returns c =
    let m = c.args.self.now.head.slots in
    let t = turned (goal.at.returns c).After-move_to in
    let l = leaves_next (λ n. lifted c.args.s (m - 1) (table_in_mut c.move_to.new.self)) t.kept c.lift-3.ensures in
    leaves_as l (run_around _ _ _ _ c.requires.0 c.requires.1 (omega arith) _ t.holds.slots)
