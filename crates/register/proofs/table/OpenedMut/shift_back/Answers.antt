-- `OpenedMut::shift_back` meets its contract: a run within the table is one part, a run around the end three.
use Prim.Native.Nat.{◌+◌, ◌-◌}
use mathlib.Core.Path.{◌∙◌}
use native.Mathlib.Omega.{arith}
use Rattle.arrangement.proofs.Cycle.{rank_behind}
use Rattle.register.specs.Private.{Leaves, table_in_mut}
use Rattle.register.specs.Shifts.{shifted_back}
use Rattle.register.proofs.Shifting.{kept_trans, leaves_as, leaves_next, onward_of, back_turn_count, back_turn_holds, turned_back, liftable_rest, back_around}
use Rattle.register.proofs.table.OpenedMut.shift_back.Goals as goal
use Rattle.register.proofs.table.OpenedMut.shift_back.Goals.{After-move_to}

-- around the end, the first two of the three parts
turned : (c : After-move_to) → let r = c.args.self.now in Leaves r c.move_to.new.self (turned_back r.head.slots c.args.s (table_in_mut r))
turned c =
    let e = c.move_to.ensures in
    record { kept = kept_trans c.lower-2.ensures.kept e.kept; holds = back_turn_holds _ _ (omega arith) c.lower-2.ensures.holds e.words e.counts }

pub overflow_sub-count : goal.overflow_sub-count
overflow_sub-count c = back_turn_count _ _ _ _ c.requires (omega arith) c.lower-2.ensures.holds

pub lower-requires-3 : goal.lower-requires-3
lower-requires-3 c =
    let t = turned (goal.at.lower-requires-3 c).After-move_to in
    rw t.kept.head (omega arith, liftable_rest _ _ _ _ c.requires (omega arith) t.holds)

pub returns-clause-last : goal.returns-clause-last
returns-clause-last c = onward_of (omega arith) (omega arith) (rank_behind (omega arith) (omega arith) ∙ omega arith)

pub returns-clause-shifted : goal.returns-clause-shifted
returns-clause-shifted c =
    let a = c.args in
    let t = turned (goal.at.returns-clause-shifted c).After-move_to in
    let last = a.s + a.k - a.self.now.head.slots in
    let l = leaves_next (λ m. shifted_back m 0 last (table_in_mut c.move_to.new.self)) t.kept c.lower-3.ensures in
    leaves_as l (back_around _ _ _ _ c.requires.0 c.requires.1 (omega arith) _ t.holds.slots)
