-- `OpenedMut::lift` meets its contract: the lift in mid-way, `Lifting`, is the loop's invariant.
use Rattle.register.specs.Private.{Kept, table_in_mut}
use Rattle.register.proofs.Shifting.{Lifting}
use Rattle.register.proofs.table.OpenedMut.lift.Given as goal

abbrev pub invariant-loop-j : goal.invariant-loop-j
invariant-loop-j l =
    Kept l.initial.self l.self × Lifting l.initial.self.head.slots l.a l.b (table_in_mut l.initial.self) l.self.words.now l.self.counts.now l.j
