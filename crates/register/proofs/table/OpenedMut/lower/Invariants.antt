-- `OpenedMut::lower` meets its contract: the shift in mid-way, `Lowering`, is the loop's invariant.
use Rattle.register.specs.Private.{Kept, table_in_mut}
use Rattle.register.proofs.Shifting.{Lowering}
use Rattle.register.proofs.table.OpenedMut.lower.Given as goal

abbrev pub invariant-loop-j : goal.invariant-loop-j
invariant-loop-j l =
    Kept l.initial.self l.self × Lowering l.initial.self.head.slots l.s l.k (table_in_mut l.initial.self) l.self.words.now l.self.counts.now l.j
