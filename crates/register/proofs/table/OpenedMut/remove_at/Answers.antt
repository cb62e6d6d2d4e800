-- `OpenedMut::remove_at` meets its contract: the run's end says what may move, and the lists that hold a table are its own.
use Rattle.std.proofs.Common.{rules}
use Rattle.register.specs.Private.{table_in_mut}
use Rattle.register.proofs.Slices.{held_words, held_counts}
use Rattle.register.proofs.Endings.{settled_run}
use Rattle.register.proofs.table.OpenedMut.remove_at.Goals as goal

pub overflow_sub-moved : goal.overflow_sub-moved
overflow_sub-moved c = let a = c.args in (settled_run a.self.now.head.slots a.s c.in_ok-e.e (table_in_mut a.self.now) (search rules)).0

pub close_run-requires : goal.close_run-requires
close_run-requires c = search (rules, settled_run)

pub returns-clause-out : goal.returns-clause-out
returns-clause-out c = rw (held_words c.close_run.ensures.holds, held_counts c.close_run.ensures.holds) (search rules)
