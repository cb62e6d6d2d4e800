-- `OpenedMut::store_at` meets its contract: the run's end says what may move, and the lists that hold a table are its own.
use Rattle.std.proofs.Common.{rules}
use Rattle.register.proofs.Slices.{held_words, held_counts}
use Rattle.register.proofs.Endings.{reach_near, reach_short, store_to_reach}
use Rattle.register.proofs.table.OpenedMut.store_at.Goals as goal

pub returns-in_err-k-clause-out : goal.returns-in_err-k-clause-out
returns-in_err-k-clause-out c = search (rules, store_to_reach)

pub open_run-requires : goal.open_run-requires
open_run-requires c = search (rules, reach_short, reach_near)

pub returns-clause-out : goal.returns-clause-out
returns-clause-out c = rw (held_words c.open_run.ensures.holds, held_counts c.open_run.ensures.holds) (search (rules, store_to_reach))
