-- `Opened::greatest` meets its contract: the chain's greatest is that of the specs.
use Rattle.std.proofs.lemmas.Iterator.{YieldsList-from_slice}
use Rattle.std.proofs.lemmas.Iterator.Consumers.{YieldsList-from_copied, max_from_yields_List}
use Rattle.register.proofs.Totals.{greatest_picked}
use Rattle.register.proofs.table.Opened.greatest.Goals as goal

pub returns : goal.returns
returns c =
    let cs = c.args.self.now.counts.now in
    let e = max_from_yields_List _ _ c.max.ensures.ran (YieldsList-from_copied (YieldsList-from_slice cs cc)) in
    rw (c.from.ensures, c.unwrap_or.ensures) (greatest_picked cs c.max.result e)
