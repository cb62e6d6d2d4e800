-- `Opened::total` meets its contract: the chain's sum is the stored total, and 32768 counts of 16 bits keep it small.
use Rattle.std.specs.Prelude.{◌≡◌, ◌+◌, ◌<◌, ◌^◌, fold, sum}
use Rattle.std.proofs.Common.{rules, arith}
use Rattle.std.proofs.iter.runs.Made.{chains}
use Rattle.std.proofs.lemmas.Iterator.{YieldsList-from_slice}
use Rattle.std.proofs.lemmas.Iterator.Adapters.{fits_from_length, at_most_from_yields_List}
use Rattle.register.proofs.Totals.{stored_sum, few_counts}
use Rattle.register.proofs.table.Opened.total.Goals as goal

pub sum-requires-clause-fits : goal.sum-requires-clause-fits
sum-requires-clause-fits c =
    let r = c.args.self.now in
    fits_from_length _ _ 32768 (2 ^ 64) (at_most_from_yields_List (YieldsList-from_slice r.counts.now cc) (few_counts r.lent)) c.map.ensures.closure (omega arith) (λ x n q k. search rules)

pub returns : goal.returns
returns c =
    let r = c.args.self.now in
    let cs = r.counts.now in
    let e : c.sum.result ≡ sum cs = search (rules, chains) in
    let p = c.sum.ensures.runs tt in
    let small : fold (λ a x. a + x) 0 p.0.items < 2147450881 = fits_from_length _ _ 32768 2147450881 (at_most_from_yields_List (YieldsList-from_slice cs cc) (few_counts r.lent)) c.map.ensures.closure (omega arith) (λ x n q k. search rules) p.0 p.0.seen p.1 in
    (rw e (stored_sum cs), omega (arith, small))
