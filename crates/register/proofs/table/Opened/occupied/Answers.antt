-- `Opened::occupied` meets its contract: the counts that are not 0 are those of the occupied slots.
use Rattle.std.specs.Prelude.{ℕ, ◌≡◌, ◌^◌, get_or, count_by, not, eqb}
use Rattle.std.proofs.Common.{rules, ap, arith}
use Rattle.std.proofs.iter.runs.Made.{chains}
use Rattle.std.proofs.lemmas.Iterator.{YieldsList-from_slice}
use Rattle.std.proofs.lemmas.Iterator.Adapters.{fits_from_length, at_most_from_yields_List}
use Rattle.arrangement.specs.Table.{occupied}
use Rattle.register.specs.Private.{table_in}
use Rattle.register.proofs.Judged.{occupied_counts}
use Rattle.register.proofs.Totals.{few_counts}
use Rattle.register.proofs.table.Opened.occupied.Goals as goal

pub sum-requires-clause-fits : goal.sum-requires-clause-fits
sum-requires-clause-fits c =
    let r = c.args.self.now in
    fits_from_length _ _ 32768 (2 ^ 64) (at_most_from_yields_List (YieldsList-from_slice r.counts.now cc) (few_counts r.lent)) c.map.ensures.closure (omega arith) (λ x n q k. search rules)

pub returns : goal.returns
unfolding occupied
returns c =
    let r = c.args.self.now in
    let cs = r.counts.now in
    let e : c.sum.result ≡ count_by (λ n. not (eqb n 0)) cs = search (rules, chains) in
    rw (e, ← r.lent.counts) (occupied_counts (table_in r) cs 0 (λ k. ap (λ (n : ℕ). get_or cs n 0) (omega arith)))
