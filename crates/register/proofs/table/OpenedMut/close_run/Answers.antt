-- `OpenedMut::close_run` meets its contract: the shift leaves the slot last vacated, which is zeroed.
use Rattle.register.proofs.Shifting.{kept_trans, closed}
use Rattle.register.proofs.table.OpenedMut.close_run.Goals as goal

pub returns : goal.returns
returns c =
    let a = c.args in
    let l = c.shift_back-last.ensures in
    let e = c.put.ensures in
    record {
      kept = kept_trans l.shifted.kept e.kept;
      holds = closed _ _ _ c.requires.0 c.requires.1 l.last l.shifted.holds e.words e.counts;
    }
