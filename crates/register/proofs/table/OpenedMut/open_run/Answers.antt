-- `OpenedMut::open_run` meets its contract: the shift leaves s to the new record.
use Rattle.register.proofs.Shifting.{kept_trans, opened}
use Rattle.register.proofs.table.OpenedMut.open_run.Goals as goal

pub returns : goal.returns
returns c =
    let a = c.args in
    let l = c.shift_on.ensures in
    let e = c.put.ensures in
    record { kept = kept_trans l.kept e.kept; holds = opened _ _ _ _ _ _ c.requires.0 l.holds e.words e.counts }
