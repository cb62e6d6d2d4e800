-- `calls::clear` past its opening: the slices have the lengths of the new head's, so that the zeros are as many as the specs say.
use Rattle.std.specs.Prelude.{◌≡◌, length}
use Rattle.register.specs.Answers.{open_number}
use Rattle.register.specs.Clear.{new_head, clear_of}
use Rattle.register.proofs.Opened.{opened}
use Rattle.register.proofs.calls.clear.Goals as goal

pub returns : goal.returns
unfolding clear_of
returns c = λ old.
    let a = c.args in
    let new : 0 ≡ open_number (new_head a.slots a.rule a.salt) (length a.words.now) (length a.counts.now) = rw c.cleared-head.ensures at c.in_ok-opening.ensures in
    let l = (opened (new_head a.slots a.rule a.salt) a.words.now a.counts.now new).lent in
    rw (← new, c.done.ensures, c.zero.ensures.words, c.zero.ensures.counts, l.words, l.counts, c.cleared-head.ensures)
