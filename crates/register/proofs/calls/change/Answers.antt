-- `calls::change` past its opening: the walk ends at a slot, and its entry is the one word written.
use Rattle.std.proofs.Common.{◌+◌, ◌*◌, ◌<◌, length, arith}
use Rattle.register.specs.Change.{change_of}
use Rattle.register.proofs.Slices.{change_holds}
use Rattle.register.proofs.Endings.{held_out}
use Rattle.register.proofs.Walked.{found_slot}
use Rattle.register.proofs.calls.change.Goals as goal
use Rattle.register.proofs.calls.change.Goals.{In-Found}

-- the entry of the walk's slot lies in the words
entry_in : (c : In-Found) → 2 * c.in-Found.slot + 1 < length c.args.words.now
entry_in c =
    let o = c.in_ok-opened in
    let i = found_slot _ _ _ _ (rw o.ensures.same.0 c.home.ensures.1) c.in-Found.ensures in
    rw (← o.ensures.same.1) (omega (arith, i, o.opened.lent.words))

pub overflow_mul-words : goal.overflow_mul-words
overflow_mul-words c = omega (arith, entry_in c)

pub overflow_add-words : goal.overflow_add-words
overflow_add-words c = omega (arith, entry_in c)

pub offset_bounds-words-slot : goal.offset_bounds-words-slot
offset_bounds-words-slot c = omega (arith, entry_in c)

pub bounds-words-slot : goal.bounds-words-slot
bounds-words-slot c = entry_in c

pub returns-in-Found : goal.returns-in-Found
unfolding change_of
returns-in-Found c =
    let o = c.in_ok-opened in
    let l = o.opened.lent in
    let s = o.ensures.same in
    let i = found_slot _ _ _ _ (rw s.0 c.home.ensures.1) c.in-Found.ensures in
    let h = change_holds o.opened.words.now o.opened.counts.now _ c.args.v i l.words l.counts in
    rw (← o.ensures.number, ← c.home.ensures.0, ← s.0, ← s.1, ← s.2, ← c.in-Found.ensures) (held_out (rw (c.done.ensures, s.0)) h)
