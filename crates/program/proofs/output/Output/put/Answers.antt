-- `Output::put`: 40 zero bytes go behind those in hand, are lent to the session, and come back as the answer.
use Rattle.std.proofs.Common.{rules, ◌≡◌, ◌++◌, ℕ, ◌-◌, replicate, length, take, drop, ap, ◌∙◌}
use Rattle.program.proofs.Placed.{lent_is, placed}
use Rattle.program.proofs.output.Output.put.Goals as goal

pub returns-clause-answered : goal.returns-clause-answered
returns-clause-answered g c =
    let old = c.make_room.new.self.bytes.items in
    let lent = c.as_mut_slice.result.now in
    let zeros = replicate {A = ℕ} 40 0 in
    let items : c.try_extend_from_slice.new.self.items ≡ old ++ zeros = search rules in
    let value = c.as_mut_slice.ensures.value in
    let at : c.len-at.result ≡ length old = search rules in
    let part : take (length lent - c.len-at.result) (drop c.len-at.result lent) ≡ zeros = rw (value, items, at) (lent_is old zeros) in
    let same : length c.answer.new.buffer ≡ length zeros = c.answer.auto.buffer ∙ ap length part in
    (old, c.answer.new.buffer, rw (value, items, at) (placed old zeros c.answer.new.buffer same), rw part at c.answer.ensures.answered)
