-- The lines of one read: each is cut off what is left of the input, so the loop ends.
-- Nothing is assumed of the session, whose lines fit by their type.
use Rattle.std.proofs.Common.{length}
use Rattle.program.proofs.input.Session.feed.Given as goal

abbrev pub decreases-loop-end : goal.decreases-loop-end
decreases-loop-end g l = length l.rest
