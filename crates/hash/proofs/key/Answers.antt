-- The bytes of the two numbers, one after the other, are the definition's sixteen.
use Rattle.std.proofs.Common.{append-nil}
use Rattle.hash.specs.Fnv.{little_bytes, key_hash}
use Rattle.hash.proofs.Folded.{little}
use Rattle.hash.proofs.key.Goals as goal

pub returns : goal.returns
unfolding key_hash
returns c = cc (little c.args.salt, little c.args.id, append-nil (little_bytes c.args.id))
