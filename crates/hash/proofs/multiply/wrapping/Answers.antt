-- What is added up is the whole product modulo 2^64.
use Rattle.hash.proofs.Halves.{wrapped}
use Rattle.hash.proofs.multiply.wrapping.Goals as goal

pub returns : goal.returns
returns c = cc (wrapped _ _)
