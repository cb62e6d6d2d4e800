-- Its two calls are the two parts of the definition.
use Rattle.hash.specs.Fnv.{fnv_prime, fnv_step}
use Rattle.hash.proofs.step.Goals as goal

pub returns : goal.returns
unfolding fnv_step fnv_prime
returns c = cc
