-- The fold of the step from the start is the definition's recursion.
use Rattle.std.proofs.Common.{◌≡◌, ◌∙◌, fold, rules}
use Rattle.hash.specs.Fnv.{fnv_start, fnv_step}
use Rattle.hash.proofs.Folded.{hash_of_list}
use Rattle.hash.proofs.bytes.Goals as goal

pub returns : goal.returns
unfolding fnv_start
returns c =
    let all : c.fold.result ≡ fold fnv_step fnv_start c.args.s.now = search rules in
    all ∙ hash_of_list _
