-- Each public function's own contract is tight: any two answers, with the slices and the buffer afterwards, that meet it are equal.
-- Each contract is an equation, and two things equal to a third are equal.
use mathlib.Core.Path.{refl, sym, ap, ◌∙◌}
use Rattle.tight.specs.Determined.{Determined}
use Rattle.frames.specs.Serving.{Served}
use Rattle.frames.proofs.line.parse.Kinds as parse-kinds
use Rattle.frames.proofs.line.parse.Reads as parse-contract
use Rattle.frames.proofs.answer.print.Kinds as print-kinds
use Rattle.frames.proofs.answer.print.Reads as print-contract
use Rattle.frames.proofs.serving.serve.Kinds as serve-kinds
use Rattle.frames.proofs.serving.serve.Reads as serve-contract

pub parse_tight : Determined parse-kinds.ps parse-kinds.r parse-contract.Post
parse_tight κs a z w u v p q = (p ∙ sym q, refl)

pub print_tight : Determined print-kinds.ps print-kinds.r print-contract.Post
print_tight κs a z w u v p q = (refl, λ i. (tt, ((p ∙ sym q) i, tt)))

pub serve_tight : Determined serve-kinds.ps serve-kinds.r serve-contract.Post
serve_tight κs a z w u v p q =
    let e = p ∙ sym q in
    (ap (λ (s : Served). s.head) e, λ i. (tt, ((e i).words, ((e i).counts, (tt, ((e i).buffer, tt))))))
