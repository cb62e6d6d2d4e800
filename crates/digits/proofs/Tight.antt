-- Each public function's own contract is tight: any two answers, with the line afterwards, that meet it are equal.
-- Each contract is an equation, and two things equal to a third are equal.
use mathlib.Core.Path.{refl, sym, ◌∙◌}
use Rattle.tight.specs.Determined.{Determined}
use Rattle.digits.proofs.read.Kinds as read-kinds
use Rattle.digits.proofs.read.Reads as read-contract
use Rattle.digits.proofs.write.Kinds as write-kinds
use Rattle.digits.proofs.write.Reads as write-contract

pub read_tight : Determined read-kinds.ps read-kinds.r read-contract.Post
read_tight κs a z w u v p q = (p ∙ sym q, refl)

pub write_tight : Determined write-kinds.ps write-kinds.r write-contract.Post
write_tight κs a z w u v p q = (refl, λ i. ((p ∙ sym q) i, v.1))
