-- The digits of a part are read as one number.
-- At the loop's head the number read so far and the rest of the part make the part's number.
use Prim.Native.Nat.{◌<◌, ◌^◌}
use mathlib.Core.Path.{◌≡◌}
use lib.ListN.{drop}
use Rattle.digits.specs.Digits.{number_from}
use Rattle.digits.proofs.number.Given as goal

abbrev pub invariant-loop-b : goal.invariant-loop-b
invariant-loop-b l = (l.n < 16 ^ l.b-index) × (number_from l.n (drop l.b-index l.part) ≡ number_from 0 l.part)
