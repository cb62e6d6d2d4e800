-- A part is filled with a number's digits, from its end.
-- At the loop's head the digits still to come and the part behind them are the whole.
use mathlib.Core.Path.{◌≡◌}
use mathlib.Core.List.{◌++◌}
use lib.ListN.{length, drop}
use Rattle.digits.specs.Digits.{digits_of}
use Rattle.digits.proofs.fill.Given as goal

abbrev pub invariant-loop-i : goal.invariant-loop-i
invariant-loop-i l = digits_of l.i l.left ++ drop l.i l.part ≡ digits_of (length l.initial.part) l.number
