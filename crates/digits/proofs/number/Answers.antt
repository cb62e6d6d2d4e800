-- The digits of a part are read as one number.
-- Each digit is below 16, so the number read so far stays below the power of its places.
use native.Mathlib.Numerals.{add-one}
use mathlib.Core.Path.{sym, ◌∙◌}
use native.Mathlib.Omega.{arith}
use borrow.Author.Rules.{rules}
use Rattle.digits.proofs.Single.{digit_worth}
use Rattle.digits.proofs.Reading.{one_more_below, one_more_fits, byte_read}
use Rattle.digits.proofs.number.Goals as goal

pub overflow_mul-n : goal.overflow_mul-n
overflow_mul-n c =
    let l = c.loop-b in
    record { fits = omega (arith, one_more_fits l.b-index l.n 0 (search rules) l.invariant.0 (omega arith)) }

pub overflow_add-n : goal.overflow_add-n
overflow_add-n c =
    let l = c.loop-b in
    let v = digit_worth _ _ (sym c.in_ok-n.ensures) in
    record { fits = one_more_fits l.b-index l.n c.in_ok-n.field-0 (search rules) l.invariant.0 v.0 }

pub loop-b-preserved : goal.loop-b-preserved
loop-b-preserved c =
    let l = c.loop-b in
    let v = digit_worth _ _ (sym c.in_ok-n.ensures) in
    rw add-one (
      one_more_below l.b-index l.n c.in_ok-n.field-0 l.invariant.0 v.0,
      (rw (sym c.in_ok-n.ensures) at (sym (byte_read _ l.b-index l.n c.loop-b-test.true))) ∙ l.invariant.1,
    )
