use Rattle.std.proofs.Common.{◌∙◌, arith}
use Rattle.text_fields.proofs.DigitLaws.{digits, too_large}
use Rattle.text_fields.proofs.digits_value.Goals as goal

pub returns-then-not-is_ascii_digit : goal.returns-then-not-is_ascii_digit
returns-then-not-is_ascii_digit c = search digits

pub returns-in_err-checked_mul : goal.returns-in_err-checked_mul
returns-in_err-checked_mul c = c.from_residual.ensures ∙ too_large c.args.s.now c.loop-x.x-index c.loop-x.n c.loop-x.invariant (omega arith) (omega (arith, c.in_err-checked_mul.ensures))

pub returns-in_err-n : goal.returns-in_err-n
returns-in_err-n c = c.from_residual-in_err-n.ensures ∙ too_large c.args.s.now c.loop-x.x-index c.loop-x.n c.loop-x.invariant (omega arith) (omega (arith, c.in_err-n.ensures, c.from.ensures))

pub loop-x-preserved : goal.loop-x-preserved
loop-x-preserved c = search digits

pub returns : goal.returns
returns c = search digits
