use Rattle.std.proofs.Common.{◌∙◌, rules}
use Rattle.text_fields.proofs.DigitLaws.{digits_below, number_empty, minus_digits, minus_none, plain_digits, plain_none}
use Rattle.text_fields.proofs.read_number.Goals as goal

pub returns-in-empty : goal.returns-in-empty
returns-in-empty c = search (rules, number_empty)

pub negated-requires : goal.negated-requires
negated-requires c = digits_below _ _ c.read_digits.ensures (c.in_ok-read_digits-in-45.was)

pub returns-in_err-read_digits-in-45 : goal.returns-in_err-read_digits-in-45
returns-in_err-read_digits-in-45 c = let h = c.read_digits.ensures in search (rules, minus_none, ◌∙◌)

pub returns-in_ok-read_digits-in-45 : goal.returns-in_ok-read_digits-in-45
returns-in_ok-read_digits-in-45 c = let h = c.read_digits.ensures in search (rules, minus_digits)

pub overflow_cast-result : goal.overflow_cast-result
overflow_cast-result c = search (rules, digits_below)

pub returns-in_err-read_digits-in_default : goal.returns-in_err-read_digits-in_default
returns-in_err-read_digits-in_default c = search (rules, plain_none, ◌∙◌)

pub returns-in_ok-read_digits-in_default : goal.returns-in_ok-read_digits-in_default
returns-in_ok-read_digits-in_default c = search (rules, plain_digits)
