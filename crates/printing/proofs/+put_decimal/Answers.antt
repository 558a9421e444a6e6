use Rattle.std.proofs.Common.{rules}
use Rattle.printing.proofs.PutLaws.{wrote_last, wrote_digit}
use Rattle.printing.proofs.+put_decimal.Goals as goal

pub returns-then-n-lt10 : goal.returns-then-n-lt10
returns-then-n-lt10 t c = search (rules, wrote_last)

pub returns : goal.returns
returns t c = search (rules, wrote_digit)
