use Rattle.rows.proofs.KindNumbers.{kind_past}
use Rattle.std.proofs.Common.{arith}
use Rattle.rows.proofs.KindTryFromU64.try_from.Goals as goal

pub returns-in_default : goal.returns-in_default
returns-in_default c = kind_past c.args.number (λ p. omega arith)
