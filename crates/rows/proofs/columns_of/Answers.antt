use Rattle.std.proofs.Common.{ap, sym}
use Rattle.std.specs.Prelude.{[]}
use lib.ListN.{get_or-eq_default}
use Rattle.rows.specs.Table.{columns}
use Rattle.rows.specs.inner.Padded.{padded}
use Rattle.rows.proofs.Tables.{padded_at}
use Rattle.rows.proofs.columns_of.Goals as goal

pub returns-then-kind-lt25 : goal.returns-then-kind-lt25
unfolding padded
returns-then-kind-lt25 c = padded_at columns c.args.kind _ c.if-kind-lt25.true

pub returns-else-kind-lt25 : goal.returns-else-kind-lt25
unfolding padded
returns-else-kind-lt25 c = ap padded (sym (get_or-eq_default columns [] c.if-kind-lt25.false))
