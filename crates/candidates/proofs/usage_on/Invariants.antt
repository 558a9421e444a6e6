use mathlib.Core.Path.{◌≡◌}
use Rattle.chains.specs.inner.Left.{Left}
use Rattle.rows.specs.Cells.{row_count}
use Rattle.owners.specs.inner.Owners.{owned_by}
use Rattle.model.specs.Sheet.{sheet}
use Rattle.model.specs.Activity.{usage_on}
use Rattle.model.specs.inner.Records.{activity_of, resource_of}
use Rattle.candidates.proofs.Uses.{first_usage}
use Rattle.candidates.proofs.usage_on.Given as goal

abbrev pub invariant-loop-q : goal.invariant-loop-q
invariant-loop-q l =
    Left (owned_by l.rows l.a 5) (row_count l.rows) l.q-iterator
    × (first_usage l.rows l.k l.q-iterator ≡ usage_on (sheet l.rows) (activity_of l.rows l.a) (resource_of l.rows l.k))
