use mathlib.Core.Path.{◌≡◌}
use mathlib.Core.List.{foldl}
use Rattle.chains.specs.inner.Left.{Left}
use Rattle.findings.specs.inner.Told.{so_far, tell, telling}
use Rattle.rows.specs.Cells.{row_count}
use Rattle.owners.specs.inner.Owners.{owned_by}
use Rattle.check4_claims.specs.inner.Claims.{lacking_for, lacking_of}
use Rattle.check4_claims.proofs.report_lacking.Given as goal

abbrev pub invariant-loop-k : goal.invariant-loop-k
invariant-loop-k l =
    Left (owned_by l.rows l.q 7) (row_count l.rows) l.k-iterator
    × (foldl (telling (lacking_for l.rows l.x)) (so_far l.found) l.k-iterator ≡ tell (so_far l.initial.found) (lacking_of l.rows l.q l.x))
