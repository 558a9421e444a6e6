use mathlib.Core.Path.{◌≡◌}
use lib.ListN.{length}
use Rattle.chains.specs.inner.Left.{Left}
use Rattle.findings.specs.inner.Told.{so_far, tell}
use Rattle.rows.specs.Cells.{row_count}
use Rattle.owners.specs.inner.Owners.{owned_by}
use Rattle.check4_claims.specs.inner.Claims.{claims_of, unclaimed_of, requirement_rows, runs_on_in}
use Rattle.check4_claims.proofs.fill_all.Given as goal

abbrev pub invariant-loop-q : goal.invariant-loop-q
invariant-loop-q l =
    Left (owned_by l.rows l.piece.row 5) (row_count l.rows) l.q-iterator
    × (length l.free ≡ 800)
    × (tell (so_far l.found) (claims_of l.rows l.piece.activity l.q-iterator (unclaimed_of l.rows l.piece.row l.free))
    ≡ tell (so_far l.initial.found) (claims_of l.rows l.piece.activity (requirement_rows l.rows l.piece.row) (runs_on_in l.rows l.piece.row l.piece.key)))
