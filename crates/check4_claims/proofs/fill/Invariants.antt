use mathlib.Core.Path.{◌≡◌}
use lib.ListN.{length}
use Rattle.chains.specs.inner.Left.{Left}
use Rattle.findings.specs.inner.Told.{so_far, tell}
use Rattle.rows.specs.Cells.{row_count}
use Rattle.owners.specs.inner.Owners.{owned_by}
use Rattle.check4_claims.specs.inner.Claims.{filled, unclaimed_of, claim_of}
use Rattle.check4_claims.proofs.Claiming.{marks_from, told_from}
use Rattle.check4_claims.proofs.fill.Given as goal

abbrev pub invariant-loop-k : goal.invariant-loop-k
invariant-loop-k l =
    Left (owned_by l.rows l.piece.row 23) (row_count l.rows) l.k-iterator
    × (length l.free ≡ 800)
    × (unclaimed_of l.rows l.piece.row (marks_from l.rows l.q l.free l.units l.k-iterator) ≡ (claim_of l.rows l.q (unclaimed_of l.rows l.piece.row l.initial.free)).unclaimed)
    × (tell (so_far l.found) (told_from l.rows l.q l.piece.activity l.free l.units l.k-iterator) ≡ tell (so_far l.initial.found) (filled l.rows l.piece.activity l.q (unclaimed_of l.rows l.piece.row l.initial.free)))
