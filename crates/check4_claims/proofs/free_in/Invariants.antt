use mathlib.Core.Path.{◌≡◌}
use mathlib.Core.List.{foldl}
use Rattle.chains.specs.inner.Left.{Left}
use Rattle.rows.specs.Cells.{row_count}
use Rattle.owners.specs.inner.Owners.{owned_by}
use Rattle.check4_claims.specs.inner.Claims.{unclaimed_of, runs_on_in}
use Rattle.check4_claims.proofs.Claiming.{mark_free}
use Rattle.check4_claims.proofs.free_in.Given as goal

abbrev pub invariant-loop-k : goal.invariant-loop-k
invariant-loop-k l =
    Left (owned_by l.rows l.piece.row 23) (row_count l.rows) l.k-iterator
    × (unclaimed_of l.rows l.piece.row (foldl (mark_free l.rows l.piece.key) l.free l.k-iterator) ≡ runs_on_in l.rows l.piece.row l.piece.key)
