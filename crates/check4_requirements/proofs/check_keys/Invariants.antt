use mathlib.Core.Path.{◌≡◌}
use mathlib.Core.List.{foldl}
use Rattle.chains.specs.inner.Left.{Left}
use Rattle.rows.specs.Cells.{row_count}
use Rattle.findings.specs.inner.Told.{so_far, tell, telling}
use Rattle.check4_pieces.specs.inner.OfPiece.{keys, key_below}
use Rattle.check4_requirements.specs.inner.ByRow.{check_piece, check_keys}
use Rattle.check4_requirements.proofs.check_keys.Given as goal

abbrev pub invariant-loop-p : goal.invariant-loop-p
invariant-loop-p l =
    Left (key_below l.rows l.o (row_count l.rows)) keys l.p-iterator
    × (foldl (telling (check_piece l.rows l.o)) (so_far l.found) l.p-iterator ≡ tell (so_far l.initial.found) (check_keys l.rows l.o))
