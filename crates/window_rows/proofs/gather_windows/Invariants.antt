use mathlib.Core.Path.{◌≡◌}
use mathlib.Core.List.{◌++◌, map}
use Prim.Native.Nat.{◌+◌}
use lib.ListN.{length}
use Rattle.loops.specs.Search.{count_below}
use Rattle.lent_room.specs.Listed.{behind, past}
use Rattle.rows.specs.Cells.{row_count, num}
use Rattle.rows.specs.Kinds.{kind_number}
use Rattle.owners.specs.inner.Owners.{owned_by}
use Rattle.model.specs.Sheet.{sheet}
use Rattle.model.specs.Resource.{windows}
use Rattle.window_rows.specs.Listed.{listed, calendar_in}
use Rattle.window_rows.proofs.WindowRows.{window_row}
use Rattle.window_rows.proofs.gather_windows.Given as goal

-- with the windows at the places that are left, all stand behind those that stood there, and the rest of the room behind all
abbrev pub invariant-loop-k : goal.invariant-loop-k
invariant-loop-k l =
    (calendar_in l.list ++ map (window_row l.rows) l.k-iterator ≡ calendar_in l.initial.list ++ windows (sheet l.rows) (kind_number l.fn.kind) (num l.rows l.o 1))
    × (length (listed l.list) + length l.k-iterator ≡ length (listed l.initial.list) + count_below (owned_by l.rows l.o (kind_number l.fn.kind)) (row_count l.rows))
    × (past (length l.k-iterator) (behind l.list) ≡ past (count_below (owned_by l.rows l.o (kind_number l.fn.kind)) (row_count l.rows)) (behind l.initial.list))
