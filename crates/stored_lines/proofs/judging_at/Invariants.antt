use Rattle.std.proofs.Common.{◌≡◌, ◌+◌, min, length}
use Rattle.text_fields.specs.Parts.{parts_left}
use Rattle.stored_lines.specs.inner.Case.{gathering_length, judging_at}
use Rattle.stored_lines.proofs.LineLaws.{spread}
use Rattle.stored_lines.proofs.judging_at.Given as goal

-- the lines before `at` don't judge, and those that are left reach to the list's end
abbrev pub invariant-loop-line : goal.invariant-loop-line
invariant-loop-line l =
    (min (l.at + gathering_length (parts_left l.line-iterator)) (length l.list) ≡ judging_at l.list l.from)
    × (l.at + spread (parts_left l.line-iterator) ≡ length l.list + 1)
