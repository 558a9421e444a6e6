-- Worked examples of what is printed of a margin, at its ends. Assumes nothing.
use mathlib.Core.List.{[], ◌∷◌, ◌++◌}
use mathlib.Core.Path.{◌≡◌, refl}
use native.Mathlib.Omega.{arith}
use lib.IntN.{pos}
use Rattle.loops.specs.Numbers.{minus}
use Rattle.loops.specs.Range.{collect}
use Rattle.printing.specs.Decimal.{decimal_in, decimal, spelling}
use Rattle.printing.specs.NumberLines.{field, number_line}
use Rattle.printing.proofs.DecimalLaws.{decimal_in_lem}
use Rattle.margin_lines.specs.Margins.{TASK, RESOURCE, margin_of}
use Rattle.margins.specs.Program.{task_word, resource_word, margin_line}

-- thirteen digits
four : decimal 4000000000000 ≡ 52 ∷ 48 ∷ 48 ∷ 48 ∷ 48 ∷ 48 ∷ 48 ∷ 48 ∷ 48 ∷ 48 ∷ 48 ∷ 48 ∷ 48 ∷ []
unfolding decimal_in
four = decimal_in_lem 12 4000000000000 (omega arith)

one : decimal 1 ≡ 49 ∷ []
unfolding decimal_in decimal
one = refl

-- "task,1,-4000000000000"
latest : margin_line (margin_of TASK 1 (minus 4000000000000)) ≡ task_word ++ 49 ∷ 44 ∷ 45 ∷ 52 ∷ 48 ∷ 48 ∷ 48 ∷ 48 ∷ 48 ∷ 48 ∷ 48 ∷ 48 ∷ 48 ∷ 48 ∷ 48 ∷ 48 ∷ 10 ∷ []
unfolding spelling collect field number_line margin_line
latest = rw (four, one)

-- "task,1,4000000000000"
earliest : margin_line (margin_of TASK 1 (pos 4000000000000)) ≡ task_word ++ 49 ∷ 44 ∷ 52 ∷ 48 ∷ 48 ∷ 48 ∷ 48 ∷ 48 ∷ 48 ∷ 48 ∷ 48 ∷ 48 ∷ 48 ∷ 48 ∷ 48 ∷ 10 ∷ []
unfolding spelling collect field number_line margin_line
earliest = rw (four, one)

-- "resource,5,0", and one unit over, "resource,5,-1"
full : margin_line (margin_of RESOURCE 5 (pos 0)) ≡ resource_word ++ 53 ∷ 44 ∷ 48 ∷ 10 ∷ []
unfolding decimal_in decimal spelling collect field number_line margin_line
full = refl

over : margin_line (margin_of RESOURCE 5 (minus 1)) ≡ resource_word ++ 53 ∷ 44 ∷ 45 ∷ 49 ∷ 10 ∷ []
unfolding decimal_in decimal spelling collect field number_line margin_line
over = refl
