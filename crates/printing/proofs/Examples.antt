-- Worked examples of the definitions. Assumes nothing.
use Rattle.std.specs.Prelude.{Err, Ok}
use Rattle.refusals.specs.Refusals.{at}
use Rattle.refusals.specs.declared.Reason.TheVariants.{Crowded}
use Prim.Native.Nat.{ℕ}
use mathlib.Core.List.{List, [], ◌∷◌, ◌++◌}
use mathlib.Core.Path.{◌≡◌, refl, ap}
use native.Mathlib.Omega.{arith}
use lib.IntN.{pos, negsuc}
use Rattle.loops.specs.Numbers.{minus}
use Rattle.loops.specs.Range.{collect}
use Rattle.printing.specs.Decimal.{decimal_in, decimal, spelling}
use Rattle.printing.specs.NumberLines.{field, number_line, line_at, number_lines}
use Rattle.printing.specs.Printed.{printed_refused, printed_accepted, printed}
use Rattle.printing.proofs.DecimalLaws.{decimal_in_lem}

-- the rules' example: "accepted,1" and "8,1,1,80"
one_finding : printed (Ok 1) (pos 8 ∷ pos 1 ∷ pos 1 ∷ pos 80 ∷ pos 7 ∷ [])
    ≡ (97 ∷ 99 ∷ 99 ∷ 101 ∷ 112 ∷ 116 ∷ 101 ∷ 100 ∷ 44 ∷ 49 ∷ 10 ∷ []) ++ (56 ∷ 44 ∷ 49 ∷ 44 ∷ 49 ∷ 44 ∷ 56 ∷ 48 ∷ 10 ∷ [])
unfolding decimal_in decimal spelling collect field number_line line_at number_lines printed_accepted
one_finding = refl

-- with deadline 110: "accepted,0"
no_finding : printed (Ok 0) [] ≡ 97 ∷ 99 ∷ 99 ∷ 101 ∷ 112 ∷ 116 ∷ 101 ∷ 100 ∷ 44 ∷ 48 ∷ 10 ∷ []
unfolding decimal_in decimal collect number_lines printed_accepted
no_finding = refl

-- "refused,10,800"
crowded : printed (Err (at Crowded 800)) [] ≡ 114 ∷ 101 ∷ 102 ∷ 117 ∷ 115 ∷ 101 ∷ 100 ∷ 44 ∷ 49 ∷ 48 ∷ 44 ∷ 56 ∷ 48 ∷ 48 ∷ 10 ∷ []
unfolding decimal_in decimal printed_refused
crowded = refl

-- "-42"
below_zero : spelling (negsuc 41) ≡ 45 ∷ 52 ∷ 50 ∷ []
unfolding decimal_in decimal spelling
below_zero = refl

-- two lines of three numbers: "1,7,-5" and "2,3,0"
of_three : number_lines 3 (pos 1 ∷ pos 7 ∷ negsuc 4 ∷ pos 2 ∷ pos 3 ∷ pos 0 ∷ pos 9 ∷ []) 2
    ≡ (49 ∷ 44 ∷ 55 ∷ 44 ∷ 45 ∷ 53 ∷ 10 ∷ []) ++ (50 ∷ 44 ∷ 51 ∷ 44 ∷ 48 ∷ 10 ∷ [])
unfolding decimal_in decimal spelling collect field number_line line_at number_lines
of_three = refl

-- "0", and the lowest number of 64 bits, "-9223372036854775808"
nothing : spelling (pos 0) ≡ 48 ∷ []
unfolding decimal_in decimal spelling
nothing = refl

lowest : spelling (minus 9223372036854775808)
    ≡ 45 ∷ 57 ∷ 50 ∷ 50 ∷ 51 ∷ 51 ∷ 55 ∷ 50 ∷ 48 ∷ 51 ∷ 54 ∷ 56 ∷ 53 ∷ 52 ∷ 55 ∷ 55 ∷ 53 ∷ 56 ∷ 48 ∷ 56 ∷ []
unfolding decimal_in spelling
lowest = ap (λ (ds : List ℕ). 45 ∷ ds) (decimal_in_lem 18 9223372036854775808 (omega arith))
