-- Worked examples of the definitions. Assumes nothing.
use Rattle.std.specs.Prelude.{Err, Ok}
use Rattle.refusals.specs.Refusals.{at}
use Rattle.refusals.specs.declared.Reason.TheVariants.{Crowded, Misspelt, UnknownKind}
use Prim.Native.Nat.{ℕ}
use mathlib.Core.List.{List, [], ◌∷◌, ◌++◌}
use mathlib.Core.Path.{◌≡◌, refl}
use lib.IntN.{ℤ, pos, negsuc}
use lib.ListN.{drop}
use Rattle.loops.specs.Lists.{all_of}
use Rattle.rows.specs.Table.{width}
use Rattle.text_fields.specs.Parts.{parts}
use Rattle.text_fields.specs.Spelling.{digits_from, digits_of, number_of}
use Rattle.text_line.specs.Line.{spelled, line_of, row_of}
use Rattle.text.specs.Text.{answer_from, rows_of, answer_of, rows_after}

-- the text of five lines in the rules, and its rows
unfoldable sample : List ℕ
sample =
    49 ∷ 44 ∷ 49 ∷ 44 ∷ 49 ∷ 48 ∷ 48 ∷ 44 ∷ 10 ∷
    50 ∷ 44 ∷ 49 ∷ 48 ∷ 44 ∷ 49 ∷ 44 ∷ 48 ∷ 44 ∷ 48 ∷ 44 ∷ 54 ∷ 48 ∷ 44 ∷ 48 ∷ 44 ∷ 48 ∷ 44 ∷ 10 ∷
    53 ∷ 44 ∷ 49 ∷ 48 ∷ 44 ∷ 55 ∷ 44 ∷ 49 ∷ 44 ∷ 49 ∷ 10 ∷
    49 ∷ 49 ∷ 44 ∷ 53 ∷ 44 ∷ 55 ∷ 44 ∷ 49 ∷ 10 ∷
    50 ∷ 51 ∷ 44 ∷ 49 ∷ 48 ∷ 44 ∷ 49 ∷ 44 ∷ 53 ∷ 44 ∷ 53 ∷ 48 ∷ 44 ∷ 49 ∷ 49 ∷ 48 ∷ 44 ∷ 48 ∷ 44 ∷ 44 ∷ 10 ∷ []

unfoldable sample_rows : List ℤ
sample_rows =
    pos 1 ∷ pos 1 ∷ pos 100 ∷ negsuc 9223372036854775807 ∷ pos 0 ∷ pos 0 ∷ pos 0 ∷ pos 0 ∷ pos 0 ∷ pos 0 ∷
    pos 2 ∷ pos 10 ∷ pos 1 ∷ pos 0 ∷ pos 0 ∷ pos 60 ∷ pos 0 ∷ pos 0 ∷ negsuc 9223372036854775807 ∷ pos 0 ∷
    pos 5 ∷ pos 10 ∷ pos 7 ∷ pos 1 ∷ pos 1 ∷ pos 0 ∷ pos 0 ∷ pos 0 ∷ pos 0 ∷ pos 0 ∷
    pos 11 ∷ pos 5 ∷ pos 7 ∷ pos 1 ∷ pos 0 ∷ pos 0 ∷ pos 0 ∷ pos 0 ∷ pos 0 ∷ pos 0 ∷
    pos 23 ∷ pos 10 ∷ pos 1 ∷ pos 5 ∷ pos 50 ∷ pos 110 ∷ pos 0 ∷ negsuc 9223372036854775807 ∷ negsuc 9223372036854775807 ∷ pos 0 ∷ []

five_rows : answer_of sample 800 ≡ Ok 5
unfolding sample width parts all_of digits_from digits_of number_of spelled line_of answer_from answer_of
five_rows = refl

their_numbers : rows_of (parts 10 sample) ≡ sample_rows
unfolding sample sample_rows parts digits_from digits_of number_of row_of rows_of
their_numbers = refl

-- so the lent numbers are those rows, with what follows them as it was
lent_after_lem : (lent : List ℤ) → rows_after (answer_of sample 800) sample lent ≡ sample_rows ++ drop 50 lent
lent_after_lem lent = rw (five_rows, their_numbers)

-- with four rows lent, the fifth line is too many
four_lent : answer_of sample 4 ≡ Err (at Crowded 4)
unfolding sample width parts all_of digits_from digits_of number_of spelled line_of answer_from answer_of
four_lent = refl

empty_text : answer_of [] 0 ≡ Ok 0
unfolding parts answer_from answer_of
empty_text = refl

-- `25` without a line feed is misspelt before its kind is looked at, and with one it is of an unknown kind
not_ended : answer_of (50 ∷ 53 ∷ []) 800 ≡ Err (at Misspelt 0)
unfolding width parts all_of digits_from digits_of number_of spelled line_of answer_from answer_of
not_ended = refl

unknown_kind : answer_of (50 ∷ 53 ∷ 10 ∷ []) 800 ≡ Err (at UnknownKind 0)
unfolding width parts all_of digits_from digits_of number_of spelled line_of answer_from answer_of
unknown_kind = refl
