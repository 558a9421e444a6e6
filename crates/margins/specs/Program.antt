-- What the program prints of rows: the lines alone, or a refusal. It lends room for 800 lines. Of a text it prints `printed_text printed_margins`
-- (text_program). Assumes nothing.
use Rattle.std.specs.Prelude.{ℕ, cond, List, [], ◌∷◌, ◌++◌, eqb, ℤ, pos}
use Rattle.loops.specs.Lists.{each}
use Rattle.printing.specs.NumberLines.{number_line}
use Rattle.printing.specs.Printed.{printed_alone}
use Rattle.margin_lines.specs.declared.lines.Margin.{Margin}
use Rattle.margin_lines.specs.Margins.{TASK, margins}
use Rattle.margin_lines.specs.Call.{margins_answer}

-- "task," and "resource,"
abbrev pub task_word : List ℕ
task_word = 116 ∷ 97 ∷ 115 ∷ 107 ∷ 44 ∷ []

abbrev pub resource_word : List ℕ
resource_word = 114 ∷ 101 ∷ 115 ∷ 111 ∷ 117 ∷ 114 ∷ 99 ∷ 101 ∷ 44 ∷ []

-- by what a margin is of
abbrev pub word_of : ℕ → List ℕ
word_of of = cond (eqb of TASK) task_word resource_word

-- "task,ID,MARGIN" or "resource,ID,MARGIN", with a minus where the margin is below zero
unfoldable pub margin_line : Margin → List ℕ
margin_line m = word_of m.of ++ number_line (pos m.id ∷ m.margin ∷ [])

unfoldable pub printed_margins : List ℤ → List ℕ
printed_margins rows = printed_alone (margins_answer rows 800) (each margin_line (margins rows))
