-- What a run over stored lists tells, as bytes: a line for each case that fails, one for each list that was not read whole, and at the end the line of counts.
-- 58 is the colon, 10 the line feed. Assumes nothing.
use Rattle.std.specs.Prelude.{ℕ, ◌||◌, ◌==◌, min, cond, List, [], ◌∷◌, ◌++◌, length, take, drop, ltb, codes, Option, None, Some, Result, Ok, Err}
use Rattle.std.specs.Fmt.{decimal}
use Rattle.text_fields.specs.Parts.{until_byte, parts}
use Rattle.stored_run.specs.declared.Fault.{Fault}
use Rattle.stored_run.specs.declared.Fault.TheVariants.{IllFormed, Differs}
use Rattle.stored_run.specs.declared.Run.{Run}

-- "N cases, M as expected"
abbrev pub run_line : Run → List ℕ
run_line run = decimal run.cases ++ (codes " cases, " ++ (decimal run.passed ++ codes " as expected")) ++ 10 ∷ []

-- the number of the line that starts after these bytes, as far as a million
abbrev pub line_after : List ℕ → ℕ
line_after before = min 1000000 (length (parts 10 before))

-- "FILE:LINE", why the case fails that starts at a place of the list, and its first line; nothing of a place beyond the list
unfoldable pub case_line : List ℕ → List ℕ → ℕ → List ℕ → List ℕ
case_line name list at why =
    cond (ltb (length list) at) [] (name ++ 58 ∷ decimal (line_after (take at list)) ++ why ++ until_byte 10 (drop at list) ++ 10 ∷ [])

-- what is told of the case that starts there, by how it came out
abbrev pub told_case : List ℕ → List ℕ → ℕ → Result Unit Fault → List ℕ
told_case name list at (Ok _) = []
told_case name list at (Err IllFormed) = case_line name list at (codes ": ill-formed: ")
told_case name list at (Err Differs) = case_line name list at (codes ": differs: ")

-- "FILE: not read whole"
abbrev pub not_whole : List ℕ → List ℕ
not_whole name = name ++ codes ": not read whole" ++ 10 ∷ []

-- what is told of a list by how many of its bytes were read to so much room, if its file could be opened: nothing where some were read and room was left
abbrev pub told_unread : List ℕ → ℕ → Option ℕ → List ℕ
told_unread name room None = not_whole name
told_unread name room (Some n) = cond (n == 0 || n == room) (not_whole name) []
