-- How a run over stored lists goes, by what the judge says of what a case gathers for a program that reads so much: what is told of it, and what is counted.
-- Assumes nothing.
use Rattle.std.specs.Prelude.{ℕ, Bool, ◌≡◌, ◌≤◌, ◌<◌, cond, List, [], ◌∷◌, ◌++◌, length, slice_range, Option, None, Some, Result, is_ok}
use denote.Ref.{Bor}
use Rattle.stored_lines.specs.declared.Case.{Case}
use Rattle.stored_lines.specs.inner.Case.{CaseAt}
use Rattle.stored_run.specs.Told.{told_case, told_unread, not_whole}
use Rattle.stored_run.specs.declared.Fault.{Fault}
use Rattle.stored_run.specs.declared.Gathered.{Gathered}
use Rattle.stored_run.specs.declared.Reads.{Reads}
use Rattle.stored_run.specs.declared.Run.{Run}
use Rattle.stored_run.specs.inner.Cases.{ComesOut}
use Rattle.stored_run.specs.inner.Count.{more}

-- before the first case; and after one more, that came out so
abbrev pub no_cases : Run
no_cases = record { cases = 0; passed = 0 }

abbrev pub with_case : Run → Result Unit Fault → Run
with_case run outcome = record { cases = more run.cases; passed = cond (is_ok outcome) (more run.passed) run.passed }

-- a case of a list, and how it came out
pub record Judged : Type 0 where
  pub case : Case
  pub outcome : Result Unit Fault

-- what is told of cases, and the counts after them
abbrev pub told_cases : List ℕ → List ℕ → List Judged → List ℕ
told_cases name list [] = []
told_cases name list (j ∷ js) = told_case name list j.case.start j.outcome ++ told_cases name list js

abbrev pub with_cases : Run → List Judged → Run
with_cases run [] = run
with_cases run (j ∷ js) = with_cases (with_case run j.outcome) js

module _ (Judges : Gathered → Bool → Type 0) (reads : Reads) where
  -- these are the cases of a list from a place on, each with its outcome, to the list's end
  abbrev pub AreJudged : List ℕ → ℕ → List Judged → Type 0
  AreJudged list at [] = length list ≤ at
  AreJudged list at (j ∷ js) =
      (at < length list) × CaseAt list at j.case
      × ComesOut Judges reads (slice_range list j.case.start j.case.end) (slice_range list j.case.start j.case.line) (slice_range list j.case.line j.case.end) j.outcome
      × AreJudged list j.case.next js

  -- of a list in the file of that name this is told, and the counts before it become those after it
  abbrev pub ReplaysList : List ℕ → List ℕ → List ℕ → Run → Run → Type 0
  ReplaysList name list told before after =
      (js : List Judged) × AreJudged list 0 js × (told ≡ told_cases name list js) × (after ≡ with_cases before js)

  -- the same by what was read of the file, if it could be opened: at most as much as there is room for
  abbrev pub ReplaysRead : List ℕ → Option (List ℕ) → List ℕ → Run → Run → Type 0
  ReplaysRead name None told before after = (told ≡ not_whole name) × (after ≡ before)
  ReplaysRead name (Some list) told before after =
      (length list ≤ 262144)
      × (cases : List ℕ) × (told ≡ told_unread name 262144 (Some (length list)) ++ cases) × ReplaysList name list cases before after

  -- of a file; which bytes it has, no contract can say
  abbrev pub ReplaysFile : List ℕ → List ℕ → Run → Run → Type 0
  ReplaysFile name told before after = (read : Option (List ℕ)) × ReplaysRead name read told before after

  -- of the files of these names, one after the other
  abbrev pub ReplaysFiles : List (Bor (List ℕ)) → List ℕ → Run → Run → Type 0
  ReplaysFiles [] told before after = (told ≡ []) × (after ≡ before)
  ReplaysFiles (name ∷ names) told before after =
      (first rest : List ℕ) × (between : Run) × (told ≡ first ++ rest) × ReplaysFile name.now first before between × ReplaysFiles names rest between after
