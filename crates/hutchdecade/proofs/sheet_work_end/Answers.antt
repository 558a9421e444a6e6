use Rattle.outcomes.specs.declared.WorkEndOutcome.{WorkEndOutcome}
use mathlib.Core.List.{List}
use lib.IntN.{ℤ}
use mir.Syntax.{w64}
use mir.Facts.{to_z-of_z}
use mir.Val.{SFits, to_z, of_z}
use mathlib.Core.Path.{◌≡◌, ap, ◌∙◌}
use Rattle.work_end_inquiry.specs.Inquiry.{inquiry, InquiryOutcome}
use Rattle.outcomes.specs.Outcome.{of_inquiry}
use borrow.Author.Rules.{rules}
use Rattle.hutchdecade.proofs.sheet_work_end.Goals as goal

-- the numbers of the inquiry's outcome; what it was asked was read back from bits
asked : {r : WorkEndOutcome} (rows : List ℤ) (o : InquiryOutcome) (x z y : ℤ) → SFits w64 x → SFits w64 z → SFits w64 y
    → o ≡ inquiry rows (to_z w64 (of_z w64 x)) (to_z w64 (of_z w64 z)) (to_z w64 (of_z w64 y)) → r ≡ of_inquiry o → r ≡ of_inquiry (inquiry rows x z y)
asked rows o x z y f g h e q = q ∙ ap of_inquiry (rw (to_z-of_z f, to_z-of_z g, to_z-of_z h) at e)

pub returns : goal.returns
returns c = search (rules, asked)
