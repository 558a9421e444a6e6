-- The work-end inquiry: when work ends that is started on a resource. Assumes nothing.
use Rattle.std.specs.Prelude.{Bool, cond, not, ◌&&◌, List, [], ◌∷◌, ℤ, pos, Option, Result, Ok, Err}
use Rattle.loops.specs.Numbers.{to_nat}
use Rattle.loops.specs.Lists.{option}
use Rattle.loops.specs.Search.{or_else}
use Rattle.calendar.specs.Clock.{clock}
use Rattle.calendar.specs.Calendar.{Calendar}
use Rattle.calendar.specs.WorkEnd.{Ending, ends_at, pauses, never, joint_work_end}
use Rattle.rows.specs.declared.Class.TheVariants.{Id, Instant, SignedTime}
use Rattle.rows.specs.Ranges.{in_class}
use Rattle.refusals.specs.Refusals.{refuse}
use Rattle.refusals.specs.declared.Reason.TheVariants.{OutOfRange}
use Rattle.refusals.specs.declared.Refusal.{Refusal}
use Rattle.sheet.specs.Refusals.{refusal_of}
use Rattle.model.specs.Sheet.{sheet}
use Rattle.model.specs.Resource.{resource_calendar}
use Rattle.work_end_inquiry.specs.declared.InquiryEnd.{InquiryEnd}
use Rattle.work_end_inquiry.specs.declared.InquiryEnd.TheVariants.{End, Pause, Never}

pub data InquiryOutcome : Type 0 where
  refused : Refusal → InquiryOutcome
  ends : Ending ℤ → InquiryOutcome

-- what an answer says
abbrev pub outcome_of : Result InquiryEnd Refusal → InquiryOutcome
outcome_of (Ok (End e)) = ends (ends_at (pos e))
outcome_of (Ok Pause) = ends pauses
outcome_of (Ok Never) = ends never
outcome_of (Err e) = refused e

-- the start is an instant, and the work a signed time
unfoldable pub in_order : ℤ → ℤ → Bool
in_order start work = in_class Instant start && in_class SignedTime work

-- by 1 to 5 on the rows, then by 3 with place 0 for its own start and work
unfoldable pub inquiry_refusal : List ℤ → ℤ → ℤ → Option Refusal
inquiry_refusal rows start work = or_else (refusal_of rows) (refuse (not (in_order start work)) OutOfRange 0)

-- the calendar of a resource: none where it is not in the sheet, and so where its number is no id
unfoldable pub inquired_calendar : List ℤ → ℤ → Calendar ℤ
inquired_calendar rows resource = cond (in_class Id resource) (resource_calendar (sheet rows) (to_nat resource)) []

unfoldable pub inquiry : List ℤ → ℤ → ℤ → ℤ → InquiryOutcome
inquiry rows resource start work =
    option (inquiry_refusal rows start work) (ends (joint_work_end clock (inquired_calendar rows resource ∷ []) start work)) refused
