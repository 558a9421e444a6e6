-- An answer as two numbers: a refusal's number and place, or 0 and the count. Assumes nothing.
use Rattle.loops.specs.Numbers.{to_nat}
use Rattle.std.specs.Prelude.{Result, Ok, Err, ℕ, Option, None, Some}
use Rattle.calendar.specs.WorkEnd.{ends_at, pauses, never}
use Rattle.refusals.specs.Refusals.{number_of}
use Rattle.refusals.specs.declared.Refusal.{Refusal}
use Rattle.work_end_inquiry.specs.Inquiry as inquiry
use Rattle.outcomes.specs.declared.Outcome.{Outcome}
use Rattle.outcomes.specs.declared.WorkEndOutcome.{WorkEndOutcome}

abbrev pub of_answer : Result ℕ Refusal → Outcome
of_answer (Ok n) = record { number = 0; place = n }
of_answer (Err e) = record { number = number_of e.reason; place = e.place }

abbrev pub of_refusal : Option Refusal → Outcome
of_refusal None = record { number = 0; place = 0 }
of_refusal (Some x) = record { number = number_of x.reason; place = x.place }

-- the inquiry's answer as four numbers: a refusal's number and place; or 0, 0, the outcome (0 an end, 1 pause, 2 never) and the instant of an end
abbrev pub of_inquiry : inquiry.InquiryOutcome → WorkEndOutcome
of_inquiry (inquiry.refused x) = record { number = number_of x.reason; place = x.place; outcome = 0; instant = 0 }
of_inquiry (inquiry.ends (ends_at e)) = record { number = 0; place = 0; outcome = 0; instant = to_nat e }
of_inquiry (inquiry.ends pauses) = record { number = 0; place = 0; outcome = 1; instant = 0 }
of_inquiry (inquiry.ends never) = record { number = 0; place = 0; outcome = 2; instant = 0 }
