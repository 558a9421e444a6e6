-- The one table of the types of violations: each with its number in a line and its severity. Assumes nothing.
use Rattle.std.specs.Prelude.{ℕ}
use Rattle.findings.specs.declared.ViolationKind.{ViolationKind}
use Rattle.findings.specs.declared.ViolationKind.TheVariants.{DeadlineMiss, CapacityExceeded, PrecedenceViolation, ResourceUnavailable, SkillMismatch, RequirementUnfilled, TimeWindowViolation, SynchronizeViolation, UnknownActivity, DurationTooShort, EarlyStart}
use Rattle.findings.specs.declared.Violation.{Violation}

abbrev pub type_number : ViolationKind → ℕ
type_number DeadlineMiss = 1
type_number CapacityExceeded = 2
type_number PrecedenceViolation = 3
type_number ResourceUnavailable = 4
type_number SkillMismatch = 5
type_number RequirementUnfilled = 6
type_number TimeWindowViolation = 7
type_number SynchronizeViolation = 8
type_number UnknownActivity = 9
type_number DurationTooShort = 10
type_number EarlyStart = 11

abbrev pub severity_of : ViolationKind → ℕ
severity_of DeadlineMiss = 80
severity_of CapacityExceeded = 90
severity_of PrecedenceViolation = 95
severity_of ResourceUnavailable = 85
severity_of SkillMismatch = 70
severity_of RequirementUnfilled = 95
severity_of TimeWindowViolation = 75
severity_of SynchronizeViolation = 75
severity_of UnknownActivity = 95
severity_of DurationTooShort = 90
severity_of EarlyStart = 90

-- the violation that a check reports of an entity
abbrev pub violation_of : ℕ → ViolationKind → ℕ → Violation
violation_of check kind entity = record { check = check; kind = type_number kind; entity = entity; severity = severity_of kind }
