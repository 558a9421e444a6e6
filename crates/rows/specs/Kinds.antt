-- The 24 kinds of rows and their numbers, which column 0 of a row has. Assumes nothing.
use Rattle.std.specs.Prelude.{ℕ, zero, suc, List, [], ◌∷◌, Option, None, slice_get}
use Rattle.rows.specs.declared.Kind.{Kind}
use Rattle.rows.specs.declared.Kind.TheVariants.{Task, Activity, Overlap, Split, Requirement, Candidate, WantedSkill, Predecessor, Speed, FixedTiming, Resource, Skill, Companion, Transport, ResourceWindow, ActivityWindow, Precedence, Capacity, TimeWindow, NoOverlap, Synchronize, Member, Booking, TimeOnlySpan}

-- the kinds 1, 2 ..
abbrev pub kinds : List Kind
kinds =
    Task ∷ Activity ∷ Overlap ∷ Split ∷ Requirement ∷ Candidate
    ∷ WantedSkill ∷ Predecessor ∷ Speed ∷ FixedTiming ∷ Resource ∷ Skill
    ∷ Companion ∷ Transport ∷ ResourceWindow ∷ ActivityWindow ∷ Precedence ∷ Capacity
    ∷ TimeWindow ∷ NoOverlap ∷ Synchronize ∷ Member ∷ Booking ∷ TimeOnlySpan ∷ []

-- the kind that a number stands for
abbrev pub kind_of : ℕ → Option Kind
kind_of zero = None
kind_of (suc n) = slice_get kinds n

-- the number that stands for a kind
abbrev pub kind_number : Kind → ℕ
kind_number Task = 1
kind_number Activity = 2
kind_number Overlap = 3
kind_number Split = 4
kind_number Requirement = 5
kind_number Candidate = 6
kind_number WantedSkill = 7
kind_number Predecessor = 8
kind_number Speed = 9
kind_number FixedTiming = 10
kind_number Resource = 11
kind_number Skill = 12
kind_number Companion = 13
kind_number Transport = 14
kind_number ResourceWindow = 15
kind_number ActivityWindow = 16
kind_number Precedence = 17
kind_number Capacity = 18
kind_number TimeWindow = 19
kind_number NoOverlap = 20
kind_number Synchronize = 21
kind_number Member = 22
kind_number Booking = 23
kind_number TimeOnlySpan = 24
