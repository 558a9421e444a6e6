-- Which numbers a column of a class may hold. Assumes nothing.
use Rattle.std.specs.Prelude.{◌^◌, ◌-◌, Bool, true, false, ◌&&◌, ◌||◌, ℤ, pos}
use Rattle.std.specs.Int.Signed.{le_z}
use Rattle.loops.specs.Numbers.{minus}
use Rattle.rows.specs.declared.Class.{Class}
use Rattle.rows.specs.declared.Class.TheVariants.{Blank, RowKind, Id, Number, Count, Instant, Duration, SignedTime, Flag, ShareBits, SpeedBits, OptionalNumber, OptionalInstant, OptionalDuration, TaskId, ActivityId, ResourceId, RequirementPlace, ConstraintPlace}

-- the least number and the greatest, both included; and whether it may be none instead
pub record Range : Type 0 where
  pub least : ℤ
  pub greatest : ℤ
  pub none? : Bool

infix 30 ◌to◌
abbrev pub ◌to◌ : ℤ → ℤ → Range
a to b = record { least = a; greatest = b; none? = false }

abbrev pub or_none : Range → Range
or_none r = record { least = r.least; greatest = r.greatest; none? = true }

-- docs/RULES.md has letters for the classes: n is Number, u Count, t Instant, m Duration, g SignedTime, f Flag; a `?` is Optional here. A float's bits lie between those of its ends: 0.0 and 1.0, 2^-10 and 2^10. The kind is judged by refusal 2, and a blank column is 0.
abbrev pub range : Class → Range
range Id = pos 0 to pos 999_999_999
range Number = minus 1_000_000 to pos 1_000_000
range Count = pos 0 to pos 1_000_000
range Instant = pos 0 to pos 4_000_000_000_000
range Duration = pos 0 to pos 4_000_000_000_000
range SignedTime = minus 4_000_000_000_000 to pos 4_000_000_000_000
range Flag = pos 0 to pos 1
range ShareBits = pos 0 to pos 0x3ff0_0000_0000_0000
range SpeedBits = pos 0x3f50_0000_0000_0000 to pos 0x4090_0000_0000_0000
range OptionalNumber = or_none (minus 1_000_000 to pos 1_000_000)
range OptionalInstant = or_none (pos 0 to pos 4_000_000_000_000)
range OptionalDuration = or_none (pos 0 to pos 4_000_000_000_000)
range TaskId = pos 0 to pos 999_999_999
range ActivityId = pos 0 to pos 999_999_999
range ResourceId = pos 0 to pos 999_999_999
range RequirementPlace = pos 0 to pos 1_000_000
range ConstraintPlace = pos 0 to pos 1_000_000
range Blank = pos 0 to pos 0
range RowKind = minus (2 ^ 63) to pos (2 ^ 63 - 1)

-- low to high, both included
unfoldable pub between : ℤ → ℤ → ℤ → Bool
between low high x = le_z low x && le_z x high

-- what none is held as
abbrev pub held_none : ℤ
held_none = minus (2 ^ 63)

unfoldable pub is_none : ℤ → Bool
is_none x = between held_none held_none x

unfoldable pub in_range : Class → ℤ → Bool
in_range cl x = between (range cl).least (range cl).greatest x

unfoldable pub in_class : Class → ℤ → Bool
in_class cl x = in_range cl x || ((range cl).none? && is_none x)
