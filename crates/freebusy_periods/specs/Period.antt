-- A period: RFC 5545, 3.3.9, and the window that it stands for. Assumes nothing.
use Rattle.std.specs.Prelude.{ℕ, ◌+◌, ◌*◌, ◌-◌, Bool, false, cond, ◌&&◌, ◌||◌, List, ltb, leb, Option, None, Result, Ok, Err}
use Rattle.loops.specs.Lists.{option, is_some}
use Rattle.loops.specs.Search.{some_if}
use Rattle.text_fields.specs.Parts.{until_byte}
use Rattle.dates.specs.DateTime.{date_time, instant, last_instant}
use Rattle.refusals.specs.declared.Reason.{Reason}
use Rattle.refusals.specs.declared.Reason.TheVariants.{Malformed, Undated}
use Rattle.freebusy_lines.specs.Bytes.{SLASH, after}
use Rattle.freebusy_periods.specs.Duration.{dur_value, is_back}
use Rattle.freebusy_periods.specs.declared.Span.{Span}

-- what stands before the slash, and whether what follows it passes the test
abbrev pub before : List ℕ → List ℕ
before s = until_byte SLASH s

abbrev pub behind : (List ℕ → Bool) → List ℕ → Bool
behind test s = option (after SLASH s) false test

-- period-explicit = date-time "/" date-time
unfoldable pub period_explicit : List ℕ → Bool
period_explicit s = date_time (before s) && behind date_time s

-- period-start = date-time "/" dur-value
unfoldable pub period_start : List ℕ → Bool
period_start s = date_time (before s) && behind (λ d. is_some (dur_value d)) s

-- period = period-explicit / period-start
unfoldable pub period : List ℕ → Bool
period s = period_explicit s || period_start s

-- so many seconds before the instant a, or after it, where that is an instant
unfoldable pub moved : ℕ → Bool → ℕ → Option ℕ
moved a back n = cond back (some_if (leb (n * 1000) a) (a - n * 1000)) (some_if (leb (a + n * 1000) last_instant) (a + n * 1000))

-- the end of a period that starts at a
unfoldable pub end_from : ℕ → List ℕ → Option ℕ
end_from a e = cond (date_time e) (instant e) (option (dur_value e) None (λ n. moved a (is_back e) n))

abbrev pub span : ℕ → ℕ → Span
span a e = record { start = a; end = e }

-- undated for its start or its end, then malformed for an end not after its start
unfoldable pub window_of : List ℕ → Result Span Reason
window_of s =
    option (instant (before s)) (Err Undated) λ a.
    option (option (after SLASH s) None (end_from a)) (Err Undated) λ e.
    cond (ltb a e) (Ok (span a e)) (Err Malformed)
