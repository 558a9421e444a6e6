-- Calendars, over any clock. A calendar is a list of windows; its working time is a test that says of each instant whether it is working time.
use Rattle.std.specs.Prelude.{ℕ, Bool, true, false, cond, not, ◌&&◌, ◌||◌, List, eqb}
use Rattle.calendar.specs.declared.WindowKind.{WindowKind}
use Rattle.calendar.specs.declared.WindowKind.TheVariants.{Open, Closure, Neither}
use Rattle.calendar.specs.Clock.{Clock, up_to}
use Rattle.loops.specs.Lists.{any_of, all_of}

-- A time window [start, end): open, or a closure (a blocked period), or neither.
pub record Window (T : Type 0) : Type 0 where
  pub kind : WindowKind
  pub start : T
  pub end : T

abbrev pub Calendar : Type 0 → Type 0
Calendar T = List (Window T)

-- the kind that a row names by a number
abbrev pub kind_of : ℕ → WindowKind
kind_of n = cond (eqb n 0) Open (cond (eqb n 1) Closure Neither)

abbrev pub opens : WindowKind → Bool
opens Open = true
opens Closure = false
opens Neither = false

abbrev pub closes : WindowKind → Bool
closes Open = false
closes Closure = true
closes Neither = false

abbrev pub is_open : {T : Type 0} → Window T → Bool
is_open x = opens x.kind

abbrev pub is_closed : {T : Type 0} → Window T → Bool
is_closed x = closes x.kind

module _ {T : Type 0} (K : Clock T) where
  -- the instant t lies in the half-open window
  unfoldable pub contains : T → Window T → Bool
  contains t x = up_to K x.start t && K.before t x.end

  -- the window covers all of [a, e)
  unfoldable pub covers : T → T → Window T → Bool
  covers a e x = up_to K x.start a && up_to K e x.end

  -- the window, as a closure, hits [a, e)
  unfoldable pub hits : T → T → Window T → Bool
  hits a e x = K.before a x.end && K.before x.start e

  -- t is working time: in an open window, or no open window is listed; and in no closure
  unfoldable pub is_working_time : Calendar T → T → Bool
  is_working_time l t =
      (not (any_of is_open l) || any_of (λ x. is_open x && contains t x) l)
      && not (any_of (λ x. is_closed x && contains t x) l)

  -- [a, e) fits: one open window covers it, or no open window is listed; and no closure hits it
  unfoldable pub interval_fits : Calendar T → T → T → Bool
  interval_fits l a e =
      (not (any_of is_open l) || any_of (λ x. is_open x && covers a e x) l)
      && not (any_of (λ x. is_closed x && hits a e x) l)

  -- t is working time of every one of the calendars
  unfoldable pub joint_working : List (Calendar T) → T → Bool
  joint_working cs t = all_of (λ l. is_working_time l t) cs
