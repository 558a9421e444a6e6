-- What one pass over a calendar's windows finds at an instant t: until when its working time cannot change. The contracts of inner functions speak of
-- it; no public contract does.
use Rattle.std.specs.Prelude.{ℕ, ◌≤◌, true, ◌&&◌, cond, List, [], ◌∷◌, map, pos, ltb}
use mathlib.Core.List.{foldl}
use Rattle.calendar.specs.declared.TimeWindow.{TimeWindow}
use Rattle.calendar.specs.declared.Stretch.{Stretch}
use Rattle.calendar.specs.Clock.{clock}
use Rattle.calendar.specs.Calendar.{is_working_time}
use Rattle.calendar.specs.Layout.{window_of}

-- x if it lies between t and b, else b
unfoldable pub nearer : ℕ → ℕ → ℕ → ℕ
nearer t x b = cond (ltb t x && ltb x b) x b

-- the next start or end after t if that is below b, else b
unfoldable pub next_stop : List TimeWindow → ℕ → ℕ → ℕ
next_stop l t b = foldl (λ b x. nearer t x.end (nearer t x.start b)) b l

-- the last instant that a u64 holds
abbrev pub last_instant : ℕ
last_instant = 18446744073709551615

-- no window starts or ends after m: from there on working time does not change
abbrev pub EndsBy : ℕ → List TimeWindow → Type 0
EndsBy m [] = Unit
EndsBy m (x ∷ l) = ((x.start ≤ m) × (x.end ≤ m)) × EndsBy m l

abbrev pub AllEndBy : ℕ → List (List TimeWindow) → Type 0
AllEndBy m [] = Unit
AllEndBy m (l ∷ ls) = EndsBy m l × AllEndBy m ls

-- one calendar more
abbrev pub with_calendar : ℕ → Stretch → List TimeWindow → Stretch
with_calendar t s l = record { working = s.working && is_working_time clock (map window_of l) (pos t); stop = next_stop l t s.stop }

unfoldable pub joint_look : List (List TimeWindow) → ℕ → ℕ → Stretch
joint_look ls t b = foldl (with_calendar t) (record { working = true; stop = b }) ls
