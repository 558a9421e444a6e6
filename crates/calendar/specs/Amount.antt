-- How much working time a range holds: each whole millisecond of the range counts once if it is working time.
use Rattle.std.specs.Prelude.{ℕ, zero, suc, ◌+◌, Bool, true, false, List, pos}
use Rattle.calendar.specs.Clock.{Clock, ahead}
use Rattle.calendar.specs.Calendar.{Calendar, joint_working}

abbrev pub one : Bool → ℕ
one true = 1
one false = 0

-- how many of the n numbers from a on pass the test
unfoldable pub count : (ℕ → Bool) → ℕ → ℕ → ℕ
count p a zero = 0
count p a (suc n) = one (p a) + count p (suc a) n

module _ {T : Type 0} (K : Clock T) where
  -- the k-th millisecond from t on is working time of all the calendars
  abbrev pub since : List (Calendar T) → T → ℕ → Bool
  since cs t k = joint_working K cs (K.plus t (pos k))

  -- the working milliseconds in [a, e); none where e is not after a
  unfoldable pub joint_available_ms : List (Calendar T) → T → T → ℕ
  joint_available_ms cs a e = count (since cs a) 0 (ahead K a e)
