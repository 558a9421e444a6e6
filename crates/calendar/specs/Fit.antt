-- What a `Fit` over [a, e) holds once the windows of a calendar have been added to it: the three tests that `interval_fits` is made of.
use Rattle.std.specs.Prelude.{ℕ, ◌&&◌, Bool, ℤ, pos}
use Rattle.loops.specs.Lists.{any_of}
use Rattle.calendar.specs.declared.Fit.{Fit}
use Rattle.calendar.specs.declared.Standing.{Standing}
use Rattle.calendar.specs.Clock.{clock}
use Rattle.calendar.specs.Calendar.{Window, Calendar, is_open, is_closed, covers, hits}

-- of a time, by what says whether a window holds it and whether a closure hits it
unfoldable pub standing_of : (Window ℤ → Bool) → (Window ℤ → Bool) → Calendar ℤ → Standing
standing_of holds strikes l =
    record {
      listed = any_of is_open l;
      held = any_of (λ x. is_open x && holds x) l;
      hit = any_of (λ x. is_closed x && strikes x) l;
    }

unfoldable pub fit_of : Calendar ℤ → ℕ → ℕ → Fit
fit_of l a e = record { start = a; end = e; standing = standing_of (covers clock (pos a) (pos e)) (hits clock (pos a) (pos e)) l }
