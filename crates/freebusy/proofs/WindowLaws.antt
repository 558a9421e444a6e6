-- The ends of a window are instants of a sheet. Assumes nothing.
use Rattle.std.specs.Prelude.{Result, Ok, Err, IfOk}
use Rattle.refusals.specs.declared.Reason.{Reason}
use Prim.Native.Nat.{ℕ, ◌≤◌}
use mathlib.Core.List.{List}
use mathlib.Core.Path.{◌≡◌, sym}
use native.Mathlib.Omega.{arith}
use Rattle.freebusy_periods.specs.Period.{window_of}
use Rattle.freebusy_periods.specs.declared.Span.{Span}
use Rattle.freebusy_periods.proofs.PeriodLaws.{window_in_range}

pub window_early : (s : List ℕ) {w : Result Span Reason} → w ≡ window_of s → IfOk w (λ v. (v.start ≤ 4000000000000) × (v.end ≤ 4000000000000))
window_early s {w = Ok v} e = let h = window_in_range s v (sym e) in (omega (arith, h.0, h.1), h.1)
window_early s {w = Err k} e = tt
