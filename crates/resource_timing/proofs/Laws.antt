-- What is known of durations whose total may be 2^53 or more. Assumes nothing.
use mathlib.Core.Path.{◌≡◌, refl, ap, sym, ◌∙◌}
use Prim.Native.Nat.{◌^◌, ◌≤◌}
use native.Mathlib.Omega.{arith}
use Rattle.std.specs.Prelude.{Option, None, Some}
use lib.Ieee.{Float}
use Rattle.std.proofs.lemmas.Bool.Decides.{nat_tests}
use Rattle.std.proofs.lemmas.Grind.{common_steps}
use Rattle.loops.specs.Lists.{option}
use Rattle.loops.specs.Search.{or_else}
use Rattle.rounding.specs.inner.Limited.{limited, too_large}
use Rattle.part_share.proofs.Laws.{shared}
use Rattle.resource_timing.specs.declared.ResourceTiming.{ResourceTiming}
use Rattle.resource_timing.specs.declared.ResourceTiming.TheVariants.{Speed, Duration}
use Rattle.resource_timing.specs.declared.Piece.{Piece}
use Rattle.resource_timing.specs.declared.Piece.TheVariants.{Whole, InPart}
use Rattle.resource_timing.specs.declared.ActivityDuration.{ActivityDuration}
use Rattle.resource_timing.specs.Durations.{TimedSoFar, longest, in_part, piece_fixed, piece_timing, timed_on, at_speed, timed}
use Rattle.resource_timing.specs.inner.Limits.{within, standing, timed_of, time_of, longer_of, fixed_in, fixed_with, timed_with, fixed_or, derived_of, Amount, PieceAmounts, TimingAmounts}

-- ---- the longer of two whose totals may be 2^53 or more

longer_known : (f d : ActivityDuration) → longer_of (within (Some f)) (within (Some d)) ≡ within (Some (longest (Some f) d))
unfolding longer_of time_of within limited
longer_known f d = grind (arith, common_steps, nat_tests)

-- ---- what is known so far, with one resource more, and at the end

-- of amounts of a sheet the share is worked out
fixed_in_lem : (piece : Piece) (d : ActivityDuration) → PieceAmounts piece → Amount d.process_ms → fixed_in piece d ≡ Some (piece_fixed piece d)
fixed_in_lem Whole d a b = refl
fixed_in_lem (InPart p) d a b = ap (λ o. option o None (λ n. Some (in_part d n p))) (sym (shared d.process_ms p.work_ms p.whole_ms b a.0 a.1))

fixed_known : (o : Option ActivityDuration) (e : ActivityDuration) → fixed_with (standing o) (within (Some e)) ≡ standing (Some (longest o e))
fixed_known None e = refl
fixed_known (Some f) e = ap Some (longer_known f e)

pub timed_known : (f : TimedSoFar) (piece : Piece) (timing : ResourceTiming) → PieceAmounts piece → TimingAmounts timing
    → timed_with (timed_of f) piece timing ≡ timed_of (timed_on f (piece_timing piece timing))
unfolding timed_with
timed_known f piece (Speed s) a b = refl
timed_known f piece (Duration d) a b =
    ap (λ x. record { speed = f.speed; fixed = x })
    (ap (λ o. fixed_with (standing f.fixed) (within o)) (fixed_in_lem piece d a b) ∙ fixed_known f.fixed (piece_fixed piece d))

pub derived_known : (f : TimedSoFar) (base : ActivityDuration) → derived_of (timed_of f) base ≡ within (timed base f)
derived_known f base = go f.fixed
  where
    go : (o : Option ActivityDuration) → fixed_or (standing o) (within (at_speed base f.speed)) ≡ within (or_else o (at_speed base f.speed))
    go None = refl
    go (Some d) = refl

-- a teardown of 2^53 or more
pub at_beyond : (base : ActivityDuration) (s : Float) → 2 ^ 53 ≤ base.teardown_ms → too_large ≡ within (at_speed base s)
unfolding at_speed within
at_beyond base s h = grind (arith, common_steps, nat_tests)
