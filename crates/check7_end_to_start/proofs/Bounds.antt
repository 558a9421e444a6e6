-- How large the instants of a span are. Assumes nothing.
use Prim.Native.Nat.{ℕ, zero, suc, ◌^◌, ◌<◌, ◌≤◌}
use mathlib.Core.Path.{◌≡◌, refl, sym}
use mathlib.Core.Bool.{Bool, true, false, cond, ◌&&◌}
use mathlib.Core.List.{List}
use Rattle.std.specs.Prelude.{Option, None, Some}
use lib.Dec.{leb}
use lib.IntN.{ℤ, pos, nat_abs}
use lib.Signed.{le_z, lt_z, mag}
use mir.Syntax.{w64}
use mir.Val.{to_z, of_z, hbits}
use mir.Facts.{to_z-of_z}
use borrow.Author.Rules.{sfits_of}
use native.Mathlib.Omega.{arith}
use borrow.Author.Tests.{leb-true, le-leb, eq-eqb}
use Rattle.loops.specs.Range.{fold}
use Rattle.loops.specs.inner.Chain.{only_at}
use Rattle.loops.proofs.BoolLaws.{and_left, and_right, both}
use Rattle.calendar.specs.Clock.{clock}
use Rattle.rows.specs.Cells.{row_count, cell, num, is}
use Rattle.rows.proofs.Signed.{signed_time}
use Rattle.sheet.specs.Places.{named, place_of}
use Rattle.sheet.specs.inner.Accepted.{Accepted}
use Rattle.sheet.proofs.Lookups.{placed}
use Rattle.model.specs.Sheet.{sheet}
use Rattle.model.proofs.Accepting.{at_most, in_class_lem}
use Rattle.definition.specs.ActivitySpan as page
use Rattle.definition.specs.ActivitySpan.{activity_span}
use Rattle.spans.specs.declared.Span.{Span}
use Rattle.spans.specs.declared.ActivitySpan.{ActivitySpan}
use Rattle.spans.specs.declared.ActivitySpan.TheVariants.{Between}
use Rattle.spans.specs.inner.Activities.{span_found, span_meant, widened, widen_by}
use Rattle.spans.proofs.Running.{runs_booked, runs_timed}

-- an instant in its class
early : ℤ → Bool
early x = le_z x (pos 4000000000000)

bounded : Option (page.Span ℤ) → Bool
bounded None = true
bounded (Some x) = early x.start && early x.end

pair_early : (a e : ℤ) → early a ≡ true → early e ≡ true → bounded (Some (record { start = a; end = e })) ≡ true
unfolding bounded
pair_early a e f g = both f g

pair_of : (a e : ℕ) → bounded (Some (record { start = pos a; end = pos e })) ≡ true → (a ≤ 4000000000000) × (e ≤ 4000000000000)
unfolding bounded early
pair_of a e h = (
  leb-true a 4000000000000 (and_left (leb a 4000000000000) (leb e 4000000000000) h),
  leb-true e 4000000000000 (and_right (leb a 4000000000000) (leb e 4000000000000) h),
)

either : (b : Bool) (x y : ℤ) → early x ≡ true → early y ≡ true → early (cond b x y) ≡ true
either true x y e f = e
either false x y e f = f

wider : (x : Option (page.Span ℤ)) (a e : ℤ) → early a ≡ true → early e ≡ true → bounded x ≡ true → bounded (widened x a e) ≡ true
unfolding bounded
wider None a e f g h = both f g
wider (Some x) a e f g h =
    both (either (lt_z a x.start) a x.start f (and_left (early x.start) (early x.end) h))
    (either (lt_z x.end e) e x.end g (and_right (early x.start) (early x.end) h))

module _ (rows : List ℤ) (acc : Accepted rows) where
  instant_early : (k x c : ℕ) → num rows k c ≤ 4000000000000 → early (pos (num rows k c)) ≡ true
  unfolding early
  instant_early k x c l = le-leb (num rows k c) 4000000000000 l

  booked_step : (id : ℕ) (x : Option (page.Span ℤ)) (k : ℕ) → bounded x ≡ true → bounded (only_at (named rows 23 id) (widen_by rows) x k) ≡ true
  unfolding only_at named
  booked_step id x k h = go (is rows k 0 23) (is rows k 1 id) refl
    where
      go : (b c : Bool) → is rows k 0 23 ≡ b → bounded (cond (b && c) (widened x (pos (num rows k 4)) (pos (num rows k 5))) x) ≡ true
      go true true e = wider x _ _ (instant_early k 23 4 (at_most rows acc k 23 4 e)) (instant_early k 23 5 (at_most rows acc k 23 5 e)) h
      go true false e = h
      go false c e = h

  booked_early : (id n : ℕ) → bounded (fold (only_at (named rows 23 id) (widen_by rows)) None n) ≡ true
  unfolding fold bounded
  booked_early id zero = refl
  booked_early id (suc n) = booked_step id _ n (booked_early id n)

  span_early : (id : ℕ) → bounded (activity_span clock (sheet rows) id) ≡ true
  span_early id = go (place_of rows 24 id) refl
    where
      go : (o : Option ℕ) → place_of rows 24 id ≡ o → bounded (activity_span clock (sheet rows) id) ≡ true
      go None e = rw (← runs_booked rows id {f = None} (sym e) refl refl) (booked_early id (row_count rows))
      go (Some k) e =
          let h : is rows k 0 24 ≡ true = unfold is in eq-eqb (num rows k 0) 24 (placed rows 24 id k e).kind in
          rw (← runs_timed rows id {f = Some k} (sym e) refl refl refl) (pair_early _ _ (instant_early k 24 3 (at_most rows acc k 24 3 h)) (instant_early k 24 4 (at_most rows acc k 24 4 h)))

  module _ (id : ℕ) {x : ActivitySpan} {s : Span} (q : span_meant (span_found x) ≡ activity_span clock (sheet rows) id) (z : x ≡ Between s) where
    pub start_most : s.start ≤ 4000000000000
    start_most = (pair_of s.start s.end (rw (← q, z) at (span_early id))).0

    pub end_most : s.end ≤ 4000000000000
    end_most = (pair_of s.start s.end (rw (← q, z) at (span_early id))).1

  -- a delay in its class
  pub delay_most : (k : ℕ) (d : ℤ) → is rows k 0 17 ≡ true → d ≡ cell rows k 3 → mag d < 2 ^ hbits w64 → nat_abs (to_z w64 (of_z w64 d)) ≤ 8000000000000
  delay_most k d h e m = rw (to_z-of_z (sfits_of m), e) (omega (arith, signed_time (cell rows k 3) (in_class_lem rows acc k 17 3 h)))
