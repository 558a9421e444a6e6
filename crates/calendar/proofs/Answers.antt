-- The answers of `end_from`, `joint_work_end` and `joint_available_ms`, from what the walk found. Assumes nothing.
use Prim.Native.Nat.{ℕ, zero, suc, ◌+◌, ◌-◌, ◌<◌, ◌≤◌, ◌^◌}
use mathlib.Core.Path.{◌≡◌, refl, sym, ap, subst, ◌∙◌}
use mathlib.Core.Bool.{Bool, true, false, cond, not}
use mathlib.Core.List.{List}
use native.Mathlib.Omega.{arith}
use lib.IntN.{ℤ, pos, negsuc, nat_abs}
use Rattle.std.specs.Prelude.{Result, Ok, Err}
use Rattle.std.specs.Result.{OkIff, result_unwrap_or}
use Rattle.std.specs.Int.{FitsUnsignedBits}
use mir.Syntax.{w64}
use mir.Val.{Fits, SFits, to_z, of_z}
use mir.Facts.{to_z-of_z}
use borrow.Author.Tests.{lt-ltb, le-ltb, not-true, not-false}
use Rattle.loops.specs.Numbers.{to_nat}
use Rattle.calendar.specs.declared.TimeWindow.{TimeWindow}
use Rattle.calendar.specs.declared.Places.{Places}
use Rattle.calendar.specs.declared.Stretch.{Stretch}
use Rattle.calendar.specs.declared.WorkEnd.{WorkEnd}
use Rattle.calendar.specs.declared.WorkEnd.TheVariants.{End, Pause, Never, Beyond}
use Rattle.calendar.specs.Clock.{clock}
use Rattle.calendar.specs.WorkEnd.{Ending, ends_at, never, map_ending, reaches, end_after, end_from, joint_work_end}
use Rattle.calendar.specs.Amount.{since, joint_available_ms}
use Rattle.calendar.specs.inner.Scan.{last_instant, AllEndBy, joint_look}
use Rattle.calendar.specs.Layout.{lists_of, calendars_of, saying}
use Rattle.calendar.proofs.Stretches.{joint_at, looked_at, settled_at}
use Rattle.calendar.proofs.Counts.{end_zero}
use Rattle.calendar.proofs.Walk.{available_at, avail_le, avail_none, avail_step, EndInv, end_at, end_start, ends_here, goes_on, ends_later, ends_never}
use Rattle.calendar.proofs.Along.{walk_along, avail_along}

positive : (n : ℕ) → (n ≡ 0 → ⊥) → 0 < n
positive zero h = absurd (h refl)
positive (suc n) h = omega arith

gained_le : (v : Bool) (x : ℕ) → cond v x 0 ≤ x
gained_le true x = omega arith
gained_le false x = omega arith

-- ---- one look, from t up to b, of which d is working time

module _ (w : List TimeWindow) (cs : List Places) (t b : ℕ) {s : Stretch} (e : s ≡ joint_look (lists_of w cs) t b) (l : t < b) where
  pub nearer_end : b - s.stop < b - t
  nearer_end = let k = looked_at w cs t b s e in omega (arith, k.above l, k.most)

  module _ {d : ℕ} (g : d ≡ cond s.working (s.stop - t) 0) where
    gained_within : t + d ≤ b
    gained_within = let k = looked_at w cs t b s e in omega (arith, k.above l, k.most, gained_le s.working (s.stop - t))

    -- what is counted so far, and what is left to count
    module _ (a sum : ℕ) (i : sum + available_at (joint_at w cs) t b ≡ available_at (joint_at w cs) a b) where
      pub sum_next : sum + d + available_at (joint_at w cs) s.stop b ≡ available_at (joint_at w cs) a b
      sum_next = omega (arith, avail_step (joint_at w cs) l (looked_at w cs t b s e))

      pub sum_fits : Fits w64 b → Fits w64 (sum + d)
      sum_fits f = record { fits = omega (arith, sum_next, avail_le (joint_at w cs) a b, f.fits) }

pub sum_end : (w : List TimeWindow) (cs : List Places) (a e t : ℕ) {sum : ℕ} → sum + available_at (joint_at w cs) t e ≡ available_at (joint_at w cs) a e → e ≤ t
    → sum ≡ joint_available_ms clock (calendars_of w cs) (pos a) (pos e)
sum_end w cs a e t i l = omega (arith, avail_none (joint_at w cs) t e l, avail_along (calendars_of w cs) a e)

-- no work ends at once
pub answer_none : (w : List TimeWindow) (cs : List Places) (start work : ℕ) → work ≡ 0 → Fits w64 start → End start ≡ saying (end_from clock (calendars_of w cs) (pos start) work)
unfolding end_from end_after
answer_none w cs start work e f =
    let z : start + 0 ≡ start = omega arith in
    rw (e, end_zero (since clock (calendars_of w cs) (pos start)) (reaches clock (pos start) (calendars_of w cs) + 0) 0, z, lt-ltb start (2 ^ 64) f.fits)

module _ (w : List TimeWindow) (cs : List Places) (h : AllEndBy last_instant (lists_of w cs)) where
  settled : (u : ℕ) → last_instant ≤ u → joint_at w cs u ≡ joint_at w cs last_instant
  settled u l = settled_at w cs last_instant h u l

  -- at the last instant working time is settled
  still : (t : ℕ) {v : Bool} → last_instant ≤ t → v ≡ joint_at w cs t → (u : ℕ) → t ≤ u → joint_at w cs u ≡ v
  still t l e u l' = settled u (omega arith) ∙ sym (settled t l) ∙ sym e

  module _ (start work : ℕ) where
    answered : (x : Ending ℕ) → x ≡ end_at (joint_at w cs) last_instant start work
        → saying (map_ending (λ k. pos k) x) ≡ saying (end_from clock (calendars_of w cs) (pos start) work)
    answered x e =
        ap (λ (z : Ending ℕ). saying (map_ending (λ k. pos k) z)) e
        ∙ ap saying (walk_along (calendars_of w cs) last_instant settled start work)

    answer_end : (e : ℕ) → e ≤ last_instant → ends_at e ≡ end_at (joint_at w cs) last_instant start work
        → End e ≡ saying (end_from clock (calendars_of w cs) (pos start) work)
    answer_end e l q = sym (rw (lt-ltb e (2 ^ 64) (omega arith)) at (sym (answered (ends_at e) q)))

    answer_beyond : (e : ℕ) → last_instant < e → ends_at e ≡ end_at (joint_at w cs) last_instant start work
        → Beyond ≡ saying (end_from clock (calendars_of w cs) (pos start) work)
    answer_beyond e l q = sym (rw (le-ltb e (2 ^ 64) (omega arith)) at (sym (answered (ends_at e) q)))

    answer_never : never ≡ end_at (joint_at w cs) last_instant start work → Never ≡ saying (end_from clock (calendars_of w cs) (pos start) work)
    answer_never q = answered never q

    module _ (t left : ℕ) (i : EndInv (joint_at w cs) last_instant start work t left) where
      pub answer_here : {s : Stretch} {d : ℕ} → s ≡ joint_look (lists_of w cs) t last_instant → t < last_instant → d ≡ cond s.working (s.stop - t) 0 → left ≤ d
          → End (t + left) ≡ saying (end_from clock (calendars_of w cs) (pos start) work)
      answer_here {s} e l g m =
          answer_end (t + left) (omega (arith, gained_within w cs t last_instant e l g)) (ends_here i l s.working (looked_at w cs t last_instant s e) (omega arith))

      -- from here on nothing changes any more
      module _ {s : Stretch} (l : last_instant ≤ t) (e : s ≡ joint_look (lists_of w cs) t t) where
        pub answer_past : s.working ≡ true → Beyond ≡ saying (end_from clock (calendars_of w cs) (pos start) work)
        answer_past f = answer_beyond (t + left) (omega (arith, i.some)) (ends_later i (still t l (sym f ∙ (looked_at w cs t t s e).here)))

        pub answer_still : s.working ≡ false → Never ≡ saying (end_from clock (calendars_of w cs) (pos start) work)
        answer_still f = answer_never (ends_never i (still t l (sym f ∙ (looked_at w cs t t s e).here)))

pub end_first_lem : (w : List TimeWindow) (cs : List Places) (start work : ℕ) → (work ≡ 0 → ⊥) → Fits w64 start → EndInv (joint_at w cs) last_instant start work start work
end_first_lem w cs start work h f = end_start (joint_at w cs) last_instant start work (positive work h) (omega (arith, f.fits))

-- one look more
pub end_next : (w : List TimeWindow) (cs : List Places) (start work t left : ℕ) {s : Stretch} {d r : ℕ} → EndInv (joint_at w cs) last_instant start work t left → s ≡ joint_look (lists_of w cs) t last_instant
    → t < last_instant → d ≡ cond s.working (s.stop - t) 0 → d < left → r ≡ left - d → EndInv (joint_at w cs) last_instant start work s.stop r
end_next w cs start work t left {s} i e l g m h =
    subst (EndInv (joint_at w cs) last_instant start work s.stop) (sym h) (goes_on i l s.working (looked_at w cs t last_instant s e) g m)

-- ---- work that starts in working time only

module _ (w : List TimeWindow) (cs : List Places) (start : ℕ) (work : ℤ) {v : Bool} (e : v ≡ joint_at w cs start) where
  pub pause_here : not v ≡ true → Pause ≡ saying (joint_work_end clock (calendars_of w cs) (pos start) work)
  unfolding joint_work_end
  pause_here f = rw (sym e ∙ not-true v f)

  pub end_there : {n : ℕ} {r : WorkEnd} → not v ≡ false → r ≡ saying (end_from clock (calendars_of w cs) (pos start) n) → n ≡ to_nat work
      → r ≡ saying (joint_work_end clock (calendars_of w cs) (pos start) work)
  unfolding joint_work_end
  end_there f g h = rw (sym e ∙ not-false v f) (rw h at g)

-- a signed amount of work, which counts as none below zero
amount_of : {E : Type 0} (z : ℤ) → SFits w64 z → (r : Result ℕ E) → OkIff r (FitsUnsignedBits 64 z) (nat_abs z) → result_unwrap_or r 0 ≡ to_nat z
amount_of (pos n) f (Ok x) h = h.1
amount_of (pos n) f (Err e) h = absurd (h (omega (arith, f.sfits)))
amount_of (negsuc n) f (Ok x) h = absurd h.0
amount_of (negsuc n) f (Err e) h = refl

-- a signed argument reaches a callee as it is read back from its bits
pub amount_is : {E : Type 0} (z : ℤ) (r : Result ℕ E) {n : ℕ} → SFits w64 z → OkIff r (FitsUnsignedBits 64 (to_z w64 (of_z w64 z))) (nat_abs (to_z w64 (of_z w64 z)))
    → n ≡ result_unwrap_or r 0 → n ≡ to_nat z
amount_is z r f h e = e ∙ amount_of z f r (rw (to_z-of_z f) at h)
