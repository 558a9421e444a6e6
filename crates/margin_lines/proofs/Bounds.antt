-- How large the deadline and the completion of a task are in an accepted sheet, and that what is left of such a limit is a number of 64 bits. Assumes nothing.
use Prim.Native.Nat.{ℕ, zero, suc, ◌^◌, ◌<◌, ◌≤◌}
use mathlib.Core.Path.{◌≡◌, refl, ap, sym, ◌∙◌}
use mathlib.Core.Bool.{Bool, true, false, cond}
use mathlib.Core.List.{List}
use Rattle.std.specs.Prelude.{Option, None, Some}
use native.Mathlib.Omega.{arith}
use lib.Dec.{leb}
use lib.IntN.{ℤ, pos, negsuc, nat_abs, ◌-ℤ◌}
use lib.Signed.{lt_z}
use borrow.Author.Tests.{leb-true, le-leb}
use mir.Syntax.{w64}
use mir.Val.{SFits, to_z, of_z}
use mir.Facts.{to_z_pos, to_z-of_z}
use Rattle.loops.specs.Lists.{option}
use Rattle.loops.specs.Numbers.{to_nat}
use Rattle.loops.specs.Range.{fold}
use Rattle.loops.specs.inner.Chain.{only_at}
use Rattle.loops.proofs.IntegerLaws.{mag_abs, left_size}
use Rattle.calendar.specs.Clock.{clock}
use Rattle.rows.specs.Cells.{row_count, cell, num, is}
use Rattle.rows.specs.declared.Class.TheVariants.{OptionalInstant}
use Rattle.sheet.specs.Places.{of_kind}
use Rattle.sheet.specs.inner.Accepted.{Accepted}
use Rattle.model.specs.Sheet.{as_instant, read, sheet}
use Rattle.model.specs.Schedule.{later_of, task_completion_time}
use Rattle.model.specs.inner.Records.{maybe_at}
use Rattle.model.proofs.Accepting.{at_most}
use Rattle.spans.specs.inner.Instants.{meant, end_if}
use Rattle.spans.proofs.Completion.{completion}

-- an instant in its class; none, or such an instant
abbrev timed : ℤ → Bool
timed (pos n) = leb n 4000000000000
timed (negsuc n) = false

unfoldable pub early : Option ℤ → Bool
early o = option o true timed

early_is : {o : Option ℤ} {c : ℕ} → early o ≡ true → o ≡ Some (pos c) → c ≤ 4000000000000
unfolding early
early_is {c = c} h e = leb-true c 4000000000000 (rw e at h)

later_early : (o : Option ℤ) (n : ℕ) → n ≤ 4000000000000 → early o ≡ true → early (later_of clock o (pos n)) ≡ true
unfolding early
later_early None n l h = le-leb n 4000000000000 l
later_early (Some a) n l h = go (lt_z a (pos n))
  where
    go : (b : Bool) → timed (cond b (pos n) a) ≡ true
    go true = le-leb n 4000000000000 l
    go false = h

module _ (rows : List ℤ) (acc : Accepted rows) where
  -- ---- the deadline

  pub deadline_early : (k : ℕ) → is rows k 0 1 ≡ true → early (maybe_at rows k 2) ≡ true
  unfolding early
  deadline_early k h = go (cell rows k 2) (at_most rows acc k 1 2 h)
    where
      go : (z : ℤ) → to_nat z ≤ 4000000000000 → early (as_instant (read OptionalInstant z)) ≡ true
      go (pos n) l = le-leb n 4000000000000 l
      go (negsuc n) l = refl

  module _ (k : ℕ) {e : Option ℕ} {d : ℕ} (h : is rows k 0 1 ≡ true) (m : meant e ≡ maybe_at rows k 2) (q : e ≡ Some d) where
    deadline_most : d ≤ 4000000000000
    deadline_most = early_is (deadline_early k h) (sym m ∙ ap meant q)

    -- as a signed number
    pub deadline_fits : SFits w64 (pos d)
    deadline_fits = record { sfits = omega (arith, deadline_most) }

    pub deadline_signed : to_z w64 d ≡ pos d
    deadline_signed = let t : d < 2 ^ 63 = omega (arith, deadline_most) in to_z_pos w64 t

    pub deadline_within : nat_abs (to_z w64 d) ≤ 4000000000000
    deadline_within = rw deadline_signed deadline_most

  -- ---- the completion

  ends_early_lem : (x c task : ℕ) → ((k : ℕ) → is rows k 0 x ≡ true → num rows k c ≤ 4000000000000) → (o : Option ℤ) → early o ≡ true → (n : ℕ)
      → early (fold (only_at (of_kind rows x) (end_if rows c task)) o n) ≡ true
  unfolding fold only_at of_kind end_if
  ends_early_lem x c task m o h zero = h
  ends_early_lem x c task m o h (suc n) = go (is rows n 0 x) (is rows n 2 task) _ refl (ends_early_lem x c task m o h n)
    where
      go : (a b : Bool) (y : Option ℤ) → is rows n 0 x ≡ a → early y ≡ true → early (cond a (cond b (later_of clock y (pos (num rows n c))) y) y) ≡ true
      go true true y e f = later_early y (num rows n c) (m n e) f
      go true false y e f = f
      go false b y e f = f

  pub completion_early : (task : ℕ) → early (task_completion_time clock (sheet rows) task) ≡ true
  completion_early task =
      rw (← completion rows task refl refl)
      (ends_early_lem 24 4 task (λ k h. at_most rows acc k 24 4 h) _
      (ends_early_lem 23 5 task (λ k h. at_most rows acc k 23 5 h) None (unfold early in refl) (row_count rows)) (row_count rows))

  pub completion_most : (task : ℕ) {e : Option ℕ} {c : ℕ} → meant e ≡ task_completion_time clock (sheet rows) task → e ≡ Some c → c ≤ 4000000000000
  completion_most task m q = early_is (completion_early task) (sym m ∙ ap meant q)

-- ---- what is left

-- an operand as the machine reads it back
module _ (limit : ℤ) (taken : ℕ) (h : nat_abs limit ≤ 4000000000000) (l : taken ≤ 4000000000000) (f : SFits w64 limit) where
  short : taken < 2 ^ 63
  short = omega arith

  difference_fits : SFits w64 (limit -ℤ pos taken)
  difference_fits = record { sfits = omega (arith, mag_abs (limit -ℤ pos taken), left_size limit taken) }

  pub left_fits : SFits w64 (to_z w64 (of_z w64 limit) -ℤ to_z w64 taken)
  left_fits = rw (to_z-of_z f, to_z_pos w64 short) difference_fits

  pub left_is : to_z w64 (of_z w64 (to_z w64 (of_z w64 limit) -ℤ to_z w64 taken)) ≡ limit -ℤ pos taken
  left_is = rw (to_z-of_z f, to_z_pos w64 short) (to_z-of_z difference_fits)
