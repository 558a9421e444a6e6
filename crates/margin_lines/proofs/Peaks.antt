-- How large the limit and the peak of a resource are in an accepted sheet. Assumes nothing.
use Prim.Native.Nat.{ℕ, zero, suc, ◌≤◌}
use mathlib.Core.Path.{◌≡◌, refl, ◌∙◌}
use mathlib.Core.Bool.{Bool, true, false, cond, ◌&&◌}
use mathlib.Core.List.{List, [], ◌∷◌, ◌++◌}
use Rattle.std.specs.Prelude.{Option, None, Some}
use native.Mathlib.Omega.{arith}
use lib.Dec.{leb, eqb}
use lib.IntN.{ℤ, pos, negsuc, nat_abs}
use lib.ListN.{length}
use lib.Signed.{lt_z}
use borrow.Author.Tests.{leb-true, le-leb}
use Rattle.loops.specs.Lists.{given, keep, all_of, head, last, option}
use Rattle.loops.specs.Numbers.{max_z, min_z}
use Rattle.loops.specs.Range.{collect}
use Rattle.loops.specs.Search.{or_else}
use Rattle.loops.specs.Sums.{total}
use Rattle.loops.proofs.BoolLaws.{and_left, and_right}
use Rattle.loops.proofs.ListLaws.{last_append, each_collect}
use Rattle.loops.proofs.PartLaws.{all_collect}
use Rattle.loops.proofs.RangeLaws.{collect_ext, one_a_place}
use Rattle.loops.proofs.SumLaws.{total_each, most_within}
use Rattle.calendar.specs.Clock.{clock}
use Rattle.rows.specs.Cells.{row_count, cell, num, is}
use Rattle.rows.specs.declared.Class.TheVariants.{Number}
use Rattle.rows.specs.Ranges.{in_class}
use Rattle.rows.proofs.Signed.{number_low, number_high}
use Rattle.sheet.specs.Places.{place_of}
use Rattle.sheet.specs.inner.Accepted.{Accepted}
use Rattle.sheet.proofs.Lookups.{place_kind}
use Rattle.model.specs.Sheet.{sheet}
use Rattle.model.specs.Activity.{Activity, ResourceRequirement, requirement_at, requirements, is_candidate, find_activity, usage_on}
use Rattle.model.specs.Resource.{Resource, find_resource}
use Rattle.model.specs.Constraint.{constraint_at, constraints}
use Rattle.model.specs.Schedule.{Assignment, assignment_at, assignments_below, assignments}
use Rattle.model.specs.inner.Records.{requirement_of, resource_of}
use Rattle.model.proofs.Accepting.{in_class_lem, at_most}
use Rattle.model.proofs.Finds.{find_resource_lem}
use Rattle.model.proofs.Requiring.{requirement_row, requirement_none}
use Rattle.model.proofs.RowLaws.{assignment_row, assignment_none}
use Rattle.load.specs.Load.{taken, load_of, peak_of, usage, booking_of, bookings_on, capacity_of, cap_override, base_of, cap_of, peak}
use Rattle.load.proofs.Caps.{cap_at}
use Rattle.load.proofs.Loads.{taken_most}

-- ---- the limit

small : ℤ → Bool
small z = leb (nat_abs z) 1000000

of_two : (b : Bool) (x y : ℤ) → small x ≡ true → small y ≡ true → small (cond b x y) ≡ true
of_two true x y e f = e
of_two false x y e f = f

number_small : (z : ℤ) → in_class Number z ≡ true → small z ≡ true
unfolding small
number_small (pos n) e = le-leb n 1000000 (number_high n e)
number_small (negsuc n) e = le-leb (suc n) 1000000 (omega (arith, number_low n e))

module _ (rows : List ℤ) (acc : Accepted rows) (x : ℕ) where
  base_small : small (base_of (sheet rows) x) ≡ true
  unfolding base_of
  base_small = rw (find_resource_lem rows x) (go (place_of rows 11 x) refl)
    where
      go : (o : Option ℕ) → place_of rows 11 x ≡ o
          → small (option (option o None (λ k. Some (resource_of rows k))) (pos 1) (λ r. max_z r.capacity (pos 1))) ≡ true
      go None e = unfold small in refl
      go (Some k) e =
          of_two (lt_z (cell rows k 3) (pos 1)) (pos 1) (cell rows k 3) (unfold small in refl)
          (number_small (cell rows k 3) (in_class_lem rows acc k 11 3 (place_kind rows 11 x e)))

  override_small : (n : ℕ) → option (last (collect (λ k. given (is rows k 0 18 && is rows k 1 x) (cell rows k 2)) n)) true small ≡ true
  unfolding collect
  override_small zero = unfold last in refl
  override_small (suc n) =
      rw (last_append (collect (λ k. given (is rows k 0 18 && is rows k 1 x) (cell rows k 2)) n) (given (is rows n 0 18 && is rows n 1 x) (cell rows n 2)))
      (go (is rows n 0 18 && is rows n 1 x) refl (override_small n))
    where
      go : (b : Bool) → (is rows n 0 18 && is rows n 1 x) ≡ b
          → option (last (collect (λ k. given (is rows k 0 18 && is rows k 1 x) (cell rows k 2)) n)) true small ≡ true
          → option (or_else (last (given b (cell rows n 2))) (last (collect (λ k. given (is rows k 0 18 && is rows k 1 x) (cell rows k 2)) n))) true small ≡ true
      go true e h = unfold last in number_small (cell rows n 2) (in_class_lem rows acc n 18 2 (and_left (is rows n 0 18) (is rows n 1 x) e))
      go false e h = unfold last in h

  cap_small : small (cap_of (sheet rows) x) ≡ true
  unfolding cap_of cap_override constraints
  cap_small =
      rw (each_collect (capacity_of (sheet rows) x) (constraint_at (sheet rows)) (row_count rows)
      ∙ collect_ext _ _ (row_count rows) (λ k l. cap_at rows x k))
      (go (last (collect (λ k. given (is rows k 0 18 && is rows k 1 x) (cell rows k 2)) (row_count rows))) (override_small (row_count rows)))
    where
      go : (o : Option ℤ) → option o true small ≡ true → small (option o (base_of (sheet rows) x) (λ c. min_z (base_of (sheet rows) x) c)) ≡ true
      go None e = base_small
      go (Some c) e = of_two (lt_z c (base_of (sheet rows) x)) c (base_of (sheet rows) x) e base_small

  pub cap_most : {c : ℤ} → c ≡ cap_of (sheet rows) x → nat_abs c ≤ 1000000
  unfolding small
  cap_most e = leb-true _ 1000000 (rw (← e) at cap_small)

-- ---- what a booking takes

abbrev few : ResourceRequirement → Bool
few q = leb q.usage 1000000

first_few : (p : ResourceRequirement → Bool) (l : List ResourceRequirement) → all_of few l ≡ true → option (head (keep p l)) 1 (λ q. q.usage) ≤ 1000000
unfolding all_of keep
first_few p [] h = omega arith
first_few p (q ∷ l) h = go (p q) (first_few p l (and_right (few q) (all_of few l) h))
  where
    go : (b : Bool) → option (head (keep p l)) 1 (λ q. q.usage) ≤ 1000000 → option (head (given b q ++ keep p l)) 1 (λ q. q.usage) ≤ 1000000
    go true r = leb-true q.usage 1000000 (and_left (few q) (all_of few l) h)
    go false r = r

module _ (rows : List ℤ) (acc : Accepted rows) where
  few_at : (a k : ℕ) → all_of few (requirement_at (sheet rows) a k) ≡ true
  unfolding all_of
  few_at a k = go (is rows k 0 5) refl
    where
      one : is rows k 0 5 ≡ true → (b : Bool) → all_of few (given b (requirement_of rows k)) ≡ true
      one h true = rw (le-leb (num rows k 4) 1000000 (at_most rows acc k 5 4 h))
      one h false = refl

      go : (b : Bool) → is rows k 0 5 ≡ b → all_of few (requirement_at (sheet rows) a k) ≡ true
      go true h = rw (requirement_row rows a k h) (one h (is rows k 1 a))
      go false h = rw (requirement_none rows a k h)

  usage_few : (b : Assignment ℤ) → usage (sheet rows) b ≤ 1000000
  unfolding usage usage_on requirements
  usage_few b = go (find_activity (sheet rows) b.activity) (find_resource (sheet rows) b.resource)
    where
      go : (a : Option (Activity ℤ)) (r : Option Resource) → option a 1 (λ activity. option r 1 λ r. usage_on (sheet rows) activity r) ≤ 1000000
      go None r = omega arith
      go (Some a) None = omega arith
      go (Some a) (Some r) =
          first_few (λ q. is_candidate (sheet rows) q r) (requirements (sheet rows) a.id)
          (all_collect few (requirement_at (sheet rows) a.id) (few_at a.id) (row_count rows))

  -- ---- the peak

  one_booking : (k : ℕ) → length (assignment_at (sheet rows) k) ≤ 1
  one_booking k = go (is rows k 0 23) refl
    where
      go : (b : Bool) → is rows k 0 23 ≡ b → length (assignment_at (sheet rows) k) ≤ 1
      go true h = rw (assignment_row rows k h) (omega arith)
      go false h = rw (assignment_none rows k h) (omega arith)

  few_bookings : length (assignments (sheet rows)) ≤ 800
  unfolding assignments assignments_below collect
  few_bookings =
      let most : length rows ≤ 8000 = acc.short in
      omega (arith, one_a_place {B = ℕ} (assignment_at (sheet rows)) (λ k. []) (λ k. omega (arith, one_booking k)) (row_count rows))

  load_few : (x : ℕ) (t : ℤ) → load_of lt_z (bookings_on (sheet rows) x) t ≤ 800000000
  unfolding load_of bookings_on total
  load_few x t =
      omega (
        arith,
        total_each (taken lt_z t) (λ a. given (eqb a.resource x) (booking_of (sheet rows) a)) 1000000 (λ a. one a (eqb a.resource x)) (assignments (sheet rows)),
        few_bookings,
      )
    where
      one : (a : Assignment ℤ) (b : Bool) → total (taken lt_z t) (given b (booking_of (sheet rows) a)) ≤ 1000000
      one a true = omega (arith, taken_most lt_z t (booking_of (sheet rows) a), usage_few a)
      one a false = omega arith

  pub peak_most : (x : ℕ) → peak clock (sheet rows) x ≤ 800000000
  unfolding peak peak_of
  peak_most x = most_within (λ b. load_of lt_z (bookings_on (sheet rows) x) b.start) 800000000 (λ b. load_few x b.start) (bookings_on (sheet rows) x)
