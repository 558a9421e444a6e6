-- Where a booking belongs: its activity's row, whether it is misplaced, and that it stands in its activity's chain. Assumes nothing.
use Prim.Native.Nat.{ℕ, ◌<◌, ◌≤◌}
use mathlib.Core.Path.{◌≡◌, refl, ap, sym, ◌∙◌}
use mathlib.Core.Bool.{Bool, true, false, cond, not, ◌&&◌, ◌||◌}
use mathlib.Core.List.{List}
use Rattle.std.specs.Prelude.{Option, None, Some}
use native.Mathlib.Omega.{arith}
use lib.Dec.{eqb, ltb}
use lib.IntN.{ℤ, negsuc}
use Rattle.loops.specs.Lists.{is_some}
use Rattle.rows.specs.Cells.{row_count, cell, num, is}
use Rattle.rows.specs.declared.Class.TheVariants.{OptionalNumber}
use Rattle.rows.specs.Ranges.{is_none, between, in_range, in_class}
use Rattle.sheet.specs.inner.Accepted.{Accepted}
use Rattle.sheet.specs.Places.{place_of}
use Rattle.sheet.specs.declared.Found.{Found}
use Rattle.sheet.specs.declared.Found.TheVariants.{At}
use Rattle.sheet.specs.inner.Found.{found_of}
use Rattle.sheet.proofs.Lookups.{Named, placed, num_is}
use Rattle.model.specs.Sheet.{sheet}
use Rattle.model.specs.Activity.{split}
use Rattle.model.specs.Schedule.{Part}
use Rattle.model.specs.inner.Records.{activity_of, assignment_of}
use Rattle.definition.specs.Pieces.{index_of, before_index}
use Rattle.definition.specs.CheckAssignments.{misplaced}
use Rattle.pieces.specs.inner.Bookings.{index_key, key_at}
use Rattle.pieces.proofs.Indices.{index_in, before_key}
use Rattle.pieces.proofs.Companions.{index_class, booked_index}
use Rattle.check1_assignments.specs.inner.Bookings.{Booked}

-- ---- whether a booking names a part

part_index : (p : Option Part) → is_some p ≡ is_some (index_of p)
part_index None = refl
part_index (Some p) = refl

none_class : in_class OptionalNumber (negsuc 9223372036854775807) ≡ true
unfolding in_class in_range between is_none
none_class = refl

none_key : index_key (negsuc 9223372036854775807) ≡ 0
unfolding index_key
none_key = refl

none_index : index_in (negsuc 9223372036854775807) ≡ None
unfolding is_none between
none_index = refl

after_none : (y : Option ℤ) → is_some y ≡ before_index None y
after_none None = refl
after_none (Some y) = refl

index_some : (x : ℤ) → in_class OptionalNumber x ≡ true → is_some (index_in x) ≡ ltb 0 (index_key x)
index_some x e =
    after_none (index_in x)
    ∙ ap (λ z. before_index z (index_in x)) (sym none_index)
    ∙ before_key (negsuc 9223372036854775807) x none_class e
    ∙ ap (λ z. ltb z (index_key x)) none_key

index_given : (x : ℤ) → is_some (index_in x) ≡ not (is_none x)
index_given x = go (is_none x)
  where
    go : (b : Bool) → is_some (cond b None (Some x)) ≡ not b
    go true = refl
    go false = refl

module _ (rows : List ℤ) (acc : Accepted rows) (a k : ℕ) (l : k < row_count rows) (h : is rows k 0 23 ≡ true) where
  part_some : is_some (assignment_of rows k).part ≡ ltb 0 (key_at rows k)
  unfolding key_at
  part_some =
      part_index (assignment_of rows k).part
      ∙ ap is_some (booked_index rows acc k l h)
      ∙ index_some (cell rows k 7) (index_class rows acc k h)

  -- by the key of the piece
  pub misplaced_is : misplaced (sheet rows) (activity_of rows a) (assignment_of rows k)
      ≡ (not (is rows k 2 (num rows a 2)) || (ltb 0 (key_at rows k) && not (is_some (split (sheet rows) (num rows a 1)))))
  unfolding is
  misplaced_is = ap (λ x. not (eqb (num rows k 2) (num rows a 2)) || (x && not (is_some (split (sheet rows) (num rows a 1))))) part_some

  part_given : is_some (assignment_of rows k).part ≡ not (is_none (cell rows k 7))
  part_given = part_index (assignment_of rows k).part ∙ ap is_some (booked_index rows acc k l h) ∙ index_given (cell rows k 7)

  -- as the code tests it
  pub misplaced_told : misplaced (sheet rows) (activity_of rows a) (assignment_of rows k)
      ≡ (not (is rows k 2 (num rows a 2)) || (not (is_none (cell rows k 7)) && not (is_some (split (sheet rows) (num rows a 1)))))
  unfolding is
  misplaced_told = ap (λ x. not (eqb (num rows k 2) (num rows a 2)) || (x && not (is_some (split (sheet rows) (num rows a 1))))) part_given

-- ---- the activity's row

module _ (rows : List ℤ) where
  -- a booking, by the lookup of its activity
  pub booked : (a k : ℕ) {f : Found} → f ≡ At a → found_of f ≡ place_of rows 2 (num rows k 1) → k < row_count rows → is rows k 0 23 ≡ true → Booked rows a k
  booked a k z e l h = record { within = l; kind = h; place = sym e ∙ ap found_of z }

  activity_named : (a k : ℕ) → Booked rows a k → Named rows 2 (num rows k 1) a
  activity_named a k b = placed rows 2 (num rows k 1) a b.place

  pub activity_within : (a k : ℕ) → Booked rows a k → a < row_count rows
  activity_within a k b = (activity_named a k b).within

  pub activity_most : (a k : ℕ) → Booked rows a k → a ≤ row_count rows
  activity_most a k b = omega (arith, activity_within a k b)

  pub activity_kind : (a k : ℕ) → Booked rows a k → is rows a 0 2 ≡ true
  activity_kind a k b = num_is rows a 0 2 (activity_named a k b).kind

  -- the row is found by its own id
  pub activity_place_lem : (a k : ℕ) → Booked rows a k → place_of rows 2 (num rows a 1) ≡ Some a
  activity_place_lem a k b = ap (place_of rows 2) (activity_named a k b).id_is ∙ b.place
