-- Check 3 by rows is check 3. Assumes nothing.
use Prim.Native.Nat.{ℕ, ◌<◌}
use mathlib.Core.Path.{◌≡◌, refl, ap, ap₂, sym, ◌∙◌}
use mathlib.Core.Bool.{Bool, beq, true, false, cond, not, ◌&&◌, true≢false, or-false}
use mathlib.Core.List.{List, [], ◌∷◌, ◌++◌, append-nil, foldl}
use Rattle.std.specs.Prelude.{Option, None, Some}
use lib.Dec.{eqb}
use lib.IntN.{ℤ}
use Rattle.loops.specs.Numbers.{to_nat}
use Rattle.loops.specs.Lists.{given, any_of, head, option, is_some, is_empty, each}
use Rattle.loops.specs.Range.{collect}
use Rattle.loops.specs.Search.{some_if, first_place}
use Rattle.loops.specs.inner.Chain.{only}
use Rattle.loops.proofs.RangeLaws.{collect_ext}
use Rattle.loops.proofs.ListLaws.{each_collect, each_keep, any_keep, any_collect, head_collect, head_given}
use Rattle.loops.proofs.PlaceLaws.{any_same}
use Rattle.chains.specs.Places.{places}
use Rattle.findings.specs.inner.Told.{Told, tell, telling}
use Rattle.findings.proofs.Reporting.{tell_only}
use Rattle.rows.specs.Cells.{row_count, cell, num, is}
use Rattle.rows.specs.Ranges.{is_none}
use Rattle.sheet.specs.Places.{of_kind}
use Rattle.sheet.specs.Refusals.{refusal_of}
use Rattle.sheet.specs.inner.Accepted.{Accepted}
use Rattle.sheet.proofs.Lookups.{is_num}
use Rattle.owners.specs.inner.Owners.{owner_kind, owned_by}
use Rattle.model.specs.Sheet.{number, nothing, sheet, row_at}
use Rattle.model.specs.inner.Records.{num_at, int_at, activity_of}
use Rattle.model.specs.Activity.{Split, split}
use Rattle.model.specs.Schedule.{Part, Assignment, as_part, assignment_at, assignments_below, assignments, assignments_for_activity_all}
use Rattle.model.proofs.RowLaws.{assignment_row, assignment_none}
use Rattle.model.proofs.Accepting.{accepted, activity_at_lem}
use Rattle.model.proofs.OwnedLaws.{of_activity}
use Rattle.model.proofs.Tasks.{tasks_by_rows}
use Rattle.model.proofs.Finds.{first_same, first_placed}
use Rattle.pieces.proofs.Companions.{both_parts}
use Rattle.definition.specs.CheckParts.{parts_of, two_works, check_parts_of, parts_booked, whole_booked, check_split, check_activity_parts, check_parts}
use Rattle.check3_parts.specs.inner.Booked.{has_part, part_of, part_at, parts_below, parts_in, whole_at, whole_in, split_of, split_findings, activity_findings, task_findings}
use Rattle.check3_parts.proofs.Findings.{empty_is}

-- the part of a booking: both columns or neither
booked_part : (x w : ℤ) → beq (is_none x) (is_none w) ≡ true
    → option (as_part {T = ℤ} (cond (is_none x) nothing (number x)) (cond (is_none w) nothing (number w))) [] (λ p. p ∷ []) ≡ given (not (is_none x)) (record { index = x; work = to_nat w })
booked_part x w e = go (is_none x) (is_none w) e
  where
    go : (a b : Bool) → beq a b ≡ true
        → option (as_part {T = ℤ} (cond a nothing (number x)) (cond b nothing (number w))) [] (λ p. p ∷ []) ≡ given {A = Part} (not a) (record { index = x; work = to_nat w })
    go true b e = refl
    go false true e = absurd (true≢false (sym e))
    go false false e = refl

booked_whole : (x w : ℤ) → beq (is_none x) (is_none w) ≡ true
    → not (is_some (as_part {T = ℤ} (cond (is_none x) nothing (number x)) (cond (is_none w) nothing (number w)))) ≡ not (not (is_none x))
booked_whole x w e = go (is_none x) (is_none w) e
  where
    go : (a b : Bool) → beq a b ≡ true → not (is_some (as_part {T = ℤ} (cond a nothing (number x)) (cond b nothing (number w)))) ≡ not (not a)
    go true b e = refl
    go false true e = absurd (true≢false (sym e))
    go false false e = refl

module _ (rows : List ℤ) (acc : Accepted rows) where
  module _ (o : ℕ) (l : o < row_count rows) (h : is rows o 0 2 ≡ true) where
    -- ---- its bookings

    part_row : (k : ℕ) → k < row_count rows → is rows k 0 23 ≡ true
        → option (as_part ((sheet rows).cell k 7) ((sheet rows).cell k 8)) [] (λ p. p ∷ []) ≡ given (not (is_none (cell rows k 7))) (part_of rows k)
    part_row k m e = rw (is_num rows k 0 23 e) (booked_part (cell rows k 7) (cell rows k 8) (both_parts rows acc k m e))

    whole_row : (k : ℕ) → k < row_count rows → is rows k 0 23 ≡ true
        → not (is_some (as_part ((sheet rows).cell k 7) ((sheet rows).cell k 8))) ≡ not (not (is_none (cell rows k 7)))
    whole_row k m e = rw (is_num rows k 0 23 e) (booked_whole (cell rows k 7) (cell rows k 8) (both_parts rows acc k m e))

    same_activity : (k : ℕ) → eqb (num rows k 1) (num rows o 1) ≡ (true && is rows k 1 (num rows o 1))
    unfolding is
    same_activity k = refl

    part_in : Assignment ℤ → List Part
    part_in a = cond (eqb a.activity (num rows o 1)) (option a.part [] (λ p. p ∷ [])) []

    part_is : (k : ℕ) → k < row_count rows → each part_in (assignment_at (sheet rows) k) ≡ part_at rows o k
    unfolding part_in part_at only each has_part
    part_is k m = go (is rows k 0 23) refl ∙ ap (λ b. cond b (given (not (is_none (cell rows k 7))) (part_of rows k)) []) (sym (of_activity rows 23 o (num rows o 1) (unfold owner_kind in refl) (activity_at_lem rows acc o l h) k))
      where
        go : (b : Bool) → is rows k 0 23 ≡ b
            → each part_in (assignment_at (sheet rows) k) ≡ cond (is rows k 0 23 && is rows k 1 (num rows o 1)) (given (not (is_none (cell rows k 7))) (part_of rows k)) []
        go true e =
            ap (each part_in) (assignment_row rows k e)
            ∙ append-nil _
            ∙ ap₂ (λ c y. cond c y []) (same_activity k) (part_row k m e)
            ∙ ap (λ b. cond (b && is rows k 1 (num rows o 1)) (given (not (is_none (cell rows k 7))) (part_of rows k)) []) (sym e)
        go false e = ap (each part_in) (assignment_none rows k e) ∙ ap (λ b. cond (b && is rows k 1 (num rows o 1)) (given (not (is_none (cell rows k 7))) (part_of rows k)) []) (sym e)

    parts_are : parts_booked (sheet rows) (num rows o 1) ≡ parts_below rows o (row_count rows)
    unfolding assignments_for_activity_all assignments assignments_below parts_below part_in
    parts_are =
        each_keep (λ a. option a.part [] (λ p. p ∷ [])) (λ a. eqb a.activity (num rows o 1)) (collect (assignment_at (sheet rows)) (row_count rows))
        ∙ each_collect part_in (assignment_at (sheet rows)) (row_count rows)
        ∙ collect_ext _ _ (row_count rows) part_is

    whole_of : Assignment ℤ → Bool
    whole_of a = eqb a.activity (num rows o 1) && not (is_some a.part)

    whole_at_lem : (k : ℕ) → k < row_count rows → any_of whole_of (assignment_at (sheet rows) k) ≡ whole_at rows o k
    unfolding whole_of whole_at any_of has_part
    whole_at_lem k m = go (is rows k 0 23) refl ∙ ap (λ b. b && not (not (is_none (cell rows k 7)))) (sym (of_activity rows 23 o (num rows o 1) (unfold owner_kind in refl) (activity_at_lem rows acc o l h) k))
      where
        go : (b : Bool) → is rows k 0 23 ≡ b
            → any_of whole_of (assignment_at (sheet rows) k) ≡ ((is rows k 0 23 && is rows k 1 (num rows o 1)) && not (not (is_none (cell rows k 7))))
        go true e =
            ap (any_of whole_of) (assignment_row rows k e)
            ∙ or-false _
            ∙ ap₂ ◌&&◌ (same_activity k) (whole_row k m e)
            ∙ ap (λ b. (b && is rows k 1 (num rows o 1)) && not (not (is_none (cell rows k 7)))) (sym e)
        go false e = ap (any_of whole_of) (assignment_none rows k e) ∙ ap (λ b. (b && is rows k 1 (num rows o 1)) && not (not (is_none (cell rows k 7)))) (sym e)

    whole_is : whole_booked (sheet rows) (num rows o 1) ≡ whole_in rows o
    unfolding assignments_for_activity_all assignments assignments_below whole_in whole_of
    whole_is =
        any_keep (λ a. not (is_some a.part)) (λ a. eqb a.activity (num rows o 1)) (collect (assignment_at (sheet rows)) (row_count rows))
        ∙ any_collect whole_of (assignment_at (sheet rows)) (row_count rows)
        ∙ any_same _ _ (row_count rows) whole_at_lem

    -- ---- its split

    abbrev split_at : ℕ → List Split
    split_at = row_at (sheet rows) 4 λ k.
        given (eqb (num_at (sheet rows) k 1) (num rows o 1)) (record { max_parts = int_at (sheet rows) k 2; min_part = num_at (sheet rows) k 3; overhead = num_at (sheet rows) k 4 })

    split_at_lem : (k : ℕ) → head (split_at k) ≡ some_if (owned_by rows o 4 k) (split_of rows k)
    unfolding is
    split_at_lem k = rw (of_activity rows 4 o (num rows o 1) (unfold owner_kind in refl) (activity_at_lem rows acc o l h) k) (go (is rows k 0 4) refl)
      where
        go : (b : Bool) → is rows k 0 4 ≡ b → head (split_at k) ≡ some_if (is rows k 0 4 && is rows k 1 (num rows o 1)) (split_of rows k)
        go true e = rw (is_num rows k 0 4 e) (head_given (eqb (num rows k 1) (num rows o 1)) (split_of rows k))
        go false e = rw e

    split_is : split (sheet rows) (num rows o 1) ≡ option (first_place (owned_by rows o 4) (row_count rows)) None (λ k. Some (split_of rows k))
    unfolding split
    split_is = head_collect split_at (row_count rows) ∙ first_same _ _ (row_count rows) split_at_lem ∙ first_placed (owned_by rows o 4) (split_of rows) (row_count rows)

    activity_with : (x : ℕ) → check_split (sheet rows) (activity_of rows o) (split_of rows x) ≡ two_works (num rows o 1) [] (parts_below rows o (row_count rows)) ++ split_findings rows x o
    unfolding check_split split_findings
    activity_with x =
        ap₂ (λ p w. two_works (num rows o 1) [] p ++ cond (is_empty p) [] (check_parts_of (num rows o 1) (num rows o 5) (split_of rows x) w (parts_of p))) parts_are whole_is
        ∙ ap (λ b. two_works (num rows o 1) [] (parts_below rows o (row_count rows)) ++ cond b [] (check_parts_of (num rows o 1) (num rows o 5) (split_of rows x) (whole_in rows o) (parts_in rows o)))
        (empty_is (parts_below rows o (row_count rows)))

    activity_is : check_activity_parts (sheet rows) (activity_of rows o) ≡ activity_findings rows o
    unfolding check_activity_parts activity_findings
    activity_is = ap (λ y. option y [] (check_split (sheet rows) (activity_of rows o))) split_is ∙ go (first_place (owned_by rows o 4) (row_count rows))
      where
        go : (f : Option ℕ)
            → option (option f None (λ k. Some (split_of rows k))) [] (check_split (sheet rows) (activity_of rows o))
            ≡ option f [] (λ x. two_works (num rows o 1) [] (parts_below rows o (row_count rows)) ++ split_findings rows x o)
        go None = refl
        go (Some x) = activity_with x

  whole : collect (only (of_kind rows 1) (task_findings rows)) (row_count rows) ≡ check_parts (sheet rows)
  unfolding check_parts task_findings
  whole = tasks_by_rows rows acc (check_activity_parts (sheet rows)) (activity_findings rows) activity_is

-- ---- what is told

pub activities_told : (rows : List ℤ) (o : ℕ) (t : Told) → foldl (telling (activity_findings rows)) t (places (owned_by rows o 2) (row_count rows)) ≡ tell t (task_findings rows o)
unfolding task_findings
activities_told rows o t = tell_only (owned_by rows o 2) (activity_findings rows) (row_count rows) t

pub tasks_told : (rows : List ℤ) (t : Told) → refusal_of rows ≡ None → foldl (telling (task_findings rows)) t (places (of_kind rows 1) (row_count rows)) ≡ tell t (check_parts (sheet rows))
tasks_told rows t acc = tell_only (of_kind rows 1) (task_findings rows) (row_count rows) t ∙ ap (tell t) (whole rows (accepted rows acc))
