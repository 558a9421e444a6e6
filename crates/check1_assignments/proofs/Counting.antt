-- How many bookings take a unit, as a count of rows along the activity's chain. Assumes nothing.
use Prim.Native.Nat.{ℕ, zero, suc, ◌+◌, ◌<◌, ◌≤◌}
use mathlib.Core.Path.{◌≡◌, refl, ap, ap₂, sym, ◌∙◌}
use mathlib.Core.Bool.{Bool, true, false, cond, not, ◌&&◌, ◌||◌, or-false}
use mathlib.Core.List.{List}
use native.Mathlib.Omega.{arith}
use native.Mathlib.Nat.{add-zero}
use lib.Dec.{eqb, ltb}
use lib.IntN.{ℤ}
use borrow.Author.Tests.{eqb-true}
use Rattle.loops.specs.Lists.{given, any_of, count_of, is_some}
use Rattle.loops.specs.Range.{collect}
use Rattle.loops.specs.Search.{count_below}
use Rattle.loops.specs.inner.Chain.{Blind}
use Rattle.chains.specs.Places.{places}
use Rattle.loops.proofs.BoolLaws.{neither_right}
use Rattle.loops.proofs.ListLaws.{count_append}
use Rattle.loops.proofs.SearchLaws.{counted_le}
use Rattle.rows.specs.Cells.{row_count, num, is}
use Rattle.sheet.specs.inner.Accepted.{Accepted}
use Rattle.owners.specs.inner.Owners.{owner_kind, owned_by}
use Rattle.model.specs.Sheet.{sheet}
use Rattle.model.specs.Activity.{split}
use Rattle.model.specs.Schedule.{Assignment, assignment_at, assignments_below}
use Rattle.model.specs.inner.Records.{activity_of, assignment_of}
use Rattle.model.proofs.RowLaws.{assignment_row, assignment_none}
use Rattle.model.proofs.OwnedLaws.{of_activity}
use Rattle.definition.specs.Pieces.{index_of, same_index, of_piece, is_held}
use Rattle.definition.specs.CheckAssignments.{misplaced, uses}
use Rattle.pieces.specs.inner.Bookings.{in_piece, key_at}
use Rattle.pieces.specs.inner.Held.{held_at}
use Rattle.pieces.proofs.Chains.{piece_kind, piece_key}
use Rattle.pieces.proofs.Companions.{of_piece_lem}
use Rattle.check1_assignments.specs.inner.Bookings.{Booked, takes_unit}
use Rattle.check1_assignments.proofs.Placing.{misplaced_is}

module _ {A : Type 0} (p : A → Bool) (g : ℕ → List A) (q : ℕ → Bool) (h : (k : ℕ) → count_of p (g k) ≡ cond (q k) 1 0) where
  pub count_places : (n : ℕ) → count_of p (collect g n) ≡ count_below q n
  unfolding collect count_below count_of
  count_places zero = refl
  count_places (suc n) = count_append p (collect g n) (g n) ∙ ap₂ ◌+◌ (count_places n) (h n)

one_counted : (b : Bool) → cond b 1 0 + 0 ≡ cond (b || false) 1 0
one_counted true = refl
one_counted false = refl

twice : (b : Bool) → not (not b || false) ≡ b
twice true = refl
twice false = refl

module _ (rows : List ℤ) (a k : ℕ) where
  taking : Assignment ℤ → Bool
  taking x = of_piece (assignment_of rows k) x && (not (misplaced (sheet rows) (activity_of rows a) x) && not (is_held (sheet rows) x))

  taking_at : (j : ℕ) → count_of taking (assignment_at (sheet rows) j) ≡ cond (takes_unit rows a k j) 1 0
  unfolding takes_unit count_of any_of taking
  taking_at j = go (is rows j 0 23) refl
    where
      go : (b : Bool) → is rows j 0 23 ≡ b
          → count_of taking (assignment_at (sheet rows) j) ≡ cond (any_of taking (assignment_at (sheet rows) j)) 1 0
      go true h = rw (assignment_row rows j h) (one_counted (taking (assignment_of rows j)))
      go false h = rw (assignment_none rows j h)

  uses_counted : uses (sheet rows) (activity_of rows a) (assignment_of rows k) (assignments_below (sheet rows) k) ≡ count_below (takes_unit rows a k) k
  unfolding uses assignments_below taking
  uses_counted = count_places taking (assignment_at (sheet rows)) (takes_unit rows a k) taking_at k

  pub uses_most : Booked rows a k → row_count rows ≤ 800 → uses (sheet rows) (activity_of rows a) (assignment_of rows k) (assignments_below (sheet rows) k) ≤ 800
  uses_most b s = let c = counted_le (takes_unit rows a k) k refl in rw uses_counted (omega (arith, b.within))

  module _ (acc : Accepted rows) (bk : Booked rows a k) where
    takes_at : (j : ℕ) → j < row_count rows
        → takes_unit rows a k j ≡ (in_piece rows k j && (not (misplaced (sheet rows) (activity_of rows a) (assignment_of rows j)) && not (held_at rows j)))
    unfolding takes_unit held_at any_of
    takes_at j l = go (is rows j 0 23) refl
      where
        go : (b : Bool) → is rows j 0 23 ≡ b
            → takes_unit rows a k j ≡ (in_piece rows k j && (not (misplaced (sheet rows) (activity_of rows a) (assignment_of rows j)) && not (any_of (is_held (sheet rows)) (assignment_at (sheet rows) j))))
        go true h =
            rw (assignment_row rows j h)
            (or-false (of_piece (assignment_of rows k) (assignment_of rows j) && (not (misplaced (sheet rows) (activity_of rows a) (assignment_of rows j)) && not (is_held (sheet rows) (assignment_of rows j))))
            ∙ ap₂ (λ x y. x && (not (misplaced (sheet rows) (activity_of rows a) (assignment_of rows j)) && not y)) (of_piece_lem rows acc j k l bk.within h bk.kind)
            (sym (or-false (is_held (sheet rows) (assignment_of rows j)))))
        go false h = rw (assignment_none rows j h) (unfold in_piece in rw h)

    -- where booking k is not misplaced, its piece is one of the activity's: another booking of its piece is misplaced only by its task
    module _ (m : misplaced (sheet rows) (activity_of rows a) (assignment_of rows k) ≡ false) where
      piece_placed : (ltb 0 (key_at rows k) && not (is_some (split (sheet rows) (num rows a 1)))) ≡ false
      piece_placed = neither_right (not (is rows k 2 (num rows a 2))) _ (sym (misplaced_is rows acc a k bk.within bk.kind) ∙ m)

      task_alone : (j : ℕ) → j < row_count rows → in_piece rows k j ≡ true → not (misplaced (sheet rows) (activity_of rows a) (assignment_of rows j)) ≡ is rows j 2 (num rows a 2)
      task_alone j l h =
          ap not
          (misplaced_is rows acc a j l (piece_kind rows k j h)
          ∙ ap (λ x. not (is rows j 2 (num rows a 2)) || (ltb 0 x && not (is_some (split (sheet rows) (num rows a 1))))) (eqb-true (key_at rows j) (key_at rows k) (piece_key rows k j h))
          ∙ ap (λ x. not (is rows j 2 (num rows a 2)) || x) piece_placed)
          ∙ twice (is rows j 2 (num rows a 2))

      -- what the code asks of row j
      pub takes_told : (j : ℕ) → j < row_count rows → takes_unit rows a k j ≡ (in_piece rows k j && (is rows j 2 (num rows a 2) && not (held_at rows j)))
      takes_told j l = takes_at j l ∙ go (in_piece rows k j) refl
        where
          go : (b : Bool) → in_piece rows k j ≡ b
              → (in_piece rows k j && (not (misplaced (sheet rows) (activity_of rows a) (assignment_of rows j)) && not (held_at rows j)))
              ≡ (in_piece rows k j && (is rows j 2 (num rows a 2) && not (held_at rows j)))
          go true h = ap (λ x. in_piece rows k j && (x && not (held_at rows j))) (task_alone j l h)
          go false h = rw h

  other : (j : ℕ) → is rows j 1 (num rows k 1) ≡ false → eqb (num rows j 1) (num rows k 1) ≡ false
  unfolding is
  other j e = e

  pub takes_blind : Booked rows a k → Blind (owned_by rows a 23) (takes_unit rows a k)
  unfolding takes_unit any_of
  takes_blind bk = record { still = λ j e. go j e (is rows j 0 23) refl }
    where
      owned_is : (j : ℕ) → owned_by rows a 23 j ≡ (is rows j 0 23 && is rows j 1 (num rows k 1))
      owned_is j = of_activity rows 23 a (num rows k 1) (unfold owner_kind in refl) bk.place j

      off : (x y z : Bool) → x ≡ false → (((x && y) && z) || false) ≡ false
      off x y z e = rw e

      go : (j : ℕ) → owned_by rows a 23 j ≡ false → (b : Bool) → is rows j 0 23 ≡ b → takes_unit rows a k j ≡ false
      go j e true h =
          let z : is rows j 1 (num rows k 1) ≡ false = sym (ap (λ x. x && is rows j 1 (num rows k 1)) h) ∙ sym (owned_is j) ∙ e in
          rw (assignment_row rows j h)
          (off (eqb (num rows j 1) (num rows k 1)) (same_index (index_of (assignment_of rows j).part) (index_of (assignment_of rows k).part))
          (not (misplaced (sheet rows) (activity_of rows a) (assignment_of rows j)) && not (is_held (sheet rows) (assignment_of rows j))) (other j z))
      go j e false h = rw (assignment_none rows j h)

  -- the places of the chain tell all of them
  pub uses_left : Booked rows a k → count_of (takes_unit rows a k) (places (owned_by rows a 23) k) ≡ uses (sheet rows) (activity_of rows a) (assignment_of rows k) (assignments_below (sheet rows) k)
  unfolding places count_of
  uses_left b =
      count_places (takes_unit rows a k) (λ j. given (owned_by rows a 23 j) j) (takes_unit rows a k) (λ j. go j (owned_by rows a 23 j) refl) k
      ∙ sym uses_counted
    where
      go : (j : ℕ) (c : Bool) → owned_by rows a 23 j ≡ c → count_of (takes_unit rows a k) (given c j) ≡ cond (takes_unit rows a k j) 1 0
      go j true h = add-zero _
      go j false h = let e : takes_unit rows a k j ≡ false = (takes_blind b).still j h in rw e
