-- Who is held, as a search over rows. Assumes nothing.
use Prim.Native.Nat.{ℕ, ◌<◌, ◌≤◌}
use mathlib.Core.Path.{◌≡◌, refl, sym, ap, ap₂, ◌∙◌}
use mathlib.Core.Bool.{Bool, beq, true, false, not, ◌&&◌, true≢false, or-false, and-false}
use mathlib.Core.List.{List}
use lib.Dec.{eqb}
use lib.IntN.{ℤ, pos}
use lib.ListN.{replicate}
use Rattle.loops.specs.Lists.{given, keep, any_of, among}
use Rattle.loops.specs.Range.{collect}
use Rattle.loops.specs.Search.{any_below}
use Rattle.loops.proofs.ListLaws.{any_map, any_keep, any_collect}
use Rattle.loops.proofs.NumberLaws.{eqb_swap}
use Rattle.loops.proofs.SearchLaws.{any_none, none_below}
use Rattle.loops.proofs.PlaceLaws.{any_same}
use Rattle.rows.specs.Cells.{row_count, cell, num, is}
use Rattle.rows.specs.declared.Class.TheVariants.{OptionalNumber}
use Rattle.rows.specs.Ranges.{is_none, in_class}
use Rattle.sheet.specs.Places.{of_kind}
use Rattle.sheet.specs.Refusals.{half_part}
use Rattle.sheet.specs.inner.Accepted.{Accepted}
use Rattle.sheet.proofs.Lookups.{is_num}
use Rattle.model.specs.Sheet.{sheet, row_at}
use Rattle.model.specs.inner.Records.{num_at}
use Rattle.model.specs.Resource.{listed, companions}
use Rattle.model.specs.Schedule.{Assignment, as_part, assignment_at, assignments_below, assignments}
use Rattle.model.proofs.RowLaws.{row_none, row_here, assignment_row, assignment_none}
use Rattle.definition.specs.Pieces.{index_of, same_index, of_piece, held_among, assigned_with, is_held}
use Rattle.pieces.specs.inner.Bookings.{key_at, in_piece, names, holds_for}
use Rattle.pieces.specs.inner.Held.{held_at, Held}
use Rattle.pieces.proofs.Indices.{index_in, same_key, index_in_lem}
use Rattle.pieces.proofs.Marks.{unmarked}

module _ (rows : List ℤ) where
  -- ---- a booking's row

  abbrev pub booking : ℕ → Assignment ℤ
  booking k = record {
    activity = num rows k 1;
    task = num rows k 2;
    resource = num rows k 3;
    start = pos (num rows k 4);
    end = pos (num rows k 5);
    setup = num rows k 6;
    part = as_part ((sheet rows).cell k 7) ((sheet rows).cell k 8);
  }

  beq_of : (a b : Bool) → (true && not (beq a b)) ≡ false → beq a b ≡ true
  beq_of true true e = refl
  beq_of true false e = absurd (true≢false e)
  beq_of false true e = absurd (true≢false e)
  beq_of false false e = refl

  module _ (acc : Accepted rows) where
    pub index_class : (k : ℕ) → is rows k 0 23 ≡ true → in_class OptionalNumber (cell rows k 7) ≡ true
    index_class k h = rw (is_num rows k 0 23 h) at (acc.columns k 7)

    pub both_parts : (k : ℕ) → k < row_count rows → is rows k 0 23 ≡ true → beq (is_none (cell rows k 7)) (is_none (cell rows k 8)) ≡ true
    unfolding half_part
    both_parts k l h = beq_of (is_none (cell rows k 7)) (is_none (cell rows k 8)) (rw h at (acc.parts k l))

    -- the index of a booking's part is that of column 7
    pub booked_index : (k : ℕ) → k < row_count rows → is rows k 0 23 ≡ true → index_of (booking k).part ≡ index_in (cell rows k 7)
    booked_index k l h = rw (is_num rows k 0 23 h) (index_in_lem (cell rows k 7) (cell rows k 8) (both_parts k l h))

    pub same_index_lem : (j k : ℕ) → j < row_count rows → k < row_count rows → is rows j 0 23 ≡ true → is rows k 0 23 ≡ true
        → same_index (index_of (booking j).part) (index_of (booking k).part) ≡ eqb (key_at rows j) (key_at rows k)
    unfolding key_at
    same_index_lem j k l m h g =
        ap₂ same_index (booked_index j l h) (booked_index k m g)
        ∙ same_key (cell rows j 7) (cell rows k 7) (index_class j h) (index_class k g)

    pub of_piece_lem : (j k : ℕ) → j < row_count rows → k < row_count rows → is rows j 0 23 ≡ true → is rows k 0 23 ≡ true
        → of_piece (booking k) (booking j) ≡ in_piece rows k j
    unfolding in_piece is
    of_piece_lem j k l m h g = rw (h) (ap (λ z. eqb (num rows j 1) (num rows k 1) && z) (same_index_lem j k l m h g))

  -- ---- companions

  pub companion_is : (p r : ℕ) → among r (companions (sheet rows) p) ≡ any_below (names rows 13 p r) (row_count rows)
  unfolding listed
  companion_is p r =
      any_collect (eqb r) (row_at (sheet rows) 13 λ k. given (eqb (num_at (sheet rows) k 1) p) (num_at (sheet rows) k 2)) (row_count rows)
      ∙ any_same _ _ (row_count rows) (λ i l. at i (is rows i 0 13) refl)
    where
      pick : (b : Bool) (v : ℕ) → any_of (eqb r) (given b v) ≡ (b && eqb v r)
      pick true v = unfold any_of in (or-false (eqb r v) ∙ eqb_swap r v)
      pick false v = unfold any_of in refl

      at : (i : ℕ) (b : Bool) → is rows i 0 13 ≡ b
          → any_of (eqb r) (row_at (sheet rows) 13 (λ k. given (eqb (num_at (sheet rows) k 1) p) (num_at (sheet rows) k 2)) i) ≡ names rows 13 p r i
      at i true h = unfold names is in (rw (row_here rows i 13 (λ k. given (eqb (num_at (sheet rows) k 1) p) (num_at (sheet rows) k 2)) h, h, is_num rows i 0 13 h) (pick (eqb (num rows i 1) p) (num rows i 2)))
      at i false h = unfold names any_of in (rw (row_none rows i 13 (λ k. given (eqb (num_at (sheet rows) k 1) p) (num_at (sheet rows) k 2)) h, h))

  test_is : (k c v : ℕ) → eqb (num rows k c) v ≡ is rows k c v
  unfolding is
  test_is k c v = refl

  -- ---- who is held

  module _ (acc : Accepted rows) where
    -- r is held among what the piece of booking k is assigned
    pub held_among_lem : (k r : ℕ) → k < row_count rows → is rows k 0 23 ≡ true
        → held_among (sheet rows) (assigned_with (sheet rows) (booking k)) r
        ≡ any_below (λ j. in_piece rows k j && (not (is rows j 3 r) && any_below (names rows 13 (num rows j 3) r) (row_count rows))) (row_count rows)
    unfolding held_among assigned_with assignments assignments_below
    held_among_lem k r l h =
        any_map (λ p. not (eqb p r) && among r (companions (sheet rows) p)) (λ a. a.resource) (keep (of_piece (booking k)) (collect (assignment_at (sheet rows)) (row_count rows)))
        ∙ any_keep (λ x. not (eqb x.resource r) && among r (companions (sheet rows) x.resource)) (of_piece (booking k)) (collect (assignment_at (sheet rows)) (row_count rows))
        ∙ any_collect (λ x. of_piece (booking k) x && (not (eqb x.resource r) && among r (companions (sheet rows) x.resource))) (assignment_at (sheet rows)) (row_count rows)
        ∙ any_same _ _ (row_count rows) (λ j m. at j m (is rows j 0 23) refl)
      where
        at : (j : ℕ) → j < row_count rows → (b : Bool) → is rows j 0 23 ≡ b
            → any_of (λ x. of_piece (booking k) x && (not (eqb x.resource r) && among r (companions (sheet rows) x.resource))) (assignment_at (sheet rows) j)
            ≡ (in_piece rows k j && (not (is rows j 3 r) && any_below (names rows 13 (num rows j 3) r) (row_count rows)))
        at j m true g =
            rw (assignment_row rows j g)
            (unfold any_of in (or-false (of_piece (booking k) (booking j) && (not (eqb (num rows j 3) r) && among r (companions (sheet rows) (num rows j 3))))
            ∙ ap₂ ◌&&◌ (of_piece_lem acc j k m l g h) (ap₂ (λ a b. not a && b) (test_is j 3 r) (companion_is (num rows j 3) r))))
        at j m false g = rw (assignment_none rows j g) (unfold any_of in_piece in rw g)

    pub held_is : (k : ℕ) → k < row_count rows → is rows k 0 23 ≡ true → is_held (sheet rows) (booking k) ≡ any_below (holds_for rows k) (row_count rows)
    unfolding is_held holds_for
    held_is k l h = held_among_lem k (num rows k 3) l h

    pub held_booking : (k : ℕ) → k < row_count rows → is rows k 0 23 ≡ true → held_at rows k ≡ any_below (holds_for rows k) (row_count rows)
    unfolding held_at any_of
    held_booking k l h = rw (assignment_row rows k h) (or-false (is_held (sheet rows) (booking k)) ∙ held_is k l h)

  pub held_none_lem : (k : ℕ) → is rows k 0 23 ≡ false → held_at rows k ≡ false
  unfolding held_at any_of
  held_none_lem k h = rw (assignment_none rows k h)

  -- as the code tests it
  pub held_told : Accepted rows → (k : ℕ) → k < row_count rows → held_at rows k ≡ (is rows k 0 23 && any_below (holds_for rows k) (row_count rows))
  held_told acc k l = go (is rows k 0 23) refl
    where
      go : (b : Bool) → is rows k 0 23 ≡ b → held_at rows k ≡ (is rows k 0 23 && any_below (holds_for rows k) (row_count rows))
      go true h = rw h (held_booking acc k l h)
      go false h = rw h (held_none_lem k h)

  -- a sheet that names no companions holds nobody
  module _ (acc : Accepted rows) {b : Bool} (e : b ≡ any_below (of_kind rows 13) (row_count rows)) (h : b ≡ false) where
    not_named : (a r j : ℕ) → j < row_count rows → names rows 13 a r j ≡ false
    unfolding names of_kind
    not_named a r j m = rw (any_none (of_kind rows 13) (row_count rows) j (sym e ∙ h) m)

    not_holding : (k j : ℕ) → holds_for rows k j ≡ false
    unfolding holds_for
    not_holding k j =
        ap (λ z. in_piece rows k j && (not (is rows j 3 (num rows k 3)) && z)) (none_below _ (row_count rows) (not_named (num rows j 3) (num rows k 3)))
        ∙ ap (λ z. in_piece rows k j && z) (and-false (not (is rows j 3 (num rows k 3))))
        ∙ and-false (in_piece rows k j)

    not_held_lem : (k : ℕ) → k < row_count rows → held_at rows k ≡ false
    not_held_lem k m = go (is rows k 0 23) refl
      where
        go : (c : Bool) → is rows k 0 23 ≡ c → held_at rows k ≡ false
        go true g = held_booking acc k m g ∙ none_below _ (row_count rows) (λ j _. not_holding k j)
        go false g = held_none_lem k g

    pub none_held : row_count rows ≤ 800 → Held rows (replicate 800 false)
    none_held s = record {
      short = s;
      at = λ k m. unmarked k ∙ sym (not_held_lem k m);
      past = λ k m. unmarked k;
    }
