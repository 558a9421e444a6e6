-- The derived time of a booking as a loop over bookings. Assumes nothing.
use Prim.Native.Nat.{ℕ, ◌<◌}
use mathlib.Core.Path.{◌≡◌, refl, sym, ap, ◌∙◌}
use mathlib.Core.Bool.{Bool, true, false, cond, not, ◌&&◌, true≢false}
use mathlib.Core.List.{List, [], ◌∷◌, ◌++◌, map, foldl}
use Rattle.std.specs.Prelude.{Option, None, Some}
use lib.IntN.{ℤ}
use Rattle.loops.specs.Lists.{keep, each, option}
use Rattle.loops.specs.Range.{fold, collect}
use Rattle.loops.specs.Search.{any_below}
use Rattle.loops.specs.inner.Chain.{Quiet}
use Rattle.loops.proofs.BoolLaws.{and_left}
use Rattle.loops.proofs.ListLaws.{each_keep, each_collect, foldl_collect, each_map}
use Rattle.loops.proofs.RangeLaws.{fold_rel}
use Rattle.loops.proofs.PlaceLaws.{any_same}
use Rattle.chains.specs.Places.{places}
use Rattle.chains.proofs.PlaceLaws.{foldl_places}
use Rattle.rows.specs.Cells.{row_count, num, is}
use Rattle.sheet.specs.Places.{place_of}
use Rattle.sheet.specs.inner.Accepted.{Accepted}
use Rattle.sheet.proofs.Lookups.{placed}
use Rattle.owners.specs.inner.Owners.{own_place, owned_by}
use Rattle.resource_timing.specs.declared.ActivityDuration.{ActivityDuration}
use Rattle.resource_timing.specs.declared.ResourceTiming.{ResourceTiming}
use Rattle.resource_timing.specs.declared.Piece.{Piece}
use Rattle.resource_timing.specs.declared.Timed.{Timed}
use Rattle.resource_timing.specs.Durations.{TimedSoFar, start, timed_on, piece_timing, piece_duration, timed, timed_duration}
use Rattle.resource_timing.specs.inner.Limits.{Derived, within, timed_of, timed_with, derived_of, PieceAmounts}
use Rattle.resource_timing.proofs.Laws.{timed_known, derived_known}
use Rattle.model.specs.Sheet.{sheet}
use Rattle.model.specs.Activity.{piece_of, timing, duration_on}
use Rattle.model.specs.Schedule.{Assignment, assignment_at, assignments_below, assignments}
use Rattle.model.specs.inner.Records.{activity_of, assignment_of}
use Rattle.model.proofs.RowLaws.{assignment_row, assignment_none}
use Rattle.definition.specs.Pieces.{of_piece, held_among, not_held, assigned_with, runs_on}
use Rattle.pieces.specs.inner.Bookings.{in_piece, names, holds_for}
use Rattle.pieces.specs.inner.Held.{held_at}
use Rattle.pieces.proofs.Chains.{piece_activity, piece_kind, piece_owned, pieces_same}
use Rattle.pieces.proofs.Companions.{of_piece_lem, held_among_lem, held_booking}
use Rattle.derived_times.specs.inner.Rows.{columns_of, part_at, timing_of, timing_place, timed_at}
use Rattle.derived_times.specs.Times.{derived}
use Rattle.derived_times.proofs.Finds.{timing_is}
use Rattle.derived_times.proofs.Parts.{timing_row, row_amounts}

foldl_map : {A B C : Type 0} (s : C → B → C) (g : A → B) (c : C) (l : List A) → foldl s c (map g l) ≡ foldl (λ d x. s d (g x)) c l
foldl_map s g c [] = refl
foldl_map s g c (x ∷ l) = foldl_map s g (s c (g x)) l

module _ (rows : List ℤ) where
  -- ---- bookings of one piece

  holds_same : (k j i : ℕ) → in_piece rows k j ≡ true
      → (in_piece rows k i && (not (is rows i 3 (num rows j 3)) && any_below (names rows 13 (num rows i 3) (num rows j 3)) (row_count rows))) ≡ holds_for rows j i
  unfolding holds_for
  holds_same k j i p =
      ap (λ b. b && (not (is rows i 3 (num rows j 3)) && any_below (names rows 13 (num rows i 3) (num rows j 3)) (row_count rows))) (sym (pieces_same rows k j p i))

  -- who is held among them does not hang on which of them is asked
  held_in_piece : Accepted rows → (k j : ℕ) → k < row_count rows → j < row_count rows → is rows k 0 23 ≡ true → in_piece rows k j ≡ true
      → held_among (sheet rows) (assigned_with (sheet rows) (assignment_of rows k)) (num rows j 3) ≡ held_at rows j
  held_in_piece acc k j l m h p =
      held_among_lem rows acc k (num rows j 3) l h
      ∙ any_same _ _ (row_count rows) (λ i z. holds_same k j i p)
      ∙ sym (held_booking rows acc j m (piece_kind rows k j p))

  -- ---- one booking

  module _ (k : ℕ) (piece : Piece) where
    abbrev Step : TimedSoFar → ResourceTiming → TimedSoFar
    Step c t = timed_on c (piece_timing piece t)

    -- the timing on resource r, if there is one
    abbrev timing_on : ℕ → ℕ → List ResourceTiming
    timing_on a r = option (timing (sheet rows) a r) [] (λ t. t ∷ [])

    taken : (c : TimedSoFar) (x : Option ResourceTiming) → foldl Step c (option x [] (λ t. t ∷ []) ++ []) ≡ option x c (λ t. Step c t)
    taken c None = refl
    taken c (Some t) = refl

    module _ (acc : Accepted rows) (l : k < row_count rows) (h : is rows k 0 23 ≡ true) (a : ℕ) (e : a ≡ num rows k 1) where
      abbrev of_booking : Assignment ℤ → List ResourceTiming
      of_booking x =
          cond (of_piece (assignment_of rows k) x)
          (cond (not (held_among (sheet rows) (assigned_with (sheet rows) (assignment_of rows k)) x.resource)) (timing_on a x.resource) [])
          []

      turn : (c : TimedSoFar) (j : ℕ) → j < row_count rows → foldl Step c (each of_booking (assignment_at (sheet rows) j)) ≡ timed_at rows k piece c j
      turn c j m = go (is rows j 0 23) refl
        where
          go : (b : Bool) → is rows j 0 23 ≡ b → foldl Step c (each of_booking (assignment_at (sheet rows) j)) ≡ timed_at rows k piece c j
          go false g = rw (assignment_none rows j g) (unfold each timed_at in_piece in (rw g))
          go true g = rw (assignment_row rows j g) (unfold each in (rw (of_piece_lem rows acc j k m l g h) (at (in_piece rows k j) refl)))
            where
              run : (b : Bool) → foldl Step c (cond (not b) (timing_on a (num rows j 3)) [] ++ []) ≡ cond (not b) (option (timing (sheet rows) (num rows k 1) (num rows j 3)) c (λ t. Step c t)) c
              run true = refl
              run false = rw e (taken c (timing (sheet rows) (num rows k 1) (num rows j 3)))

              at : (b : Bool) → in_piece rows k j ≡ b
                  → foldl Step c (cond b (cond (not (held_among (sheet rows) (assigned_with (sheet rows) (assignment_of rows k)) (num rows j 3))) (timing_on a (num rows j 3)) []) [] ++ [])
                  ≡ timed_at rows k piece c j
              at true p = rw (held_in_piece acc k j l m h p) (run (held_at rows j) ∙ sym (unfold timed_at in (rw p)))
              at false p = unfold timed_at in (rw p)

      pub fold_is : foldl timed_on start (map (piece_timing piece) (each (timing_on a) (runs_on (sheet rows) (assignment_of rows k)))) ≡ fold (timed_at rows k piece) start (row_count rows)
      unfolding runs_on not_held assigned_with assignments assignments_below
      fold_is =
          foldl_map timed_on (piece_timing piece) start (each (timing_on a) (runs_on (sheet rows) (assignment_of rows k)))
          ∙ ap (foldl Step start)
          (each_keep (timing_on a) (λ r. not (held_among (sheet rows) (assigned_with (sheet rows) (assignment_of rows k)) r)) (map (λ x. x.resource) (keep (of_piece (assignment_of rows k)) (collect (assignment_at (sheet rows)) (row_count rows))))
          ∙ each_map _ (λ x. x.resource) (keep (of_piece (assignment_of rows k)) (collect (assignment_at (sheet rows)) (row_count rows)))
          ∙ each_keep _ (of_piece (assignment_of rows k)) (collect (assignment_at (sheet rows)) (row_count rows))
          ∙ each_collect of_booking (assignment_at (sheet rows)) (row_count rows))
          ∙ foldl_collect Step start _ (row_count rows)
          ∙ fold_rel (λ x y. x ≡ y) _ _ start start (row_count rows) refl (λ x y j m q. ap (λ z. foldl Step z (each of_booking (assignment_at (sheet rows) j))) q ∙ turn y j m)

    -- a booking that is not of the piece changes nothing
    pub timed_quiet : (o : ℕ) → is rows k 0 23 ≡ true → o ≡ own_place rows k → Quiet (owned_by rows o 23) (timed_at rows k piece)
    timed_quiet o h e = record { still = λ f j z. go f j z (in_piece rows k j) refl }
      where
        go : (f : TimedSoFar) (j : ℕ) → owned_by rows o 23 j ≡ false → (b : Bool) → in_piece rows k j ≡ b → timed_at rows k piece f j ≡ f
        go f j z true p = absurd (true≢false (sym (piece_owned rows k o h e j p) ∙ z))
        go f j z false p = unfold timed_at in (rw p)

    pub timed_places : (o : ℕ) → is rows k 0 23 ≡ true → o ≡ own_place rows k
        → foldl (timed_at rows k piece) start (places (owned_by rows o 23) (row_count rows)) ≡ fold (timed_at rows k piece) start (row_count rows)
    timed_places o h e = foldl_places (owned_by rows o 23) (timed_at rows k piece) start (row_count rows) (timed_quiet o h e)

    -- ---- the code's branches
    module _ (g : TimedSoFar) (j : ℕ) where
      pub timed_aside : {t : Timed} {b : Bool} → b ≡ (in_piece rows k j && not (held_at rows j)) → b ≡ false → t ≡ timed_of g → t ≡ timed_of (timed_at rows k piece g j)
      unfolding timed_at
      timed_aside e h q = rw (sym e ∙ h) q

      module _ {b : Bool} (e : b ≡ (in_piece rows k j && not (held_at rows j))) (h : b ≡ true) where
        of_piece_too : in_piece rows k j ≡ true
        of_piece_too = and_left (in_piece rows k j) (not (held_at rows j)) (sym e ∙ h)

        timing_found : {x : Option ℕ} → x ≡ timing_place rows j → timing (sheet rows) (num rows k 1) (num rows j 3) ≡ option x None (λ i. Some (timing_of rows i))
        timing_found {x} f =
            ap (λ a. timing (sheet rows) a (num rows j 3)) (sym (piece_activity rows k j of_piece_too))
            ∙ timing_is rows (num rows j 1) (num rows j 3)
            ∙ ap (λ y. option y None (λ i. Some (timing_of rows i))) (timing_row rows j (piece_kind rows k j of_piece_too) f)

        pub timed_without : {t : Timed} → None ≡ timing_place rows j → t ≡ timed_of g → t ≡ timed_of (timed_at rows k piece g j)
        unfolding timed_at
        timed_without f q = rw (sym e ∙ h, timing_found f) q

        pub timed_found : {t t' : Timed} {x : ResourceTiming} {i : ℕ} → t' ≡ timed_with t piece x → x ≡ timing_of rows i → Some i ≡ timing_place rows j
            → Accepted rows → PieceAmounts piece → t ≡ timed_of g → t' ≡ timed_of (timed_at rows k piece g j)
        unfolding timed_at
        timed_found {t} {t'} {x} {i} u v f acc a q =
            rw (sym e ∙ h, timing_found f)
            (u
            ∙ ap (λ y. timed_with y piece x) q
            ∙ timed_known g piece x a (rw v (row_amounts rows acc j i (timing_row rows j (piece_kind rows k j of_piece_too) f)))
            ∙ ap (λ y. timed_of (timed_on g (piece_timing piece y))) v)

  -- ---- the whole derivation

  derived_is : Accepted rows → (k o : ℕ) (piece : Piece) → k < row_count rows → is rows k 0 23 ≡ true → place_of rows 2 (num rows k 1) ≡ Some o
      → piece ≡ piece_of (sheet rows) (activity_of rows o) (part_at rows k)
      → timed (piece_duration piece (columns_of rows o 4)) (fold (timed_at rows k piece) start (row_count rows))
      ≡ derived (sheet rows) (assignment_of rows k) (activity_of rows o)
  unfolding derived duration_on timed_duration
  derived_is acc k o piece l h e p =
      ap (timed (piece_duration piece (columns_of rows o 4))) (sym (fold_is k piece acc l h (num rows o 1) (placed rows 2 (num rows k 1) o e).id_is))
      ∙ ap (λ z. timed (piece_duration z (columns_of rows o 4)) (foldl timed_on start (map (piece_timing z) (each (λ r. option (timing (sheet rows) (num rows o 1) r) [] (λ t. t ∷ [])) (runs_on (sheet rows) (assignment_of rows k)))))) p

  -- the same, of what the code found
  pub duration_found : (k o : ℕ) {d : Derived} {t : Timed} {piece : Piece} {base : ActivityDuration} → t ≡ timed_of (fold (timed_at rows k piece) start (row_count rows))
      → d ≡ derived_of t (piece_duration piece base) → base ≡ columns_of rows o 4
      → piece ≡ piece_of (sheet rows) (activity_of rows o) (part_at rows k) → Accepted rows → k < row_count rows → is rows k 0 23 ≡ true → place_of rows 2 (num rows k 1) ≡ Some o
      → d ≡ within (derived (sheet rows) (assignment_of rows k) (activity_of rows o))
  duration_found k o {d} {t} {piece} e f p w acc l h z =
      let u : d ≡ derived_of t (piece_duration piece (columns_of rows o 4)) = rw p at f in
      u
      ∙ ap (λ y. derived_of y (piece_duration piece (columns_of rows o 4))) e
      ∙ derived_known (fold (timed_at rows k piece) start (row_count rows)) (piece_duration piece (columns_of rows o 4))
      ∙ ap within (derived_is acc k o piece l h z w)
