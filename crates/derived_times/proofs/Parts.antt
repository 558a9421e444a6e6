-- What a booking's piece is judged as, and how large the amounts of rows are. Assumes nothing.
use Prim.Native.Nat.{ℕ, ◌+◌, ◌<◌, ◌≤◌}
use mathlib.Core.Path.{◌≡◌, refl, sym, ap, ap₂, ◌∙◌}
use mathlib.Core.Bool.{Bool, beq, true, false, cond, ◌||◌, true≢false}
use mathlib.Core.List.{List}
use Rattle.std.specs.Prelude.{Option, None, Some}
use native.Mathlib.Omega.{arith}
use lib.IntN.{ℤ}
use lib.ListN.{get_or, set, replicate}
use lib.Ieee.{binary64, of_bits}
use Rattle.loops.specs.Lists.{option}
use Rattle.loops.specs.Search.{first_place}
use Rattle.loops.proofs.StoreLaws.{Filled, filled_turn}
use Rattle.loops.proofs.BoolLaws.{or_right}
use Rattle.loops.proofs.PlaceLaws.{found_at, place_same}
use Rattle.rows.specs.Cells.{row_count, cell, num, is}
use Rattle.rows.specs.Ranges.{is_none}
use Rattle.sheet.specs.Places.{named, place_of}
use Rattle.sheet.specs.inner.Index.{or_end, stored_place}
use Rattle.sheet.specs.inner.Kept.{IsRow}
use Rattle.sheet.specs.inner.Accepted.{Accepted}
use Rattle.sheet.specs.Refusals.{lacks}
use Rattle.sheet.proofs.Lookups.{is_num, placed, place_kind}
use Rattle.sheet.proofs.Keeping.{Keeping, keeping_start, keeping_turn, keeping_end, kept_at}
use Rattle.owners.specs.declared.Owner.TheVariants.{ActivityRow}
use Rattle.owners.specs.inner.Owners.{owner_kind, owned_by}
use Rattle.resource_timing.specs.declared.ResourceTiming.TheVariants.{Speed, Duration}
use Rattle.resource_timing.specs.declared.Piece.TheVariants.{Whole, InPart}
use Rattle.resource_timing.specs.Durations.{part_of}
use Rattle.resource_timing.specs.inner.Limits.{TimingAmounts}
use Rattle.model.specs.Sheet.{sheet}
use Rattle.model.specs.Activity.{split, piece_of}
use Rattle.model.specs.inner.Records.{activity_of}
use Rattle.model.proofs.Accepting.{at_most, has_owner}
use Rattle.model.proofs.OwnedLaws.{of_activity}
use Rattle.pieces.specs.inner.Bookings.{names}
use Rattle.pieces.proofs.Chains.{names_kind, place_never, unnamed}
use Rattle.pieces.proofs.Companions.{both_parts}
use Rattle.derived_times.specs.inner.Rows.{columns_of, part_at, timed_by, timing_of, timing_place, earlier_of, Timings}
use Rattle.derived_times.specs.inner.Needs.{rest_at, Times}
use Rattle.derived_times.proofs.Finds.{split_of, split_is, earlier_is}

pub kind_9 : owner_kind 9 ≡ Some ActivityRow
kind_9 = unfold owner_kind in refl

pub kind_10 : owner_kind 10 ≡ Some ActivityRow
kind_10 = unfold owner_kind in refl

-- ---- what is found

module _ (rows : List ℤ) where
  -- ---- the split's row

  split_place : (x o : ℕ) → place_of rows 2 x ≡ Some o → first_place (owned_by rows o 4) (row_count rows) ≡ place_of rows 4 x
  unfolding place_of
  split_place x o e =
      place_same (owned_by rows o 4) (named rows 4 x) (row_count rows) (λ k l. of_activity rows 4 o x (unfold owner_kind in refl) (unfold place_of in e) k ∙ unfold named in refl)

  -- ---- the part

  pub part_none : (k : ℕ) → is rows k 0 23 ≡ true → is_none (cell rows k 7) ≡ true → part_at rows k ≡ None
  part_none k h e = rw (is_num rows k 0 23 h, e)

  both : (a b : Bool) → beq a b ≡ true → a ≡ false → b ≡ false
  both true b e f = absurd (true≢false f)
  both false true e f = absurd (true≢false (sym e))
  both false false e f = refl

  pub part_some : Accepted rows → (k : ℕ) → k < row_count rows → is rows k 0 23 ≡ true → is_none (cell rows k 7) ≡ false
      → part_at rows k ≡ Some (record { index = cell rows k 7; work = num rows k 8 })
  part_some acc k l h e =
      let f : is_none (cell rows k 8) ≡ false = both (is_none (cell rows k 7)) (is_none (cell rows k 8)) (both_parts rows acc k l h) e in
      rw (is_num rows k 0 23 h, e, f)

  -- ---- the piece

  module _ (k o : ℕ) (h : is rows k 0 23 ≡ true) (e : place_of rows 2 (num rows k 1) ≡ Some o) where
    pub piece_whole : is_none (cell rows k 7) ≡ true → Whole ≡ piece_of (sheet rows) (activity_of rows o) (part_at rows k)
    unfolding piece_of
    piece_whole f = rw (part_none k h f)

    split_at_lem : (x : Option ℕ) → place_of rows 4 (num rows k 1) ≡ x → split (sheet rows) (num rows o 1) ≡ option x None (λ i. Some (split_of rows i))
    split_at_lem x f = ap (split (sheet rows)) (placed rows 2 (num rows k 1) o e).id_is ∙ split_is rows (num rows k 1) ∙ ap (λ y. option y None (λ i. Some (split_of rows i))) f

    -- a part's times are amounts
    pub part_amounts : Accepted rows → (num rows k 8 ≤ 4000000000000) × (num rows o 5 ≤ 4000000000000)
    part_amounts acc = (at_most rows acc k 23 8 h, at_most rows acc o 2 5 (place_kind rows 2 (num rows k 1) e))

    module _ (acc : Accepted rows) (l : k < row_count rows) (f : is_none (cell rows k 7) ≡ false) where
      pub piece_unsplit : None ≡ first_place (owned_by rows o 4) (row_count rows) → Whole ≡ piece_of (sheet rows) (activity_of rows o) (part_at rows k)
      unfolding piece_of
      piece_unsplit q = rw (part_some acc k l h f, split_at_lem None (sym (q ∙ split_place (num rows k 1) o e)))

      pub piece_part : (i : ℕ) → Some i ≡ first_place (owned_by rows o 4) (row_count rows)
          → InPart (part_of (cell rows k 7) (num rows k 8) (num rows o 5) (num rows i 4)) ≡ piece_of (sheet rows) (activity_of rows o) (part_at rows k)
      unfolding piece_of
      piece_part i q = rw (part_some acc k l h f, split_at_lem (Some i) (sym (q ∙ split_place (num rows k 1) o e)))

  -- ---- amounts

  pub timing_amounts : Accepted rows → (a r i : ℕ) → timed_by rows a r i ≡ true → TimingAmounts (timing_of rows i)
  unfolding timing_of
  timing_amounts acc a r i e = go (is rows i 0 9) refl
    where
      go : (b : Bool) → is rows i 0 9 ≡ b → TimingAmounts (cond b (Speed (of_bits binary64 (num rows i 3))) (Duration (columns_of rows i 3)))
      go true h = tt
      go false h = at_most rows acc i 10 4 (names_kind rows 10 a r i (or_right (names rows 9 a r i) (names rows 10 a r i) (unfold timed_by in e) (unfold names in (rw h))))

  -- ---- a booking's timing

  pub timing_row : (j : ℕ) {x : Option ℕ} → is rows j 0 23 ≡ true → x ≡ timing_place rows j → first_place (timed_by rows (num rows j 1) (num rows j 3)) (row_count rows) ≡ x
  unfolding timing_place
  timing_row j h e = sym (rw h at e)

  pub row_amounts : Accepted rows → (j i : ℕ) → first_place (timed_by rows (num rows j 1) (num rows j 3)) (row_count rows) ≡ Some i → TimingAmounts (timing_of rows i)
  row_amounts acc j i e = timing_amounts acc (num rows j 1) (num rows j 3) i (found_at _ (row_count rows) i e).1

  -- ---- the row of a booking's timing, as it is found

  pub row_none : (k : ℕ) → is rows k 0 23 ≡ false → None ≡ timing_place rows k
  unfolding timing_place
  row_none k h = rw h

  -- an activity that is not in the sheet has no timings
  pub row_unknown : Accepted rows → (k : ℕ) → is rows k 0 23 ≡ true → place_of rows 2 (num rows k 1) ≡ None → None ≡ timing_place rows k
  unfolding timing_place timed_by
  row_unknown acc k h e =
      let p = sym e in
      rw h
      (sym (place_never _ (row_count rows) λ i l.
      ap₂ ◌||◌ (unnamed rows acc 9 2 (num rows k 1) (num rows k 3) (λ j m g. unfold lacks in (has_owner rows acc j 9 1 m g)) p i l)
      (unnamed rows acc 10 2 (num rows k 1) (num rows k 3) (λ j m g. unfold lacks in (has_owner rows acc j 10 1 m g)) p i l)))

  pub row_earlier : (k a b : ℕ) {r x y : Option ℕ} → is rows k 0 23 ≡ true → a ≡ num rows k 1 → b ≡ num rows k 3
      → x ≡ first_place (names rows 9 a b) (row_count rows) → y ≡ first_place (names rows 10 a b) (row_count rows) → r ≡ earlier_of x y → r ≡ timing_place rows k
  unfolding timing_place timed_by
  row_earlier k a b h p q e f g =
      g ∙ ap₂ earlier_of (rw (p, q) at e) (rw (p, q) at f) ∙ earlier_is (names rows 9 (num rows k 1) (num rows k 3)) (names rows 10 (num rows k 1) (num rows k 3)) (row_count rows) ∙ (rw h)

  -- ---- the table of them

  pub timing_is_row : (k : ℕ) → IsRow rows (timing_place rows k)
  unfolding timing_place
  timing_is_row k = record { within = λ i. go i (is rows k 0 23) }
    where
      go : (i : ℕ) (b : Bool) → cond b (first_place (timed_by rows (num rows k 1) (num rows k 3)) (row_count rows)) None ≡ Some i → i < row_count rows
      go i true e = (found_at _ (row_count rows) i e).0
      go i false e = let z : ◌≡◌ {A = ℕ} 0 1 = cc in absurd (omega arith)

  pub timing_found : (k : ℕ) {x : Option ℕ} → x ≡ timing_place rows k → IsRow rows x
  timing_found k e = rw e (timing_is_row k)

  pub timing_kept : (k : ℕ) (t : List ℕ) {x : Option ℕ} → Timings rows t → k < row_count rows → x ≡ stored_place rows (get_or t k 0) → x ≡ timing_place rows k
  timing_kept k t h l e = kept_at rows (timing_place rows) k t h l (timing_is_row k) e

  -- the rows below k have theirs
  pub record TimingsBelow (k : ℕ) (t : List ℕ) : Type 0 where
    pub kept : Keeping rows (timing_place rows) k t

  pub timings_start : TimingsBelow 0 (replicate 800 0)
  timings_start = record { kept = keeping_start rows (timing_place rows) }

  pub timings_turn : (k : ℕ) {n : ℕ} {x : Option ℕ} {t t' : List ℕ} → t' ≡ set t k (or_end rows x) → x ≡ timing_place rows k → TimingsBelow k t → k < n → n ≡ row_count rows
      → row_count rows ≤ 800 → TimingsBelow (k + 1) t'
  timings_turn k q e h l z s = record { kept = keeping_turn rows (timing_place rows) k (omega arith) e q h.kept }

  pub timings_end : (k n : ℕ) {t : List ℕ} → n ≤ k → k ≤ n → n ≡ row_count rows → row_count rows ≤ 800 → TimingsBelow k t → Timings rows t
  timings_end k n l u z s h = keeping_end rows (timing_place rows) k n l u z s h.kept

  pub times_next : (k v : ℕ) {n : ℕ} {t t' : List ℕ} → Filled (rest_at rows) k t → t' ≡ set t k v → v ≡ rest_at rows k → k < n → n ≡ row_count rows → row_count rows ≤ 800
      → Filled (rest_at rows) (k + 1) t'
  times_next k v {n} {t} {t'} h q e l z s = filled_turn (rest_at rows) k v t t' (omega arith) e q h

  pub times_end : (k n : ℕ) (t : List ℕ) → n ≤ k → k ≤ n → n ≡ row_count rows → row_count rows ≤ 800 → Filled (rest_at rows) k t → Times rows t
  times_end k n t l u z s h = record { short = s; at = λ j m. h.at j (omega arith); past = λ j m. h.rest j (omega arith) }
