-- Known spans and the activities that they are of, by rows. Assumes nothing.
use Prim.Native.Nat.{ℕ}
use mathlib.Core.Path.{◌≡◌, refl, ap, sym, ◌∙◌}
use mathlib.Core.Bool.{Bool, true, false, cond, not, ◌&&◌, ◌||◌, or-false}
use mathlib.Core.List.{List}
use mathlib.Core.Logic.{inl}
use Rattle.std.specs.Prelude.{Option, None, Some}
use native.Mathlib.Decide.{ℕ_discrete}
use borrow.Author.Tests.{eq-eqb, ne_eqb}
use lib.Dec.{eqb}
use lib.IntN.{ℤ}
use Rattle.loops.specs.Lists.{any_of, is_empty, is_some, option}
use Rattle.loops.specs.Search.{any_below}
use Rattle.loops.proofs.ListLaws.{any_collect}
use Rattle.loops.proofs.RangeLaws.{collect_ext}
use Rattle.loops.proofs.PlaceLaws.{any_same}
use Rattle.loops.proofs.NumberLaws.{eqb_swap}
use Rattle.loops.proofs.OrderedLaws.{none_some}
use Rattle.chains.specs.Places.{places}
use Rattle.chains.proofs.PlaceLaws.{any_places}
use Rattle.rows.specs.Cells.{row_count, num, is}
use Rattle.sheet.specs.Places.{place_of}
use Rattle.owners.specs.inner.Owners.{owner_kind, owned_by}
use Rattle.model.specs.Sheet.{sheet}
use Rattle.model.specs.Activity.{requirements}
use Rattle.model.specs.Schedule.{span_at, time_only_below}
use Rattle.model.specs.inner.Records.{activity_of, requirement_of, span_of}
use Rattle.model.proofs.RowLaws.{span_row, span_none}
use Rattle.model.proofs.OwnedLaws.{of_activity}
use Rattle.model.proofs.Finds.{find_activity_lem, found_self}
use Rattle.model.proofs.Requiring.{requirement_by, none_given}
use Rattle.window_rows.specs.inner.Laid.{Holder}
use Rattle.definition.specs.CheckTimeOnly.{known, seen}
use Rattle.check2_time_only.specs.inner.Known.{known_row}

-- an activity holds windows of kind 16
pub own_windows : (rows : List ℤ) (id a : ℕ) → place_of rows 2 id ≡ Some a → Holder rows a 16
own_windows rows id a q = inl (refl, found_self rows 2 id a q)

-- ---- an activity that holds no resource

module _ (rows : List ℤ) (a : ℕ) (q : place_of rows 2 (num rows a 1) ≡ Some a) where
  none_required : is_empty (requirements (sheet rows) (num rows a 1)) ≡ not (any_below (owned_by rows a 5) (row_count rows))
  unfolding requirements
  none_required =
      ap is_empty (collect_ext _ _ (row_count rows) (λ k l. requirement_by rows a q k))
      ∙ none_given (owned_by rows a 5) (requirement_of rows) (row_count rows)

  pub free_told : {b : Bool} → b ≡ any_below (owned_by rows a 5) (row_count rows) → not b ≡ is_empty (requirements (sheet rows) (num rows a 1))
  free_told e = ap not e ∙ sym none_required

-- ---- the activity of a span

module _ (rows : List ℤ) (k : ℕ) where
  -- it is the activity of the definition
  pub known_is : known (sheet rows) (span_of rows k) ≡ option (known_row rows k) None (λ a. Some (activity_of rows a))
  unfolding known known_row is
  known_is = rw (find_activity_lem rows (num rows k 1)) (go (place_of rows 2 (num rows k 1)))
    where
      one : (a : ℕ) (b : Bool) → cond b (Some (activity_of rows a)) None ≡ option (cond b (Some a) None) None (λ j. Some (activity_of rows j))
      one a true = refl
      one a false = refl

      go : (x : Option ℕ)
          → option (option x None (λ a. Some (activity_of rows a))) None
          (λ a. cond (is_empty (requirements (sheet rows) a.id) && eqb a.task (num rows k 2)) (Some a) None)
          ≡ option
          (option x None (λ a. cond (is_empty (requirements (sheet rows) (num rows a 1)) && eqb (num rows a 2) (num rows k 2)) (Some a) None))
          None
          (λ a. Some (activity_of rows a))
      go None = refl
      go (Some a) = one a (is_empty (requirements (sheet rows) (num rows a 1)) && eqb (num rows a 2) (num rows k 2))

  module _ (a : ℕ) (e : known_row rows k ≡ Some a) where
    -- it is the row that the lookup of the span's activity finds, and holds no resource
    known_both : (place_of rows 2 (num rows k 1) ≡ Some a) × (is_empty (requirements (sheet rows) (num rows a 1)) ≡ true)
    unfolding known_row
    known_both = go (place_of rows 2 (num rows k 1)) e
      where
        one : (j : ℕ) (b c : Bool) → cond (b && c) (Some j) None ≡ Some a → is_empty (requirements (sheet rows) (num rows j 1)) ≡ b
            → (Some j ≡ Some a) × (is_empty (requirements (sheet rows) (num rows a 1)) ≡ true)
        one j true true w v = (w, let x : j ≡ a = cc in rw (← x) v)
        one j true false w v = absurd (none_some w)
        one j false c w v = absurd (none_some w)

        go : (x : Option ℕ)
            → option x None (λ j. cond (is_empty (requirements (sheet rows) (num rows j 1)) && is rows j 2 (num rows k 2)) (Some j) None) ≡ Some a
            → (x ≡ Some a) × (is_empty (requirements (sheet rows) (num rows a 1)) ≡ true)
        go None w = absurd (none_some w)
        go (Some j) w = one j (is_empty (requirements (sheet rows) (num rows j 1))) (is rows j 2 (num rows k 2)) w refl

    pub known_place : place_of rows 2 (num rows k 1) ≡ Some a
    known_place = known_both.0

    pub known_free : is_empty (requirements (sheet rows) (num rows a 1)) ≡ true
    known_free = known_both.1

    pub known_self : place_of rows 2 (num rows a 1) ≡ Some a
    known_self = found_self rows 2 (num rows k 1) a known_place

-- ---- spans of an activity that holds no resource

module _ (rows : List ℤ) (a : ℕ) where
  -- row k is a span of the activity of row a and of its task
  unfoldable pub spanned : ℕ → Bool
  spanned k = owned_by rows a 24 k && is rows k 2 (num rows a 2)

  module _ (q : place_of rows 2 (num rows a 1) ≡ Some a) (w : is_empty (requirements (sheet rows) (num rows a 1)) ≡ true) where
    some_known : (b : Bool) → is_some (cond b (Some (activity_of rows a)) None) ≡ b
    some_known true = refl
    some_known false = refl

    of_span : (k : ℕ) → num rows k 1 ≡ num rows a 1 → is_some (known (sheet rows) (span_of rows k)) ≡ eqb (num rows k 2) (num rows a 2)
    unfolding known
    of_span k e =
        rw (find_activity_lem rows (num rows k 1), e, q, w) (some_known (eqb (num rows a 2) (num rows k 2)) ∙ eqb_swap (num rows a 2) (num rows k 2))

    seen_at : (k : ℕ) → any_of (λ x. eqb x.activity (num rows a 1) && is_some (known (sheet rows) x)) (span_at (sheet rows) k) ≡ spanned k
    unfolding any_of spanned is
    seen_at k = rw (of_activity rows 24 a (num rows a 1) (unfold owner_kind in refl) q k) (go (is rows k 0 24) refl)
      where
        both : Dec (num rows k 1 ≡ num rows a 1)
            → ((eqb (num rows k 1) (num rows a 1) && is_some (known (sheet rows) (span_of rows k))) || false)
            ≡ (eqb (num rows k 1) (num rows a 1) && eqb (num rows k 2) (num rows a 2))
        both (yes e) = rw (eq-eqb (num rows k 1) (num rows a 1) e, of_span k e) (or-false (eqb (num rows k 2) (num rows a 2)))
        both (no e) = rw (ne_eqb (num rows k 1) (num rows a 1) e)

        go : (b : Bool) → is rows k 0 24 ≡ b
            → any_of (λ x. eqb x.activity (num rows a 1) && is_some (known (sheet rows) x)) (span_at (sheet rows) k)
            ≡ ((is rows k 0 24 && is rows k 1 (num rows a 1)) && is rows k 2 (num rows a 2))
        go true h = rw (h, span_row rows k h) (both (ℕ_discrete (num rows k 1) (num rows a 1)))
        go false h = rw (h, span_none rows k h)

    seen_are : (k : ℕ) → any_below spanned k ≡ seen (sheet rows) (time_only_below (sheet rows) k) (num rows a 1)
    unfolding seen time_only_below
    seen_are k =
        sym
        (any_collect (λ x. eqb x.activity (num rows a 1) && is_some (known (sheet rows) x)) (span_at (sheet rows)) k
        ∙ any_same _ _ k (λ j l. seen_at j))

    -- one of them is above row k
    pub seen_any : (k : ℕ) {l : List ℕ} → l ≡ places (owned_by rows a 24) k → any_of (λ i. is rows i 2 (num rows a 2)) l ≡ seen (sheet rows) (time_only_below (sheet rows) k) (num rows a 1)
    unfolding spanned
    seen_any k e = rw e (any_places (owned_by rows a 24) (λ i. is rows i 2 (num rows a 2)) k ∙ seen_are k)
