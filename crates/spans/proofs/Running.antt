-- When an activity runs, as a search and a loop over places. Assumes nothing.
use Prim.Native.Nat.{ℕ, zero, suc}
use mathlib.Core.Path.{◌≡◌, refl, ap, sym, ◌∙◌}
use mathlib.Core.Bool.{Bool, true, false, cond, ◌&&◌}
use mathlib.Core.List.{List, [], ◌∷◌, ◌++◌, map, foldl}
use Rattle.std.specs.Prelude.{Option, None, Some}
use lib.Dec.{eqb}
use lib.IntN.{ℤ, pos}
use Rattle.loops.specs.Lists.{given, keep, head}
use Rattle.loops.specs.Range.{fold, collect}
use Rattle.loops.specs.Search.{or_else, some_if, first, first_place}
use Rattle.loops.specs.inner.Chain.{only_at}
use Rattle.loops.proofs.ListLaws.{keep_collect, foldl_collect, head_collect}
use Rattle.loops.proofs.RangeLaws.{fold_ext}
use Rattle.calendar.specs.Clock.{clock}
use Rattle.rows.specs.Cells.{row_count, num, is}
use Rattle.sheet.specs.Places.{named, place_of}
use Rattle.model.specs.Sheet.{sheet}
use Rattle.model.specs.Schedule.{Assignment, TimeOnlySpan, assignment_at, assignments_below, assignments, assignments_for_activity_all, span_at, time_only_below, time_only, time_only_for_activity, later_of, latest, earlier_of, earliest}
use Rattle.model.proofs.RowLaws.{assignment_row, assignment_none, span_row, span_none}
use Rattle.definition.specs.ActivitySpan.{Span, span_from, activity_span}
use Rattle.spans.specs.inner.Activities.{widened, widen_by}

-- ---- one loop for the earliest start and the latest end

grow : Option (Span ℤ) → Assignment ℤ → Option (Span ℤ)
grow x a = widened x a.start a.end

grown : (l : List (Assignment ℤ)) (a e : ℤ)
    → foldl grow (Some (record { start = a; end = e })) l
    ≡ span_from (foldl (earlier_of clock) (Some a) (map (λ x. x.start) l)) (foldl (later_of clock) (Some e) (map (λ x. x.end) l))
unfolding grow
grown [] a e = refl
grown (x ∷ l) a e = grown l (cond (clock.before x.start a) x.start a) (cond (clock.before e x.end) x.end e)

grown_all : (l : List (Assignment ℤ)) → foldl grow None l ≡ span_from (earliest clock (map (λ x. x.start) l)) (latest clock (map (λ x. x.end) l))
unfolding grow earliest latest
grown_all [] = refl
grown_all (x ∷ l) = grown l x.start x.end

module _ (rows : List ℤ) (id : ℕ) where
  kept : (b : Bool) (x : Option (Span ℤ)) (a : Assignment ℤ) → foldl grow x (given b a ++ []) ≡ cond b (widened x a.start a.end) x
  unfolding grow
  kept true x a = refl
  kept false x a = refl

  at_row : (x : Option (Span ℤ)) (k : ℕ)
      → foldl grow x (keep (λ a. eqb a.activity id) (assignment_at (sheet rows) k)) ≡ only_at (named rows 23 id) (widen_by rows) x k
  unfolding keep only_at named is
  at_row x k = go (is rows k 0 23) refl
    where
      go : (b : Bool) → is rows k 0 23 ≡ b
          → foldl grow x (keep (λ a. eqb a.activity id) (assignment_at (sheet rows) k)) ≡ cond (is rows k 0 23 && is rows k 1 id) (widen_by rows x k) x
      go true h = rw (h, assignment_row rows k h) (kept (eqb (num rows k 1) id) x _)
      go false h = rw (h, assignment_none rows k h)

  booked : fold (only_at (named rows 23 id) (widen_by rows)) None (row_count rows)
      ≡ span_from
      (earliest clock (map (λ a. a.start) (assignments_for_activity_all (sheet rows) id)))
      (latest clock (map (λ a. a.end) (assignments_for_activity_all (sheet rows) id)))
  unfolding assignments_for_activity_all assignments assignments_below
  booked =
      sym (fold_ext _ _ None (row_count rows) at_row)
      ∙ sym (foldl_collect grow None _ (row_count rows))
      ∙ ap (foldl grow None) (sym (keep_collect _ (assignment_at (sheet rows)) (row_count rows)))
      ∙ grown_all (keep (λ a. eqb a.activity id) (collect (assignment_at (sheet rows)) (row_count rows)))

  -- ---- the first time-only span

  -- a time-only span by its row
  timed : ℕ → TimeOnlySpan ℤ
  timed k = record { activity = num rows k 1; task = num rows k 2; start = pos (num rows k 3); end = pos (num rows k 4) }

  at_most : Option ℕ → Option (TimeOnlySpan ℤ)
  at_most None = None
  at_most (Some k) = Some (timed k)

  timed_at_lem : (k : ℕ) → head (keep (λ a. eqb a.activity id) (span_at (sheet rows) k)) ≡ at_most (some_if (named rows 24 id k) k)
  unfolding keep named is at_most timed
  timed_at_lem k = go (is rows k 0 24) refl
    where
      one : (b : Bool) → head (given b (timed k) ++ []) ≡ at_most (some_if b k)
      one true = refl
      one false = refl

      go : (b : Bool) → is rows k 0 24 ≡ b
          → head (keep (λ a. eqb a.activity id) (span_at (sheet rows) k)) ≡ at_most (some_if (is rows k 0 24 && is rows k 1 id) k)
      go true h = rw (h, span_row rows k h) (one (eqb (num rows k 1) id))
      go false h = rw (h, span_none rows k h)

  or_most : (x y : Option ℕ) → or_else (at_most x) (at_most y) ≡ at_most (or_else x y)
  unfolding at_most
  or_most None y = refl
  or_most (Some k) y = refl

  first_most : (n : ℕ) → first (λ k. head (keep (λ a. eqb a.activity id) (span_at (sheet rows) k))) n ≡ at_most (first_place (named rows 24 id) n)
  unfolding first first_place at_most
  first_most zero = refl
  first_most (suc n) = rw (first_most n, timed_at_lem n) (or_most (first_place (named rows 24 id) n) (some_if (named rows 24 id n) n))

  timed_only : time_only_for_activity (sheet rows) id ≡ at_most (place_of rows 24 id)
  unfolding time_only_for_activity time_only time_only_below place_of
  timed_only =
      ap head (keep_collect _ (span_at (sheet rows)) (row_count rows))
      ∙ head_collect _ (row_count rows)
      ∙ first_most (row_count rows)

  -- by what the lookup of such a span answered
  module _ {f : Option ℕ} (h : f ≡ place_of rows 24 id) where
    pub runs_booked : {x : Option (Span ℤ)} → f ≡ None → x ≡ fold (only_at (named rows 23 id) (widen_by rows)) None (row_count rows)
        → x ≡ activity_span clock (sheet rows) id
    unfolding activity_span at_most
    runs_booked g q = rw (timed_only, ← h, g) (q ∙ booked)

    pub runs_timed : {k a e : ℕ} → f ≡ Some k → a ≡ num rows k 3 → e ≡ num rows k 4
        → Some (record { start = pos a; end = pos e }) ≡ activity_span clock (sheet rows) id
    unfolding activity_span at_most timed
    runs_timed g p q = rw (timed_only, ← h, g, p, q)
