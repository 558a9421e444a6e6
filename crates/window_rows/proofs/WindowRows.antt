-- The windows of a sheet, row by row: those of a row's kind that name an id. Assumes nothing.
use Prim.Native.Nat.{ℕ, ◌+◌, ◌<◌, ◌≤◌}
use mathlib.Core.Path.{◌≡◌, refl, sym, ◌∙◌}
use mathlib.Core.Bool.{Bool, true, false, cond, ◌&&◌, true≢false}
use mathlib.Core.List.{List, [], ◌∷◌}
use Rattle.std.specs.Prelude.{None}
use native.Mathlib.Omega.{arith}
use borrow.Author.Tests.{eqb-true}
use lib.Dec.{eqb}
use lib.IntN.{ℤ}
use lib.ListN.{length}
use Rattle.calendar.specs.declared.TimeWindow.{TimeWindow}
use Rattle.loops.specs.Lists.{given}
use Rattle.loops.specs.Range.{collect}
use Rattle.loops.specs.Search.{count_below}
use Rattle.loops.proofs.BoolLaws.{and_left, and_right}
use Rattle.loops.proofs.RangeLaws.{collect_ext}
use Rattle.loops.proofs.PartLaws.{collect_nothing}
use Rattle.loops.proofs.SearchLaws.{count_le}
use Rattle.calendar.specs.declared.WindowKind.{WindowKind}
use Rattle.calendar.specs.Calendar.{Window, Calendar, kind_of}
use Rattle.calendar.specs.Layout.{window_of}
use Rattle.rows.specs.declared.Class.TheVariants.{ResourceId}
use Rattle.rows.specs.Cells.{row_count, num, is}
use Rattle.sheet.specs.inner.Accepted.{Accepted}
use Rattle.sheet.specs.Places.{place_of}
use Rattle.sheet.specs.Refusals.{lacks}
use Rattle.sheet.proofs.Lookups.{is_num}
use Rattle.owners.specs.inner.Owners.{owned_by}
use Rattle.model.specs.Sheet.{sheet, with2, row_at}
use Rattle.model.specs.inner.Records.{num_at, time_at}
use Rattle.model.specs.Resource.{windows}
use Rattle.model.proofs.RowLaws.{row_none, row_here}
use Rattle.model.proofs.Accepting.{has_owner}
use Rattle.window_rows.specs.inner.Laid.{window_here}

module _ (rows : List ℤ) where
  -- row k as a window
  abbrev pub window_row : ℕ → Window ℤ
  window_row k = window_of (window_here rows k)

  pub window_is : (k : ℕ) {a : WindowKind} {n b c : ℕ} → n ≡ num rows k 2 → a ≡ kind_of n → b ≡ num rows k 3 → c ≡ num rows k 4
      → record { kind = a; start = b; end = c } ≡ window_here rows k
  window_is k p u q r = rw (u, p, q, r)

  -- the window of row k, if it is of kind x and names that id
  abbrev pub window_naming : ℕ → ℕ → ℕ → Calendar ℤ
  window_naming x id k = given (is rows k 0 x && is rows k 1 id) (window_row k)

  -- what the definition makes of row k
  abbrev window_if : ℕ → ℕ → Calendar ℤ
  window_if id k =
      cond (eqb (num_at (sheet rows) k 1) id)
      (with2 (time_at (sheet rows) k 3) (time_at (sheet rows) k 4) λ a e. record { kind = kind_of (num_at (sheet rows) k 2); start = a; end = e })
      []

  pick : (b : Bool) (y : Window ℤ) → cond b (y ∷ []) [] ≡ given b y
  pick true y = refl
  pick false y = refl

  module _ (x id : ℕ) (here : (k : ℕ) → is rows k 0 x ≡ true → window_if id k ≡ given (eqb (num rows k 1) id) (window_row k)) where
    at_row : (k : ℕ) → row_at (sheet rows) x (window_if id) k ≡ window_naming x id k
    unfolding is
    at_row k = go (is rows k 0 x) refl
      where
        go : (b : Bool) → is rows k 0 x ≡ b → row_at (sheet rows) x (window_if id) k ≡ window_naming x id k
        go true h = row_here rows k x (window_if id) h ∙ here k h ∙ (rw h)
        go false h = row_none rows k x (window_if id) h ∙ (rw h)

    all_rows : windows (sheet rows) x id ≡ collect (window_naming x id) (row_count rows)
    unfolding windows
    all_rows = collect_ext _ _ (row_count rows) (λ k l. at_row k)

  pub resource_windows : (id : ℕ) → windows (sheet rows) 15 id ≡ collect (window_naming 15 id) (row_count rows)
  resource_windows id = all_rows 15 id (λ k h. rw (is_num rows k 0 15 h) (pick (eqb (num rows k 1) id) (window_row k)))

  pub activity_windows : (id : ℕ) → windows (sheet rows) 16 id ≡ collect (window_naming 16 id) (row_count rows)
  activity_windows id = all_rows 16 id (λ k h. rw (is_num rows k 0 16 h) (pick (eqb (num rows k 1) id) (window_row k)))

  -- a resource that is not in the sheet has no windows
  module _ (acc : Accepted rows) (id : ℕ) (q : place_of rows 11 id ≡ None) where
    absent : (k : ℕ) → is rows k 1 id ≡ true → lacks ResourceId rows k 1 ≡ true
    unfolding lacks is
    absent k e = rw (eqb-true (num rows k 1) id e, q)

    unnamed : (k : ℕ) → k < row_count rows → window_naming 15 id k ≡ []
    unnamed k l = go (is rows k 0 15 && is rows k 1 id) refl
      where
        go : (b : Bool) → (is rows k 0 15 && is rows k 1 id) ≡ b → given b (window_row k) ≡ []
        go true e =
            absurd
            (true≢false
            (sym (absent k (and_right (is rows k 0 15) (is rows k 1 id) e)) ∙ has_owner rows acc k 15 1 l (and_left (is rows k 0 15) (is rows k 1 id) e)))
        go false e = refl

    pub windows_none : windows (sheet rows) 15 id ≡ []
    windows_none =
        resource_windows id ∙ collect_ext (window_naming 15 id) (λ k. []) (row_count rows) unnamed ∙ collect_nothing (λ k. []) (λ k. refl) (row_count rows)

  -- there is room for all the windows of a row in an empty list
  pub all_fit : (o x : ℕ) (l : List TimeWindow) → l ≡ [] → row_count rows ≤ 800 → length l + count_below (owned_by rows o x) (row_count rows) ≤ 800
  all_fit o x l e m = rw e (omega (arith, count_le (owned_by rows o x) (row_count rows)))
