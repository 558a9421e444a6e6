-- Derived times by row, and which are refused. Assumes nothing.
use Rattle.refusals.specs.Refusals.{at, verdict_of}
use Rattle.refusals.specs.declared.Refusal.{Refusal}
use Rattle.refusals.specs.declared.Reason.TheVariants.{Stretched}
use Prim.Native.Nat.{ℕ, ◌+◌, ◌^◌, ◌<◌, ◌≤◌}
use mathlib.Core.Path.{◌≡◌, refl, sym, ap, ◌∙◌}
use mathlib.Core.Bool.{Bool, true, false, cond, not, ◌||◌, true≢false, or-false}
use mathlib.Core.List.{List, [], ◌∷◌}
use Rattle.std.specs.Prelude.{Option, None, Some, Result, Ok, Err, OnOk}
use native.Mathlib.Omega.{arith}
use lib.Dec.{ltb, leb}
use lib.IntN.{ℤ}
use lib.ListN.{get_or}
use borrow.Author.Tests.{ltb-true, lt-leb, leb-false, le-leb}
use Rattle.std.proofs.lemmas.Option.{none-some, same_Some}
use Rattle.loops.specs.Lists.{any_of, head, option}
use Rattle.loops.specs.Search.{first}
use Rattle.loops.proofs.PlaceLaws.{first_none, if_none}
use Rattle.loops.proofs.SearchLaws.{first_hit, first_done}
use Rattle.rows.specs.Cells.{row_count, num, is}
use Rattle.sheet.specs.Places.{place_of}
use Rattle.resource_timing.specs.declared.ActivityDuration.{ActivityDuration}
use Rattle.resource_timing.specs.Durations.{total_ms}
use Rattle.resource_timing.specs.inner.Limits.{Derived, within}
use Rattle.rounding.specs.inner.Limited as limited
use Rattle.model.specs.Sheet.{sheet}
use Rattle.model.specs.Activity.{Activity, find_activity, duration_on, needed_ms}
use Rattle.model.specs.Schedule.{Assignment, assignment_at}
use Rattle.model.specs.inner.Records.{activity_of, assignment_of}
use Rattle.model.proofs.RowLaws.{assignment_row, assignment_none}
use Rattle.model.proofs.Finds.{find_activity_lem}
use Rattle.definition.specs.Pieces.{runs_on}
use Rattle.derived_times.specs.Times.{too_large, derived, is_too_large, time_fault, time_refusal}
use Rattle.derived_times.specs.inner.Needs.{rest_ms, derived_at, rest_at, Times, Needs}

-- ---- one derived time

most : (e : Option ActivityDuration) → rest_ms (within e) ≤ 9007199254740992
unfolding within
most None = omega arith
most (Some d) = go (ltb (total_ms d) (2 ^ 53)) refl
  where
    go : (b : Bool) → ltb (total_ms d) (2 ^ 53) ≡ b → rest_ms (cond b (Ok d) limited.too_large) ≤ 9007199254740992
    go true h = let l : total_ms d < 9007199254740992 = ltb-true (total_ms d) 9007199254740992 h in omega arith
    go false h = omega arith

large_is : (e : Option ActivityDuration) → leb 9007199254740992 (rest_ms (within e)) ≡ too_large e
unfolding within
large_is None = le-leb 9007199254740992 9007199254740992 (omega arith)
large_is (Some d) = go (ltb (total_ms d) (2 ^ 53)) refl
  where
    go : (b : Bool) → ltb (total_ms d) (2 ^ 53) ≡ b → leb 9007199254740992 (rest_ms (cond b (Ok d) limited.too_large)) ≡ not b
    go true h = let l : total_ms d < 9007199254740992 = ltb-true (total_ms d) 9007199254740992 h in lt-leb 9007199254740992 (d.process_ms + d.teardown_ms) (omega arith)
    go false h = le-leb 9007199254740992 9007199254740992 (omega arith)

-- ---- a row

module _ (rows : List ℤ) where
  pub derived_none : (k : ℕ) → is rows k 0 23 ≡ false → None ≡ derived_at rows k
  unfolding derived_at
  derived_none k h = rw (assignment_none rows k h)

  pub derived_unknown : (k : ℕ) → is rows k 0 23 ≡ true → place_of rows 2 (num rows k 1) ≡ None → None ≡ derived_at rows k
  unfolding derived_at
  derived_unknown k h e = rw (assignment_row rows k h, find_activity_lem rows (num rows k 1), e)

  pub derived_known : (k o : ℕ) {d : Derived} → d ≡ within (derived (sheet rows) (assignment_of rows k) (activity_of rows o)) → is rows k 0 23 ≡ true
      → place_of rows 2 (num rows k 1) ≡ Some o → Some d ≡ derived_at rows k
  unfolding derived_at
  derived_known k o q h e = ap Some q ∙ rw (assignment_row rows k h, find_activity_lem rows (num rows k 1), e)

  -- each derived time is one whose rest is within the table's numbers
  pub derived_most : (k : ℕ) {d : Derived} → Some d ≡ derived_at rows k → rest_ms d ≤ 9007199254740992
  unfolding derived_at
  derived_most k {d} h = go (head (assignment_at (sheet rows) k)) h
    where
      known : (b : Assignment ℤ) (x : Option (Activity ℤ)) → Some d ≡ option x None (λ a. Some (within (derived (sheet rows) b a))) → rest_ms d ≤ 9007199254740992
      known b None e = absurd (none-some _ (sym e))
      known b (Some a) e = rw (same_Some d (within (derived (sheet rows) b a)) e) (most (derived (sheet rows) b a))

      go : (x : Option (Assignment ℤ)) → Some d ≡ option x None (λ b. option (find_activity (sheet rows) b.activity) None (λ a. Some (within (derived (sheet rows) b a)))) → rest_ms d ≤ 9007199254740992
      go None e = absurd (none-some _ (sym e))
      go (Some b) e = known b (find_activity (sheet rows) b.activity) e

  too_large_lem : (k : ℕ) → leb 9007199254740992 (rest_at rows k) ≡ any_of (is_too_large (sheet rows)) (assignment_at (sheet rows) k)
  too_large_lem k = go (is rows k 0 23) refl
    where
      go : (b : Bool) → is rows k 0 23 ≡ b → leb 9007199254740992 (rest_at rows k) ≡ any_of (is_too_large (sheet rows)) (assignment_at (sheet rows) k)
      go false h = unfold rest_at derived_at any_of in (rw (assignment_none rows k h) (lt-leb 9007199254740992 0 (omega arith)))
      go true h = unfold rest_at derived_at any_of is_too_large in (rw (assignment_row rows k h) (known (find_activity (sheet rows) (num rows k 1))))
        where
          known : (x : Option (Activity ℤ))
              → leb 9007199254740992 (option (option x None (λ a. Some (within (derived (sheet rows) (assignment_of rows k) a)))) 0 rest_ms)
              ≡ (option x false (λ a. too_large (derived (sheet rows) (assignment_of rows k) a)) || false)
          known None = lt-leb 9007199254740992 0 (omega arith)
          known (Some a) = large_is (derived (sheet rows) (assignment_of rows k) a) ∙ sym (or-false (too_large (derived (sheet rows) (assignment_of rows k) a)))

  pub large_here : (k : ℕ) {need : List ℕ} → Times rows need → k < row_count rows → leb 9007199254740992 (get_or need k 0) ≡ any_of (is_too_large (sheet rows)) (assignment_at (sheet rows) k)
  large_here k t l = ap (leb 9007199254740992) (t.at k l) ∙ too_large_lem k

  -- ---- the search

  pub fault_none : (k : ℕ) {b : Bool} → b ≡ any_of (is_too_large (sheet rows)) (assignment_at (sheet rows) k) → b ≡ false → time_fault rows k ≡ None
  unfolding time_fault
  fault_none k e f = rw (sym e ∙ f)

  pub fault_some : (k : ℕ) {b : Bool} → b ≡ any_of (is_too_large (sheet rows)) (assignment_at (sheet rows) k) → b ≡ true → time_fault rows k ≡ Some (at Stretched k)
  unfolding time_fault
  fault_some k e f = rw (sym e ∙ f)

  pub refused_at : (k n : ℕ) → k < n → n ≡ row_count rows → first (time_fault rows) k ≡ None → time_fault rows k ≡ Some (at Stretched k)
      → Some (at Stretched k) ≡ time_refusal rows
  unfolding time_refusal
  refused_at k n l z e f = sym (first_hit (time_fault rows) k (row_count rows) (omega arith) e f)

  pub not_refused : (k n : ℕ) → k ≤ n → n ≤ k → n ≡ row_count rows → first (time_fault rows) k ≡ None → None ≡ time_refusal rows
  unfolding time_refusal
  not_refused k n l m z e = first_done (time_fault rows) k n (row_count rows) l m z e

  -- ---- what a sheet that is not refused has

  all_within : time_refusal rows ≡ None → (k : ℕ) → k < row_count rows → any_of (is_too_large (sheet rows)) (assignment_at (sheet rows) k) ≡ false
  unfolding time_refusal time_fault
  all_within e k l = if_none (any_of (is_too_large (sheet rows)) (assignment_at (sheet rows) k)) _ (first_none (time_fault rows) (row_count rows) e k l)

  needed : (e : Option ActivityDuration) (setup : ℕ) → too_large e ≡ false → option e 0 (λ d. setup + d.process_ms + d.teardown_ms) ≡ setup + rest_ms (within e)
  unfolding within
  needed None setup f = absurd (true≢false f)
  needed (Some d) setup f = go (ltb (total_ms d) (2 ^ 53)) f
    where
      go : (b : Bool) → not b ≡ false → setup + d.process_ms + d.teardown_ms ≡ setup + rest_ms (cond b (Ok d) limited.too_large)
      go true f = omega arith
      go false f = absurd (true≢false f)

  module _ (k : ℕ) (b : Assignment ℤ) (a : Activity ℤ) (p : assignment_at (sheet rows) k ≡ b ∷ []) (q : find_activity (sheet rows) b.activity ≡ Some a) where
    large_at : any_of (is_too_large (sheet rows)) (assignment_at (sheet rows) k) ≡ (too_large (derived (sheet rows) b a) || false)
    unfolding any_of is_too_large
    large_at = rw (p, q)

    rest_at_lem : rest_at rows k ≡ rest_ms (within (derived (sheet rows) b a))
    unfolding rest_at derived_at
    rest_at_lem = rw (p, q)

    needed_at : too_large (derived (sheet rows) b a) ≡ false → needed_ms (sheet rows) a b (runs_on (sheet rows) b) ≡ b.setup + rest_ms (within (derived (sheet rows) b a))
    unfolding needed_ms derived
    needed_at f = needed (duration_on (sheet rows) a b.part (runs_on (sheet rows) b)) b.setup f

  -- the times are those that checks 1 and 6 are defined by
  pub needs_of : (need : List ℕ) → Times rows need → time_refusal rows ≡ None → Needs rows need
  needs_of need t e = record {
    short = t.short;
    at = λ k b a l p q.
        needed_at k b a p q (sym (or-false (too_large (derived (sheet rows) b a))) ∙ sym (large_at k b a p q) ∙ all_within e k l)
        ∙ ap (λ x. b.setup + x) (sym (t.at k l ∙ rest_at_lem k b a p q));
    small = λ k l. let z = leb-false 9007199254740992 (get_or need k 0) (large_here k t l ∙ all_within e k l) in omega arith;
    past = t.past;
  }

  pub needs_passed : {need : List ℕ} (v : Result Unit Refusal) → Times rows need → verdict_of v ≡ time_refusal rows → OnOk v (Needs rows need)
  needs_passed {need = need} (Ok u) t q = needs_of need t (sym q)
  needs_passed (Err e) t q = tt

-- ---- what a booking needs besides its own setup

module _ (rows : List ℤ) {need : List ℕ} (h : Needs rows need) (k : ℕ) (l : k < row_count rows) where
  pub rest_small : get_or need k 0 < 9007199254740992
  rest_small = h.small k l

  pub rest_needed : (a : ℕ) → is rows k 0 23 ≡ true → place_of rows 2 (num rows k 1) ≡ Some a
      → num rows k 6 + get_or need k 0 ≡ needed_ms (sheet rows) (activity_of rows a) (assignment_of rows k) (runs_on (sheet rows) (assignment_of rows k))
  rest_needed a b q =
      sym (h.at k (assignment_of rows k) (activity_of rows a) l (assignment_row rows k b) (find_activity_lem rows (num rows k 1) ∙ ap (λ x. option x None (λ j. Some (activity_of rows j))) q))
