-- The starts of members seen one after the other, against all of them at once. Assumes nothing.
use Prim.Native.Nat.{ℕ, suc, ◌≤◌}
use mathlib.Core.Path.{◌≡◌, refl, ap, sym, ◌∙◌}
use mathlib.Core.Bool.{Bool, true, false, not, ◌&&◌, ◌||◌, and-true}
use mathlib.Core.List.{List, [], ◌∷◌, ◌++◌, append-nil}
use Rattle.std.specs.Prelude.{Option, None, Some}
use native.Mathlib.Omega.{arith}
use native.Mathlib.Decide.{ℕ_discrete}
use lib.Dec.{eqb}
use lib.IntN.{ℤ}
use lib.ListN.{length}
use borrow.Author.Tests.{eq-eqb, ne_eqb}
use Rattle.loops.specs.Lists.{given, each, option}
use Rattle.loops.specs.Range.{collect}
use Rattle.loops.proofs.ListLaws.{each_map}
use Rattle.chains.specs.Places.{places}
use Rattle.calendar.specs.Clock.{clock}
use Rattle.rows.specs.Cells.{row_count, num, is}
use Rattle.sheet.specs.Places.{named}
use Rattle.model.specs.Sheet.{sheet}
use Rattle.model.specs.Constraint.{constraint_at, members}
use Rattle.model.specs.Schedule.{synchronize_violation}
use Rattle.model.proofs.ConstraintLaws.{synchronize_row}
use Rattle.definition.specs.ActivitySpan.{Span, activity_span}
use Rattle.definition.specs.CheckRequirements.{same_time}
use Rattle.definition.specs.CheckConstraints as page
use Rattle.check9_constraints.specs.inner.Starts.{apart, unsynchronized}
use Rattle.check9_constraints.proofs.Members.{members_are, length_map}

eqb_suc : (a b : ℕ) → eqb (suc a) (suc b) ≡ eqb a b
eqb_suc a b = go (ℕ_discrete a b)
  where
    go : Dec (a ≡ b) → eqb (suc a) (suc b) ≡ eqb a b
    go (yes e) = eq-eqb (suc a) (suc b) (ap suc e) ∙ sym (eq-eqb a b e)
    go (no d) = ne_eqb (suc a) (suc b) (λ z. d (omega arith)) ∙ sym (ne_eqb a b d)

module _ (rows : List ℤ) where
  span_of : ℕ → Option (Span ℤ)
  span_of k = activity_span clock (sheet rows) (num rows k 2)

  starts : ℕ → List ℤ
  starts k = option (span_of k) [] (λ x. x.start ∷ [])

  fewer : (l : List ℕ) → length (each starts l) ≤ length l
  unfolding each starts
  fewer [] = omega arith
  fewer (k ∷ l) = go (span_of k) (fewer l)
    where
      go : (x : Option (Span ℤ)) → length (each starts l) ≤ length l → length (option x [] (λ y. y.start ∷ []) ++ each starts l) ≤ suc (length l)
      go None h = omega arith
      go (Some y) h = omega arith

  short : (l : List ℕ) → eqb (length (each starts l)) (suc (length l)) ≡ false
  short l = ne_eqb (length (each starts l)) (suc (length l)) (λ z. omega (arith, fewer l))

  differed : (l : List ℕ) (t : Option ℤ) → unsynchronized rows true t l ≡ eqb (length (each starts l)) (length l)
  unfolding each starts span_of
  differed [] t = refl
  differed (k ∷ l) t = go (activity_span clock (sheet rows) (num rows k 2)) (λ y. differed l (Some y))
    where
      go : (x : Option (Span ℤ)) → ((y : ℤ) → unsynchronized rows true (Some y) l ≡ eqb (length (each starts l)) (length l))
          → option x false (λ y. unsynchronized rows true (Some y.start) l) ≡ eqb (length (option x [] (λ y. y.start ∷ []) ++ each starts l)) (suc (length l))
      go None h = sym (short l)
      go (Some y) h = h y.start ∙ sym (eqb_suc (length (each starts l)) (length l))

  after : (l : List ℕ) (x : ℤ) → unsynchronized rows false (Some x) l ≡ (eqb (length (each starts l)) (length l) && page.differing clock (sheet rows) (x ∷ each starts l))
  unfolding each starts span_of apart page.differing
  after [] x = refl
  after (k ∷ l) x = go (activity_span clock (sheet rows) (num rows k 2)) (λ y. after l y)
    where
      compared : (b : Bool) (y : ℤ) → unsynchronized rows false (Some y) l ≡ (eqb (length (each starts l)) (length l) && page.differing clock (sheet rows) (y ∷ each starts l))
          → unsynchronized rows (not b) (Some y) l
          ≡ (eqb (suc (length (each starts l))) (suc (length l)) && (not b || page.differing clock (sheet rows) (y ∷ each starts l)))
      compared true y h = rw (eqb_suc (length (each starts l)) (length l)) h
      compared false y h = rw (eqb_suc (length (each starts l)) (length l)) (differed l (Some y) ∙ sym (and-true (eqb (length (each starts l)) (length l))))

      go : (v : Option (Span ℤ))
          → ((y : ℤ) → unsynchronized rows false (Some y) l ≡ (eqb (length (each starts l)) (length l) && page.differing clock (sheet rows) (y ∷ each starts l)))
          → option v false (λ y. unsynchronized rows (not (same_time clock x y.start)) (Some y.start) l)
          ≡ (eqb (length (option v [] (λ y. y.start ∷ []) ++ each starts l)) (suc (length l))
          && page.differing clock (sheet rows) (x ∷ (option v [] (λ y. y.start ∷ []) ++ each starts l)))
      go None h = rw (short l)
      go (Some v) h = compared (same_time clock x v.start) v.start (h v.start)

  seen_all : (l : List ℕ) → unsynchronized rows false None l ≡ (eqb (length (each starts l)) (length l) && page.differing clock (sheet rows) (each starts l))
  unfolding each starts span_of apart page.differing
  seen_all [] = refl
  seen_all (k ∷ l) = go (activity_span clock (sheet rows) (num rows k 2))
    where
      go : (v : Option (Span ℤ)) → option v false (λ y. unsynchronized rows false (Some y.start) l)
          ≡ (eqb (length (option v [] (λ y. y.start ∷ []) ++ each starts l)) (suc (length l))
          && page.differing clock (sheet rows) (option v [] (λ y. y.start ∷ []) ++ each starts l))
      go None = rw (short l)
      go (Some v) = rw (eqb_suc (length (each starts l)) (length l)) (after l v.start)

  all_members : (p : ℕ)
      → (eqb (length (each (page.start_of clock (sheet rows)) (members (sheet rows) p))) (length (members (sheet rows) p))
      && page.differing clock (sheet rows) (each (page.start_of clock (sheet rows)) (members (sheet rows) p)))
      ≡ unsynchronized rows false None (places (named rows 22 p) (row_count rows))
  unfolding starts span_of
  all_members p =
      let l : List ℕ = places (named rows 22 p) (row_count rows) in
      rw (members_are rows p, each_map (page.start_of clock (sheet rows)) (λ k. num rows k 2) l, length_map (λ k. num rows k 2) l) (sym (seen_all l))

-- the findings of the constraint in row k
pub synchronize_found : (rows : List ℤ) (k : ℕ) → is rows k 0 21 ≡ true
    → page.check_constraint_at clock (sheet rows) k
    ≡ given (unsynchronized rows false None (places (named rows 22 (length (collect (constraint_at (sheet rows)) k))) (row_count rows))) (synchronize_violation 9 (length (collect (constraint_at (sheet rows)) k)))
unfolding page.check_constraint_at page.check_constraint each
synchronize_found rows k h = rw (synchronize_row rows k h, all_members rows (length (collect (constraint_at (sheet rows)) k))) (append-nil _)
