-- Demand 3 leaves no number out. A deadline 5, moved by -2^63 - 5, becomes the number that stands for none: both sheets are accepted, the second is
-- the first shifted, and their findings are the same. Assumes nothing.
use Prim.Native.Nat.{ℕ, zero, suc, ◌*◌, ◌≤◌, ◌<◌}
use mathlib.Core.Path.{◌≡◌, refl, sym, ◌∙◌, ap}
use mathlib.Core.Bool.{Bool, true, false, not, false≢true}
use mathlib.Core.List.{List, [], ◌∷◌}
use native.Mathlib.Omega.{arith}
use native.Mathlib.Decide.{dec_lt}
use lib.ListN.{length}
use lib.Dec.{eqb}
use lib.IntN.{ℤ, pos, negsuc}
use borrow.Author.Tests.{eqb-true, not-true, not-false}
use Rattle.loops.specs.Numbers.{to_nat}
use Rattle.loops.specs.Search.{any_below}
use Rattle.loops.proofs.SearchLaws.{any_none}
use Rattle.rows.specs.Table.{class_of}
use Rattle.rows.specs.Ranges.{between, is_none, in_range, in_class}
use Rattle.rows.specs.Cells.{cell, num}
use Rattle.rows.proofs.CellLaws.{cell_past, cell_wide}
use Rattle.rows.proofs.Tables.{class_wide}
use Rattle.definition.specs.CheckSchedule.{findings}
use Rattle.shift.specs.Shift.{shifted, Shifted}
use Rattle.shift.specs.inner.InClass.{InClass}
use Rattle.shift.proofs.Shift.{same_findings}
use Rattle.model.proofs.Accepting.{blank_zero, blank_wide}

abbrev eq_z : ℤ → ℤ → Bool
eq_z (pos a) (pos b) = eqb a b
eq_z (pos a) (negsuc b) = false
eq_z (negsuc a) (pos b) = false
eq_z (negsuc a) (negsuc b) = eqb a b

eq_z_true : (x y : ℤ) → eq_z x y ≡ true → x ≡ y
eq_z_true (pos a) (pos b) h = ap pos (eqb-true a b h)
eq_z_true (pos a) (negsuc b) h = absurd (false≢true h)
eq_z_true (negsuc a) (pos b) h = absurd (false≢true h)
eq_z_true (negsuc a) (negsuc b) h = ap negsuc (eqb-true a b h)

-- a test of the cells of n rows fails nowhere
abbrev everywhere : (ℕ → ℕ → Bool) → ℕ → Bool
everywhere p n = not (any_below (λ k. any_below (λ c. not (p k c)) 10) n)

at_cell : (p : ℕ → ℕ → Bool) (n : ℕ) → everywhere p n ≡ true → (k c : ℕ) → k < n → c < 10 → p k c ≡ true
at_cell p n h k c l m =
    not-false (p k c)
    (any_none (λ c. not (p k c)) 10 c
    (any_none (λ k. any_below (λ c. not (p k c)) 10) n k (not-true (any_below (λ k. any_below (λ c. not (p k c)) 10) n) h) l) m)

-- past the last row all is 0, and no column is an instant
past_row : (rows : List ℤ) (k c : ℕ) → length rows ≤ k * 10 → cell rows k c ≡ pos 0
past_row rows k c h = sym (cell_past rows k c (omega arith))

past_kind : (rows : List ℤ) (k : ℕ) → length rows ≤ k * 10 → num rows k 0 ≡ 0
past_kind rows k h = ap to_nat (past_row rows k 0 h)

kind_zero : (d x : ℤ) (c : ℕ) → shifted d (class_of 0 c) x ≡ x
kind_zero d x zero = refl
kind_zero d x (suc c) = refl

-- the two records, by tests of the cells of n rows
shifted_tested : (d : ℤ) (a b : List ℤ) (n : ℕ) → length a ≡ n * 10 → length b ≡ n * 10
    → everywhere (λ k c. eq_z (cell b k c) (shifted d (class_of (num a k 0) c) (cell a k c))) n ≡ true
    → Shifted d a b
shifted_tested d a b n p q h = record { as_long = q ∙ sym p; cells = λ k c. go k c (dec_lt k n) (dec_lt c 10) }
  where
    go : (k c : ℕ) → Dec (k < n) → Dec (c < 10) → cell b k c ≡ shifted d (class_of (num a k 0) c) (cell a k c)
    go k c (yes l) (yes m) = eq_z_true _ _ (at_cell (λ k c. eq_z (cell b k c) (shifted d (class_of (num a k 0) c) (cell a k c))) n h k c l m)
    go k c (yes l) (no m) =
        sym (cell_wide b k c (omega arith)) ∙ cell_wide a k c (omega arith)
        ∙ ap (λ cl. shifted d cl (cell a k c)) (sym (class_wide (num a k 0) c (omega arith)))
    go k c (no l) m =
        past_row b k c (omega (arith, q)) ∙ sym (past_row a k c (omega (arith, p))) ∙ sym (kind_zero d (cell a k c) c)
        ∙ ap (λ z. shifted d (class_of z c) (cell a k c)) (sym (past_kind a k (omega (arith, p))))

class_tested : (rows : List ℤ) (n : ℕ) → length rows ≡ n * 10
    → everywhere (λ k c. in_class (class_of (num rows k 0) c) (cell rows k c)) n ≡ true
    → InClass rows
class_tested rows n p h = record { columns = λ k c. go k c (dec_lt k n) (dec_lt c 10) }
  where
    go : (k c : ℕ) → Dec (k < n) → Dec (c < 10) → in_class (class_of (num rows k 0) c) (cell rows k c) ≡ true
    go k c (yes l) (yes m) = at_cell (λ k c. in_class (class_of (num rows k 0) c) (cell rows k c)) n h k c l m
    go k c (yes l) (no m) = rw (class_wide (num rows k 0) c (omega arith), ← cell_wide rows k c (omega arith)) blank_wide
    go k c (no l) m = rw (past_kind rows k (omega (arith, p)), past_row rows k c (omega (arith, p))) (blank_zero c)

-- ---- the two sheets: a task with a deadline, and an activity that has no requirement and no span

abbrev none' : ℤ
none' = negsuc 9223372036854775807

abbrev week : ℤ → List ℤ
week deadline =
    pos 1 ∷ pos 7 ∷ deadline ∷ none' ∷ pos 0 ∷ pos 0 ∷ pos 0 ∷ pos 0 ∷ pos 0 ∷ pos 0
    ∷ pos 2 ∷ pos 10 ∷ pos 7 ∷ pos 0 ∷ pos 0 ∷ pos 60 ∷ pos 0 ∷ pos 0 ∷ none' ∷ pos 0 ∷ []

-- -2^63 - 5
abbrev farthest : ℤ
farthest = negsuc 9223372036854775812

in_a : InClass (week (pos 5))
unfolding any_below cell in_class in_range between is_none
in_a = class_tested (week (pos 5)) 2 refl refl

in_b : InClass (week none')
unfolding any_below cell in_class in_range between is_none
in_b = class_tested (week none') 2 refl refl

pub becomes_none : Shifted farthest (week (pos 5)) (week none')
unfolding any_below cell between is_none
becomes_none = shifted_tested farthest (week (pos 5)) (week none') 2 refl refl refl

pub same : findings (week (pos 5)) ≡ findings (week none')
same = same_findings farthest (week (pos 5)) (week none') in_a in_b becomes_none
