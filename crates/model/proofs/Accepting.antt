-- What a sheet has that refusals 1 to 5 do not refuse: at most 800 rows, each number in the class of its column, every owner, no id twice. Assumes nothing.
use Prim.Native.Nat.{ℕ, zero, suc, ◌+◌, ◌*◌, ◌%◌, ◌<◌, ◌≤◌}
use mathlib.Core.Path.{◌≡◌, refl, ap, sym, ◌∙◌}
use mathlib.Core.Bool.{Bool, true, false, not, true≢false}
use mathlib.Core.List.{List}
use Rattle.std.specs.Prelude.{Option, None, Some}
use native.Mathlib.Omega.{arith}
use native.Mathlib.Decide.{dec_lt}
use borrow.Author.Tests.{ltb-false, not-false, eqb-true, eq-eqb, leb-true}
use lib.IntN.{ℤ, pos, negsuc}
use lib.Signed.{le_z}
use lib.Dec.{eqb, ltb}
use lib.ListN.{length}
use Rattle.loops.specs.Numbers.{to_nat}
use Rattle.loops.specs.Search.{or_else, first, any_below}
use Rattle.loops.proofs.BoolLaws.{and_left, and_right, neither_left, neither_right}
use Rattle.loops.proofs.SearchLaws.{any_none}
use Rattle.loops.proofs.PlaceLaws.{or_none_left, or_none_right, first_none, if_none, place_only}
use Rattle.rows.specs.Cells.{row_count, cell, num, is}
use Rattle.rows.specs.declared.Class.{Class}
use Rattle.rows.specs.declared.Class.TheVariants.{Blank}
use Rattle.rows.specs.Table.{class_of}
use Rattle.rows.specs.Ranges.{range, between, is_none, in_range, in_class}
use Rattle.rows.proofs.CellLaws.{cell_past, cell_wide}
use Rattle.rows.proofs.Tables.{class_wide}
use Rattle.sheet.specs.Places.{named, place_of}
use Rattle.refusals.specs.Refusals.{refuse}
use Rattle.refusals.specs.declared.Reason.TheVariants.{Misshapen, UnknownKind, OutOfRange}
use Rattle.refusals.specs.declared.Refusal.{Refusal}
use Rattle.sheet.specs.Refusals.{misshapen, known_kind, bad_cell, half_part, out_of_range, absent_at, lacks, unowned, repeats, repeated, column_fault, owner_fault, repeat_fault, refusal_of}
use Rattle.sheet.specs.inner.Groups.{once}
use Rattle.sheet.specs.inner.Accepted.{Accepted}
use Rattle.sheet.proofs.Groups.{once_repeats}
use Rattle.sheet.proofs.Lookups.{is_num}

record Passed (rows : List ℤ) : Type 0 where
  shape : misshapen (length rows) ≡ false
  columns : (k : ℕ) → k < row_count rows → column_fault rows k ≡ None
  owners : (k : ℕ) → k < row_count rows → owner_fault rows k ≡ None
  repeats : (k : ℕ) → k < row_count rows → repeat_fault rows k ≡ None

passed : (rows : List ℤ) → refusal_of rows ≡ None → Passed rows
unfolding refusal_of
passed rows h =
    let a : Option Refusal = refuse (misshapen (length rows)) Misshapen 0 in
    let b : Option Refusal = first (column_fault rows) (row_count rows) in
    let d : Option Refusal = first (owner_fault rows) (row_count rows) in
    let e : Option Refusal = first (repeat_fault rows) (row_count rows) in
    let h₁ : or_else b (or_else d e) ≡ None = or_none_right a (or_else b (or_else d e)) h in
    let h₂ : or_else d e ≡ None = or_none_right b (or_else d e) h₁ in
    record {
      shape = if_none (misshapen (length rows)) _ (or_none_left a (or_else b (or_else d e)) h);
      columns = first_none (column_fault rows) (row_count rows) (or_none_left b (or_else d e) h₁);
      owners = first_none (owner_fault rows) (row_count rows) (or_none_left d e h₂);
      repeats = first_none (repeat_fault rows) (row_count rows) (or_none_right d e h₂);
    }

-- past the last row all is 0
pub blank_zero : (c : ℕ) → in_class (class_of 0 c) (pos 0) ≡ true
unfolding in_class in_range between
blank_zero zero = refl
blank_zero (suc c) = refl

pub blank_wide : in_class Blank (pos 0) ≡ true
unfolding in_class in_range between
blank_wide = refl

module _ (rows : List ℤ) (p : Passed rows) where
  whole : (length rows % 10 ≡ 0) × (length rows ≤ 8000)
  unfolding misshapen
  whole = (
    eqb-true _ 0 (not-false _ (neither_left (not (eqb (length rows % 10) 0)) (ltb 8000 (length rows)) p.shape)),
    ltb-false 8000 _ (neither_right (not (eqb (length rows % 10) 0)) (ltb 8000 (length rows)) p.shape),
  )

  past : (k c : ℕ) → row_count rows ≤ k → length rows ≤ k * 10 + c
  past k c h = omega (arith, whole.0)

  known : (k : ℕ) → k < row_count rows → known_kind rows k ≡ true
  unfolding column_fault
  known k h = not-false _ (if_none (not (known_kind rows k)) _ (or_none_left (refuse (not (known_kind rows k)) UnknownKind k) (refuse (out_of_range rows k) OutOfRange k) (p.columns k h)))

  in_order_lem : (k : ℕ) → k < row_count rows → out_of_range rows k ≡ false
  unfolding column_fault
  in_order_lem k h = if_none (out_of_range rows k) _ (or_none_right (refuse (not (known_kind rows k)) UnknownKind k) (refuse (out_of_range rows k) OutOfRange k) (p.columns k h))

  cells_in : (k c : ℕ) → k < row_count rows → c < 10 → in_class (class_of (num rows k 0) c) (cell rows k c) ≡ true
  unfolding out_of_range bad_cell
  cells_in k c h l = not-false _ (any_none (bad_cell rows k) 10 c (neither_left (any_below (bad_cell rows k) 10) (half_part rows k) (in_order_lem k h)) l)

  cells : (k c : ℕ) → in_class (class_of (num rows k 0) c) (cell rows k c) ≡ true
  cells k c = go (dec_lt k (row_count rows)) (dec_lt c 10)
    where
      go : Dec (k < row_count rows) → Dec (c < 10) → in_class (class_of (num rows k 0) c) (cell rows k c) ≡ true
      go (yes h) (yes l) = cells_in k c h l
      go (no h) (yes l) = rw (← cell_past rows k 0 (past k 0 (omega arith)), ← cell_past rows k c (past k c (omega arith))) (blank_zero c)
      go d (no l) = rw (← cell_wide rows k c (omega arith), class_wide (num rows k 0) c (omega arith)) blank_wide

  whole_parts : (k : ℕ) → k < row_count rows → half_part rows k ≡ false
  unfolding out_of_range
  whole_parts k h = neither_right (any_below (bad_cell rows k) 10) (half_part rows k) (in_order_lem k h)

  owned_in : (k c : ℕ) → k < row_count rows → c < 10 → absent_at rows k c ≡ false
  unfolding owner_fault unowned
  owned_in k c h l = any_none (absent_at rows k) 10 c (if_none (any_below (absent_at rows k) 10) _ (p.owners k h)) l

  owned : (k c : ℕ) → k < row_count rows → absent_at rows k c ≡ false
  owned k c h = go (dec_lt c 10)
    where
      wide : (x : Class) → x ≡ Blank → lacks x rows k c ≡ false
      wide x e = rw e (unfold lacks in refl)

      go : Dec (c < 10) → absent_at rows k c ≡ false
      go (yes l) = owned_in k c h l
      go (no l) = unfold absent_at in wide (class_of (num rows k 0) c) (class_wide (num rows k 0) c (omega arith))

  never_again : (k j : ℕ) → k < row_count rows → j < k → repeats rows k j ≡ false
  unfolding repeat_fault repeated
  never_again k j h l = any_none (repeats rows k) k j (if_none (repeated rows k) _ (p.repeats k h)) l

pub accepted : (rows : List ℤ) → refusal_of rows ≡ None → Accepted rows
accepted rows e =
    let p = passed rows e in
    record {
      short = (whole rows p).1;
      kinds = known rows p;
      columns = cells rows p;
      parts = whole_parts rows p;
      owners = owned rows p;
      once = never_again rows p;
    }

-- a row past the last is of no kind
pub past_kind : (rows : List ℤ) → refusal_of rows ≡ None → (k x : ℕ) → is rows k 0 x ≡ true → 0 < x → k < row_count rows
past_kind rows e k x h l = go (dec_lt k (row_count rows))
  where
    go : Dec (k < row_count rows) → k < row_count rows
    go (yes m) = m
    go (no m) =
        let z : pos 0 ≡ cell rows k 0 = cell_past rows k 0 (past rows (passed rows e) k 0 (omega arith)) in
        let n : num rows k 0 ≡ x = is_num rows k 0 x h in
        let w : 0 ≡ num rows k 0 = ap to_nat z in
        absurd (omega arith)

-- ---- how large a column is

below_high : (x h : ℤ) → le_z x h ≡ true → to_nat x ≤ to_nat h
below_high (pos n) (pos m) e = leb-true n m e
below_high (pos n) (negsuc m) e = absurd (true≢false (sym e))
below_high (negsuc n) (pos m) e = omega arith
below_high (negsuc n) (negsuc m) e = omega arith

none_nat : (x : ℤ) → is_none x ≡ true → to_nat x ≡ 0
unfolding is_none between
none_nat (pos n) e = absurd (true≢false (sym e))
none_nat (negsuc n) e = refl

top_of : (cl : Class) (x : ℤ) → in_class cl x ≡ true → to_nat x ≤ to_nat (range cl).greatest
unfolding in_class in_range between
top_of cl x e = go (in_range cl x) refl
  where
    go : (b : Bool) → in_range cl x ≡ b → to_nat x ≤ to_nat (range cl).greatest
    go true q = below_high x (range cl).greatest (and_right (le_z (range cl).least x) (le_z x (range cl).greatest) q)
    go false q = omega (arith, none_nat x (and_right (range cl).none? (is_none x) (rw q at e)))

module _ (rows : List ℤ) (a : Accepted rows) where
  -- at a literal kind and column the class computes
  pub in_class_lem : (k kind c : ℕ) → is rows k 0 kind ≡ true → in_class (class_of kind c) (cell rows k c) ≡ true
  in_class_lem k kind c e = rw (is_num rows k 0 kind e) at (a.columns k c)

  -- and so does the bound: none counts as 0
  pub at_most : (k kind c : ℕ) → is rows k 0 kind ≡ true → num rows k c ≤ to_nat (range (class_of kind c)).greatest
  at_most k kind c e = top_of (class_of kind c) (cell rows k c) (in_class_lem k kind c e)

  -- the owner that a column names is there
  pub has_owner : (k kind c : ℕ) → k < row_count rows → is rows k 0 kind ≡ true → lacks (class_of kind c) rows k c ≡ false
  unfolding absent_at
  has_owner k kind c h e = rw (is_num rows k 0 kind e) at (a.owners k c h)

  -- an id stands once: rows of one kind, that may not repeat, with the same first column are one row
  later : (k j kind : ℕ) → k < row_count rows → j < k → once kind ≡ true → is rows k 0 kind ≡ true → is rows j 0 kind ≡ true → eqb (num rows j 1) (num rows k 1) ≡ true → ⊥
  later k j kind h l o ek ej s = true≢false (sym (once_repeats rows k j kind o (is_num rows k 0 kind ek) (is_num rows j 0 kind ej) s) ∙ a.once k j h l)

  pub one_row : (k j kind : ℕ) → k < row_count rows → j < row_count rows → once kind ≡ true → is rows k 0 kind ≡ true → is rows j 0 kind ≡ true → num rows k 1 ≡ num rows j 1 → k ≡ j
  one_row k j kind h l o ek ej s = go (dec_lt j k) (dec_lt k j)
    where
      go : Dec (j < k) → Dec (k < j) → k ≡ j
      go (yes m) y = absurd (later k j kind h m o ek ej (eq-eqb (num rows j 1) (num rows k 1) (sym s)))
      go (no m) (yes n) = absurd (later j k kind l n o ej ek (eq-eqb (num rows k 1) (num rows j 1) s))
      go (no m) (no n) = omega arith

  -- so the lookup of a row's id finds the row
  pub found_again : (k kind : ℕ) → k < row_count rows → once kind ≡ true → is rows k 0 kind ≡ true → place_of rows kind (num rows k 1) ≡ Some k
  unfolding place_of named is
  found_again k kind h o e =
      place_only (named rows kind (num rows k 1)) (row_count rows) k h (rw (e, eq-eqb (num rows k 1) (num rows k 1) refl))
      (λ j l m. sym
      (one_row k j kind h l o e (and_left (is rows j 0 kind) (is rows j 1 (num rows k 1)) m)
      (sym (eqb-true (num rows j 1) (num rows k 1) (and_right (is rows j 0 kind) (is rows j 1 (num rows k 1)) m)))))

  pub task_at_lem : (o : ℕ) → o < row_count rows → is rows o 0 1 ≡ true → place_of rows 1 (num rows o 1) ≡ Some o
  task_at_lem o l h = found_again o 1 l refl h

  pub activity_at_lem : (o : ℕ) → o < row_count rows → is rows o 0 2 ≡ true → place_of rows 2 (num rows o 1) ≡ Some o
  activity_at_lem o l h = found_again o 2 l refl h
