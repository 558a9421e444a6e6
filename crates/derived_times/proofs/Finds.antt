-- What a lookup of the typed sheet finds, by the place of its row. Assumes nothing.
use Rattle.model.proofs.Finds.{first_same, first_placed, given_head}
use Prim.Native.Nat.{ℕ, zero, suc}
use mathlib.Core.Path.{◌≡◌, refl, ap, sym, ◌∙◌}
use mathlib.Core.Bool.{Bool, true, false, cond, ◌&&◌, ◌||◌, or-false}
use mathlib.Core.List.{List}
use Rattle.std.specs.Prelude.{Option, None, Some}
use native.Mathlib.Omega.{arith}
use lib.Dec.{eqb, ltb}
use borrow.Author.Tests.{lt-ltb, le-ltb}
use lib.IntN.{ℤ}
use lib.Ieee.{binary64, of_bits}
use Rattle.loops.specs.Lists.{given, head, option}
use Rattle.loops.specs.Range.{collect}
use Rattle.loops.specs.Search.{or_else, some_if, first_place}
use Rattle.loops.proofs.ListLaws.{head_collect, head_given}
use Rattle.loops.proofs.PlaceLaws.{found_at}
use Rattle.rows.specs.Cells.{row_count, cell, num, is}
use Rattle.sheet.specs.Places.{named, place_of}
use Rattle.sheet.proofs.Lookups.{is_num}
use Rattle.resource_timing.specs.declared.ResourceTiming.TheVariants.{Speed, Duration}
use Rattle.model.specs.Sheet.{sheet, row_at}
use Rattle.model.specs.inner.Records.{num_at, int_at}
use Rattle.model.specs.Activity.{Split, split, timing_at, timing}
use Rattle.model.proofs.RowLaws.{row_none, row_here}
use Rattle.pieces.specs.inner.Bookings.{names}
use Rattle.derived_times.specs.inner.Rows.{columns_of, timed_by, timing_of, earlier_of}

-- a list put together by place, whose rows give one element or none
pub head_of : {A : Type 0} (q : ℕ → Bool) (g : ℕ → A) (f : ℕ → List A) (n : ℕ) → ((k : ℕ) → head (f k) ≡ some_if (q k) (g k))
    → head (collect f n) ≡ option (first_place q n) None (λ i. Some (g i))
head_of q g f n h = head_collect f n ∙ first_same _ _ n h ∙ first_placed q g n

module _ (rows : List ℤ) where
  abbrev pub split_of : ℕ → Split
  split_of k = record { max_parts = cell rows k 2; min_part = num rows k 3; overhead = num rows k 4 }

  abbrev split_row : ℕ → ℕ → List Split
  split_row x k = given (eqb (num_at (sheet rows) k 1) x) (record { max_parts = int_at (sheet rows) k 2; min_part = num_at (sheet rows) k 3; overhead = num_at (sheet rows) k 4 })

  pub split_is : (x : ℕ) → split (sheet rows) x ≡ option (place_of rows 4 x) None (λ i. Some (split_of i))
  unfolding split place_of
  split_is x = head_of (named rows 4 x) split_of _ (row_count rows) (λ k. at k (is rows k 0 4) refl)
    where
      at : (k : ℕ) (b : Bool) → is rows k 0 4 ≡ b → head (row_at (sheet rows) 4 (split_row x) k) ≡ some_if (named rows 4 x k) (split_of k)
      at k true h = rw (row_here rows k 4 (split_row x) h, is_num rows k 0 4 h) (unfold named is in (rw h (head_given (eqb (num rows k 1) x) (split_of k))))
      at k false h = rw (row_none rows k 4 (split_row x) h) (unfold named in (rw h))

  -- ---- timings

  timing_row : (a r k : ℕ) → head (timing_at (sheet rows) a r k) ≡ some_if (timed_by rows a r k) (timing_of rows k)
  timing_row a r k = go (is rows k 0 9) (is rows k 0 10) refl refl
    where
      go : (b c : Bool) → is rows k 0 9 ≡ b → is rows k 0 10 ≡ c → head (timing_at (sheet rows) a r k) ≡ some_if (timed_by rows a r k) (timing_of rows k)
      go true c h g = unfold timing_at timed_by timing_of names is in (rw (is_num rows k 0 9 h) (given_head (eqb (num rows k 1) a && eqb (num rows k 2) r) (Speed (of_bits binary64 (num rows k 3))) ∙ ap (λ b. some_if b (Speed (of_bits binary64 (num rows k 3)))) (sym (or-false (eqb (num rows k 1) a && eqb (num rows k 2) r)))))
      go false true h g = unfold timing_at timed_by timing_of names is in (rw (is_num rows k 0 10 g) (head_given (eqb (num rows k 1) a && eqb (num rows k 2) r) (Duration (columns_of rows k 3))))
      go false false h g = unfold timing_at timed_by timing_of names is in (rw (h, g))

  pub timing_is : (a r : ℕ) → timing (sheet rows) a r ≡ option (first_place (timed_by rows a r) (row_count rows)) None (λ i. Some (timing_of rows i))
  unfolding timing
  timing_is a r = head_of (timed_by rows a r) (timing_of rows) (timing_at (sheet rows) a r) (row_count rows) (timing_row a r)

-- ---- the first of two kinds

pub earlier_is : (p q : ℕ → Bool) (n : ℕ) → earlier_of (first_place p n) (first_place q n) ≡ first_place (λ k. p k || q k) n
unfolding first_place
earlier_is p q zero = refl
earlier_is p q (suc n) = go (first_place p n) (first_place q n) (p n) (q n) refl refl ∙ ap (λ x. or_else x (some_if (p n || q n) n)) (earlier_is p q n)
  where
    go : (x y : Option ℕ) (a b : Bool) → first_place p n ≡ x → first_place q n ≡ y
        → earlier_of (or_else x (some_if a n)) (or_else y (some_if b n)) ≡ or_else (earlier_of x y) (some_if (a || b) n)
    go None None true true e f = rw (le-ltb n n (omega arith))
    go None None true false e f = refl
    go None None false b e f = refl
    go None (Some j) true b e f = rw (le-ltb n j (let h = found_at q n j f in omega (arith, h.0)))
    go None (Some j) false b e f = refl
    go (Some i) None a true e f = rw (lt-ltb i n (found_at p n i e).0)
    go (Some i) None a false e f = refl
    go (Some i) (Some j) a b e f = one (ltb i j)
      where
        one : (c : Bool) → cond c (Some i) (Some j) ≡ or_else (cond c (Some i) (Some j)) (some_if (a || b) n)
        one true = refl
        one false = refl
