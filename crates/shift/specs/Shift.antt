-- Demand 3, of sheets: the second is the first with one whole number of milliseconds, zero or below too, added to every instant, and nothing else changed.
-- The instants are the columns of class Instant and OptionalInstant; one that is none stays none. Assumes nothing.
use Rattle.std.specs.Prelude.{ℕ, ◌≡◌, cond, List, length, ℤ, ◌+ℤ◌}
use Rattle.rows.specs.declared.Class.{Class}
use Rattle.rows.specs.declared.Class.TheVariants.{Instant, Duration, OptionalInstant}
use Rattle.rows.specs.Table.{class_of}
use Rattle.rows.specs.Ranges.{is_none}
use Rattle.rows.specs.Cells.{cell, num}

-- the number in a column of a class, after d milliseconds are added to every instant
abbrev pub shifted : ℤ → Class → ℤ → ℤ
shifted d Instant x = x +ℤ d
shifted d OptionalInstant x = cond (is_none x) x (x +ℤ d)
shifted d Duration x = x
shifted d _ x = x

-- b is a with d milliseconds added to every instant, and nothing else changed
pub record Shifted (d : ℤ) (a b : List ℤ) : Type 0 where
  pub as_long : length b ≡ length a
  pub cells : (k c : ℕ) → cell b k c ≡ shifted d (class_of (num a k 0) c) (cell a k c)
