-- Bookings by row: the piece that each is of, and who holds whom as a companion. Assumes nothing.
use Rattle.std.specs.Prelude.{ℕ, Bool, not, ◌&&◌, List, eqb, ℤ, pos, ◌+ℤ◌}
use Rattle.loops.specs.Numbers.{to_nat}
use Rattle.loops.specs.Search.{any_below}
use Rattle.rows.specs.Cells.{row_count, cell, num, is}

-- a part index as a number: 0 for none, which is held as -2^63
unfoldable pub index_key : ℤ → ℕ
index_key x = to_nat (x +ℤ pos 1000001)

unfoldable pub key_at : List ℤ → ℕ → ℕ
key_at rows k = index_key (cell rows k 7)

-- row j is a booking of the piece of booking k
unfoldable pub in_piece : List ℤ → ℕ → ℕ → Bool
in_piece rows k j = is rows j 0 23 && (is rows j 1 (num rows k 1) && eqb (key_at rows j) (key_at rows k))

-- the same, and on the same resource
unfoldable pub same_booking : List ℤ → ℕ → ℕ → Bool
same_booking rows k j = is rows j 3 (num rows k 3) && in_piece rows k j

-- row k is the first booking of its piece on its resource
unfoldable pub first_on : List ℤ → ℕ → Bool
first_on rows k = is rows k 0 23 && not (any_below (same_booking rows k) k)

-- row i is of kind x and names a and b
unfoldable pub names : List ℤ → ℕ → ℕ → ℕ → ℕ → Bool
names rows x a b i = is rows i 0 x && (is rows i 1 a && is rows i 2 b)

-- booking j is of booking k's piece, on a resource that k's resource is a companion of
unfoldable pub holds_for : List ℤ → ℕ → ℕ → Bool
holds_for rows k j =
    in_piece rows k j && (not (is rows j 3 (num rows k 3)) && any_below (names rows 13 (num rows j 3) (num rows k 3)) (row_count rows))
