-- Past the end of the bytes stands 0, which ends no character. Assumes nothing.
use Rattle.std.proofs.Common.{◌≡◌, ℕ, ◌≤◌, false, List, length, get_or}
use mathlib.Core.Bool.{and-false}
use lib.ListN.{get_or-eq_default}
use Rattle.freebusy_characters.specs.Utf8.{utf8_2, utf8_3, utf8_4}

module _ (s : List ℕ) (a b c : ℕ) where
  pub two_short : length s ≤ 1 → utf8_2 a (get_or s 1 0) ≡ false
  unfolding utf8_2
  two_short h = rw (get_or-eq_default s 0 {n = 1} h) (and-false _)

  pub three_short : length s ≤ 2 → utf8_3 a b (get_or s 2 0) ≡ false
  unfolding utf8_3
  three_short h = rw (get_or-eq_default s 0 {n = 2} h) (and-false _)

  pub four_short : length s ≤ 3 → utf8_4 a b c (get_or s 3 0) ≡ false
  unfolding utf8_4
  four_short h = rw (get_or-eq_default s 0 {n = 3} h) (simp and-false)

pub ruleset short = (two_short, three_short, four_short)
