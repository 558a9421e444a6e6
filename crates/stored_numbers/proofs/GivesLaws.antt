-- Laws of what a case's lines give, and the fields of a line, from the first on. Assumes nothing.
use Rattle.stored_numbers.proofs.PutLaws.{yet_less, yet_none, yet_as}
use Rattle.stored_numbers.specs.inner.Yet.{Yet}
use Rattle.loops.specs.inner.Wrote.{Wrote}
use Prim.Native.Nat.{ℕ}
use mathlib.Core.Bool.{Bool, true, false, cond}
use mathlib.Core.List.{List, [], ◌∷◌, map}
use mathlib.Core.Path.{◌≡◌, refl, ap}
use Rattle.std.specs.Prelude.{Option, None, Some}
use Rattle.loops.specs.Lists.{option, each}
use lib.Dec.{eqb}
use Rattle.loops.proofs.ListLaws.{each_ext}
use Rattle.text_line.specs.Line.{row_of}
use Rattle.stored_lines.specs.inner.Line.{letter, count, piece}
use Rattle.stored_numbers.specs.inner.Numbers.{times, numbers_in, numbers_of, expected_of}
use Rattle.stored_numbers.specs.declared.Asked.{Asked}
use Rattle.stored_numbers.specs.declared.Asked.TheVariants.{Input, Expected}
use Rattle.stored_numbers.specs.declared.Piece.{Piece}
use Rattle.stored_numbers.specs.declared.Piece.TheVariants.{Numbers, Row}
use Rattle.stored_numbers.specs.inner.Gives.{piece_as, piece_by, line_gives}

-- what is yet to be written is given by the parts that are left: the first of them, f, is written; none is left
module _ {B : Type 0} {l m : List B} {i j : ℕ} {all : List B} {ps : List (List ℕ)} where
  module _ {o : List B} {k : ℕ} {f : List ℕ} {qs : List (List ℕ)} (p : ps ≡ f ∷ qs) where
    pub map_more : (g : List ℕ → B) → Yet l i all m j (map g ps) → Wrote m j o k (g f ∷ []) → Yet l i all o k (map g qs)
    map_more g y w = yet_less (g f ∷ []) _ (yet_as (ap (map g) p) y) w

    pub each_more : (g : List ℕ → List B) → Yet l i all m j (each g ps) → Wrote m j o k (g f) → Yet l i all o k (each g qs)
    unfolding each
    each_more g y w = yet_less (g f) _ (yet_as (ap (each g) p) y) w

  module _ (e : ps ≡ []) where
    pub each_none : (g : List ℕ → List B) → Yet l i all m j (each g ps) → Wrote l i m j all
    unfolding each
    each_none g y = yet_none (yet_as (ap (each g) e) y)

-- what a line gives, by its pieces
module _ (asked : Asked) (l : List ℕ) {o : Option Piece} {x : ℕ} (e : o ≡ piece_by asked x) (f : x ≡ letter l) where
  pub gives_some : {p : Piece} {n : ℕ} {s : List ℕ} → o ≡ Some p → n ≡ count l → s ≡ piece l → times n (piece_as p s) ≡ line_gives asked l
  unfolding line_gives
  gives_some t n s = rw (← f, ← e, t, n, s)

  pub gives_none : o ≡ None → [] ≡ line_gives asked l
  unfolding line_gives
  gives_none t = rw (← f, ← e, t)

plain_or_rows : (l : List ℕ) → line_gives Input l ≡ numbers_of l
unfolding line_gives numbers_of
plain_or_rows l = go (eqb (letter l) 110) (eqb (letter l) 114)
  where
    go : (a b : Bool) → option (cond a (Some Numbers) (cond b (Some Row) None)) [] (λ p. times (count l) (piece_as p (piece l)))
        ≡ cond a (times (count l) (numbers_in (piece l))) (cond b (times (count l) (row_of (piece l))) [])
    go true b = refl
    go false true = refl
    go false false = refl

pub all_numbers : (ls : List (List ℕ)) → each (line_gives Input) ls ≡ each numbers_of ls
all_numbers ls = each_ext (line_gives Input) numbers_of plain_or_rows ls

plain_only : (l : List ℕ) → line_gives Expected l ≡ expected_of l
unfolding line_gives expected_of
plain_only l = go (eqb (letter l) 101)
  where
    go : (a : Bool) → option (cond a (Some Numbers) None) [] (λ p. times (count l) (piece_as p (piece l))) ≡ cond a (times (count l) (numbers_in (piece l))) []
    go true = refl
    go false = refl

pub all_expected : (ls : List (List ℕ)) → each (line_gives Expected) ls ≡ each expected_of ls
all_expected ls = each_ext (line_gives Expected) expected_of plain_only ls
