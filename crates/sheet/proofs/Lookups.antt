-- Laws of the lookups: a row by kind and id, and number m of the rows that pass a test. Assumes nothing.
use Prim.Native.Nat.{ℕ, zero, suc, ◌+◌, ◌<◌, ◌≤◌}
use mathlib.Core.Path.{◌≡◌, refl, sym, ap, ap₂, ◌∙◌}
use mathlib.Core.Bool.{Bool, true, false, cond, ◌&&◌}
use mathlib.Core.List.{List, [], ◌∷◌, ◌++◌, append-nil}
use Rattle.std.specs.Prelude.{Option, None, Some, slice_get}
use native.Mathlib.Omega.{arith}
use lib.Dec.{eqb, eqb-suc-suc, eqb-zero-suc}
use lib.ListN.{length, length-append}
use lib.IntN.{ℤ}
use borrow.Author.Tests.{eqb-true, eq-eqb, ne_eqb}
use Rattle.loops.specs.Lists.{given}
use Rattle.loops.specs.Range.{collect}
use Rattle.loops.specs.Search.{or_else, some_if, first_place, count_below}
use Rattle.loops.proofs.BoolLaws.{and_left, and_right}
use Rattle.loops.proofs.PlaceLaws.{found_at, or_none_lem}
use Rattle.chains.specs.Places.{places}
use Rattle.rows.specs.Cells.{row_count, num, is}
use Rattle.sheet.specs.Places.{named, place_of, is_nth, nth_place}
use Rattle.sheet.specs.declared.Found.{Found}
use Rattle.sheet.specs.declared.Found.TheVariants.{At, Nothing}
use Rattle.sheet.specs.inner.Found.{found_of}

pub is_num : (rows : List ℤ) (k c v : ℕ) → is rows k c v ≡ true → num rows k c ≡ v
unfolding is
is_num rows k c v e = eqb-true (num rows k c) v e

pub num_is : (rows : List ℤ) (k c v : ℕ) → num rows k c ≡ v → is rows k c v ≡ true
unfolding is
num_is rows k c v e = eq-eqb (num rows k c) v e

-- ---- by kind and id

-- what a row that was found has
pub record Named (rows : List ℤ) (x id k : ℕ) : Type 0 where
  pub within : k < row_count rows
  pub kind : num rows k 0 ≡ x
  pub id_is : num rows k 1 ≡ id

pub placed : (rows : List ℤ) (x id k : ℕ) → place_of rows x id ≡ Some k → Named rows x id k
unfolding place_of named
placed rows x id k e =
    let f = found_at (named rows x id) (row_count rows) k e in
    record {
      within = f.0;
      kind = is_num rows k 0 x (and_left (is rows k 0 x) (is rows k 1 id) f.1);
      id_is = is_num rows k 1 id (and_right (is rows k 0 x) (is rows k 1 id) f.1);
    }

-- ---- number m of the rows that pass a test

module _ (q : ℕ → Bool) (m : ℕ) where
  pub is_nth_lem : (k : ℕ) {y b : Bool} {s : ℕ} → s ≡ count_below q k → y ≡ q k → b ≡ (y && eqb s m) → is_nth q m k ≡ b
  unfolding is_nth
  is_nth_lem k e f r = rw (← e, ← f) (sym r)

  -- what a row that was found has
  pub nth_at : (n k : ℕ) → nth_place q m n ≡ Some k → (k < n) × (q k ≡ true) × (count_below q k ≡ m)
  unfolding nth_place is_nth
  nth_at n k e =
      let f = found_at (is_nth q m) n k e in
      (f.0, and_left (q k) (eqb (count_below q k) m) f.1, eqb-true (count_below q k) m (and_right (q k) (eqb (count_below q k) m) f.1))

  miss_at : (n : ℕ) (b : Bool) → q n ≡ b → count_below q n + cond b 1 0 ≤ m → is_nth q m n ≡ false
  unfolding is_nth
  miss_at n true e h = rw (e, ne_eqb (count_below q n) m (λ z. omega arith))
  miss_at n false e h = rw e

  -- as few as m pass: there is no number m
  pub too_few : (n : ℕ) → count_below q n ≤ m → nth_place q m n ≡ None
  unfolding count_below nth_place first_place
  too_few zero h = refl
  too_few (suc n) h = rw (too_few n (omega arith), miss_at n (q n) refl h)

  pub nth_step : (k : ℕ) → nth_place q m (suc k) ≡ or_else (nth_place q m k) (some_if (is_nth q m k) k)
  unfolding nth_place first_place
  nth_step k = refl

get_last : (l : List ℕ) (n m : ℕ) → slice_get (l ++ n ∷ []) m ≡ or_else (slice_get l m) (some_if (eqb (length l) m) n)
get_last [] n zero = refl
get_last [] n (suc m) = ap (λ b. some_if b n) (sym (eqb-zero-suc m))
get_last (x ∷ l) n zero = refl
get_last (x ∷ l) n (suc m) = get_last l n m ∙ ap (λ b. or_else (slice_get l m) (some_if b n)) (sym (eqb-suc-suc (length l) m))

-- so many places pass a test
pub counted : (p : ℕ → Bool) (n : ℕ) → length (places p n) ≡ count_below p n
unfolding places collect count_below
counted p zero = refl
counted p (suc n) = go (p n) (counted p n)
  where
    go : (b : Bool) → length (places p n) ≡ count_below p n → length (places p n ++ given b n) ≡ count_below p n + cond b 1 0
    go true e = length-append (places p n) (n ∷ []) ∙ ap (λ x. x + 1) e
    go false e = length-append (places p n) [] ∙ ap (λ x. x + 0) e

-- number m of the places that pass, as a list
pub nth_places : (p : ℕ → Bool) (m n : ℕ) → slice_get (places p n) m ≡ nth_place p m n
unfolding places collect nth_place first_place is_nth
nth_places p m zero = refl
nth_places p m (suc n) = go (p n) (nth_places p m n)
  where
    go : (b : Bool) → slice_get (places p n) m ≡ nth_place p m n → slice_get (places p n ++ given b n) m ≡ or_else (nth_place p m n) (some_if (b && eqb (count_below p n) m) n)
    go true e = get_last (places p n) n m ∙ ap₂ or_else e (ap (λ c. some_if (eqb c m) n) (counted p n))
    go false e = ap (λ l. slice_get l m) (append-nil (places p n)) ∙ e ∙ sym (or_none_lem (nth_place p m n))

-- ---- a row that was found

pub found_none : {f : Found} {x : Option ℕ} → f ≡ Nothing → found_of f ≡ x → x ≡ None
found_none q e = sym e ∙ ap found_of q

pub found_some : {f : Found} {x : Option ℕ} {k : ℕ} → f ≡ At k → found_of f ≡ x → x ≡ Some k
found_some q e = sym e ∙ ap found_of q

module _ (rows : List ℤ) (x id : ℕ) {k : ℕ} where
  pub place_kind : place_of rows x id ≡ Some k → is rows k 0 x ≡ true
  place_kind e = num_is rows k 0 x (placed rows x id k e).kind

  pub place_within : place_of rows x id ≡ Some k → k < row_count rows
  place_within e = (placed rows x id k e).within

  pub place_low : place_of rows x id ≡ Some k → k ≤ row_count rows
  place_low e = omega (arith, place_within e)

  pub found_low : {f : Found} → found_of f ≡ place_of rows x id → f ≡ At k → k ≤ row_count rows
  found_low e q = place_low (found_some q e)
