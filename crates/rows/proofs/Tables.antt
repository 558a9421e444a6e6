-- The table of kinds and columns. Assumes nothing.
use Rattle.std.proofs.Common.{◌≡◌, ap, Bool, true, false, not, ◌&&◌, T, eqb, ℕ, zero, suc, ◌-◌, ◌<◌, ◌≤◌, List, [], ◌∷◌, ◌++◌, length, map, replicate, get_or, refl, sym, ◌∙◌, arith}
use native.Mathlib.Decide.{dec_lt, dec_le}
use borrow.Author.Tests.{leb-true, eq-eqb, ne_eqb}
use Rattle.std.proofs.lemmas.Bool.{false_from_ne_true}
use lib.Dec.{leb}
use lib.ListN.{get_or-eq_default}
use Rattle.loops.specs.Lists.{all_of}
use mathlib.Core.Bool.{false≢true}
use Rattle.loops.proofs.BoolLaws.{and_left, and_right, not_true}
use Rattle.rows.specs.declared.Class.{Class}
use Rattle.rows.specs.declared.Class.TheVariants.{Blank}
use Rattle.rows.specs.Table.{columns, class_of, width}
use Rattle.rows.specs.inner.Padded.{padded, is_blank}

-- column 0 aside, a class is that of the table
pub class_later : (kind c : ℕ) → (c ≡ 0 → ⊥) → class_of kind c ≡ get_or (get_or columns kind []) (c - 1) Blank
class_later kind zero h = absurd (h refl)
class_later kind (suc c) h = let e : suc c - 1 ≡ c = omega arith in rw e

both_hold : (a b : Bool) → T (a && b) → T a × T b
both_hold true b t = (tt, t)
both_hold false b t = absurd t

-- a rule of a table, proved at all of its entries by one test
pub all_at : {A : Type 0} (f : A → Bool) (xs : List A) (d : A) → T (all_of f xs) → T (f d) → (n : ℕ) → T (f (get_or xs n d))
unfolding all_of
all_at f [] d t td n = td
all_at f (x ∷ xs) d t td zero = (both_hold (f x) (all_of f xs) t).0
all_at f (x ∷ xs) d t td (suc n) = all_at f xs d (both_hold (f x) (all_of f xs) t).1 td n

-- what holds of each kind's columns, and of none, holds of those of any number
entry_of : (p : List Class → Bool) (t : List (List Class)) (kind : ℕ) → p [] ≡ true → all_of p t ≡ true → p (get_or t kind []) ≡ true
unfolding all_of
entry_of p [] kind e h = e
entry_of p (l ∷ t) zero e h = and_left (p l) (all_of p t) h
entry_of p (l ∷ t) (suc kind) e h = entry_of p t kind e (and_right (p l) (all_of p t) h)

-- no kind has more than eight columns
pub width_most : (kind : ℕ) → width kind ≤ 8
unfolding width all_of
width_most kind = leb-true (length (get_or columns kind [])) 8 (entry_of (λ l. leb (length l) 8) columns kind refl refl)

-- a class that is not the blank one
pub blank_only : (x : Class) → (x ≡ Blank → ⊥) → false ≡ is_blank x
blank_only Blank h = absurd (h refl)
blank_only x h = refl

-- no kind has a blank one among its columns
full : List Class → Bool
full l = all_of (λ x. not (is_blank x)) l

full_of : (kind : ℕ) → full (get_or columns kind []) ≡ true
unfolding all_of full
full_of kind = entry_of full columns kind refl refl

blank_past : (l : List Class) (j : ℕ) → full l ≡ true → is_blank (get_or l j Blank) ≡ true → length l ≤ j
unfolding all_of full
blank_past [] j h e = omega arith
blank_past (x ∷ l) zero h e = absurd (false≢true (sym (not_true (is_blank x) (and_left (not (is_blank x)) (full l) h)) ∙ e))
blank_past (x ∷ l) (suc j) h e = omega (arith, blank_past l j (and_right (not (is_blank x)) (full l) h) e)

blank_until : (l : List Class) (j : ℕ) → length l ≤ j → is_blank (get_or l j Blank) ≡ true
blank_until l j h = ap is_blank (get_or-eq_default l Blank h)

-- a row has a number at least, that of its kind
pub width_zero : (kind n : ℕ) → n ≡ 0 → false ≡ eqb n (suc (width kind))
width_zero kind n h = sym (ne_eqb _ _ (λ i. omega (arith, h, i)))

-- the column after a row's numbers is one of its kind's: the row has too few
pub width_longer : (kind n : ℕ) → (n ≡ 0 → ⊥) → is_blank (class_of kind n) ≡ false → false ≡ eqb n (suc (width kind))
unfolding width
width_longer kind zero h e = absurd (h refl)
width_longer kind (suc c) h e = go (dec_le (length (get_or columns kind [])) c)
  where
    go : Dec (length (get_or columns kind []) ≤ c) → false ≡ eqb (suc c) (suc (length (get_or columns kind [])))
    go (yes w) = absurd (false≢true (sym e ∙ blank_until (get_or columns kind []) c w))
    go (no w) = sym (ne_eqb _ _ (λ q. w (omega (arith, q))))

-- else it has as many as the last of them is one of its kind's
pub width_last : (kind n : ℕ) → (n ≡ 0 → ⊥) → is_blank (class_of kind n) ≡ true → not (is_blank (class_of kind (n - 1))) ≡ eqb n (suc (width kind))
unfolding width
width_last kind zero h e = absurd (h refl)
width_last kind (suc zero) h e =
    let w = blank_past (get_or columns kind []) 0 (full_of kind) e in
    sym (eq-eqb 1 (suc (length (get_or columns kind []))) (omega (arith, w)))
width_last kind (suc (suc c)) h e = go (dec_le (length (get_or columns kind [])) c)
  where
    w : length (get_or columns kind []) ≤ suc c
    w = blank_past (get_or columns kind []) (suc c) (full_of kind) e

    q : suc (suc c) - 1 ≡ suc c
    q = omega arith

    go : Dec (length (get_or columns kind []) ≤ c) → not (is_blank (class_of kind (suc (suc c) - 1))) ≡ eqb (suc (suc c)) (suc (length (get_or columns kind [])))
    go (yes s) = rw (q, blank_until (get_or columns kind []) c s) (sym (ne_eqb _ _ (λ i. omega (arith, i, s))))
    go (no s) = rw (q, false_from_ne_true _ (λ t. s (blank_past (get_or columns kind []) c (full_of kind) t))) (sym (eq-eqb _ _ (omega (arith, w, s))))

-- past the tenth column all is blank
pub class_wide : (kind c : ℕ) → 10 ≤ c → class_of kind c ≡ Blank
unfolding width
class_wide kind zero h = absurd (omega arith)
class_wide kind (suc c) h =
    let w : length (get_or columns kind []) ≤ c = omega (arith, width_most kind) in get_or-eq_default (get_or columns kind []) Blank w

-- blank columns behind the others change none
pub padded_blank : (l : List Class) (n i : ℕ) → get_or (l ++ replicate n Blank) i Blank ≡ get_or l i Blank
padded_blank [] zero i = refl
padded_blank [] (suc n) zero = refl
padded_blank [] (suc n) (suc i) = padded_blank [] n i
padded_blank (x ∷ l) n zero = refl
padded_blank (x ∷ l) n (suc i) = padded_blank l n i

-- the table that has each kind's columns with blank ones behind
pub padded_at : (t : List (List Class)) (kind : ℕ) (d : List Class) → kind < length t → get_or (map padded t) kind d ≡ padded (get_or t kind [])
padded_at [] kind d h = absurd (omega arith)
padded_at (l ∷ t) zero d h = refl
padded_at (l ∷ t) (suc kind) d h = padded_at t kind d (omega arith)

-- all columns from the end on are the same
pub clamped : (l : List Class) (i m : ℕ) → m ≤ i → (m < i → length l ≤ m) → get_or l m Blank ≡ get_or l i Blank
clamped l i m a b = go (dec_lt m i)
  where
    go : Dec (m < i) → get_or l m Blank ≡ get_or l i Blank
    go (yes h) = let s = b h in get_or-eq_default l Blank s ∙ sym (get_or-eq_default l Blank (omega arith))
    go (no h) = let e : m ≡ i = omega arith in rw e
