-- Two accepted sheets, the second the first with d added to every instant. Unless d is below -4,000,000,000,000 no instant becomes the number that
-- stands for none, and the second typed sheet is the first with every instant moved by d. Else no row has a column t, and the two sheets have the
-- same numbers. Assumes nothing.
use Prim.Native.Nat.{ℕ, suc, ◌-◌, ◌/◌, ◌<◌}
use mathlib.Core.Path.{◌≡◌, refl, sym, ◌∙◌, ap, subst}
use mathlib.Core.Bool.{Bool, true, false, cond, ◌&&◌, ◌||◌, false≢true}
use mathlib.Core.List.{List}
use native.Mathlib.Omega.{arith}
use lib.IntN.{ℤ, pos, negsuc, ◌+ℤ◌}
use lib.Dec.{T, eqb, ltb, leb, eqb→eq}
use borrow.Author.Tests.{ltb-false, leb-true, leb-false}
use Rattle.loops.specs.Numbers.{to_nat}
use Rattle.rows.specs.declared.Class.{Class}
use Rattle.rows.specs.declared.Class.TheVariants.{Instant, OptionalNumber, OptionalInstant, OptionalDuration}
use Rattle.rows.specs.Table.{class_of}
use Rattle.rows.specs.Ranges.{between, is_none, in_range, in_class}
use Rattle.rows.specs.Cells.{cell, num}
use Rattle.calendar.specs.inner.Moves.{Moves, by}
use Rattle.model.specs.Sheet.{Cell, number, instant, nothing, read, as_int, is_kind, Sheet, sheet}
use Rattle.model.specs.inner.Mapped.{map_cell, map_sheet}
use Rattle.shift.specs.Shift.{shifted, Shifted}
use Rattle.shift.specs.inner.InClass.{InClass}
use Rattle.shift.proofs.Numbers.{numbers}
use Rattle.shift.proofs.Bare.{Bare}

pub cell_same : {A : Type 0} (x : Cell A) → map_cell (λ a. a) x ≡ x
cell_same (number x) = refl
cell_same (instant x) = refl
cell_same nothing = refl

-- a sheet's instants may be moved
abbrev pub moving : Moves Sheet
moving = record { map = λ f s. map_sheet f s; same = λ s i. record { count = s.count; cell = λ k c. cell_same (s.cell k c) i } }

-- d is below -4,000,000,000,000
abbrev pub far : ℤ → Bool
far (pos n) = false
far (negsuc n) = leb 4000000000000 n

-- ---- not far

-- what may become of an instant that d is added to
near_none : (n : ℕ) (d : ℤ) → far d ≡ false → is_none (pos n +ℤ d) ≡ false
unfolding is_none between
near_none n (pos e) h = refl
near_none n (negsuc e) h = go (ltb n (suc e)) (leb-false 4000000000000 e h)
  where
    go : (b : Bool) → e < 4000000000000 → is_none (cond b (negsuc (suc e - suc n)) (pos (n - suc e))) ≡ false
    go true l = low (leb (suc e - suc n) 9223372036854775807) (leb 9223372036854775807 (suc e - suc n)) (λ t. omega (arith, leb-true 9223372036854775807 (suc e - suc n) t))
      where
        low : (a b : Bool) → (b ≡ true → ⊥) → (a && b) ≡ false
        low true true k = absurd (k refl)
        low true false k = refl
        low false b k = refl
    go false l = refl

-- an instant of the class is not negative
exact : (x : ℤ) → in_class Instant x ≡ true → pos (to_nat x) ≡ x
unfolding in_class in_range between
exact (pos x) h = refl
exact (negsuc x) h = absurd (false≢true h)

-- of the class OptionalInstant: none, or an instant
read_exact : (x : ℤ) → in_class OptionalInstant x ≡ true → read OptionalInstant x ≡ cond (is_none x) nothing (instant x)
unfolding in_class in_range between is_none
read_exact (pos x) h = refl
read_exact (negsuc x) h = rw h

kept : (f : ℤ → ℤ) (x : ℤ) (n : Bool) → cond n nothing (number x) ≡ map_cell f (cond n nothing (number x))
kept f x true = refl
kept f x false = refl

-- of the class OptionalInstant: none stays none, and an instant stays an instant
maybe_moved : (d : ℤ) → far d ≡ false → (x : ℤ)
    → in_class OptionalInstant x ≡ true
    → in_class OptionalInstant (shifted d OptionalInstant x) ≡ true
    → read OptionalInstant (shifted d OptionalInstant x) ≡ map_cell (by d) (read OptionalInstant x)
unfolding is_none between in_class in_range
maybe_moved d near (pos n) p q = read_exact (pos n +ℤ d) q ∙ ap (λ b. cond b nothing (instant (pos n +ℤ d))) (near_none n d near)
maybe_moved d near (negsuc n) p q = rw p

module _ (d : ℤ) (near : far d ≡ false) (x : ℤ) where
  read_moved : (c : Class)
      → in_class c x ≡ true
      → in_class c (shifted d c x) ≡ true
      → read c (shifted d c x) ≡ map_cell (by d) (read c x)
  read_moved Instant p q = ap instant (exact (x +ℤ d) q ∙ ap (by d) (sym (exact x p)))
  read_moved OptionalInstant p q = maybe_moved d near x p q
  read_moved OptionalNumber p q = kept (by d) x (is_none x)
  read_moved OptionalDuration p q = kept (by d) x (is_none x)
  read_moved _ p q = refl

module _ (d : ℤ) (a b : List ℤ) (h : Shifted d a b) where
  -- a kind is no instant
  kinds : (k : ℕ) → num b k 0 ≡ num a k 0
  kinds k = ap to_nat (h.cells k 0)

  in_b : InClass b → (k c : ℕ) → in_class (class_of (num a k 0) c) (shifted d (class_of (num a k 0) c) (cell a k c)) ≡ true
  in_b okB k c = rw (← h.cells k c, ← kinds k) (okB.columns k c)

  cell_moved : far d ≡ false → InClass a → InClass b → (k c : ℕ) → (sheet b).cell k c ≡ map_cell (by d) ((sheet a).cell k c)
  cell_moved near okA okB k c =
      ap (λ z. read (class_of z c) (cell b k c)) (kinds k)
      ∙ ap (read (class_of (num a k 0) c)) (h.cells k c)
      ∙ read_moved d near (cell a k c) (class_of (num a k 0) c) (okA.columns k c) (in_b okB k c)

  pub sheet_moved : far d ≡ false → InClass a → InClass b → sheet b ≡ map_sheet (by d) (sheet a)
  sheet_moved near okA okB = λ i. record { count = h.as_long i / 10; cell = λ k c. cell_moved near okA okB k c i }

-- ---- far

-- the number of a cell is no instant
time_int : (x : ℤ) → as_int (read OptionalInstant x) ≡ pos 0
time_int (pos x) = refl
time_int (negsuc x) = refl

int_same : (d x : ℤ) (c : Class) → as_int (read c (shifted d c x)) ≡ as_int (read c x)
int_same d x OptionalInstant = time_int (shifted d OptionalInstant x) ∙ sym (time_int x)
int_same d x _ = refl

-- an instant so far back is in no class
too_far : (d x : ℤ) → far d ≡ true → in_class Instant x ≡ true → in_class Instant (x +ℤ d) ≡ true → ⊥
unfolding in_class in_range between
too_far (pos e) x f p q = false≢true f
too_far (negsuc e) (negsuc n) f p q = false≢true p
too_far (negsuc e) (pos n) f p q = go (ltb n (suc e)) refl q
  where
    high : (z a : Bool) → ((z && a) || false) ≡ true → a ≡ true
    high true true h = refl
    high true false h = h
    high false a h = absurd (false≢true h)

    go : (b : Bool) → ltb n (suc e) ≡ b → in_class Instant (cond b (negsuc (suc e - suc n)) (pos (n - suc e))) ≡ true → ⊥
    go true t h = false≢true h
    go false t h = omega (arith, ltb-false n (suc e) t, leb-true 4000000000000 e f, leb-true n 4000000000000 (high (leb 0 n) (leb n 4000000000000) p))

module _ (d : ℤ) (a b : List ℤ) (h : Shifted d a b) where
  pub numbers_same : numbers (sheet b) ≡ numbers (sheet a)
  numbers_same = λ i. record { count = h.as_long i / 10; cell = λ k c. number (int k c i) }
    where
      int : (k c : ℕ) → as_int ((sheet b).cell k c) ≡ as_int ((sheet a).cell k c)
      int k c =
          ap (λ z. as_int (read (class_of z c) (cell b k c))) (kinds d a b h k)
          ∙ ap (λ z. as_int (read (class_of (num a k 0) c) z)) (h.cells k c)
          ∙ int_same d (cell a k c) (class_of (num a k 0) c)

  no_instant : far d ≡ true → InClass a → InClass b → (k c : ℕ) → class_of (num a k 0) c ≡ Instant → ⊥
  no_instant f okA okB k c e = too_far d (cell a k c) f (rw e at (okA.columns k c)) (rw e at (in_b d a b h okB k c))

  no_kind : far d ≡ true → InClass a → InClass b → (kind c : ℕ) → class_of kind c ≡ Instant → (k : ℕ) → is_kind (sheet a) kind k ≡ false
  no_kind f okA okB kind c e k = go (eqb (num a k 0) kind) refl
    where
      go : (t : Bool) → eqb (num a k 0) kind ≡ t → t ≡ false
      go true q = absurd (no_instant f okA okB k c (ap (λ z. class_of z c) (eqb→eq (num a k 0) kind (subst T (sym q) tt)) ∙ e))
      go false q = refl

  pub bare : far d ≡ true → InClass a → InClass b → Bare (sheet a)
  bare f okA okB = record { bookings = no_kind f okA okB 23 4 refl; spans = no_kind f okA okB 24 3 refl }

  pub bare' : far d ≡ true → InClass a → InClass b → Bare (sheet b)
  bare' f okA okB =
      record {
        bookings = λ k. ap (λ z. eqb z 23) (kinds d a b h k) ∙ no_kind f okA okB 23 4 refl k;
        spans = λ k. ap (λ z. eqb z 24) (kinds d a b h k) ∙ no_kind f okA okB 24 3 refl k;
      }
