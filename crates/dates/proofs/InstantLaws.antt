-- An instant lies in the range; letters in the other case give the same. Assumes nothing.
use Prim.Native.Nat.{ℕ, zero, suc, ◌+◌, ◌-◌, ◌≤◌}
use mathlib.Core.Bool.{Bool, true, false, ◌&&◌}
use mathlib.Core.List.{List, [], ◌∷◌}
use Rattle.std.specs.Prelude.{Some}
use Rattle.std.proofs.lemmas.Option.{none-some, same_Some}
use mathlib.Core.Path.{◌≡◌, refl, sym, ap, ap₂, ◌∙◌}
use native.Mathlib.Omega.{arith}
use lib.Dec.{leb, eqb}
use lib.ListN.{length, get_or, take, drop, length-map, get_or-map}
use lib.Seq.{take-nil, drop-drop}
use borrow.Author.Tests.{leb-true}
use Rattle.loops.specs.Lists.{all_of}
use Rattle.loops.specs.Search.{some_if}
use Rattle.loops.proofs.BoolLaws.{and_left, and_right, both}
use Rattle.text_fields.specs.Spelling.{is_digit}
use Rattle.letters.specs.Letters.{capital, capitals, is_letter, LETTER_T, LETTER_Z}
use Rattle.letters.proofs.LetterLaws.{capital_twice, digits_kept, digits_unseen, capitals_take, capitals_drop}
use Rattle.dates.specs.DateTime.{field, date, time, date_time, exists, in_range, milliseconds, epoch, last_instant, instant}

pub instant_most : (s : List ℕ) (a : ℕ) → Some a ≡ instant s → a ≤ last_instant
unfolding instant
instant_most s a e = go (date_time s) (exists s) (leb epoch (milliseconds s)) (leb (milliseconds s) (epoch + last_instant)) refl e
  where
    go : (p q r t : Bool) → leb (milliseconds s) (epoch + last_instant) ≡ t → Some a ≡ some_if (p && (q && (r && t))) (milliseconds s - epoch) → a ≤ last_instant
    go true true true true h k = let z = same_Some _ _ k in omega (arith, leb-true (milliseconds s) (epoch + last_instant) h)
    go true true true false h k = absurd (none-some _ (sym k))
    go true true false t h k = absurd (none-some _ (sym k))
    go true false r t h k = absurd (none-some _ (sym k))
    go false q r t h k = absurd (none-some _ (sym k))

-- ---- letters in the other case

-- what all of a part passes, all of its parts pass
all_shorter : (p : ℕ → Bool) (m n : ℕ) (l : List ℕ) → m ≤ n → all_of p (take n l) ≡ true → all_of p (take m l) ≡ true
unfolding all_of
all_shorter p zero n l h k = refl
all_shorter p (suc m) zero l h k = absurd (omega arith)
all_shorter p (suc m) (suc n) [] h k = refl
all_shorter p (suc m) (suc n) (x ∷ l) h k = both (and_left (p x) (all_of p (take n l)) k) (all_shorter p m n l (omega arith) (and_right (p x) (all_of p (take n l)) k))

all_within : (p : ℕ → Bool) (i m n : ℕ) (l : List ℕ) → i + m ≤ n → all_of p (take n l) ≡ true → all_of p (take m (drop i l)) ≡ true
unfolding all_of
all_within p zero m n l h k = all_shorter p m n l (omega arith) k
all_within p (suc i) m zero l h k = absurd (omega arith)
all_within p (suc i) m (suc n) [] h k = rw (take-nil {A = ℕ} m)
all_within p (suc i) m (suc n) (x ∷ l) h k = all_within p i m n l (omega arith) (and_right (p x) (all_of p (take n l)) k)

field_capitals : (i n : ℕ) (s : List ℕ) → field i n (capitals s) ≡ capitals (field i n s)
field_capitals i n s = ap (take n) (capitals_drop i s) ∙ capitals_take n (drop i s)

letter_unseen : (c i : ℕ) (s : List ℕ) → is_letter c (get_or (capitals s) i 0) ≡ is_letter c (get_or s i 0)
unfolding capital
letter_unseen c i s = ap (λ (x : ℕ). eqb x c) (ap capital (get_or-map capital s i 0) ∙ capital_twice (get_or s i 0))

digits_field : (i n : ℕ) (s : List ℕ) → all_of is_digit (field i n (capitals s)) ≡ all_of is_digit (field i n s)
digits_field i n s = ap (all_of is_digit) (field_capitals i n s) ∙ digits_unseen (field i n s)

pub date_time_unseen : (s : List ℕ) → date_time (capitals s) ≡ date_time s
unfolding date_time date time
date_time_unseen s =
    ap₂ ◌&&◌ (ap (λ (n : ℕ). eqb n 16) (length-map s capital))
    (ap₂ ◌&&◌ (digits_field 0 8 s) (ap₂ ◌&&◌ (letter_unseen LETTER_T 8 s) (ap₂ ◌&&◌ (digits_field 9 6 s) (letter_unseen LETTER_Z 15 s))))

-- the fields of a date and time are digits, which have no case
module _ (s : List ℕ) (h : date_time s ≡ true) where
  dated : all_of is_digit (field 0 8 s) ≡ true
  unfolding date_time date
  dated =
      let k = and_right (eqb (length s) 16) (date s && (is_letter LETTER_T (get_or s 8 0) && time s)) h in
      and_left (date s) (is_letter LETTER_T (get_or s 8 0) && time s) k

  timed : all_of is_digit (field 9 6 s) ≡ true
  unfolding date_time time
  timed =
      let k = and_right (eqb (length s) 16) (date s && (is_letter LETTER_T (get_or s 8 0) && time s)) h in
      let l = and_right (date s) (is_letter LETTER_T (get_or s 8 0) && time s) k in
      let m = and_right (is_letter LETTER_T (get_or s 8 0)) (time s) l in
      and_left (all_of is_digit (field 9 6 s)) (is_letter LETTER_Z (get_or s 15 0)) m

  date_kept : (j m : ℕ) → j + m ≤ 8 → field j m (capitals s) ≡ field j m s
  date_kept j m l = field_capitals j m s ∙ digits_kept (field j m s) (all_within is_digit j m 8 s l dated)

  time_kept : (j m : ℕ) → j + m ≤ 6 → field (9 + j) m (capitals s) ≡ field (9 + j) m s
  time_kept j m l =
      field_capitals (9 + j) m s
      ∙ digits_kept (field (9 + j) m s) (ap (λ (t : List ℕ). all_of is_digit (take m t)) (sym (drop-drop j 9 s)) ∙ all_within is_digit j m 6 (drop 9 s) l timed)

  exists_unseen : exists (capitals s) ≡ exists s
  unfolding exists
  exists_unseen =
      rw (date_kept 0 4 (omega arith), date_kept 4 2 (omega arith), date_kept 6 2 (omega arith), time_kept 0 2 (omega arith), time_kept 2 2 (omega arith), time_kept 4 2 (omega arith))

  milliseconds_unseen : milliseconds (capitals s) ≡ milliseconds s
  unfolding milliseconds
  milliseconds_unseen =
      rw (date_kept 0 4 (omega arith), date_kept 4 2 (omega arith), date_kept 6 2 (omega arith), time_kept 0 2 (omega arith), time_kept 2 2 (omega arith), time_kept 4 2 (omega arith))

pub instant_unseen : (s : List ℕ) → instant (capitals s) ≡ instant s
unfolding instant
instant_unseen s =
    ap (λ (b : Bool). some_if (b && (exists (capitals s) && in_range (milliseconds (capitals s)))) (milliseconds (capitals s) - epoch)) (date_time_unseen s) ∙ go (date_time s) refl
  where
    go : (b : Bool) → date_time s ≡ b
        → some_if (b && (exists (capitals s) && in_range (milliseconds (capitals s)))) (milliseconds (capitals s) - epoch) ≡ some_if (b && (exists s && in_range (milliseconds s))) (milliseconds s - epoch)
    go true h = rw (exists_unseen s h, milliseconds_unseen s h)
    go false h = refl
