-- What stands in a program's buffer of bytes after it has printed a text; the parts of the buffers that it lends. Assumes nothing.
use Rattle.std.specs.Prelude.{Result, Ok, Err}
use Rattle.refusals.specs.Refusals.{at, number_of}
use Rattle.refusals.specs.declared.Reason.{Reason}
use Rattle.refusals.specs.declared.Reason.TheVariants.{Misshapen, UnknownKind, OutOfRange, Stray, Twice, Stretched, Full, Overlong, Misspelt, Crowded, Malformed, Undated, Overfull}
use Rattle.refusals.specs.declared.Refusal.{Refusal}
use Prim.Native.Nat.{ℕ, zero, suc, ◌+◌, ◌*◌, ◌/◌, ◌^◌, ◌<◌, ◌≤◌}
use mathlib.Core.Path.{◌≡◌, sym, ap, ◌∙◌}
use mathlib.Core.Bool.{Bool, true, false, cond}
use mathlib.Core.List.{List, [], ◌∷◌}
use native.Mathlib.Nat.{mul-le-mul_right}
use native.Mathlib.Omega.{arith}
use lib.Dec.{ltb}
use lib.IntN.{ℤ, pos, negsuc, nat_abs}
use lib.ListN.{length, get_or, take, drop}
use lib.Seq.{sets-eq, take_at, length-take-le}
use mir.Syntax.{w64}
use mir.Val.{Val, Fits}
use denote.Signed.{SInt}
use denote.Array.{each}
use denote.Shadow.{shadow}
use Rattle.loops.specs.inner.Wrote.{Wrote}
use Rattle.text_fields.specs.Parts.{parts}
use Rattle.text.specs.Text.{answer_from, answer_of, rows_of, rows_after}
use Rattle.text.proofs.TextLaws.{accepted_rows}
use Rattle.refusals.proofs.AnswerLaws.{no_accept}
use Rattle.printing.specs.Printed.{printed_refused}
use Rattle.printing.proofs.FitLaws.{Small, refused_fits}
use Rattle.text_program.specs.Text.{printed_text}

-- ---- numbers of 64 bits

each_small : (xs : List ℤ) (us : List Val) (i : ℕ) → shadow (each ℤ (SInt w64).own_val xs us) → nat_abs (get_or xs i (pos 0)) ≤ 2 ^ 63
each_small [] us i p = omega arith
each_small (x ∷ xs) [] i p = absurd p
each_small (pos n ∷ xs) (u ∷ us) zero p = omega (arith, p.0.1)
each_small (negsuc n ∷ xs) (u ∷ us) zero p = omega (arith, p.0.1)
each_small (x ∷ xs) (u ∷ us) (suc i) p = each_small xs us i p.1

-- what an array of the code holds
pub small_numbers : (xs : List ℤ) (us : List Val) → shadow (each ℤ (SInt w64).own_val xs us) → Small xs
small_numbers xs us p i = each_small xs us i p

-- what an answer of the code holds
abbrev pub Bounded : Result ℕ Refusal → Type 0
Bounded (Ok n) = Unit {0}
Bounded (Err e) = e.place < 2 ^ 64

-- ---- the buffer

-- bytes that were put at the start of a buffer of `most` bytes, which holds them
pub stands : {most : ℕ} (o p : List ℕ) {o' : List ℕ} {r : ℕ} → length o ≡ most → length p ≤ most → Wrote o 0 o' r p → (r ≤ most) × (take r o' ≡ p)
stands o p {r = r} h l w =
    let z : r ≡ length p = omega (arith, w.place) in
    (omega arith, rw w.buffer (rw (sets-eq p o 0 (omega arith)) (take_at p (drop (0 + length p) o) r (sym z))))

-- as many of its bytes as there are
pub printed_first : (n : ℕ) (o : List ℕ) {most : ℕ} → n ≤ most → length o ≡ most → n ≡ length (take n o)
printed_first n o h l = sym (length-take-le n o (omega arith))

-- a refusal
reason_small : (r : Reason) → number_of r < 2 ^ 64
reason_small Misshapen = omega arith
reason_small UnknownKind = omega arith
reason_small OutOfRange = omega arith
reason_small Stray = omega arith
reason_small Twice = omega arith
reason_small Stretched = omega arith
reason_small Full = omega arith
reason_small Overlong = omega arith
reason_small Misspelt = omega arith
reason_small Crowded = omega arith
reason_small Malformed = omega arith
reason_small Undated = omega arith
reason_small Overfull = omega arith

pub refusal_fits : (e : Refusal) → e.place < 2 ^ 64 → length (printed_refused (number_of e.reason) e.place) ≤ 50
refusal_fits e l = refused_fits (number_of e.reason) e.place (reason_small e.reason) l

module _ {o o' : List ℕ} {r most : ℕ} (e : Refusal) (w : Wrote o 0 o' r (printed_refused (number_of e.reason) e.place)) (long : length o ≡ most) (wide : 50 ≤ most)
    (l : e.place < 2 ^ 64) where
  stood : (r ≤ most) × (take r o' ≡ printed_refused (number_of e.reason) e.place)
  stood = stands o (printed_refused (number_of e.reason) e.place) long (omega (arith, refusal_fits e l)) w

  pub refused_within : r ≤ most
  refused_within = stood.0

  pub refused_first : take r o' ≡ printed_refused (number_of e.reason) e.place
  refused_first = stood.1

-- ---- a text

module _ (text : List ℕ) (lent : List ℤ) (room : 8000 ≡ length lent) {a : Result ℕ Refusal} (told : a ≡ answer_of text (length lent / 10)) where
  answer_is : a ≡ answer_of text 800
  answer_is = let e : length lent / 10 ≡ 800 = omega arith in rw e at told

  -- the rows of an accepted text
  rows_are : (n : ℕ) → answer_of text 800 ≡ Ok n → (length (rows_of (parts 10 text)) ≡ 10 * n) × (n ≤ 800)
  unfolding answer_of
  rows_are n e = go (ltb 65536 (length text)) e
    where
      go : (t : Bool) → cond t (Err (at Overlong 0)) (answer_from 800 0 (parts 10 text)) ≡ Ok n → (length (rows_of (parts 10 text)) ≡ 10 * n) × (n ≤ 800)
      go true e = absurd (no_accept e)
      go false e = let w = accepted_rows 800 0 (parts 10 text) n (omega arith) e in (omega (arith, w.0), w.1)

  -- up to ten numbers of each of them lie within the rows lent
  module _ {n : ℕ} (q : a ≡ Ok n) (m : ℕ) (h : m ≤ 10) where
    few_numbers : m * n ≤ 8000
    few_numbers = omega (arith, mul-le-mul_right n h, (rows_are n (sym answer_is ∙ q)).1)

    pub rows_fit : Fits w64 (m * n)
    rows_fit = record { fits = omega (arith, few_numbers) }

    pub rows_within : (rows : List ℤ) → length rows ≡ 8000 → m * n ≤ length rows
    rows_within rows l = omega (arith, few_numbers)

    pub rows_first : (rows : List ℤ) → length rows ≡ 8000 → m * n ≡ length (take (m * n) rows)
    rows_first rows l = sym (length-take-le (m * n) rows (rows_within rows l))

  -- what is printed of it, where rows are printed so
  module _ (of_rows : List ℤ → List ℕ) where
    pub text_refused : {o o' : List ℕ} {r most : ℕ} {e : Refusal} → Wrote o 0 o' r (printed_refused (number_of e.reason) e.place) → length o ≡ most → 50 ≤ most
        → a ≡ Err e → e.place < 2 ^ 64 → take r o' ≡ printed_text of_rows text
    unfolding printed_text
    text_refused {e = e} w long wide q l =
        let z : answer_of text 800 ≡ Err e = sym answer_is ∙ q in rw z (refused_first e w long wide l)

    pub text_accepted : {rows : List ℤ} {n : ℕ} (bytes : List ℕ) → rows ≡ rows_after (answer_of text (length lent / 10)) text lent → a ≡ Ok n
        → bytes ≡ of_rows (take (10 * n) rows) → bytes ≡ printed_text of_rows text
    unfolding printed_text
    text_accepted {n = n} bytes e q p =
        let z : answer_of text 800 ≡ Ok n = sym answer_is ∙ q in
        let w : answer_of text (length lent / 10) ≡ Ok n = sym told ∙ q in
        let first : take (10 * n) _ ≡ rows_of (parts 10 text) = ap (take (10 * n)) (rw w at e) ∙ take_at (rows_of (parts 10 text)) _ (10 * n) (rows_are n z).0 in
        rw z (p ∙ ap of_rows first)
