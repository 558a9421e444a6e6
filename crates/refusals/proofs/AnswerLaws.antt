-- What an answer tells. Assumes nothing.
use Prim.Native.Nat.{ℕ, ◌*◌}
use mathlib.Core.Path.{◌≡◌, refl, sym, ap, ◌∙◌}
use mathlib.Core.List.{List}
use Rattle.std.specs.Prelude.{Option, None, Some, Result, Ok, Err}
use native.Mathlib.Omega.{arith}
use lib.IntN.{ℤ}
use lib.ListN.{length, take}
use lib.Seq.{take_at}
use Rattle.refusals.specs.declared.Refusal.{Refusal}
use Rattle.refusals.specs.Lending.{answered, lent_after}

pub no_accept : {e : Refusal} {n : ℕ} → ◌≡◌ {A = Result ℕ Refusal} (Err e) (Ok n) → ⊥
no_accept e = let z : ◌≡◌ {A = ℕ} 0 1 = cc in omega arith

pub same_count : {n m : ℕ} → ◌≡◌ {A = Result ℕ Refusal} (Ok n) (Ok m) → n ≡ m
same_count e = cc

-- ---- of a call that accepted

pub unrefused : (o : Option Refusal) (count : ℕ) {n : ℕ} → answered o count ≡ Ok n → o ≡ None
unrefused None count e = refl
unrefused (Some x) count e = absurd (no_accept e)

pub accepted_count : (o : Option Refusal) (count : ℕ) {n : ℕ} → answered o count ≡ Ok n → n ≡ count
accepted_count None count e = sym (same_count e)
accepted_count (Some x) count e = absurd (no_accept e)

-- the buffer begins with the numbers
pub lent_first : (o : Option Refusal) (numbers before : List ℤ) (count : ℕ) {n : ℕ} → answered o count ≡ Ok n
    → take (length numbers) (lent_after o numbers before) ≡ numbers
lent_first None numbers before count e = take_at numbers _ (length numbers) refl
lent_first (Some x) numbers before count e = absurd (no_accept e)

-- these are as many lines of w numbers as it counted
pub accepted_lines : (w : ℕ) (o : Option Refusal) (numbers before : List ℤ) {count n : ℕ} → length numbers ≡ w * count → answered o count ≡ Ok n
    → (n ≡ count) × (take (w * n) (lent_after o numbers before) ≡ numbers)
accepted_lines w o numbers before {count} l e =
    let z = accepted_count o count e in
    (z, ap (λ m. take m (lent_after o numbers before)) (ap (λ m. w * m) z ∙ sym l) ∙ lent_first o numbers before count e)
