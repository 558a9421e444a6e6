-- Tests that code makes one after another, and the test or the answer that the definition puts together of them. Assumes nothing.
use Prim.Native.Nat.{ℕ, ◌<◌, ◌≤◌}
use mathlib.Core.Path.{◌≡◌, sym, ◌∙◌}
use mathlib.Core.Bool.{Bool, true, false, cond, ◌&&◌, ◌||◌, and-false, and-true}
use Rattle.std.specs.Prelude.{Option, Some}
use lib.Dec.{leb}
use borrow.Author.Tests.{le-leb, lt-leb}
use Rattle.loops.specs.Search.{or_else, some_if}

-- ---- what a call gave, r, tells of what it is, b

pub matched : {A : Type 0} {x y z : A} → x ≡ y → x ≡ z → y ≡ z
matched e f = sym e ∙ f

pub told : {r b v : Bool} → r ≡ b → r ≡ v → b ≡ v
told = matched

-- ---- of a choice

pub chosen : {A : Type 0} {r : A} (b : Bool) (x y : A) → b ≡ true → r ≡ x → r ≡ cond b x y
chosen b x y t e = rw t e

-- ---- of the two halves

pub both_told : {b p q r : Bool} → b ≡ p → b ≡ true → r ≡ q → r ≡ (p && q)
both_told e h f = rw (sym e ∙ h) f

pub one_told : (q : Bool) {b p : Bool} → b ≡ p → b ≡ false → b ≡ (p && q)
one_told q e h = rw (sym e ∙ h) h

pub or_no : {a b r : Bool} → a ≡ false → r ≡ b → r ≡ (a || b)
or_no e q = rw e q

-- the second half first
pub half_fails : {r b : Bool} (a : Bool) → r ≡ b → r ≡ false → false ≡ (a && b)
half_fails a e f = rw (sym e ∙ f, and-false)

pub half_holds : {r b s a : Bool} → r ≡ b → r ≡ true → s ≡ a → s ≡ (a && b)
half_holds e f q = rw (sym e ∙ f, and-true) q

-- between two ends, the low one first
pub range_from : (low high : ℕ) {x v : ℕ} → x ≡ v → low ≤ x → leb x high ≡ (leb low v && leb v high)
range_from low high {x} e l = rw (← e, le-leb low x l)

pub range_under : (low high : ℕ) {x v : ℕ} → x ≡ v → x < low → leb low x ≡ (leb low v && leb v high)
range_under low high {x} e l = rw (← e, lt-leb low x l)

-- ---- of a refusal

module _ {A : Type 0} {b : Bool} (x : A) where
  pub else_yes : (y : Option A) → b ≡ true → Some x ≡ or_else (some_if b x) y
  else_yes y e = rw e

  pub else_no : {y v : Option A} → b ≡ false → v ≡ y → v ≡ or_else (some_if b x) y
  else_no e q = rw e q
