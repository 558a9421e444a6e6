-- Signed quantities summed as natural numbers, and what is more than their sum. Assumes nothing.
use Prim.Native.Nat.{ℕ, zero, suc, ◌+◌, ◌-◌, ◌*◌, ◌<◌, ◌≤◌}
use mathlib.Core.Path.{◌≡◌, refl, ap, sym, ◌∙◌}
use mathlib.Core.Bool.{Bool, true, false, cond, ◌&&◌, and-true}
use mathlib.Core.List.{List, map, foldl}
use Rattle.std.specs.Prelude.{Some}
use native.Mathlib.Omega.{arith}
use native.Mathlib.Decide.{dec_lt}
use lib.Dec.{eqb, ltb}
use lib.IntN.{ℤ, pos, negsuc, sub_ℕ, nat_abs, ◌+ℤ◌, ◌-ℤ◌}
use lib.Signed.{lt_z}
use mir.Syntax.{w64}
use mir.Val.{SFits}
use borrow.Author.Tests.{lt-ltb, le-ltb}
use Rattle.loops.specs.Lists.{given}
use Rattle.loops.specs.Numbers.{max_z}
use Rattle.loops.specs.inner.Chain.{only_at}
use Rattle.chains.specs.Places.{places}
use Rattle.chains.proofs.PlaceLaws.{foldl_only}
use Rattle.loops.proofs.BoolLaws.{and_left}
use Rattle.loops.proofs.IntegerLaws.{mag_abs, left_size}
use Rattle.loops.proofs.ListLaws.{map_collect, foldl_collect}
use Rattle.loops.proofs.RangeLaws.{fold_ext}
use Rattle.rows.specs.Cells.{row_count, cell, num, is}
use Rattle.rows.specs.declared.Class.TheVariants.{Number}
use Rattle.rows.specs.Ranges.{in_class}
use Rattle.sheet.specs.inner.Accepted.{Accepted}
use Rattle.sheet.specs.Places.{place_of}
use Rattle.sheet.proofs.Lookups.{is_num}
use Rattle.owners.specs.inner.Owners.{owner_kind, owned_by}
use Rattle.model.specs.Sheet.{sheet}
use Rattle.model.specs.Activity.{ResourceRequirement, requirement_at, requirements}
use Rattle.model.proofs.OwnedLaws.{of_activity}
use Rattle.model.proofs.Accepting.{in_class_lem}
use Rattle.definition.specs.CheckAssignments.{units}
use Rattle.rows.proofs.Signed.{number_low, number_high}
use Rattle.pieces.specs.inner.Bookings.{index_key}
use Rattle.pieces.proofs.Indices.{key_neg, key_pos}
use Rattle.check1_assignments.specs.inner.Bookings.{quantities}

-- ---- differences of natural numbers

sub_is : (p m : ℕ) → pos p -ℤ pos m ≡ sub_ℕ p m
sub_is p zero = rw (le-ltb p 0 (omega arith)) (ap pos (omega arith))
sub_is p (suc n) = refl

sub_same : (a b c d : ℕ) → a + d ≡ c + b → sub_ℕ a b ≡ sub_ℕ c d
sub_same a b c d e = go (dec_lt a b)
  where
    go : Dec (a < b) → sub_ℕ a b ≡ sub_ℕ c d
    go (yes l) = rw (lt-ltb a b l, lt-ltb c d (omega arith)) (ap negsuc (omega arith))
    go (no l) = rw (le-ltb a b (omega arith), le-ltb c d (omega arith)) (ap pos (omega arith))

add_pos : (r o n : ℕ) → sub_ℕ r o +ℤ pos n ≡ sub_ℕ (r + n) o
add_pos r o n = go (dec_lt r o)
  where
    go : Dec (r < o) → sub_ℕ r o +ℤ pos n ≡ sub_ℕ (r + n) o
    go (yes l) = rw (lt-ltb r o l) (sub_same n (suc (o - suc r)) (r + n) o (omega arith))
    go (no l) = rw (le-ltb r o (omega arith), le-ltb (r + n) o (omega arith)) (ap pos (omega arith))

add_neg : (r o n : ℕ) → sub_ℕ r o +ℤ negsuc n ≡ sub_ℕ r (o + suc n)
add_neg r o n = go (dec_lt r o)
  where
    go : Dec (r < o) → sub_ℕ r o +ℤ negsuc n ≡ sub_ℕ r (o + suc n)
    go (yes l) = rw (lt-ltb r o l, lt-ltb r (o + suc n) (omega arith)) (ap negsuc (omega arith))
    go (no l) = rw (le-ltb r o (omega arith)) (sub_same (r - o) (suc n) r (o + suc n) (omega arith))

-- a quantity added, by its key
raise : (x : ℤ) (r o : ℕ) → in_class Number x ≡ true → sub_ℕ (r + index_key x) (o + 1000001) ≡ sub_ℕ r o +ℤ x
raise (pos n) r o e = rw (key_pos n) (sub_same (r + (n + 1000001)) (o + 1000001) (r + n) o (omega arith)) ∙ sym (add_pos r o n)
raise (negsuc n) r o e =
    let l = number_low n e in
    rw (key_neg n l) (sub_same (r + (1000000 - n)) (o + 1000001) r (o + suc n) (omega arith)) ∙ sym (add_neg r o n)

-- ---- how large a sum is

sum_size : (x y : ℤ) → nat_abs (x +ℤ y) ≤ nat_abs x + nat_abs y
sum_size (pos a) (pos b) = omega arith
sum_size (pos a) (negsuc b) = left_size (pos a) (suc b)
sum_size (negsuc a) (pos b) = let h : nat_abs (negsuc a +ℤ pos b) ≤ b + suc a = left_size (pos b) (suc a) in omega arith
sum_size (negsuc a) (negsuc b) = omega arith

number_size : (x : ℤ) → in_class Number x ≡ true → nat_abs x ≤ 1000000
number_size (pos n) e = number_high n e
number_size (negsuc n) e = let h = number_low n e in omega arith

unfoldable pub add_at : List ℤ → ℤ → ℕ → ℤ
add_at rows c k = c +ℤ cell rows k 3

-- a requirement's quantity more
module _ (rows : List ℤ) (acc : Accepted rows) (a q : ℕ) (h : owned_by rows a 5 q ≡ true) (c : ℤ) (m : nat_abs c ≤ 1000000 * q) where
  kind : is rows q 0 5 ≡ true
  unfolding owned_by
  kind = and_left (is rows q 0 5) _ h

  pub added_size : nat_abs (c +ℤ cell rows q 3) ≤ 1000000 * suc q
  added_size = let s = sum_size c (cell rows q 3) in let n = number_size (cell rows q 3) (in_class_lem rows acc q 5 3 kind) in omega arith

  pub added_fits : q < 800 → SFits w64 (c +ℤ cell rows q 3)
  added_fits l = let s = added_size in let n = mag_abs (c +ℤ cell rows q 3) in record { sfits = omega arith }

module _ (rows : List ℤ) (a : ℕ) where
  folded : (b : Bool) (x : ResourceRequirement) (c : ℤ) → foldl ◌+ℤ◌ c (map (λ q. q.quantity) (given b x)) ≡ cond b (c +ℤ x.quantity) c
  folded true x c = refl
  folded false x c = refl

  quantity_at : place_of rows 2 (num rows a 1) ≡ Some a → (c : ℤ) (k : ℕ)
      → foldl ◌+ℤ◌ c (map (λ q. q.quantity) (requirement_at (sheet rows) (num rows a 1) k)) ≡ only_at (owned_by rows a 5) (add_at rows) c k
  unfolding only_at add_at requirement_at is
  quantity_at p c k = go (is rows k 0 5) refl ∙ ap (λ b. cond b (c +ℤ cell rows k 3) c) (sym (of_activity rows 5 a (num rows a 1) (unfold owner_kind in refl) p k))
    where
      go : (b : Bool) → is rows k 0 5 ≡ b
          → foldl ◌+ℤ◌ c (map (λ q. q.quantity) (requirement_at (sheet rows) (num rows a 1) k))
          ≡ cond (is rows k 0 5 && is rows k 1 (num rows a 1)) (c +ℤ cell rows k 3) c
      go true h = rw (h, is_num rows k 0 5 h) (folded (eqb (num rows k 1) (num rows a 1)) _ c)
      go false h = rw h

  -- the places of the chain tell all of them
  pub sum_left : place_of rows 2 (num rows a 1) ≡ Some a → foldl (add_at rows) (pos 0) (places (owned_by rows a 5) (row_count rows)) ≡ quantities rows a
  unfolding quantities requirements
  sum_left p =
      foldl_only (owned_by rows a 5) (add_at rows) (pos 0) (row_count rows)
      ∙ sym
      (ap (foldl ◌+ℤ◌ (pos 0)) (map_collect (λ q. q.quantity) (requirement_at (sheet rows) (num rows a 1)) (row_count rows))
      ∙ foldl_collect ◌+ℤ◌ (pos 0) (λ k. map (λ q. q.quantity) (requirement_at (sheet rows) (num rows a 1) k)) (row_count rows)
      ∙ fold_ext _ _ (pos 0) (row_count rows) (quantity_at p))

pub units_are : (rows : List ℤ) (a : ℕ) → units (sheet rows) (num rows a 1) ≡ max_z (quantities rows a) (pos 1)
unfolding units quantities
units_are rows a = refl

-- ---- more bookings than units

over_is : (x : ℤ) (u : ℕ) → lt_z (max_z x (pos 1)) (pos u) ≡ (ltb 1 u && lt_z x (pos u))
over_is (negsuc n) u = sym (and-true (ltb 1 u))
over_is (pos n) u = go (dec_lt n 1) (dec_lt 1 u)
  where
    go : Dec (n < 1) → Dec (1 < u) → lt_z (max_z (pos n) (pos 1)) (pos u) ≡ (ltb 1 u && ltb n u)
    go (yes a) (yes b) = rw (lt-ltb n 1 a, lt-ltb 1 u b) (sym (lt-ltb n u (omega arith)))
    go (yes a) (no b) = rw (lt-ltb n 1 a, le-ltb 1 u (omega arith))
    go (no a) (yes b) = rw (le-ltb n 1 (omega arith), lt-ltb 1 u b)
    go (no a) (no b) = rw (le-ltb n 1 (omega arith), le-ltb 1 u (omega arith)) (le-ltb n u (omega arith))

-- as the code tests it
pub over_told : (rows : List ℤ) (a u : ℕ) → lt_z (units (sheet rows) (num rows a 1)) (pos u) ≡ (ltb 1 u && lt_z (quantities rows a) (pos u))
over_told rows a u = ap (λ z. lt_z z (pos u)) (units_are rows a) ∙ over_is (quantities rows a) u
