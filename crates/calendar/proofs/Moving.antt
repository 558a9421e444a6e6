-- Whatever is worked out through a clock alone moves with the instants: if all that goes in moves by d, so do the instants that come out,
-- and all else stays. One lemma for every definition over `Clock T`. Assumes nothing.
use Prim.Native.Nat.{zero, suc}
use mathlib.Core.Path.{◌≡◌, PathP, refl, sym, ◌∙◌, ap, ap₂}
use mathlib.Core.Bool.{Bool}
use mathlib.Core.Equiv.{◌≃◌, Iso, iso_to_equiv}
use lib.IntN.{ℤ, pos, negsuc, ◌+ℤ◌, ◌-ℤ◌, neg_ℤ, +ℤ_assoc, +ℤ_comm, neg_ℤ-+ℤ, +ℤ-neg_ℤ_cancel, -ℤ-+ℤ_cancel, +ℤ-suc_ℤ, +ℤ-pred_ℤ, +ℤ_idr, -ℤ_one, suc_ℤ, pred_ℤ, suc-pred}
use lib.Signed.{lt_z}
use lib.Dec.{leb-suc-suc, leb-suc-zero, leb-zero}
use Rattle.calendar.specs.Clock.{Clock, clock}
use Rattle.calendar.specs.inner.Moves.{Moves, by}

-- f keeps what the clocks tell
pub record Keeps {A B : Type 0} (K : Clock A) (L : Clock B) (f : A → B) : Type 0 where
  pub before : (x y : A) → K.before x y ≡ L.before (f x) (f y)
  pub plus : (x : A) (n : ℤ) → f (K.plus x n) ≡ L.plus (f x) n
  pub minus : (x y : A) → K.minus x y ≡ L.minus (f x) (f y)

module _ {A B : Type 0} (e : A ≃ B) (K : Clock A) (L : Clock B) (k : Keeps K L e.0) where
  -- the clock on the way from A to B
  between : (i : 𝕀) → Clock (V i A B e) [ i = 0 ↦ K | i = 1 ↦ L ]
  between = λ i. record {
    before = λ x y. hcom 1 0 (L.before (vproj i x e) (vproj i y e)) [ i = 0 ↦ j. k.before x y j | i = 1 ↦ _. L.before x y ];
    plus = λ x n. vin i (K.plus x n) (hcom 1 0 (L.plus (vproj i x e) n) [ i = 0 ↦ j. k.plus x n j | i = 1 ↦ _. L.plus x n ]);
    minus = λ x y. hcom 1 0 (L.minus (vproj i x e) (vproj i y e)) [ i = 0 ↦ j. k.minus x y j | i = 1 ↦ _. L.minus x y ];
  }

  -- what comes out holds instants as R says
  pub moves : {S R : Type 0 → Type 0} (s : Moves S) (r : Moves R) (F : (T : Type 0) → Clock T → S T → R T) (x : S A)
      → r.map e.0 (F A K x) ≡ F B L (s.map e.0 x)
  unfolding between
  moves s r F x =
      ap (λ z. r.map e.0 (F A K z)) (sym (s.same x))
      ∙ (λ i. r.map (λ b. vproj i b e) (F (V i A B e) (between i) (s.map (λ a. vin i a (e.0 a)) x)))
      ∙ r.same (F B L (s.map e.0 x))

  -- what comes out holds none
  pub stays : {S : Type 0 → Type 0} {R : Type 0} (s : Moves S) (F : (T : Type 0) → Clock T → S T → R) (x : S A)
      → F A K x ≡ F B L (s.map e.0 x)
  unfolding between
  stays s F x =
      ap (F A K) (sym (s.same x))
      ∙ (λ i. F (V i A B e) (between i) (s.map (λ a. vin i a (e.0 a)) x))

  -- the same with one thing more that is told of instants (a profile's test, say)
  pub stays_with : {S : Type 0 → Type 0} {R : Type 0} (X : Type 0 → Type 0) (x : X A) (y : X B)
      → PathP (λ i. X (V i A B e)) x y
      → (s : Moves S) (F : (T : Type 0) → Clock T → X T → S T → R) (z : S A) → F A K x z ≡ F B L y (s.map e.0 z)
  unfolding between
  stays_with X x y p s F z =
      ap (F A K x) (sym (s.same z))
      ∙ (λ i. F (V i A B e) (between i) (p i) (s.map (λ a. vin i a (e.0 a)) z))

  -- two tests that tell alike of an instant and of what it becomes, as such a thing
  pub test_over : (p : A → Bool) (q : B → Bool) → ((x : A) → p x ≡ q (e.0 x)) → PathP (λ i. V i A B e → Bool) p q
  test_over p q h = λ i x. hcom 1 0 (q (vproj i x e)) [ i = 0 ↦ j. h x j | i = 1 ↦ _. q x ]

-- ---- the clock of whole milliseconds tells the same of two instants that are moved alike

lt_z_suc : (x y : ℤ) → lt_z x y ≡ lt_z (suc_ℤ x) (suc_ℤ y)
lt_z_suc (pos a) (pos b) = sym (leb-suc-suc (suc a) b)
lt_z_suc (pos a) (negsuc zero) = sym (leb-suc-zero (suc a))
lt_z_suc (pos a) (negsuc (suc b)) = refl
lt_z_suc (negsuc zero) (pos b) = sym (leb-suc-suc zero b ∙ leb-zero b)
lt_z_suc (negsuc zero) (negsuc zero) = refl
lt_z_suc (negsuc zero) (negsuc (suc b)) = leb-suc-zero (suc b)
lt_z_suc (negsuc (suc a)) (pos b) = refl
lt_z_suc (negsuc (suc a)) (negsuc zero) = leb-suc-suc zero a ∙ leb-zero a
lt_z_suc (negsuc (suc a)) (negsuc (suc b)) = leb-suc-suc (suc b) a

lt_z_pred : (x y : ℤ) → lt_z x y ≡ lt_z (pred_ℤ x) (pred_ℤ y)
lt_z_pred x y = sym (lt_z_suc (pred_ℤ x) (pred_ℤ y) ∙ ap₂ lt_z (suc-pred x) (suc-pred y))

pub lt_z_add : (x y d : ℤ) → lt_z x y ≡ lt_z (x +ℤ d) (y +ℤ d)
lt_z_add x y (pos zero) = sym (ap₂ lt_z (+ℤ_idr x) (+ℤ_idr y))
lt_z_add x y (pos (suc n)) = lt_z_add x y (pos n) ∙ lt_z_suc (x +ℤ pos n) (y +ℤ pos n) ∙ sym (ap₂ lt_z (+ℤ-suc_ℤ x (pos n)) (+ℤ-suc_ℤ y (pos n)))
lt_z_add x y (negsuc zero) = lt_z_pred x y ∙ sym (ap₂ lt_z (-ℤ_one x) (-ℤ_one y))
lt_z_add x y (negsuc (suc n)) = lt_z_add x y (negsuc n) ∙ lt_z_pred (x +ℤ negsuc n) (y +ℤ negsuc n) ∙ sym (ap₂ lt_z (+ℤ-pred_ℤ x (negsuc n)) (+ℤ-pred_ℤ y (negsuc n)))

pub keeps : (d : ℤ) → Keeps clock clock (by d)
keeps d =
    record {
      before = λ x y. lt_z_add x y d;
      plus = λ x n. +ℤ_assoc x n d ∙ ap (λ z. x +ℤ z) (+ℤ_comm n d) ∙ sym (+ℤ_assoc x d n);
      minus = λ x y. sym
          (ap (λ z. x +ℤ d +ℤ z) (ap neg_ℤ (+ℤ_comm y d) ∙ neg_ℤ-+ℤ d y)
          ∙ sym (+ℤ_assoc (x +ℤ d) (neg_ℤ d) (neg_ℤ y))
          ∙ ap (λ z. z +ℤ neg_ℤ y) (+ℤ-neg_ℤ_cancel x d));
    }

moving : (d : ℤ) → Iso ℤ ℤ
moving d =
    record {
      fun = by d;
      inv = λ x. x -ℤ d;
      rinv = λ x. -ℤ-+ℤ_cancel x d;
      linv = λ x. +ℤ-neg_ℤ_cancel x d;
    }

-- the two laws by which all is moved, for every whole d
pub moved : {S R : Type 0 → Type 0} (s : Moves S) (r : Moves R) (F : (T : Type 0) → Clock T → S T → R T) (d : ℤ) (x : S ℤ)
    → F ℤ clock (s.map (by d) x) ≡ r.map (by d) (F ℤ clock x)
unfolding moving
moved s r F d x = sym (moves (iso_to_equiv (moving d)) clock clock (keeps d) s r F x)

pub unmoved : {S : Type 0 → Type 0} {R : Type 0} (s : Moves S) (F : (T : Type 0) → Clock T → S T → R) (d : ℤ) (x : S ℤ)
    → F ℤ clock (s.map (by d) x) ≡ F ℤ clock x
unfolding moving
unmoved s F d x = sym (stays (iso_to_equiv (moving d)) clock clock (keeps d) s F x)
