-- The load and the peak as loops over gathered bookings. Assumes nothing.
use Prim.Native.Nat.{ℕ, zero, suc, ◌+◌, ◌<◌, ◌≤◌, max}
use mathlib.Core.Path.{◌≡◌, refl, ap, sym, ◌∙◌}
use mathlib.Core.Bool.{Bool, true, false, cond}
use mathlib.Core.List.{List, [], ◌∷◌, ◌++◌, map}
use native.Mathlib.Omega.{arith}
use lib.IntN.{ℤ}
use lib.ListN.{length, get_or, take}
use lib.Signed.{lt_z}
use Rattle.std.proofs.Math.Seq.{take-suc, take-length}
use Rattle.loops.specs.Range.{fold, collect}
use Rattle.loops.specs.Sums.{total, most}
use Rattle.loops.proofs.ListLaws.{map_append}
use Rattle.loops.proofs.SumLaws.{total_append, most_append}
use Rattle.load.specs.Load as load
use Rattle.load.specs.Load.{holds, taken, load_of, peak_of}
use Rattle.load.specs.declared.booking.Booking.{Booking}
use Rattle.load.specs.inner.Lent.{meant}

-- a sum and a greatest value over a list that is put together place by place
pub total_fold : {A : Type 0} (f : A → ℕ) (g : ℕ → A) (n : ℕ) → fold (λ e k. e + f (g k)) 0 n ≡ total f (collect (λ j. g j ∷ []) n)
unfolding fold collect
total_fold f g zero = unfold total in refl
total_fold f g (suc n) =
    let h = total_fold f g n in
    let k = total_append f (collect (λ j. g j ∷ []) n) (g n ∷ []) in
    let w : total f (g n ∷ []) ≡ f (g n) + 0 = unfold total in refl in
    omega arith

pub most_fold : {A : Type 0} (f : A → ℕ) (g : ℕ → A) (n : ℕ) → fold (λ e k. max e (f (g k))) 0 n ≡ most f (collect (λ j. g j ∷ []) n)
unfolding fold collect
most_fold f g zero = unfold most in refl
most_fold f g (suc n) =
    let h = most_fold f g n in
    let k = most_append f (collect (λ j. g j ∷ []) n) (g n ∷ []) in
    let w : most f (g n ∷ []) ≡ max (f (g n)) 0 = unfold most in refl in
    omega arith

pub taken_most : {T : Type 0} (before : T → T → Bool) (t : T) (x : load.Booking T) → taken before t x ≤ x.units
unfolding taken
taken_most before t x = go (holds before t x)
  where
    go : (c : Bool) → cond c x.units 0 ≤ x.units
    go true = omega arith
    go false = omega arith

pub taken_few : (t : ℤ) (b : Booking) → taken lt_z t (meant b) ≤ 1000000
taken_few t b = omega (arith, taken_most lt_z t (meant b), b.fit.2)

pub load_none : (t : ℤ) → 0 ≡ load_of lt_z [] t
load_none t = unfold load_of total in refl

-- one booking more
module _ (bs : List Booking) (i : ℕ) (b : Booking) (e : b ≡ get_or bs i b) (l : i < length bs) where
  one_more : map meant (take (i + 1) bs) ≡ map meant (take i bs) ++ meant b ∷ []
  one_more =
      let z : i + 1 ≡ suc i = omega arith in
      ap (λ k. map meant (take k bs)) z
      ∙ ap (map meant) (take-suc bs i b l)
      ∙ map_append meant (take i bs) (get_or bs i b ∷ [])
      ∙ ap (λ x. map meant (take i bs) ++ meant x ∷ []) (sym e)

  pub load_more : (t : ℤ) {m : ℕ} → m ≡ load_of lt_z (map meant (take i bs)) t → m + taken lt_z t (meant b) ≡ load_of lt_z (map meant (take (i + 1) bs)) t
  unfolding load_of
  load_more t h =
      let k = total_append (taken lt_z t) (map meant (take i bs)) (meant b ∷ []) in
      let w : total (taken lt_z t) (meant b ∷ []) ≡ taken lt_z t (meant b) + 0 = unfold total in refl in
      rw one_more (omega (arith, k, w, h))

  pub most_more : (f : load.Booking ℤ → ℕ) {m : ℕ} → m ≡ most f (map meant (take i bs)) → max m (f (meant b)) ≡ most f (map meant (take (i + 1) bs))
  most_more f h =
      let k = most_append f (map meant (take i bs)) (meant b ∷ []) in
      let w : most f (meant b ∷ []) ≡ max (f (meant b)) 0 = unfold most in refl in
      rw one_more (omega (arith, k, w, h))

-- the load at the start of a booking
unfoldable pub load_in : List (load.Booking ℤ) → load.Booking ℤ → ℕ
load_in l b = load_of lt_z l b.start

pub most_none : (f : load.Booking ℤ → ℕ) → 0 ≡ most f []
most_none f = unfold most in refl

pub peak_end : (bs : List Booking) (l : List (load.Booking ℤ)) (i : ℕ) {m : ℕ} → i ≤ length bs → length bs ≤ i → m ≡ most (load_in l) (map meant (take i bs)) → map meant bs ≡ l → m ≡ peak_of lt_z l
unfolding peak_of load_in
peak_end bs l i h k q e =
    let z : i ≡ length bs = omega arith in
    q ∙ ap (λ j. most (load_in l) (map meant (take j bs))) z ∙ ap (λ x. most (load_in l) (map meant x)) (take-length bs) ∙ ap (most (load_in l)) e
