-- Working time and the plain comparison: they agree on one millisecond, and an interval that fits is working time throughout.
-- Assumes nothing.
use Prim.Native.Nat.{ℕ, ◌+◌, ◌<◌, ◌≤◌}
use mathlib.Core.Path.{◌≡◌, refl, sym, ap, ap₂, ◌∙◌}
use mathlib.Core.Logic.{⊎_elim}
use mathlib.Core.Bool.{Bool, true, false, not, ◌&&◌, ◌||◌, and_comm, false≢true}
use mathlib.Core.List.{List, [], ◌∷◌, map}
use native.Mathlib.Omega.{arith}
use lib.IntN.{ℤ, pos}
use lib.Dec.{ltb}
use borrow.Author.Tests.{lt-ltb, le-ltb, ltb-true, ltb-false, not-true}
use Rattle.loops.specs.Lists.{any_of}
use Rattle.calendar.specs.declared.TimeWindow.{TimeWindow}
use Rattle.calendar.specs.Clock.{clock}
use Rattle.calendar.specs.Calendar.{Window, is_open, is_closed, contains, covers, hits, is_working_time, interval_fits}
use Rattle.calendar.specs.Layout.{window_of}
use Rattle.calendar.proofs.Tests.{le_or_lt}

-- t is before y exactly if y is not before the next millisecond
tick : (t y : ℕ) → ltb t y ≡ not (ltb y (t + 1))
tick t y = ⊎_elim
    (λ l. le-ltb t y l ∙ sym (ap not (lt-ltb y (t + 1) (omega arith))))
    (λ l. lt-ltb t y l ∙ sym (ap not (le-ltb y (t + 1) (omega arith))))
    (le_or_lt y t)

tock : (t y : ℕ) → not (ltb t y) ≡ ltb y (t + 1)
tock t y = ⊎_elim
    (λ l. ap not (le-ltb t y l) ∙ sym (lt-ltb y (t + 1) (omega arith)))
    (λ l. ap not (lt-ltb t y l) ∙ sym (le-ltb y (t + 1) (omega arith)))
    (le_or_lt y t)

module _ (t : ℕ) (x : TimeWindow) where
  held_tick : contains clock (pos t) (window_of x) ≡ covers clock (pos t) (pos (t + 1)) (window_of x)
  unfolding contains covers
  held_tick = ap (λ (v : Bool). not (ltb t x.start) && v) (tick t x.end)

  hit_tick : contains clock (pos t) (window_of x) ≡ hits clock (pos t) (pos (t + 1)) (window_of x)
  unfolding contains hits
  hit_tick = and_comm (not (ltb t x.start)) (ltb t x.end) ∙ ap (λ (v : Bool). ltb t x.end && v) (tock t x.start)

any_same : (k p q : Window ℤ → Bool) → ((x : TimeWindow) → p (window_of x) ≡ q (window_of x)) → (l : List TimeWindow) → any_of (λ x. k x && p x) (map window_of l) ≡ any_of (λ x. k x && q x) (map window_of l)
unfolding any_of
any_same k p q h [] = refl
any_same k p q h (x ∷ l) = ap₂ (λ v w. (k (window_of x) && v) || w) (h x) (any_same k p q h l)

pub works_fits : (l : List TimeWindow) (t : ℕ) → is_working_time clock (map window_of l) (pos t) ≡ interval_fits clock (map window_of l) (pos t) (pos (t + 1))
unfolding is_working_time interval_fits
works_fits l t =
    ap₂ (λ v w. (not (any_of is_open (map window_of l)) || v) && not w)
    (any_same is_open (contains clock (pos t)) (covers clock (pos t) (pos (t + 1))) (held_tick t) l)
    (any_same is_closed (contains clock (pos t)) (hits clock (pos t) (pos (t + 1))) (hit_tick t) l)

-- ---- throughout

both_of : (a b : Bool) → (a && b) ≡ true → (a ≡ true) × (b ≡ true)
both_of true b e = (refl, e)
both_of false b e = absurd (false≢true e)

or_weaker : (v v' w w' : Bool) → (v ≡ true → v' ≡ true) → (w ≡ true → w' ≡ true) → (v || w) ≡ true → (v' || w') ≡ true
or_weaker v true w w' h h' e = refl
or_weaker true false w w' h h' e = absurd (false≢true (h refl))
or_weaker false false w w' h h' e = h' e

-- a search that finds something finds something under a weaker test
module _ (p q : Window ℤ → Bool) where
  any_weaker : (l : List TimeWindow) → ((x : TimeWindow) → p (window_of x) ≡ true → q (window_of x) ≡ true) → any_of p (map window_of l) ≡ true → any_of q (map window_of l) ≡ true
  unfolding any_of
  any_weaker [] h e = e
  any_weaker (x ∷ l) h e = or_weaker (p (window_of x)) (q (window_of x)) (any_of p (map window_of l)) (any_of q (map window_of l)) (h x) (any_weaker l h) e

module _ (a e u : ℕ) (l : a ≤ u) (l' : u < e) where
  held : (x : TimeWindow) → (is_open (window_of x) && covers clock (pos a) (pos e) (window_of x)) ≡ true → (is_open (window_of x) && contains clock (pos u) (window_of x)) ≡ true
  unfolding covers contains
  held x h =
      let i = both_of (is_open (window_of x)) (not (ltb a x.start) && not (ltb x.end e)) h in
      let b = both_of (not (ltb a x.start)) (not (ltb x.end e)) i.1 in
      let s = ltb-false a x.start (not-true (ltb a x.start) b.0) in
      let f = ltb-false x.end e (not-true (ltb x.end e) b.1) in
      rw (i.0, le-ltb u x.start (omega arith), lt-ltb u x.end (omega arith))

  hit : (x : TimeWindow) → (is_closed (window_of x) && contains clock (pos u) (window_of x)) ≡ true → (is_closed (window_of x) && hits clock (pos a) (pos e) (window_of x)) ≡ true
  unfolding hits contains
  hit x h =
      let i = both_of (is_closed (window_of x)) (not (ltb u x.start) && ltb u x.end) h in
      let b = both_of (not (ltb u x.start)) (ltb u x.end) i.1 in
      let s = ltb-false u x.start (not-true (ltb u x.start) b.0) in
      let f = ltb-true u x.end b.1 in
      rw (i.0, lt-ltb a x.end (omega arith), lt-ltb x.start e (omega arith))

  open_still : (L H C : Bool) → (H ≡ true → C ≡ true) → (not L || H) ≡ true → (not L || C) ≡ true
  open_still true H C f h = f h
  open_still false H C f h = refl

  shut_not : (X C : Bool) → (C ≡ true → X ≡ true) → not X ≡ true → not C ≡ true
  shut_not X true f h = rw (f refl) at h
  shut_not X false f h = refl

  -- an interval that fits is working time at each of its milliseconds
  pub fits_works : (c : List TimeWindow) → interval_fits clock (map window_of c) (pos a) (pos e) ≡ true → is_working_time clock (map window_of c) (pos u) ≡ true
  unfolding interval_fits is_working_time
  fits_works c h =
      let b = both_of
      (not (any_of is_open (map window_of c)) || any_of (λ x. is_open x && covers clock (pos a) (pos e) x) (map window_of c))
      (not (any_of (λ x. is_closed x && hits clock (pos a) (pos e) x) (map window_of c))) h in
      rw (
        open_still (any_of is_open (map window_of c)) _ (any_of (λ x. is_open x && contains clock (pos u) x) (map window_of c))
            (any_weaker (λ x. is_open x && covers clock (pos a) (pos e) x) (λ x. is_open x && contains clock (pos u) x) c held) b.0,
        shut_not _ (any_of (λ x. is_closed x && contains clock (pos u) x) (map window_of c))
            (any_weaker (λ x. is_closed x && contains clock (pos u) x) (λ x. is_closed x && hits clock (pos a) (pos e) x) c hit) b.1,
      )
