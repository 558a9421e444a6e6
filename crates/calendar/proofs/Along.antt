-- What the walk finds by numbers is what the definitions say of instants. Assumes nothing.
use Prim.Native.Nat.{ℕ, zero, suc, ◌+◌, ◌-◌, ◌≤◌}
use mathlib.Core.Path.{◌≡◌, refl, sym, ap, ◌∙◌}
use mathlib.Core.Bool.{Bool}
use mathlib.Core.List.{List}
use native.Mathlib.Nat.{add-zero, add-suc}
use native.Mathlib.Omega.{arith}
use lib.IntN.{ℤ, pos}
use Rattle.loops.proofs.NumberLaws.{gap}
use Rattle.calendar.specs.Clock.{clock}
use Rattle.calendar.specs.Calendar.{Calendar, joint_working}
use Rattle.calendar.specs.Amount.{one, count, since, joint_available_ms}
use Rattle.calendar.specs.WorkEnd.{Ending, ends_at, pauses, never, map_ending, after, end_in, end_from}
use Rattle.calendar.proofs.Laws.{Means, settled_means, end_is}
use Rattle.calendar.proofs.Walk.{available_at, end_at}

module _ (p : ℕ → Bool) (t : ℕ) where
  count_along : (n b : ℕ) → count (λ k. p (t + k)) b n ≡ count p (t + b) n
  unfolding count
  count_along zero b = refl
  count_along (suc n) b = ap (λ (x : ℕ). one (p (t + b)) + x) (count_along n (suc b) ∙ ap (λ (x : ℕ). count p x n) (add-suc t b))

  end_along : (n b left : ℕ) → end_in p n (t + b) left ≡ map_ending (λ k. t + k) (end_in (λ k. p (t + k)) n b left)
  unfolding end_in
  end_along zero b zero = refl
  end_along zero b (suc left) = refl
  end_along (suc n) b zero = refl
  end_along (suc n) b (suc left) =
      ap (λ (x : ℕ). end_in p n x (after (p (t + b)) left)) (sym (add-suc t b)) ∙ end_along n (suc b) (after (p (t + b)) left)

map_map : {A B C : Type 0} (f : A → B) (g : B → C) (x : Ending A) → map_ending g (map_ending f x) ≡ map_ending (λ a. g (f a)) x
map_map f g (ends_at e) = refl
map_map f g pauses = refl
map_map f g never = refl

module _ (cs : List (Calendar ℤ)) where
  -- joint working time, as a test of numbers
  abbrev test : ℕ → Bool
  test u = joint_working clock cs (pos u)

  pub avail_along : (a e : ℕ) → available_at test a e ≡ joint_available_ms clock cs (pos a) (pos e)
  unfolding joint_available_ms available_at
  avail_along a e =
      sym
      (ap (count (since clock cs (pos a)) 0) (gap a e)
      ∙ count_along test a (e - a) 0
      ∙ ap (λ (x : ℕ). count test x (e - a)) (add-zero a))

  -- a look up to a number from which on working time does not change ends as the one of the definition does
  module _ (m : ℕ) (settled : (u : ℕ) → m ≤ u → test u ≡ test m) where
    pub walk_along : (t work : ℕ) → map_ending (λ k. pos k) (end_at test m t work) ≡ end_from clock cs (pos t) work
    unfolding end_at end_from
    walk_along t work =
        ap (λ (x : ℕ). map_ending (λ k. pos k) (end_in test (m + work) x work)) (sym (add-zero t))
        ∙ ap (map_ending (λ k. pos k)) (end_along test t (m + work) 0 work)
        ∙ map_map (λ k. t + k) (λ k. pos k) (end_in (λ k. test (t + k)) (m + work) 0 work)
        ∙ ap (map_ending (λ k. pos (t + k))) (sym (end_is cs (pos t) work (end_in (λ k. test (t + k)) (m + work) 0 work) looked))
      where
        looked : Means (λ k. test (t + k)) 0 work (end_in (λ k. test (t + k)) (m + work) 0 work)
        looked =
            settled_means (λ k. test (t + k)) 0 m
            (λ u l. settled (t + u) (omega arith) ∙ sym (settled (t + (0 + m)) (omega arith))) work
