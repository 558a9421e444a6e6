-- Loops along a chain that tell what they find. Assumes nothing.
use Prim.Native.Nat.{ℕ}
use mathlib.Core.Path.{◌≡◌, refl, ap, sym, ◌∙◌}
use mathlib.Core.Bool.{Bool}
use mathlib.Core.List.{List, [], ◌∷◌, ◌++◌, foldl}
use lib.IntN.{ℤ}
use Rattle.loops.specs.Lists.{each}
use Rattle.loops.specs.Range.{collect}
use Rattle.loops.specs.inner.Chain.{Silent, only}
use Rattle.chains.specs.Places.{places}
use Rattle.chains.proofs.PlaceLaws.{each_places, each_only}
use Rattle.line_buffer.specs.inner.Told.{Told, tell, telling}
use Rattle.line_buffer.proofs.LineLaws.{lines_none, lines_then}

module _ {X : Type 0} (w : ℕ) (numbers : X → List ℤ) where
  pub tell_none : (t : Told) → tell w numbers t [] ≡ t
  tell_none t = ap (λ s. record { name = t.name; sink = s }) (lines_none w numbers t.sink)

  pub tell_append : (t : Told) (a b : List X) → tell w numbers (tell w numbers t a) b ≡ tell w numbers t (a ++ b)
  tell_append t a b = ap (λ s. record { name = t.name; sink = s }) (lines_then w numbers a b t.sink refl refl)

  -- place by place
  pub tell_each : (f : ℕ → List X) (l : List ℕ) (t : Told) → foldl (telling w numbers f) t l ≡ tell w numbers t (each f l)
  unfolding each
  tell_each f [] t = sym (tell_none t)
  tell_each f (k ∷ l) t = tell_each f l (tell w numbers t (f k)) ∙ tell_append t (f k) (each f l)

  -- the places that pass a test, where nothing is told of any other
  pub tell_places : (p : ℕ → Bool) (f : ℕ → List X) (n : ℕ) (t : Told) → Silent p f → foldl (telling w numbers f) t (places p n) ≡ tell w numbers t (collect f n)
  tell_places p f n t s = tell_each f (places p n) t ∙ ap (tell w numbers t) (each_places p f n s)

  -- the same where nothing is told of any other by `only`
  pub tell_only : (p : ℕ → Bool) (f : ℕ → List X) (n : ℕ) (t : Told) → foldl (telling w numbers f) t (places p n) ≡ tell w numbers t (collect (only p f) n)
  tell_only p f n t = tell_each f (places p n) t ∙ ap (tell w numbers t) (each_only p f n)
