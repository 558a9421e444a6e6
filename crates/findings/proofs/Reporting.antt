-- Loops along a chain that tell findings: the laws of lines of four numbers. Assumes nothing.
use Prim.Native.Nat.{ℕ}
use mathlib.Core.Path.{◌≡◌}
use mathlib.Core.Bool.{Bool}
use mathlib.Core.List.{List, [], ◌++◌, foldl}
use Rattle.loops.specs.Lists.{each}
use Rattle.loops.specs.Range.{collect}
use Rattle.loops.specs.inner.Chain.{Silent, only}
use Rattle.chains.specs.Places.{places}
use Rattle.line_buffer.proofs.Telling as lines
use Rattle.findings.specs.declared.Violation.{Violation}
use Rattle.findings.specs.Findings.{four}
use Rattle.findings.specs.inner.Sink.{emit}
use Rattle.findings.specs.inner.Told.{Told, tell, telling}

pub tell_none : (t : Told) → tell t [] ≡ t
unfolding emit
tell_none t = lines.tell_none 4 four t

pub tell_append : (t : Told) (a b : List Violation) → tell (tell t a) b ≡ tell t (a ++ b)
unfolding emit
tell_append t a b = lines.tell_append 4 four t a b

-- place by place
pub tell_each : (f : ℕ → List Violation) (l : List ℕ) (t : Told) → foldl (telling f) t l ≡ tell t (each f l)
unfolding emit
tell_each f l t = lines.tell_each 4 four f l t

-- the places that pass a test, where nothing is told of any other
pub tell_places : (p : ℕ → Bool) (f : ℕ → List Violation) (n : ℕ) (t : Told) → Silent p f → foldl (telling f) t (places p n) ≡ tell t (collect f n)
unfolding emit
tell_places p f n t s = lines.tell_places 4 four p f n t s

-- the same where nothing is told of any other by `only`
pub tell_only : (p : ℕ → Bool) (f : ℕ → List Violation) (n : ℕ) (t : Told) → foldl (telling f) t (places p n) ≡ tell t (collect (only p f) n)
unfolding emit
tell_only p f n t = lines.tell_only 4 four p f n t
