-- Laws of `emit`, those of lines of four numbers. A function that reports findings ensures `sink out' r ≡ emit (sink out n) findings`; two calls in a row
-- are `emit_then`. Assumes nothing.
use Prim.Native.Nat.{◌*◌, ◌^◌, ◌<◌}
use mathlib.Core.Path.{◌≡◌, refl, sym, ◌∙◌}
use mathlib.Core.Bool.{Bool, true, false}
use mathlib.Core.List.{List, [], ◌∷◌, ◌++◌}
use native.Mathlib.Omega.{arith}
use lib.ListN.{length}
use mir.Syntax.{w64}
use mir.Val.{to_z}
use mir.Facts.{to_z_pos}
use Rattle.loops.specs.Lists.{given}
use Rattle.line_buffer.specs.inner.Sink.{put_line}
use Rattle.line_buffer.proofs.LineLaws.{lines_one, lines_none, lines_then}
use Rattle.line_buffer.proofs.Whole as whole
use Rattle.findings.specs.declared.Violation.{Violation}
use Rattle.findings.specs.Findings.{four, flat}
use Rattle.findings.specs.inner.Sink.{Sink, put1, emit}

pub emit_one : (s : Sink) (f : Violation) → emit s (f ∷ []) ≡ put1 s f
unfolding emit put1
emit_one s f = lines_one 4 four s f

pub emit_none : (s : Sink) → emit s [] ≡ s
unfolding emit
emit_none s = lines_none 4 four s

-- what the code wrote: the numbers as the machine reads them back
pub put_read : (s : Sink) (f : Violation) {s' : Sink} → s' ≡ put_line 4 s (to_z w64 f.check ∷ to_z w64 f.kind ∷ to_z w64 f.entity ∷ to_z w64 f.severity ∷ [])
    → f.check < 2 ^ 63 → f.kind < 2 ^ 63 → f.entity < 2 ^ 63 → f.severity < 2 ^ 63 → s' ≡ put1 s f
unfolding put1
put_read s f h a b d e = rw (to_z_pos w64 a, to_z_pos w64 b, to_z_pos w64 d, to_z_pos w64 e) at h

module _ (s : Sink) (f : Violation) {yes : Bool} where
  pub emit_yes : {s' : Sink} → s' ≡ put1 s f → yes ≡ true → s' ≡ emit s (given yes f)
  emit_yes h e = rw e (h ∙ sym (emit_one s f))

  pub emit_no : yes ≡ false → s ≡ emit s (given yes f)
  emit_no e = rw e (sym (emit_none s))

-- two calls, one after the other
pub emit_then : (a b : List Violation) (s₀ : Sink) {s s' : Sink} → s ≡ emit s₀ a → s' ≡ emit s b → s' ≡ emit s₀ (a ++ b)
unfolding emit
emit_then a b s₀ p q = lines_then 4 four a b s₀ p q

-- ---- a whole run, from count 0

pub flat_length : (fs : List Violation) → length (flat fs) ≡ 4 * length fs
unfolding flat
flat_length fs = omega (arith, whole.flat_length 4 four (omega arith) (λ f. refl) fs)
