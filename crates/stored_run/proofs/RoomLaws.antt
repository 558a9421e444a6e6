-- What was gathered stands at the start of the room. Assumes nothing.
use Rattle.std.proofs.Common.{◌≡◌, ℕ, ◌<◌, List, length, take, Option, Some, sym, ◌∙◌, arith}
use Rattle.std.proofs.lemmas.List.Edits.{sets, sets-eq}
use Rattle.std.proofs.lemmas.Option.{cond_some}
use Rattle.std.proofs.Math.Seq.{take-append_seam}
use borrow.Author.Tests.{ltb-true}
use Rattle.stored_numbers.specs.inner.Numbers.{gathered}

module _ {A : Type 0} {xs : List A} (old : List A) where
  pub gathered_front : {n : Option ℕ} {s new : List A} → n ≡ gathered (length xs) (length old) → new ≡ sets old 0 xs → ((k : ℕ) × (n ≡ Some k) × (s ≡ take k new)) → s ≡ xs
  gathered_front e f (k, g, h) =
      let fits = cond_some _ (length xs) k (sym e ∙ g) in
      let l : length xs < length old = ltb-true _ _ fits.0 in
      h ∙ rw (← fits.1, f, sets-eq xs old 0 (omega (arith, l))) (take-append_seam xs _)
