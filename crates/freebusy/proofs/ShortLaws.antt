-- Lines of fewer than eight bytes: none begins or ends a component, and none is a line FREEBUSY. Assumes nothing.
use Prim.Native.Nat.{ℕ, suc, ◌≤◌, ◌<◌}
use mathlib.Core.Bool.{Bool, true, false, cond}
use mathlib.Core.List.{List, [], ◌∷◌}
use Rattle.std.specs.Prelude.{Option, None, Some}
use mathlib.Core.Path.{◌≡◌, refl, sym}
use native.Mathlib.Omega.{arith}
use lib.ListN.{length}
use Rattle.freebusy_lines.specs.Bytes.{is_name_byte, leading}
use Rattle.freebusy_lines.proofs.WordLaws.{other_length}
use Rattle.freebusy_property.specs.Property.{FREEBUSY, is_freebusy}
use Rattle.freebusy_components.specs.Components.{is_begin, is_end, open_after, periods_at}

leading_short : (p : ℕ → Bool) (s : List ℕ) → length (leading p s) ≤ length s
unfolding leading
leading_short p [] = omega arith
leading_short p (x ∷ s) = let h = leading_short p s in go (p x) h
  where
    go : (b : Bool) → length (leading p s) ≤ length s → length (cond b (x ∷ leading p s) []) ≤ suc (length s)
    go true h = omega arith
    go false h = omega arith

module _ (l : List ℕ) (short : length l < 8) where
  no_begin : is_begin l ≡ false
  unfolding is_begin
  no_begin = sym (other_length _ l (λ e. omega (arith, e)))

  no_end : is_end l ≡ false
  unfolding is_end
  no_end = sym (other_length _ l (λ e. omega (arith, e)))

  no_freebusy : is_freebusy l ≡ false
  unfolding is_freebusy
  no_freebusy = sym (other_length FREEBUSY (leading is_name_byte l) (λ e. omega (arith, e, leading_short is_name_byte l)))

  pub short_open : (begun : Option ℕ) (p : ℕ) → begun ≡ open_after begun p l
  short_open None p = rw no_begin
  short_open (Some q) p = rw no_end

  pub short_periods : (begun : Option ℕ) (p : ℕ) → periods_at begun p l ≡ []
  short_periods None p = refl
  short_periods (Some q) p = rw no_freebusy
