-- Laws of reading a line's fields one after the other. Assumes nothing.
use Prim.Native.Nat.{ℕ, suc, ◌+◌, ◌<◌, ◌^◌}
use mathlib.Core.Bool.{Bool, ◌&&◌, and-true, and_assoc}
use mathlib.Core.List.{List, [], ◌∷◌, map}
use mathlib.Core.Path.{◌≡◌, sym, ap, ◌∙◌}
use native.Mathlib.Omega.{arith}
use mir.Syntax.{w64}
use mir.Val.{Fits}
use lib.ListN.{length, set, length-set}
use lib.Seq.{sets}
use lib.IntN.{ℤ}
use Rattle.loops.specs.Lists.{all_of}
use Rattle.text_fields.specs.Spelling.{number_of}
use Rattle.text_line.specs.Line.{is_number, value_of, spelled, fields_of}
use Rattle.text_fields.proofs.PartLaws.{parts_count}

-- where j fields of the line were read to the rows from base on, good says that they are spelled right, and ps are the others
pub record FieldsRead (line : List ℕ) (rows₀ : List ℤ) (base : ℕ) (rows : List ℤ) (ps : List (List ℕ)) (j : ℕ) (good : Bool) : Type 0 where
  pub spelling : (good && spelled ps) ≡ spelled (fields_of line)
  pub stores : sets rows (base + j) (map value_of ps) ≡ sets rows₀ base (map value_of (fields_of line))
  pub count : j + length ps ≡ length (fields_of line)
  pub long : length rows ≡ length rows₀

module _ (line : List ℕ) (rows₀ : List ℤ) (base : ℕ) (rows : List ℤ) (ps : List (List ℕ)) (j : ℕ) (good : Bool) (r : FieldsRead line rows₀ base rows ps j good) where
  pub field_fits : base + length line < 2 ^ 32 → Fits w64 (base + j)
  field_fits h = record { fits = omega (arith, r.count, parts_count 44 line) }

  pub count_fits : base + length line < 2 ^ 32 → Fits w64 (j + 1)
  count_fits h = record { fits = omega (arith, r.count, parts_count 44 line) }

  -- one field more, f
  pub fields_more : {f : List ℕ} {qs : List (List ℕ)} {g : Bool} {m : List ℤ} → ps ≡ f ∷ qs → g ≡ (good && is_number (number_of f)) → m ≡ set rows (base + j) (value_of f)
      → FieldsRead line rows₀ base m qs (j + 1) g
  unfolding spelled all_of
  fields_more {f} {qs} p d s =
      let q : base + (j + 1) ≡ suc (base + j) = omega arith in
      rw (s, d)
      (record {
        spelling = and_assoc good (is_number (number_of f)) (spelled qs) ∙ (rw p at r.spelling);
        stores = rw q (rw p at r.stores);
        count = omega (arith, ap length p, r.count);
        long = length-set rows (base + j) (value_of f) ∙ r.long;
      })

  -- none is left
  module _ (e : ps ≡ []) where
    pub all_spelled : good ≡ spelled (fields_of line)
    unfolding spelled all_of
    all_spelled = sym (and-true good) ∙ (rw e at r.spelling)

    pub all_counted : j ≡ length (fields_of line)
    all_counted = omega (arith, ap length e, r.count)
