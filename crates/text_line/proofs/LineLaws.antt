-- Laws of a field that was read, of a line's kind and of its row. Assumes nothing.
use Rattle.std.specs.Prelude.{Some, Result, Ok, Err, cond, ◌&&◌, eqb, ltb}
use lib.Dec.{leb}
use Rattle.std.proofs.lemmas.Bool.Decides.{nat_tests}
use Rattle.loops.specs.Numbers.{to_nat}
use Rattle.std.specs.Option.{is_some}
use Rattle.refusals.specs.declared.Reason.{Reason}
use Rattle.refusals.specs.declared.Reason.TheVariants.{Misspelt}
use Rattle.rows.specs.declared.Kind.{Kind}
use Rattle.rows.specs.Kinds.{kind_of, kind_number}
use Rattle.rows.specs.Table.{width}
use Rattle.rows.proofs.KindNumbers.{is_known, kind_number_is}
use Prim.Native.Nat.{ℕ, suc, ◌+◌, ◌-◌, ◌<◌, ◌^◌}
use mathlib.Core.Bool.{Bool, true, false}
use mathlib.Core.List.{List, [], ◌∷◌, map}
use mathlib.Core.Path.{◌≡◌, refl, ap, sym, ◌∙◌}
use native.Mathlib.Omega.{arith}
use native.Mathlib.Numerals.{add-one}
use lib.ListN.{length, get_or, set, replicate, length-map}
use lib.Seq.{sets}
use Rattle.loops.proofs.StoreLaws.{sets_append}
use lib.IntN.{ℤ, pos}
use mir.Syntax.{w64}
use mir.Val.{Fits}
use Rattle.text_line.specs.Line.{by_fields, fields_of, spelled, value_of, line_of, row_of}
use Rattle.text_fields.specs.Parts.{until_byte}
use Rattle.text_fields.proofs.PartLaws.{parts_first, parts_count}

-- zeros, stored one after the other
module _ {all : List ℤ} (rows : List ℤ) (i to : ℕ) (now : sets rows i (replicate (to - i) (pos 0)) ≡ all) where
  pub zero_more : {m : List ℤ} → i < to → m ≡ set rows i (pos 0) → sets m (i + 1) (replicate (to - (i + 1)) (pos 0)) ≡ all
  zero_more h s = let e : to - i ≡ suc (to - (i + 1)) = omega arith in rw (s, add-one i) (rw (e, add-one i) at now)

-- a line whose kind is empty
pub fields_empty : (good : Bool) (kind : List ℕ) (n : ℕ) → length kind ≡ 0 → Err Misspelt ≡ by_fields good kind n
fields_empty true [] n e = refl
fields_empty false [] n e = refl
fields_empty good (x ∷ kind) n e = absurd (omega arith)

-- the kinds are 1 to 24
known : (k : ℕ) → (ltb 0 k && ltb k 25) ≡ is_some (kind_of k)
known k =
    let e : ltb k 25 ≡ leb k 24 = grind (arith, nat_tests) in
    ap (λ b. ltb 0 k && b) e ∙ sym (is_known k)

-- a line of a kind, by its width
pub kind_judged : {v : Result Unit Reason} {good : Bool} (kind : List ℕ) (n k w : ℕ) {x : Kind} → good ≡ true → (length kind ≡ 0 → ⊥) → k ≡ to_nat (value_of kind) → kind_of k ≡ Some x
    → w ≡ kind_number x → v ≡ cond (eqb n (suc (width w))) (Ok tt) (Err Misspelt) → v ≡ by_fields good kind n
kind_judged [] n k w g h q e z s = absurd (h refl)
kind_judged (b ∷ bs) n k w g h q e z s =
    let y : w ≡ k = z ∙ sym (kind_number_is k e) in
    rw (g, ← q, known k, e, ← y) s

-- a line by its first field
pub line_judged : {v : Result Unit Reason} (l f : List ℕ) (good : Bool) (n : ℕ) → good ≡ spelled (fields_of l) → f ≡ until_byte 44 l → n ≡ length (fields_of l) → v ≡ by_fields good f n
    → v ≡ line_of l
unfolding line_of
line_judged l f good n s e q j =
    let p = parts_first 44 l in
    let k : f ≡ get_or (fields_of l) 0 [] = rw p.1 e in
    rw (← s, ← k, ← q) j

pub no_row : {e : Reason} → ◌≡◌ {A = Result Unit Reason} (Err e) (Ok tt) → ⊥
no_row e = let z : ◌≡◌ {A = ℕ} 0 1 = cc in omega arith

-- the fields' numbers and then zeros are the row, and lie where machine numbers reach
pub row_stored : {m r : List ℤ} (l : List ℕ) (rows : List ℤ) (base n : ℕ) → n ≡ length (fields_of l) → r ≡ sets rows base (map value_of (fields_of l))
    → m ≡ sets r (base + n) (replicate ((base + 10) - (base + n)) (pos 0)) → m ≡ sets rows base (row_of l)
unfolding row_of
row_stored l rows base n q s z =
    let e : (base + 10) - (base + n) ≡ 10 - length (fields_of l) = omega arith in
    let h : n ≡ length (map value_of (fields_of l)) = q ∙ sym (length-map (fields_of l) value_of) in
    z ∙ rw (s, e, h) (sets_append rows base (map value_of (fields_of l)) (replicate (10 - length (fields_of l)) (pos 0)))

pub fields_fit : (l : List ℕ) (base n : ℕ) → n ≡ length (fields_of l) → base + length l < 2 ^ 32 → Fits w64 (base + n)
fields_fit l base n e h = record { fits = omega (arith, parts_count 44 l) }
