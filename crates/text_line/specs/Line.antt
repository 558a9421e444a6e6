-- A line: the kind and its columns in order, parted by commas. It is a row, or it is refused by 9 (spelling, empty kind), 2 (no such kind) or
-- 9 (field count), in this order. Assumes nothing.
use Rattle.std.specs.Prelude.{ℕ, suc, ◌-◌, Bool, cond, ◌&&◌, not, List, [], ◌++◌, map, eqb, ltb, length, get_or, replicate, ℤ, pos, Option, Result, Ok, Err}
use Rattle.loops.specs.Lists.{all_of, is_empty}
use Rattle.loops.specs.Numbers.{to_nat}
use Rattle.refusals.specs.declared.Reason.{Reason}
use Rattle.refusals.specs.declared.Reason.TheVariants.{UnknownKind, Misspelt}
use Rattle.rows.specs.Table.{width}
use Rattle.text_fields.specs.Parts.{parts}
use Rattle.text_fields.specs.Spelling.{number_of}
use Rattle.std.specs.Option.{is_some, unwrap_or}

abbrev pub fields_of : List ℕ → List (List ℕ)
fields_of l = parts 44 l

-- whether a field is spelled right, and what it holds
abbrev pub is_number : Option ℤ → Bool
is_number n = is_some n

abbrev pub held : Option ℤ → ℤ
held n = unwrap_or n (pos 0)

abbrev pub value_of : List ℕ → ℤ
value_of f = held (number_of f)

-- every field is spelled right: a number, or none at all
unfoldable pub spelled : List (List ℕ) → Bool
spelled fs = all_of (λ f. is_number (number_of f)) fs

-- kind k with n fields in all, its own among them. The kinds are 1 to 24
abbrev pub by_kind : ℕ → ℕ → Result Unit Reason
by_kind k n = cond (ltb 0 k && ltb k 25) (cond (eqb n (suc (width k))) (Ok tt) (Err Misspelt)) (Err UnknownKind)

-- a line of n fields, the first of them the kind's; a negative kind is no kind, as 0 is none
abbrev pub by_fields : Bool → List ℕ → ℕ → Result Unit Reason
by_fields good kind n = cond (good && not (is_empty kind)) (by_kind (to_nat (value_of kind)) n) (Err Misspelt)

unfoldable pub line_of : List ℕ → Result Unit Reason
line_of l = by_fields (spelled (fields_of l)) (get_or (fields_of l) 0 []) (length (fields_of l))

-- the ten numbers of a row: the kind, its columns, and zeros
unfoldable pub row_of : List ℕ → List ℤ
row_of l = map value_of (fields_of l) ++ replicate (10 - length (fields_of l)) (pos 0)
