-- A line with its letters in the other case says the same: it has the name or not, it keeps to the grammar or not, it says FREE or not, and its periods
-- are the same but for the case of letters. Assumes nothing.
use Prim.Native.Nat.{ℕ, ◌+◌, ◌<◌}
use mathlib.Core.Bool.{Bool, true, false, cond, not, ◌&&◌, ◌||◌}
use mathlib.Core.List.{List, [], ◌∷◌, map}
use Rattle.std.specs.Prelude.{Option, None, Some, option_map}
use mathlib.Core.Path.{◌≡◌, refl, ap, ap₂, ◌∙◌}
use native.Mathlib.Omega.{arith}
use lib.Dec.{eqb, ltb}
use Rattle.loops.specs.Lists.{all_of, any_of, count_of, option}
use Rattle.text_fields.specs.Parts.{until_byte, parts, on_first}
use Rattle.letters.specs.Letters.{capital, capitals}
use Rattle.letters.proofs.LetterLaws.{byte_unseen}
use Rattle.freebusy_lines.specs.Bytes.{spells, is_name_byte, iana_token, leading, after}
use Rattle.freebusy_lines.proofs.CaseLaws.{spells_unseen, name_unseen, leading_capitals, until_capitals, after_capitals}
use Rattle.freebusy_periods.specs.Period.{period}
use Rattle.freebusy_periods.proofs.CaseLaws.{period_unseen}
use Rattle.freebusy_characters.specs.ParamValue.{param_value}
use Rattle.freebusy_characters.proofs.CaseLaws.{value_unseen}
use Rattle.freebusy_property.specs.Quotes.{quoted_after, parting, one_more, parts_in, until_in, after_in, until_unquoted, unquoted_parts, after_unquoted}
use Rattle.freebusy_property.specs.Property.{FREEBUSY, FBTYPE, FREE, param_values, param, is_fbtype, fbtypeparam, other_param, one_fbparam, fbparam, params_in, named, fbvalue, freebusy, is_freebusy, says_free, is_free, value_of, periods_of}

-- ---- parts

on_first_capitals : (x : ℕ) (ps : List (List ℕ)) → on_first (capital x) (map capitals ps) ≡ map capitals (on_first x ps)
on_first_capitals x [] = refl
on_first_capitals x (p ∷ ps) = refl

pub parts_capitals : (b : ℕ) → b < 65 → (s : List ℕ) → parts b (capitals s) ≡ map capitals (parts b s)
unfolding parts
parts_capitals b h [] = refl
parts_capitals b h (x ∷ s) = rw (byte_unseen b h x, parts_capitals b h s) (go (eqb x b))
  where
    go : (t : Bool) → cond t ([] ∷ map capitals (parts b s)) (on_first (capital x) (map capitals (parts b s))) ≡ map capitals (cond t ([] ∷ parts b s) (on_first x (parts b s)))
    go true = refl
    go false = on_first_capitals x (parts b s)

module _ (b : ℕ) (h : b < 65) where
  parts_in_capitals : (q : Bool) (s : List ℕ) → parts_in q b (capitals s) ≡ map capitals (parts_in q b s)
  unfolding parts_in
  parts_in_capitals q [] = refl
  parts_in_capitals q (x ∷ s) =
      rw (byte_unseen b h x, byte_unseen 34 (omega arith) x, parts_in_capitals (quoted_after q x) s) (go (parting q b x) (parts_in (quoted_after q x) b s))
    where
      go : (t : Bool) (ps : List (List ℕ)) → one_more t (capital x) (map capitals ps) ≡ map capitals (one_more t x ps)
      go true ps = refl
      go false ps = on_first_capitals x ps

  until_in_capitals : (q : Bool) (s : List ℕ) → until_in q b (capitals s) ≡ capitals (until_in q b s)
  unfolding until_in
  until_in_capitals q [] = refl
  until_in_capitals q (x ∷ s) =
      rw (byte_unseen b h x, byte_unseen 34 (omega arith) x, until_in_capitals (quoted_after q x) s) (go (parting q b x) (until_in (quoted_after q x) b s))
    where
      go : (t : Bool) (u : List ℕ) → cond t [] (capital x ∷ capitals u) ≡ capitals (cond t [] (x ∷ u))
      go true u = refl
      go false u = refl

  after_in_capitals : (q : Bool) (s : List ℕ) → after_in q b (capitals s) ≡ option_map capitals (after_in q b s)
  unfolding after_in
  after_in_capitals q [] = refl
  after_in_capitals q (x ∷ s) =
      rw (byte_unseen b h x, byte_unseen 34 (omega arith) x, after_in_capitals (quoted_after q x) s) (go (parting q b x) (after_in (quoted_after q x) b s))
    where
      go : (t : Bool) (o : Option (List ℕ)) → cond t (Some (capitals s)) (option_map capitals o) ≡ option_map capitals (cond t (Some s) o)
      go true o = refl
      go false o = refl

-- ---- tests of every part

module _ (t : List ℕ → Bool) (h : (p : List ℕ) → t (capitals p) ≡ t p) where
  all_unseen : (ps : List (List ℕ)) → all_of t (map capitals ps) ≡ all_of t ps
  unfolding all_of
  all_unseen [] = refl
  all_unseen (p ∷ ps) = ap₂ ◌&&◌ (h p) (all_unseen ps)

  any_unseen : (ps : List (List ℕ)) → any_of t (map capitals ps) ≡ any_of t ps
  unfolding any_of
  any_unseen [] = refl
  any_unseen (p ∷ ps) = ap₂ ◌||◌ (h p) (any_unseen ps)

  count_unseen : (ps : List (List ℕ)) → count_of t (map capitals ps) ≡ count_of t ps
  unfolding count_of
  count_unseen [] = refl
  count_unseen (p ∷ ps) = ap₂ ◌+◌ (ap (λ b. cond b 1 0) (h p)) (count_unseen ps)

  option_unseen : (o : Option (List ℕ)) → option (option_map capitals o) false t ≡ option o false t
  option_unseen None = refl
  option_unseen (Some v) = h v

-- ---- parameters

names_unseen : (s : List ℕ) → all_of is_name_byte (capitals s) ≡ all_of is_name_byte s
unfolding all_of
names_unseen [] = refl
names_unseen (x ∷ s) = ap₂ ◌&&◌ (name_unseen x) (names_unseen s)

token_unseen : (s : List ℕ) → iana_token (capitals s) ≡ iana_token s
token_unseen [] = refl
token_unseen (x ∷ s) = names_unseen (x ∷ s)

values_unseen : (v : List ℕ) → param_values (capitals v) ≡ param_values v
unfolding param_values
values_unseen v = ap (all_of param_value) (parts_in_capitals 44 (omega arith) false v) ∙ all_unseen param_value value_unseen (unquoted_parts 44 v)

-- what stands after the equals sign
right_unseen : (t : List ℕ → Bool) → ((p : List ℕ) → t (capitals p) ≡ t p) → (p : List ℕ) → option (after 61 (capitals p)) false t ≡ option (after 61 p) false t
right_unseen t h p = ap (λ o. option o false t) (after_capitals 61 (omega arith) p) ∙ option_unseen t h (after 61 p)

param_unseen : (p : List ℕ) → param (capitals p) ≡ param p
unfolding param
param_unseen p =
    ap₂ ◌&&◌ (ap iana_token (until_capitals 61 (omega arith) p) ∙ token_unseen (until_byte 61 p)) (right_unseen param_values values_unseen p)

fbtype_unseen : (p : List ℕ) → is_fbtype (capitals p) ≡ is_fbtype p
unfolding is_fbtype
fbtype_unseen p = ap (spells FBTYPE) (until_capitals 61 (omega arith) p) ∙ spells_unseen FBTYPE (until_byte 61 p)

one_unseen : (p : List ℕ) → one_fbparam (capitals p) ≡ one_fbparam p
unfolding one_fbparam fbtypeparam other_param
one_unseen p =
    ap₂ ◌||◌ (ap₂ ◌&&◌ (fbtype_unseen p) (right_unseen iana_token token_unseen p)) (ap₂ ◌&&◌ (ap not (fbtype_unseen p)) (param_unseen p))

free_unseen : (p : List ℕ) → says_free (capitals p) ≡ says_free p
unfolding says_free
free_unseen p = ap₂ ◌&&◌ (fbtype_unseen p) (right_unseen (spells FREE) (spells_unseen FREE) p)

fbparam_unseen : (ps : List (List ℕ)) → fbparam (map capitals ps) ≡ fbparam ps
unfolding fbparam
fbparam_unseen ps = ap₂ (λ a n. a && ltb n 2) (all_unseen one_fbparam one_unseen ps) (count_unseen is_fbtype fbtype_unseen ps)

-- ---- the line

params_capitals : (h : List ℕ) → params_in (capitals h) ≡ map capitals (params_in h)
unfolding params_in
params_capitals h = ap (λ o. option o [] (unquoted_parts 59)) (after_in_capitals 59 (omega arith) false h) ∙ go (after_unquoted 59 h)
  where
    go : (o : Option (List ℕ)) → option (option_map capitals o) [] (unquoted_parts 59) ≡ map capitals (option o [] (unquoted_parts 59))
    go None = refl
    go (Some v) = parts_in_capitals 59 (omega arith) false v

named_unseen : (h : List ℕ) → named (capitals h) ≡ named h
unfolding named
named_unseen h =
    ap₂ ◌&&◌ (ap (spells FREEBUSY) (until_in_capitals 59 (omega arith) false h) ∙ spells_unseen FREEBUSY (until_unquoted 59 h))
    (ap fbparam (params_capitals h) ∙ fbparam_unseen (params_in h))

fbvalue_unseen : (v : List ℕ) → fbvalue (capitals v) ≡ fbvalue v
unfolding fbvalue
fbvalue_unseen v = ap (all_of period) (parts_capitals 44 (omega arith) v) ∙ all_unseen period period_unseen (parts 44 v)

pub freebusy_unseen : (l : List ℕ) → freebusy (capitals l) ≡ freebusy l
unfolding freebusy
freebusy_unseen l =
    ap₂ ◌&&◌ (ap named (until_in_capitals 58 (omega arith) false l) ∙ named_unseen (until_unquoted 58 l))
    (ap (λ o. option o false fbvalue) (after_in_capitals 58 (omega arith) false l) ∙ option_unseen fbvalue fbvalue_unseen (after_unquoted 58 l))

pub is_freebusy_unseen : (l : List ℕ) → is_freebusy (capitals l) ≡ is_freebusy l
unfolding is_freebusy
is_freebusy_unseen l = ap (spells FREEBUSY) (leading_capitals is_name_byte name_unseen l) ∙ spells_unseen FREEBUSY (leading is_name_byte l)

pub is_free_unseen : (l : List ℕ) → is_free (capitals l) ≡ is_free l
unfolding is_free
is_free_unseen l =
    ap (λ h. any_of says_free (params_in h)) (until_in_capitals 58 (omega arith) false l)
    ∙ ap (any_of says_free) (params_capitals (until_unquoted 58 l)) ∙ any_unseen says_free free_unseen (params_in (until_unquoted 58 l))

pub value_capitals : (l : List ℕ) → value_of (capitals l) ≡ capitals (value_of l)
unfolding value_of
value_capitals l = ap (λ o. option o [] (λ v. v)) (after_in_capitals 58 (omega arith) false l) ∙ go (after_unquoted 58 l)
  where
    go : (o : Option (List ℕ)) → option (option_map capitals o) [] (λ v. v) ≡ capitals (option o [] (λ v. v))
    go None = refl
    go (Some v) = refl

pub periods_capitals : (l : List ℕ) → periods_of (capitals l) ≡ map capitals (periods_of l)
unfolding periods_of
periods_capitals l = ap (parts 44) (value_capitals l) ∙ parts_capitals 44 (omega arith) (value_of l)
