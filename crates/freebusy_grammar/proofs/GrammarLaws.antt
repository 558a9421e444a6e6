-- The page Property takes exactly the lines of the grammar. Assumes nothing.
use Prim.Native.Nat.{ℕ, suc, ◌+◌, ◌<◌}
use mathlib.Core.Bool.{Bool, true, false, cond, not, false≢true}
use mathlib.Core.List.{List, [], ◌∷◌, ◌++◌, append-nil, append_assoc}
use Rattle.std.specs.Prelude.{Option, None, Some}
use mathlib.Core.Path.{◌≡◌, refl, sym, ap, ◌∙◌}
use native.Mathlib.Omega.{arith}
use lib.Dec.{eqb, ltb}
use borrow.Author.Tests.{lt-ltb, ltb-true}
use Rattle.loops.specs.Lists.{all_of, count_of, option}
use Rattle.loops.proofs.BoolLaws.{and_left, and_right, or_left, or_right}
use Rattle.text_fields.specs.Parts.{until_byte, parts}
use Rattle.freebusy_lines.specs.Bytes.{spells, iana_token, after}
use Rattle.freebusy_characters.specs.ParamValue.{param_value}
use Rattle.freebusy_periods.specs.Period.{period}
use Rattle.freebusy_property.specs.Quotes.{until_in, after_in, unquoted_parts, until_unquoted, after_unquoted}
use Rattle.freebusy_property.specs.Property.{FREEBUSY, FBTYPE, param_values, param, is_fbtype, fbtypeparam, other_param, one_fbparam, fbparam, params_in, named, fbvalue, freebusy}
use Rattle.freebusy_grammar.specs.Grammar.{Listed, last_one, one_more, Fbtypeparam, fbtypeparam_of, OtherParam, other_param_of, Fbparam, no_param, and_type, and_other, Freebusy, freebusy_of, Exactly}
use Rattle.freebusy_grammar.proofs.PeriodLaws.{period_clear, clear_part, clear_then, joined_plain}
use Rattle.freebusy_grammar.proofs.ScanLaws.{Runs, stays, passes, runs_then, until_runs, after_runs, one_part, part_then, until_here, after_here, together, together_in, alone_in, joined, joined_parts}
use Rattle.freebusy_grammar.proofs.ValueLaws.{Separates, comma, colon, semicolon, names_run, token_names, spells_names, name_until, name_after, value_run}

-- ---- from the grammar to the test

module _ (b : ℕ) (s : Separates b) (c : eqb 44 b ≡ false) where
  values_run : {v : List ℕ} → Listed param_value v → Runs b false v false
  values_run (last_one v e) = value_run b s v e
  values_run (one_more v vs e r) = runs_then (value_run b s v e) (passes 44 c (values_run r))

  type_run : {p : List ℕ} → Fbtypeparam p → Runs b false p false
  unfolding all_of
  type_run (fbtypeparam_of n t e f) =
      runs_then (names_run b s n (spells_names FBTYPE n refl e)) (passes 61 s.no_equals (names_run b s t (token_names t f)))

  other_run : {p : List ℕ} → OtherParam p → Runs b false p false
  other_run (other_param_of n v e f r) = runs_then (names_run b s n (token_names n e)) (passes 61 s.no_equals (values_run r))

values_pass : {v : List ℕ} → Listed param_value v → param_values v ≡ true
unfolding param_values all_of
values_pass (last_one v e) = rw (one_part 44 v (value_run 44 comma v e), e)
values_pass (one_more v vs e r) = rw (part_then 44 v (value_run 44 comma v e) refl vs, e) (values_pass r)

type_passes : {p : List ℕ} → Fbtypeparam p → (one_fbparam p ≡ true) × (is_fbtype p ≡ true)
unfolding one_fbparam fbtypeparam is_fbtype all_of
type_passes (fbtypeparam_of n t e f) =
    let a = spells_names FBTYPE n refl e in
    (rw (name_until t n a, name_after t n a, e, f), rw (name_until t n a, e))

other_passes : {p : List ℕ} → OtherParam p → (one_fbparam p ≡ true) × (is_fbtype p ≡ false)
unfolding one_fbparam fbtypeparam other_param param is_fbtype
other_passes (other_param_of n v e f r) =
    let a = token_names n e in
    (rw (name_until v n a, name_after v n a, f, e, values_pass r), rw (name_until v n a, f))

periods_pass : {v : List ℕ} → Listed period v → fbvalue v ≡ true
unfolding fbvalue all_of
periods_pass (last_one p e) = rw (clear_part p (period_clear p e), e)
periods_pass (one_more p ps e r) = rw (clear_then ps p (period_clear p e), e) (periods_pass r)

-- the parts that parameters come to
parts_are : {k : ℕ} {ps : List ℕ} (p : List ℕ) → Runs 59 false p false → Fbparam k ps → unquoted_parts 59 (p ++ ps) ≡ p ∷ params_in ps
unfolding params_in
parts_are p a no_param = rw (append-nil p) (unfold after_in in one_part 59 p a)
parts_are p a (and_type r ps x y) = rw (after_here 59 (r ++ ps)) (part_then 59 p a refl (r ++ ps))
parts_are p a (and_other r ps x y) = rw (after_here 59 (r ++ ps)) (part_then 59 p a refl (r ++ ps))

params_pass : {k : ℕ} {ps : List ℕ} → Fbparam k ps → (all_of one_fbparam (params_in ps) ≡ true) × (count_of is_fbtype (params_in ps) ≡ k)
unfolding params_in all_of count_of after_in
params_pass no_param = (refl, refl)
params_pass {k = suc k} (and_type p ps x y) =
    let e = parts_are p (type_run 59 semicolon refl x) y in
    let f = type_passes x in
    let g = params_pass y in
    (rw (e, f.0) g.0, rw (e, f.1) (omega (arith, g.1)))
params_pass (and_other p ps x y) =
    let e = parts_are p (other_run 59 semicolon refl x) y in
    let f = other_passes x in
    let g = params_pass y in
    (rw (e, f.0) g.0, rw (e, f.1) (omega (arith, g.1)))

params_run : {k : ℕ} {ps : List ℕ} → Fbparam k ps → Runs 58 false ps false
params_run no_param = stays
params_run (and_type p ps x y) = passes 59 refl (runs_then (type_run 58 colon refl x) (params_run y))
params_run (and_other p ps x y) = passes 59 refl (runs_then (other_run 58 colon refl x) (params_run y))

-- no name goes on where the parameters begin
params_start : {k : ℕ} {ps : List ℕ} → Fbparam k ps → until_unquoted 59 ps ≡ []
unfolding until_in
params_start no_param = refl
params_start (and_type p ps x y) = refl
params_start (and_other p ps x y) = refl

pub taken : (l : List ℕ) → Freebusy l → freebusy l ≡ true
unfolding freebusy named params_in fbparam all_of
taken l (freebusy_of {k = k} n ps v e x h f) =
    let a = spells_names FREEBUSY n refl e in
    let r = runs_then (names_run 58 colon n a) (params_run x) in
    let w : n ++ (ps ++ (58 ∷ v)) ≡ (n ++ ps) ++ (58 ∷ v) = sym (append_assoc n ps (58 ∷ v)) in
    let u : until_unquoted 58 ((n ++ ps) ++ (58 ∷ v)) ≡ n ++ ps = until_runs r (58 ∷ v) ∙ ap (λ (z : List ℕ). (n ++ ps) ++ z) (until_here 58 v) ∙ append-nil (n ++ ps) in
    let t : after_unquoted 58 ((n ++ ps) ++ (58 ∷ v)) ≡ Some v = after_runs r (58 ∷ v) ∙ after_here 58 v in
    let m = names_run 59 semicolon n a in
    let i : until_unquoted 59 (n ++ ps) ≡ n = until_runs m ps ∙ ap (λ (z : List ℕ). n ++ z) (params_start x) ∙ append-nil n in
    let j : after_unquoted 59 (n ++ ps) ≡ after_unquoted 59 ps = after_runs m ps in
    let g = params_pass x in
    let q : fbparam (params_in ps) ≡ true = rw (g.0, g.1) (lt-ltb k 2 h) in
    rw (w, u, t, i, e, j, q, periods_pass f)

-- ---- from the test to the grammar

listed_of : (t : List ℕ → Bool) (ps : List (List ℕ)) (v : List ℕ) → all_of t ps ≡ true → joined 44 ps ≡ 44 ∷ v → Listed t v
unfolding all_of joined
listed_of t [] v h e = absurd (let z : ◌≡◌ {A = ℕ} 0 1 = cc in omega arith)
listed_of t (p ∷ []) v h e = let q : p ++ [] ≡ v = cc in rw (← q, append-nil p) (last_one p (and_left (t p) true h))
listed_of t (p ∷ r ∷ ps) v h e =
    let q : p ++ (44 ∷ (r ++ joined 44 ps)) ≡ v = cc in
    rw (← q) (one_more p (r ++ joined 44 ps) (and_left (t p) (all_of t (r ∷ ps)) h) (listed_of t (r ∷ ps) (r ++ joined 44 ps) (and_right (t p) (all_of t (r ∷ ps)) h) refl))

values_found : (v : List ℕ) → param_values v ≡ true → Listed param_value v
unfolding param_values
values_found v h = listed_of param_value (unquoted_parts 44 v) v h (joined_parts 44 false v)

periods_found : (v : List ℕ) → fbvalue v ≡ true → Listed period v
unfolding fbvalue
periods_found v h = listed_of period (parts 44 v) v h (joined_plain v)

type_found : (p : List ℕ) → one_fbparam p ≡ true → is_fbtype p ≡ true → Fbtypeparam p
unfolding one_fbparam fbtypeparam other_param is_fbtype
type_found p h i = go (after 61 p) refl (and_right (spells FBTYPE (until_byte 61 p)) (option (after 61 p) false iana_token) (or_left (fbtypeparam p) (other_param p) h (rw i)))
  where
    go : (o : Option (List ℕ)) → after 61 p ≡ o → option o false iana_token ≡ true → Fbtypeparam p
    go None e f = absurd (false≢true f)
    go (Some t) e f = rw (together 61 p t e) (fbtypeparam_of (until_byte 61 p) t i f)

other_found : (p : List ℕ) → one_fbparam p ≡ true → is_fbtype p ≡ false → OtherParam p
unfolding one_fbparam fbtypeparam other_param param is_fbtype
other_found p h i =
    let g : param p ≡ true = and_right (not (is_fbtype p)) (param p) (or_right (fbtypeparam p) (other_param p) h (rw i)) in
    go (after 61 p) refl (and_left (iana_token (until_byte 61 p)) (option (after 61 p) false param_values) g) (and_right (iana_token (until_byte 61 p)) (option (after 61 p) false param_values) g)
  where
    go : (o : Option (List ℕ)) → after 61 p ≡ o → iana_token (until_byte 61 p) ≡ true → option o false param_values ≡ true → OtherParam p
    go None e n f = absurd (false≢true f)
    go (Some v) e n f = rw (together 61 p v e) (other_param_of (until_byte 61 p) v n i (values_found v f))

params_found : (ps : List (List ℕ)) → all_of one_fbparam ps ≡ true → Fbparam (count_of is_fbtype ps) (joined 59 ps)
unfolding all_of count_of joined
params_found [] h = no_param
params_found (p ∷ ps) h =
    go (is_fbtype p) refl (and_left (one_fbparam p) (all_of one_fbparam ps) h) (params_found ps (and_right (one_fbparam p) (all_of one_fbparam ps) h))
  where
    go : (t : Bool) → is_fbtype p ≡ t → one_fbparam p ≡ true → Fbparam (count_of is_fbtype ps) (joined 59 ps)
        → Fbparam (cond t 1 0 + count_of is_fbtype ps) (59 ∷ (p ++ joined 59 ps))
    go true i h r = let z : 1 + count_of is_fbtype ps ≡ suc (count_of is_fbtype ps) = omega arith in rw z (and_type p (joined 59 ps) (type_found p h i) r)
    go false i h r = let z : 0 + count_of is_fbtype ps ≡ count_of is_fbtype ps = omega arith in rw z (and_other p (joined 59 ps) (other_found p h i) r)

-- a head is its name and its parameters
head_found : (h : List ℕ) → named h ≡ true → (k : ℕ) × (ps : List ℕ) × (h ≡ until_unquoted 59 h ++ ps) × (Fbparam k ps) × (k < 2)
unfolding named params_in fbparam
head_found h e = go (after_unquoted 59 h) refl (and_right (spells FREEBUSY (until_unquoted 59 h)) (fbparam (params_in h)) e)
  where
    go : (o : Option (List ℕ)) → after_unquoted 59 h ≡ o → fbparam (option o [] (unquoted_parts 59)) ≡ true
        → (k : ℕ) × (ps : List ℕ) × (h ≡ until_unquoted 59 h ++ ps) × (Fbparam k ps) × (k < 2)
    go None p f = (0, [], alone_in 59 false h p ∙ sym (append-nil (until_unquoted 59 h)), no_param, omega arith)
    go (Some r) p f =
        let ps = unquoted_parts 59 r in
        let a = params_found ps (and_left (all_of one_fbparam ps) (ltb (count_of is_fbtype ps) 2) f) in (
          count_of is_fbtype ps,
          59 ∷ r,
          together_in 59 false h r p,
          rw (joined_parts 59 false r) at a,
          ltb-true (count_of is_fbtype ps) 2 (and_right (all_of one_fbparam ps) (ltb (count_of is_fbtype ps) 2) f),
        )

pub found : (l : List ℕ) → freebusy l ≡ true → Freebusy l
unfolding freebusy
found l e = go (after_unquoted 58 l) refl (and_left (named h) (option (after_unquoted 58 l) false fbvalue) e) (and_right (named h) (option (after_unquoted 58 l) false fbvalue) e)
  where
    h : List ℕ
    h = until_unquoted 58 l

    go : (o : Option (List ℕ)) → after_unquoted 58 l ≡ o → named h ≡ true → option o false fbvalue ≡ true → Freebusy l
    go None p n f = absurd (false≢true f)
    go (Some v) p n f =
        let d = head_found h n in
        let m : spells FREEBUSY (until_unquoted 59 h) ≡ true = unfold named in and_left (spells FREEBUSY (until_unquoted 59 h)) (fbparam (params_in h)) n in
        let w : l ≡ until_unquoted 59 h ++ (d.1 ++ (58 ∷ v)) =
        together_in 58 false l v p ∙ ap (λ (z : List ℕ). z ++ (58 ∷ v)) d.2 ∙ append_assoc (until_unquoted 59 h) d.1 (58 ∷ v) in
        rw w (freebusy_of (until_unquoted 59 h) d.1 v m d.3 d.4 (periods_found v f))

pub exactly : Exactly
exactly l = (found l, taken l)
