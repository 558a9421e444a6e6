-- What a search for a separator outside quotes passes over, and how the parts that it finds go together again. Assumes nothing.
use Prim.Native.Nat.{ℕ}
use mathlib.Core.Bool.{Bool, true, false, cond, not, ◌||◌}
use mathlib.Core.List.{List, [], ◌∷◌, ◌++◌, append-nil}
use Rattle.std.specs.Prelude.{None, Some}
use mathlib.Core.Path.{◌≡◌, refl, sym, ap, ◌∙◌}
use native.Mathlib.Omega.{arith}
use lib.Dec.{eqb}
use borrow.Author.Tests.{eqb-true, eq-eqb, not-true}
use Rattle.loops.specs.Lists.{all_of}
use Rattle.loops.proofs.BoolLaws.{and_left, and_right, neither_left, neither_right}
use Rattle.text_fields.specs.Parts.{until_byte, on_first}
use Rattle.freebusy_lines.specs.Bytes.{after}
use Rattle.freebusy_property.specs.Quotes.{quoted_after, parting, one_more, parts_in, until_in, after_in}

pub some_is : {A : Type 0} {a b : A} → Some a ≡ Some b → a ≡ b
some_is e = cc

pub no_some : {A : Type 0} {a : A} → None ≡ Some a → ⊥
no_some e = let z : ◌≡◌ {A = ℕ} 0 1 = cc in omega arith

-- ---- bytes that are passed over, and whether what follows them stands in quotes

pub data Runs (b : ℕ) : Bool → List ℕ → Bool → Type 0 where
  stays : {q : Bool} → Runs b q [] q
  passes : {q r : Bool} {u : List ℕ} (x : ℕ) → parting q b x ≡ false → Runs b (quoted_after q x) u r → Runs b q (x ∷ u) r

pub runs_then : {b : ℕ} {q r s : Bool} {u w : List ℕ} → Runs b q u r → Runs b r w s → Runs b q (u ++ w) s
runs_then stays y = y
runs_then (passes x e a) y = passes x e (runs_then a y)

pub until_runs : {b : ℕ} {q r : Bool} {u : List ℕ} → Runs b q u r → (w : List ℕ) → until_in q b (u ++ w) ≡ u ++ until_in r b w
unfolding until_in
until_runs stays w = refl
until_runs (passes x e a) w = rw (e, until_runs a w)

pub after_runs : {b : ℕ} {q r : Bool} {u : List ℕ} → Runs b q u r → (w : List ℕ) → after_in q b (u ++ w) ≡ after_in r b w
unfolding after_in
after_runs stays w = refl
after_runs (passes x e a) w = rw (e, after_runs a w)

-- more bytes in front of the first part
abbrev pub onto : List ℕ → List (List ℕ) → List (List ℕ)
onto [] ps = ps
onto (x ∷ u) ps = on_first x (onto u ps)

onto_first : (u p : List ℕ) (ps : List (List ℕ)) → onto u (p ∷ ps) ≡ (u ++ p) ∷ ps
onto_first [] p ps = refl
onto_first (x ∷ u) p ps = rw (onto_first u p ps)

parts_runs : {b : ℕ} {q r : Bool} {u : List ℕ} → Runs b q u r → (w : List ℕ) → parts_in q b (u ++ w) ≡ onto u (parts_in r b w)
unfolding parts_in
parts_runs stays w = refl
parts_runs (passes x e a) w = rw (e, parts_runs a w)

module _ (b : ℕ) (u : List ℕ) (a : Runs b false u false) where
  -- such bytes are one part, at the end or before a separator
  pub one_part : parts_in false b u ≡ u ∷ []
  unfolding parts_in
  one_part =
      ap (parts_in false b) (sym (append-nil u)) ∙ parts_runs a [] ∙ onto_first u [] [] ∙ ap (λ (l : List ℕ). l ∷ []) (append-nil u)

  pub part_then : eqb b 34 ≡ false → (w : List ℕ) → parts_in false b (u ++ (b ∷ w)) ≡ u ∷ parts_in false b w
  unfolding parts_in
  part_then k w =
      let e : parts_in false b (b ∷ w) ≡ [] ∷ parts_in false b w = rw (eq-eqb b b refl, k) in
      parts_runs a (b ∷ w) ∙ ap (onto u) e ∙ onto_first u [] (parts_in false b w) ∙ ap (λ (l : List ℕ). l ∷ parts_in false b w) (append-nil u)

-- a separator itself
pub until_here : (b : ℕ) (w : List ℕ) → until_in false b (b ∷ w) ≡ []
unfolding until_in
until_here b w = rw (eq-eqb b b refl)

pub after_here : (b : ℕ) (w : List ℕ) → after_in false b (b ∷ w) ≡ Some w
unfolding after_in
after_here b w = rw (eq-eqb b b refl)

-- ---- bytes that are neither a quote nor the separator

abbrev pub plain : ℕ → ℕ → Bool
plain b x = not (eqb x 34 || eqb x b)

pub plain_runs : (b : ℕ) (u : List ℕ) → all_of (plain b) u ≡ true → Runs b false u false
unfolding all_of
plain_runs b [] h = stays
plain_runs b (x ∷ u) h =
    let p = not-true (eqb x 34 || eqb x b) (and_left (plain b x) (all_of (plain b) u) h) in
    passes {q = false} {r = false} {u = u} x (neither_right (eqb x 34) (eqb x b) p) (rw (neither_left (eqb x 34) (eqb x b) p) (plain_runs b u (and_right (plain b x) (all_of (plain b) u) h)))

abbrev pub no_quote : ℕ → Bool
no_quote x = not (eqb x 34)

pub inside_runs : (b : ℕ) (u : List ℕ) → all_of no_quote u ≡ true → Runs b true u true
unfolding all_of
inside_runs b [] h = stays
inside_runs b (x ∷ u) h =
    passes {q = true} {r = true} {u = u} x refl (rw (not-true (eqb x 34) (and_left (no_quote x) (all_of no_quote u) h)) (inside_runs b u (and_right (no_quote x) (all_of no_quote u) h)))

-- ---- what stands before a byte, the byte, and what follows it

pub no_byte : (b : ℕ) (xs : List ℕ) → all_of (λ x. not (eqb x b)) (until_byte b xs) ≡ true
unfolding until_byte all_of
no_byte b [] = refl
no_byte b (x ∷ xs) = go (eqb x b) refl (no_byte b xs)
  where
    go : (t : Bool) → eqb x b ≡ t → all_of (λ x. not (eqb x b)) (until_byte b xs) ≡ true → all_of (λ x. not (eqb x b)) (cond t [] (x ∷ until_byte b xs)) ≡ true
    go true e h = refl
    go false e h = rw (e, h)

pub together : (b : ℕ) (xs v : List ℕ) → after b xs ≡ Some v → xs ≡ until_byte b xs ++ (b ∷ v)
unfolding until_byte after
together b [] v e = absurd (no_some e)
together b (x ∷ xs) v e = go (eqb x b) refl e (together b xs v)
  where
    go : (t : Bool) → eqb x b ≡ t → cond t (Some xs) (after b xs) ≡ Some v → (after b xs ≡ Some v → xs ≡ until_byte b xs ++ (b ∷ v))
        → x ∷ xs ≡ cond t [] (x ∷ until_byte b xs) ++ (b ∷ v)
    go true p e h = rw (eqb-true x b p, some_is e)
    go false p e h = ap (λ (l : List ℕ). x ∷ l) (h e)

module _ (b : ℕ) where
  pub together_in : (q : Bool) (xs v : List ℕ) → after_in q b xs ≡ Some v → xs ≡ until_in q b xs ++ (b ∷ v)
  unfolding until_in after_in
  together_in q [] v e = absurd (no_some e)
  together_in q (x ∷ xs) v e = go (parting q b x) refl e (together_in (quoted_after q x) xs v)
    where
      go : (t : Bool) → parting q b x ≡ t → cond t (Some xs) (after_in (quoted_after q x) b xs) ≡ Some v
          → (after_in (quoted_after q x) b xs ≡ Some v → xs ≡ until_in (quoted_after q x) b xs ++ (b ∷ v))
          → x ∷ xs ≡ cond t [] (x ∷ until_in (quoted_after q x) b xs) ++ (b ∷ v)
      go true p e h = rw (eqb-true x b (and_right (not q) (eqb x b) p), some_is e)
      go false p e h = ap (λ (l : List ℕ). x ∷ l) (h e)

  pub alone_in : (q : Bool) (xs : List ℕ) → after_in q b xs ≡ None → xs ≡ until_in q b xs
  unfolding until_in after_in
  alone_in q [] e = refl
  alone_in q (x ∷ xs) e = go (parting q b x) e (alone_in (quoted_after q x) xs)
    where
      go : (t : Bool) → cond t (Some xs) (after_in (quoted_after q x) b xs) ≡ None
          → (after_in (quoted_after q x) b xs ≡ None → xs ≡ until_in (quoted_after q x) b xs)
          → x ∷ xs ≡ cond t [] (x ∷ until_in (quoted_after q x) b xs)
      go true e h = absurd (no_some (sym e))
      go false e h = ap (λ (l : List ℕ). x ∷ l) (h e)

  -- the parts, each with a separator in front
  unfoldable pub joined : List (List ℕ) → List ℕ
  joined [] = []
  joined (p ∷ ps) = b ∷ (p ++ joined ps)

  pub joined_parts : (q : Bool) (xs : List ℕ) → joined (parts_in q b xs) ≡ b ∷ xs
  unfolding parts_in joined
  joined_parts q [] = refl
  joined_parts q (x ∷ xs) = go (parting q b x) refl (parts_in (quoted_after q x) b xs) (joined_parts (quoted_after q x) xs)
    where
      go : (t : Bool) → parting q b x ≡ t → (ps : List (List ℕ)) → joined ps ≡ b ∷ xs → joined (one_more t x ps) ≡ b ∷ (x ∷ xs)
      go true p ps h = rw (h, eqb-true x b (and_right (not q) (eqb x b) p))
      go false p [] h = absurd (let z : ◌≡◌ {A = ℕ} 0 1 = cc in omega arith)
      go false p (y ∷ ps) h = let e : y ++ joined ps ≡ xs = cc in rw e
