-- Texts that have the same lines differ in their folds alone: each of them becomes, by folds put in and taken out, the one text that has no fold but where
-- one is needed. Assumes nothing.
use Prim.Native.Nat.{ℕ}
use mathlib.Core.Bool.{Bool, true, false, cond, ◌&&◌, ◌||◌, not, and-false}
use mathlib.Core.List.{List, [], ◌∷◌, ◌++◌}
use Rattle.std.specs.Prelude.{Some}
use mathlib.Core.Path.{◌≡◌, refl, ap, ◌∙◌}
use lib.Dec.{eqb}
use lib.Seq.{append_snoc}
use borrow.Author.Tests.{eqb-true}
use Rattle.loops.specs.Lists.{is_empty, last}
use Rattle.loops.proofs.BoolLaws.{and_left, and_right, neither_left, neither_right}
use Rattle.freebusy_lines.specs.Lines.{Line, is_blank, is_crlf, starts_blank, in_front, sent_lines, lines}
use Rattle.freebusy_lines.specs.Folding.{ends_cr, ends_crlf, starts_lf, foldable, Refolded, as_it_was, put_in, taken_out, and_then, SameLines}
use Rattle.freebusy_lines.specs.inner.Reading.{fold_first, end_first}
use Rattle.freebusy_lines.proofs.FoldingLaws.{lines_end, lines_byte, lines_fold, crlf_no_fold, crlf_no_end, on_some, blank_cr, folding}

-- ---- the text of lines, with a fold only where one is needed: between a CR and an LF of a line, before a blank that begins a line, in an empty line without
-- its CRLF. `cr` and `lf` say that a CR, or a CRLF, stands before; `start`, that a line begins

abbrev needed : Bool → Bool → ℕ → Bool
needed cr lf x = cr && eqb x 10 || lf && is_blank x

unfoldable written : Bool → Bool → Bool → List ℕ → Bool → List ℕ → List ℕ
written cr lf start [] true later = 13 ∷ 10 ∷ later
written cr lf start [] false later = cond start (13 ∷ 10 ∷ 32 ∷ later) later
written cr lf start (x ∷ xs) ended later =
    cond (needed cr lf x) (13 ∷ 10 ∷ 32 ∷ x ∷ written (eqb x 13) false false xs ended later) (x ∷ written (eqb x 13) false false xs ended later)

unfoldable plainly : Bool → Bool → Bool → List Line → List ℕ
plainly cr lf start [] = []
plainly cr lf start (l ∷ ls) = written cr lf start l.bytes l.ended (plainly false true true ls)

plain_byte : (cr lf start : Bool) (x : ℕ) (ls : List Line) → needed cr lf x ≡ false → plainly cr lf start (in_front x ls) ≡ x ∷ plainly (eqb x 13) false false ls
unfolding plainly written
plain_byte cr lf start x [] h = rw h
plain_byte cr lf start x (l ∷ ls) h = rw h

plain_fold : (cr lf start : Bool) (x : ℕ) (ls : List Line) → needed cr lf x ≡ true
    → plainly cr lf start (in_front x ls) ≡ 13 ∷ 10 ∷ 32 ∷ x ∷ plainly (eqb x 13) false false ls
unfolding plainly written
plain_fold cr lf start x [] h = rw h
plain_fold cr lf start x (l ∷ ls) h = rw h

-- ---- what stands before

pub record Before (p : List ℕ) (cr lf start : Bool) : Type 0 where
  pub cr_is : ends_cr p ≡ cr
  pub lf_is : ends_crlf p ≡ lf
  pub start_is : (is_empty p || ends_crlf p) ≡ start

last_snoc : (p : List ℕ) (x : ℕ) → last (p ++ x ∷ []) ≡ Some x
unfolding last
last_snoc [] x = refl
last_snoc (y ∷ []) x = refl
last_snoc (y ∷ z ∷ p) x = last_snoc (z ∷ p) x

cr_snoc : (p : List ℕ) (x : ℕ) → ends_cr (p ++ x ∷ []) ≡ eqb x 13
cr_snoc p x = rw (last_snoc p x)

crlf_snoc : (p : List ℕ) (x : ℕ) → ends_crlf (p ++ x ∷ []) ≡ (ends_cr p && eqb x 10)
unfolding ends_crlf last
crlf_snoc [] x = refl
crlf_snoc (y ∷ []) x = refl
crlf_snoc (y ∷ z ∷ []) x = refl
crlf_snoc (y ∷ z ∷ u ∷ p) x = crlf_snoc (z ∷ u ∷ p) x

some_snoc : (p : List ℕ) (x : ℕ) → is_empty (p ++ x ∷ []) ≡ false
some_snoc [] x = refl
some_snoc (y ∷ p) x = refl

-- after a byte, after the end of a line, after a fold and a byte
before_byte : (p : List ℕ) (x : ℕ) → (ends_cr p && eqb x 10) ≡ false → Before (p ++ x ∷ []) (eqb x 13) false false
before_byte p x h = record {
  cr_is = cr_snoc p x;
  lf_is = crlf_snoc p x ∙ h;
  start_is = rw (some_snoc p x) (crlf_snoc p x ∙ h);
}

before_line : (p : List ℕ) → Before ((p ++ 13 ∷ []) ++ 10 ∷ []) false true true
before_line p =
    let e : ends_crlf ((p ++ 13 ∷ []) ++ 10 ∷ []) ≡ true = crlf_snoc (p ++ 13 ∷ []) 10 ∙ ap (λ (b : Bool). b && true) (cr_snoc p 13) in
    record { cr_is = cr_snoc (p ++ 13 ∷ []) 10; lf_is = e; start_is = rw (some_snoc (p ++ 13 ∷ []) 10) e }

folded : List ℕ → List ℕ
folded p = ((p ++ 13 ∷ []) ++ 10 ∷ []) ++ 32 ∷ []

before_folded : (p : List ℕ) (x : ℕ) → Before (folded p ++ x ∷ []) (eqb x 13) false false
unfolding folded
before_folded p x = before_byte (folded p) x (ap (λ (b : Bool). b && eqb x 10) (cr_snoc ((p ++ 13 ∷ []) ++ 10 ∷ []) 32))

-- ---- folds put in and taken out

back : {s t : List ℕ} → Refolded s t → Refolded t s
back as_it_was = as_it_was
back (put_in a b w p h) = taken_out a b w p h
back (taken_out a b w p h) = put_in a b w p h
back (and_then r q) = and_then (back q) (back r)

onto : (p : List ℕ) (x : ℕ) (s t : List ℕ) → Refolded ((p ++ x ∷ []) ++ s) ((p ++ x ∷ []) ++ t) → Refolded (p ++ x ∷ s) (p ++ x ∷ t)
onto p x s t r = rw (append_snoc p x s, append_snoc p x t) at r

open_place : (a b : List ℕ) → (ends_cr a && starts_lf b) ≡ false → (ends_crlf a && starts_blank b) ≡ false → ((is_empty a || ends_crlf a) && is_empty b) ≡ false
    → foldable a b ≡ true
unfolding foldable
open_place a b h k l = rw (h, k, l)

-- a fold with one blank for a fold with the other
swap : (p : List ℕ) (w : ℕ) (s : List ℕ) → is_blank w ≡ true → Refolded (p ++ 13 ∷ 10 ∷ w ∷ s) (p ++ 13 ∷ 10 ∷ 32 ∷ s)
unfolding folded
swap p w s h =
    and_then (put_in p (13 ∷ 10 ∷ w ∷ s) 32 refl (open_place p (13 ∷ 10 ∷ w ∷ s) (and-false (ends_cr p)) (and-false (ends_crlf p)) (and-false (is_empty p || ends_crlf p))))
    (onto p 13 _ _ (onto (p ++ 13 ∷ []) 10 _ _ (onto ((p ++ 13 ∷ []) ++ 10 ∷ []) 32 _ _ (taken_out (folded p) s w h after))))
  where
    there : Before (folded p) false false false
    there = before_byte ((p ++ 13 ∷ []) ++ 10 ∷ []) 32 (and-false (ends_cr ((p ++ 13 ∷ []) ++ 10 ∷ [])))

    after : foldable (folded p) s ≡ true
    after =
        open_place (folded p) s (ap (λ (t : Bool). t && starts_lf s) there.cr_is) (ap (λ (t : Bool). t && starts_blank s) there.lf_is) (ap (λ (t : Bool). t && is_empty s) there.start_is)

-- ---- what may be said of the rest s of a text, whatever stands before it, as long as no CRLF and no fold is parted there

abbrev Settled : List ℕ → Type 0
Settled s = (p : List ℕ) (cr lf start : Bool) → Before p cr lf start → (cr && starts_lf s) ≡ false → (lf && starts_blank s) ≡ false
    → Refolded (p ++ s) (p ++ plainly cr lf start (lines s))

none_of_two : (a b : Bool) → a ≡ false → b ≡ false → (a || b) ≡ false
none_of_two a b h k = rw (h, k)

module _ (p : List ℕ) (cr lf start : Bool) (b : Before p cr lf start) where
  -- over a byte
  over : (x : ℕ) (s : List ℕ) → (cr && eqb x 10) ≡ false → (lf && is_blank x) ≡ false → fold_first (x ∷ s) ≡ false → end_first (x ∷ s) ≡ false
      → (eqb x 13 && starts_lf s) ≡ false → Settled s → Refolded (p ++ x ∷ s) (p ++ plainly cr lf start (lines (x ∷ s)))
  over x s c d f e k r =
      rw (lines_byte x s f e, plain_byte cr lf start x (lines s) (none_of_two (cr && eqb x 10) (lf && is_blank x) c d))
      (onto p x s _ (r (p ++ x ∷ []) (eqb x 13) false false (before_byte p x (rw b.cr_is c)) k refl))

  over_apart : (x y : ℕ) (s : List ℕ) → (cr && eqb x 10) ≡ false → (lf && is_blank x) ≡ false → is_crlf x y ≡ false → Settled (y ∷ s)
      → Refolded (p ++ x ∷ y ∷ s) (p ++ plainly cr lf start (lines (x ∷ y ∷ s)))
  over_apart x y s c d q r = over x (y ∷ s) c d (crlf_no_fold x y s q) (crlf_no_end x y s q) q r

  -- over the end of a line
  over_line : (x y : ℕ) (s : List ℕ) → is_crlf x y ≡ true → starts_blank s ≡ false → Settled s → Refolded (p ++ x ∷ y ∷ s) (p ++ plainly cr lf start (lines (x ∷ y ∷ s)))
  unfolding plainly written
  over_line x y s q k r =
      rw (eqb-true x 13 (and_left (eqb x 13) (eqb y 10) q), eqb-true y 10 (and_right (eqb x 13) (eqb y 10) q), lines_end 13 10 s (ap not k))
      (onto p 13 _ _ (onto (p ++ 13 ∷ []) 10 _ _ (r ((p ++ 13 ∷ []) ++ 10 ∷ []) false true true (before_line p) refl k)))

  -- over a fold before a byte: it is taken out, or is needed
  over_fold : (z u : ℕ) (s : List ℕ) → is_blank z ≡ true → needed cr lf u ≡ false → Settled (u ∷ s)
      → Refolded (p ++ 13 ∷ 10 ∷ z ∷ u ∷ s) (p ++ plainly cr lf start (lines (13 ∷ 10 ∷ z ∷ u ∷ s)))
  over_fold z u s h n r =
      let c = neither_left (cr && eqb u 10) (lf && is_blank u) n in
      let d = neither_right (cr && eqb u 10) (lf && is_blank u) n in
      rw (lines_fold z (u ∷ s) h ∙ on_some u s)
      (and_then (taken_out p (u ∷ s) z h (open_place p (u ∷ s) (rw b.cr_is c) (rw b.lf_is d) (and-false (is_empty p || ends_crlf p)))) (r p cr lf start b c d))

  needed_cr : (u : ℕ) → needed cr lf u ≡ true → eqb u 13 ≡ false
  needed_cr u n = go (eqb u 10) refl n
    where
      go : (t : Bool) → eqb u 10 ≡ t → (cr && t || lf && is_blank u) ≡ true → eqb u 13 ≡ false
      go true e n = rw (eqb-true u 10 e)
      go false e n = blank_cr u (and_right lf (is_blank u) (rw (and-false cr) at n))

  no_fold_here : (u : ℕ) (s : List ℕ) → eqb u 13 ≡ false → fold_first (u ∷ s) ≡ false
  no_fold_here u [] h = refl
  no_fold_here u (y ∷ s) h = crlf_no_fold u y s (ap (λ (t : Bool). t && eqb y 10) h)

  no_end_here : (u : ℕ) (s : List ℕ) → eqb u 13 ≡ false → end_first (u ∷ s) ≡ false
  no_end_here u [] h = refl
  no_end_here u (y ∷ s) h = crlf_no_end u y s (ap (λ (t : Bool). t && eqb y 10) h)

  over_needed : (z u : ℕ) (s : List ℕ) → is_blank z ≡ true → needed cr lf u ≡ true → Settled s
      → Refolded (p ++ 13 ∷ 10 ∷ z ∷ u ∷ s) (p ++ plainly cr lf start (lines (13 ∷ 10 ∷ z ∷ u ∷ s)))
  unfolding folded
  over_needed z u s h n r =
      let v = needed_cr u n in
      rw (lines_fold z (u ∷ s) h ∙ on_some u s ∙ lines_byte u s (no_fold_here u s v) (no_end_here u s v), plain_fold cr lf start u (lines s) n)
      (and_then (swap p z (u ∷ s) h)
      (onto p 13 _ _ (onto (p ++ 13 ∷ []) 10 _ _ (onto ((p ++ 13 ∷ []) ++ 10 ∷ []) 32 _ _
      (onto (folded p) u s _ (r (folded p ++ u ∷ []) (eqb u 13) false false (before_folded p u) (ap (λ (t : Bool). t && starts_lf s) v) refl))))))

-- over a fold at the end of the text
over_last : (p : List ℕ) (cr lf start : Bool) → Before p cr lf start → (z : ℕ) → is_blank z ≡ true
    → Refolded (p ++ 13 ∷ 10 ∷ z ∷ []) (p ++ plainly cr lf start (lines (13 ∷ 10 ∷ z ∷ [])))
unfolding plainly written lines sent_lines
over_last p cr lf true b z h = rw (lines_fold z [] h) (swap p z [] h)
over_last p cr lf false b z h =
    rw (lines_fold z [] h)
    (taken_out p [] z h (open_place p [] (and-false (ends_cr p)) (and-false (ends_crlf p)) (ap (λ (t : Bool). t && true) b.start_is)))

settle : (s : List ℕ) → Settled s
unfolding plainly lines sent_lines
settle [] p cr lf start b c d = as_it_was
settle (x ∷ []) p cr lf start b c d = over p cr lf start b x [] c d refl refl (and-false (eqb x 13)) (settle [])
settle (x ∷ y ∷ []) p cr lf start b c d = go (is_crlf x y) refl (settle (y ∷ [])) (settle [])
  where
    go : (t : Bool) → is_crlf x y ≡ t → Settled (y ∷ []) → Settled [] → Refolded (p ++ x ∷ y ∷ []) (p ++ plainly cr lf start (lines (x ∷ y ∷ [])))
    go false q r₁ r₂ = over_apart p cr lf start b x y [] c d q r₁
    go true q r₁ r₂ = over_line p cr lf start b x y [] q refl r₂
settle (x ∷ y ∷ z ∷ []) p cr lf start b c d = go (is_crlf x y) (is_blank z) refl refl (settle (y ∷ z ∷ [])) (settle (z ∷ []))
  where
    go : (t v : Bool) → is_crlf x y ≡ t → is_blank z ≡ v → Settled (y ∷ z ∷ []) → Settled (z ∷ [])
        → Refolded (p ++ x ∷ y ∷ z ∷ []) (p ++ plainly cr lf start (lines (x ∷ y ∷ z ∷ [])))
    go false v q k r₁ r₂ = over_apart p cr lf start b x y (z ∷ []) c d q r₁
    go true false q k r₁ r₂ = over_line p cr lf start b x y (z ∷ []) q k r₂
    go true true q k r₁ r₂ =
        rw (eqb-true x 13 (and_left (eqb x 13) (eqb y 10) q), eqb-true y 10 (and_right (eqb x 13) (eqb y 10) q)) (over_last p cr lf start b z k)
settle (x ∷ y ∷ z ∷ u ∷ s) p cr lf start b c d =
    go (is_crlf x y) (is_blank z) (needed cr lf u) refl refl refl (settle (y ∷ z ∷ u ∷ s)) (settle (z ∷ u ∷ s)) (settle (u ∷ s)) (settle s)
  where
    go : (t v n : Bool) → is_crlf x y ≡ t → is_blank z ≡ v → needed cr lf u ≡ n → Settled (y ∷ z ∷ u ∷ s) → Settled (z ∷ u ∷ s) → Settled (u ∷ s) → Settled s
        → Refolded (p ++ x ∷ y ∷ z ∷ u ∷ s) (p ++ plainly cr lf start (lines (x ∷ y ∷ z ∷ u ∷ s)))
    go false v n q k m r₁ r₂ r₃ r₄ = over_apart p cr lf start b x y (z ∷ u ∷ s) c d q r₁
    go true false n q k m r₁ r₂ r₃ r₄ = over_line p cr lf start b x y (z ∷ u ∷ s) q k r₂
    go true true false q k m r₁ r₂ r₃ r₄ =
        rw (eqb-true x 13 (and_left (eqb x 13) (eqb y 10) q), eqb-true y 10 (and_right (eqb x 13) (eqb y 10) q)) (over_fold p cr lf start b z u s k m r₃)
    go true true true q k m r₁ r₂ r₃ r₄ =
        rw (eqb-true x 13 (and_left (eqb x 13) (eqb y 10) q), eqb-true y 10 (and_right (eqb x 13) (eqb y 10) q)) (over_needed p cr lf start b z u s k m r₄)

whole : (s : List ℕ) → Refolded s (plainly false false true (lines s))
unfolding last ends_crlf
whole s = settle s [] false false true (record { cr_is = refl; lf_is = refl; start_is = refl }) refl refl

alone : (s t : List ℕ) → lines s ≡ lines t → Refolded s t
alone s t e = let r : Refolded (plainly false false true (lines s)) t = rw e (back (whole t)) in and_then (whole s) r

pub same_lines : SameLines
same_lines s t = (folding, alone s t)
