-- Another folding of the same lines gives the same lines. Assumes nothing.
use Prim.Native.Nat.{ℕ}
use mathlib.Core.Bool.{Bool, true, false, cond, ◌&&◌, ◌||◌, not, and-false, and-true}
use mathlib.Core.List.{List, [], ◌∷◌, ◌++◌, map}
use mathlib.Core.Logic.{◌⊎◌, inl, inr}
use mathlib.Core.Path.{◌≡◌, refl, sym, ap, ap₂, ◌∙◌}
use lib.Dec.{eqb}
use borrow.Author.Tests.{eqb-true, not-true}
use Rattle.loops.specs.Lists.{is_empty, last}
use Rattle.loops.proofs.BoolLaws.{and_left, and_right, neither_left, neither_right}
use Rattle.freebusy_lines.specs.Lines.{Line, line, is_blank, is_crlf, starts_blank, in_front, sent_lines, unfolded, lines}
use Rattle.freebusy_lines.specs.Folding.{ends_crlf, starts_lf, foldable, Refolded, as_it_was, put_in, taken_out, and_then}
use Rattle.freebusy_lines.specs.inner.Reading.{fold_first, end_first}
use Rattle.freebusy_lines.proofs.FoldLaws.{clash, unfolded_byte}

-- ---- lines byte by byte: over the end of a line, a byte, a fold

abbrev unfolded_line : Line → Line
unfolded_line l = line (unfolded l.bytes) l.ended

-- a line stands, if only an empty one without its CRLF
abbrev pub on_line : List Line → List Line
on_line [] = line [] false ∷ []
on_line (l ∷ ls) = l ∷ ls

abbrev first_bytes : List Line → List ℕ
first_bytes [] = []
first_bytes (l ∷ ls) = l.bytes

pub lines_end : (x y : ℕ) (s : List ℕ) → end_first (x ∷ y ∷ s) ≡ true → lines (x ∷ y ∷ s) ≡ line [] true ∷ lines s
unfolding lines sent_lines unfolded
lines_end x y s h = rw h

sent_byte : (x : ℕ) (s : List ℕ) → end_first (x ∷ s) ≡ false → sent_lines (x ∷ s) ≡ in_front x (sent_lines s)
unfolding sent_lines
sent_byte x [] h = refl
sent_byte x (y ∷ s) h = rw h

-- what is neither the end of a line nor a fold is no CRLF
no_crlf : (x y : ℕ) (s : List ℕ) → fold_first (x ∷ y ∷ s) ≡ false → end_first (x ∷ y ∷ s) ≡ false → is_crlf x y ≡ false
no_crlf x y [] f e = sym (and-true (is_crlf x y)) ∙ e
no_crlf x y (z ∷ s) f e = go (is_crlf x y) (is_blank z) f e
  where
    go : (a b : Bool) → (a && b) ≡ false → (a && not b) ≡ false → a ≡ false
    go true true p q = p
    go true false p q = q
    go false b p q = refl

pub crlf_no_fold : (x y : ℕ) (s : List ℕ) → is_crlf x y ≡ false → fold_first (x ∷ y ∷ s) ≡ false
crlf_no_fold x y [] h = refl
crlf_no_fold x y (z ∷ s) h = rw h

pub crlf_no_end : (x y : ℕ) (s : List ℕ) → is_crlf x y ≡ false → end_first (x ∷ y ∷ s) ≡ false
crlf_no_end x y s h = rw h

-- the first line is empty, or begins with the first byte
first_bytes_lem : (y : ℕ) (s : List ℕ) → (first_bytes (sent_lines (y ∷ s)) ≡ []) ⊎ ((r : List ℕ) × (first_bytes (sent_lines (y ∷ s)) ≡ y ∷ r))
unfolding sent_lines
first_bytes_lem y [] = inr ([], refl)
first_bytes_lem y (z ∷ s) = go (end_first (y ∷ z ∷ s)) (sent_lines (z ∷ s))
  where
    go : (t : Bool) (ls : List Line)
        → (first_bytes (cond t (line [] true ∷ sent_lines s) (in_front y ls)) ≡ []) ⊎ ((r : List ℕ) × (first_bytes (cond t (line [] true ∷ sent_lines s) (in_front y ls)) ≡ y ∷ r))
    go true ls = inl refl
    go false [] = inr ([], refl)
    go false (l ∷ ls) = inr (l.bytes, refl)

no_fold_sent : (x : ℕ) (s : List ℕ) → fold_first (x ∷ s) ≡ false → end_first (x ∷ s) ≡ false → fold_first (x ∷ first_bytes (sent_lines s)) ≡ false
unfolding sent_lines
no_fold_sent x [] f e = refl
no_fold_sent x (y ∷ s) f e = go (first_bytes_lem y s)
  where
    go : (first_bytes (sent_lines (y ∷ s)) ≡ []) ⊎ ((r : List ℕ) × (first_bytes (sent_lines (y ∷ s)) ≡ y ∷ r)) → fold_first (x ∷ first_bytes (sent_lines (y ∷ s))) ≡ false
    go (inl q) = ap (λ (l : List ℕ). fold_first (x ∷ l)) q
    go (inr q) = ap (λ (l : List ℕ). fold_first (x ∷ l)) q.1 ∙ crlf_no_fold x y q.0 (no_crlf x y s f e)

unfolded_front : (x : ℕ) (ls : List Line) → fold_first (x ∷ first_bytes ls) ≡ false → map unfolded_line (in_front x ls) ≡ in_front x (map unfolded_line ls)
unfolding unfolded
unfolded_front x [] h = refl
unfolded_front x (l ∷ ls) h = ap (λ (b : List ℕ). line b l.ended ∷ map unfolded_line ls) (unfolded_byte x l.bytes h)

pub lines_byte : (x : ℕ) (s : List ℕ) → fold_first (x ∷ s) ≡ false → end_first (x ∷ s) ≡ false → lines (x ∷ s) ≡ in_front x (lines s)
unfolding lines
lines_byte x s f e = ap (map unfolded_line) (sent_byte x s e) ∙ unfolded_front x (sent_lines s) (no_fold_sent x s f e)

-- a blank is no CR
pub blank_cr : (z : ℕ) → is_blank z ≡ true → eqb z 13 ≡ false
blank_cr z h = go (eqb z 32) (eqb z 9) refl refl h
  where
    go : (a b : Bool) → eqb z 32 ≡ a → eqb z 9 ≡ b → (a || b) ≡ true → eqb z 13 ≡ false
    go true b p q h = rw (eqb-true z 32 p)
    go false true p q h = rw (eqb-true z 9 q)
    go false false p q h = clash h refl

blank_no_end : (z : ℕ) (s : List ℕ) → is_blank z ≡ true → end_first (z ∷ s) ≡ false
blank_no_end z [] h = refl
blank_no_end z (y ∷ s) h = rw (blank_cr z h)

pub lines_fold : (z : ℕ) (s : List ℕ) → is_blank z ≡ true → lines (13 ∷ 10 ∷ z ∷ s) ≡ on_line (lines s)
unfolding lines unfolded
lines_fold z s h = ap (map unfolded_line) sent ∙ go (sent_lines s)
  where
    sent : sent_lines (13 ∷ 10 ∷ z ∷ s) ≡ in_front 13 (in_front 10 (in_front z (sent_lines s)))
    sent =
        sent_byte 13 (10 ∷ z ∷ s) (ap not h) ∙ ap (in_front 13) (sent_byte 10 (z ∷ s) refl) ∙ ap (λ (l : List Line). in_front 13 (in_front 10 l)) (sent_byte z s (blank_no_end z s h))

    go : (ls : List Line) → map unfolded_line (in_front 13 (in_front 10 (in_front z ls))) ≡ on_line (map unfolded_line ls)
    go [] = rw h
    go (l ∷ ls) = rw h

-- ---- a fold put in

on_front : (x : ℕ) (ls : List Line) → in_front x ls ≡ in_front x (on_line ls)
on_front x [] = refl
on_front x (l ∷ ls) = refl

-- where there are bytes there is a line
pub on_some : (y : ℕ) (s : List ℕ) → on_line (lines (y ∷ s)) ≡ lines (y ∷ s)
unfolding lines sent_lines
on_some y [] = refl
on_some y (z ∷ s) = go (end_first (y ∷ z ∷ s)) (sent_lines (z ∷ s))
  where
    go : (t : Bool) (ls : List Line)
        → on_line (map unfolded_line (cond t (line [] true ∷ sent_lines s) (in_front y ls))) ≡ map unfolded_line (cond t (line [] true ∷ sent_lines s) (in_front y ls))
    go true ls = refl
    go false [] = refl
    go false (l ∷ ls) = refl

none_of : (a b d : Bool) → not (a || (b || d)) ≡ true → (a ≡ false) × (b ≡ false) × (d ≡ false)
none_of a b d h =
    let n = not-true (a || (b || d)) h in
    let m = neither_right a (b || d) n in (neither_left a (b || d) n, neither_left b d m, neither_right b d m)

-- what may go between a and b may go between the end of a and b
foldable_tail : (x y : ℕ) (a b : List ℕ) → foldable (x ∷ y ∷ a) b ≡ true → foldable (y ∷ a) b ≡ true
unfolding foldable ends_crlf last
foldable_tail x y [] b h = let n = none_of (eqb y 13 && starts_lf b) (is_crlf x y && starts_blank b) (is_crlf x y && is_empty b) h in rw n.0
foldable_tail x y (z ∷ a) b h = h

module _ (w : ℕ) (p : is_blank w ≡ true) where
  abbrev Same : List ℕ → List ℕ → Type 0
  Same a b = lines (a ++ 13 ∷ 10 ∷ w ∷ b) ≡ lines (a ++ b)

  before_all : (b : List ℕ) → foldable [] b ≡ true → Same [] b
  unfolding foldable ends_crlf last
  before_all [] h = clash h refl
  before_all (y ∷ b) h = lines_fold w (y ∷ b) p ∙ on_some y b

  -- after a byte or a fold, where a line stands in any case
  on_line_lem : (a b : List ℕ) → (foldable a b ≡ true → Same a b) → (is_empty a ≡ false → foldable a b ≡ true) → on_line (lines (a ++ 13 ∷ 10 ∷ w ∷ b)) ≡ on_line (lines (a ++ b))
  unfolding foldable ends_crlf last lines sent_lines unfolded
  on_line_lem [] [] k h = ap on_line (lines_fold w [] p)
  on_line_lem [] (y ∷ b) k h = ap on_line (k refl)
  on_line_lem (x ∷ a) b k h = ap on_line (k (h refl))

  over_byte : (x : ℕ) (a b : List ℕ) → on_line (lines (a ++ 13 ∷ 10 ∷ w ∷ b)) ≡ on_line (lines (a ++ b))
      → lines (x ∷ (a ++ 13 ∷ 10 ∷ w ∷ b)) ≡ in_front x (lines (a ++ 13 ∷ 10 ∷ w ∷ b)) → lines (x ∷ (a ++ b)) ≡ in_front x (lines (a ++ b))
      → lines (x ∷ (a ++ 13 ∷ 10 ∷ w ∷ b)) ≡ lines (x ∷ (a ++ b))
  over_byte x a b k e f =
      e ∙ on_front x (lines (a ++ 13 ∷ 10 ∷ w ∷ b)) ∙ ap (in_front x) k ∙ sym (f ∙ on_front x (lines (a ++ b)))

  after_one : (x : ℕ) (b : List ℕ) → foldable (x ∷ []) b ≡ true → Same (x ∷ []) b
  unfolding foldable ends_crlf last
  after_one x b h =
      over_byte x [] b (on_line_lem [] b (before_all b) (λ e. clash refl e))
      (lines_byte x (13 ∷ 10 ∷ w ∷ b) (crlf_no_fold x 13 (10 ∷ w ∷ b) (and-false (eqb x 13))) (crlf_no_end x 13 (10 ∷ w ∷ b) (and-false (eqb x 13))))
      (plain b (none_of (eqb x 13 && starts_lf b) (false && starts_blank b) (false && is_empty b) h).0)
    where
      plain : (b : List ℕ) → (eqb x 13 && starts_lf b) ≡ false → lines (x ∷ b) ≡ in_front x (lines b)
      plain [] n = lines_byte x [] refl refl
      plain (y ∷ b) n = lines_byte x (y ∷ b) (crlf_no_fold x y b n) (crlf_no_end x y b n)

  -- x and y are no CRLF
  apart : (x y : ℕ) (a b : List ℕ) → is_crlf x y ≡ false → Same (y ∷ a) b → Same (x ∷ y ∷ a) b
  apart x y a b n k =
      lines_byte x (y ∷ (a ++ 13 ∷ 10 ∷ w ∷ b)) (crlf_no_fold x y (a ++ 13 ∷ 10 ∷ w ∷ b) n) (crlf_no_end x y (a ++ 13 ∷ 10 ∷ w ∷ b) n) ∙ ap (in_front x) k
      ∙ sym (lines_byte x (y ∷ (a ++ b)) (crlf_no_fold x y (a ++ b) n) (crlf_no_end x y (a ++ b) n))

  after_two : (x y : ℕ) (b : List ℕ) → foldable (x ∷ y ∷ []) b ≡ true → Same (x ∷ y ∷ []) b
  unfolding foldable ends_crlf last
  after_two x y b h = go (is_crlf x y) refl
    where
      not_blank : (b : List ℕ) → is_crlf x y ≡ true → (is_crlf x y && starts_blank b) ≡ false → starts_blank b ≡ false
      not_blank b c n = sym (ap (λ (t : Bool). t && starts_blank b) c) ∙ n

      some : is_crlf x y ≡ true → (is_crlf x y && is_empty b) ≡ false → is_empty b ≡ false
      some c n = sym (ap (λ (t : Bool). t && is_empty b) c) ∙ n

      go : (t : Bool) → is_crlf x y ≡ t → Same (x ∷ y ∷ []) b
      go false c = apart x y [] b c (after_one y b (foldable_tail x y [] b h))
      go true c =
          let n = none_of (eqb y 13 && starts_lf b) (is_crlf x y && starts_blank b) (is_crlf x y && is_empty b) h in
          lines_end x y (13 ∷ 10 ∷ w ∷ b) (ap (λ (t : Bool). t && true) c) ∙ ap (λ (ls : List Line). line [] true ∷ ls) (before_all b (ap not (some c n.2)))
          ∙ sym (lines_end x y b (ap₂ (λ (t u : Bool). t && not u) c (not_blank b c n.1)))

  put : (a b : List ℕ) → foldable a b ≡ true → Same a b
  put [] b h = before_all b h
  put (x ∷ []) b h = after_one x b h
  put (x ∷ y ∷ []) b h = after_two x y b h
  put (x ∷ y ∷ z ∷ a) b h = go (is_crlf x y) (is_blank z) refl refl (put (y ∷ z ∷ a) b) (put (z ∷ a) b) (put a b)
    where
      h₁ : foldable (y ∷ z ∷ a) b ≡ true
      h₁ = foldable_tail x y (z ∷ a) b h

      h₂ : foldable (z ∷ a) b ≡ true
      h₂ = foldable_tail y z a b h₁

      later : (a : List ℕ) → foldable (z ∷ a) b ≡ true → is_empty a ≡ false → foldable a b ≡ true
      later [] k e = clash refl e
      later (u ∷ a) k e = foldable_tail z u a b k

      go : (c d : Bool) → is_crlf x y ≡ c → is_blank z ≡ d → (foldable (y ∷ z ∷ a) b ≡ true → Same (y ∷ z ∷ a) b) → (foldable (z ∷ a) b ≡ true → Same (z ∷ a) b)
          → (foldable a b ≡ true → Same a b) → Same (x ∷ y ∷ z ∷ a) b
      go false d q r k₁ k₂ k₃ = apart x y (z ∷ a) b q (k₁ h₁)
      go true false q r k₁ k₂ k₃ =
          lines_end x y (z ∷ (a ++ 13 ∷ 10 ∷ w ∷ b)) (ap₂ (λ (t u : Bool). t && not u) q r) ∙ ap (λ (ls : List Line). line [] true ∷ ls) (k₂ h₂)
          ∙ sym (lines_end x y (z ∷ (a ++ b)) (ap₂ (λ (t u : Bool). t && not u) q r))
      go true true q r k₁ k₂ k₃ =
          let ex = eqb-true x 13 (and_left (eqb x 13) (eqb y 10) q) in
          let ey = eqb-true y 10 (and_right (eqb x 13) (eqb y 10) q) in
          rw (ex, ey) (lines_fold z (a ++ 13 ∷ 10 ∷ w ∷ b) r ∙ on_line_lem a b k₃ (later a h₂) ∙ sym (lines_fold z (a ++ b) r))

-- texts that differ in their folds alone have the same lines
pub folding : {s t : List ℕ} → Refolded s t → lines s ≡ lines t
folding as_it_was = refl
folding (put_in a b w p h) = sym (put w p a b h)
folding (taken_out a b w p h) = put w p a b h
folding (and_then r q) = folding r ∙ folding q
