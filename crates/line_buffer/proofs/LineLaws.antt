-- Laws of `put_line` and `put_lines`: two runs in a row, the buffer's length. Assumes nothing.
use Prim.Native.Nat.{ℕ, suc, ◌+◌, ◌*◌, ◌/◌, ◌^◌, ◌<◌, ◌≤◌}
use mathlib.Core.Path.{◌≡◌, refl, ap, ap₂, sym, ◌∙◌}
use mathlib.Core.Bool.{Bool, true, false, cond}
use mathlib.Core.List.{List, [], ◌∷◌, ◌++◌}
use lib.ListN.{length}
use lib.Seq.{sets, length-sets}
use lib.Dec.{ltb}
use lib.IntN.{ℤ}
use mir.Syntax.{w64}
use mir.Val.{Fits}
use native.Mathlib.Omega.{arith}
use native.Mathlib.Nat.{suc-mul, mul-le-mul_right, div-mul-le_self}
use borrow.Author.Tests.{lt-ltb, le-ltb, ltb-true}
use Rattle.line_buffer.specs.inner.Sink.{Sink, sink, more, put_line, put_lines}

pub more_below : (n : ℕ) → n < 2 ^ 60 → more n ≡ n + 1
more_below n h = rw (lt-ltb n (2 ^ 60) h)

pub more_at : (n : ℕ) → 2 ^ 60 ≤ n → more n ≡ n
more_at n h = rw (le-ltb n (2 ^ 60) h)

-- where a line lies that the buffer holds; lines of no numbers are not held
held_within : (l n w : ℕ) → ltb n (l / w) ≡ true → n * w + w ≤ l
held_within l n w e =
    let h : suc n ≤ l / w = ltb-true n (l / w) e in
    omega (arith, mul-le-mul_right w h, div-mul-le_self l w, suc-mul n w)

pub held_room : (l n w : ℕ) {b : Bool} → b ≡ ltb n (l / w) → b ≡ true → n * w + w ≤ l
held_room l n w e f = held_within l n w (sym e ∙ f)

pub held_fits : (l n w : ℕ) {b : Bool} → b ≡ ltb n (l / w) → b ≡ true → Fits w64 l → Fits w64 (n * w)
held_fits l n w e f g = let h = held_room l n w e f in record { fits = omega (arith, g.fits) }

pub put_fits : (w : ℕ) (o : List ℤ) (n : ℕ) (line : List ℤ) → ltb n (length o / w) ≡ true → put_line w (sink o n) line ≡ sink (sets o (n * w) line) (more n)
unfolding put_line
put_fits w o n line h = rw h

put_over : (w : ℕ) (o : List ℤ) (n : ℕ) (line : List ℤ) → ltb n (length o / w) ≡ false → put_line w (sink o n) line ≡ sink o (more n)
unfolding put_line
put_over w o n line h = rw h

-- the same, of what the code found
module _ (w : ℕ) (o : List ℤ) (n : ℕ) (line : List ℤ) {b : Bool} (e : b ≡ ltb n (length o / w)) where
  pub put_held : {o' : List ℤ} {r : ℕ} → b ≡ true → o' ≡ sets o (n * w) line → r ≡ more n → sink o' r ≡ put_line w (sink o n) line
  put_held f p q = ap₂ sink p q ∙ sym (put_fits w o n line (sym e ∙ f))

  pub put_past : {r : ℕ} → b ≡ false → r ≡ more n → sink o r ≡ put_line w (sink o n) line
  put_past f q = ap (sink o) q ∙ sym (put_over w o n line (sym e ∙ f))

-- the buffer keeps its length
pub put_length : (w : ℕ) (s : Sink) (line : List ℤ) → length (put_line w s line).buf ≡ length s.buf
unfolding put_line
put_length w s line = go (ltb s.count (length s.buf / w))
  where
    go : (b : Bool) → length (cond b (sets s.buf (s.count * w) line) s.buf) ≡ length s.buf
    go true = length-sets s.buf (s.count * w) line
    go false = refl

module _ {X : Type 0} (w : ℕ) (numbers : X → List ℤ) where
  pub lines_append : (a b : List X) (s : Sink) → put_lines w numbers (put_lines w numbers s a) b ≡ put_lines w numbers s (a ++ b)
  unfolding put_lines
  lines_append [] b s = refl
  lines_append (x ∷ a) b s = lines_append a b (put_line w s (numbers x))

  pub lines_one : (s : Sink) (x : X) → put_lines w numbers s (x ∷ []) ≡ put_line w s (numbers x)
  unfolding put_lines
  lines_one s x = refl

  pub lines_none : (s : Sink) → put_lines w numbers s [] ≡ s
  unfolding put_lines
  lines_none s = refl

  -- two calls, one after the other
  pub lines_then : (a b : List X) (s₀ : Sink) {s s' : Sink} → s ≡ put_lines w numbers s₀ a → s' ≡ put_lines w numbers s b → s' ≡ put_lines w numbers s₀ (a ++ b)
  lines_then a b s₀ p q = q ∙ ap (λ x. put_lines w numbers x b) p ∙ lines_append a b s₀

  lines_length : (xs : List X) (s : Sink) → length (put_lines w numbers s xs).buf ≡ length s.buf
  unfolding put_lines
  lines_length [] s = refl
  lines_length (x ∷ xs) s = lines_length xs (put_line w s (numbers x)) ∙ put_length w s (numbers x)

  pub lines_kept : {o : List ℤ} (o₀ : List ℤ) {n : ℕ} (n₀ : ℕ) (xs : List X) → sink o n ≡ put_lines w numbers (sink o₀ n₀) xs → length o ≡ length o₀
  lines_kept o₀ n₀ xs e = ap (λ s. length s.buf) e ∙ lines_length xs (sink o₀ n₀)
