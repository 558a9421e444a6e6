-- What a whole run of `put_lines` comes to, from count 0: the count is the number of lines, and where they fit the buffer holds their numbers and then what
-- it held there. Assumes nothing.
use Prim.Native.Nat.{ℕ, zero, suc, ◌+◌, ◌*◌, ◌/◌, ◌^◌, ◌<◌, ◌≤◌, min}
use mathlib.Core.Path.{◌≡◌, ap, sym, ◌∙◌}
use mathlib.Core.List.{List, [], ◌∷◌, ◌++◌, append_assoc}
use native.Mathlib.Omega.{arith}
use native.Mathlib.Nat.{add-zero, zero-add, suc-mul, le-div_iff_mul-le}
use native.Mathlib.Numerals.{add-one}
use native.Mathlib.Decide.{dec_lt}
use lib.ListN.{length, drop, length-append, length-drop}
use lib.Seq.{sets-eq, take_at, drop_at, drop-drop}
use lib.IntN.{ℤ}
use borrow.Author.Tests.{lt-ltb}
use Rattle.line_buffer.specs.Lines.{flat_lines}
use Rattle.line_buffer.specs.inner.Sink.{Sink, sink, more, put_line, put_lines}
use Rattle.line_buffer.proofs.LineLaws.{more_below, more_at, put_fits}

-- ---- the count
more_is : (n : ℕ) → n ≤ 2 ^ 60 → more n ≡ min (n + 1) (2 ^ 60)
more_is n h = go (dec_lt n (2 ^ 60))
  where
    go : Dec (n < 2 ^ 60) → more n ≡ min (n + 1) (2 ^ 60)
    go (yes l) = more_below n l ∙ omega arith
    go (no l) = more_at n (omega arith) ∙ omega arith

module _ {X : Type 0} (w : ℕ) (numbers : X → List ℤ) where
  lines_count : (xs : List X) (s : Sink) → s.count ≤ 2 ^ 60 → (put_lines w numbers s xs).count ≡ min (s.count + length xs) (2 ^ 60)
  unfolding put_lines put_line
  lines_count [] s h = omega arith
  lines_count (x ∷ xs) s h =
      lines_count xs (put_line w s (numbers x)) (omega (arith, more_is s.count h)) ∙ omega (arith, more_is s.count h)

  -- a pass over any buffer: the count tells whether the lines fit another
  pub count_fits : {o : List ℤ} {c : ℕ} (o₀ : List ℤ) (xs : List X) → sink o c ≡ put_lines w numbers (sink o₀ 0) xs → c ≡ min (length xs) (2 ^ 60)
  count_fits o₀ xs e = ap (λ s. s.count) e ∙ lines_count xs (sink o₀ 0) (omega arith) ∙ ap (λ n. min n (2 ^ 60)) (zero-add (length xs))

  -- ---- the buffer, where each line has w numbers
  module _ (some-w : 0 < w) (each-w : (x : X) → length (numbers x) ≡ w) where
    pub flat_length : (xs : List X) → length (flat_lines numbers xs) ≡ length xs * w
    unfolding flat_lines
    flat_length [] = omega arith
    flat_length (x ∷ xs) = simp length-append (omega (arith, each-w x, flat_length xs, suc-mul (length xs) w))

    -- a line over the first numbers of q
    put_at : (p q : List ℤ) (n : ℕ) (x : X) → length p ≡ n * w → w ≤ length q → n < 2 ^ 60
        → put_line w (sink (p ++ q) n) (numbers x) ≡ sink ((p ++ numbers x) ++ drop w q) (n + 1)
    put_at p q n x hp hq hn =
        let room : n < length (p ++ q) / w = (le-div_iff_mul-le some-w).1 (simp length-append (omega (arith, suc-mul n w))) in
        let fits : n * w + length (numbers x) ≤ length (p ++ q) = simp length-append (omega (arith, each-w x)) in
        let rest : drop (n * w + length (numbers x)) (p ++ q) ≡ drop w q =
        rw (each-w x) (sym (drop-drop w (n * w) (p ++ q)) ∙ ap (drop w) (drop_at p q (n * w) hp)) in
        put_fits w (p ++ q) n (numbers x) (lt-ltb n _ room) ∙ ap (sink _) (more_below n hn)
        ∙ ap (λ o. sink o (n + 1)) (sets-eq (numbers x) (p ++ q) (n * w) fits ∙ rw (take_at p q (n * w) hp, rest))

    lines_fit : (xs : List X) (p q : List ℤ) (n : ℕ) → length p ≡ n * w → length xs * w ≤ length q → n + length xs < 2 ^ 60
        → put_lines w numbers (sink (p ++ q) n) xs ≡ sink (p ++ (flat_lines numbers xs ++ drop (length xs * w) q)) (n + length xs)
    unfolding put_lines flat_lines
    lines_fit [] p q n hp hq hn = let z : 0 * w ≡ 0 = omega arith in rw (z, add-zero n)
    lines_fit (x ∷ xs) p q n hp hq hn =
        let m = suc-mul (length xs) w in
        let grown : length (p ++ numbers x) ≡ (n + 1) * w = rw (add-one n) (simp length-append (omega (arith, each-w x, suc-mul n w))) in
        let whole : w + length xs * w ≡ suc (length xs) * w = omega arith in
        let rest : drop (length xs * w) (drop w q) ≡ drop (suc (length xs) * w) q = drop-drop (length xs * w) w q ∙ ap (λ k. drop k q) whole in
        let fits : length xs * w ≤ length (drop w q) = simp length-drop (omega arith) in
        ap (λ s. put_lines w numbers s xs) (put_at p q n x hp (omega arith) (omega arith))
        ∙ lines_fit xs (p ++ numbers x) (drop w q) (n + 1) grown fits (omega arith)
        ∙ rw (rest, append_assoc p (numbers x), append_assoc (numbers x)) (ap (sink _) (omega arith))

    -- the pass over the buffer that they fit
    pub lines_whole : (o : List ℤ) (xs : List X) → length xs * w ≤ length o → length o < 2 ^ 60
        → put_lines w numbers (sink o 0) xs ≡ sink (flat_lines numbers xs ++ drop (length xs * w) o) (length xs)
    lines_whole o xs h l =
        let few : length xs ≤ length xs * w = mul_grows (length xs) in
        lines_fit xs [] o 0 (omega arith) h (omega arith) ∙ ap (sink _) (zero-add (length xs))
      where
        mul_grows : (k : ℕ) → k ≤ k * w
        mul_grows zero = omega arith
        mul_grows (suc k) = omega (arith, suc-mul k w, mul_grows k)
