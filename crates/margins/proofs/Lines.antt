-- What is printed of the numbers that the call leaves is what is printed of the margins; and how long it can be: 800 lines take 40,800 bytes at most.
-- Assumes nothing.
use Prim.Native.Nat.{ℕ, zero, suc, ◌+◌, ◌-◌, ◌*◌, ◌<◌, ◌≤◌}
use mathlib.Core.Path.{◌≡◌, refl, sym, ap, ap₂, ◌∙◌}
use mathlib.Core.Bool.{Bool, true, false, cond}
use mathlib.Core.List.{List, [], ◌∷◌, ◌++◌}
use native.Mathlib.Decide.{dec_lt}
use native.Mathlib.Omega.{arith}
use lib.Dec.{eqb}
use lib.IntN.{ℤ, pos}
use lib.ListN.{length, get_or, take, drop, length-append, length-take, length-drop}
use lib.Seq.{drop-drop}
use mir.Syntax.{w64}
use mir.Val.{SFits, to_z, of_z}
use mir.Facts.{to_z-of_z}
use Rattle.loops.specs.Lists.{each}
use Rattle.loops.specs.Numbers.{to_nat}
use Rattle.loops.specs.Range.{collect}
use Rattle.loops.specs.inner.Wrote.{Wrote}
use Rattle.loops.proofs.ListLaws.{rest_is}
use Rattle.loops.proofs.StoreLaws.{wrote_as, wrote_then}
use Rattle.loops.proofs.RangeLaws.{collect_zero, collect_front, collect_ext}
use Rattle.line_buffer.specs.Lines.{flat_lines}
use Rattle.printing.specs.NumberLines.{number_line, line_at}
use Rattle.printing.proofs.ChunkLaws.{Chunked, chunked_all}
use Rattle.printing.proofs.FitLaws.{Small, small_take, small_drop, line_length}
use Rattle.margin_lines.specs.declared.lines.Margin.{Margin}
use Rattle.margin_lines.specs.Margins.{three, flat_margins}
use Rattle.margins.specs.Program.{task_word, resource_word, word_of, margin_line}
use Rattle.margins.specs.inner.Bytes.{line_bytes, lines_bytes}

-- ---- how long a line can be

word_length : (of : ℕ) → length (word_of of) ≤ 9
word_length of = go (eqb of 1)
  where
    go : (b : Bool) → length (cond b task_word resource_word) ≤ 9
    go true = omega arith
    go false = omega arith

bytes_length : (numbers : List ℤ) (k : ℕ) → Small numbers → length (line_bytes (line_at 3 numbers k)) ≤ 51
unfolding line_bytes line_at
bytes_length numbers k s =
    let line : List ℤ = take 3 (drop (k * 3) numbers) in
    let small : Small line = small_take 3 (drop (k * 3) numbers) (small_drop (k * 3) numbers s) in
    simp length-append
    (omega (
      arith,
      word_length (to_nat (get_or line 0 (pos 0))),
      line_length (drop 1 line) (small_drop 1 line small),
      length-drop 1 line,
      length-take 3 (drop (k * 3) numbers),
    ))

pub lines_length : (numbers : List ℤ) → Small numbers → (n : ℕ) → length (lines_bytes numbers n) ≤ 51 * n
unfolding lines_bytes collect
lines_length numbers s zero = omega arith
lines_length numbers s (suc n) = simp length-append (omega (arith, lines_length numbers s n, bytes_length numbers n s))

-- ---- one line after the other

-- the word by the first number, which was read back from its bits, then the others
pub wrote_three : {l m o : List ℕ} {i j k of : ℕ} (line : List ℤ) → SFits w64 (get_or line 0 (pos 0)) → of ≡ to_nat (to_z w64 (of_z w64 (get_or line 0 (pos 0))))
    → Wrote l i m j (word_of of) → Wrote m j o k (number_line (take (length line - 1) (drop 1 line))) → Wrote l i o k (line_bytes line)
unfolding line_bytes
wrote_three line f e v w = wrote_then _ _ (wrote_as (ap word_of (e ∙ ap to_nat (to_z-of_z f))) v) (wrote_as (ap number_line (rest_is 1 line)) w)

-- the first n lines, as the chunks of the numbers end
pub wrote_lines : {l m : List ℕ} {j : ℕ} (numbers : List ℤ) (n : ℕ) {rest : List ℤ} {c : ℕ} → length numbers ≡ 2400 → n ≤ 800 → Chunked line_bytes 3 l 0 numbers n m j rest c
    → (0 < c → length rest < 3) → Wrote l 0 m j (lines_bytes numbers n)
unfolding lines_bytes
wrote_lines {l = l} {m = m} {j = j} numbers n {c = c} k h p e = go (dec_lt 0 c)
  where
    go : Dec (0 < c) → Wrote l 0 m j (collect (λ k. line_bytes (line_at 3 numbers k)) n)
    go (yes d) = chunked_all p (omega (arith, p.whole, p.counted, k, h, e d))
    go (no d) = chunked_all p (omega (arith, p.counted, d))

-- ---- the lines of margins, whatever follows them

module _ (m : Margin) (rest : List ℤ) where
  first_line : line_bytes (line_at 3 (three m ++ rest) 0) ≡ margin_line m
  unfolding line_bytes line_at margin_line
  first_line = refl

  next_line : (k : ℕ) → line_bytes (line_at 3 (three m ++ rest) (suc k)) ≡ line_bytes (line_at 3 rest k)
  unfolding line_at
  next_line k =
      let on : suc k * 3 ≡ 3 + k * 3 = omega arith in
      ap (λ l. line_bytes (take 3 l)) (ap (λ n. drop n (three m ++ rest)) on ∙ sym (drop-drop (k * 3) 3 (three m ++ rest)))

pub lines_are : (ms : List Margin) (rest : List ℤ) → lines_bytes (flat_margins ms ++ rest) (length ms) ≡ each margin_line ms
unfolding lines_bytes flat_margins flat_lines each
lines_are [] rest = collect_zero _
lines_are (m ∷ ms) rest =
    collect_front _ (length ms)
    ∙ ap₂ ◌++◌ (first_line m (flat_margins ms ++ rest)) (collect_ext _ _ (length ms) (λ k l. next_line m (flat_margins ms ++ rest) k) ∙ lines_are ms rest)
