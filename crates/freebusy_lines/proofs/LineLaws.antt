-- Laws of a text's lines for whoever walks over them: the first, those after its end, a line without a fold. Assumes nothing.
use Prim.Native.Nat.{ℕ, suc, ◌+◌, ◌-◌, ◌≤◌, ◌<◌, min}
use mathlib.Core.Bool.{Bool, true, false, cond, not, ◌&&◌}
use mathlib.Core.List.{List, [], ◌∷◌}
use mathlib.Core.Path.{◌≡◌, refl, sym, ap, ◌∙◌}
use native.Mathlib.Omega.{arith}
use native.Mathlib.Decide.{dec_lt}
use Rattle.std.specs.Prelude.{⊤}
use lib.Dec.{ltb}
use lib.ListN.{length, drop, take, drop_of_length-le}
use borrow.Author.Tests.{ltb-true, ltb-false}
use Rattle.loops.proofs.ListLaws.{rest_is}
use Rattle.loops.proofs.BoolLaws.{neither_left, neither_right}
use Rattle.freebusy_lines.specs.Lines.{Line, line, is_crlf, starts_blank, in_front, sent_lines, unfolded}
use Rattle.freebusy_lines.specs.inner.Reading.{fold_first, end_first, is_folded, first_sent}
use Rattle.freebusy_lines.proofs.FoldLaws.{unfolded_byte}

-- a line without a fold is as it is unfolded
pub no_fold : (s : List ℕ) → is_folded s ≡ false → unfolded s ≡ s
unfolding is_folded unfolded
no_fold [] h = refl
no_fold (x ∷ s) h =
    unfolded_byte x s (neither_left (fold_first (x ∷ s)) (is_folded s) h) ∙ ap (λ (l : List ℕ). x ∷ l) (no_fold s (neither_right (fold_first (x ∷ s)) (is_folded s) h))

-- unfolding makes no line longer
pub unfolded_short : (s : List ℕ) → length (unfolded s) ≤ length s
unfolding unfolded
unfolded_short [] = omega arith
unfolded_short (x ∷ []) = omega arith
unfolded_short (x ∷ y ∷ []) = omega arith
unfolded_short (x ∷ y ∷ z ∷ s) = go (fold_first (x ∷ y ∷ z ∷ s)) (unfolded_short s) (unfolded_short (y ∷ z ∷ s))
  where
    go : (t : Bool) → length (unfolded s) ≤ length s → length (unfolded (y ∷ z ∷ s)) ≤ suc (suc (length s))
        → length (cond t (unfolded s) (x ∷ unfolded (y ∷ z ∷ s))) ≤ suc (suc (suc (length s)))
    go true h k = omega arith
    go false h k = omega arith

-- ---- the lines: the first, and those after its end

sent_whole : (s : List ℕ) → length s ≤ length (first_sent s) → first_sent s ≡ s
unfolding first_sent
sent_whole [] h = refl
sent_whole (x ∷ s) h = go (end_first (x ∷ s)) h (sent_whole s)
  where
    go : (b : Bool) → suc (length s) ≤ length (cond b [] (x ∷ first_sent s)) → (length s ≤ length (first_sent s) → first_sent s ≡ s) → cond b [] (x ∷ first_sent s) ≡ x ∷ s
    go true h k = absurd (omega arith)
    go false h k = ap (λ (l : List ℕ). x ∷ l) (k (omega arith))

sent_last : (s : List ℕ) → 0 < length s → length (first_sent s) ≡ length s → sent_lines s ≡ line s false ∷ []
unfolding first_sent sent_lines
sent_last [] k h = absurd (omega arith)
sent_last (x ∷ []) k h = refl
sent_last (x ∷ y ∷ s) k h = go (end_first (x ∷ y ∷ s)) h (sent_last (y ∷ s) (omega arith))
  where
    go : (t : Bool) → length (cond t [] (x ∷ first_sent (y ∷ s))) ≡ suc (suc (length s))
        → (length (first_sent (y ∷ s)) ≡ suc (length s) → sent_lines (y ∷ s) ≡ line (y ∷ s) false ∷ [])
        → cond t (line [] true ∷ sent_lines s) (in_front x (sent_lines (y ∷ s))) ≡ line (x ∷ y ∷ s) false ∷ []
    go true e r = absurd (omega arith)
    go false e r = rw (r (omega arith))

sent_more : (s : List ℕ) → length (first_sent s) < length s → sent_lines s ≡ line (first_sent s) true ∷ sent_lines (drop (length (first_sent s) + 2) s)
unfolding first_sent sent_lines
sent_more [] h = absurd (omega arith)
sent_more (x ∷ []) h = absurd (omega arith)
sent_more (x ∷ y ∷ s) h = go (end_first (x ∷ y ∷ s)) h (sent_more (y ∷ s))
  where
    go : (t : Bool) → length (cond t [] (x ∷ first_sent (y ∷ s))) < suc (suc (length s))
        → (length (first_sent (y ∷ s)) < suc (length s) → sent_lines (y ∷ s) ≡ line (first_sent (y ∷ s)) true ∷ sent_lines (drop (length (first_sent (y ∷ s)) + 2) (y ∷ s)))
        → cond t (line [] true ∷ sent_lines s) (in_front x (sent_lines (y ∷ s)))
        ≡ line (cond t [] (x ∷ first_sent (y ∷ s))) true ∷ sent_lines (drop (length (cond t [] (x ∷ first_sent (y ∷ s))) + 2) (x ∷ y ∷ s))
    go true e r = refl
    go false e r = let d : suc (length (first_sent (y ∷ s))) + 2 ≡ suc (length (first_sent (y ∷ s)) + 2) = omega arith in rw (r (omega arith), d)

-- one law for the line that has its CRLF and for the one that has none
pub sent_on : (s : List ℕ) → 0 < length s
    → sent_lines s ≡ line (first_sent s) (ltb (length (first_sent s)) (length s)) ∷ sent_lines (drop (length (first_sent s) + 2) s)
unfolding sent_lines
sent_on s h = go (ltb (length (first_sent s)) (length s)) refl
  where
    go : (b : Bool) → ltb (length (first_sent s)) (length s) ≡ b → sent_lines s ≡ line (first_sent s) b ∷ sent_lines (drop (length (first_sent s) + 2) s)
    go true e = sent_more s (ltb-true (length (first_sent s)) (length s) e)
    go false e =
        let l = ltb-false (length (first_sent s)) (length s) e in
        let w = sent_whole s l in
        rw (w, sent_last s h (ap length w), drop_of_length-le s {i = length s + 2} (omega arith))

-- ---- the lines as they are sent, one after the other

pub sent_none : (s : List ℕ) → length s ≡ 0 → sent_lines s ≡ []
unfolding sent_lines
sent_none [] h = refl
sent_none (x ∷ s) h = absurd (omega arith)

-- what stands after a line of k bytes
past_is : (rest : List ℕ) (k : ℕ) → drop (min (k + 2) (length rest)) rest ≡ drop (k + 2) rest
past_is rest k = go (dec_lt (k + 2) (length rest))
  where
    go : Dec (k + 2 < length rest) → drop (min (k + 2) (length rest)) rest ≡ drop (k + 2) rest
    go (yes h) = let e : min (k + 2) (length rest) ≡ k + 2 = omega arith in rw e
    go (no h) =
        let e : min (k + 2) (length rest) ≡ length rest = omega arith in
        rw e (drop_of_length-le rest {i = length rest} (omega arith) ∙ sym (drop_of_length-le rest {i = k + 2} (omega arith)))

-- a turn of the iterator: the first line, and those that it has left
pub sent_turn : (rest : List ℕ) {sent : List ℕ} {ended : Bool} (next : ℕ) → (length rest ≡ 0 → ⊥) → sent ≡ first_sent rest → ended ≡ ltb (length sent) (length rest)
    → next ≡ min (length sent + 2) (length rest) → sent_lines rest ≡ line sent ended ∷ sent_lines (take (length rest - next) (drop next rest))
sent_turn rest {sent} {ended} next h e b n = rw (rest_is next rest, n, past_is rest (length sent), b, e) (sent_on rest (omega arith))

-- none is longer than n bytes
abbrev pub Within : ℕ → List Line → Type 0
Within n [] = ⊤
Within n (l ∷ ls) = (length l.bytes ≤ n) × Within n ls

pub within_more : (m n : ℕ) (ls : List Line) → m ≤ n → Within m ls → Within n ls
within_more m n [] l w = tt
within_more m n (x ∷ ls) l w = (omega (arith, w.0), within_more m n ls l w.1)

within_front : (x n : ℕ) (ls : List Line) → Within n ls → Within (suc n) (in_front x ls)
within_front x n [] w = (omega arith, tt)
within_front x n (l ∷ ls) w = (omega (arith, w.0), within_more n (suc n) ls (omega arith) w.1)

pub sent_within : (s : List ℕ) → Within (length s) (sent_lines s)
unfolding sent_lines
sent_within [] = tt
sent_within (x ∷ []) = (omega arith, tt)
sent_within (x ∷ y ∷ s) = go (is_crlf x y && not (starts_blank s)) (sent_within s) (sent_within (y ∷ s))
  where
    go : (b : Bool) → Within (length s) (sent_lines s) → Within (suc (length s)) (sent_lines (y ∷ s))
        → Within (suc (suc (length s))) (cond b (line [] true ∷ sent_lines s) (in_front x (sent_lines (y ∷ s))))
    go true h k = (omega arith, within_more (length s) (suc (suc (length s))) (sent_lines s) (omega arith) h)
    go false h k = within_front x (suc (length s)) (sent_lines (y ∷ s)) k

-- there are no more of them than bytes
pub sent_few : (s : List ℕ) → length (sent_lines s) ≤ length s
unfolding sent_lines
sent_few [] = omega arith
sent_few (x ∷ []) = omega arith
sent_few (x ∷ y ∷ s) = go (is_crlf x y && not (starts_blank s)) (sent_lines (y ∷ s)) (sent_few s) (sent_few (y ∷ s))
  where
    go : (b : Bool) (ls : List Line) → length (sent_lines s) ≤ length s → length ls ≤ suc (length s)
        → length (cond b (line [] true ∷ sent_lines s) (in_front x ls)) ≤ suc (suc (length s))
    go true ls h k = omega arith
    go false [] h k = omega arith
    go false (l ∷ ls) h k = omega arith
