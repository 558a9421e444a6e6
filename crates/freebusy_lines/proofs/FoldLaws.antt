-- Laws of folds at a place of a line, and of the copy without them. Assumes nothing.
use Prim.Native.Nat.{ℕ, suc, ◌+◌, ◌-◌, ◌≤◌, ◌<◌}
use mathlib.Core.Bool.{Bool, true, false, ◌&&◌, ◌||◌, true≢false}
use mathlib.Core.List.{List, [], ◌∷◌, ◌++◌, append-nil, append_assoc}
use mathlib.Core.Path.{◌≡◌, refl, sym, ap, ap₂, ◌∙◌}
use native.Mathlib.Omega.{arith}
use native.Mathlib.Numerals.{add-one}
use lib.Dec.{leb}
use lib.ListN.{length, get_or, drop, take, set, length-drop, length-set, take-append-drop}
use lib.Seq.{drop-cons, drop-drop, drop-set-lt, length-take-le, take-suc-set}
use borrow.Author.Tests.{le-leb}
use Rattle.freebusy_lines.specs.Lines.{is_blank, is_crlf, unfolded}
use Rattle.freebusy_lines.specs.inner.Reading.{fold_first, is_folded}
use Rattle.loops.proofs.ListLaws.{rest_is}
use Rattle.std.proofs.lemmas.List.{nil_from_length}
use Rattle.std.specs.List.{list_any}
use Rattle.std.specs.Iterator.{AlwaysYields}
use Rattle.std.specs.Slice.Iter.{windows_steps}
use Rattle.std.specs.declared.slice.Windows.{Windows}
use Rattle.std.proofs.lemmas.Iterator.{YieldsList}

-- a test that came out both ways
pub clash : {X : Type 0} {b : Bool} → b ≡ true → b ≡ false → X
clash p q = absurd (true≢false (sym p ∙ q))

-- ---- at the front of a list

pub fold_is : (s : List ℕ) → fold_first s ≡ (leb 3 (length s) && (is_crlf (get_or s 0 0) (get_or s 1 0) && is_blank (get_or s 2 0)))
fold_is [] = refl
fold_is (x ∷ []) = refl
fold_is (x ∷ y ∷ []) = refl
fold_is (x ∷ y ∷ z ∷ s) = rw (le-leb 3 (suc (suc (suc (length s)))) (omega arith))

unfolded_fold : (s : List ℕ) → fold_first s ≡ true → unfolded s ≡ unfolded (drop 3 s)
unfolding unfolded
unfolded_fold [] h = clash h refl
unfolded_fold (x ∷ []) h = clash h refl
unfolded_fold (x ∷ y ∷ []) h = clash h refl
unfolded_fold (x ∷ y ∷ z ∷ s) h = rw h

pub unfolded_byte : (x : ℕ) (s : List ℕ) → fold_first (x ∷ s) ≡ false → unfolded (x ∷ s) ≡ x ∷ unfolded s
unfolding unfolded
unfolded_byte x [] h = refl
unfolded_byte x (y ∷ []) h = refl
unfolded_byte x (y ∷ z ∷ s) h = rw h

-- ---- looking for a fold: the windows of three bytes

abbrev pub slides : List ℕ → List (List ℕ)
slides [] = []
slides (x ∷ []) = []
slides (x ∷ y ∷ []) = []
slides (x ∷ y ∷ z ∷ xs) = (x ∷ y ∷ z ∷ []) ∷ slides (y ∷ z ∷ xs)

slid : (xs : List ℕ) (s : Windows ℕ) → s.size ≡ 3 → s.rest.now ≡ xs → AlwaysYields windows_steps (λ y. y.now) s (slides xs)
slid [] s n e = λ v j h. absurd (omega (arith, n, ap length e, h.1.0))
slid (x ∷ []) s n e = λ v j h. absurd (omega (arith, n, ap length e, h.1.0))
slid (x ∷ y ∷ []) s n e = λ v j h. absurd (omega (arith, n, ap length e, h.1.0))
slid (x ∷ y ∷ z ∷ xs) s n e =
    (λ j h. absurd (omega (arith, n, ap length e, h.1.0)), λ v j h. (h.1.1 ∙ ap₂ take n e, slid (y ∷ z ∷ xs) j (h.0 ∙ n) (h.1.2 ∙ ap (drop 1) e)))

pub windows_yield : {s : Windows ℕ} (xs : List ℕ) → s.size ≡ 3 → s.rest.now ≡ xs → YieldsList windows_steps (λ y. y.now) s (slides xs)
windows_yield {s} xs n e = record { runs = slid xs s n e }

pub any_window : (xs : List ℕ) → list_any fold_first (slides xs) ≡ is_folded xs
unfolding is_folded
any_window [] = refl
any_window (x ∷ []) = refl
any_window (x ∷ y ∷ []) = refl
any_window (x ∷ y ∷ z ∷ xs) = ap (λ (b : Bool). fold_first (x ∷ y ∷ z ∷ xs) || b) (any_window (y ∷ z ∷ xs))

-- ---- copying: n bytes went to `to`, which are the bytes before rest without their folds

pub record Copied (s to₀ to rest : List ℕ) (n : ℕ) : Type 0 where
  pub seen : take n to ++ unfolded rest ≡ unfolded s
  pub kept : drop n to ≡ drop n to₀
  pub room : n + length rest ≤ length s
  pub long : length to ≡ length to₀

module _ {s to₀ : List ℕ} where
  module _ {to rest : List ℕ} {n : ℕ} (c : Copied s to₀ to rest n) where
    pub copied_fold : fold_first rest ≡ true → Copied s to₀ to (take (length rest - 3) (drop 3 rest)) n
    copied_fold e = rw (rest_is 3 rest) record {
      seen = ap (λ (l : List ℕ). take n to ++ l) (sym (unfolded_fold rest e)) ∙ c.seen;
      kept = c.kept;
      room = simp length-drop (omega (arith, c.room));
      long = c.long;
    }

    pub copied_byte : 0 < length rest → length s ≤ length to₀ → fold_first rest ≡ false → Copied s to₀ (set to n (get_or rest 0 0)) (take (length rest - 1) (drop 1 rest)) (n + 1)
    copied_byte k room e =
        let x = get_or rest 0 0 in
        let d : rest ≡ x ∷ drop 1 rest = drop-cons rest 0 0 k in
        rw (rest_is 1 rest) record {
          seen =
              rw (add-one n, take-suc-set to n x (omega (arith, c.room, c.long)), append_assoc (take n to) (x ∷ []) (unfolded (drop 1 rest)))
              (ap (λ (l : List ℕ). take n to ++ l) (sym (unfolded_byte x (drop 1 rest) (ap fold_first (sym d) ∙ e)) ∙ ap unfolded (sym d)) ∙ c.seen);
          kept = drop-set-lt (n + 1) to n x (omega arith) ∙ sym (drop-drop 1 n to) ∙ ap (drop 1) c.kept ∙ drop-drop 1 n to₀;
          room = simp length-drop (omega (arith, c.room));
          long = simp length-set c.long;
        }

    module _ (h : length rest ≡ 0) where
      all_seen : take n to ≡ unfolded s
      unfolding unfolded
      all_seen = sym (append-nil (take n to)) ∙ (rw (nil_from_length rest h) at c.seen)

      module _ (room : length s ≤ length to₀) where
        pub copied_count : n ≡ length (unfolded s)
        copied_count = sym (length-take-le n to (omega (arith, c.room, c.long))) ∙ ap length all_seen

        pub copied_all : to ≡ unfolded s ++ drop (length (unfolded s)) to₀
        copied_all =
            sym (take-append-drop n to) ∙ ap (λ (l : List ℕ). l ++ drop n to) all_seen
            ∙ ap (λ (l : List ℕ). unfolded s ++ l) (c.kept ∙ ap (λ (k : ℕ). drop k to₀) copied_count)
