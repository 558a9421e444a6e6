-- The ways in which a call ends that is lent a buffer of lines of w numbers: refused with the sheet; or the lines were found in a buffer of its own, and are
-- handed over, or too many for the lent one, or more than were held where they were found. Assumes nothing.
use Rattle.std.specs.Prelude.{Result, Ok, Err}
use Rattle.refusals.specs.Refusals.{at}
use Rattle.refusals.specs.declared.Refusal.{Refusal}
use Rattle.refusals.specs.declared.Reason.TheVariants as refusals
use Prim.Native.Nat.{ℕ, ◌*◌, ◌/◌, ◌^◌, ◌<◌, ◌≤◌}
use mathlib.Core.Path.{◌≡◌, refl, ap, sym, ◌∙◌}
use mathlib.Core.List.{List, ◌++◌}
use Rattle.std.specs.Prelude.{None, Some}
use native.Mathlib.Omega.{arith}
use native.Mathlib.Nat.{div-le_self}
use lib.Dec.{ltb}
use lib.IntN.{ℤ}
use lib.ListN.{length, take, drop}
use lib.Seq.{take_at}
use borrow.Author.Tests.{lt-ltb, le-ltb, ltb-false}
use Rattle.loops.proofs.PlaceLaws.{or_none_right, if_none}
use Rattle.refusals.specs.Lending.{answered, lent_after}
use Rattle.line_buffer.specs.Lines.{flat_lines}
use Rattle.line_buffer.specs.declared.Handed.{Handed}
use Rattle.line_buffer.specs.declared.Handed.TheVariants.{Over, Full, Longer}
use Rattle.line_buffer.specs.inner.Handing.{handed, after_handing}
use Rattle.line_buffer.specs.inner.Sink.{sink, put_lines}
use Rattle.line_buffer.proofs.Handing.{is_over, is_full, is_longer, lines_within}
use Rattle.line_buffer.proofs.LineLaws.{lines_kept}
use Rattle.line_buffer.proofs.Whole.{count_fits, flat_length, lines_whole}
use Rattle.acceptance.specs.Refusals.{sheet_refusal, call_refusal}

module _ {X : Type 0} (w : ℕ) (numbers : X → List ℤ) (some-w : 0 < w) (each-w : (x : X) → length (numbers x) ≡ w) (rows : List ℤ) (xs : List X) (o : List ℤ) where
  -- the call that finds these lines, lent the buffer o, answers so and leaves the buffer o'
  abbrev pub Ends : Result ℕ Refusal → List ℤ → Type 0
  Ends answer o' =
      (answer ≡ answered (call_refusal rows (length xs) (length o / w)) (length xs))
      × (o' ≡ lent_after (call_refusal rows (length xs) (length o / w)) (flat_lines numbers xs) o)

  pub ends_refused : {e : Refusal} → sheet_refusal rows ≡ Some e → Ends (Err e) o
  unfolding call_refusal
  ends_refused h = (rw h, rw h)

  module _ (passed : sheet_refusal rows ≡ None) where
    -- not refused: the count, and the buffer that holds the lines
    ends_accepted : {o' : List ℤ} {n : ℕ} → length xs ≤ length o / w → n ≡ length xs → o' ≡ flat_lines numbers xs ++ drop (length xs * w) o → Ends (Ok n) o'
    unfolding call_refusal
    ends_accepted h p q =
        rw (passed, le-ltb (length o / w) (length xs) h)
        (ap Ok p, q ∙ ap (λ m. flat_lines numbers xs ++ drop m o) (sym (flat_length w numbers some-w each-w xs)))

    module _ (o₀ : List ℤ) {x : List ℤ} {k : ℕ} (ran : sink x k ≡ put_lines w numbers (sink o₀ 0) xs) {r : Handed} (told : r ≡ handed (length o / w) (length x / w) k) where
      -- all were held, and they were copied
      pub ends_over : {o' : List ℤ} → k ≡ length xs → length o₀ < 2 ^ 60 → o' ≡ after_handing r (k * w) x o → r ≡ Over → Ends (Ok k) o'
      ends_over n room left over =
          let fits = is_over (length o / w) (length x / w) k told over in
          let held : length x ≡ length o₀ = lines_kept w numbers o₀ 0 xs ran in
          let inside : k * w ≤ length x = lines_within k (length x) w fits.1 in
          let whole : x ≡ flat_lines numbers xs ++ drop (length xs * w) o₀ =
          ap (λ s. s.buf) (ran ∙ lines_whole w numbers some-w each-w o₀ xs (rw n at (rw held at inside)) room) in
          let first : take (k * w) x ≡ flat_lines numbers xs =
          ap (take (k * w)) whole ∙ take_at (flat_lines numbers xs) _ (k * w) (flat_length w numbers some-w each-w xs ∙ ap (λ m. m * w) (sym n)) in
          ends_accepted (omega (arith, fits.0)) n
          (left ∙ ap (λ h. after_handing h (k * w) x o) over ∙ ap (λ l. l ++ drop (k * w) o) first ∙ ap (λ m. flat_lines numbers xs ++ drop (m * w) o) n)

      -- the buffer has no room for them
      pub ends_full : {o' : List ℤ} → o' ≡ after_handing r (k * w) x o → r ≡ Full → Ends (Err (at refusals.Full 0)) o'
      unfolding call_refusal
      ends_full left full =
          let over : length o / w < k = is_full (length o / w) (length x / w) k told full in
          let h : length o / w < length xs = omega (arith, count_fits w numbers o₀ xs ran) in
          rw (passed, lt-ltb (length o / w) (length xs) h) (refl, left ∙ ap (λ h. after_handing h (k * w) x o) full)

      module _ (short : length o < 2 ^ 60) where
        -- a count that the buffer has room for is exact
        pub all_counted : k ≤ length o / w → k ≡ length xs
        all_counted l = omega (arith, count_fits w numbers o₀ xs ran, div-le_self (length o) w)

        -- they were found once more, in the lent buffer
        pub ends_longer : {o₁ o' : List ℤ} {n : ℕ} → o₁ ≡ after_handing r (k * w) x o → r ≡ Longer → sink o' n ≡ put_lines w numbers (sink o₁ 0) xs → Ends (Ok n) o'
        ends_longer left longer again =
            let ran-again = again ∙ ap (λ l. put_lines w numbers (sink l 0) xs) (left ∙ ap (λ h. after_handing h (k * w) x o) longer) in
            let fits : k ≤ length o / w = is_longer (length o / w) (length x / w) k told longer in
            let within : k * w ≤ length o = lines_within k (length o) w fits in
            let n : k ≡ length xs = all_counted fits in
            let whole = ran-again ∙ lines_whole w numbers some-w each-w o xs (rw n at within) short in
            ends_accepted (omega arith) (ap (λ s. s.count) whole) (ap (λ s. s.buf) whole)

-- a call that is not refused had room for its lines
pub had_room : (rows : List ℤ) (lines room : ℕ) → call_refusal rows lines room ≡ None → lines ≤ room
unfolding call_refusal
had_room rows lines room e = omega (arith, ltb-false room lines (if_none (ltb room lines) _ (or_none_right (sheet_refusal rows) _ e)))

-- two accepted sheets in which equally many lines are found, and the same room
pub same_refusal : (a b : List ℤ) {n m : ℕ} (room : ℕ) → sheet_refusal a ≡ None → sheet_refusal b ≡ None → n ≡ m → call_refusal a n room ≡ call_refusal b m room
unfolding call_refusal
same_refusal a b room p q same = rw (p, q, same)
