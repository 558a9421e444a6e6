-- No period holds a comma, so that commas part periods. Assumes nothing.
use Prim.Native.Nat.{ℕ, ◌+◌, ◌*◌, ◌-◌}
use mathlib.Core.Bool.{Bool, true, false, cond, not, ◌&&◌, false≢true}
use mathlib.Core.List.{List, [], ◌∷◌, ◌++◌}
use Rattle.std.specs.Prelude.{Option, None, Some}
use mathlib.Core.Path.{◌≡◌, refl, sym, ap, ◌∙◌}
use native.Mathlib.Omega.{arith}
use lib.Dec.{eqb}
use lib.ListN.{length, get_or, take, drop, take-append-drop, drop_of_length-le}
use lib.Seq.{drop-cons, drop-drop}
use borrow.Author.Tests.{eqb-true, ne_eqb}
use Rattle.loops.specs.Lists.{all_of, option, is_some}
use Rattle.loops.specs.Search.{or_else}
use Rattle.loops.proofs.BoolLaws.{and_left, and_right, or_right, both, not_true}
use Rattle.loops.proofs.PartLaws.{all_both}
use Rattle.text_fields.specs.Parts.{until_byte, parts, on_first}
use Rattle.text_fields.specs.Spelling.{is_digit}
use Rattle.letters.specs.Letters.{capital, is_letter, LETTER_T, LETTER_Z}
use Rattle.dates.specs.DateTime.{date, time, date_time}
use Rattle.freebusy_lines.specs.Bytes.{after}
use Rattle.freebusy_periods.specs.Duration.{Counted, counts, counted_from, then_maybe, amount, nothing_more, dur_second, dur_minute, dur_hour, dur_time, dur_date, dur_week, is_sign, dur_unsigned, dur_value}
use Rattle.freebusy_periods.specs.Period.{period_explicit, period_start, period}
use Rattle.freebusy_grammar.proofs.ScanLaws.{no_some, some_is, together, joined}
use Rattle.freebusy_grammar.proofs.ValueLaws.{apart, all_so}

abbrev pub no_comma : ℕ → Bool
no_comma x = not (eqb x 44)

abbrev pub clear : List ℕ → Type 0
clear s = all_of no_comma s ≡ true

-- a byte that passes a test which a comma does not pass
no_comma_lem : (t : ℕ → Bool) → t 44 ≡ false → (x : ℕ) → t x ≡ true → no_comma x ≡ true
no_comma_lem t h x e = rw (apart t x 44 h e)

digit : (x : ℕ) → is_digit x ≡ true → no_comma x ≡ true
digit x e = no_comma_lem is_digit refl x e

letter : (c x : ℕ) → eqb 44 c ≡ false → is_letter c x ≡ true → no_comma x ≡ true
unfolding capital
letter c x h e = no_comma_lem (is_letter c) h x e

-- ---- dates and times

date_clear : (s : List ℕ) → date_time s ≡ true → clear s
unfolding date_time date time all_of
date_clear s e =
    let l = eqb-true (length s) 16 (and_left (eqb (length s) 16) (date s && (is_letter LETTER_T (get_or s 8 0) && time s)) e) in
    let a = and_right (eqb (length s) 16) (date s && (is_letter LETTER_T (get_or s 8 0) && time s)) e in
    let d = and_left (date s) (is_letter LETTER_T (get_or s 8 0) && time s) a in
    let b = and_right (date s) (is_letter LETTER_T (get_or s 8 0) && time s) a in
    let t = letter LETTER_T (get_or s 8 0) refl (and_left (is_letter LETTER_T (get_or s 8 0)) (time s) b) in
    let m = and_right (is_letter LETTER_T (get_or s 8 0)) (time s) b in
    let f = and_left (all_of is_digit (take 6 (drop 9 s))) (is_letter LETTER_Z (get_or s 15 0)) m in
    let z = letter LETTER_Z (get_or s 15 0) refl (and_right (all_of is_digit (take 6 (drop 9 s))) (is_letter LETTER_Z (get_or s 15 0)) m) in
    let q : drop 15 s ≡ get_or s 15 0 ∷ [] = drop-cons s 15 0 (omega arith) ∙ ap (λ (r : List ℕ). get_or s 15 0 ∷ r) (drop_of_length-le s {i = 16} (omega arith)) in
    let n : drop 9 s ≡ take 6 (drop 9 s) ++ (get_or s 15 0 ∷ []) = sym (take-append-drop 6 (drop 9 s)) ∙ ap (λ (r : List ℕ). take 6 (drop 9 s) ++ r) (drop-drop 6 9 s ∙ q) in
    let w : s ≡ take 8 s ++ (get_or s 8 0 ∷ (take 6 (drop 9 s) ++ (get_or s 15 0 ∷ []))) =
    sym (take-append-drop 8 s) ∙ ap (λ (r : List ℕ). take 8 s ++ r) (drop-cons s 8 0 (omega arith) ∙ ap (λ (r : List ℕ). get_or s 8 0 ∷ r) n) in
    ap (all_of no_comma) w
    ∙ all_both no_comma (take 8 s) (get_or s 8 0 ∷ (take 6 (drop 9 s) ++ (get_or s 15 0 ∷ []))) (all_so is_digit no_comma digit (take 8 s) d)
    (both t (all_both no_comma (take 6 (drop 9 s)) (get_or s 15 0 ∷ []) (all_so is_digit no_comma digit (take 6 (drop 9 s)) f) (both z refl)))

-- ---- durations

comma_capital : (x : ℕ) → (capital x ≡ 44 → ⊥) → no_comma x ≡ true
unfolding capital
comma_capital x h = rw (ne_eqb x 44 (λ e. h (rw e)))

counted_clear : (any : Bool) (n : ℕ) (s : List ℕ) (k : Counted) → counted_from any n s ≡ Some k → (k.unit ≡ 44 → ⊥) → clear k.rest → clear s
unfolding counted_from all_of
counted_clear any n [] k e u r = absurd (no_some e)
counted_clear any n (x ∷ s) k e u r = go (is_digit x) refl e (λ f. counted_clear true (n * 10 + (x - 48)) s k f u r)
  where
    last : (t : Bool) → cond t (Some (counts n (capital x) s)) None ≡ Some k → (no_comma x && all_of no_comma s) ≡ true
    last true e =
        let q = some_is e in
        both (comma_capital x (λ z. u (sym (ap (λ (c : Counted). c.unit) q) ∙ z))) (ap (λ (c : Counted). all_of no_comma c.rest) q ∙ r)
    last false e = absurd (no_some e)

    go : (t : Bool) → is_digit x ≡ t → cond t (counted_from true (n * 10 + (x - 48)) s) (cond any (Some (counts n (capital x) s)) None) ≡ Some k
        → (counted_from true (n * 10 + (x - 48)) s ≡ Some k → clear s) → (no_comma x && all_of no_comma s) ≡ true
    go true p e f = both (digit x p) (f e)
    go false p e f = last any e

-- what a reader of seconds takes holds no comma
abbrev Clears : (List ℕ → Option ℕ) → Type 0
Clears f = (s : List ℕ) (n : ℕ) → f s ≡ Some n → clear s

then_clear : (next : List ℕ → Option ℕ) → Clears next → (m : ℕ) → Clears (then_maybe next m)
unfolding then_maybe all_of
then_clear next h m [] n e = refl
then_clear next h m (x ∷ s) n e = go (next (x ∷ s)) refl e
  where
    go : (o : Option ℕ) → next (x ∷ s) ≡ o → option o None (λ k. Some (m + k)) ≡ Some n → (no_comma x && all_of no_comma s) ≡ true
    go None p e = absurd (no_some e)
    go (Some k) p e = h (x ∷ s) k p

amount_clear : (c seconds : ℕ) (next : List ℕ → Option ℕ) → eqb c 44 ≡ false → Clears next → Clears (amount c seconds next)
amount_clear c seconds next h f s n e = go (counted_from false 0 s) refl e
  where
    unit : (k : Counted) (t : Bool) → counted_from false 0 s ≡ Some k → eqb k.unit c ≡ t → cond t (then_maybe next (k.count * seconds) k.rest) None ≡ Some n → clear s
    unit k true p q e =
        counted_clear false 0 s k p (λ z. false≢true (sym h ∙ ap (λ (y : ℕ). eqb y 44) (sym (eqb-true k.unit c q)) ∙ rw z))
        (then_clear next f (k.count * seconds) k.rest n e)
    unit k false p q e = absurd (no_some e)

    go : (o : Option Counted) → counted_from false 0 s ≡ o → option o None (λ k. cond (eqb k.unit c) (then_maybe next (k.count * seconds) k.rest) None) ≡ Some n → clear s
    go None p e = absurd (no_some e)
    go (Some k) p e = unit k (eqb k.unit c) p refl e

nothing_clear : Clears nothing_more
nothing_clear s n e = absurd (no_some e)

either_clear : (f g : List ℕ → Option ℕ) → Clears f → Clears g → Clears (λ s. or_else (f s) (g s))
either_clear f g h k s n e = go (f s) refl e
  where
    go : (o : Option ℕ) → f s ≡ o → or_else o (g s) ≡ Some n → clear s
    go None p e = k s n e
    go (Some m) p e = h s m p

second_clear : Clears dur_second
unfolding dur_second
second_clear = amount_clear 83 1 nothing_more refl nothing_clear

minute_clear : Clears dur_minute
unfolding dur_minute
minute_clear = amount_clear 77 60 dur_second refl second_clear

hour_clear : Clears dur_hour
unfolding dur_hour
hour_clear = amount_clear 72 3600 dur_minute refl minute_clear

-- a letter, and then what f reads
after_letter : (c : ℕ) (f : List ℕ → Option ℕ) → eqb 44 c ≡ false → Clears f → (x : ℕ) (s : List ℕ) (n : ℕ) → cond (is_letter c x) (f s) None ≡ Some n → clear (x ∷ s)
unfolding all_of
after_letter c f h k x s n e = go (is_letter c x) refl e
  where
    go : (t : Bool) → is_letter c x ≡ t → cond t (f s) None ≡ Some n → (no_comma x && all_of no_comma s) ≡ true
    go true p e = both (letter c x h p) (k s n e)
    go false p e = absurd (no_some e)

time_clear : Clears dur_time
unfolding dur_time all_of
time_clear [] n e = refl
time_clear (x ∷ s) n e =
    after_letter 84 (λ s. or_else (dur_hour s) (or_else (dur_minute s) (dur_second s))) refl
    (either_clear dur_hour (λ s. or_else (dur_minute s) (dur_second s)) hour_clear (either_clear dur_minute dur_second minute_clear second_clear)) x s n e

day_clear : Clears dur_date
unfolding dur_date
day_clear = amount_clear 68 86400 dur_time refl time_clear

week_clear : Clears dur_week
unfolding dur_week
week_clear = amount_clear 87 604800 nothing_more refl nothing_clear

unsigned_clear : Clears dur_unsigned
unfolding dur_unsigned all_of
unsigned_clear [] n e = refl
unsigned_clear (x ∷ s) n e =
    after_letter 80 (λ s. or_else (dur_date s) (or_else (dur_time s) (dur_week s))) refl
    (either_clear dur_date (λ s. or_else (dur_time s) (dur_week s)) day_clear (either_clear dur_time dur_week time_clear week_clear)) x s n e

value_clear : Clears dur_value
unfolding dur_value all_of
value_clear [] n e = refl
value_clear (x ∷ s) n e = go (is_sign x) refl e
  where
    go : (t : Bool) → is_sign x ≡ t → cond t (dur_unsigned s) (dur_unsigned (x ∷ s)) ≡ Some n → (no_comma x && all_of no_comma s) ≡ true
    go true p e = both (no_comma_lem is_sign refl x p) (unsigned_clear s n e)
    go false p e = unsigned_clear (x ∷ s) n e

-- ---- periods

side_clear : (s : List ℕ) (test : List ℕ → Bool) → ((d : List ℕ) → test d ≡ true → clear d) → (date_time (until_byte 47 s) && option (after 47 s) false test) ≡ true → clear s
unfolding all_of
side_clear s test h e =
    go (after 47 s) refl (and_right (date_time (until_byte 47 s)) (option (after 47 s) false test) e)
  where
    go : (o : Option (List ℕ)) → after 47 s ≡ o → option o false test ≡ true → clear s
    go None p f = absurd (false≢true f)
    go (Some d) p f =
        ap (all_of no_comma) (together 47 s d p)
        ∙ all_both no_comma (until_byte 47 s) (47 ∷ d) (date_clear (until_byte 47 s) (and_left (date_time (until_byte 47 s)) (option (after 47 s) false test) e)) (h d f)

some_value : (d : List ℕ) → is_some (dur_value d) ≡ true → clear d
some_value d e = go (dur_value d) refl e
  where
    go : (o : Option ℕ) → dur_value d ≡ o → is_some o ≡ true → clear d
    go None p e = absurd (false≢true e)
    go (Some n) p e = value_clear d n p

pub period_clear : (s : List ℕ) → period s ≡ true → clear s
unfolding period period_explicit period_start
period_clear s e = go (period_explicit s) refl
  where
    go : (t : Bool) → period_explicit s ≡ t → clear s
    go true p = side_clear s date_time date_clear p
    go false p = side_clear s (λ d. is_some (dur_value d)) some_value (or_right (period_explicit s) (period_start s) e p)

-- ---- parts between commas

pub clear_part : (p : List ℕ) → clear p → parts 44 p ≡ p ∷ []
unfolding parts all_of
clear_part [] h = refl
clear_part (x ∷ p) h = rw (not_true (eqb x 44) (and_left (no_comma x) (all_of no_comma p) h), clear_part p (and_right (no_comma x) (all_of no_comma p) h))

pub clear_then : (w p : List ℕ) → clear p → parts 44 (p ++ (44 ∷ w)) ≡ p ∷ parts 44 w
unfolding parts all_of
clear_then w [] h = refl
clear_then w (x ∷ p) h = rw (not_true (eqb x 44) (and_left (no_comma x) (all_of no_comma p) h), clear_then w p (and_right (no_comma x) (all_of no_comma p) h))

pub joined_plain : (xs : List ℕ) → joined 44 (parts 44 xs) ≡ 44 ∷ xs
unfolding parts joined
joined_plain [] = refl
joined_plain (x ∷ xs) = go (eqb x 44) refl (parts 44 xs) (joined_plain xs)
  where
    go : (t : Bool) → eqb x 44 ≡ t → (ps : List (List ℕ)) → joined 44 ps ≡ 44 ∷ xs → joined 44 (cond t ([] ∷ ps) (on_first x ps)) ≡ 44 ∷ (x ∷ xs)
    go true p ps h = rw (h, eqb-true x 44 p)
    go false p [] h = absurd (let z : ◌≡◌ {A = ℕ} 0 1 = cc in omega arith)
    go false p (y ∷ ps) h = let e : y ++ joined 44 ps ≡ xs = cc in rw e
