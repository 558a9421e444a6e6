-- Letters in the other case: durations, periods and windows are the same. Assumes nothing.
use Prim.Native.Nat.{ℕ, ◌+◌, ◌*◌, ◌-◌}
use mathlib.Core.Bool.{Bool, true, false, cond, ◌&&◌, ◌||◌}
use mathlib.Core.List.{List, [], ◌∷◌}
use Rattle.std.specs.Prelude.{Option, None, Some, Ok, Err, option_map}
use mathlib.Core.Path.{◌≡◌, refl, ap, ap₂, ◌∙◌}
use native.Mathlib.Omega.{arith}
use lib.Dec.{eqb, ltb}
use Rattle.loops.specs.Lists.{option, is_some}
use Rattle.loops.specs.Search.{or_else}
use Rattle.text_fields.specs.Spelling.{is_digit}
use Rattle.text_fields.specs.Parts.{until_byte}
use Rattle.letters.specs.Letters.{capital, capitals, LETTER_D, LETTER_H, LETTER_M, LETTER_P, LETTER_S, LETTER_T, LETTER_W}
use Rattle.letters.proofs.LetterLaws.{capital_twice, byte_unseen, digit_unseen, digit_kept}
use Rattle.dates.specs.DateTime.{date_time, instant}
use Rattle.dates.proofs.InstantLaws.{date_time_unseen, instant_unseen}
use Rattle.refusals.specs.declared.Reason.TheVariants.{Malformed, Undated}
use Rattle.freebusy_lines.specs.Bytes.{SLASH, PLUS, HYPHEN, after}
use Rattle.freebusy_lines.proofs.CaseLaws.{until_capitals, after_capitals}
use Rattle.freebusy_periods.specs.Duration.{Counted, counts, counted_from, counted, then_maybe, amount, nothing_more, dur_second, dur_minute, dur_hour, dur_time, dur_date, dur_week, dur_unsigned, dur_value, is_sign, is_back}
use Rattle.freebusy_periods.specs.Period.{period_explicit, period_start, period, moved, end_from, span, window_of}

-- a function of bytes that does not see the case of letters
abbrev Blind : {B : Type 0} → (List ℕ → B) → Type 0
Blind f = (s : List ℕ) → f (capitals s) ≡ f s

-- a number with its unit is the same, but for the letters of what follows it
abbrev rest_capitals : Counted → Counted
rest_capitals k = counts k.count k.unit (capitals k.rest)

counted_from_capitals : (any : Bool) (n : ℕ) (s : List ℕ) → counted_from any n (capitals s) ≡ option_map rest_capitals (counted_from any n s)
unfolding counted_from
counted_from_capitals any n [] = refl
counted_from_capitals any n (x ∷ s) =
    ap (λ (b : Bool). cond b (counted_from true (n * 10 + (capital x - 48)) (capitals s)) (cond any (Some (counts n (capital (capital x)) (capitals s))) None)) (digit_unseen x)
    ∙ go (is_digit x) any refl (counted_from_capitals true (n * 10 + (x - 48)) s)
  where
    go : (b any : Bool) → is_digit x ≡ b → counted_from true (n * 10 + (x - 48)) (capitals s) ≡ option_map rest_capitals (counted_from true (n * 10 + (x - 48)) s)
        → cond b (counted_from true (n * 10 + (capital x - 48)) (capitals s)) (cond any (Some (counts n (capital (capital x)) (capitals s))) None)
        ≡ option_map rest_capitals (cond b (counted_from true (n * 10 + (x - 48)) s) (cond any (Some (counts n (capital x) s)) None))
    go true any p k = ap (λ (y : ℕ). counted_from true (n * 10 + (y - 48)) (capitals s)) (digit_kept x p) ∙ k
    go false true p k = ap (λ (y : ℕ). Some (counts n y (capitals s))) (capital_twice x)
    go false false p k = refl

pub counted_capitals : (s : List ℕ) → counted (capitals s) ≡ option_map rest_capitals (counted s)
counted_capitals s = counted_from_capitals false 0 s

then_unseen : (next : List ℕ → Option ℕ) (n : ℕ) → Blind next → Blind (then_maybe next n)
unfolding then_maybe
then_unseen next n u [] = refl
then_unseen next n u (x ∷ s) = ap (λ (o : Option ℕ). option o None (λ m. Some (n + m))) (u (x ∷ s))

amount_unseen : (c seconds : ℕ) (next : List ℕ → Option ℕ) → Blind next → Blind (amount c seconds next)
amount_unseen c seconds next u s =
    ap (λ (o : Option Counted). option o None (λ k. cond (eqb k.unit c) (then_maybe next (k.count * seconds) k.rest) None)) (counted_capitals s) ∙ go (counted s)
  where
    go : (o : Option Counted)
        → option (option_map rest_capitals o) None (λ k. cond (eqb k.unit c) (then_maybe next (k.count * seconds) k.rest) None)
        ≡ option o None (λ k. cond (eqb k.unit c) (then_maybe next (k.count * seconds) k.rest) None)
    go None = refl
    go (Some k) = ap (λ (o : Option ℕ). cond (eqb k.unit c) o None) (then_unseen next (k.count * seconds) u k.rest)

-- ---- the productions, one after the other

second_unseen : Blind dur_second
unfolding dur_second
second_unseen s = amount_unseen LETTER_S 1 nothing_more (λ r. refl) s

minute_unseen : Blind dur_minute
unfolding dur_minute
minute_unseen s = amount_unseen LETTER_M 60 dur_second second_unseen s

hour_unseen : Blind dur_hour
unfolding dur_hour
hour_unseen s = amount_unseen LETTER_H 3600 dur_minute minute_unseen s

time_unseen : Blind dur_time
unfolding dur_time
time_unseen [] = refl
time_unseen (x ∷ s) =
    ap₂ (λ (y : ℕ) (o : Option ℕ). cond (eqb y LETTER_T) o None) (capital_twice x) (ap₂ or_else (hour_unseen s) (ap₂ or_else (minute_unseen s) (second_unseen s)))

date_unseen : Blind dur_date
unfolding dur_date
date_unseen s = amount_unseen LETTER_D 86400 dur_time time_unseen s

week_unseen : Blind dur_week
unfolding dur_week
week_unseen s = amount_unseen LETTER_W 604800 nothing_more (λ r. refl) s

unsigned_unseen : Blind dur_unsigned
unfolding dur_unsigned
unsigned_unseen [] = refl
unsigned_unseen (x ∷ s) =
    ap₂ (λ (y : ℕ) (o : Option ℕ). cond (eqb y LETTER_P) o None) (capital_twice x) (ap₂ or_else (date_unseen s) (ap₂ or_else (time_unseen s) (week_unseen s)))

sign_unseen : (x : ℕ) → is_sign (capital x) ≡ is_sign x
sign_unseen x = ap₂ ◌||◌ (byte_unseen PLUS (omega arith) x) (byte_unseen HYPHEN (omega arith) x)

pub value_unseen : (s : List ℕ) → dur_value (capitals s) ≡ dur_value s
unfolding dur_value
value_unseen [] = refl
value_unseen (x ∷ s) =
    ap (λ (b : Bool). cond b (dur_unsigned (capitals s)) (dur_unsigned (capital x ∷ capitals s))) (sign_unseen x)
    ∙ ap₂ (λ (o p : Option ℕ). cond (is_sign x) o p) (unsigned_unseen s) (unsigned_unseen (x ∷ s))

pub back_unseen : (s : List ℕ) → is_back (capitals s) ≡ is_back s
back_unseen [] = refl
back_unseen (x ∷ s) = byte_unseen HYPHEN (omega arith) x

-- ---- periods

before_unseen : {B : Type 0} (f : List ℕ → B) → Blind f → (s : List ℕ) → f (until_byte SLASH (capitals s)) ≡ f (until_byte SLASH s)
before_unseen f u s = ap f (until_capitals SLASH (omega arith) s) ∙ u (until_byte SLASH s)

behind_unseen : {B : Type 0} (b : B) (f : List ℕ → B) → Blind f → (s : List ℕ) → option (after SLASH (capitals s)) b f ≡ option (after SLASH s) b f
behind_unseen b f u s = ap (λ (o : Option (List ℕ)). option o b f) (after_capitals SLASH (omega arith) s) ∙ go (after SLASH s)
  where
    go : (o : Option (List ℕ)) → option (option_map capitals o) b f ≡ option o b f
    go None = refl
    go (Some r) = u r

pub period_unseen : (s : List ℕ) → period (capitals s) ≡ period s
unfolding period period_explicit period_start
period_unseen s =
    ap₂ ◌||◌ (ap₂ ◌&&◌ (before_unseen date_time date_time_unseen s) (behind_unseen false date_time date_time_unseen s))
    (ap₂ ◌&&◌ (before_unseen date_time date_time_unseen s) (behind_unseen false (λ d. is_some (dur_value d)) (λ d. ap is_some (value_unseen d)) s))

end_unseen : (a : ℕ) → Blind (end_from a)
unfolding end_from
end_unseen a e =
    ap (λ (b : Bool). cond b (instant (capitals e)) (option (dur_value (capitals e)) None (λ n. moved a (is_back (capitals e)) n))) (date_time_unseen e)
    ∙ ap₂ (λ (i o : Option ℕ). cond (date_time e) i o) (instant_unseen e)
    (ap₂ (λ (o : Option ℕ) (b : Bool). option o None (λ n. moved a b n)) (value_unseen e) (back_unseen e))

pub window_unseen : (s : List ℕ) → window_of (capitals s) ≡ window_of s
unfolding window_of
window_unseen s =
    ap
    (λ (o : Option ℕ). option o (Err Undated) λ a. option (option (after SLASH (capitals s)) None (end_from a)) (Err Undated) λ e. cond (ltb a e) (Ok (span a e)) (Err Malformed))
    (before_unseen instant instant_unseen s)
    ∙ go (instant (until_byte SLASH s))
  where
    go : (o : Option ℕ)
        → option o (Err Undated) (λ a. option (option (after SLASH (capitals s)) None (end_from a)) (Err Undated) λ e. cond (ltb a e) (Ok (span a e)) (Err Malformed))
        ≡ option o (Err Undated) (λ a. option (option (after SLASH s) None (end_from a)) (Err Undated) λ e. cond (ltb a e) (Ok (span a e)) (Err Malformed))
    go None = refl
    go (Some a) = ap (λ (o : Option ℕ). option o (Err Undated) λ e. cond (ltb a e) (Ok (span a e)) (Err Malformed)) (behind_unseen None (end_from a) (end_unseen a) s)
