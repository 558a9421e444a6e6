-- Laws of the productions of a duration, as the code reads them: one number with its unit decides which of them it is. Assumes nothing.
use Prim.Native.Nat.{ℕ, ◌+◌, ◌*◌, ◌-◌, ◌≤◌}
use mathlib.Core.Bool.{Bool, true, false, cond, not, or-true}
use mathlib.Core.List.{List, [], ◌∷◌}
use mathlib.Core.Logic.{◌⊎◌, inl, inr}
use Rattle.std.specs.Prelude.{Option, None, Some, option_map}
use Rattle.std.proofs.lemmas.Option.{none-some}
use mathlib.Core.Path.{◌≡◌, refl, sym, ap, ◌∙◌}
use native.Mathlib.Omega.{arith}
use lib.Dec.{eqb, leb}
use lib.ListN.{length, get_or, drop, take}
use borrow.Author.Rules.{rules}
use borrow.Author.Tests.{eq-eqb, ne_eqb, not-true, not-false, leb-true}
use Rattle.loops.specs.Lists.{option}
use Rattle.loops.proofs.BoolLaws.{and_right}
use Rattle.loops.proofs.PlaceLaws.{or_none_lem}
use Rattle.text_fields.specs.Spelling.{is_digit}
use Rattle.loops.proofs.ListLaws.{rest_is}
use Rattle.letters.specs.Letters.{capital, is_letter, LETTER_D, LETTER_H, LETTER_M, LETTER_P, LETTER_S, LETTER_T, LETTER_W}
use Rattle.letters.proofs.LetterLaws.{digit_kept}
use Rattle.freebusy_lines.specs.Bytes.{PLUS, HYPHEN}
use Rattle.freebusy_periods.specs.Duration.{Counted, counted_from, counted, then_maybe, amount, nothing_more, dur_second, dur_minute, dur_hour, dur_time, dur_date, dur_week, dur_unsigned, dur_value}
use Rattle.freebusy_periods.specs.inner.Capped.{capped_count, counted_by, capped, after_letter, after_t, after_p}
use Rattle.freebusy_periods.specs.declared.Amount.{Amount}
use Rattle.freebusy_periods.proofs.AmountLaws.{told_none, told_some, amount_none, amount_other, amount_here}

-- ---- a production that begins with a number

-- a second is one second
once : (a : Amount) → capped (then_maybe nothing_more a.count a.rest.now) ≡ capped (then_maybe nothing_more (a.count * 1) a.rest.now)
once a = let e : a.count ≡ a.count * 1 = omega arith in ap (λ (n : ℕ). capped (then_maybe nothing_more n a.rest.now)) e

module _ (s : List ℕ) {r : Option Amount} (e : option_map counted_by r ≡ capped_count (counted s)) where
  pub second_none : {o : Option ℕ} → r ≡ None → o ≡ None → o ≡ capped (dur_second s)
  unfolding dur_second capped
  second_none h q = q ∙ ap capped (sym (amount_none LETTER_S 1 nothing_more s (told_none s e h)))

  pub minute_none : {o : Option ℕ} → r ≡ None → o ≡ None → o ≡ capped (dur_minute s)
  unfolding dur_minute capped
  minute_none h q = q ∙ ap capped (sym (amount_none LETTER_M 60 dur_second s (told_none s e h)))

  module _ {a : Amount} (f : r ≡ Some a) where
    pub second_other : (a.unit ≡ LETTER_S → ⊥) → None ≡ capped (dur_second s)
    unfolding dur_second capped
    second_other n = let t = told_some s e f in ap capped (sym (amount_other LETTER_S 1 nothing_more s t.0 t.1.is (λ p. n (t.1.letter ∙ p))))

    pub second_here : {o : Option ℕ} → a.unit ≡ LETTER_S → o ≡ capped (then_maybe nothing_more a.count a.rest.now) → o ≡ capped (dur_second s)
    unfolding dur_second
    second_here u q =
        let t = told_some s e f in q ∙ once a ∙ amount_here LETTER_S 1 nothing_more s a t.0 t.1 u (omega arith)

    pub minute_other : (a.unit ≡ LETTER_M → ⊥) → None ≡ capped (dur_minute s)
    unfolding dur_minute capped
    minute_other n = let t = told_some s e f in ap capped (sym (amount_other LETTER_M 60 dur_second s t.0 t.1.is (λ p. n (t.1.letter ∙ p))))

    pub minute_here : {o : Option ℕ} → a.unit ≡ LETTER_M → o ≡ capped (then_maybe dur_second (a.count * 60) a.rest.now) → o ≡ capped (dur_minute s)
    unfolding dur_minute
    minute_here u q = let t = told_some s e f in q ∙ amount_here LETTER_M 60 dur_second s a t.0 t.1 u (omega arith)

-- ---- dur-hour / dur-minute / dur-second

after_t_none : (s : List ℕ) → counted s ≡ None → after_t s ≡ None
unfolding after_t dur_hour dur_minute dur_second
after_t_none s e = rw (amount_none LETTER_H 3600 dur_minute s e, amount_none LETTER_M 60 dur_second s e, amount_none LETTER_S 1 nothing_more s e)

module _ (s : List ℕ) (k : Counted) (e : counted s ≡ Some k) where
  after_t_hour : k.unit ≡ LETTER_H → after_t s ≡ amount LETTER_H 3600 dur_minute s
  unfolding after_t dur_hour dur_minute dur_second
  after_t_hour u =
      rw (amount_other LETTER_M 60 dur_second s k e (λ p. omega (arith, u, p)), amount_other LETTER_S 1 nothing_more s k e (λ p. omega (arith, u, p)))
      (or_none_lem (amount LETTER_H 3600 dur_minute s))

  after_t_minute : k.unit ≡ LETTER_M → after_t s ≡ amount LETTER_M 60 dur_second s
  unfolding after_t dur_hour dur_minute dur_second
  after_t_minute u =
      rw (amount_other LETTER_H 3600 dur_minute s k e (λ p. omega (arith, u, p)), amount_other LETTER_S 1 nothing_more s k e (λ p. omega (arith, u, p)))
      (or_none_lem (amount LETTER_M 60 dur_second s))

  after_t_second : k.unit ≡ LETTER_S → after_t s ≡ amount LETTER_S 1 nothing_more s
  unfolding after_t dur_hour dur_minute dur_second
  after_t_second u =
      rw (amount_other LETTER_H 3600 dur_minute s k e (λ p. omega (arith, u, p)), amount_other LETTER_M 60 dur_second s k e (λ p. omega (arith, u, p)))

  after_t_other : (k.unit ≡ LETTER_H → ⊥) → (k.unit ≡ LETTER_M → ⊥) → (k.unit ≡ LETTER_S → ⊥) → after_t s ≡ None
  unfolding after_t dur_hour dur_minute dur_second
  after_t_other h m n =
      rw (amount_other LETTER_H 3600 dur_minute s k e h, amount_other LETTER_M 60 dur_second s k e m, amount_other LETTER_S 1 nothing_more s k e n)

module _ (s : List ℕ) {r : Option Amount} (e : option_map counted_by r ≡ capped_count (counted s)) where
  pub time_none : {o : Option ℕ} → r ≡ None → o ≡ None → o ≡ capped (after_t s)
  unfolding capped
  time_none h q = q ∙ ap capped (sym (after_t_none s (told_none s e h)))

  module _ {a : Amount} (f : r ≡ Some a) where
    pub time_hour : {o : Option ℕ} → a.unit ≡ LETTER_H → o ≡ capped (then_maybe dur_minute (a.count * 3600) a.rest.now) → o ≡ capped (after_t s)
    time_hour u q =
        let t = told_some s e f in
        q ∙ amount_here LETTER_H 3600 dur_minute s a t.0 t.1 u (omega arith) ∙ ap capped (sym (after_t_hour s t.0 t.1.is (sym t.1.letter ∙ u)))

    pub time_minute : {o : Option ℕ} → a.unit ≡ LETTER_M → o ≡ capped (then_maybe dur_second (a.count * 60) a.rest.now) → o ≡ capped (after_t s)
    time_minute u q =
        let t = told_some s e f in
        q ∙ amount_here LETTER_M 60 dur_second s a t.0 t.1 u (omega arith) ∙ ap capped (sym (after_t_minute s t.0 t.1.is (sym t.1.letter ∙ u)))

    pub time_second : {o : Option ℕ} → a.unit ≡ LETTER_S → o ≡ capped (then_maybe nothing_more a.count a.rest.now) → o ≡ capped (after_t s)
    time_second u q =
        let t = told_some s e f in
        q ∙ once a ∙ amount_here LETTER_S 1 nothing_more s a t.0 t.1 u (omega arith) ∙ ap capped (sym (after_t_second s t.0 t.1.is (sym t.1.letter ∙ u)))

    pub time_other : (a.unit ≡ LETTER_H → ⊥) → (a.unit ≡ LETTER_M → ⊥) → (a.unit ≡ LETTER_S → ⊥) → None ≡ capped (after_t s)
    unfolding capped
    time_other h m n =
        let t = told_some s e f in
        ap capped (sym (after_t_other s t.0 t.1.is (λ p. h (t.1.letter ∙ p)) (λ p. m (t.1.letter ∙ p)) (λ p. n (t.1.letter ∙ p))))

-- ---- a letter, and what follows it

module _ (c : ℕ) (s : List ℕ) where
  pub letter_none : length s ≡ 0 → after_letter c s ≡ None
  unfolding after_letter
  letter_none h = go s h
    where
      go : (s : List ℕ) → length s ≡ 0 → after_letter c s ≡ None
      go [] h = refl
      go (x ∷ s) h = absurd (omega arith)

  module _ {r : Bool} (n : length s ≡ 0 → ⊥) (q : r ≡ is_letter c (get_or s 0 0)) where
    pub letter_other : not r ≡ true → after_letter c s ≡ None
    unfolding after_letter
    letter_other h = go s (sym q ∙ not-true r h)
      where
        go : (s : List ℕ) → is_letter c (get_or s 0 0) ≡ false → after_letter c s ≡ None
        go [] e = refl
        go (x ∷ s) e = rw e

    pub letter_here : not r ≡ false → after_letter c s ≡ Some (take (length s - 1) (drop 1 s))
    unfolding after_letter
    letter_here h = go s n (sym q ∙ not-false r h) ∙ ap (λ (l : List ℕ). Some l) (sym (rest_is 1 s))
      where
        go : (s : List ℕ) → (length s ≡ 0 → ⊥) → is_letter c (get_or s 0 0) ≡ true → after_letter c s ≡ Some (drop 1 s)
        go [] n e = absurd (n refl)
        go (x ∷ s) n e = rw e

-- a production that is a letter and then what f reads
then_by : (f : List ℕ → Option ℕ) (s : List ℕ) (b : Bool) → cond b (f s) None ≡ option (cond b (Some s) None) None f
then_by f s true = refl
then_by f s false = refl

time_is : (s : List ℕ) → dur_time s ≡ option (after_letter LETTER_T s) None after_t
unfolding after_letter after_t dur_time
time_is [] = refl
time_is (x ∷ s) = then_by after_t s (is_letter LETTER_T x)

unsigned_is : (s : List ℕ) → dur_unsigned s ≡ option (after_letter LETTER_P s) None after_p
unfolding after_letter after_p dur_unsigned
unsigned_is [] = refl
unsigned_is (x ∷ s) = then_by after_p s (is_letter LETTER_P x)

module _ (s : List ℕ) {o : Option ℕ} where
  pub no_t : after_letter LETTER_T s ≡ None → o ≡ None → o ≡ capped (dur_time s)
  unfolding capped
  no_t e q = let z : dur_time s ≡ None = rw e at (time_is s) in q ∙ ap capped (sym z)

  pub no_p : after_letter LETTER_P s ≡ None → o ≡ None → o ≡ capped (dur_unsigned s)
  unfolding capped
  no_p e q = let z : dur_unsigned s ≡ None = rw e at (unsigned_is s) in q ∙ ap capped (sym z)

  module _ {rest : List ℕ} where
    pub after_t_is : after_letter LETTER_T s ≡ Some rest → o ≡ capped (after_t rest) → o ≡ capped (dur_time s)
    after_t_is e q = let z : dur_time s ≡ after_t rest = rw e at (time_is s) in q ∙ ap capped (sym z)

    pub after_p_is : after_letter LETTER_P s ≡ Some rest → o ≡ capped (after_p rest) → o ≡ capped (dur_unsigned s)
    after_p_is e q = let z : dur_unsigned s ≡ after_p rest = rw e at (unsigned_is s) in q ∙ ap capped (sym z)

-- ---- dur-date / dur-time / dur-week

-- where digits come first there is no dur-time
counted_time : (s : List ℕ) (k : Counted) → counted s ≡ Some k → dur_time s ≡ None
unfolding dur_time counted_from
counted_time [] k e = refl
counted_time (x ∷ s) k e = go (is_digit x) refl e
  where
    go : (b : Bool) → is_digit x ≡ b → cond b (counted_from true (0 * 10 + (x - 48)) s) None ≡ Some k → dur_time (x ∷ s) ≡ None
    go true p q = rw (ne_eqb (capital x) LETTER_T (λ h. omega (arith, digit_small x p, digit_kept x p, h)))
      where
        digit_small : (x : ℕ) → is_digit x ≡ true → x ≤ 57
        digit_small x p = leb-true x 57 (and_right (leb 48 x) (leb x 57) p)
    go false p q = absurd (none-some _ q)

after_p_none : (s : List ℕ) → counted s ≡ None → after_p s ≡ dur_time s
unfolding after_p dur_date dur_week
after_p_none s e = rw (amount_none LETTER_D 86400 dur_time s e, amount_none LETTER_W 604800 nothing_more s e) (or_none_lem (dur_time s))

module _ (s : List ℕ) (k : Counted) (e : counted s ≡ Some k) where
  after_p_date : k.unit ≡ LETTER_D → after_p s ≡ amount LETTER_D 86400 dur_time s
  unfolding after_p dur_date dur_week
  after_p_date u =
      rw (counted_time s k e, amount_other LETTER_W 604800 nothing_more s k e (λ p. omega (arith, u, p))) (or_none_lem (amount LETTER_D 86400 dur_time s))

  after_p_week : k.unit ≡ LETTER_W → after_p s ≡ amount LETTER_W 604800 nothing_more s
  unfolding after_p dur_date dur_week
  after_p_week u = rw (amount_other LETTER_D 86400 dur_time s k e (λ p. omega (arith, u, p)), counted_time s k e)

  after_p_other : (k.unit ≡ LETTER_D → ⊥) → (k.unit ≡ LETTER_W → ⊥) → after_p s ≡ None
  unfolding after_p dur_date dur_week
  after_p_other d w = rw (amount_other LETTER_D 86400 dur_time s k e d, counted_time s k e, amount_other LETTER_W 604800 nothing_more s k e w)

module _ (s : List ℕ) {r : Option Amount} (e : option_map counted_by r ≡ capped_count (counted s)) where
  pub date_none : {o : Option ℕ} → r ≡ None → o ≡ capped (dur_time s) → o ≡ capped (after_p s)
  date_none h q = q ∙ ap capped (sym (after_p_none s (told_none s e h)))

  module _ {a : Amount} (f : r ≡ Some a) where
    pub date_day : {o : Option ℕ} → a.unit ≡ LETTER_D → o ≡ capped (then_maybe dur_time (a.count * 86400) a.rest.now) → o ≡ capped (after_p s)
    date_day u q =
        let t = told_some s e f in
        q ∙ amount_here LETTER_D 86400 dur_time s a t.0 t.1 u (omega arith) ∙ ap capped (sym (after_p_date s t.0 t.1.is (sym t.1.letter ∙ u)))

    pub date_week : {o : Option ℕ} → a.unit ≡ LETTER_W → o ≡ capped (then_maybe nothing_more (a.count * 604800) a.rest.now) → o ≡ capped (after_p s)
    date_week u q =
        let t = told_some s e f in
        q ∙ amount_here LETTER_W 604800 nothing_more s a t.0 t.1 u (omega arith) ∙ ap capped (sym (after_p_week s t.0 t.1.is (sym t.1.letter ∙ u)))

    pub date_other : (a.unit ≡ LETTER_D → ⊥) → (a.unit ≡ LETTER_W → ⊥) → None ≡ capped (after_p s)
    unfolding capped
    date_other d w =
        let t = told_some s e f in ap capped (sym (after_p_other s t.0 t.1.is (λ p. d (t.1.letter ∙ p)) (λ p. w (t.1.letter ∙ p))))

-- ---- the sign

module _ (s : List ℕ) {o : Option ℕ} where
  pub value_empty : length s ≡ 0 → o ≡ capped (dur_unsigned s) → o ≡ capped (dur_value s)
  unfolding dur_value dur_unsigned
  value_empty h q = q ∙ go s h
    where
      go : (s : List ℕ) → length s ≡ 0 → capped (dur_unsigned s) ≡ capped (dur_value s)
      go [] h = refl
      go (x ∷ s) h = absurd (omega arith)

  module _ (n : length s ≡ 0 → ⊥) where
    pub value_signed : (get_or s 0 0 ≡ PLUS) ⊎ (get_or s 0 0 ≡ HYPHEN) → o ≡ capped (dur_unsigned (take (length s - 1) (drop 1 s))) → o ≡ capped (dur_value s)
    unfolding dur_value
    value_signed e q = q ∙ ap (λ (l : List ℕ). capped (dur_unsigned l)) (rest_is 1 s) ∙ go s n e
      where
        go : (s : List ℕ) → (length s ≡ 0 → ⊥) → (get_or s 0 0 ≡ PLUS) ⊎ (get_or s 0 0 ≡ HYPHEN) → capped (dur_unsigned (drop 1 s)) ≡ capped (dur_value s)
        go [] n e = absurd (n refl)
        go (x ∷ s) n (inl e) = rw (eq-eqb x PLUS e)
        go (x ∷ s) n (inr e) = rw (eq-eqb x HYPHEN e, or-true (eqb x PLUS))

    pub value_plain : (get_or s 0 0 ≡ PLUS → ⊥) → (get_or s 0 0 ≡ HYPHEN → ⊥) → o ≡ capped (dur_unsigned s) → o ≡ capped (dur_value s)
    unfolding dur_value
    value_plain p m q = q ∙ go s n p m
      where
        go : (s : List ℕ) → (length s ≡ 0 → ⊥) → (get_or s 0 0 ≡ PLUS → ⊥) → (get_or s 0 0 ≡ HYPHEN → ⊥) → capped (dur_unsigned s) ≡ capped (dur_value s)
        go [] n p m = absurd (n refl)
        go (x ∷ s) n p m = rw (ne_eqb x PLUS p, ne_eqb x HYPHEN m)

pub ruleset seconds = (rules, second_none, second_other, second_here)

pub ruleset minutes = (rules, minute_none, minute_other, minute_here)

pub ruleset times = (rules, time_none, time_hour, time_minute, time_second, time_other)

pub ruleset dates = (rules, date_none, date_day, date_week, date_other)

pub ruleset lettered = (rules, no_t, no_p, after_t_is, after_p_is)

pub ruleset values = (rules, value_empty, value_signed, value_plain)
