-- Laws of the fields of a date and time. Assumes nothing.
use Prim.Native.Nat.{ℕ, suc, ◌+◌, ◌*◌, ◌-◌, ◌≤◌, ◌<◌}
use mathlib.Core.Bool.{Bool, true, false, ◌&&◌, not, and-false}
use mathlib.Core.List.{List, [], ◌∷◌}
use Rattle.std.specs.Prelude.{None, Some}
use mathlib.Core.Path.{◌≡◌, sym, ◌∙◌}
use native.Mathlib.Omega.{arith}
use lib.Dec.{leb, eqb}
use lib.ListN.{length, get_or}
use lib.Seq.{drop-cons}
use borrow.Author.Rules.{rules}
use borrow.Author.Tests.{le-leb, lt-leb, eqb-true, not-true, not-false}
use Rattle.loops.proofs.BoolLaws.{and_left}
use Rattle.letters.specs.Letters.{is_letter, LETTER_T}
use Rattle.dates.specs.Calendar.{years_days, months_days}
use Rattle.dates.specs.DateTime.{digits_on, field, year, month, day, hour, minute, second, exists, date, time, date_time, milliseconds, epoch, last_instant, instant}

-- two digits at a place
pub two_digits : (s : List ℕ) (i a b : ℕ) → i + 2 ≤ length s → a ≡ get_or s i 0 - 48 → b ≡ get_or s (i + 1) 0 - 48 → a * 10 + b ≡ digits_on 0 (field i 2 s)
unfolding digits_on
two_digits s i a b h p q =
    let e : i + 1 ≡ suc i = omega arith in
    rw (drop-cons s i 0 (omega arith), drop-cons s (suc i) 0 (omega arith)) (omega (arith, p, rw e at q))

-- digits are read on
year_two_two : (s : List ℕ) → 4 ≤ length s → digits_on 0 (field 0 2 s) * 100 + digits_on 0 (field 2 2 s) ≡ year s
unfolding digits_on
year_two_two [] h = absurd (omega arith)
year_two_two (a ∷ []) h = absurd (omega arith)
year_two_two (a ∷ b ∷ []) h = absurd (omega arith)
year_two_two (a ∷ b ∷ c ∷ []) h = absurd (omega arith)
year_two_two (a ∷ b ∷ c ∷ d ∷ s) h = omega arith

pub year_sum : (s : List ℕ) (a b : ℕ) → a ≡ digits_on 0 (field 0 2 s) → b ≡ digits_on 0 (field 2 2 s) → 4 ≤ length s → a * 100 + b ≡ year s
year_sum s a b p q h = rw (p, q) (year_two_two s h)

pub ruleset numbers = (rules, two_digits, year_sum)

-- ---- the milliseconds, and the instant

pub sum_is : (s : List ℕ) {yd md ld h mi se y m d : ℕ} → y ≡ year s → m ≡ month s → d ≡ day s
    → yd ≡ years_days y → md ≡ months_days y m → ld ≡ d - 1 → h ≡ hour s → mi ≡ minute s → se ≡ second s
    → ((((yd + md + ld) * 24 + h) * 60 + mi) * 60 + se) * 1000 ≡ milliseconds s
unfolding milliseconds
sum_is s py pm pd pyd pmd pld ph pmi pse = rw (pyd, pmd, pld, py, pm, pd, ph, pmi, pse)

pub ruleset sums = (rules, sum_is)

module _ (s : List ℕ) {a : Bool} (p : a ≡ date_time s) where
  pub no_date_time : not a ≡ true → None ≡ instant s
  unfolding instant
  no_date_time h = rw (sym p ∙ not-true a h)

  module _ (h : not a ≡ false) where
    pub sixteen : length s ≡ 16
    unfolding date_time
    sixteen = eqb-true (length s) 16 (and_left (eqb (length s) 16) (date s && (is_letter LETTER_T (get_or s 8 0) && time s)) (sym p ∙ not-false a h))

    module _ {b : Bool} (q : b ≡ exists s) where
      pub no_such : not b ≡ true → None ≡ instant s
      unfolding instant
      no_such k = rw (sym p ∙ not-false a h, sym q ∙ not-true b k)

      module _ {t : ℕ} (k : not b ≡ false) (e : t ≡ milliseconds s) where
        pub instant_early : t < epoch → None ≡ instant s
        unfolding instant
        instant_early l = rw (sym p ∙ not-false a h, sym q ∙ not-false b k, ← e, lt-leb epoch t)

        pub instant_late : epoch + last_instant < t → None ≡ instant s
        unfolding instant
        instant_late l = rw (sym p ∙ not-false a h, sym q ∙ not-false b k, ← e, lt-leb t (epoch + last_instant), and-false (leb epoch t))

        pub instant_is : epoch ≤ t → t ≤ epoch + last_instant → Some (t - epoch) ≡ instant s
        unfolding instant
        instant_is l m = rw (sym p ∙ not-false a h, sym q ∙ not-false b k, ← e, le-leb epoch t, le-leb t (epoch + last_instant))

pub ruleset instants = (rules, no_date_time, sixteen, no_such, instant_early, instant_late, instant_is)
