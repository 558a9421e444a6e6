-- Laws of periods: a duration that is cut leads out of the range just as the whole one; a window lies in the range. Assumes nothing.
use Prim.Native.Nat.{ℕ, ◌+◌, ◌*◌, ◌-◌, ◌≤◌, ◌<◌}
use mathlib.Core.Bool.{Bool, true, false, cond}
use mathlib.Core.List.{List}
use mathlib.Core.Logic.{inl, inr}
use Rattle.std.specs.Bool.{then_some}
use Rattle.std.specs.Prelude.{Option, None, Some, Result, Ok, Err}
use Rattle.std.proofs.lemmas.Option.{none-some, same_Some}
use mathlib.Core.Path.{◌≡◌, refl, sym, ap, ap₂, ◌∙◌, subst}
use native.Mathlib.Omega.{arith}
use lib.Dec.{ltb, leb}
use lib.ListN.{length, drop}
use borrow.Author.Rules.{rules}
use borrow.Author.Tests.{lt-leb, le-leb, lt-ltb, le-ltb, leb-true, ltb-true}
use Rattle.loops.specs.Search.{some_if}
use Rattle.loops.specs.Lists.{option, is_some}
use Rattle.std.specs.Option.{SomeIff, MatchOption, is_some as std_is_some, ok_or}
use denote.Ref.{Bor}
use Rattle.text_fields.specs.Parts.{until_byte}
use Rattle.dates.specs.DateTime.{instant, date_time, last_instant}
use Rattle.dates.proofs.InstantLaws.{instant_most}
use Rattle.refusals.specs.declared.Reason.{Reason}
use Rattle.refusals.specs.declared.Reason.TheVariants.{Malformed, Undated}
use Rattle.freebusy_lines.specs.Bytes.{SLASH, after}
use Rattle.freebusy_lines.proofs.AfterLaws.{value_after}
use Rattle.freebusy_periods.specs.Duration.{dur_value, is_back}
use Rattle.freebusy_periods.specs.Period.{period_explicit, period_start, period, moved, end_from, span, window_of}
use Rattle.freebusy_periods.specs.declared.Span.{Span}
use Rattle.freebusy_periods.specs.inner.Capped.{at_most, capped, ends_period}
use Rattle.freebusy_periods.proofs.CapLaws.{Alike, alike_cut}

-- ---- moving an instant

far : (a n : ℕ) (back : Bool) → a ≤ 4000000000000 → 4000000001 ≤ n → moved a back n ≡ None
unfolding moved
far a n true h k = rw (lt-leb (n * 1000) a (omega arith))
far a n false h k = rw (lt-leb (a + n * 1000) 4000000000000 (omega arith))

-- this is why the cut is no loss
moved_cut : (a n : ℕ) (back : Bool) → a ≤ 4000000000000 → moved a back (at_most n) ≡ moved a back n
unfolding Alike
moved_cut a n back h = go (alike_cut n)
  where
    go : Alike (at_most n) n → moved a back (at_most n) ≡ moved a back n
    go (inl e) = ap (moved a back) e
    go (inr k) = far a (at_most n) back h k.0 ∙ sym (far a n back h k.1)

module _ (a k n : ℕ) (b : Bool) (h : a ≤ 4000000000000) (p : k ≡ at_most n) where
  cut_is : moved a b k ≡ moved a b n
  cut_is = ap (moved a b) p ∙ moved_cut a n b h

  -- as `checked_sub` has it
  pub back_by : {r : Option ℕ} → b ≡ true → SomeIff r (k * 1000 ≤ a) (a - k * 1000) → r ≡ moved a b n
  unfolding moved
  back_by {r = None} e l = let z : moved a b k ≡ None = rw (e, lt-leb (k * 1000) a (omega arith)) in sym z ∙ cut_is
  back_by {r = Some x} e l = let z : moved a b k ≡ Some (a - k * 1000) = rw (e, le-leb (k * 1000) a l.0) in ap (λ (x : ℕ). Some x) l.1 ∙ sym z ∙ cut_is

  -- as `then_some` has it
  pub on_by : {r : Option ℕ} → b ≡ false → r ≡ then_some (leb (a + k * 1000) 4000000000000) (a + k * 1000) → r ≡ moved a b n
  unfolding moved
  on_by e q = q ∙ go (leb (a + k * 1000) 4000000000000) refl ∙ cut_is
    where
      go : (t : Bool) → leb (a + k * 1000) 4000000000000 ≡ t → then_some t (a + k * 1000) ≡ moved a b k
      go true l = rw (e, l)
      go false l = rw (e, l)

-- ---- what stands after the slash, where m is what the code read of a duration

no_duration : (e : List ℕ) {m : Option ℕ} → m ≡ capped (dur_value e) → m ≡ None → dur_value e ≡ None
unfolding capped
no_duration e q z = go (dur_value e) (sym z ∙ q)
  where
    go : (o : Option ℕ) → None ≡ capped o → o ≡ None
    go None q = refl
    go (Some n) q = absurd (none-some _ q)

a_duration : (e : List ℕ) {m : Option ℕ} (n : ℕ) → m ≡ capped (dur_value e) → m ≡ Some n → (k : ℕ) × ((dur_value e ≡ Some k) × (n ≡ at_most k))
unfolding capped
a_duration e n q z = go (dur_value e) refl (sym z ∙ q)
  where
    go : (o : Option ℕ) → dur_value e ≡ o → Some n ≡ capped o → (k : ℕ) × ((dur_value e ≡ Some k) × (n ≡ at_most k))
    go None p q = absurd (none-some _ (sym q))
    go (Some k) p q = (k, (p, same_Some n (at_most k) q))

-- a duration is there as it is cut
is_some_capped : (o : Option ℕ) → std_is_some (capped o) ≡ is_some o
unfolding capped
is_some_capped None = refl
is_some_capped (Some n) = refl

module _ (e : List ℕ) {r : Bool} (p : r ≡ date_time e) where
  pub ends_date : r ≡ true → true ≡ ends_period e
  unfolding ends_period
  ends_date t = let d : date_time e ≡ true = sym p ∙ t in rw d

  pub ends_duration : {m : Option ℕ} {b : Bool} → r ≡ false → m ≡ capped (dur_value e) → b ≡ std_is_some m → b ≡ ends_period e
  unfolding ends_period
  ends_duration t q z = let d : date_time e ≡ false = sym p ∙ t in rw d (z ∙ ap std_is_some q ∙ is_some_capped (dur_value e))

  pub end_date : (a : ℕ) {o : Option ℕ} → r ≡ true → o ≡ instant e → o ≡ end_from a e
  unfolding end_from
  end_date a t q = let d : date_time e ≡ true = sym p ∙ t in rw d q

  pub end_none : (a : ℕ) {m o : Option ℕ} → r ≡ false → m ≡ capped (dur_value e) → m ≡ None → o ≡ None → o ≡ end_from a e
  unfolding end_from
  end_none a t q z y = let d : date_time e ≡ false = sym p ∙ t in rw (d, no_duration e q z) y

  pub end_moved : (a : ℕ) {n : ℕ} {m : Option ℕ} {b : Bool} {o : Option ℕ} → a ≤ 4000000000000 → r ≡ false → m ≡ capped (dur_value e) → m ≡ Some n → b ≡ is_back e
      → o ≡ moved a b n → o ≡ end_from a e
  unfolding end_from
  end_moved a {n} l t q z f g =
      let d : date_time e ≡ false = sym p ∙ t in
      let k = a_duration e n q z in
      rw (d, k.1.0) (g ∙ ap₂ (moved a) f k.1.1 ∙ moved_cut a k.0 (is_back e) l)

pub ruleset endings = (rules, ends_date, ends_duration, end_date, end_none, end_moved)

-- ---- a period, where f is what stands before the slash, and g what follows it

module _ (s : List ℕ) {f : List ℕ} (e : f ≡ until_byte SLASH s) where
  module _ {r : Bool} (p : r ≡ date_time f) where
    dated : date_time (until_byte SLASH s) ≡ r
    dated = sym (p ∙ ap date_time e)

    pub period_undated : r ≡ false → r ≡ period s
    unfolding period period_explicit period_start
    period_undated t = rw (dated ∙ t) t

  module _ {i : Option ℕ} (q : i ≡ instant f) {a : ℕ} (z : i ≡ Some a) where
    started : instant (until_byte SLASH s) ≡ Some a
    started = sym (sym z ∙ q ∙ ap instant e)

  -- what `split_at_first` gives behind it
  module _ (g : Option (Bor (List ℕ))) (m : MatchOption g (length s ≤ length f) (λ v. (length f < length s) × (v.now ≡ drop (length f + 1) s))) where
    none_behind : g ≡ None → after SLASH s ≡ None
    none_behind y = rw y at (value_after SLASH s f g e m)

    some_behind : {v : Bor (List ℕ)} → g ≡ Some v → after SLASH s ≡ Some v.now
    some_behind y = rw y at (value_after SLASH s f g e m)

    module _ {r : Bool} (p : r ≡ date_time f) (t : r ≡ true) where
      pub period_alone : {o : Bool} → g ≡ None → o ≡ false → o ≡ period s
      unfolding period period_explicit period_start
      period_alone y z = rw (dated p ∙ t, none_behind y) z

      pub period_ends : {v : Bor (List ℕ)} {o : Bool} → g ≡ Some v → o ≡ ends_period v.now → o ≡ period s
      unfolding period period_explicit period_start ends_period
      period_ends y q = rw (dated p ∙ t, some_behind y) q

      pub period_rest : {o : Bool} {P : Bor (List ℕ) → Type 0} → MatchOption g (o ≡ false) P → ((v : Bor (List ℕ)) → P v → o ≡ ends_period v.now) → o ≡ period s
      period_rest {o} {P} h k = go g refl h
        where
          go : (w : Option (Bor (List ℕ))) → g ≡ w → MatchOption w (o ≡ false) P → o ≡ period s
          go None y z = period_alone y z
          go (Some v) y z = period_ends y (k v z)

    module _ {i : Option ℕ} (q : i ≡ instant f) {a : ℕ} (z : i ≡ Some a) where
      pub window_alone : g ≡ None → Err Undated ≡ window_of s
      unfolding window_of
      window_alone y = rw (started q z, none_behind y)

      module _ {v : Bor (List ℕ)} (y : g ≡ Some v) {j : Option ℕ} (k : j ≡ end_from a v.now) where
        pub window_late : j ≡ None → Err Undated ≡ window_of s
        unfolding window_of
        window_late l = rw (started q z, some_behind y, sym (sym l ∙ k))

        module _ {b : ℕ} (l : j ≡ Some b) where
          pub window_span : a < b → Ok (span a b) ≡ window_of s
          unfolding window_of
          window_span h = rw (started q z, some_behind y, sym (sym l ∙ k), lt-ltb a b h)

          pub window_not : b ≤ a → Err Malformed ≡ window_of s
          unfolding window_of
          window_not h = rw (started q z, some_behind y, sym (sym l ∙ k), le-ltb a b h)

  pub window_early : {i : Option ℕ} → i ≡ instant f → i ≡ None → Err Undated ≡ window_of s
  unfolding window_of
  window_early q z = let h : instant (until_byte SLASH s) ≡ None = sym (sym z ∙ q ∙ ap instant e) in rw h

-- what `ok_or` was asked of, by its answer
pub had : {A : Type 0} (o : Option A) {r : Result A Reason} {v : A} → r ≡ ok_or o Undated → r ≡ Ok v → o ≡ Some v
had None {r} {v} e q = let z : Err Undated ≡ Ok v = sym e ∙ q in cc
had (Some x) {r} {v} e q = let z : Ok x ≡ Ok v = sym e ∙ q in cc

pub lacked : {A : Type 0} (o : Option A) {r : Result A Reason} {x : Reason} → r ≡ ok_or o Undated → r ≡ Err x → (o ≡ None) × (x ≡ Undated)
lacked None {r} {x} e q = let z : Err Undated ≡ Err x = sym e ∙ q in (refl, cc)
lacked (Some y) {r} {x} e q = let z : Ok y ≡ Err x = sym e ∙ q in (cc, cc)

-- a start is in the range
pub start_most : {i : Option ℕ} (f : List ℕ) {a : ℕ} → i ≡ instant f → i ≡ Some a → a ≤ 4000000000000
start_most f {a} q z = instant_most f a (sym z ∙ q)

-- ---- a window lies in the range of instants, and ends after its start

moved_most : (a n : ℕ) (b : Bool) (t : ℕ) → a ≤ 4000000000000 → moved a b n ≡ Some t → t ≤ 4000000000000
unfolding moved
moved_most a n true t h q = go (leb (n * 1000) a) q
  where
    go : (c : Bool) → some_if c (a - n * 1000) ≡ Some t → t ≤ 4000000000000
    go true q = let z = same_Some _ _ q in omega arith
    go false q = absurd (none-some _ q)
moved_most a n false t h q = go (leb (a + n * 1000) last_instant) refl q
  where
    go : (c : Bool) → leb (a + n * 1000) last_instant ≡ c → some_if c (a + n * 1000) ≡ Some t → t ≤ 4000000000000
    go true k q = let z = same_Some _ _ q in omega (arith, leb-true (a + n * 1000) last_instant k)
    go false k q = absurd (none-some _ q)

end_most : (a : ℕ) (e : List ℕ) (t : ℕ) → a ≤ 4000000000000 → end_from a e ≡ Some t → t ≤ 4000000000000
unfolding end_from
end_most a e t h q = go (date_time e) (dur_value e) q
  where
    go : (b : Bool) (o : Option ℕ) → cond b (instant e) (option o None (λ n. moved a (is_back e) n)) ≡ Some t → t ≤ 4000000000000
    go true o q = instant_most e t (sym q)
    go false None q = absurd (none-some _ q)
    go false (Some n) q = moved_most a n (is_back e) t h q

pub window_in_range : (s : List ℕ) (w : Span) → window_of s ≡ Ok w → (w.start < w.end) × (w.end ≤ 4000000000000)
unfolding window_of
window_in_range s w q = go (instant (until_byte SLASH s)) refl q
  where
    Good : Span → Type 0
    Good w = (w.start < w.end) × (w.end ≤ 4000000000000)

    judged : (b t : ℕ) (c : Bool) → t ≤ 4000000000000 → ltb b t ≡ c → cond c (Ok (span b t)) (Err Malformed) ≡ Ok w → Good w
    judged b t true l p q = let e : span b t ≡ w = cc in subst Good e (ltb-true b t p, l)
    judged b t false l p q = cc

    ended : (b : ℕ) (o : Option ℕ) → ((t : ℕ) → o ≡ Some t → t ≤ 4000000000000) → option o (Err Undated) (λ t. cond (ltb b t) (Ok (span b t)) (Err Malformed)) ≡ Ok w → Good w
    ended b None l q = cc
    ended b (Some t) l q = judged b t (ltb b t) (l t refl) refl q

    close : (b : ℕ) (o : Option (List ℕ)) → b ≤ 4000000000000 → (t : ℕ) → option o None (end_from b) ≡ Some t → t ≤ 4000000000000
    close b None l t p = absurd (none-some _ p)
    close b (Some x) l t p = end_most b x t l p

    go : (o : Option ℕ) → instant (until_byte SLASH s) ≡ o
        → option o (Err Undated) (λ b. option (option (after SLASH s) None (end_from b)) (Err Undated) λ t. cond (ltb b t) (Ok (span b t)) (Err Malformed)) ≡ Ok w → Good w
    go None p q = cc
    go (Some b) p q = ended b (option (after SLASH s) None (end_from b)) (close b (after SLASH s) (instant_most (until_byte SLASH s) b (sym p))) q
