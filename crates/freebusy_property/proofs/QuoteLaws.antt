-- Laws of the parts that quotes keep together. Assumes nothing.
use Rattle.std.proofs.Common.{◌≡◌, ◌≢◌, refl, sym, ◌∙◌, ℕ, suc, ◌+◌, ◌-◌, ◌≤◌, ◌<◌, Bool, true, false, true≢false, cond, not, List, [], ◌∷◌, ◌++◌, Option, None, Some, MatchOption, Bor, length, get_or, drop, take, add-one, eq-eqb, ne_eqb, append_assoc, arith}
use mathlib.Core.List.{append-nil}
use lib.Dec.{eqb}
use lib.ListN.{drop_of_length-le}
use lib.Seq.{drop-cons, take-suc, take_all}
use borrow.Author.Tests.{eqb-true, not-true}
use Rattle.loops.specs.Lists.{option}
use Rattle.loops.proofs.BoolLaws.{and_left, and_right}
use Rattle.loops.proofs.ListLaws.{rest_is}
use Rattle.freebusy_property.specs.inner.Left.{unquoted_left}
use Rattle.freebusy_property.specs.Quotes.{quoted_after, parting, one_more, parts_in, until_in, after_in, until_unquoted, unquoted_parts, after_unquoted}

-- after a byte that parts, what follows stands in no quotes
unquoted_after : (q : Bool) (b x : ℕ) → b ≢ 34 → parting q b x ≡ true → quoted_after q x ≡ false
unquoted_after q b x k e =
    let z = not-true q (and_left (not q) (eqb x b) e) in
    let y = eqb-true x b (and_right (not q) (eqb x b) e) in
    rw (z, y, ne_eqb b 34 k)

-- the first part, and those of what follows it
parts_are : (q : Bool) (b : ℕ) (xs : List ℕ) → b ≢ 34 → parts_in q b xs ≡ until_in q b xs ∷ option (after_in q b xs) [] (parts_in false b)
unfolding until_in after_in parts_in
parts_are q b [] k = refl
parts_are q b (x ∷ xs) k = go (parting q b x) refl (parts_are (quoted_after q x) b xs k)
  where
    go : (t : Bool) → parting q b x ≡ t
        → parts_in (quoted_after q x) b xs ≡ until_in (quoted_after q x) b xs ∷ option (after_in (quoted_after q x) b xs) [] (parts_in false b)
        → one_more t x (parts_in (quoted_after q x) b xs)
        ≡ cond t [] (x ∷ until_in (quoted_after q x) b xs) ∷ option (cond t (Some xs) (after_in (quoted_after q x) b xs)) [] (parts_in false b)
    go true p e = rw (unquoted_after q b x k p)
    go false p e = rw e

pub parts_none : (b : ℕ) (s : List ℕ) → b ≢ 34 → after_unquoted b s ≡ None → unquoted_parts b s ≡ until_unquoted b s ∷ []
parts_none b s k e = parts_are false b s k ∙ rw e

pub parts_some : (b : ℕ) (s r : List ℕ) → b ≢ 34 → after_unquoted b s ≡ Some r → unquoted_parts b s ≡ until_unquoted b s ∷ unquoted_parts b r
parts_some b s r k e = parts_are false b s k ∙ rw e

-- ---- parts, by the length of the first

short : (q : Bool) (b : ℕ) (xs : List ℕ) → length (until_in q b xs) ≤ length xs
unfolding until_in
short q b [] = omega arith
short q b (x ∷ xs) = go (parting q b x) (short (quoted_after q x) b xs)
  where
    go : (t : Bool) → length (until_in (quoted_after q x) b xs) ≤ length xs → length (cond t [] (x ∷ until_in (quoted_after q x) b xs)) ≤ suc (length xs)
    go true h = omega arith
    go false h = omega arith

last_part : (q : Bool) (b : ℕ) (xs : List ℕ) → length (until_in q b xs) ≡ length xs → parts_in q b xs ≡ until_in q b xs ∷ []
unfolding until_in parts_in
last_part q b [] h = refl
last_part q b (x ∷ xs) h = go (parting q b x) h (last_part (quoted_after q x) b xs)
  where
    go : (t : Bool) → length (cond t [] (x ∷ until_in (quoted_after q x) b xs)) ≡ suc (length xs)
        → (length (until_in (quoted_after q x) b xs) ≡ length xs → parts_in (quoted_after q x) b xs ≡ until_in (quoted_after q x) b xs ∷ [])
        → one_more t x (parts_in (quoted_after q x) b xs) ≡ cond t [] (x ∷ until_in (quoted_after q x) b xs) ∷ []
    go true e k = absurd (omega arith)
    go false e k = rw (k (omega arith))

more_parts : (q : Bool) (b : ℕ) (xs : List ℕ) → eqb b 34 ≡ false → length (until_in q b xs) < length xs
    → parts_in q b xs ≡ until_in q b xs ∷ parts_in false b (drop (length (until_in q b xs) + 1) xs)
unfolding until_in parts_in
more_parts q b [] k h = absurd (omega arith)
more_parts q b (x ∷ xs) k h = go (parting q b x) refl h (more_parts (quoted_after q x) b xs k)
  where
    n : b ≢ 34
    n e = true≢false (sym (eq-eqb b 34 e) ∙ k)

    go : (t : Bool) → parting q b x ≡ t → length (cond t [] (x ∷ until_in (quoted_after q x) b xs)) < suc (length xs)
        → (length (until_in (quoted_after q x) b xs) < length xs
        → parts_in (quoted_after q x) b xs ≡ until_in (quoted_after q x) b xs ∷ parts_in false b (drop (length (until_in (quoted_after q x) b xs) + 1) xs))
        → one_more t x (parts_in (quoted_after q x) b xs)
        ≡ cond t [] (x ∷ until_in (quoted_after q x) b xs) ∷ parts_in false b (drop (length (cond t [] (x ∷ until_in (quoted_after q x) b xs)) + 1) (x ∷ xs))
    go true p e m = rw (unquoted_after q b x n p)
    go false p e m =
        let l = length (until_in (quoted_after q x) b xs) in
        rw (m (omega arith), add-one l, add-one (suc l))

none_left : (q : Bool) (b : ℕ) (xs : List ℕ) → length (until_in q b xs) ≡ length xs → after_in q b xs ≡ None
unfolding until_in after_in
none_left q b [] h = refl
none_left q b (x ∷ xs) h = go (parting q b x) h (none_left (quoted_after q x) b xs)
  where
    go : (t : Bool) → length (cond t [] (x ∷ until_in (quoted_after q x) b xs)) ≡ suc (length xs)
        → (length (until_in (quoted_after q x) b xs) ≡ length xs → after_in (quoted_after q x) b xs ≡ None)
        → cond t (Some xs) (after_in (quoted_after q x) b xs) ≡ None
    go true e k = absurd (omega arith)
    go false e k = k (omega arith)

some_left : (q : Bool) (b : ℕ) (xs : List ℕ) → length (until_in q b xs) < length xs → after_in q b xs ≡ Some (drop (length (until_in q b xs) + 1) xs)
unfolding until_in after_in
some_left q b [] h = absurd (omega arith)
some_left q b (x ∷ xs) h = go (parting q b x) h (some_left (quoted_after q x) b xs)
  where
    go : (t : Bool) → length (cond t [] (x ∷ until_in (quoted_after q x) b xs)) < suc (length xs)
        → (length (until_in (quoted_after q x) b xs) < length xs
        → after_in (quoted_after q x) b xs ≡ Some (drop (length (until_in (quoted_after q x) b xs) + 1) xs))
        → cond t (Some xs) (after_in (quoted_after q x) b xs) ≡ Some (drop (length (cond t [] (x ∷ until_in (quoted_after q x) b xs)) + 1) (x ∷ xs))
    go true e k = refl
    go false e k =
        let n = length (until_in (quoted_after q x) b xs) in
        rw (k (omega arith), add-one n, add-one (suc n))

-- ---- where p is the first part

module _ (b : ℕ) (s : List ℕ) {p : List ℕ} (e : p ≡ until_unquoted b s) where
  pub unquoted_short : length p ≤ length s
  unquoted_short = rw e (short false b s)

  pub unquoted_last : length s ≤ length p → unquoted_parts b s ≡ p ∷ []
  unquoted_last h = rw e (last_part false b s (omega (arith, short false b s, rw e at h)))

  pub unquoted_more : eqb b 34 ≡ false → length p < length s → unquoted_parts b s ≡ p ∷ unquoted_parts b (take (length s - (length p + 1)) (drop (length p + 1) s))
  unquoted_more k h = rw (rest_is (length p + 1) s, e) (more_parts false b s k (rw e at h))

  pub unquoted_none : length s ≤ length p → after_unquoted b s ≡ None
  unquoted_none h = none_left false b s (omega (arith, short false b s, rw e at h))

  pub unquoted_some : length p < length s → after_unquoted b s ≡ Some (take (length s - (length p + 1)) (drop (length p + 1) s))
  unquoted_some h = rw (rest_is (length p + 1) s, e) (some_left false b s (rw e at h))

-- ---- the search for b, where i bytes were passed

pub record Seeking (s : List ℕ) (b i : ℕ) (quoted : Bool) : Type 0 where
  pub before : take i s ++ until_in quoted b (drop i s) ≡ until_unquoted b s
  pub after : after_in quoted b (drop i s) ≡ after_unquoted b s

module _ (s : List ℕ) (b i : ℕ) (quoted : Bool) (c : Seeking s b i quoted) where
  module _ (h : i < length s) where
    pub found_before : quoted ≡ false → get_or s i 0 ≡ b → take i s ≡ until_unquoted b s
    unfolding until_in
    found_before t e =
        let k : take i s ++ until_in quoted b (drop i s) ≡ take i s = rw (drop-cons s i 0, t, eq-eqb (get_or s i 0) b e) (append-nil (take i s)) in
        sym k ∙ c.before

    pub found_after : quoted ≡ false → get_or s i 0 ≡ b → after_unquoted b s ≡ Some (take (length s - (i + 1)) (drop (i + 1) s))
    unfolding after_in
    found_after t e =
        let k : after_in quoted b (drop i s) ≡ Some (drop (i + 1) s) = rw (drop-cons s i 0, t, eq-eqb (get_or s i 0) b e, add-one i) in
        rw (rest_is (i + 1) s) (sym c.after ∙ k)

    pub seeking_on : (q : Bool) → parting quoted b (get_or s i 0) ≡ false → q ≡ quoted_after quoted (get_or s i 0) → Seeking s b (i + 1) q
    unfolding until_in after_in
    seeking_on q t f = record {
      before =
          let k : take (i + 1) s ++ until_in q b (drop (i + 1) s) ≡ take i s ++ until_in quoted b (drop i s) =
          rw (add-one i, take-suc s i 0, drop-cons s i 0, t, f)
          (append_assoc (take i s) (get_or s i 0 ∷ []) (until_in (quoted_after quoted (get_or s i 0)) b (drop (suc i) s))) in
          k ∙ c.before;
      after =
          let k : after_in q b (drop (i + 1) s) ≡ after_in quoted b (drop i s) = rw (add-one i, drop-cons s i 0, t, f) in
          k ∙ c.after;
    }

  pub ended_before : length s ≤ i → s ≡ until_unquoted b s
  unfolding until_in
  ended_before h =
      let k : take i s ++ until_in quoted b (drop i s) ≡ s = rw (drop_of_length-le s {i = i} h, take_all i s) (append-nil s) in
      sym k ∙ c.before

  pub ended_after : length s ≤ i → after_unquoted b s ≡ None
  unfolding after_in
  ended_after h =
      let k : after_in quoted b (drop i s) ≡ None = rw (drop_of_length-le s {i = i} h) in
      sym c.after ∙ k

-- a turn of the iterator: the first part, and what it has left after it
pub parts_turn : (stop : ℕ) (s part : List ℕ) (r : Option (Bor (List ℕ))) → stop ≢ 34 → part ≡ until_unquoted stop s
    → MatchOption r (after_unquoted stop s ≡ None) (λ y. after_unquoted stop s ≡ Some y.now) → unquoted_parts stop s ≡ part ∷ unquoted_left stop r
parts_turn stop s part None k q h = rw q (parts_none stop s k h)
parts_turn stop s part (Some y) k q h = rw q (parts_some stop s y.now k h)
