-- The code's way to refusal 5: the kind of a row says which rows it may repeat. Assumes nothing.
use Prim.Native.Nat.{ℕ, ◌<◌}
use mathlib.Core.Path.{◌≡◌, refl, sym, ap, ◌∙◌}
use mathlib.Core.Logic.{◌⊎◌, inl, inr}
use mathlib.Core.Bool.{Bool, true, false, ◌||◌}
use mathlib.Core.List.{List}
use native.Mathlib.Omega.{arith}
use native.Mathlib.Decide.{dec_lt}
use Rattle.std.specs.Prelude.{None, Some}
use lib.IntN.{ℤ}
use lib.ListN.{get_or-eq_default}
use Rattle.loops.specs.Search.{any_below}
use Rattle.rows.specs.declared.Kind.{Kind}
use Rattle.rows.specs.declared.Kind.TheVariants.{Task, Activity, Overlap, Split, Speed, FixedTiming, Resource, Transport}
use Rattle.rows.specs.Kinds.{kind_of, kind_number}
use Rattle.rows.specs.Cells.{num}
use Rattle.rows.proofs.KindNumbers.{kind_there, kind_number_is}
use Rattle.sheet.specs.Places.{named}
use Rattle.sheet.specs.Refusals.{repeated}
use Rattle.sheet.proofs.Groups.{by_groups}
use Rattle.sheet.specs.inner.Groups.{groups, group, named_pair, repeated_in, repeated_by}

-- ---- the kinds whose rows may repeat

free : (x : Kind) → (x ≡ Task → ⊥) → (x ≡ Activity → ⊥) → (x ≡ Overlap → ⊥) → (x ≡ Split → ⊥) → (x ≡ Speed → ⊥) → (x ≡ FixedTiming → ⊥)
    → (x ≡ Resource → ⊥) → (x ≡ Transport → ⊥) → group (kind_number x) ≡ 0
unfolding group
free Task a b c d f g h i = absurd (a refl)
free Activity a b c d f g h i = absurd (b refl)
free Overlap a b c d f g h i = absurd (c refl)
free Split a b c d f g h i = absurd (d refl)
free Speed a b c d f g h i = absurd (f refl)
free FixedTiming a b c d f g h i = absurd (g refl)
free Resource a b c d f g h i = absurd (h refl)
free Transport a b c d f g h i = absurd (i refl)
free _ a b c d f g h i = refl

free_none : (n : ℕ) → kind_of n ≡ None → group n ≡ 0
unfolding group
free_none n q = go (dec_lt 0 n) (dec_lt n 15)
  where
    go : Dec (0 < n) → Dec (n < 15) → group n ≡ 0
    go (no h) y = let z : n ≡ 0 = omega arith in rw z
    go (yes h) (yes l) = absurd (kind_there n q h (omega arith))
    go (yes h) (no l) = get_or-eq_default groups 0 (omega arith)

-- ---- what a row repeats, by its kind

module _ (rows : List ℤ) (k : ℕ) {x : Kind} (e : Some x ≡ kind_of (num rows k 0)) where
  as_kind : repeated_in rows k (group (kind_number x)) (num rows k 1) (num rows k 2) ≡ repeated_by rows k
  as_kind = ap (λ n. repeated_in rows k (group n) (num rows k 1) (num rows k 2)) (sym (kind_number_is (num rows k 0) (sym e)))

  module _ {id : ℕ} (q : id ≡ num rows k 1) where
    -- one kind, column 1 decides
    pub by_id : {r : Bool} → r ≡ any_below (named rows (kind_number x) id) k
        → (x ≡ Task) ⊎ ((x ≡ Activity) ⊎ ((x ≡ Overlap) ⊎ ((x ≡ Split) ⊎ (x ≡ Resource)))) → r ≡ repeated_by rows k
    unfolding group repeated_in
    by_id h w = h ∙ rw q (sym (alike w)) ∙ as_kind
      where
        alike : (x ≡ Task) ⊎ ((x ≡ Activity) ⊎ ((x ≡ Overlap) ⊎ ((x ≡ Split) ⊎ (x ≡ Resource))))
            → repeated_in rows k (group (kind_number x)) (num rows k 1) (num rows k 2) ≡ any_below (named rows (kind_number x) (num rows k 1)) k
        alike (inl a) = rw a
        alike (inr (inl a)) = rw a
        alike (inr (inr (inl a))) = rw a
        alike (inr (inr (inr (inl a)))) = rw a
        alike (inr (inr (inr (inr a)))) = rw a

    module _ {other : ℕ} (s : other ≡ num rows k 2) where
      -- one kind, columns 1 and 2 decide
      pub by_pair : {r : Bool} → r ≡ any_below (named_pair rows 14 id other) k → x ≡ Transport → r ≡ repeated_by rows k
      by_pair h w = h ∙ rw (q, s) (unfold group repeated_in in rw w at as_kind)

      -- the timings
      by_timing : (x ≡ Speed) ⊎ (x ≡ FixedTiming) → (any_below (named_pair rows 9 id other) k || any_below (named_pair rows 10 id other) k) ≡ repeated_by rows k
      by_timing (inl w) = rw (q, s) (unfold group repeated_in in rw w at as_kind)
      by_timing (inr w) = rw (q, s) (unfold group repeated_in in rw w at as_kind)

      pub by_first : {r : Bool} → r ≡ any_below (named_pair rows 9 id other) k → r ≡ true → (x ≡ Speed) ⊎ (x ≡ FixedTiming) → r ≡ repeated_by rows k
      by_first h t w = t ∙ (rw (sym h ∙ t) at (by_timing w))

      pub by_second : {r t : Bool} → r ≡ any_below (named_pair rows 9 id other) k → r ≡ false → t ≡ any_below (named_pair rows 10 id other) k
          → (x ≡ Speed) ⊎ (x ≡ FixedTiming) → t ≡ repeated_by rows k
      by_second h f t w = t ∙ (rw (sym h ∙ f) at (by_timing w))

  -- rows of any other kind may repeat
  pub may_repeat : (x ≡ Task → ⊥) → (x ≡ Activity → ⊥) → (x ≡ Overlap → ⊥) → (x ≡ Split → ⊥) → (x ≡ Speed → ⊥) → (x ≡ FixedTiming → ⊥)
      → (x ≡ Resource → ⊥) → (x ≡ Transport → ⊥) → false ≡ repeated_by rows k
  unfolding repeated_in
  may_repeat a b c d f g h i = rw (free x a b c d f g h i) at as_kind

-- and so may those of none
pub of_no_kind : (rows : List ℤ) (k : ℕ) → None ≡ kind_of (num rows k 0) → false ≡ repeated_by rows k
unfolding repeated_in
of_no_kind rows k e = rw (free_none (num rows k 0) (sym e))

pub repeat_read : (rows : List ℤ) (k : ℕ) {r : Bool} → r ≡ repeated_by rows k → r ≡ repeated rows k
repeat_read rows k e = e ∙ sym (by_groups rows k)
