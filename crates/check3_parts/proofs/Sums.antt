-- Sums over the parts, booking by booking, and what they tell of the map of the parts. Assumes nothing.
use Prim.Native.Nat.{ℕ, zero, suc, ◌+◌, ◌-◌, ◌<◌, ◌≤◌}
use mathlib.Core.Path.{◌≡◌, refl, ap, ap₂, subst, sym, ◌∙◌}
use mathlib.Core.Bool.{Bool, true, false, cond}
use mathlib.Core.List.{List, [], ◌∷◌, ◌++◌, append-nil, foldl}
use Rattle.std.specs.Prelude.{Option, None, Some}
use native.Mathlib.Omega.{arith}
use lib.Dec.{ltb}
use lib.IntN.{ℤ}
use lib.ListN.{length}
use lib.Signed.{lt_z}
use mir.Syntax.{w64}
use mir.Val.{Fits}
use Rattle.loops.specs.Lists.{given, each, option}
use Rattle.loops.specs.Ordered.{Entry, values}
use Rattle.loops.specs.Range.{collect}
use Rattle.loops.specs.Sums.{total}
use Rattle.loops.specs.inner.Chain.{First}
use Rattle.loops.proofs.RangeLaws.{collect_step}
use Rattle.loops.proofs.OrderedLaws.{integer_order, total_upsert}
use Rattle.chains.specs.inner.Left.{front}
use Rattle.rows.specs.Cells.{row_count, cell, num}
use Rattle.sheet.specs.Refusals.{refusal_of}
use Rattle.owners.specs.inner.Owners.{owned_by}
use Rattle.findings.specs.declared.Violation.{Violation}
use Rattle.findings.specs.inner.Told.{Told, tell}
use Rattle.model.specs.Schedule.{Part, duration_too_short}
use Rattle.model.proofs.Accepting.{accepted, at_most}
use Rattle.model.proofs.OwnedLaws.{owned_kind}
use Rattle.definition.specs.CheckParts.{parts_of, work_of}
use Rattle.check3_parts.specs.inner.Booked.{has_part, part_of, part_at, parts_below, parts_in, repeated, short_parts}
use Rattle.check3_parts.specs.inner.Measure.{IsMeasure, Summed, measured, short_of}
use Rattle.check3_parts.proofs.Works.{parts_more, work_is, part_on, part_whole, parts_next, parts_first}

-- a part more, of any sum
pub total_more : (g : ℤ → ℕ → ℕ) (l : List Part) (p : Part)
    → total (λ e. g e.key e.value) (parts_of (l ++ p ∷ [])) + option (work_of l p.index) 0 (g p.index) ≡ total (λ e. g e.key e.value) (parts_of l) + g p.index p.work
total_more g l p = rw (parts_more l p, work_is l p.index) (total_upsert lt_z integer_order g p.index p.work (λ w. p.work) (parts_of l))

-- what it comes to with booking k
pub total_added : (g : ℤ → ℕ → ℕ) (rows : List ℤ) (o k : ℕ) → owned_by rows o 23 k ≡ true → {before : Option ℕ} {sum w : ℕ} → has_part rows k ≡ true
    → sum ≡ total (λ e. g e.key e.value) (parts_of (parts_below rows o k)) → w ≡ num rows k 8 → before ≡ work_of (parts_below rows o k) (cell rows k 7)
    → total (λ e. g e.key e.value) (parts_of (parts_below rows o (k + 1))) + option before 0 (g (cell rows k 7)) ≡ sum + g (cell rows k 7) w
unfolding parts_below
total_added g rows o k a h s e r =
    rw (collect_step (part_at rows o) k, part_on rows o k a h, r, s, e) (total_more g (parts_below rows o k) (part_of rows k))

module _ (post : ℕ → ℕ → Type 0) (rows : List ℤ) (o : ℕ) where
  pub summed_start : {n i : ℕ} → First (owned_by rows o 23) 0 n i → Summed post rows o i 0
  summed_start s = record { whole = λ m f. rw (parts_first rows o s) (unfold parts_of total in refl); few = omega arith }

  -- at the place that comes next
  pub summed_here : (n : ℕ) {k sum : ℕ} {l l' : List ℕ} → l ≡ k ∷ l' → Summed post rows o (front n l) sum → Summed post rows o k sum
  summed_here n {sum = sum} e s = subst (λ x. Summed post rows o (front n x) sum) e s

  -- a booking of the whole activity
  pub summed_whole : {n k j sum : ℕ} → has_part rows k ≡ false → First (owned_by rows o 23) (suc k) n j → Summed post rows o k sum → Summed post rows o j sum
  summed_whole {k = k} h f s = record {
    whole = λ m a.
        s.whole m a
        ∙ ap (λ l. measured m (parts_of l)) (sym (parts_next rows o f ∙ ap (λ x. parts_below rows o k ++ x) (part_whole rows o k h) ∙ append-nil (parts_below rows o k)));
    few = omega (arith, s.few, f.low);
  }

  module _ (acc : refusal_of rows ≡ None) (k : ℕ) {sum v w : ℕ} (m₀ : (m : ℕ → ℕ) × IsMeasure post m)
      (a : owned_by rows o 23 k ≡ true) (h : has_part rows k ≡ true) (z : w ≡ num rows k 8) (p : post w v) (s : Summed post rows o k sum) where
    -- no more than the greatest work
    part_small : v ≤ 4000000000000
    part_small = rw (m₀.1.gives w v p, z) (m₀.1.small (num rows k 8) (at_most rows (accepted rows acc) k 23 8 (owned_kind rows o 23 k a)))

    pub sum_fits : k < row_count rows → Fits w64 (sum + v)
    sum_fits l = record { fits = omega (arith, part_small, s.few, (accepted rows acc).short) }

    added : (m : ℕ → ℕ) {n j : ℕ} → IsMeasure post m → First (owned_by rows o 23) (suc k) n j → measured m (parts_of (parts_below rows o j)) + option (work_of (parts_below rows o k) (cell rows k 7)) 0 m ≡ sum + v
    added m {n} {j} b f =
        rw (parts_next rows o f, part_on rows o k a h, s.whole m b, b.gives w v p, z)
        (total_more (λ _. m) (parts_below rows o k) (part_of rows k))

    -- the first of its index
    pub summed_new : {n j : ℕ} → None ≡ work_of (parts_below rows o k) (cell rows k 7) → First (owned_by rows o 23) (suc k) n j → Summed post rows o j (sum + v)
    summed_new q f = record {
      whole = λ m b.
          let e = added m b f in
          let y : option (work_of (parts_below rows o k) (cell rows k 7)) 0 m ≡ 0 = rw (← q) in
          omega (arith, e, y);
      few = omega (arith, part_small, s.few, f.low);
    }

    module _ {n j u x : ℕ} (y : Some x ≡ work_of (parts_below rows o k) (cell rows k 7)) (q : post x u) (f : First (owned_by rows o 23) (suc k) n j) where
      again : (m : ℕ → ℕ) → IsMeasure post m → measured m (parts_of (parts_below rows o j)) + u ≡ sum + v
      again m b =
          let e = added m b f in
          let t : option (work_of (parts_below rows o k) (cell rows k 7)) 0 m ≡ u = rw (← y) (sym (b.gives x u q)) in
          omega (arith, e, t)

      pub again_fits : u ≤ sum + v
      again_fits = let e = again m₀.0 m₀.1 in omega (arith, e)

      -- it stands for another
      pub summed_again : Summed post rows o j (sum + v - u)
      summed_again = record {
        whole = λ m b. let e = again m b in omega (arith, e);
        few = omega (arith, part_small, s.few, f.low);
      }

-- ---- what is measured

one_more_lem : (n : ℕ) → 1 + n ≡ suc n
one_more_lem n = omega arith

zero_more : (n : ℕ) → 0 + n ≡ n
zero_more n = omega arith

pub count_is : (m : List (Entry ℤ ℕ)) → measured (λ _. 1) m ≡ length m
unfolding total
count_is [] = refl
count_is (e ∷ m) = ap (λ n. 1 + n) (count_is m) ∙ one_more_lem (length m)

work_from : (m : List (Entry ℤ ℕ)) (a : ℕ) → foldl ◌+◌ a (values m) ≡ a + measured (λ w. w) m
unfolding total
work_from [] a = omega arith
work_from (e ∷ m) a = let h = work_from m (a + e.value) in omega (arith, h)

pub work_all : (m : List (Entry ℤ ℕ)) → measured (λ w. w) m ≡ foldl ◌+◌ 0 (values m)
work_all m = sym (work_from m 0 ∙ zero_more (measured (λ w. w) m))

-- the same finding, so often
module _ (f : Violation) where
  pub repeated_none : collect (repeated f) 0 ≡ []
  unfolding collect
  repeated_none = refl

  pub repeated_more : (n : ℕ) → collect (repeated f) (n + 1) ≡ collect (repeated f) n ++ (f ∷ [])
  unfolding repeated
  repeated_more n = collect_step (repeated f) n

  repeated_first : (n : ℕ) → collect (repeated f) n ++ f ∷ [] ≡ f ∷ collect (repeated f) n
  unfolding collect repeated
  repeated_first zero = refl
  repeated_first (suc n) = ap (λ l. l ++ f ∷ []) (repeated_first n)

  short_are : (least : ℕ) (m : List (Entry ℤ ℕ)) → collect (repeated f) (measured (short_of least) m) ≡ each (λ w. given (ltb w least) f) (values m)
  unfolding total each
  short_are least [] = repeated_none
  short_are least (e ∷ m) = go (ltb e.value least) (short_are least m)
    where
      go : (b : Bool) → collect (repeated f) (measured (short_of least) m) ≡ each (λ w. given (ltb w least) f) (values m)
          → collect (repeated f) (cond b 1 0 + measured (short_of least) m) ≡ given b f ++ each (λ w. given (ltb w least) f) (values m)
      go true h =
          ap (collect (repeated f)) (one_more_lem (measured (short_of least) m))
          ∙ (unfold collect in unfold repeated in (repeated_first (measured (short_of least) m) ∙ ap (λ l. f ∷ l) h))
      go false h = ap (collect (repeated f)) (zero_more (measured (short_of least) m)) ∙ h

pub short_told : (rows : List ℤ) (x o : ℕ) (t : Told) {t' : Told} {f : Violation} {i n least : ℕ} → i ≡ n → n ≡ measured (short_of least) (parts_in rows o) → least ≡ num rows x 3
    → f ≡ duration_too_short 3 (num rows o 1) → t' ≡ tell t (collect (repeated f) i) → t' ≡ tell t (short_parts rows x o)
short_told rows x o t {i = i} e c l q h = h ∙ ap (tell t) (ap₂ (λ f n. collect (repeated f) n) q (e ∙ c ∙ ap (λ l. measured (short_of l) (parts_in rows o)) l) ∙ short_are (duration_too_short 3 (num rows o 1)) (num rows x 3) (parts_in rows o))
