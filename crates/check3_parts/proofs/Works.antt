-- The work that a part was given last, booking by booking. Assumes nothing.
use Prim.Native.Nat.{ℕ, zero, suc}
use mathlib.Core.Path.{◌≡◌, refl, ap, ap₂, sym, ◌∙◌}
use mathlib.Core.Bool.{Bool, true, false, cond, not, ◌&&◌, and_comm}
use mathlib.Core.List.{List, [], ◌∷◌, ◌++◌, foldl, foldl-append, append-nil, append_assoc}
use Rattle.std.specs.Prelude.{None, Some}
use lib.Dec.{eqb}
use lib.IntN.{ℤ}
use lib.Signed.{lt_z}
use Rattle.loops.specs.Lists.{given, keep, option}
use Rattle.loops.specs.Ordered.{Entry, upsert}
use Rattle.loops.specs.Range.{fold, collect}
use Rattle.loops.specs.inner.Chain.{First, Silent, only, only_at}
use Rattle.loops.proofs.OrderedLaws.{alike, integer_order, lookup, sorted, sorted_upsert, lookup_upsert, scan_is}
use Rattle.loops.proofs.BoolLaws.{not_true}
use Rattle.loops.proofs.Walks.{collect_first, collect_next}
use Rattle.chains.specs.Places.{places}
use Rattle.chains.proofs.PlaceLaws.{foldl_only}
use Rattle.rows.specs.Cells.{row_count, cell, num}
use Rattle.rows.specs.Ranges.{is_none}
use Rattle.sheet.specs.Refusals.{refusal_of}
use Rattle.owners.specs.inner.Owners.{owned_by}
use Rattle.findings.specs.declared.Violation.{Violation}
use Rattle.findings.specs.inner.Told.{Told, tell, telling}
use Rattle.findings.proofs.Reporting.{tell_places}
use Rattle.model.specs.Schedule.{Part, unknown_activity}
use Rattle.model.proofs.Accepting.{accepted}
use Rattle.model.proofs.OwnedLaws.{owned_kind}
use Rattle.definition.specs.Pieces.{same_index}
use Rattle.definition.specs.CheckParts.{parts_of, work_of, two_works}
use Rattle.pieces.specs.inner.Bookings.{key_at}
use Rattle.pieces.proofs.Indices.{same_key}
use Rattle.pieces.proofs.Companions.{index_class}
use Rattle.check3_parts.specs.inner.Booked.{has_part, part_of, part_at, parts_below, given_by}

-- ---- one part more

pub parts_more : (l : List Part) (p : Part) → parts_of (l ++ p ∷ []) ≡ upsert lt_z p.index p.work (λ w. p.work) (parts_of l)
unfolding parts_of
parts_more l p = foldl-append (λ m p. upsert lt_z p.index p.work (λ w. p.work) m) [] l (p ∷ [])

sorted_from : (l : List Part) (m : List (Entry ℤ ℕ)) → sorted lt_z m ≡ true → sorted lt_z (foldl (λ m p. upsert lt_z p.index p.work (λ w. p.work) m) m l) ≡ true
sorted_from [] m h = h
sorted_from (p ∷ l) m h = sorted_from l (upsert lt_z p.index p.work (λ w. p.work) m) (sorted_upsert lt_z integer_order p.index p.work (λ w. p.work) m h)

pub work_is : (l : List Part) (i : ℤ) → work_of l i ≡ lookup lt_z i (parts_of l)
unfolding work_of parts_of
work_is l i = scan_is lt_z integer_order i (parts_of l) (sorted_from l [] (unfold sorted in refl))

pub work_more : (l : List Part) (p : Part) (i : ℤ) → work_of (l ++ p ∷ []) i ≡ cond (alike lt_z i p.index) (Some p.work) (work_of l i)
work_more l p i = rw (work_is (l ++ p ∷ []) i, parts_more l p, work_is l i) (lookup_upsert lt_z integer_order p.index p.work (λ w. p.work) i (parts_of l))

-- ---- the bookings of the activity

module _ (rows : List ℤ) (o : ℕ) where
  pub part_silent : Silent (owned_by rows o 23) (part_at rows o)
  unfolding part_at only
  part_silent = record { still = λ k h. rw h }

  pub part_on : (k : ℕ) → owned_by rows o 23 k ≡ true → has_part rows k ≡ true → part_at rows o k ≡ part_of rows k ∷ []
  unfolding part_at only
  part_on k a b = rw (a, b)

  pub part_whole : (k : ℕ) → has_part rows k ≡ false → part_at rows o k ≡ []
  unfolding part_at only
  part_whole k b = rw b (go (owned_by rows o 23 k))
    where
      go : (c : Bool) → cond {A = List Part} c [] [] ≡ []
      go true = refl
      go false = refl

  pub parts_next : {n i j : ℕ} → First (owned_by rows o 23) (suc i) n j → parts_below rows o j ≡ parts_below rows o i ++ part_at rows o i
  unfolding parts_below
  parts_next s = collect_next (part_at rows o) s part_silent

  pub parts_first : {n i : ℕ} → First (owned_by rows o 23) 0 n i → parts_below rows o i ≡ []
  unfolding parts_below
  parts_first s = collect_first (part_at rows o) s part_silent

  module _ (acc : refusal_of rows ≡ None) where
    same_part : (i k : ℕ) → owned_by rows o 23 i ≡ true → owned_by rows o 23 k ≡ true → has_part rows i ≡ true → has_part rows k ≡ true
        → alike lt_z (cell rows k 7) (cell rows i 7) ≡ eqb (key_at rows i) (key_at rows k)
    unfolding has_part key_at
    same_part i k a b p q =
        and_comm (not (lt_z (cell rows k 7) (cell rows i 7))) (not (lt_z (cell rows i 7) (cell rows k 7)))
        ∙ sym (ap₂ same_index (ap (λ t. cond t None (Some (cell rows i 7))) (not_true (is_none (cell rows i 7)) p)) (ap (λ t. cond t None (Some (cell rows k 7))) (not_true (is_none (cell rows k 7)) q)))
        ∙ same_key (cell rows i 7) (cell rows k 7) (index_class rows (accepted rows acc) i (owned_kind rows o 23 i a)) (index_class rows (accepted rows acc) k (owned_kind rows o 23 k b))

    -- the bookings above booking k
    module _ (k : ℕ) (b : owned_by rows o 23 k ≡ true) (q : has_part rows k ≡ true) where
      -- after booking i
      pub work_turn : (i : ℕ) → owned_by rows o 23 i ≡ true
          → work_of (parts_below rows o i ++ part_at rows o i) (cell rows k 7)
          ≡ cond (has_part rows i && eqb (key_at rows i) (key_at rows k)) (Some (num rows i 8)) (work_of (parts_below rows o i) (cell rows k 7))
      work_turn i a = go (has_part rows i) refl
        where
          go : (h : Bool) → has_part rows i ≡ h
              → work_of (parts_below rows o i ++ part_at rows o i) (cell rows k 7)
              ≡ cond (has_part rows i && eqb (key_at rows i) (key_at rows k)) (Some (num rows i 8)) (work_of (parts_below rows o i) (cell rows k 7))
          go true h =
              ap (λ l. work_of (parts_below rows o i ++ l) (cell rows k 7)) (part_on i a h)
              ∙ work_more (parts_below rows o i) (part_of rows i) (cell rows k 7)
              ∙ ap (λ c. cond c (Some (num rows i 8)) (work_of (parts_below rows o i) (cell rows k 7))) (same_part i k a b h q)
              ∙ ap (λ c. cond (c && eqb (key_at rows i) (key_at rows k)) (Some (num rows i 8)) (work_of (parts_below rows o i) (cell rows k 7))) (sym h)
          go false h =
              ap (λ l. work_of (parts_below rows o i ++ l) (cell rows k 7)) (part_whole i h)
              ∙ ap (λ l. work_of l (cell rows k 7)) (append-nil (parts_below rows o i))
              ∙ ap (λ c. cond (c && eqb (key_at rows i) (key_at rows k)) (Some (num rows i 8)) (work_of (parts_below rows o i) (cell rows k 7))) (sym h)

      -- row by row
      work_step : (j : ℕ) → work_of (parts_below rows o j ++ part_at rows o j) (cell rows k 7) ≡ only_at (owned_by rows o 23) (given_by rows k) (work_of (parts_below rows o j) (cell rows k 7)) j
      unfolding only_at given_by
      work_step j = go (owned_by rows o 23 j) refl
        where
          go : (c : Bool) → owned_by rows o 23 j ≡ c
              → work_of (parts_below rows o j ++ part_at rows o j) (cell rows k 7)
              ≡ cond c (cond (has_part rows j && eqb (key_at rows j) (key_at rows k)) (Some (num rows j 8)) (work_of (parts_below rows o j) (cell rows k 7))) (work_of (parts_below rows o j) (cell rows k 7))
          go true e = work_turn j e
          go false e =
              ap (λ l. work_of (parts_below rows o j ++ l) (cell rows k 7)) (part_silent.still j e)
              ∙ ap (λ l. work_of l (cell rows k 7)) (append-nil (parts_below rows o j))

      work_below : (j : ℕ) → fold (only_at (owned_by rows o 23) (given_by rows k)) None j ≡ work_of (parts_below rows o j) (cell rows k 7)
      unfolding fold parts_below collect
      work_below zero = unfold work_of parts_of keep in refl
      work_below (suc j) =
          ap (λ w. only_at (owned_by rows o 23) (given_by rows k) w j) (work_below j)
          ∙ sym (work_step j)

      pub work_given : foldl (given_by rows k) None (places (owned_by rows o 23) k) ≡ work_of (parts_below rows o k) (cell rows k 7)
      work_given = foldl_only (owned_by rows o 23) (given_by rows k) None k ∙ work_below k

-- ---- two works for one part

two_append : (a : ℕ) (l m r : List Part) → two_works a l (m ++ r) ≡ two_works a l m ++ two_works a (l ++ m) r
unfolding two_works
two_append a l [] r = ap (λ x. two_works a x r) (sym (append-nil l))
two_append a l (p ∷ m) r =
    ap (λ x. given (option (work_of l p.index) false (λ w. not (eqb w p.work))) (unknown_activity 3 a) ++ x)
    (two_append a (l ++ p ∷ []) m r ∙ ap (λ x. two_works a (l ++ p ∷ []) m ++ two_works a x r) (append_assoc l (p ∷ []) m))
    ∙ sym (append_assoc (given (option (work_of l p.index) false (λ w. not (eqb w p.work))) (unknown_activity 3 a)) (two_works a (l ++ p ∷ []) m) (two_works a (l ++ (p ∷ m)) r))

module _ (rows : List ℤ) (o : ℕ) where
  -- what is told of booking k
  abbrev pub works_at : ℕ → List Violation
  works_at k = two_works (num rows o 1) (parts_below rows o k) (part_at rows o k)

  pub works_silent : Silent (owned_by rows o 23) works_at
  unfolding two_works
  works_silent = record { still = λ k h. rw ((part_silent rows o).still k h) }

  pub works_are : (n : ℕ) → collect works_at n ≡ two_works (num rows o 1) [] (parts_below rows o n)
  unfolding collect parts_below
  works_are zero = unfold two_works in refl
  works_are (suc n) = ap (λ x. x ++ works_at n) (works_are n) ∙ sym (two_append (num rows o 1) [] (parts_below rows o n) (part_at rows o n))

  -- of a part
  pub work_told : (k : ℕ) → owned_by rows o 23 k ≡ true → has_part rows k ≡ true
      → works_at k ≡ given (option (work_of (parts_below rows o k) (cell rows k 7)) false (λ w. not (eqb w (num rows k 8)))) (unknown_activity 3 (num rows o 1))
  unfolding two_works
  work_told k a h =
      ap (λ l. two_works (num rows o 1) (parts_below rows o k) l) (part_on rows o k a h)
      ∙ append-nil (given (option (work_of (parts_below rows o k) (cell rows k 7)) false (λ w. not (eqb w (num rows k 8)))) (unknown_activity 3 (num rows o 1)))

  -- of the whole activity
  pub work_quiet : (k : ℕ) → has_part rows k ≡ false → works_at k ≡ []
  unfolding two_works
  work_quiet k h = rw (part_whole rows o k h)

  pub works_told : (t : Told)
      → foldl (telling works_at) t (places (owned_by rows o 23) (row_count rows)) ≡ tell t (two_works (num rows o 1) [] (parts_below rows o (row_count rows)))
  works_told t = tell_places (owned_by rows o 23) works_at (row_count rows) t works_silent ∙ ap (tell t) (works_are (row_count rows))
