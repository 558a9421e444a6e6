-- Some piece starts before the work reaches it: the test of the pieces is a test of the bookings. Assumes nothing.
use Prim.Native.Nat.{ℕ, zero, suc, ◌+◌, ◌<◌}
use mathlib.Core.Path.{◌≡◌, refl, sym, ap, ◌∙◌}
use mathlib.Core.Bool.{Bool, true, false, cond, not, ◌&&◌, true≢false, or-false}
use mathlib.Core.List.{List, [], ◌∷◌, foldl}
use Rattle.std.specs.Prelude.{Option, None, Some}
use Rattle.spans.specs.declared.Span.{Span}
use Rattle.spans.specs.declared.ActivitySpan.{ActivitySpan}
use Rattle.spans.specs.declared.ActivitySpan.TheVariants.{Between, Nowhere}
use Rattle.spans.specs.inner.Activities.{span_found, span_meant}
use native.Mathlib.Omega.{arith}
use lib.Dec.{eqb, ltb}
use lib.IntN.{ℤ, pos}
use lib.Signed.{lt_z}
use borrow.Author.Tests.{ltb-true, lt-ltb, eq-eqb, eqb-true}
use Rattle.loops.specs.Lists.{any_of, option}
use Rattle.loops.specs.Range.{fold}
use Rattle.loops.specs.Search.{any_below}
use Rattle.loops.specs.inner.Chain.{only, only_at, Blind}
use Rattle.loops.specs.Ordered.{Entry, upsert, values}
use Rattle.loops.proofs.OrderedLaws.{alike, not_self, lookup, any_stored, stored_any}
use Rattle.loops.proofs.BoolLaws.{and_left, and_right, both, not_true, both_ways}
use Rattle.loops.proofs.ListLaws.{foldl_collect}
use Rattle.loops.proofs.RangeLaws.{fold_ext}
use Rattle.loops.proofs.SearchLaws.{any_hit, any_none}
use Rattle.loops.proofs.PlaceLaws.{hit}
use Rattle.chains.specs.Places.{places}
use Rattle.chains.proofs.PlaceLaws.{any_places}
use Rattle.calendar.specs.Clock.{clock}
use Rattle.rows.specs.Cells.{row_count, num, is}
use Rattle.sheet.specs.inner.Accepted.{Accepted}
use Rattle.sheet.proofs.Lookups.{is_num}
use Rattle.owners.specs.inner.Owners.{owner_kind, own_place, owned_by}
use Rattle.model.specs.Sheet.{sheet}
use Rattle.model.specs.Resource.{transport_between}
use Rattle.model.specs.Schedule.{Assignment}
use Rattle.model.proofs.OwnedLaws.{of_activity, owned_kind}
use Rattle.definition.specs.Pieces.{index_of, before_index, same_index}
use Rattle.definition.specs.CheckPrecedence.{PlacedPiece, piece_with, by_part, runs_on_all, or_time_only, pieces_of}
use Rattle.definition.specs.ActivitySpan as page
use Rattle.definition.specs.ActivitySpan.{activity_span}
use Rattle.check7_transport.proofs.Longest.{between_none}
use Rattle.pieces.specs.inner.Bookings.{in_piece}
use Rattle.pieces.proofs.Companions.{booking, of_piece_lem}
use Rattle.pieces.proofs.Chains.{blind_if, piece_kind, piece_activity}
use Rattle.pieces.proofs.Chains as chains
use Rattle.model.proofs.Accepting.{activity_at_lem}
use Rattle.pieces.proofs.Bookings.{bookings_of}
use Rattle.check7_early_piece.specs.inner.Reached.{starts_at, unreached_at}
use Rattle.check7_early_piece.proofs.Early.{index_order, index_at, map_step, map_to, map_sorted, in_part, piece_to, map_piece, no_piece, PieceIs, piece_is}

alike_is : (x y : Option ℤ) → alike before_index x y ≡ true → x ≡ y
alike_is x y e = index_order.total x y (not_true _ (and_left (not (before_index x y)) (not (before_index y x)) e)) (not_true _ (and_right (not (before_index x y)) (not (before_index y x)) e))

is_alike : (x y : Option ℤ) → x ≡ y → alike before_index x y ≡ true
is_alike x y e = rw (e, not_self before_index index_order y)

module _ (rows : List ℤ) (acc : Accepted rows) (o : ℕ) (l : o < row_count rows) (h : is rows o 0 2 ≡ true) where
  -- two bookings of the activity are of one piece where their part indices are alike
  module _ (k j : ℕ) (b : k < row_count rows) (d : j < row_count rows) (e : owned_by rows o 23 k ≡ true) where
    named : (i : ℕ) → owned_by rows o 23 i ≡ true → is rows i 1 (num rows o 1) ≡ true
    named i g = and_right (is rows i 0 23) (is rows i 1 (num rows o 1)) (sym (of_activity rows 23 o (num rows o 1) (unfold owner_kind in refl) (activity_at_lem rows acc o l h) i) ∙ g)

    pub piece_alike : owned_by rows o 23 j ≡ true → in_piece rows k j ≡ true → index_at rows j ≡ index_at rows k
    piece_alike f g =
        alike_is (index_at rows j) (index_at rows k)
        (and_right (eqb (num rows j 1) (num rows k 1)) (same_index (index_at rows j) (index_at rows k)) (of_piece_lem rows acc j k d b (owned_kind rows o 23 j f) (owned_kind rows o 23 k e) ∙ g))

    pub alike_piece : owned_by rows o 23 j ≡ true → index_at rows j ≡ index_at rows k → in_piece rows k j ≡ true
    alike_piece f g =
        sym (of_piece_lem rows acc j k d b (owned_kind rows o 23 j f) (owned_kind rows o 23 k e))
        ∙ both (eq-eqb (num rows j 1) (num rows k 1) (is_num rows j 1 (num rows o 1) (named j f) ∙ sym (is_num rows k 1 (num rows o 1) (named k e)))) (is_alike (index_at rows j) (index_at rows k) g)

    pub piece_owned : in_piece rows k j ≡ true → owned_by rows o 23 j ≡ true
    unfolding in_piece is
    piece_owned g =
        of_activity rows 23 o (num rows o 1) (unfold owner_kind in refl) (activity_at_lem rows acc o l h) j
        ∙ both (piece_kind rows k j g) (eq-eqb (num rows j 1) (num rows o 1) (piece_activity rows k j g ∙ is_num rows k 1 (num rows o 1) (named k e)))

  -- ---- the map of the pieces
  pub pieces_are : by_part clock (sheet rows) (num rows o 1) ≡ map_to rows (owned_by rows o 23) (row_count rows)
  unfolding by_part map_to only only_at
  pieces_are =
      ap (foldl step []) (bookings_of rows o (activity_at_lem rows acc o l h))
      ∙ foldl_collect step [] (only (owned_by rows o 23) (λ k. booking rows k ∷ [])) (row_count rows)
      ∙ fold_ext _ _ [] (row_count rows) (λ m k. go m k (owned_by rows o 23 k))
    where
      step : List (Entry (Option ℤ) (PlacedPiece ℤ)) → Assignment ℤ → List (Entry (Option ℤ) (PlacedPiece ℤ))
      step m a = upsert before_index (index_of a.part) (record { start = a.start; to = [] }) (piece_with clock a) m

      go : (m : List (Entry (Option ℤ) (PlacedPiece ℤ))) (k : ℕ) (b : Bool) → foldl step m (cond b (booking rows k ∷ []) []) ≡ cond b (map_step rows m k) m
      go m k true = refl
      go m k false = refl

  module _ (a from : ℕ) where
    abbrev from_where : List ℕ
    from_where = runs_on_all clock (sheet rows) a

    abbrev pub too_early : PlacedPiece ℤ → Bool
    too_early v = clock.before v.start (clock.plus (pos from) (pos (transport_between (sheet rows) (runs_on_all clock (sheet rows) a) v.to)))

    abbrev judged : ℕ → Bool
    judged k = owned_by rows o 23 k && unreached_at rows a from k

    -- from a piece to two of its bookings
    to_bookings : (x : Option ℤ) (v : PlacedPiece ℤ) → PieceIs rows (owned_by rows o 23) x from_where (row_count rows) v → too_early v ≡ true → any_below judged (row_count rows) ≡ true
    unfolding unreached_at starts_at
    to_bookings x v w e =
        sym (any_hit judged k (row_count rows) (row_count rows) w.moves.below refl
        (both (and_left (owned_by rows o 23 k) (alike before_index x (index_at rows k)) w.moves.holds)
        (sym (any_hit (starts_at rows k (from + transport_between (sheet rows) from_where (num rows k 3 ∷ []))) j (row_count rows) (row_count rows) w.starts.below refl
        (both (alike_piece k j w.moves.below w.starts.below (and_left (owned_by rows o 23 k) (alike before_index x (index_at rows k)) w.moves.holds) (and_left (owned_by rows o 23 j) (alike before_index x (index_at rows j)) w.starts.holds) same)
        (lt-ltb (num rows j 4) (from + transport_between (sheet rows) from_where (num rows k 3 ∷ [])) less))))))
      where
        k : ℕ
        k = w.moves.place

        j : ℕ
        j = w.starts.place

        same : index_at rows j ≡ index_at rows k
        same = sym (alike_is x (index_at rows j) (and_right (owned_by rows o 23 j) (alike before_index x (index_at rows j)) w.starts.holds)) ∙ alike_is x (index_at rows k) (and_right (owned_by rows o 23 k) (alike before_index x (index_at rows k)) w.moves.holds)

        before : w.begins < from + transport_between (sheet rows) from_where v.to
        before = ltb-true _ _ (rw w.start_is at e)

        less : num rows j 4 < from + transport_between (sheet rows) from_where (num rows k 3 ∷ [])
        less = let x₁ = w.starts.reached in let x₂ = w.moves.reached in omega (arith, before)

    -- and from two bookings to their piece
    to_piece : (k j : ℕ) → k < row_count rows → j < row_count rows → owned_by rows o 23 k ≡ true → in_piece rows k j ≡ true
        → num rows j 4 < from + transport_between (sheet rows) from_where (num rows k 3 ∷ [])
        → any_of too_early (values (map_to rows (owned_by rows o 23) (row_count rows))) ≡ true
    to_piece k j b d e f m = go (piece_to rows (owned_by rows o 23) x (row_count rows)) refl
      where
        x : Option ℤ
        x = index_at rows k

        owns : owned_by rows o 23 j ≡ true
        owns = piece_owned k j b d e f

        in_k : in_part rows (owned_by rows o 23) x k ≡ true
        in_k = both e (is_alike x (index_at rows k) refl)

        in_j : in_part rows (owned_by rows o 23) x j ≡ true
        in_j = both owns (is_alike x (index_at rows j) (sym (piece_alike k j b d e owns f)))

        go : (v : Option (PlacedPiece ℤ)) → piece_to rows (owned_by rows o 23) x (row_count rows) ≡ v → any_of too_early (values (map_to rows (owned_by rows o 23) (row_count rows))) ≡ true
        go None g = absurd (true≢false (sym in_k ∙ no_piece rows (owned_by rows o 23) x (row_count rows) g k b))
        go (Some v) g =
            let w = piece_is rows (owned_by rows o 23) x from_where (row_count rows) v g in
            let s = w.starts.bound j d in_j in
            let t = w.moves.bound k b in_k in
            stored_any before_index index_order too_early x v (map_to rows (owned_by rows o 23) (row_count rows)) (map_piece rows (owned_by rows o 23) x (row_count rows) ∙ g)
            (rw w.start_is (lt-ltb w.begins (from + transport_between (sheet rows) from_where v.to) (omega arith)))

    pub judged_is : any_below judged (row_count rows) ≡ any_of too_early (values (by_part clock (sheet rows) (num rows o 1)))
    unfolding unreached_at starts_at
    judged_is = rw pieces_are (both_ways _ _ there back)
      where
        there : any_below judged (row_count rows) ≡ true → any_of too_early (values (map_to rows (owned_by rows o 23) (row_count rows))) ≡ true
        there e =
            let u = hit judged (row_count rows) e in
            let g = and_left (owned_by rows o 23 u.place) (unreached_at rows a from u.place) u.passes in
            let z = hit (starts_at rows u.place (from + transport_between (sheet rows) from_where (num rows u.place 3 ∷ []))) (row_count rows) (and_right (owned_by rows o 23 u.place) (unreached_at rows a from u.place) u.passes) in
            to_piece u.place z.place u.below z.below g
            (and_left (in_piece rows u.place z.place) (ltb (num rows z.place 4) (from + transport_between (sheet rows) from_where (num rows u.place 3 ∷ []))) z.passes)
            (ltb-true _ _ (and_right (in_piece rows u.place z.place) (ltb (num rows z.place 4) (from + transport_between (sheet rows) from_where (num rows u.place 3 ∷ []))) z.passes))

        back : any_of too_early (values (map_to rows (owned_by rows o 23) (row_count rows))) ≡ true → any_below judged (row_count rows) ≡ true
        back e =
            let t = any_stored before_index index_order too_early (map_to rows (owned_by rows o 23) (row_count rows)) (map_sorted rows (owned_by rows o 23) (row_count rows)) e in
            to_bookings t.key t.value
            (piece_is rows (owned_by rows o 23) t.key from_where (row_count rows) t.value (sym (map_piece rows (owned_by rows o 23) t.key (row_count rows)) ∙ t.found))
            t.passes

    -- ---- the pieces of an activity that is booked, and of one that is not

    pub booked_is : (k : ℕ) {b : Bool} → k < row_count rows → owned_by rows o 23 k ≡ true → b ≡ any_below judged (row_count rows) → b ≡ any_of too_early (pieces_of clock (sheet rows) (num rows o 1))
    unfolding pieces_of
    booked_is k c e f = f ∙ judged_is ∙ ap (any_of too_early) (go (by_part clock (sheet rows) (num rows o 1)) refl)
      where
        empty : by_part clock (sheet rows) (num rows o 1) ≡ [] → ⊥
        empty g =
            let z : lookup before_index (index_at rows k) (map_to rows (owned_by rows o 23) (row_count rows)) ≡ None = rw (← pieces_are, g) (unfold lookup in refl) in
            true≢false (sym (both e (is_alike (index_at rows k) (index_at rows k) refl)) ∙ no_piece rows (owned_by rows o 23) (index_at rows k) (row_count rows) (sym (map_piece rows (owned_by rows o 23) (index_at rows k) (row_count rows)) ∙ z) k c)

        go : (m : List (Entry (Option ℤ) (PlacedPiece ℤ))) → by_part clock (sheet rows) (num rows o 1) ≡ m → values m ≡ or_time_only clock (sheet rows) (num rows o 1) (values m)
        go [] g = absurd (empty g)
        go (e ∷ m) g = refl

    none_mapped : (n : ℕ) → ((k : ℕ) → k < n → owned_by rows o 23 k ≡ false) → map_to rows (owned_by rows o 23) n ≡ []
    unfolding map_to fold only_at
    none_mapped zero e = refl
    none_mapped (suc n) e = rw (e n (omega arith)) (none_mapped n (λ k c. e k (omega arith)))

    pub timed_is : {b : Bool} → ((k : ℕ) → k < row_count rows → owned_by rows o 23 k ≡ false)
        → b ≡ option (activity_span clock (sheet rows) (num rows o 1)) false (λ y. clock.before y.start (pos from)) → b ≡ any_of too_early (pieces_of clock (sheet rows) (num rows o 1))
    unfolding pieces_of
    timed_is e f = f ∙ go (activity_span clock (sheet rows) (num rows o 1)) ∙ ap (λ m. any_of too_early (or_time_only clock (sheet rows) (num rows o 1) (values m))) (sym (pieces_are ∙ none_mapped (row_count rows) e))
      where
        none_far : (y : ℤ) → lt_z y (pos (from + transport_between (sheet rows) from_where [])) ≡ lt_z y (pos from)
        none_far y = ap (λ z. lt_z y (pos z)) (let z = between_none (sheet rows) from_where in omega arith)

        go : (x : Option (page.Span ℤ)) → option x false (λ y. clock.before y.start (pos from)) ≡ any_of too_early (option x [] λ x. record { start = x.start; to = [] } ∷ [])
        go None = unfold any_of in refl
        go (Some y) = sym (unfold any_of in (or-false _ ∙ none_far y.start))

    -- the two answers, by whether there is a booking
    module _ {booked : Bool} (e : booked ≡ any_below (owned_by rows o 23) (row_count rows)) where
      pub by_bookings : {b : Bool} → booked ≡ true → b ≡ any_of (unreached_at rows a from) (places (owned_by rows o 23) (row_count rows)) → b ≡ any_of too_early (pieces_of clock (sheet rows) (num rows o 1))
      by_bookings f g =
          let k = hit (owned_by rows o 23) (row_count rows) (sym e ∙ f) in
          booked_is k.place k.below k.passes (g ∙ any_places (owned_by rows o 23) (unreached_at rows a from) (row_count rows))

      none_booked : booked ≡ false → (k : ℕ) → k < row_count rows → owned_by rows o 23 k ≡ false
      none_booked f k c = any_none (owned_by rows o 23) (row_count rows) k (sym e ∙ f) c

      module _ (f : booked ≡ false) {id : ℕ} {x : ActivitySpan} (i : id ≡ num rows o 1) (s : span_meant (span_found x) ≡ activity_span clock (sheet rows) id) where
        pub by_nowhere : x ≡ Nowhere → false ≡ any_of too_early (pieces_of clock (sheet rows) (num rows o 1))
        by_nowhere z = timed_is (none_booked f) (rw (← i, ← s, z) refl)

        pub by_span : {y : Span} → x ≡ Between y → ltb y.start from ≡ any_of too_early (pieces_of clock (sheet rows) (num rows o 1))
        by_span z = timed_is (none_booked f) (rw (← i, ← s, z) refl)

-- ---- along the chain of the bookings

module _ (rows : List ℤ) where
  pub starts_blind : (o k bound : ℕ) → owned_by rows o 23 k ≡ true → Blind (owned_by rows o 23) (starts_at rows k bound)
  unfolding starts_at owned_by
  starts_blind o k bound e = blind_if _ _ λ j f.
      chains.piece_owned rows k o (owned_kind rows o 23 k e) (sym (eqb-true (own_place rows k) o (and_right (is rows k 0 23) (eqb (own_place rows k) o) e))) j
      (and_left (in_piece rows k j) (ltb (num rows j 4) bound) f)

  pub unreached_told : (a from k : ℕ) {r : Bool} {m x : ℕ} → r ≡ any_below (starts_at rows k (from + m)) (row_count rows)
      → m ≡ transport_between (sheet rows) (runs_on_all clock (sheet rows) a) (x ∷ []) → x ≡ num rows k 3 → r ≡ unreached_at rows a from k
  unfolding unreached_at
  unreached_told a from k e f g =
      e
      ∙ ap (λ z. any_below (starts_at rows k (from + z)) (row_count rows)) (f ∙ ap (λ z. transport_between (sheet rows) (runs_on_all clock (sheet rows) a) (z ∷ [])) g)
