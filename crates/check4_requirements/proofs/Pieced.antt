-- The pieces of an activity and what each runs on, by rows. Assumes nothing.
use Prim.Native.Nat.{ℕ, suc, ◌<◌, ◌≤◌}
use mathlib.Core.Path.{◌≡◌, refl, ap, ap₂, sym, ◌∙◌}
use mathlib.Core.Bool.{Bool, true, false, cond, not, ◌&&◌, ◌||◌}
use mathlib.Core.List.{List, [], ◌∷◌, ◌++◌, foldl}
use Rattle.std.specs.Prelude.{Option, None, Some}
use native.Mathlib.Omega.{arith}
use native.Mathlib.Decide.{dec_lt}
use lib.Dec.{eqb, ltb}
use lib.IntN.{ℤ, pos, negsuc, sub_ℕ}
use borrow.Author.Tests.{eqb-true, eq-eqb, lt-ltb, le-ltb}
use Rattle.loops.specs.Numbers.{to_nat}
use Rattle.loops.specs.Lists.{given, keep, any_of, all_of, head, option}
use Rattle.loops.specs.Ordered.{entry, upsert, values}
use Rattle.loops.specs.Range.{collect}
use Rattle.loops.specs.Search.{any_below, first_place, some_if}
use Rattle.loops.specs.inner.Chain.{only}
use Rattle.loops.proofs.KeyLaws.{numbered_fold, by_key}
use Rattle.loops.proofs.BoolLaws.{and_left, and_right, not_true}
use Rattle.loops.proofs.NumberLaws.{neither_below}
use Rattle.loops.proofs.RangeLaws.{collect_ext}
use Rattle.loops.proofs.ListLaws.{keep_collect, map_collect, head_collect}
use Rattle.loops.proofs.SearchLaws.{any_hit, any_none, none_below}
use Rattle.loops.proofs.PlaceLaws.{found_at, place_none}
use Rattle.loops.proofs.PartLaws.{collect_nothing}
use Rattle.calendar.specs.Clock.{clock}
use Rattle.rows.specs.Cells.{row_count, cell, num, is}
use Rattle.rows.specs.declared.Class.TheVariants.{OptionalNumber}
use Rattle.rows.specs.Ranges.{between, is_none, in_range, in_class}
use Rattle.sheet.specs.inner.Accepted.{Accepted}
use Rattle.sheet.proofs.Lookups.{is_num}
use Rattle.owners.specs.inner.Owners.{owner_kind, owned_by}
use Rattle.model.specs.Sheet.{sheet}
use Rattle.model.specs.Schedule.{Assignment, assignment_at, assignments_below, assignments}
use Rattle.model.proofs.RowLaws.{assignment_row, assignment_none}
use Rattle.model.proofs.Accepting.{activity_at_lem, at_most}
use Rattle.model.proofs.OwnedLaws.{of_activity, owned_kind}
use Rattle.model.proofs.Finds.{first_same, first_placed}
use Rattle.definition.specs.Pieces.{index_of, before_index, same_index, of_piece, resources_of, held_among, not_held, assigned_with, is_held}
use Rattle.definition.specs.CheckRequirements.{same_time, not_simultaneous, bookings_by_piece}
use Rattle.pieces.specs.inner.Bookings.{index_key, key_at, in_piece}
use Rattle.pieces.specs.inner.Held.{held_at}
use Rattle.pieces.proofs.Indices.{index_in, before_key, same_key}
use Rattle.pieces.proofs.Companions.{booking, index_class, booked_index, of_piece_lem}
use Rattle.pieces.proofs.Bookings.{bookings_of}
use Rattle.check4_pieces.specs.inner.OfPiece.{keys, both, key_is, key_below, differs, differs_in, apart, free_in}
use Rattle.check4_claims.specs.inner.Claims.{free_at, runs_on_in}
use Rattle.check4_requirements.specs.inner.ByRow.{owns}
use Rattle.check4_requirements.proofs.Lists.{only_same, both_same, map_only, keep_only, any_only, all_only, given_keep, given_any, given_map}

-- ---- part indices as numbers

number : Option ℤ → ℕ
number None = 0
number (Some i) = index_key i

valid : Option ℤ → Bool
valid None = true
valid (Some i) = in_class OptionalNumber i && not (is_none i)

abbrev absent : ℤ
absent = negsuc 9223372036854775807

absent_class : in_class OptionalNumber absent ≡ true
unfolding in_class in_range between is_none
absent_class = refl

absent_key : index_key absent ≡ 0
unfolding index_key
absent_key = refl

absent_in : index_in absent ≡ None
unfolding is_none between
absent_in = refl

some_in : (i : ℤ) → is_none i ≡ false → index_in i ≡ Some i
some_in i e = ap (λ b. cond b None (Some i)) e

order : (x y : Option ℤ) → valid x ≡ true → valid y ≡ true → before_index x y ≡ ltb (number x) (number y)
unfolding valid number
order None None a b = refl
order (Some i) None a b = sym (le-ltb (index_key i) 0 (omega arith))
order None (Some j) a b =
    let c : in_class OptionalNumber j ≡ true = and_left (in_class OptionalNumber j) (not (is_none j)) b in
    let d : is_none j ≡ false = not_true (is_none j) (and_right (in_class OptionalNumber j) (not (is_none j)) b) in
    ap₂ before_index (sym absent_in) (sym (some_in j d)) ∙ before_key absent j absent_class c ∙ ap (λ k. ltb k (index_key j)) absent_key
order (Some i) (Some j) a b =
    let c : in_class OptionalNumber i ≡ true = and_left (in_class OptionalNumber i) (not (is_none i)) a in
    let d : is_none i ≡ false = not_true (is_none i) (and_right (in_class OptionalNumber i) (not (is_none i)) a) in
    let e : in_class OptionalNumber j ≡ true = and_left (in_class OptionalNumber j) (not (is_none j)) b in
    let f : is_none j ≡ false = not_true (is_none j) (and_right (in_class OptionalNumber j) (not (is_none j)) b) in
    ap₂ before_index (sym (some_in i d)) (sym (some_in j f)) ∙ before_key i j c e

valid_in : (x : ℤ) → in_class OptionalNumber x ≡ true → valid (index_in x) ≡ true
unfolding valid
valid_in x c = go (is_none x) refl
  where
    go : (b : Bool) → is_none x ≡ b → valid (cond b None (Some x)) ≡ true
    go true e = refl
    go false e = ap₂ ◌&&◌ c (ap not e)

number_in : (x : ℤ) → in_class OptionalNumber x ≡ true → number (index_in x) ≡ index_key x
unfolding number
number_in x c = go (is_none x) refl
  where
    go : (b : Bool) → is_none x ≡ b → number (cond b None (Some x)) ≡ index_key x
    go true e =
        let f : same_index None None ≡ eqb (index_key x) 0 =
        ap₂ same_index (sym (ap (λ b. cond b None (Some x)) e)) (sym absent_in) ∙ same_key x absent c absent_class ∙ ap (eqb (index_key x)) absent_key in
        sym (eqb-true (index_key x) 0 (sym f))
    go false e = refl

sub_most : (a b : ℕ) → to_nat (sub_ℕ a b) ≤ a
sub_most a b = go (dec_lt a b)
  where
    go : Dec (a < b) → to_nat (sub_ℕ a b) ≤ a
    go (yes h) = rw (lt-ltb a b h) (omega arith)
    go (no h) = rw (le-ltb a b (omega arith)) (omega arith)

key_small : (z : ℤ) → to_nat z ≤ 1000000 → index_key z < 2000002
unfolding index_key
key_small (pos n) h = omega arith
key_small (negsuc n) h = let s = sub_most 1000001 (suc n) in omega arith

-- ---- the bookings of the activity at row o

module _ (rows : List ℤ) (acc : Accepted rows) (o : ℕ) (l : o < row_count rows) (h : is rows o 0 2 ≡ true) where
  own_is : (k : ℕ) → owned_by rows o 23 k ≡ (is rows k 0 23 && is rows k 1 (num rows o 1))
  own_is k = of_activity rows 23 o (num rows o 1) (unfold owner_kind in refl) (activity_at_lem rows acc o l h) k

  own_id : (k : ℕ) → owned_by rows o 23 k ≡ true → num rows k 1 ≡ num rows o 1
  own_id k e = is_num rows k 1 (num rows o 1) (and_right (is rows k 0 23) (is rows k 1 (num rows o 1)) (sym (own_is k) ∙ e))

  abbrev booked : List (Assignment ℤ)
  booked = collect (only (owned_by rows o 23) (λ k. booking rows k ∷ [])) (row_count rows)

  -- the bookings of a piece
  abbrev pub piece_at : ℕ → List (Assignment ℤ)
  piece_at p = collect (only (owned_by rows o 23) (λ k. given (key_is rows p k) (booking rows k))) (row_count rows)

  abbrev index : Assignment ℤ → Option ℤ
  index a = index_of a.part

  index_is : (k : ℕ) → k < row_count rows → owned_by rows o 23 k ≡ true → index (booking rows k) ≡ index_in (cell rows k 7)
  index_is k m e = booked_index rows acc k m (owned_kind rows o 23 k e)

  number_is : (k : ℕ) → k < row_count rows → owned_by rows o 23 k ≡ true → number (index (booking rows k)) ≡ key_at rows k
  unfolding key_at
  number_is k m e = ap number (index_is k m e) ∙ number_in (cell rows k 7) (index_class rows acc k (owned_kind rows o 23 k e))

  key_below_lem : (k : ℕ) → k < row_count rows → owned_by rows o 23 k ≡ true → key_at rows k < 2000002
  unfolding key_at
  key_below_lem k m e = let b : num rows k 7 ≤ 1000000 = at_most rows acc k 23 7 (owned_kind rows o 23 k e) in key_small (cell rows k 7) b

  all_valid : all_of (λ a. valid (index a)) booked ≡ true
  all_valid = all_only (owned_by rows o 23) (λ k. booking rows k ∷ []) (row_count rows) (λ a. valid (index a)) at
    where
      at : (k : ℕ) → k < row_count rows → owned_by rows o 23 k ≡ true → all_of (λ a. valid (index a)) (booking rows k ∷ []) ≡ true
      at k m e = unfold all_of in ap (λ b. b && true) (ap valid (index_is k m e) ∙ valid_in (cell rows k 7) (index_class rows acc k (owned_kind rows o 23 k e)))

  all_below : all_of (λ a. ltb (number (index a)) keys) booked ≡ true
  all_below = all_only (owned_by rows o 23) (λ k. booking rows k ∷ []) (row_count rows) (λ a. ltb (number (index a)) keys) at
    where
      at : (k : ℕ) → k < row_count rows → owned_by rows o 23 k ≡ true → all_of (λ a. ltb (number (index a)) keys) (booking rows k ∷ []) ≡ true
      at k m e = unfold all_of in ap (λ b. b && true) (ap (λ y. ltb y keys) (number_is k m e) ∙ lt-ltb (key_at rows k) keys (key_below_lem k m e))

  has_key : (p : ℕ) → any_of (λ a. eqb (number (index a)) p) booked ≡ key_below rows o (row_count rows) p
  unfolding key_below key_is
  has_key p =
      any_only (owned_by rows o 23) (λ k. booking rows k ∷ []) (row_count rows) (λ a. eqb (number (index a)) p)
      ∙ both_same _ _ _ (row_count rows) (λ k m e. given_any true (booking rows k) (λ a. eqb (number (index a)) p) ∙ ap (λ y. eqb y p) (number_is k m e))

  of_key : (p : ℕ) → keep (λ a. eqb (number (index a)) p) booked ≡ piece_at p
  unfolding key_is
  of_key p =
      keep_only (owned_by rows o 23) (λ k. booking rows k ∷ []) (row_count rows) (λ a. eqb (number (index a)) p)
      ∙ only_same _ _ _ (row_count rows) (λ k m e. given_keep true (booking rows k) (λ a. eqb (number (index a)) p) ∙ ap (λ y. given (eqb y p) (booking rows k)) (number_is k m e))

  pub pieces_are : values (bookings_by_piece clock (sheet rows) (num rows o 1)) ≡ collect (only (key_below rows o (row_count rows)) (λ p. piece_at p ∷ [])) keys
  unfolding bookings_by_piece only
  pieces_are =
      ap (λ m. values (foldl (λ m a. upsert before_index (index_of a.part) [] (λ l. l ++ a ∷ []) m) [] m)) (bookings_of rows o (activity_at_lem rows acc o l h))
      ∙ numbered_fold valid before_index number order (λ a. index_of a.part) (λ a. []) (λ a l. l ++ a ∷ []) booked [] all_valid (unfold all_of in refl)
      ∙ by_key (λ a. number (index a)) keys booked all_below
      ∙ map_collect (λ e. e.value) (λ q. given (any_of (λ a. eqb (number (index a)) q) booked) (entry q (keep (λ a. eqb (number (index a)) q) booked))) keys
      ∙ collect_ext _ _ keys (λ q _. given_map (any_of (λ a. eqb (number (index a)) q) booked) (entry q (keep (λ a. eqb (number (index a)) q) booked)) (λ e. e.value)
      ∙ ap₂ given (has_key q) (of_key q) ∙ pick₂ (key_below rows o (row_count rows) q) (piece_at q))
    where
      pick₂ : (b : Bool) (x : List (Assignment ℤ)) → given b x ≡ cond b (x ∷ []) []
      pick₂ true x = refl
      pick₂ false x = refl

  -- some key where there is some booking
  pub keys_any : any_below (key_below rows o (row_count rows)) keys ≡ owns rows o 23
  unfolding owns
  keys_any = go (first_place (owned_by rows o 23) (row_count rows)) refl
    where
      off : (p : ℕ) → first_place (owned_by rows o 23) (row_count rows) ≡ None → key_below rows o (row_count rows) p ≡ false
      off p e = unfold key_below both in none_below _ (row_count rows) (λ k m. ap (λ b. b && key_is rows p k) (place_none (owned_by rows o 23) (row_count rows) e k m))

      on : (k : ℕ) → k < row_count rows → owned_by rows o 23 k ≡ true → key_below rows o (row_count rows) (key_at rows k) ≡ true
      on k m e = unfold key_below both key_is in sym (any_hit _ k (row_count rows) (row_count rows) m refl (ap₂ ◌&&◌ e (eq-eqb (key_at rows k) (key_at rows k) refl)))

      go : (y : Option ℕ) → first_place (owned_by rows o 23) (row_count rows) ≡ y → any_below (key_below rows o (row_count rows)) keys ≡ any_below (owned_by rows o 23) (row_count rows)
      go None e = none_below _ keys (λ p _. off p e) ∙ sym (none_below _ (row_count rows) (λ k m. place_none (owned_by rows o 23) (row_count rows) e k m))
      go (Some k) e =
          let f = found_at (owned_by rows o 23) (row_count rows) k e in
          sym (any_hit _ (key_at rows k) keys keys (key_below_lem k f.0 f.1) refl (on k f.0 f.1))
          ∙ any_hit (owned_by rows o 23) k (row_count rows) (row_count rows) f.0 refl f.1

  pub no_piece : owns rows o 23 ≡ false → (p : ℕ) → piece_at p ≡ []
  unfolding owns only
  no_piece e p = collect_none (row_count rows) (λ k m. ap (λ b. cond b (given (key_is rows p k) (booking rows k)) []) (any_none (owned_by rows o 23) (row_count rows) k e m))
    where
      collect_none : {f : ℕ → List (Assignment ℤ)} (n : ℕ) → ((k : ℕ) → k < n → f k ≡ []) → collect f n ≡ []
      collect_none {f} n r = collect_ext f (λ _. []) n r ∙ collect_nothing (λ _. []) (λ _. refl) n

  -- ---- a piece

  module _ (p : ℕ) where
    abbrev pub assigned : List ℕ
    assigned = collect (only (owned_by rows o 23) (λ k. given (key_is rows p k) (num rows k 3))) (row_count rows)

    pub assigned_are : resources_of (piece_at p) ≡ assigned
    assigned_are =
        map_only (owned_by rows o 23) (λ k. given (key_is rows p k) (booking rows k)) (row_count rows) (λ a. a.resource)
        ∙ only_same _ _ _ (row_count rows) (λ k m e. given_map (key_is rows p k) (booking rows k) (λ a. a.resource))

    -- the piece of booking k
    with_at : (k j : ℕ) → k < row_count rows → j < row_count rows → owned_by rows o 23 k ≡ true → key_at rows k ≡ p
        → keep (of_piece (booking rows k)) (assignment_at (sheet rows) j) ≡ only (owned_by rows o 23) (λ k. given (key_is rows p k) (booking rows k)) j
    unfolding only
    with_at k j m n e f = go (is rows j 0 23) refl ∙ ap (λ b. cond b (given (key_is rows p j) (booking rows j)) []) (sym (own_is j))
      where
        split : (a b : Bool) → given (a && b) (booking rows j) ≡ cond a (given b (booking rows j)) []
        split true b = refl
        split false b = refl

        inside : is rows j 0 23 ≡ true → of_piece (booking rows k) (booking rows j) ≡ (is rows j 1 (num rows o 1) && key_is rows p j)
        inside g = of_piece_lem rows acc j k n m g (owned_kind rows o 23 k e) ∙ (unfold in_piece key_is in (ap (λ b. b && (is rows j 1 (num rows k 1) && eqb (key_at rows j) (key_at rows k))) g
            ∙ ap₂ (λ x y. is rows j 1 x && eqb (key_at rows j) y) (own_id k e) f))

        go : (b : Bool) → is rows j 0 23 ≡ b
            → keep (of_piece (booking rows k)) (assignment_at (sheet rows) j) ≡ cond (is rows j 0 23 && is rows j 1 (num rows o 1)) (given (key_is rows p j) (booking rows j)) []
        go true g = ap (keep (of_piece (booking rows k))) (assignment_row rows j g) ∙ given_keep true (booking rows j) (of_piece (booking rows k)) ∙ ap (λ b. given b (booking rows j)) (inside g)
            ∙ split (is rows j 1 (num rows o 1)) (key_is rows p j) ∙ ap (λ b. cond (b && is rows j 1 (num rows o 1)) (given (key_is rows p j) (booking rows j)) []) (sym g)
        go false g = ap (keep (of_piece (booking rows k))) (assignment_none rows j g) ∙ (unfold keep in ap (λ b. cond (b && is rows j 1 (num rows o 1)) (given (key_is rows p j) (booking rows j)) []) (sym g))

    same_assigned : (k : ℕ) → k < row_count rows → owned_by rows o 23 k ≡ true → key_at rows k ≡ p → assigned_with (sheet rows) (booking rows k) ≡ assigned
    unfolding assigned_with assignments assignments_below
    same_assigned k m e f =
        ap resources_of (keep_collect (of_piece (booking rows k)) (assignment_at (sheet rows)) (row_count rows) ∙ collect_ext _ _ (row_count rows) (λ j n. with_at k j m n e f))
        ∙ assigned_are

    held_is : (k : ℕ) → k < row_count rows → owned_by rows o 23 k ≡ true → key_at rows k ≡ p → held_among (sheet rows) assigned (num rows k 3) ≡ held_at rows k
    unfolding held_at is_held
    held_is k m e f =
        ap (λ y. held_among (sheet rows) y (num rows k 3)) (sym (same_assigned k m e f))
        ∙ sym (ap (any_of (is_held (sheet rows))) (assignment_row rows k (owned_kind rows o 23 k e)) ∙ given_any true (booking rows k) (is_held (sheet rows)))

    pub runs_on_lem : not_held (sheet rows) (resources_of (piece_at p)) ≡ runs_on_in rows o p
    unfolding not_held free_at free_in
    runs_on_lem =
        ap (λ y. keep (λ r. not (held_among (sheet rows) y r)) y) assigned_are
        ∙ keep_only (owned_by rows o 23) (λ k. given (key_is rows p k) (num rows k 3)) (row_count rows) (λ r. not (held_among (sheet rows) assigned r))
        ∙ only_same _ _ _ (row_count rows) (λ k m e. given_keep (key_is rows p k) (num rows k 3) (λ r. not (held_among (sheet rows) assigned r)) ∙ at k m e (key_is rows p k) refl)
      where
        at : (k : ℕ) → k < row_count rows → owned_by rows o 23 k ≡ true → (b : Bool) → key_is rows p k ≡ b
            → given (key_is rows p k && not (held_among (sheet rows) assigned (num rows k 3))) (num rows k 3) ≡ given (key_is rows p k && not (held_at rows k)) (num rows k 3)
        at k m e true f = ap (λ b. given (key_is rows p k && not b) (num rows k 3)) (held_is k m e (eqb-true (key_at rows k) p (unfold key_is in f)))
        at k m e false f = ap (λ b. given (b && not (held_among (sheet rows) assigned (num rows k 3))) (num rows k 3)) f ∙ sym (ap (λ b. given (b && not (held_at rows k)) (num rows k 3)) f)

    -- ---- simultaneous

    abbrev apart_from : Assignment ℤ → Assignment ℤ → Bool
    apart_from x a = not (same_time clock a.start x.start) || not (same_time clock a.end x.end)

    from_first : (m : List (Assignment ℤ)) → not_simultaneous clock (sheet rows) m ≡ option (head m) false (λ x. any_of (apart_from x) m)
    unfolding not_simultaneous
    from_first [] = refl
    from_first (x ∷ m) = refl

    first_is : head (piece_at p) ≡ option (first_place (both (owned_by rows o 23) (key_is rows p)) (row_count rows)) None (λ j. Some (booking rows j))
    unfolding both only
    first_is =
        head_collect (only (owned_by rows o 23) (λ k. given (key_is rows p k) (booking rows k))) (row_count rows)
        ∙ first_same _ _ (row_count rows) (λ k. at k (owned_by rows o 23 k) (key_is rows p k))
        ∙ first_placed (both (owned_by rows o 23) (key_is rows p)) (booking rows) (row_count rows)
      where
        at : (k : ℕ) (a b : Bool) → head (cond a (given b (booking rows k)) []) ≡ some_if (a && b) (booking rows k)
        at k true true = refl
        at k true false = refl
        at k false b = refl

    differ_is : (j : ℕ) → any_of (apart_from (booking rows j)) (piece_at p) ≡ any_below (both (owned_by rows o 23) (differs_in rows p j)) (row_count rows)
    unfolding differs_in differs is
    differ_is j =
        any_only (owned_by rows o 23) (λ k. given (key_is rows p k) (booking rows k)) (row_count rows) (apart_from (booking rows j))
        ∙ both_same _ _ _ (row_count rows) (λ k m e. given_any (key_is rows p k) (booking rows k) (apart_from (booking rows j))
        ∙ ap₂ (λ a b. key_is rows p k && (not a || not b)) (neither_below (num rows k 4) (num rows j 4)) (neither_below (num rows k 5) (num rows j 5)))

    pub apart_is : not_simultaneous clock (sheet rows) (piece_at p) ≡ apart rows o p
    unfolding apart
    apart_is = from_first (piece_at p) ∙ ap (λ y. option y false (λ x. any_of (apart_from x) (piece_at p))) first_is ∙ go (first_place (both (owned_by rows o 23) (key_is rows p)) (row_count rows))
      where
        go : (y : Option ℕ) → option (option y None (λ j. Some (booking rows j))) false (λ x. any_of (apart_from x) (piece_at p))
            ≡ option y false (λ j. any_below (both (owned_by rows o 23) (differs_in rows p j)) (row_count rows))
        go None = refl
        go (Some j) = differ_is j
