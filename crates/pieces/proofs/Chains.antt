-- The rows that name two things stand in the chain of their owner; a walk along it finds the first. Assumes nothing.
use Prim.Native.Nat.{ℕ, ◌<◌}
use mathlib.Core.Path.{◌≡◌, refl, sym, ap, ap₂, ◌∙◌}
use mathlib.Core.Bool.{Bool, true, false, not, ◌&&◌, true≢false, and-false}
use Rattle.std.specs.Prelude.{Option, None, Some}
use mathlib.Core.List.{List}
use lib.Dec.{eqb}
use lib.IntN.{ℤ}
use borrow.Author.Tests.{eq-eqb, eqb-true}
use Rattle.loops.specs.Lists.{any_of}
use Rattle.loops.specs.inner.Chain.{Blind}
use Rattle.chains.specs.Places.{places}
use Rattle.chains.proofs.PlaceLaws.{any_blind}
use Rattle.loops.specs.Search.{any_below, first_place}
use Rattle.loops.proofs.BoolLaws.{and_left, and_right}
use Rattle.loops.proofs.SearchLaws.{any_none, any_hit, none_below}
use Rattle.loops.proofs.PlaceLaws.{found_at, place_none, none_before}
use Rattle.rows.specs.Cells.{row_count, num, is}
use Rattle.sheet.specs.Places.{named, place_of}
use Rattle.sheet.specs.Refusals.{is_absent, lacks}
use Rattle.sheet.specs.inner.Accepted.{Accepted}
use Rattle.sheet.specs.inner.Index.{or_end}
use Rattle.sheet.specs.inner.Found.{found_of}
use Rattle.sheet.specs.declared.Found.{Found}
use Rattle.sheet.specs.declared.Found.TheVariants.{At, Nothing}
use Rattle.sheet.proofs.Lookups.{is_num, found_some}
use Rattle.owners.specs.declared.Owner.TheVariants.{ActivityRow, ResourceRow}
use Rattle.owners.specs.inner.Owners.{owner_kind, own_place, owned_by}
use Rattle.model.proofs.Accepting.{has_owner}
use Rattle.model.proofs.OwnedLaws.{own_activity, own_resource, owned_at}
use Rattle.pieces.specs.inner.Bookings.{in_piece, same_booking, first_on, names, holds_for, key_at}

-- a test that holds of rows of an owner only
pub blind_if : (p q : ℕ → Bool) → ((k : ℕ) → q k ≡ true → p k ≡ true) → Blind p q
blind_if p q h = record { still = λ k e. go k e (q k) refl }
  where
    go : (k : ℕ) → p k ≡ false → (b : Bool) → q k ≡ b → q k ≡ false
    go k e true f = absurd (true≢false (sym (h k f) ∙ e))
    go k e false f = f

module _ (rows : List ℤ) where
  module _ (x a b i : ℕ) (h : names rows x a b i ≡ true) where
    pub names_kind : is rows i 0 x ≡ true
    unfolding names
    names_kind = and_left (is rows i 0 x) (is rows i 1 a && is rows i 2 b) h

    names_rest : (is rows i 1 a && is rows i 2 b) ≡ true
    unfolding names
    names_rest = and_right (is rows i 0 x) (is rows i 1 a && is rows i 2 b) h

    pub names_first : num rows i 1 ≡ a
    names_first = is_num rows i 1 a (and_left (is rows i 1 a) (is rows i 2 b) names_rest)

  -- the rows of kind x that name a thing of kind y in column 1 belong to its row
  pub names_blind : (x y o a b : ℕ) → ((i : ℕ) → is rows i 0 x ≡ true → own_place rows i ≡ or_end rows (place_of rows y (num rows i 1))) → Some o ≡ place_of rows y a → Blind (owned_by rows o x) (names rows x a b)
  names_blind x y o a b w p = blind_if _ _ λ i f.
      owned_at rows o x i (names_kind x a b i f)
      (w i (names_kind x a b i f) ∙ ap (λ z. or_end rows (place_of rows y z)) (names_first x a b i f) ∙ ap (or_end rows) (sym p) ∙ (unfold or_end in refl))

  -- the companions of a resource and the times from it, the timings of an activity
  module _ (o b : ℕ) {a a' : ℕ} {f : Found} (q : f ≡ At o) (p : found_of f ≡ place_of rows 11 a') (e : a ≡ a') where
    resource_blind : (x : ℕ) → owner_kind x ≡ Some ResourceRow → Blind (owned_by rows o x) (names rows x a b)
    resource_blind x k = rw e (names_blind x 11 o _ b (λ i h. own_resource rows x i k h) (sym (found_some q p)))

    pub companions_blind : Blind (owned_by rows o 13) (names rows 13 a b)
    companions_blind = resource_blind 13 (unfold owner_kind in refl)

    pub moves_blind : Blind (owned_by rows o 14) (names rows 14 a b)
    moves_blind = resource_blind 14 (unfold owner_kind in refl)

  pub timings_blind : (x o b : ℕ) {a a' : ℕ} {f : Found} → owner_kind x ≡ Some ActivityRow → a ≡ a' → f ≡ At o → found_of f ≡ place_of rows 2 a' → Blind (owned_by rows o x) (names rows x a b)
  timings_blind x o b k e q p = rw e (names_blind x 2 o _ b (λ i h. own_activity rows x i k h) (sym (found_some q p)))

  -- ---- the bookings of a piece
  module _ (k j : ℕ) (h : in_piece rows k j ≡ true) where
    pub piece_kind : is rows j 0 23 ≡ true
    unfolding in_piece
    piece_kind = and_left (is rows j 0 23) (is rows j 1 (num rows k 1) && eqb (key_at rows j) (key_at rows k)) h

    piece_rest : (is rows j 1 (num rows k 1) && eqb (key_at rows j) (key_at rows k)) ≡ true
    unfolding in_piece
    piece_rest = and_right (is rows j 0 23) (is rows j 1 (num rows k 1) && eqb (key_at rows j) (key_at rows k)) h

    pub piece_activity : num rows j 1 ≡ num rows k 1
    piece_activity = is_num rows j 1 (num rows k 1) (and_left (is rows j 1 (num rows k 1)) (eqb (key_at rows j) (key_at rows k)) piece_rest)

    pub piece_named : {a : ℕ} → a ≡ num rows k 1 → named rows 23 a j ≡ true
    unfolding named
    piece_named e = rw (piece_kind, e) (and_left (is rows j 1 (num rows k 1)) (eqb (key_at rows j) (key_at rows k)) piece_rest)

    pub piece_key : eqb (key_at rows j) (key_at rows k) ≡ true
    piece_key = and_right (is rows j 1 (num rows k 1)) (eqb (key_at rows j) (key_at rows k)) piece_rest

  pub piece_owned : (k o : ℕ) → is rows k 0 23 ≡ true → o ≡ own_place rows k → (j : ℕ) → in_piece rows k j ≡ true → owned_by rows o 23 j ≡ true
  piece_owned k o h p j f =
      owned_at rows o 23 j (piece_kind k j f)
      (own_activity rows 23 j (unfold owner_kind in refl) (piece_kind k j f)
      ∙ ap (λ z. or_end rows (place_of rows 2 z)) (piece_activity k j f)
      ∙ sym (own_activity rows 23 k (unfold owner_kind in refl) h)
      ∙ sym p)

  pub piece_booking : (k j : ℕ) {r : Bool} → r ≡ in_piece rows k j → r ≡ true → is rows j 0 23 ≡ true
  piece_booking k j e h = piece_kind k j (sym e ∙ h)

-- ---- a search along a chain

module _ (q : ℕ → Bool) where
  place_below : (n : ℕ) → any_below q n ≡ false → first_place q n ≡ None
  place_below n e = go (first_place q n) refl
    where
      go : (x : Option ℕ) → first_place q n ≡ x → first_place q n ≡ None
      go None f = f
      go (Some i) f = let g = found_at q n i f in absurd (true≢false (sym g.1 ∙ any_none q n i e g.0))

  pub place_never : (n : ℕ) → ((k : ℕ) → k < n → q k ≡ false) → first_place q n ≡ None
  place_never n h = place_below n (none_below q n h)

-- ---- rows that name an owner which is not in the sheet: there are none

module _ (rows : List ℤ) (acc : Accepted rows) where
  pub unnamed : (x y a b : ℕ) → ((i : ℕ) → i < row_count rows → is rows i 0 x ≡ true → is_absent (place_of rows y (num rows i 1)) ≡ false) → None ≡ place_of rows y a
      → (i : ℕ) → i < row_count rows → names rows x a b i ≡ false
  unnamed x y a b w p i m = go (names rows x a b i) refl
    where
      absent : (z : Option ℕ) → z ≡ None → is_absent z ≡ true
      absent z e = rw e

      go : (z : Bool) → names rows x a b i ≡ z → names rows x a b i ≡ false
      go true f =
          absurd (true≢false
          (sym (absent (place_of rows y (num rows i 1)) (ap (place_of rows y) (names_first rows x a b i f) ∙ sym p)) ∙ w i m (names_kind rows x a b i f)))
      go false f = f

  pub no_companions : (a b : ℕ) {f : Found} → f ≡ Nothing → found_of f ≡ place_of rows 11 a → false ≡ any_below (names rows 13 a b) (row_count rows)
  no_companions a b q p =
      sym (none_below (names rows 13 a b) (row_count rows) (unnamed 13 11 a b (λ i m g. unfold lacks in (has_owner rows acc i 13 1 m g)) (rw q at p)))

-- ---- the first booking of its piece on its resource holds what the others hold

module _ (rows : List ℤ) where
  module _ (k j : ℕ) (h : same_booking rows k j ≡ true) where
    pub same_in_piece : in_piece rows k j ≡ true
    unfolding same_booking
    same_in_piece = and_right (is rows j 3 (num rows k 3)) (in_piece rows k j) h

    pub same_resource : num rows j 3 ≡ num rows k 3
    unfolding same_booking
    same_resource = is_num rows j 3 (num rows k 3) (and_left (is rows j 3 (num rows k 3)) (in_piece rows k j) h)

  pub pieces_same : (k j : ℕ) → in_piece rows k j ≡ true → (i : ℕ) → in_piece rows j i ≡ in_piece rows k i
  unfolding in_piece
  pieces_same k j h i = rw (piece_activity rows k j (unfold in_piece in h), eqb-true (key_at rows j) (key_at rows k) (piece_key rows k j (unfold in_piece in h)))

  self : (j : ℕ) → is rows j 0 23 ≡ true → same_booking rows j j ≡ true
  unfolding same_booking in_piece is
  self j h = rw (h, eq-eqb (num rows j 3) (num rows j 3) refl, eq-eqb (num rows j 1) (num rows j 1) refl, eq-eqb (key_at rows j) (key_at rows j) refl)

  sames : (j i : ℕ) → same_booking rows j i ≡ true → (m : ℕ) → same_booking rows i m ≡ same_booking rows j m
  unfolding same_booking
  sames j i h m = ap₂ ◌&&◌ (ap (λ r. is rows m 3 r) (same_resource j i (unfold same_booking in h))) (pieces_same j i (same_in_piece j i (unfold same_booking in h)) m)

  leads : (j i n : ℕ) → first_place (same_booking rows j) n ≡ Some i → first_on rows i ≡ true
  unfolding first_on
  leads j i n e =
      let f = found_at (same_booking rows j) n i e in
      rw (piece_kind rows j i (same_in_piece j i f.1), none_below (same_booking rows i) i (λ m l. sames j i f.1 m ∙ none_before (same_booking rows j) n i e m l))

  holds_too : (k j i : ℕ) → same_booking rows j i ≡ true → holds_for rows k j ≡ true → holds_for rows k i ≡ true
  unfolding holds_for
  holds_too k j i h e =
      let p : in_piece rows k j ≡ true = and_left (in_piece rows k j) (not (is rows j 3 (num rows k 3)) && any_below (names rows 13 (num rows j 3) (num rows k 3)) (row_count rows)) e in
      let g : in_piece rows k i ≡ true = sym (pieces_same k j p i) ∙ same_in_piece j i h in
      let r : (not (is rows j 3 (num rows k 3)) && any_below (names rows 13 (num rows j 3) (num rows k 3)) (row_count rows)) ≡ true = and_right (in_piece rows k j) _ e in
      rw g (other (same_resource j i h) r)
    where
      other : num rows i 3 ≡ num rows j 3 → (not (is rows j 3 (num rows k 3)) && any_below (names rows 13 (num rows j 3) (num rows k 3)) (row_count rows)) ≡ true
          → (not (is rows i 3 (num rows k 3)) && any_below (names rows 13 (num rows i 3) (num rows k 3)) (row_count rows)) ≡ true
      other q r = unfold is in (rw q (unfold is in r))

  holds_piece : (k j : ℕ) → holds_for rows k j ≡ true → in_piece rows k j ≡ true
  unfolding holds_for
  holds_piece k j e = and_left (in_piece rows k j) _ e

  abbrev pub first_holds : ℕ → ℕ → Bool
  first_holds k j = first_on rows j && holds_for rows k j

  pub firsts_enough : (k : ℕ) → any_below (first_holds k) (row_count rows) ≡ any_below (holds_for rows k) (row_count rows)
  firsts_enough k = go (first_place (holds_for rows k) (row_count rows)) refl
    where
      go : (x : Option ℕ) → first_place (holds_for rows k) (row_count rows) ≡ x → any_below (first_holds k) (row_count rows) ≡ any_below (holds_for rows k) (row_count rows)
      go None e =
          none_below (first_holds k) (row_count rows) (λ j l. ap (λ b. first_on rows j && b) (place_none (holds_for rows k) (row_count rows) e j l) ∙ and-false (first_on rows j))
          ∙ sym (none_below (holds_for rows k) (row_count rows) (λ j l. place_none (holds_for rows k) (row_count rows) e j l))
      go (Some j) e = at (first_place (same_booking rows j) (row_count rows)) refl
        where
          f : (j < row_count rows) × (holds_for rows k j ≡ true)
          f = found_at (holds_for rows k) (row_count rows) j e

          booked : is rows j 0 23 ≡ true
          booked = piece_kind rows k j (holds_piece k j f.1)

          at : (x : Option ℕ) → first_place (same_booking rows j) (row_count rows) ≡ x → any_below (first_holds k) (row_count rows) ≡ any_below (holds_for rows k) (row_count rows)
          at None q = absurd (true≢false (sym (self j booked) ∙ place_none (same_booking rows j) (row_count rows) q j f.0))
          at (Some i) q =
              let g = found_at (same_booking rows j) (row_count rows) i q in
              sym (any_hit (first_holds k) i (row_count rows) (row_count rows) g.0 refl (ap₂ ◌&&◌ (leads j i (row_count rows) q) (holds_too k j i g.1 f.1)))
              ∙ any_hit (holds_for rows k) j (row_count rows) (row_count rows) f.0 refl f.1

  pub first_blind : (k : ℕ) {a : ℕ} → a ≡ num rows k 1 → Blind (named rows 23 a) (first_holds k)
  first_blind k e = blind_if _ _ λ j f. piece_named rows k j (holds_piece k j (and_right (first_on rows j) (holds_for rows k j) f)) e

  pub same_blind : (k : ℕ) {a : ℕ} → a ≡ num rows k 1 → Blind (named rows 23 a) (same_booking rows k)
  same_blind k e = blind_if _ _ λ j f. piece_named rows k j (same_in_piece k j f) e

  pub firsts_told : (k : ℕ) {a : ℕ} → a ≡ num rows k 1
      → any_of (first_holds k) (places (named rows 23 a) (row_count rows)) ≡ any_below (holds_for rows k) (row_count rows)
  firsts_told k e = any_blind (first_holds k) (row_count rows) (first_blind k e) ∙ firsts_enough k

-- a first booking is a booking
pub first_kind : (rows : List ℤ) (j : ℕ) → first_on rows j ≡ true → is rows j 0 23 ≡ true
unfolding first_on
first_kind rows j h = and_left (is rows j 0 23) (not (any_below (same_booking rows j) j)) h
