-- The rows of the resources of a piece are marked along the bookings of its activity. Assumes nothing.
use Rattle.model.proofs.OwnedLaws.{booking_owner}
use Prim.Native.Nat.{ℕ, suc, ◌+◌, ◌<◌, ◌≤◌}
use mathlib.Core.Path.{◌≡◌, refl, ap, sym, ◌∙◌}
use mathlib.Core.Bool.{Bool, true, false, ◌&&◌, ◌||◌, or-true, or-false}
use mathlib.Core.List.{List}
use Rattle.std.specs.Prelude.{Some}
use native.Mathlib.Omega.{arith}
use native.Mathlib.Decide.{ℕ_discrete}
use borrow.Author.Tests.{eq-eqb, ne_eqb}
use lib.IntN.{ℤ}
use lib.ListN.{get_or, set, replicate, length-set, length-replicate, get_or-replicate}
use lib.Seq.{get_or-set_same, get_or-set_other}
use Rattle.loops.specs.Search.{any_below}
use Rattle.loops.specs.inner.Chain.{First}
use Rattle.loops.proofs.Walks.{over}
use Rattle.rows.specs.Cells.{row_count, num, is}
use Rattle.sheet.specs.declared.Found.{Found}
use Rattle.sheet.specs.declared.Found.TheVariants.{At, Nothing}
use Rattle.sheet.specs.inner.Found.{found_of}
use Rattle.sheet.specs.Places.{place_of}
use Rattle.sheet.proofs.Lookups.{placed}
use Rattle.owners.specs.inner.Owners.{owned_by}
use Rattle.pieces.specs.inner.Bookings.{in_piece}
use Rattle.pieces.proofs.Chains.{blind_if, piece_owned}
use Rattle.check6_joint_calendars.specs.inner.Taken.{is_on, taken_below, marked, Marked, OnResources}
use Rattle.check6_joint_calendars.proofs.Once.{taken_place}

-- a row that was found
pub mark_low : (rows : List ℤ) (x id : ℕ) {f : Found} {r : ℕ} → found_of f ≡ place_of rows x id → f ≡ At r → row_count rows ≤ 800 → r < 800
mark_low rows x id e q b = let w = (placed rows x id _ (sym e ∙ ap found_of q)).within in omega (arith, w)

module _ (rows : List ℤ) (k : ℕ) where
  -- one row more
  below_more : (j r : ℕ) → taken_below rows k (suc j) r ≡ (taken_below rows k j r || (in_piece rows k j && is_on rows j r))
  unfolding taken_below any_below
  below_more j r = refl

  -- a row that is no booking of the piece
  mark_other : {j : ℕ} {marks : List Bool} → in_piece rows k j ≡ false → Marked rows k j marks → Marked rows k (suc j) marks
  mark_other {j} e g = record {
    size = g.size;
    at = λ r l. g.at r l ∙ same r;
    past = g.past;
  }
    where
      same : (r : ℕ) → taken_below rows k j r ≡ taken_below rows k (suc j) r
      same r = sym (below_more j r ∙ rw e (or-false (taken_below rows k j r)))

  pub mark_past : {j : ℕ} {b : Bool} {marks : List Bool} → b ≡ in_piece rows k j → b ≡ false → Marked rows k j marks → Marked rows k (suc j) marks
  mark_past e q g = mark_other (sym e ∙ q) g

  -- a booking on a resource that is not in the sheet
  pub mark_none : {j : ℕ} {f : Found} {marks : List Bool} → found_of f ≡ place_of rows 11 (num rows j 3) → f ≡ Nothing → Marked rows k j marks → Marked rows k (suc j) marks
  mark_none {j} {f} d z g = record { size = g.size; at = λ r m. g.at r m ∙ same r; past = g.past }
    where
      go : (b : Bool) (r : ℕ) → (taken_below rows k j r || (b && false)) ≡ taken_below rows k j r
      go true r = or-false _
      go false r = or-false _

      same : (r : ℕ) → taken_below rows k j r ≡ taken_below rows k (suc j) r
      same r = sym (below_more j r ∙ rw (← d, z) (go (in_piece rows k j) r))

  pub mark_more : {j s : ℕ} {f : Found} {y : Bool} {marks : List Bool} → Marked rows k j marks → y ≡ in_piece rows k j → y ≡ true → found_of f ≡ place_of rows 11 (num rows j 3)
      → f ≡ At s → row_count rows ≤ 800 → Marked rows k (suc j) (set marks s true)
  mark_more {j} {s} {f} {marks = marks} g t u d z b = record {
    size = length-set marks s true ∙ g.size;
    at = λ r m. go r m (ℕ_discrete r s);
    past = λ r m l. get_or-set_other marks s r true false (λ q. omega (arith, (placed rows 11 _ s (sym e)).within)) ∙ g.past r m l;
  }
    where
      p : in_piece rows k j ≡ true
      p = sym t ∙ u

      e : Some s ≡ place_of rows 11 (num rows j 3)
      e = sym (ap found_of z) ∙ d

      here : (r : ℕ) → r ≡ s → true ≡ taken_below rows k (suc j) r
      here r d = sym (below_more j r ∙ rw (p, ← e, eq-eqb s r (sym d)) (or-true (taken_below rows k j r)))

      elsewhere : (r : ℕ) → (r ≡ s → ⊥) → taken_below rows k j r ≡ taken_below rows k (suc j) r
      elsewhere r d = sym (below_more j r ∙ rw (p, ← e, ne_eqb s r (λ c. d (sym c))) (or-false (taken_below rows k j r)))

      go : (r : ℕ) → r < row_count rows → Dec (r ≡ s) → get_or (set marks s true) r false ≡ taken_below rows k (suc j) r
      go r m (yes d) =
          ap (λ i. get_or (set marks s true) i false) d
          ∙ get_or-set_same marks s true false (omega (arith, g.size, (placed rows 11 _ s (sym e)).within))
          ∙ here r d
      go r m (no d) =
          get_or-set_other marks s r true false d
          ∙ g.at r m
          ∙ elsewhere r d

  module _ (a : ℕ) (h : is rows k 0 23 ≡ true) (o : place_of rows 2 (num rows k 1) ≡ Some a) where
    still : (marks : List Bool) (j : ℕ) → owned_by rows a 23 j ≡ false → Marked rows k j marks → Marked rows k (j + 1) marks
    still marks j e g =
        let q : j + 1 ≡ suc j = omega arith in
        rw q (mark_other ((blind_if (owned_by rows a 23) (in_piece rows k) (piece_owned rows k a h (booking_owner rows k a h o))).still j e) g)

    pub mark_first : {n i : ℕ} → First (owned_by rows a 23) 0 n i → row_count rows ≤ 800 → Marked rows k i (replicate 800 false)
    mark_first f b =
        over (λ j. Marked rows k j (replicate 800 false)) (owned_by rows a 23) 0 _ _ (still (replicate 800 false)) f
        (record {
          size = length-replicate {A = Bool} 800 false;
          at = λ r l. get_or-replicate {A = Bool} 800 r false false (omega arith) ∙ (unfold taken_below any_below in refl);
          past = λ r m l. get_or-replicate {A = Bool} 800 r false false l;
        })

    pub mark_next : {n i j : ℕ} {marks : List Bool} → First (owned_by rows a 23) (suc i) n j → Marked rows k (suc i) marks → Marked rows k j marks
    mark_next {i = i} {marks = marks} f g = over (λ j. Marked rows k j marks) (owned_by rows a 23) (suc i) _ _ (still marks) f g

  -- the mark tells
  pub marked_is : {i : ℕ} {marks : List Bool} → Marked rows k i marks → (r : ℕ) → r < row_count rows → marked marks r ≡ taken_below rows k i r
  marked_is g r l = g.at r l

  -- what is marked is a resource
  pub on_resources : {marks : List Bool} → Marked rows k (row_count rows) marks → OnResources rows marks
  on_resources g = record {
    size = g.size;
    resource = λ r l e. taken_place rows k r (sym (marked_is g r l) ∙ e);
  }
