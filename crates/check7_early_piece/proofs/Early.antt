-- A piece that starts before the work reaches it, booking by booking. Assumes nothing.
use Prim.Native.Nat.{ℕ, zero, suc, ◌<◌, ◌≤◌, max}
use mathlib.Core.Path.{◌≡◌, refl, sym, ap, ◌∙◌}
use mathlib.Core.Bool.{Bool, true, false, cond, ◌&&◌, true≢false, false≢true}
use mathlib.Core.List.{List, [], ◌∷◌, ◌++◌}
use Rattle.std.specs.Prelude.{Option, None, Some}
use native.Mathlib.Omega.{arith}
use native.Mathlib.Decide.{ℕ_discrete, dec_lt}
use lib.Dec.{ltb}
use lib.IntN.{ℤ, pos}
use borrow.Author.Tests.{lt-ltb, le-ltb}
use Rattle.loops.specs.Lists.{option}
use Rattle.loops.specs.Range.{fold}
use Rattle.loops.specs.inner.Chain.{only_at}
use Rattle.loops.specs.Ordered.{Entry, upsert}
use Rattle.loops.proofs.IntegerLaws.{signed_trans, signed_asym, signed_total}
use Rattle.loops.proofs.OrderedLaws.{Order, alike, none_some, lookup, sorted, sorted_upsert, lookup_upsert}
use Rattle.calendar.specs.Clock.{clock}
use Rattle.rows.specs.Cells.{num}
use Rattle.model.specs.Sheet.{sheet}
use Rattle.model.specs.Resource.{transport_between}
use Rattle.definition.specs.Pieces.{index_of, before_index}
use Rattle.definition.specs.CheckPrecedence.{PlacedPiece, piece_with}
use Rattle.pieces.proofs.Companions.{booking}
use Rattle.check7_transport.proofs.Longest.{between_both}

-- ---- the order of part indices

index_trans : (x y z : Option ℤ) → before_index x y ≡ true → before_index y z ≡ true → before_index x z ≡ true
index_trans x None z e f = absurd (false≢true e)
index_trans x (Some b) None e f = absurd (false≢true f)
index_trans None (Some b) (Some c) e f = refl
index_trans (Some a) (Some b) (Some c) e f = signed_trans a b c e f

index_asym : (x y : Option ℤ) → before_index x y ≡ true → before_index y x ≡ false
index_asym x None e = absurd (false≢true e)
index_asym None (Some b) e = refl
index_asym (Some a) (Some b) e = signed_asym a b e

index_total : (x y : Option ℤ) → before_index x y ≡ false → before_index y x ≡ false → x ≡ y
index_total None None e f = refl
index_total None (Some b) e f = absurd (true≢false e)
index_total (Some a) None e f = absurd (true≢false f)
index_total (Some a) (Some b) e f = ap Some (signed_total a b e f)

pub index_order : Order before_index
index_order = record { trans = index_trans; asym = index_asym; total = index_total }

-- ---- the least and the greatest of what the places below n have at which q holds

module _ (q : ℕ → Bool) (value : ℕ → ℕ) where
  pub record Lowest (n s : ℕ) : Type 0 where
    pub bound : (j : ℕ) → j < n → q j ≡ true → s ≤ value j
    pub place : ℕ
    pub below : place < n
    pub holds : q place ≡ true
    pub reached : value place ≤ s

  pub record Highest (n s : ℕ) : Type 0 where
    pub bound : (j : ℕ) → j < n → q j ≡ true → value j ≤ s
    pub place : ℕ
    pub below : place < n
    pub holds : q place ≡ true
    pub reached : s ≤ value place

  earlier : (n j : ℕ) → j < suc n → (j ≡ n → ⊥) → j < n
  earlier n j l d = omega arith

  module _ (R : ℕ → Type 0) (n : ℕ) (below : (j : ℕ) → j < n → q j ≡ true → R (value j)) where
    kept : q n ≡ false → (j : ℕ) → j < suc n → q j ≡ true → R (value j)
    kept h j l g = go (ℕ_discrete j n)
      where
        go : Dec (j ≡ n) → R (value j)
        go (yes z) = absurd (true≢false (sym g ∙ ap q z ∙ h))
        go (no z) = below j (earlier n j l z) g

    joined : R (value n) → (j : ℕ) → j < suc n → q j ≡ true → R (value j)
    joined h j l g = go (ℕ_discrete j n)
      where
        go : Dec (j ≡ n) → R (value j)
        go (yes z) = rw z h
        go (no z) = below j (earlier n j l z) g

  lowest_later : (n s : ℕ) → q n ≡ false → Lowest n s → Lowest (suc n) s
  lowest_later n s h a = record { bound = kept (λ v. s ≤ v) n a.bound h; place = a.place; below = let b = a.below in omega arith; holds = a.holds; reached = a.reached }

  lowest_one : (n : ℕ) → ((j : ℕ) → j < n → q j ≡ false) → q n ≡ true → Lowest (suc n) (value n)
  lowest_one n e h = record { bound = joined (λ v. value n ≤ v) n (λ j l g. absurd (true≢false (sym g ∙ e j l))) (omega arith); place = n; below = omega arith; holds = h; reached = omega arith }

  lowest_new : (n s : ℕ) → q n ≡ true → value n ≤ s → Lowest n s → Lowest (suc n) (value n)
  lowest_new n s h l a = record { bound = joined (λ v. value n ≤ v) n (λ j m g. let b = a.bound j m g in omega arith) (omega arith); place = n; below = omega arith; holds = h; reached = omega arith }

  lowest_same : (n s : ℕ) → s ≤ value n → Lowest n s → Lowest (suc n) s
  lowest_same n s l a = record { bound = joined (λ v. s ≤ v) n a.bound l; place = a.place; below = let b = a.below in omega arith; holds = a.holds; reached = a.reached }

  highest_later : (n s : ℕ) → q n ≡ false → Highest n s → Highest (suc n) s
  highest_later n s h a = record { bound = kept (λ v. v ≤ s) n a.bound h; place = a.place; below = let b = a.below in omega arith; holds = a.holds; reached = a.reached }

  highest_one : (n : ℕ) → ((j : ℕ) → j < n → q j ≡ false) → q n ≡ true → Highest (suc n) (value n)
  highest_one n e h = record { bound = joined (λ v. v ≤ value n) n (λ j l g. absurd (true≢false (sym g ∙ e j l))) (omega arith); place = n; below = omega arith; holds = h; reached = omega arith }

  highest_more : (n s : ℕ) → q n ≡ true → Highest n s → Highest (suc n) (max s (value n))
  highest_more n s h a = go (dec_lt s (value n))
    where
      go : Dec (s < value n) → Highest (suc n) (max s (value n))
      go (yes l) = record { bound = joined (λ v. v ≤ max s (value n)) n (λ j m g. let b = a.bound j m g in omega arith) (omega arith); place = n; below = omega arith; holds = h; reached = omega arith }
      go (no l) = record { bound = joined (λ v. v ≤ max s (value n)) n (λ j m g. let b = a.bound j m g in omega arith) (omega arith); place = a.place; below = let b = a.below in omega arith; holds = a.holds; reached = let b = a.reached in omega arith }

-- ---- the pieces of an activity, row by row; p holds of its bookings

module _ (rows : List ℤ) where
  abbrev pub index_at : ℕ → Option ℤ
  index_at k = index_of (booking rows k).part

  abbrev pub start_at : ℕ → PlacedPiece ℤ
  start_at k = record { start = pos (num rows k 4); to = [] }

  abbrev pub map_step : List (Entry (Option ℤ) (PlacedPiece ℤ)) → ℕ → List (Entry (Option ℤ) (PlacedPiece ℤ))
  map_step m k = upsert before_index (index_at k) (start_at k) (piece_with clock (booking rows k)) m

module _ (rows : List ℤ) (p : ℕ → Bool) where
  -- the map of the first n rows
  unfoldable pub map_to : ℕ → List (Entry (Option ℤ) (PlacedPiece ℤ))
  map_to n = fold (only_at p (map_step rows)) [] n

  pub map_sorted : (n : ℕ) → sorted before_index (map_to n) ≡ true
  unfolding map_to fold only_at sorted
  map_sorted zero = refl
  map_sorted (suc n) = go (p n) (map_sorted n)
    where
      go : (b : Bool) → sorted before_index (map_to n) ≡ true → sorted before_index (cond b (map_step rows (map_to n) n) (map_to n)) ≡ true
      go true h = sorted_upsert before_index index_order (index_at rows n) (start_at rows n) (piece_with clock (booking rows n)) (map_to n) h
      go false h = h

  module _ (x : Option ℤ) where
    -- booking k is of the piece of index x
    abbrev pub in_part : ℕ → Bool
    in_part k = p k && alike before_index x (index_at rows k)

    -- the piece in the first n rows
    pub piece_to : ℕ → Option (PlacedPiece ℤ)
    piece_to zero = None
    piece_to (suc n) = cond (in_part n) (Some (piece_with clock (booking rows n) (option (piece_to n) (start_at rows n) (λ v. v)))) (piece_to n)

    pub map_piece : (n : ℕ) → lookup before_index x (map_to n) ≡ piece_to n
    unfolding map_to fold only_at piece_to lookup
    map_piece zero = refl
    map_piece (suc n) = go (p n) (map_piece n)
      where
        go : (b : Bool) → lookup before_index x (map_to n) ≡ piece_to n
            → lookup before_index x (cond b (map_step rows (map_to n) n) (map_to n))
            ≡ cond (b && alike before_index x (index_at rows n)) (Some (piece_with clock (booking rows n) (option (piece_to n) (start_at rows n) (λ v. v)))) (piece_to n)
        go true h = lookup_upsert before_index index_order (index_at rows n) (start_at rows n) (piece_with clock (booking rows n)) x (map_to n) ∙ ap (λ o. cond (alike before_index x (index_at rows n)) (Some (piece_with clock (booking rows n) (option o (start_at rows n) (λ v. v)))) o) h
        go false h = h

    pub no_piece : (n : ℕ) → piece_to n ≡ None → (j : ℕ) → j < n → in_part j ≡ false
    unfolding piece_to
    no_piece zero e j l = absurd (omega arith)
    no_piece (suc n) e j l = go (in_part n) refl e (no_piece n) (ℕ_discrete j n)
      where
        go : (b : Bool) → in_part n ≡ b → cond b (Some (piece_with clock (booking rows n) (option (piece_to n) (start_at rows n) (λ v. v)))) (piece_to n) ≡ None
            → (piece_to n ≡ None → (j : ℕ) → j < n → in_part j ≡ false) → Dec (j ≡ n) → in_part j ≡ false
        go true q f r d = absurd (none_some (sym f))
        go false q f r (yes z) = ap in_part z ∙ q
        go false q f r (no z) = r f j (omega arith)

    module _ (l : List ℕ) where
      -- the longest move to the resource of booking k
      abbrev pub moved : ℕ → ℕ
      moved k = transport_between (sheet rows) l (num rows k 3 ∷ [])

      -- when a piece starts, and how long the move to it is
      pub record PieceIs (n : ℕ) (v : PlacedPiece ℤ) : Type 0 where
        pub begins : ℕ
        pub start_is : v.start ≡ pos begins
        pub starts : Lowest in_part (λ j. num rows j 4) n begins
        pub moves : Highest in_part moved n (transport_between (sheet rows) l v.to)

      alone : (n : ℕ) → ((j : ℕ) → j < n → in_part j ≡ false) → in_part n ≡ true → PieceIs (suc n) (piece_with clock (booking rows n) (start_at rows n))
      alone n e h = record {
        begins = num rows n 4;
        start_is = one (ltb (num rows n 4) (num rows n 4)) (pos (num rows n 4));
        starts = lowest_one in_part (λ j. num rows j 4) n e h;
        moves = highest_one in_part moved n e h;
      }
        where
          one : (b : Bool) (x : ℤ) → cond b x x ≡ x
          one true x = refl
          one false x = refl

      more : (n : ℕ) (w : PlacedPiece ℤ) → in_part n ≡ true → PieceIs n w → PieceIs (suc n) (piece_with clock (booking rows n) w)
      more n w h a = go (dec_lt (num rows n 4) a.begins)
        where
          to_is : Highest in_part moved (suc n) (transport_between (sheet rows) l (w.to ++ num rows n 3 ∷ []))
          to_is = rw (between_both (sheet rows) l w.to (num rows n 3 ∷ [])) (highest_more in_part moved n (transport_between (sheet rows) l w.to) h a.moves)

          go : Dec (num rows n 4 < a.begins) → PieceIs (suc n) (piece_with clock (booking rows n) w)
          go (yes m) = record {
            begins = num rows n 4;
            start_is = rw (a.start_is, lt-ltb (num rows n 4) a.begins m);
            starts = lowest_new in_part (λ j. num rows j 4) n a.begins h (omega arith) a.starts;
            moves = to_is;
          }
          go (no m) = record {
            begins = a.begins;
            start_is = rw (a.start_is, le-ltb (num rows n 4) a.begins (omega arith));
            starts = lowest_same in_part (λ j. num rows j 4) n a.begins (omega arith) a.starts;
            moves = to_is;
          }

      pub piece_is : (n : ℕ) (v : PlacedPiece ℤ) → piece_to n ≡ Some v → PieceIs n v
      unfolding piece_to
      piece_is zero v e = absurd (none_some e)
      piece_is (suc n) v e = go (in_part n) refl (piece_to n) refl e (piece_is n)
        where
          some_is : {x y : PlacedPiece ℤ} → ◌≡◌ {A = Option (PlacedPiece ℤ)} (Some x) (Some y) → x ≡ y
          some_is q = cc

          go : (b : Bool) → in_part n ≡ b → (o : Option (PlacedPiece ℤ)) → piece_to n ≡ o
              → cond b (Some (piece_with clock (booking rows n) (option o (start_at rows n) (λ v. v)))) o ≡ Some v
              → ((w : PlacedPiece ℤ) → piece_to n ≡ Some w → PieceIs n w) → PieceIs (suc n) v
          go true h None f q r = rw (← some_is q) (alone n (no_piece n f) h)
          go true h (Some w) f q r = rw (← some_is q) (more n w h (r w f))
          go false h o f q r = let a = r v (f ∙ q) in record {
            begins = a.begins;
            start_is = a.start_is;
            starts = lowest_later in_part (λ j. num rows j 4) n a.begins h a.starts;
            moves = highest_later in_part moved n (transport_between (sheet rows) l v.to) h a.moves;
          }
