-- The longest of moves, booking by booking. Assumes nothing.
use Prim.Native.Nat.{ℕ, zero, suc, ◌<◌, max}
use mathlib.Core.Path.{◌≡◌, refl, sym, ap, ◌∙◌}
use mathlib.Core.Bool.{Bool, true, false, cond}
use mathlib.Core.List.{List, [], ◌∷◌, ◌++◌, map, foldl, foldl-append}
use native.Mathlib.Omega.{arith}
use lib.IntN.{ℤ}
use Rattle.loops.specs.Lists.{given, each}
use Rattle.loops.specs.Range.{fold, collect}
use Rattle.loops.specs.inner.Chain.{only}
use Rattle.loops.proofs.ListLaws.{map_collect, map_append}
use Rattle.loops.proofs.RangeLaws.{collect_ext}
use Rattle.chains.specs.Places.{places}
use Rattle.calendar.specs.Clock.{clock}
use Rattle.rows.specs.Cells.{row_count, num, is}
use Rattle.sheet.specs.inner.Accepted.{Accepted}
use Rattle.owners.specs.inner.Owners.{owned_by}
use Rattle.model.specs.Sheet.{Sheet, sheet}
use Rattle.model.specs.Resource.{transport_to, transport_between}
use Rattle.definition.specs.Pieces.{resources_of}
use Rattle.definition.specs.CheckPrecedence.{runs_on_all}
use Rattle.pieces.proofs.Companions.{booking}
use Rattle.model.proofs.Accepting.{activity_at_lem}
use Rattle.pieces.proofs.Bookings.{bookings_of}

longest_from : (c : ℕ) (l : List ℕ) → foldl max c l ≡ max c (foldl max 0 l)
longest_from c [] = omega arith
longest_from c (x ∷ l) =
    let p : foldl max (max c x) l ≡ max (max c x) (foldl max 0 l) = longest_from (max c x) l in
    let q : foldl max (max 0 x) l ≡ max (max 0 x) (foldl max 0 l) = longest_from (max 0 x) l in
    omega arith

longest_both : (l m : List ℕ) → foldl max 0 (l ++ m) ≡ max (foldl max 0 l) (foldl max 0 m)
longest_both l m = foldl-append max 0 l m ∙ longest_from (foldl max 0 l) m

module _ {T : Type 0} (s : Sheet T) where
  pub between_both : (l m w : List ℕ) → transport_between s l (m ++ w) ≡ max (transport_between s l m) (transport_between s l w)
  unfolding transport_between each
  between_both [] m w = refl
  between_both (a ∷ l) m w =
      let t : ℕ → ℕ = transport_to s a in
      let p : foldl max 0 (map t (m ++ w) ++ each (λ a. map (λ b. transport_to s a b) (m ++ w)) l)
      ≡ max (foldl max 0 (map t m ++ map t w)) (transport_between s l (m ++ w))
      = longest_both (map t (m ++ w)) (each (λ a. map (λ b. transport_to s a b) (m ++ w)) l) ∙ ap (λ z. max (foldl max 0 z) (transport_between s l (m ++ w))) (map_append t m w) in
      let q = longest_both (map t m) (map t w) in
      let u = between_both l m w in
      let v = longest_both (map t m) (each (λ a. map (λ b. transport_to s a b) m) l) in
      let x = longest_both (map t w) (each (λ a. map (λ b. transport_to s a b) w) l) in
      omega arith

  pub between_none : (l : List ℕ) → transport_between s l [] ≡ 0
  unfolding transport_between each
  between_none [] = refl
  between_none (a ∷ l) = between_none l

  -- of lists put together
  pub between_collect : (l : List ℕ) (g : ℕ → List ℕ) (n : ℕ) → transport_between s l (collect g n) ≡ fold (λ t k. max t (transport_between s l (g k))) 0 n
  unfolding collect fold
  between_collect l g zero = between_none l
  between_collect l g (suc n) = between_both l (collect g n) (g n) ∙ ap (λ z. max z (transport_between s l (g n))) (between_collect l g n)

  -- a resource more that work is moved to
  between_more : (m : List ℕ) (r : ℕ → ℕ) (l : List ℕ) (t : ℕ)
      → max t (transport_between s m (map r l)) ≡ foldl (λ t k. max t (transport_between s m (r k ∷ []))) t l
  between_more m r [] t = let e = between_none m in omega arith
  between_more m r (k ∷ l) t =
      let e = between_both m (r k ∷ []) (map r l) in
      let q : max t (transport_between s m (r k ∷ map r l)) ≡ max (max t (transport_between s m (r k ∷ []))) (transport_between s m (map r l)) = omega arith in
      q ∙ between_more m r l (max t (transport_between s m (r k ∷ [])))

  -- and one more that it is moved from
  between_from : (b : ℕ) (r : ℕ → ℕ) (l : List ℕ) (t : ℕ) → foldl max t (each (λ a. transport_to s a b ∷ []) (map r l)) ≡ foldl (λ t k. max t (transport_to s (r k) b)) t l
  unfolding each
  between_from b r [] t = refl
  between_from b r (k ∷ l) t = between_from b r l (max t (transport_to s (r k) b))

-- a booking more: a move from its resource to b, and one to its resource from one of m
abbrev pub from_step : List ℤ → ℕ → ℕ → ℕ → ℕ
from_step rows b t k = max t (transport_to (sheet rows) (num rows k 3) b)

abbrev pub to_step : List ℤ → List ℕ → ℕ → ℕ → ℕ
to_step rows m t k = max t (transport_between (sheet rows) m (num rows k 3 ∷ []))

module _ (rows : List ℤ) (acc : Accepted rows) (o : ℕ) (l : o < row_count rows) (h : is rows o 0 2 ≡ true) where
  -- what an activity runs on, booking by booking
  pub runs_on_lem : runs_on_all clock (sheet rows) (num rows o 1) ≡ map (λ k. num rows k 3) (places (owned_by rows o 23) (row_count rows))
  unfolding runs_on_all only places
  runs_on_lem =
      ap resources_of (bookings_of rows o (activity_at_lem rows acc o l h))
      ∙ map_collect (λ a. a.resource) (only (owned_by rows o 23) (λ k. booking rows k ∷ [])) (row_count rows)
      ∙ collect_ext _ _ (row_count rows) (λ k m. one k (owned_by rows o 23 k))
      ∙ sym (map_collect (λ k. num rows k 3) (λ k. given (owned_by rows o 23 k) k) (row_count rows))
    where
      one : (k : ℕ) (b : Bool) → map (λ a. a.resource) (cond b (booking rows k ∷ []) []) ≡ map (λ k. num rows k 3) (given b k)
      one k true = refl
      one k false = refl

  pub from_is : (b : ℕ) → foldl (from_step rows b) 0 (places (owned_by rows o 23) (row_count rows)) ≡ transport_between (sheet rows) (runs_on_all clock (sheet rows) (num rows o 1)) (b ∷ [])
  unfolding transport_between
  from_is b = rw runs_on_lem (sym (between_from (sheet rows) b (λ k. num rows k 3) (places (owned_by rows o 23) (row_count rows)) 0))

  pub to_is : (m : List ℕ) → foldl (to_step rows m) 0 (places (owned_by rows o 23) (row_count rows)) ≡ transport_between (sheet rows) m (runs_on_all clock (sheet rows) (num rows o 1))
  to_is m =
      let e = between_more (sheet rows) m (λ k. num rows k 3) (places (owned_by rows o 23) (row_count rows)) 0 in
      rw runs_on_lem (omega (arith, e))
