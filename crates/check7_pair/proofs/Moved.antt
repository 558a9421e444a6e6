-- The pieces of an activity run on what its bookings run on: the longest move to them is the same. Assumes nothing.
use Prim.Native.Nat.{ℕ, max}
use mathlib.Core.Path.{◌≡◌, refl, ◌∙◌}
use mathlib.Core.Bool.{Bool, true, false, cond}
use mathlib.Core.List.{List, [], ◌∷◌, map, foldl}
use Rattle.std.specs.Prelude.{Option, None, Some}
use native.Mathlib.Omega.{arith}
use lib.IntN.{ℤ}
use Rattle.loops.specs.Lists.{each, option}
use Rattle.loops.specs.Ordered.{Entry, entry, upsert, values}
use Rattle.calendar.specs.Clock.{Clock}
use Rattle.model.specs.Sheet.{Sheet}
use Rattle.model.specs.Resource.{transport_between}
use Rattle.model.specs.Schedule.{Assignment, assignments_for_activity_all}
use Rattle.definition.specs.Pieces.{index_of, before_index}
use Rattle.definition.specs.ActivitySpan.{Span, activity_span}
use Rattle.definition.specs.CheckPrecedence.{PlacedPiece, piece_with, runs_on_all, by_part, or_time_only, pieces_of}
use Rattle.check7_transport.proofs.Longest.{between_both, between_none}

module _ {T : Type 0} (K : Clock T) (s : Sheet T) (l : List ℕ) where
  -- the longest move to some pieces
  abbrev moves : List (PlacedPiece T) → ℕ
  moves ps = transport_between s l (each (λ p. p.to) ps)

  moves_first : (p : PlacedPiece T) (ps : List (PlacedPiece T)) → moves (p ∷ ps) ≡ max (transport_between s l p.to) (moves ps)
  unfolding each
  moves_first p ps = between_both s l p.to (each (λ p. p.to) ps)

  moves_none : moves [] ≡ 0
  unfolding each
  moves_none = between_none s l

  -- a booking more
  abbrev step : List (Entry (Option ℤ) (PlacedPiece T)) → Assignment T → List (Entry (Option ℤ) (PlacedPiece T))
  step m a = upsert before_index (index_of a.part) (record { start = a.start; to = [] }) (piece_with K a) m

  one_more_lem : (a : Assignment T) (m : List (Entry (Option ℤ) (PlacedPiece T)))
      → moves (values (step m a)) ≡ max (moves (values m)) (transport_between s l (a.resource ∷ []))
  unfolding upsert
  one_more_lem a [] =
      let x = moves_first (piece_with K a (record { start = a.start; to = [] })) [] in
      let y = moves_none in
      omega arith
  one_more_lem a (e ∷ m) = go (before_index (index_of a.part) e.key) (before_index e.key (index_of a.part)) (one_more_lem a m)
    where
      go : (b c : Bool) → moves (values (step m a)) ≡ max (moves (values m)) (transport_between s l (a.resource ∷ []))
          → moves (values (cond b (entry (index_of a.part) (piece_with K a (record { start = a.start; to = [] })) ∷ e ∷ m) (cond c (e ∷ step m a) (entry e.key (piece_with K a e.value) ∷ m))))
          ≡ max (moves (e.value ∷ values m)) (transport_between s l (a.resource ∷ []))
      go true c r =
          let x = moves_first (piece_with K a (record { start = a.start; to = [] })) (e.value ∷ values m) in
          omega arith
      go false true r =
          let x = moves_first e.value (values (step m a)) in
          let y = moves_first e.value (values m) in
          omega arith
      go false false r =
          let x = moves_first (piece_with K a e.value) (values m) in
          let y = moves_first e.value (values m) in
          let z = between_both s l e.value.to (a.resource ∷ []) in
          omega arith

  all_bookings : (b : List (Assignment T)) (m : List (Entry (Option ℤ) (PlacedPiece T)))
      → moves (values (foldl step m b)) ≡ max (moves (values m)) (transport_between s l (map (λ a. a.resource) b))
  all_bookings [] m = let x = between_none s l in omega arith
  all_bookings (a ∷ b) m =
      let x = all_bookings b (step m a) in
      let y = one_more_lem a m in
      let z = between_both s l (a.resource ∷ []) (map (λ a. a.resource) b) in
      omega arith

  -- time only: no move
  timed : (a : ℕ) (ps : List (PlacedPiece T)) → moves (or_time_only K s a ps) ≡ moves ps
  timed a [] = go (activity_span K s a)
    where
      go : (x : Option (Span T)) → moves (option x [] λ x. record { start = x.start; to = [] } ∷ []) ≡ moves []
      go None = refl
      go (Some x) = unfold each in refl
  timed a (p ∷ ps) = refl

  pub moved_is : (a : ℕ) → transport_between s l (each (λ p. p.to) (pieces_of K s a)) ≡ transport_between s l (runs_on_all K s a)
  unfolding pieces_of by_part runs_on_all
  moved_is a =
      timed a (values (by_part K s a))
      ∙ (let x = all_bookings (assignments_for_activity_all s a) [] in let y = moves_none in omega arith)
