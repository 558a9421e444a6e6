-- scheduler/feasibility.rs: `piece_key`, `companions_among`, and what a piece runs on.
use Rattle.std.specs.Prelude.{ℕ, Bool, true, false, not, ◌&&◌, List, map, eqb, ℤ}
use Rattle.std.specs.Prelude.{Option, None, Some}
use Rattle.std.specs.Int.Signed.{lt_z}
use Rattle.loops.specs.Lists.{keep, any_of, among, option}
use Rattle.model.specs.Sheet.{Sheet}
use Rattle.model.specs.Resource.{companions}
use Rattle.model.specs.Schedule.{Part, Assignment, assignments}

-- the part's index, none of the activity whole
abbrev pub index_of : Option Part → Option ℤ
index_of p = option p None (λ x. Some x.index)

-- the order of part indices: none comes first
abbrev pub before_index : Option ℤ → Option ℤ → Bool
before_index x None = false
before_index None (Some j) = true
before_index (Some i) (Some j) = lt_z i j

abbrev pub same_index : Option ℤ → Option ℤ → Bool
same_index x y = not (before_index x y) && not (before_index y x)

module _ {T : Type 0} where
  -- `piece_key`: the same activity and the same part index
  abbrev pub of_piece : Assignment T → Assignment T → Bool
  of_piece a x = eqb x.activity a.activity && same_index (index_of x.part) (index_of a.part)

  abbrev pub resources_of : List (Assignment T) → List ℕ
  resources_of l = map (λ a. a.resource) l

module _ {T : Type 0} (s : Sheet T) where
  -- `companions_among`: r is held only as a companion of another of those assigned
  unfoldable pub held_among : List ℕ → ℕ → Bool
  held_among assigned r = any_of (λ p. not (eqb p r) && among r (companions s p)) assigned

  -- those that are not held, in booking order
  unfoldable pub not_held : List ℕ → List ℕ
  not_held assigned = keep (λ r. not (held_among assigned r)) assigned

  -- the resources of all bookings of a's piece
  unfoldable pub assigned_with : Assignment T → List ℕ
  assigned_with a = resources_of (keep (of_piece a) (assignments s))

  -- `held[&key].contains(a.resource_id)`
  unfoldable pub is_held : Assignment T → Bool
  is_held a = held_among (assigned_with a) a.resource

  -- what the piece runs on
  unfoldable pub runs_on : Assignment T → List ℕ
  runs_on a = not_held (assigned_with a)
