-- models/activity.rs. What is said of an activity in rows of their own (overlap, split, requirements, timings, predecessors, windows) is found by its id.
use Rattle.std.specs.Prelude.{ℕ, ◌+◌, Bool, cond, ◌&&◌, List, [], ◌∷◌, ◌++◌, map, eqb, ℤ}
use Rattle.std.specs.Prelude.{Option, None, Some}
use Rattle.std.specs.Float.{binary64}
use Rattle.std.specs.Float.Ieee.{of_bits}
use Rattle.loops.specs.Lists.{given, keep, head, count_of, each, option, among, is_empty}
use Rattle.loops.specs.Range.{collect}
use Rattle.resource_timing.specs.declared.ActivityDuration.{ActivityDuration}
use Rattle.resource_timing.specs.declared.ResourceTiming.{ResourceTiming}
use Rattle.resource_timing.specs.declared.ResourceTiming.TheVariants.{Speed, Duration}
use Rattle.resource_timing.specs.declared.Piece.{Piece}
use Rattle.resource_timing.specs.declared.Piece.TheVariants.{Whole, InPart}
use Rattle.resource_timing.specs.Durations.{part_of, piece_duration, piece_timing, timed_duration}
use Rattle.overlap.specs.declared.Overlap.{Overlap}
use Rattle.overlap.specs.Bounds.{overlap_of}
use Rattle.calendar.specs.Calendar.{Calendar}
use Rattle.model.specs.Sheet.{Cell, Sheet, as_int, as_num, as_flag, as_instant, is_kind, row_at, rows_of_kind, columns1, columns3, columns4, columns5, columns8}
use Rattle.model.specs.Resource.{Resource, listed, windows}
use Rattle.model.specs.Schedule.{Part, Assignment}

pub record Activity (T : Type 0) : Type 0 where
  pub id : ℕ
  pub task : ℕ
  pub sequence : ℤ
  pub duration : ActivityDuration
  pub resumable : Bool
  pub release : Option T

pub record Split : Type 0 where
  pub max_parts : ℤ
  pub min_part : ℕ
  pub overhead : ℕ

-- with the activity that it is of, and its place there
pub record ResourceRequirement : Type 0 where
  pub activity : ℕ
  pub type : ℕ
  pub quantity : ℤ
  pub usage : ℕ
  pub place : ℕ

abbrev pub duration_of : {T : Type 0} → Cell T → Cell T → Cell T → ActivityDuration
duration_of setup process teardown = record { setup_ms = as_num setup; process_ms = as_num process; teardown_ms = as_num teardown }

module _ {T : Type 0} (s : Sheet T) where
  unfoldable pub activity_at : ℕ → List (Activity T)
  activity_at = row_at s 2 λ k. columns8 s k λ id task sequence setup process teardown resumable release.
      record {
        id = as_num id;
        task = as_num task;
        sequence = as_int sequence;
        duration = duration_of setup process teardown;
        resumable = as_flag resumable;
        release = as_instant release;
      } ∷ []

  unfoldable pub activities : List (Activity T)
  activities = collect activity_at s.count

  -- `by_id`
  unfoldable pub find_activity : ℕ → Option (Activity T)
  find_activity x = head (keep (λ a. eqb a.id x) activities)

  -- `task.activities`
  unfoldable pub activities_of : ℕ → List (Activity T)
  activities_of t = keep (λ a. eqb a.task t) activities

  unfoldable pub overlap : ℕ → Option Overlap
  overlap a = head (rows_of_kind s 3 λ k. columns3 s k λ activity start_after lag. given (eqb (as_num activity) a) (overlap_of (as_num start_after) (as_int lag)))

  unfoldable pub split : ℕ → Option Split
  split a = head (rows_of_kind s 4 λ k. columns4 s k λ activity max_parts min_part overhead.
      given (eqb (as_num activity) a) (record { max_parts = as_int max_parts; min_part = as_num min_part; overhead = as_num overhead }))

  -- `resource_requirements`; a requirement's place is the number of those of its activity above it
  unfoldable pub requirement_at : ℕ → ℕ → List ResourceRequirement
  requirement_at a = row_at s 5 λ k. columns4 s k λ activity type quantity usage.
      given (eqb (as_num activity) a)
      (record {
        activity = a;
        type = as_num type;
        quantity = as_int quantity;
        usage = as_num usage;
        place = count_of (eqb a) (collect (row_at s 5 λ j. columns1 s j λ above. as_num above ∷ []) k);
      })

  unfoldable pub requirements : ℕ → List ResourceRequirement
  requirements a = collect (requirement_at a) s.count

  -- what rows of kind x name for a requirement: its candidates (6), its required skills (7)
  unfoldable pub named_for : ℕ → ResourceRequirement → List ℕ
  named_for x q = rows_of_kind s x λ k. columns3 s k λ activity place name.
      given (eqb (as_num activity) q.activity && eqb (as_num place) q.place) (as_num name)

  abbrev pub candidates : ResourceRequirement → List ℕ
  candidates q = named_for 6 q

  abbrev pub required_skills : ResourceRequirement → List ℕ
  required_skills q = named_for 7 q

  abbrev pub predecessors : ℕ → List ℕ
  predecessors a = listed s 8 a

  -- `activity.calendar`
  abbrev pub activity_calendar : ℕ → Calendar T
  activity_calendar a = windows s 16 a

  -- `is_candidate`
  unfoldable pub is_candidate : ResourceRequirement → Resource → Bool
  is_candidate q r = cond (is_empty (candidates q)) (eqb r.type q.type) (among r.id (candidates q))

  -- `usage_on`
  unfoldable pub usage_on : Activity T → Resource → ℕ
  usage_on a r = option (head (keep (λ q. is_candidate q r) (requirements a.id))) 1 (λ q. q.usage)

  -- `resource_timings.get`: a speed or a fixed duration
  unfoldable pub timing_at : ℕ → ℕ → ℕ → List ResourceTiming
  timing_at a r k =
      (columns3 s k λ activity resource speed.
      given (is_kind s 9 k && (eqb (as_num activity) a && eqb (as_num resource) r)) (Speed (of_bits binary64 (as_num speed))))
      ++ columns5 s k λ activity resource setup process teardown.
      given (is_kind s 10 k && (eqb (as_num activity) a && eqb (as_num resource) r)) (Duration (duration_of setup process teardown))

  unfoldable pub timing : ℕ → ℕ → Option ResourceTiming
  timing a r = head (collect (timing_at a r) s.count)

  -- `piece_of`: the activity whole, or the part where it is split
  unfoldable pub piece_of : Activity T → Option Part → Piece
  piece_of a None = Whole
  piece_of a (Some p) =
      option (split a.id) Whole (λ x. InPart (part_of p.index p.work a.duration.process_ms x.overhead))

  -- `duration_on` of the piece; none where the time is not finite, which an accepted sheet has nowhere
  unfoldable pub duration_on : Activity T → Option Part → List ℕ → Option ActivityDuration
  duration_on a p resources =
      timed_duration (piece_duration (piece_of a p) a.duration)
      (map (piece_timing (piece_of a p)) (each (λ r. option (timing a.id r) [] (λ t. t ∷ [])) resources))

  -- what a booking needs on the resources that its piece runs on: its own setup, and the derived processing and teardown.
  -- (The 0 is no booking's: where the derived time is not finite, the sheet is refused by 6.)
  unfoldable pub needed_ms : Activity T → Assignment T → List ℕ → ℕ
  needed_ms a b resources = option (duration_on a b.part resources) 0 λ d. b.setup + d.process_ms + d.teardown_ms
