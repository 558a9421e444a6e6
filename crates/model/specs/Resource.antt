-- models/resource.rs. A resource's calendar is the list of its windows: none where it has no calendar, which comes to the same.
use Rattle.std.specs.Prelude.{ℕ, max, cond, ◌&&◌, eqb, ℤ}
use mathlib.Core.List.{List, [], ◌∷◌, map, foldl}
use Rattle.std.specs.Prelude.{Option}
use Rattle.loops.specs.Lists.{given, head, keep, each, option}
use Rattle.loops.specs.Range.{collect}
use Rattle.calendar.specs.Calendar.{Calendar, kind_of}
use Rattle.model.specs.Sheet.{Sheet, as_int, as_num, as_instant, with2, row_at, rows_of_kind, columns2, columns3, columns4}

pub record Resource : Type 0 where
  pub id : ℕ
  pub type : ℕ
  pub capacity : ℤ

module _ {T : Type 0} (s : Sheet T) where
  unfoldable pub resource_at : ℕ → List Resource
  resource_at = row_at s 11 λ k. columns3 s k λ id type capacity.
      record { id = as_num id; type = as_num type; capacity = as_int capacity } ∷ []

  unfoldable pub resources : List Resource
  resources = collect resource_at s.count

  -- `res_by_id`
  unfoldable pub find_resource : ℕ → Option Resource
  find_resource x = head (keep (λ r. eqb r.id x) resources)

  -- what rows of kind x name for an owner: a predecessor (8), a skill (12), a companion (13), a member (22)
  unfoldable pub listed : ℕ → ℕ → List ℕ
  listed x o = rows_of_kind s x λ k. columns2 s k λ owner name. given (eqb (as_num owner) o) (as_num name)

  abbrev pub skills : ℕ → List ℕ
  skills r = listed 12 r

  abbrev pub companions : ℕ → List ℕ
  companions r = listed 13 r

  -- the windows in rows of kind x that are an owner's
  unfoldable pub windows : ℕ → ℕ → Calendar T
  windows x o = rows_of_kind s x λ k. columns4 s k λ owner closed start end.
      cond (eqb (as_num owner) o) (with2 (as_instant start) (as_instant end) λ a e. record { kind = kind_of (as_num closed); start = a; end = e }) []

  -- `res.calendar`
  abbrev pub resource_calendar : ℕ → Calendar T
  resource_calendar r = windows 15 r

  -- `transport_to`
  unfoldable pub transport_to : ℕ → ℕ → ℕ
  transport_to r x =
      option (head (rows_of_kind s 14 λ k. columns3 s k λ from to ms. given (eqb (as_num from) r && eqb (as_num to) x) (as_num ms))) 0 (λ n. n)

  -- `transport_between`: a resource that is not in the sheet moves nothing (it has no rows of kind 14 either)
  unfoldable pub transport_between : List ℕ → List ℕ → ℕ
  transport_between l m = foldl max 0 (each (λ a. map (λ b. transport_to a b) m) l)
