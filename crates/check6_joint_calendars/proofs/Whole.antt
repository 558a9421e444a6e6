-- The calendars that are laid out work together when those of the definition do. Assumes nothing.
use Prim.Native.Nat.{ℕ, ◌<◌}
use mathlib.Core.Path.{◌≡◌, refl, ap, sym, subst, ◌∙◌}
use mathlib.Core.Bool.{Bool, true, false, not, ◌&&◌, and-true, or-false}
use mathlib.Core.List.{List, [], ◌∷◌, ◌++◌}
use mathlib.Core.Logic.{inl, inr}
use Rattle.std.specs.Prelude.{Some}
use lib.IntN.{ℤ}
use Rattle.loops.specs.Lists.{given, any_of, all_of}
use Rattle.loops.specs.Range.{collect}
use Rattle.loops.specs.Search.{any_below, count_below}
use Rattle.loops.proofs.ListLaws.{any_collect, all_append}
use Rattle.loops.proofs.RangeLaws.{collect_ext}
use Rattle.loops.proofs.PlaceLaws.{any_same}
use Rattle.lent_room.specs.declared.lent_list.LentList.{LentList}
use Rattle.lent_room.specs.Listed.{Room}
use Rattle.calendar.specs.declared.Places.{Places}
use Rattle.calendar.specs.declared.TimeWindow.{TimeWindow}
use Rattle.calendar.specs.Clock.{clock}
use Rattle.calendar.specs.Calendar.{Calendar, is_working_time, joint_working}
use Rattle.rows.specs.Cells.{row_count, num, is}
use Rattle.sheet.specs.inner.Accepted.{Accepted}
use Rattle.sheet.specs.Places.{place_of}
use Rattle.owners.specs.inner.Owners.{owned_by}
use Rattle.model.specs.Sheet.{sheet}
use Rattle.model.specs.Resource.{windows}
use Rattle.model.specs.inner.Records.{activity_of, assignment_of}
use Rattle.model.proofs.Finds.{found_self}
use Rattle.definition.specs.CheckCalendars.{piece_calendars}
use Rattle.window_rows.specs.inner.Laid.{Holder}
use Rattle.check6_joint_calendars.specs.inner.Laid.{taken_at, laid_calendars, LaidOut}
use Rattle.check6_joint_calendars.specs.inner.Taken.{taken, Marked}
use Rattle.check6_joint_calendars.specs.inner.Laying.{Added, calendar_at, Resources}
use Rattle.check6_joint_calendars.proofs.Joint.{all_any, joint_is}
use Rattle.check6_joint_calendars.proofs.Gathering.{out_more}
use Rattle.check6_joint_calendars.proofs.Marking.{marked_is}
use Rattle.check6_joint_calendars.proofs.Once.{taken_rests, once_each}

-- what a lookup finds holds its windows
pub activity_holder : (rows : List ℤ) (id : ℕ) {a : ℕ} → place_of rows 2 id ≡ Some a → Holder rows a 16
activity_holder rows id {a} q = inl (refl, found_self rows 2 id a q)

pub resource_holder : (rows : List ℤ) (id : ℕ) {o : ℕ} → place_of rows 11 id ≡ Some o → Holder rows o 15
resource_holder rows id {o} q = inr (refl, found_self rows 11 id o q)

module _ (rows : List ℤ) (acc : Accepted rows) (k : ℕ) (l : k < row_count rows) (h : is rows k 0 23 ≡ true) (t : ℤ) where
  given_rests : (b : Bool) (x : Calendar ℤ) → any_of (λ c. not (is_working_time clock c t)) (given b x) ≡ (b && not (is_working_time clock x t))
  unfolding any_of
  given_rests true x = or-false _
  given_rests false x = refl

  -- the calendars of the resources work at t if no resource that is taken is at rest
  resources_work : all_of (λ c. is_working_time clock c t) (collect (taken_at rows k) (row_count rows)) ≡ not (any_below (taken_rests rows acc k l h t) (row_count rows))
  unfolding taken_rests
  resources_work =
      all_any (λ c. is_working_time clock c t) (collect (taken_at rows k) (row_count rows))
      ∙ ap not
      (any_collect (λ c. not (is_working_time clock c t)) (taken_at rows k) (row_count rows)
      ∙ any_same _ _ (row_count rows) (λ r b. given_rests (taken rows k r) (windows (sheet rows) 15 (num rows r 1))))

  one_more_lem : (d : List (Calendar ℤ)) (x : Calendar ℤ) → joint_working clock (d ++ (x ∷ [])) t ≡ (all_of (λ c. is_working_time clock c t) d && is_working_time clock x t)
  unfolding joint_working all_of
  one_more_lem d x = all_append (λ c. is_working_time clock c t) d (x ∷ []) ∙ ap (λ y. all_of (λ c. is_working_time clock c t) d && y) (and-true (is_working_time clock x t))

  -- the calendars that are laid out work together when those of the definition do
  pub joint_laid : (a : ℕ) (c : List (Calendar ℤ)) → c ≡ laid_calendars rows k a
      → joint_working clock c t ≡ joint_working clock (piece_calendars clock (sheet rows) (assignment_of rows k) (activity_of rows a)) t
  joint_laid a c e =
      ap (λ y. joint_working clock y t) e
      ∙ one_more_lem (collect (taken_at rows k) (row_count rows)) (windows (sheet rows) 16 (num rows a 1))
      ∙ ap (λ y. y && is_working_time clock (windows (sheet rows) 16 (num rows a 1)) t) (resources_work ∙ ap not (once_each rows acc k l h t))
      ∙ sym (joint_is rows acc k l h t a)

marks_taken : (rows : List ℤ) (k : ℕ) {marks : List Bool} → Marked rows k (row_count rows) marks → collect (calendar_at rows marks) (row_count rows) ≡ collect (taken_at rows k) (row_count rows)
unfolding calendar_at
marks_taken rows k m = collect_ext _ _ (row_count rows) (λ r b. ap (λ y. given y (windows (sheet rows) 15 (num rows r 1))) (marked_is rows k m r b))

-- what is promised of the calendars that are laid out
pub whole : (rows : List ℤ) (k a : ℕ) (w : Room TimeWindow) (p : Room Places) {marks : List Bool} (l l' : LentList TimeWindow 800) (q q' : LentList Places 800) → Marked rows k (row_count rows) marks
    → Resources rows marks (row_count rows) w p l q → Added (windows (sheet rows) 16 (num rows a 1)) (count_below (owned_by rows a 16) (row_count rows)) l l' q q'
    → LaidOut (laid_calendars rows k a) w p l' q'
whole rows k a w p l l' q q' m r s =
    subst (λ c. LaidOut (c ++ windows (sheet rows) 16 (num rows a 1) ∷ []) w p l' q') (marks_taken rows k m) (out_more _ w p r.out s)
