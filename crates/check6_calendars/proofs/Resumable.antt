-- The findings of a booking that may pause. Assumes nothing.
use Prim.Native.Nat.{ℕ, suc, ◌+◌, ◌<◌, ◌≤◌}
use mathlib.Core.Path.{◌≡◌, refl, ap, ap₂, sym, ◌∙◌}
use mathlib.Core.Bool.{Bool, true, false, not, ◌&&◌, ◌||◌}
use mathlib.Core.List.{List}
use Rattle.std.specs.Prelude.{Option, None, Some}
use native.Mathlib.Omega.{arith}
use native.Mathlib.Numerals.{add-one}
use native.Mathlib.Decide.{ℕ_discrete}
use lib.Dec.{ltb}
use lib.IntN.{ℤ, pos}
use lib.ListN.{get_or, set, replicate}
use Rattle.loops.specs.Lists.{option}
use Rattle.loops.specs.inner.Chain.{First}
use Rattle.loops.proofs.Walks.{over}
use Rattle.calendar.specs.Clock.{clock}
use Rattle.calendar.specs.Calendar.{Calendar, joint_working}
use Rattle.calendar.specs.Amount.{joint_available_ms}
use Rattle.rows.specs.Cells.{row_count, num, is}
use Rattle.sheet.specs.Places.{of_kind, place_of}
use Rattle.sheet.specs.Refusals.{refusal_of}
use Rattle.model.specs.Sheet.{sheet}
use Rattle.model.specs.Activity.{needed_ms}
use Rattle.model.specs.inner.Records.{activity_of, assignment_of}
use Rattle.model.proofs.Accepting.{accepted}
use Rattle.definition.specs.Pieces.{runs_on}
use Rattle.definition.specs.CheckCalendars.{piece_calendars}
use Rattle.derived_times.specs.inner.Needs.{Needs}
use Rattle.derived_times.proofs.Refusing.{rest_needed}
use Rattle.check6_joint_calendars.specs.inner.Laid.{laid_calendars}
use Rattle.check6_joint_calendars.proofs.Whole.{joint_laid}
use Rattle.check6_joint_calendars.proofs.Joint.{available_same}
use Rattle.pieces.proofs.Marks.{Marking, marking_start, marking_turn}
use Rattle.check6_calendars.specs.inner.Lacking.{uncovered_at, lacks_time}

-- ---- whether working time covers work

abbrev uncovered : List (Calendar ℤ) → ℕ → ℕ → ℕ → Bool
uncovered cs a e n = not (joint_working clock cs (pos a)) || ltb (joint_available_ms clock cs (pos a) (pos e)) n

-- calendars that work at the same instants cover the same work
same_covered : (cs ds : List (Calendar ℤ)) {r : Bool} {a e n a' e' n' : ℕ} → ((t : ℤ) → joint_working clock cs t ≡ joint_working clock ds t)
    → a ≡ a' → e ≡ e' → n ≡ n' → r ≡ uncovered cs a e n → r ≡ uncovered ds a' e' n'
same_covered cs ds {a = a} {e = e} {n = n} h p q s u =
    u
    ∙ ap₂ (λ x y. not x || ltb y n) (h (pos a)) (available_same cs ds h (pos a) (pos e))
    ∙ ap₂ (λ x y. uncovered ds x y n) p q
    ∙ ap (uncovered ds _ _) s

pub laid_covered : (rows : List ℤ) (k a : ℕ) {cs : List (Calendar ℤ)} {r : Bool} {s e n n' : ℕ} → cs ≡ laid_calendars rows k a → refusal_of rows ≡ None
    → k < row_count rows → is rows k 0 23 ≡ true → s ≡ num rows k 4 → e ≡ num rows k 5 → n ≡ n' → r ≡ uncovered cs s e n
    → r ≡ uncovered (piece_calendars clock (sheet rows) (assignment_of rows k) (activity_of rows a)) (num rows k 4) (num rows k 5) n'
laid_covered rows k a {cs = cs} c ok l h p q m u = same_covered cs _ (λ t. joint_laid rows (accepted rows ok) k l h t a cs c) p q m u

-- ---- the finding

module _ (rows : List ℤ) (k : ℕ) where
  -- the test at a booking, by what the lookups of its resource and of its activity find
  lacks_by : is rows k 0 23 ≡ true → {r a : Option ℕ} → r ≡ place_of rows 11 (num rows k 3) → a ≡ place_of rows 2 (num rows k 1)
      → lacks_time rows k ≡ option r false (λ _. option a false (λ i. is rows i 7 1 && uncovered_at rows i k))
  unfolding lacks_time
  lacks_by h p q = rw (h, p, q)

  pub needed_is : (need : List ℕ) → Needs rows need → (a : ℕ) → k < row_count rows → is rows k 0 23 ≡ true → Some a ≡ place_of rows 2 (num rows k 1)
      → needed_ms (sheet rows) (activity_of rows a) (assignment_of rows k) (runs_on (sheet rows) (assignment_of rows k)) ≡ num rows k 6 + get_or need k 0
  needed_is need nd a l h q = sym (rest_needed rows nd k l a h (sym q))

-- ---- the marks

-- a row that is not marked
marking_miss : (f : ℕ → Bool) {k : ℕ} {t : List Bool} → f k ≡ false → Marking f k t → Marking f (k + 1) t
marking_miss f {k} {t} e h = record { size = h.size; at = λ j b. go j b (ℕ_discrete j k); rest = λ j b. h.rest j (omega arith) }
  where
    go : (j : ℕ) → j < k + 1 → Dec (j ≡ k) → get_or t j false ≡ f j
    go j b (yes z) = rw z (h.rest k (omega arith) ∙ sym e)
    go j b (no z) = h.at j (omega arith)

module _ (rows : List ℤ) where
  booking_alone : (k : ℕ) → of_kind rows 23 k ≡ false → lacks_time rows k ≡ false
  unfolding of_kind lacks_time
  booking_alone k e = rw e

  -- other rows are not marked
  passed : (t : List Bool) {i n j : ℕ} → First (of_kind rows 23) i n j → Marking (lacks_time rows) i t → Marking (lacks_time rows) j t
  passed t f = over (λ j. Marking (lacks_time rows) j t) (of_kind rows 23) _ _ _ (λ k e. marking_miss _ (booking_alone k e)) f

  pub lacking_first : {n j : ℕ} → First (of_kind rows 23) 0 n j → Marking (lacks_time rows) j (replicate 800 false)
  lacking_first f = passed _ f (marking_start _)

  pub lacking_next : (t : List Bool) {b : Bool} {k j : ℕ} → First (of_kind rows 23) (suc k) (row_count rows) j → k < row_count rows → row_count rows ≤ 800
      → b ≡ lacks_time rows k → Marking (lacks_time rows) k t → Marking (lacks_time rows) j (set t k b)
  lacking_next t f l s e h = passed _ f (rw add-one at (marking_turn rows (lacks_time rows) refl s t l e h))
