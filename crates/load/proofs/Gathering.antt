-- The bookings of a resource, gathered row by row. Assumes nothing.
use Prim.Native.Nat.{ℕ, ◌≤◌}
use mathlib.Core.Path.{◌≡◌, ap, ap₂, sym, ◌∙◌}
use mathlib.Core.Bool.{Bool, true, false}
use mathlib.Core.List.{List, [], ◌∷◌, ◌++◌, map, append-nil, append_assoc}
use Rattle.std.specs.Prelude.{None}
use lib.Dec.{eqb}
use lib.IntN.{ℤ}
use lib.ListN.{length}
use Rattle.std.proofs.lemmas.List.{length-map}
use Rattle.loops.specs.Lists.{given, each}
use Rattle.loops.specs.inner.Chain.{Silent}
use Rattle.loops.proofs.ListLaws.{each_collect, map_append}
use Rattle.lent_room.specs.Listed.{Room, past}
use Rattle.chains.specs.Places.{places}
use Rattle.chains.proofs.PlaceLaws.{each_places}
use Rattle.rows.specs.Cells.{row_count, num, is}
use Rattle.sheet.specs.Places.{of_kind}
use Rattle.sheet.specs.Refusals.{refusal_of}
use Rattle.model.specs.Sheet.{sheet}
use Rattle.model.specs.Schedule.{assignment_at, assignments_below, assignments}
use Rattle.model.specs.inner.Records.{assignment_of}
use Rattle.model.proofs.RowLaws.{assignment_row, assignment_none}
use Rattle.model.proofs.Accepting.{accepted, at_most}
use Rattle.load.specs.Load as load
use Rattle.load.specs.Load.{booking_of, bookings_on}
use Rattle.load.specs.declared.booking.Booking.{Booking}
use Rattle.load.specs.inner.Gathering.{booking_on}
use Rattle.load.specs.inner.Lent.{meant}

pub booking_fits : (rows : List ℤ) (k : ℕ) → refusal_of rows ≡ None → is rows k 0 23 ≡ true → (num rows k 4 ≤ 4000000000000) × (num rows k 5 ≤ 4000000000000)
booking_fits rows k a h = (at_most rows (accepted rows a) k 23 4 h, at_most rows (accepted rows a) k 23 5 h)

-- so many are gathered
pub gathered_behind : (bs : List Booking) (room : Room Booking) {all : List (load.Booking ℤ)} {r : Room Booking} → map meant bs ≡ all → r ≡ past (length bs) room → r ≡ past (length all) room
gathered_behind bs room e h = h ∙ ap (λ n. past n room) (sym (length-map bs meant) ∙ ap length e)

module _ (rows : List ℤ) (x : ℕ) where
  booking_silent : Silent (of_kind rows 23) (booking_on rows x)
  unfolding of_kind booking_on each
  booking_silent = record { still = λ k h. rw (assignment_none rows k h) }

  all_gathered : each (booking_on rows x) (places (of_kind rows 23) (row_count rows)) ≡ bookings_on (sheet rows) x
  unfolding bookings_on booking_on assignments assignments_below
  all_gathered =
      each_places (of_kind rows 23) (booking_on rows x) (row_count rows) booking_silent
      ∙ sym (each_collect (λ a. given (eqb a.resource x) (booking_of (sheet rows) a)) (assignment_at (sheet rows)) (row_count rows))

  pub gathered_start : {l m : List ℕ} {bs : List Booking} → l ≡ m → m ≡ places (of_kind rows 23) (row_count rows) → bs ≡ [] → map meant bs ++ each (booking_on rows x) l ≡ bookings_on (sheet rows) x
  gathered_start e h q = ap₂ (λ y z. map meant y ++ each (booking_on rows x) z) q (e ∙ h) ∙ all_gathered

  pub gathered_end : {l : List ℕ} (bs : List Booking) {all : List (load.Booking ℤ)} → l ≡ [] → map meant bs ++ each (booking_on rows x) l ≡ all → map meant bs ≡ all
  unfolding each
  gathered_end bs e w = sym (append-nil (map meant bs)) ∙ ap (λ y. map meant bs ++ each (booking_on rows x) y) (sym e) ∙ w

  at_row : (k : ℕ) (r : Bool) → is rows k 0 23 ≡ true → r ≡ is rows k 3 x → booking_on rows x k ≡ given r (booking_of (sheet rows) (assignment_of rows k))
  unfolding booking_on each is
  at_row k r h e = rw (assignment_row rows k h, ← e) (append-nil (given r (booking_of (sheet rows) (assignment_of rows k))))

  module _ (k : ℕ) {l l' : List ℕ} (e : l ≡ k ∷ l') (h : is rows k 0 23 ≡ true) (bs : List Booking) {all : List (load.Booking ℤ)}
      (w : map meant bs ++ each (booking_on rows x) l ≡ all) where
    opened : {r : Bool} → r ≡ is rows k 3 x → map meant bs ++ (given r (booking_of (sheet rows) (assignment_of rows k)) ++ each (booking_on rows x) l') ≡ all
    unfolding each
    opened {r} f = ap (λ y. map meant bs ++ (y ++ each (booking_on rows x) l')) (sym (at_row k r h f)) ∙ ap (λ y. map meant bs ++ each (booking_on rows x) y) (sym e) ∙ w

    pub gathered_more : (b : Booking) {bs' : List Booking} → true ≡ is rows k 3 x → meant b ≡ booking_of (sheet rows) (assignment_of rows k) → bs' ≡ bs ++ b ∷ []
        → map meant bs' ++ each (booking_on rows x) l' ≡ all
    gathered_more b {bs'} f m q =
        ap (λ y. map meant y ++ each (booking_on rows x) l') q
        ∙ ap (λ y. y ++ each (booking_on rows x) l') (map_append meant bs (b ∷ []) ∙ ap (λ y. map meant bs ++ y ∷ []) m)
        ∙ append_assoc (map meant bs) (booking_of (sheet rows) (assignment_of rows k) ∷ []) (each (booking_on rows x) l')
        ∙ opened f

    pub gathered_same : false ≡ is rows k 3 x → map meant bs ++ each (booking_on rows x) l' ≡ all
    gathered_same f = opened f
