-- What was gathered of a booked resource; and what is told of each booked resource, row by row. Assumes nothing.
use Prim.Native.Nat.{ℕ}
use mathlib.Core.Path.{◌≡◌, refl, ap, sym, ◌∙◌}
use mathlib.Core.Bool.{true}
use mathlib.Core.List.{List, append-nil}
use lib.IntN.{ℤ}
use lib.Signed.{lt_z}
use Rattle.loops.specs.Lists.{each}
use Rattle.loops.specs.Range.{collect}
use Rattle.loops.specs.inner.Chain.{Silent}
use Rattle.loops.proofs.ListLaws.{each_collect}
use Rattle.lent_room.specs.declared.lent_list.LentList.{LentList}
use Rattle.calendar.specs.Clock.{clock}
use Rattle.rows.specs.Cells.{row_count, num}
use Rattle.model.specs.Sheet.{sheet}
use Rattle.load.specs.Load.{bookings_on, peak_of, peak, booked_at, booked_resources}
use Rattle.load.specs.inner.Firsts.{is_first}
use Rattle.load.specs.declared.booking.Booking.{Booking}
use Rattle.load.specs.inner.Lent.{lent}
use Rattle.load.proofs.Firsts.{booked_at_lem}

pub peak_is : (rows : List ℤ) (x : ℕ) {p : ℕ} (b : LentList Booking 800) → lent b ≡ bookings_on (sheet rows) x → p ≡ peak_of lt_z (lent b) → p ≡ peak clock (sheet rows) x
unfolding peak
peak_is rows x b g e = e ∙ ap (peak_of lt_z) g

-- what f tells of each booked resource
module _ {A : Type 0} (rows : List ℤ) (f : ℕ → List A) where
  -- of row k, where it is the first booking of its resource
  abbrev pub booked_told : ℕ → List A
  booked_told k = each f (booked_at (sheet rows) k)

  pub booked_silent : Silent (is_first rows) booked_told
  booked_silent = record { still = λ k h. rw (booked_at_lem rows k, h) (unfold each in refl) }

  pub booked_first : (k : ℕ) → is_first rows k ≡ true → booked_told k ≡ f (num rows k 3)
  unfolding each
  booked_first k h = rw (booked_at_lem rows k, h) (append-nil _)

  pub booked_all : collect booked_told (row_count rows) ≡ each f (booked_resources (sheet rows))
  unfolding booked_resources
  booked_all = sym (each_collect f (booked_at (sheet rows)) (row_count rows))
