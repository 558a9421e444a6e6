-- Work that is started in a sheet ends, if it does, within the numbers of 64 bits. Assumes nothing.
use Rattle.std.specs.Prelude.{Result, Ok, Err, None}
use Prim.Native.Nat.{ℕ, zero, suc, ◌+◌, ◌^◌, ◌<◌, ◌≤◌, max}
use mathlib.Core.Path.{◌≡◌, refl, sym, ap, ◌∙◌}
use mathlib.Core.Bool.{Bool, true, false, cond, ◌&&◌, ◌||◌, true≢false}
use mathlib.Core.List.{List, [], ◌∷◌, ◌++◌, map}
use mathlib.Core.Logic.{inr}
use native.Mathlib.Omega.{arith}
use borrow.Author.Tests.{leb-true, lt-ltb}
use mir.Syntax.{w64}
use mir.Val.{SFits, to_z, of_z}
use mir.Facts.{to_z-of_z}
use lib.IntN.{ℤ, pos, negsuc}
use lib.Signed.{le_z}
use Rattle.loops.specs.Numbers.{to_nat}
use Rattle.loops.specs.Range.{collect}
use Rattle.loops.specs.Search.{count_below}
use lib.ListN.{length}
use Rattle.loops.specs.Lists.{given}
use Rattle.loops.proofs.BoolLaws.{and_left, and_right}
use Rattle.loops.proofs.NumberLaws.{gap}
use Rattle.calendar.specs.Clock.{clock}
use Rattle.calendar.specs.Calendar.{Calendar, joint_working}
use Rattle.calendar.specs.Amount.{since}
use Rattle.calendar.specs.WorkEnd.{Ending, ends_at, pauses, never, map_ending, after, end_in, reach, reaches, end_after, end_from, joint_work_end}
use Rattle.calendar.specs.declared.Places.{Places}
use Rattle.calendar.specs.declared.TimeWindow.{TimeWindow}
use Rattle.lent_room.specs.declared.lent_list.LentList.{LentList}
use Rattle.calendar.specs.Layout as layout
use Rattle.rows.specs.declared.Class.TheVariants.{Id, Instant, SignedTime}
use Rattle.rows.specs.Ranges.{between, is_none, in_range, in_class}
use Rattle.rows.specs.Cells.{row_count, num, is}
use Rattle.refusals.specs.Refusals.{verdict_of, at}
use Rattle.refusals.specs.declared.Reason.TheVariants.{OutOfRange}
use Rattle.refusals.specs.declared.Refusal.{Refusal}
use Rattle.sheet.specs.Refusals.{refusal_of}
use Rattle.sheet.specs.Places.{place_of}
use Rattle.sheet.specs.declared.Found.{Found}
use Rattle.sheet.specs.declared.Found.TheVariants.{At, Nothing}
use Rattle.sheet.specs.inner.Found.{found_of}
use Rattle.sheet.proofs.Lookups.{placed, found_some, found_none}
use Rattle.owners.specs.inner.Owners.{owned_by}
use Rattle.owners.specs.declared.sheet_index.SheetIndex.{SheetIndex}
use Rattle.validation.specs.inner.Answer.{Indexing}
use Rattle.validation.proofs.Order.{tables_of}
use Rattle.model.specs.Sheet.{sheet}
use Rattle.model.specs.Resource.{windows}
use Rattle.model.specs.inner.Indexed.{Indexed}
use Rattle.model.proofs.Accepting.{accepted, at_most}
use Rattle.model.proofs.Finds.{found_self}
use Rattle.window_rows.specs.Listed.{listed, calendar_in}
use Rattle.window_rows.specs.inner.Laid.{Holder}
use Rattle.window_rows.proofs.WindowRows.{window_row, window_naming, resource_windows, windows_none, all_fit}
use Rattle.calendar.specs.declared.WorkEnd as calendar
use Rattle.work_end_inquiry.specs.declared.InquiryEnd.{InquiryEnd}
use Rattle.work_end_inquiry.specs.inner.Near.{Near}
use Rattle.work_end_inquiry.specs.inner.Said.{said}
use Rattle.work_end_inquiry.specs.Inquiry.{InquiryOutcome, ends, refused, outcome_of, in_order, inquiry_refusal, inquired_calendar, inquiry}

-- the greatest instant or amount of a sheet
abbrev most : ℕ
most = 4000000000000

-- ---- how far the windows of a calendar reach

module _ (s b : ℕ) where
  reach_append : (l m : Calendar ℤ) → reach clock (pos s) l ≤ b → reach clock (pos s) m ≤ b → reach clock (pos s) (l ++ m) ≤ b
  unfolding reach
  reach_append [] m h g = g
  reach_append (x ∷ l) m h g = omega (arith, reach_append l m (omega arith) g)

  reach_collect : (f : ℕ → Calendar ℤ) → ((k : ℕ) → reach clock (pos s) (f k) ≤ b) → (n : ℕ) → reach clock (pos s) (collect f n) ≤ b
  unfolding reach collect
  reach_collect f h zero = omega arith
  reach_collect f h (suc n) = reach_append (collect f n) (f n) (reach_collect f h n) (h n)

module _ (rows : List ℤ) (ok : refusal_of rows ≡ None) (s : ℕ) where
  reach_row : (id k : ℕ) → reach clock (pos s) (window_naming rows 15 id k) ≤ most
  unfolding reach
  reach_row id k = go (is rows k 0 15 && is rows k 1 id) refl
    where
      go : (b : Bool) → (is rows k 0 15 && is rows k 1 id) ≡ b → reach clock (pos s) (given b (window_row rows k)) ≤ most
      go true e = omega (arith, gap s (num rows k 4), at_most rows (accepted rows ok) k 15 4 (and_left (is rows k 0 15) (is rows k 1 id) e))
      go false e = omega arith

  reach_windows : (id : ℕ) → reach clock (pos s) (windows (sheet rows) 15 id) ≤ most
  reach_windows id = rw (resource_windows rows id) (reach_collect s most (window_naming rows 15 id) (reach_row id) (row_count rows))

-- ---- how late the work ends

-- an end, if it is one, is a number of 64 bits
abbrev Fits : Ending ℤ → Type 0
Fits (ends_at (pos n)) = n < 2 ^ 64
Fits (ends_at (negsuc n)) = ⊥
Fits pauses = Unit
Fits never = Unit

fits_in : (p : ℕ → Bool) (s n t left : ℕ) → s + (t + n) < 2 ^ 64 → Fits (map_ending (λ k. clock.plus (pos s) (pos k)) (end_in p n t left))
unfolding end_in
fits_in p s zero t zero l = omega arith
fits_in p s zero t (suc left) l = tt
fits_in p s (suc n) t zero l = omega arith
fits_in p s (suc n) t (suc left) l = fits_in p s n (suc t) (after (p t) left) (omega arith)

module _ (l : Calendar ℤ) (s work : ℕ) (h : reach clock (pos s) l ≤ most) (a : s ≤ most) (b : work ≤ most) where
  fits_from : Fits (end_from clock (l ∷ []) (pos s) work)
  unfolding end_from end_after reaches
  fits_from = fits_in (since clock (l ∷ []) (pos s)) s (max (reach clock (pos s) l) 0 + work) 0 work (omega arith)

fits_end : (l : Calendar ℤ) (s : ℕ) (work : ℤ) → reach clock (pos s) l ≤ most → s ≤ most → to_nat work ≤ most → Fits (joint_work_end clock (l ∷ []) (pos s) work)
unfolding joint_work_end
fits_end l s work h a b = go (joint_working clock (l ∷ []) (pos s))
  where
    go : (v : Bool) → Fits (cond v (end_from clock (l ∷ []) (pos s) (to_nat work)) pauses)
    go true = fits_from l s (to_nat work) h a b
    go false = tt

-- what fits is said as it is
said_as_is : (e : Ending ℤ) → Fits e → outcome_of (said (layout.saying e)) ≡ ends e
said_as_is (ends_at (pos n)) h = rw (lt-ltb n (2 ^ 64) h)
said_as_is (ends_at (negsuc n)) h = absurd h
said_as_is pauses h = refl
said_as_is never h = refl

-- ---- a start and work of their classes

in_range_lem : (b c : Bool) → (b || (false && c)) ≡ true → b ≡ true
in_range_lem true c e = refl
in_range_lem false c e = e

start_in : (x : ℤ) → in_class Instant x ≡ true → (pos (to_nat x) ≡ x) × (to_nat x ≤ most)
unfolding in_class in_range between
start_in (pos n) e = (refl, leb-true n most (and_right (le_z (pos 0) (pos n)) (le_z (pos n) (pos most)) (in_range_lem (in_range Instant (pos n)) (is_none (pos n)) e)))
start_in (negsuc n) e = absurd (true≢false (sym e))

work_in : (x : ℤ) → in_class SignedTime x ≡ true → to_nat x ≤ most
unfolding in_class in_range between
work_in (pos n) e = leb-true n most (and_right (le_z (negsuc 3999999999999) (pos n)) (le_z (pos n) (pos most)) (in_range_lem (in_range SignedTime (pos n)) (is_none (pos n)) e))
work_in (negsuc n) e = omega arith

-- ---- what the functions work out: a signed number reaches a called function as the machine reads it back

abbrev read : ℤ → ℤ
read x = to_z w64 (of_z w64 x)

-- no places, no windows
calendar_none : (w : List TimeWindow) → layout.calendar_of w 0 0 ≡ []
unfolding layout.calendar_of layout.windows_of
calendar_none w = refl

-- no windows
none_listed : (l : LentList TimeWindow 800) → listed l ≡ [] → calendar_in l ≡ []
unfolding calendar_in
none_listed l e = ap (map layout.window_of) e

-- they reach nowhere
pub none_near : (l : LentList TimeWindow 800) → listed l ≡ [] → Near (calendar_in l)
unfolding reach
none_near l e = rw (none_listed l e) (record { near = λ s. omega arith })

module _ (rows : List ℤ) where
  module _ (resource : ℤ) {a : Bool} (e : a ≡ in_class Id (read resource)) (p : SFits w64 resource) where
    pub laid_known : (l : LentList TimeWindow 800) {n : ℕ} → calendar_in l ≡ windows (sheet rows) 15 n → n ≡ to_nat (read resource) → a ≡ true → calendar_in l ≡ inquired_calendar rows resource
    unfolding inquired_calendar
    laid_known l h g f = let c : in_class Id resource ≡ true = sym (rw (to_z-of_z p) at e) ∙ f in rw (c, sym (rw (to_z-of_z p) at g)) h

    pub laid_unknown : (l : LentList TimeWindow 800) → listed l ≡ [] → a ≡ false → calendar_in l ≡ inquired_calendar rows resource
    unfolding inquired_calendar
    laid_unknown l h f = let c : in_class Id resource ≡ false = sym (rw (to_z-of_z p) at e) ∙ f in rw c (none_listed l h)

  module _ (id : ℕ) {f : Found} (e : found_of f ≡ place_of rows 11 id) where
    pub laid_absent : (l : LentList TimeWindow 800) → listed l ≡ [] → f ≡ Nothing → refusal_of rows ≡ None → calendar_in l ≡ windows (sheet rows) 15 id
    laid_absent l h g ok = none_listed l h ∙ sym (windows_none rows (accepted rows ok) id (found_none g e))

    pub laid_found : (l l' : LentList TimeWindow 800) {o : ℕ} → listed l ≡ [] → f ≡ At o → calendar_in l' ≡ calendar_in l ++ windows (sheet rows) 15 (num rows o 1) → calendar_in l' ≡ windows (sheet rows) 15 id
    laid_found l l' {o} h g k =
        k ∙ ap (λ c. c ++ windows (sheet rows) 15 (num rows o 1)) (none_listed l h)
        ∙ ap (λ x. windows (sheet rows) 15 x) (placed rows 11 id o (found_some g e)).id_is

    pub found_holder : (o : ℕ) → f ≡ At o → Holder rows o 15
    found_holder o g = inr (refl, found_self rows 11 id o (found_some g e))

-- the windows of a resource are near
pub laid_near : (rows : List ℤ) (id : ℕ) {c : Calendar ℤ} → c ≡ windows (sheet rows) 15 id → refusal_of rows ≡ None → Near c
laid_near rows id e ok = rw e (record { near = λ s. reach_windows rows ok s id })

-- there is room for them
pub laid_fits : (rows : List ℤ) (o : ℕ) {l : List TimeWindow} → refusal_of rows ≡ None → l ≡ [] → length l + count_below (owned_by rows o 15) (row_count rows) ≤ 800
laid_fits rows o ok h = let s = (accepted rows ok).short in all_fit rows o 15 _ h (omega arith)

-- ---- the answers

module _ (rows : List ℤ) (resource start work : ℤ) (i : in_order start work ≡ true) where
  fits_inquiry : reach clock (pos (to_nat start)) (inquired_calendar rows resource) ≤ most → Fits (joint_work_end clock (inquired_calendar rows resource ∷ []) (pos (to_nat start)) work)
  unfolding in_order
  fits_inquiry h =
      fits_end (inquired_calendar rows resource) (to_nat start) work h
      (start_in start (and_left (in_class Instant start) (in_class SignedTime work) i)).1
      (work_in work (and_right (in_class Instant start) (in_class SignedTime work) i))

  same_start : pos (to_nat start) ≡ start
  unfolding in_order
  same_start = (start_in start (and_left (in_class Instant start) (in_class SignedTime work) i)).0

  -- the windows w are those of the list l, all at the places p
  pub ending_said : (l : LentList TimeWindow 800) (p : Places) {r : Result InquiryEnd Refusal} {a : calendar.WorkEnd} {s : ℕ} {w : List TimeWindow} → calendar_in l ≡ inquired_calendar rows (read resource) → Near (calendar_in l)
      → w ≡ listed l → layout.calendars_of w (p ∷ []) ≡ map layout.window_of w ∷ [] → s ≡ to_nat (read start)
      → a ≡ layout.saying (joint_work_end clock (layout.calendars_of w (p ∷ [])) (pos s) (read work)) → r ≡ said a → SFits w64 resource → SFits w64 start → SFits w64 work
      → outcome_of r ≡ ends (joint_work_end clock (inquired_calendar rows resource ∷ []) start work)
  unfolding calendar_in
  ending_said l p {w = w} c n y z h e f o u q =
      let d : calendar_in l ≡ inquired_calendar rows resource = c ∙ ap (inquired_calendar rows) (to_z-of_z o) in
      ap outcome_of (f ∙ ap said (rw (to_z-of_z q, h, to_z-of_z u, z, y) at e))
      ∙ ap (λ c. outcome_of (said (layout.saying (joint_work_end clock c (pos (to_nat start)) work)))) (ap (λ x. x ∷ []) d)
      ∙ said_as_is (joint_work_end clock (inquired_calendar rows resource ∷ []) (pos (to_nat start)) work) (fits_inquiry (rw d at (n.near (to_nat start))))
      ∙ ap (λ x. ends (joint_work_end clock (inquired_calendar rows resource ∷ []) x work)) same_start

module _ (rows : List ℤ) {v : Result Unit Refusal} where
  pub no_refusal : verdict_of v ≡ refusal_of rows → v ≡ Ok tt → refusal_of rows ≡ None
  no_refusal e f = sym e ∙ ap verdict_of f

  pub indexed_of : {before after : SheetIndex} → Indexing rows before v after → v ≡ Ok tt → Indexed rows after
  indexed_of i f =
      let e = no_refusal i.verdict f in
      record { accepted = e; filled = tables_of rows i e }

  pub inquiry_refused : (resource start work : ℤ) {x : Refusal} {a : Result InquiryEnd Refusal} → verdict_of v ≡ refusal_of rows → v ≡ Err x → a ≡ Err x
      → outcome_of a ≡ inquiry rows resource start work
  unfolding inquiry inquiry_refusal
  inquiry_refused resource start work e f b = rw (b, sym e ∙ ap verdict_of f)

  module _ (resource start work : ℤ) {a : Bool} (h : a ≡ in_order (read start) (read work)) (e : verdict_of v ≡ refusal_of rows) (f : v ≡ Ok tt)
      (p : SFits w64 start) (q : SFits w64 work) where
    in_order_lem : in_order start work ≡ a
    in_order_lem = sym (rw (to_z-of_z p, to_z-of_z q) at h)

    pub inquiry_own : {x : Refusal} → x ≡ at OutOfRange 0 → a ≡ false → refused x ≡ inquiry rows resource start work
    unfolding inquiry inquiry_refusal
    inquiry_own j i = rw (j, no_refusal e f, in_order_lem ∙ i)

    pub inquiry_ends : {r : InquiryOutcome} → r ≡ ends (joint_work_end clock (inquired_calendar rows (read resource) ∷ []) (read start) (read work)) → a ≡ true → SFits w64 resource
        → r ≡ inquiry rows resource start work
    unfolding inquiry inquiry_refusal
    inquiry_ends g i o = rw (to_z-of_z o, to_z-of_z p, to_z-of_z q) at g ∙ rw (no_refusal e f, in_order_lem ∙ i)
