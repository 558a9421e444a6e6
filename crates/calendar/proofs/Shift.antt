-- Moving every instant by a whole d: working time, fits and amounts stay, and the work end moves by d. Assumes nothing.
use Prim.Native.Nat.{ℕ}
use mathlib.Core.Path.{◌≡◌, refl, sym, ap, ap₂, ◌∙◌}
use Rattle.std.proofs.lemmas.List.{take-map, drop-map}
use mathlib.Core.List.{List, [], ◌∷◌, map}
use lib.IntN.{ℤ, ◌+ℤ◌}
use lib.ListN.{take, drop}
use Rattle.calendar.specs.declared.TimeWindow.{TimeWindow}
use Rattle.calendar.specs.declared.Places.{Places}
use Rattle.calendar.specs.Clock.{clock}
use Rattle.calendar.specs.Calendar.{Calendar, is_working_time, interval_fits, joint_working}
use Rattle.calendar.specs.Amount.{joint_available_ms}
use Rattle.calendar.specs.WorkEnd.{map_ending, end_from, joint_work_end}
use Rattle.calendar.specs.Layout.{window_of, windows_of, calendar_of, lists_of, calendars_of}
use Rattle.calendar.specs.inner.Moves.{by, instant, both, list, map_window, calendar, ending, later, laters}
use Rattle.calendar.proofs.Moving.{moved, unmoved}

module _ (d : ℤ) where
  pub works_moved : (l : Calendar ℤ) (t : ℤ) → is_working_time clock (later d l) (t +ℤ d) ≡ is_working_time clock l t
  works_moved l t = unmoved (both calendar instant) (λ T K x. is_working_time K x.0 x.1) d (l, t)

  pub fits_moved : (l : Calendar ℤ) (a e : ℤ) → interval_fits clock (later d l) (a +ℤ d) (e +ℤ d) ≡ interval_fits clock l a e
  fits_moved l a e = unmoved (both calendar (both instant instant)) (λ T K x. interval_fits K x.0 x.1.0 x.1.1) d (l, (a, e))

  pub joint_moved : (cs : List (Calendar ℤ)) (t : ℤ) → joint_working clock (laters d cs) (t +ℤ d) ≡ joint_working clock cs t
  joint_moved cs t = unmoved (both (list calendar) instant) (λ T K x. joint_working K x.0 x.1) d (cs, t)

  pub available_moved : (cs : List (Calendar ℤ)) (a e : ℤ) → joint_available_ms clock (laters d cs) (a +ℤ d) (e +ℤ d) ≡ joint_available_ms clock cs a e
  available_moved cs a e =
      unmoved (both (list calendar) (both instant instant)) (λ T K x. joint_available_ms K x.0 x.1.0 x.1.1) d (cs, (a, e))

  pub end_from_moved : (cs : List (Calendar ℤ)) (t : ℤ) (work : ℕ) → end_from clock (laters d cs) (t +ℤ d) work ≡ map_ending (by d) (end_from clock cs t work)
  end_from_moved cs t work = moved (both (list calendar) instant) ending (λ T K x. end_from K x.0 x.1 work) d (cs, t)

  pub work_end_moved : (cs : List (Calendar ℤ)) (t : ℤ) (work : ℤ) → joint_work_end clock (laters d cs) (t +ℤ d) work ≡ map_ending (by d) (joint_work_end clock cs t work)
  work_end_moved cs t work = moved (both (list calendar) instant) ending (λ T K x. joint_work_end K x.0 x.1 work) d (cs, t)

-- ---- of windows that are lent

-- v's windows are w's, each d later (d may be below 0)
abbrev pub Moved : ℤ → List TimeWindow → List TimeWindow → Type 0
Moved d w v = map window_of v ≡ later d (map window_of w)

module _ (d : ℤ) (w v : List TimeWindow) (m : Moved d w v) where
  pub calendar_moved : (from to : ℕ) → calendar_of v from to ≡ later d (calendar_of w from to)
  unfolding calendar_of windows_of
  calendar_moved from to = cut window_of v ∙ ap (λ l. drop from (take to l)) m ∙ sym (cut (map_window (by d)) (map window_of w)) ∙ ap (later d) (sym (cut window_of w))
    where
      cut : {A B : Type 0} (f : A → B) (l : List A) → map f (drop from (take to l)) ≡ drop from (take to (map f l))
      cut f l = sym (drop-map f from (take to l)) ∙ ap (drop from) (sym (take-map f to l))

  pub calendars_moved : (cs : List Places) → calendars_of v cs ≡ laters d (calendars_of w cs)
  unfolding calendars_of lists_of
  calendars_moved [] = refl
  calendars_moved (c ∷ cs) = ap₂ ◌∷◌ (unfold calendar_of in calendar_moved c.from c.to) (calendars_moved cs)
