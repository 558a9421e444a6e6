-- One window more, the windows at some places, and what all windows say of an instant. Assumes nothing.
use Prim.Native.Nat.{ℕ, ◌+◌, ◌-◌, ◌<◌, ◌≤◌, min}
use mathlib.Core.Path.{◌≡◌, sym, ap, ◌∙◌}
use mathlib.Core.Bool.{Bool, false, not, ◌&&◌, ◌||◌, or-false, or_assoc}
use mathlib.Core.List.{List, [], ◌∷◌, ◌++◌, map, foldl, foldl-append}
use native.Mathlib.Omega.{arith}
use lib.IntN.{ℤ, pos}
use lib.ListN.{length, get_or, take, drop}
use Rattle.std.proofs.lemmas.List.{drop_min, take_min, drop-take, length-take, map_more, take_all}
use Rattle.loops.specs.Lists.{any_of}
use Rattle.loops.proofs.ListLaws.{any_append}
use Rattle.calendar.specs.declared.TimeWindow.{TimeWindow}
use Rattle.calendar.specs.declared.Standing.{Standing}
use Rattle.calendar.specs.declared.Fit.{Fit}
use Rattle.calendar.specs.Clock.{clock}
use Rattle.calendar.specs.Calendar.{Window, Calendar, opens, closes, is_open, is_closed, contains, covers, hits, is_working_time, interval_fits}
use Rattle.calendar.specs.Layout.{window_of, windows_of, lists_of, calendars_of}
use Rattle.calendar.specs.Fit.{standing_of, fit_of}
use Rattle.calendar.specs.inner.Scan.{nearer, next_stop}

any_more : (p : Window ℤ → Bool) (l : Calendar ℤ) (x : Window ℤ) → any_of p (l ++ x ∷ []) ≡ (any_of p l || p x)
any_more p l x = any_append p l (x ∷ []) ∙ ap (λ b. any_of p l || b) (unfold any_of in or-false (p x))

standing_more : (o h : Window ℤ → Bool) (l : Calendar ℤ) (x : Window ℤ) {s r : Standing} {v w : Bool} → s ≡ standing_of o h l → v ≡ o x → w ≡ h x
    → r ≡ record { listed = s.listed || opens x.kind; held = s.held || (opens x.kind && v); hit = s.hit || (closes x.kind && w) }
    → r ≡ standing_of o h (l ++ x ∷ [])
unfolding standing_of
standing_more o h l x e f g q =
    rw (q, f, g, e, any_more is_open l x, any_more (λ y. is_open y && o y) l x, any_more (λ y. is_closed y && h y) l x)

pub stop_more : (l : List TimeWindow) (x : TimeWindow) (t b : ℕ) → next_stop (l ++ x ∷ []) t b ≡ nearer t x.end (nearer t x.start (next_stop l t b))
unfolding next_stop
stop_more l x t b = foldl-append (λ b y. nearer t y.end (nearer t y.start b)) b l (x ∷ [])

module _ (l : Calendar ℤ) (a e : ℕ) {f : Fit} (q : f ≡ fit_of l a e) where
  pub fit_more : (x : TimeWindow) {s : Standing} {v w : Bool} → v ≡ covers clock (pos f.start) (pos f.end) (window_of x) → w ≡ hits clock (pos f.start) (pos f.end) (window_of x)
      → s ≡ record { listed = f.standing.listed || opens x.kind; held = f.standing.held || (opens x.kind && v); hit = f.standing.hit || (closes x.kind && w) }
      → ◌≡◌ {A = Fit} (record { start = f.start; end = f.end; standing = s }) (fit_of (l ++ window_of x ∷ []) a e)
  unfolding fit_of
  fit_more x g h k =
      let t : f.standing ≡ standing_of (covers clock (pos a) (pos e)) (hits clock (pos a) (pos e)) l = ap (λ (z : Fit). z.standing) q in
      let m = standing_more (covers clock (pos a) (pos e)) (hits clock (pos a) (pos e)) l (window_of x) t (rw q at g) (rw q at h) k in
      rw (m, q)

  -- what it holds decides whether [a, e) fits the calendar whole
  pub fits_whole : {b : Bool} → b ≡ ((not f.standing.listed || f.standing.held) && not f.standing.hit) → b ≡ interval_fits clock l (pos a) (pos e)
  unfolding fit_of standing_of interval_fits
  fits_whole h = rw q at h

-- the windows at some places, as a slice
pub slice_is : (w : List TimeWindow) (from to : ℕ) {m n : ℕ} → n ≡ min to (length w) → m ≡ min from n → take (n - m) (drop m w) ≡ windows_of w from to
unfolding windows_of
slice_is w from to {m} {n} e f =
    let g : m + (n - m) ≡ min to (length w) = omega arith in
    let h : m ≡ min from (length (take to w)) = omega (arith, length-take to w) in
    sym (drop-take m (n - m) w) ∙ ap (λ (i : ℕ). drop m (take i w)) g ∙ ap (drop m) (take_min to w) ∙ ap (λ (i : ℕ). drop i (take to w)) h ∙ drop_min from (take to w)

-- one calendar alone
pub one_calendar : (w : List TimeWindow) → calendars_of w (record { from = 0; to = length w } ∷ []) ≡ map window_of w ∷ []
unfolding calendars_of lists_of windows_of
one_calendar w = ap (λ v. map window_of v ∷ []) (take_all (length w) w (omega arith))

-- the next window of a slice
module _ (w : List TimeWindow) (i : ℕ) (d : TimeWindow) (l : i < length w) where
  pub standing_at : (o h : Window ℤ → Bool) {s r : Standing} {v v' : Bool} → s ≡ standing_of o h (map window_of (take i w)) → v ≡ o (window_of (get_or w i d)) → v' ≡ h (window_of (get_or w i d))
      → r ≡ record { listed = s.listed || opens (get_or w i d).kind; held = s.held || (opens (get_or w i d).kind && v); hit = s.hit || (closes (get_or w i d).kind && v') }
      → r ≡ standing_of o h (map window_of (take (i + 1) w))
  standing_at o h e f g q = standing_more o h (map window_of (take i w)) (window_of (get_or w i d)) e f g q ∙ ap (standing_of o h) (sym (map_more window_of w i d l))

pub works_is : (w : List TimeWindow) (t i : ℕ) {s : Standing} {b : Bool} → length w ≤ i → s ≡ standing_of (contains clock (pos t)) (contains clock (pos t)) (map window_of (take i w))
    → b ≡ ((not s.listed || s.held) && not s.hit) → b ≡ is_working_time clock (map window_of w) (pos t)
unfolding standing_of is_working_time
works_is w t i l e h = rw (e, take_all i w l) at h

-- ---- an instant, by what the windows say of it one after the other

-- before the first window
abbrev pub none_yet : Standing
none_yet = record { listed = false; held = false; hit = false }

-- one window more
abbrev pub with_window : ℕ → Standing → TimeWindow → Standing
with_window t s x =
    record {
      listed = s.listed || opens x.kind;
      held = s.held || (opens x.kind && contains clock (pos t) (window_of x));
      hit = s.hit || (closes x.kind && contains clock (pos t) (window_of x));
    }

-- whether work may run then
abbrev pub allows : Standing → Bool
allows s = (not s.listed || s.held) && not s.hit

-- what was said before, or is said by one of these
abbrev or_said : ℕ → Standing → List TimeWindow → Standing
or_said t s l =
    record {
      listed = s.listed || any_of is_open (map window_of l);
      held = s.held || any_of (λ x. is_open x && contains clock (pos t) x) (map window_of l);
      hit = s.hit || any_of (λ x. is_closed x && contains clock (pos t) x) (map window_of l);
    }

or_said_is : (t : ℕ) (l : List TimeWindow) (s : Standing) → foldl (with_window t) s l ≡ or_said t s l
unfolding any_of
or_said_is t [] s = rw (or-false s.listed, or-false s.held, or-false s.hit)
or_said_is t (x ∷ l) s =
    or_said_is t l (with_window t s x)
    ∙ rw (
      or_assoc s.listed (opens x.kind) (any_of is_open (map window_of l)),
      or_assoc s.held (opens x.kind && contains clock (pos t) (window_of x)) (any_of (λ y. is_open y && contains clock (pos t) y) (map window_of l)),
      or_assoc s.hit (closes x.kind && contains clock (pos t) (window_of x)) (any_of (λ y. is_closed y && contains clock (pos t) y) (map window_of l)),
    )

-- what all of them say decides whether it is working time
pub works_most : (l : List TimeWindow) (t : ℕ) → allows (foldl (with_window t) none_yet l) ≡ is_working_time clock (map window_of l) (pos t)
unfolding is_working_time
works_most l t = ap allows (or_said_is t l none_yet)
