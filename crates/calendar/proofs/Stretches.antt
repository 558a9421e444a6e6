-- What one pass finds holds up to the stop that it names: from the instant up to there no window starts or ends. Assumes nothing.
use Prim.Native.Nat.{ℕ, suc, ◌+◌, ◌<◌, ◌≤◌, min}
use mathlib.Core.Path.{◌≡◌, refl, sym, ap, ap₂, subst, ◌∙◌}
use mathlib.Core.Logic.{◌⊎◌, inl, inr}
use mathlib.Core.Bool.{Bool, true, false, not, cond, ◌&&◌, ◌||◌, and_assoc, and-true}
use mathlib.Core.List.{List, [], ◌∷◌, ◌++◌, map, foldl, foldl-append}
use native.Mathlib.Omega.{arith}
use lib.IntN.{ℤ, pos}
use lib.Dec.{ltb}
use lib.ListN.{length, get_or, take}
use Rattle.std.proofs.lemmas.List.{take_more, map_more}
use mir.Syntax.{w64}
use mir.Val.{Fits}
use borrow.Author.Tests.{lt-ltb, le-ltb, ltb-true, ltb-false}
use Rattle.loops.specs.Lists.{any_of, all_of}
use Rattle.calendar.specs.declared.TimeWindow.{TimeWindow}
use Rattle.calendar.specs.declared.Places.{Places}
use Rattle.calendar.specs.declared.Stretch.{Stretch}
use Rattle.calendar.specs.Clock.{clock}
use Rattle.calendar.specs.Calendar.{Window, is_open, is_closed, contains, is_working_time, joint_working}
use Rattle.calendar.specs.Layout.{window_of, windows_of, lists_of, calendars_of}
use Rattle.calendar.specs.inner.Scan.{nearer, next_stop, last_instant, EndsBy, AllEndBy, with_calendar, joint_look}
use Rattle.calendar.proofs.Windows.{stop_more}

-- r is at most b, after t if b is, and x does not lie between t and r
record Nearer (t x b r : ℕ) : Type 0 where
  most : r ≤ b
  above : t < b → t < r
  clear : (x ≤ t) ⊎ (r ≤ x)

nearer_is : (t x b : ℕ) → Nearer t x b (nearer t x b)
unfolding nearer
nearer_is t x b = go (ltb t x) (ltb x b) refl refl
  where
    go : (v v' : Bool) → ltb t x ≡ v → ltb x b ≡ v' → Nearer t x b (cond (v && v') x b)
    go true true e e' = record { most = omega (arith, ltb-true x b e'); above = λ l. ltb-true t x e; clear = inr (omega arith) }
    go true false e e' = record { most = omega arith; above = λ l. l; clear = inr (ltb-false x b e') }
    go false true e e' = record { most = omega arith; above = λ l. l; clear = inl (ltb-false t x e) }
    go false false e e' = record { most = omega arith; above = λ l. l; clear = inl (ltb-false t x e) }

nearer_min : (t x b m : ℕ) → nearer t x (min b m) ≡ min b (nearer t x m)
unfolding nearer
nearer_min t x b m = go (ltb t x) (ltb x (min b m)) (ltb x m) refl refl
  where
    go : (v v' v'' : Bool) → ltb x (min b m) ≡ v' → ltb x m ≡ v'' → cond (v && v') x (min b m) ≡ min b (cond (v && v'') x m)
    go true true true e e' = omega (arith, ltb-true x (min b m) e)
    go true true false e e' = omega (arith, ltb-true x (min b m) e, ltb-false x m e')
    go true false true e e' = omega (arith, ltb-false x (min b m) e, ltb-true x m e')
    go true false false e e' = refl
    go false v' v'' e e' = refl

-- the nearer of two instants may be found before b is known, and held to b then
nearer_first : (t x y b m : ℕ) → b ≤ m → min b (nearer t y (nearer t x m)) ≡ nearer t y (nearer t x b)
nearer_first t x y b m l =
    let e : min b m ≡ b = omega arith in
    sym (nearer_min t y b (nearer t x m)) ∙ ap (nearer t y) (sym (nearer_min t x b m) ∙ ap (nearer t x) e)

-- the window's own stop, then the nearer of the two
stop_next : (l : List TimeWindow) (x : TimeWindow) (t b m : ℕ) {s p q r : ℕ} → s ≡ next_stop l t b → p ≡ nearer t x.start m → q ≡ nearer t x.end p
    → r ≡ min s q → s ≤ m → r ≡ next_stop (l ++ x ∷ []) t b
stop_next l x t b m {s} e f g h k = h ∙ ap (min s) (g ∙ ap (nearer t x.end) f) ∙ nearer_first t x.start x.end s m k ∙ ap (λ z. nearer t x.end (nearer t x.start z)) e ∙ sym (stop_more l x t b)

-- no start and no end of a window lies after t and before r
abbrev Clear : ℕ → ℕ → List TimeWindow → Type 0
Clear t r [] = Unit
Clear t r (x ∷ l) = (((x.start ≤ t) ⊎ (r ≤ x.start)) × ((x.end ≤ t) ⊎ (r ≤ x.end))) × Clear t r l

lower : {t x r r' : ℕ} → r' ≤ r → (x ≤ t) ⊎ (r ≤ x) → (x ≤ t) ⊎ (r' ≤ x)
lower l (inl h) = inl h
lower l (inr h) = inr (omega arith)

lower_all : (t r r' : ℕ) → r' ≤ r → (l : List TimeWindow) → Clear t r l → Clear t r' l
lower_all t r r' h [] k = tt
lower_all t r r' h (x ∷ l) k = ((lower h k.0.0, lower h k.0.1), lower_all t r r' h l k.1)

module _ (t u r : ℕ) (l : t ≤ u) (l' : u < r) where
  ltb_same : (e : ℕ) → (e ≤ t) ⊎ (r ≤ e) → ltb t e ≡ ltb u e
  ltb_same e (inl h) = le-ltb t e h ∙ sym (le-ltb u e (omega arith))
  ltb_same e (inr h) = lt-ltb t e (omega arith) ∙ sym (lt-ltb u e (omega arith))

  any_still : (k : Window ℤ → Bool) (w : List TimeWindow) → Clear t r w
      → any_of (λ x. k x && contains clock (pos u) x) (map window_of w) ≡ any_of (λ x. k x && contains clock (pos t) x) (map window_of w)
  unfolding any_of contains
  any_still k [] h = refl
  any_still k (x ∷ w) h = rw (ltb_same x.start h.0.0, ltb_same x.end h.0.1, any_still k w h.1)

  works_still : (w : List TimeWindow) → Clear t r w → is_working_time clock (map window_of w) (pos u) ≡ is_working_time clock (map window_of w) (pos t)
  unfolding is_working_time
  works_still w h = ap₂ (λ v v'. (not (any_of is_open (map window_of w)) || v) && not v') (any_still is_open w h) (any_still is_closed w h)

-- what a pass over the windows leaves of the stop that was known before
record Looked (t b : ℕ) (l : List TimeWindow) (r : ℕ) : Type 0 where
  most : r ≤ b
  above : t < b → t < r
  clear : Clear t r l

looked : (t : ℕ) (l : List TimeWindow) (b : ℕ) → Looked t b l (next_stop l t b)
unfolding next_stop
looked t [] b = record { most = omega arith; above = λ h. h; clear = tt }
looked t (x ∷ l) b =
    let a = nearer_is t x.start b in
    let c = nearer_is t x.end (nearer t x.start b) in
    let h = looked t l (nearer t x.end (nearer t x.start b)) in
    record {
      most = omega (arith, h.most, a.most, c.most);
      above = λ k. h.above (c.above (a.above k));
      clear = ((lower (omega (arith, h.most, c.most)) a.clear, lower h.most c.clear), h.clear);
    }

-- ---- several calendars

-- joint working time of lists of windows
abbrev pub all_work : List (List TimeWindow) → ℕ → Bool
all_work ls t = joint_working clock (map (map window_of) ls) (pos t)

abbrev ClearAll : ℕ → ℕ → List (List TimeWindow) → Type 0
ClearAll t r [] = Unit
ClearAll t r (l ∷ ls) = Clear t r l × ClearAll t r ls

all_still : (t u r : ℕ) → t ≤ u → u < r → (ls : List (List TimeWindow)) → ClearAll t r ls → all_work ls u ≡ all_work ls t
unfolding joint_working all_of
all_still t u r h h' [] k = refl
all_still t u r h h' (l ∷ ls) k = ap₂ ◌&&◌ (works_still t u r h h' l k.0) (all_still t u r h h' ls k.1)

record Joined (t : ℕ) (s : Stretch) (ls : List (List TimeWindow)) (r : Stretch) : Type 0 where
  working : r.working ≡ (s.working && all_work ls t)
  most : r.stop ≤ s.stop
  above : t < s.stop → t < r.stop
  clear : ClearAll t r.stop ls

joined : (t : ℕ) (ls : List (List TimeWindow)) (s : Stretch) → Joined t s ls (foldl (with_calendar t) s ls)
unfolding joint_working all_of
joined t [] s = record { working = sym (and-true s.working); most = omega arith; above = λ h. h; clear = tt }
joined t (l ∷ ls) s =
    let a = looked t l s.stop in
    let h = joined t ls (with_calendar t s l) in
    record {
      working = h.working ∙ and_assoc s.working (is_working_time clock (map window_of l) (pos t)) (all_work ls t);
      most = omega (arith, h.most, a.most);
      above = λ k. h.above (a.above k);
      clear = (lower_all t _ _ h.most l a.clear, h.clear);
    }

-- the next calendar of a slice
pub look_at : (w : List TimeWindow) (cs : List Places) (i : ℕ) (d : Places) (t b : ℕ) {s r h : Stretch} {v : List TimeWindow} → i < length cs
    → s ≡ joint_look (lists_of w (take i cs)) t b → v ≡ windows_of w (get_or cs i d).from (get_or cs i d).to → h.working ≡ is_working_time clock (map window_of v) (pos t)
    → h.stop ≡ next_stop v t s.stop → r ≡ record { working = s.working && h.working; stop = h.stop } → r ≡ joint_look (lists_of w (take (i + 1) cs)) t b
unfolding joint_look lists_of
look_at w cs i d t b {s} l e f g k q =
    (rw (g, k, f) at q)
    ∙ ap (λ z. with_calendar t z (windows_of w (get_or cs i d).from (get_or cs i d).to)) e
    ∙ sym
    (ap (foldl (with_calendar t) (record { working = true; stop = b })) (map_more (λ c. windows_of w c.from c.to) cs i d l)
    ∙ foldl-append (with_calendar t) (record { working = true; stop = b }) (map (λ c. windows_of w c.from c.to) (take i cs)) (windows_of w (get_or cs i d).from (get_or cs i d).to ∷ []))

-- the first decides, or both do
pub second_decides : (s h : Stretch) {r : Stretch} → s.working ≡ true → r ≡ record { working = h.working; stop = h.stop } → r ≡ record { working = s.working && h.working; stop = h.stop }
second_decides s h e q = rw e q

pub first_decides : (s h : Stretch) {r : Stretch} → s.working ≡ false → r ≡ record { working = s.working; stop = h.stop } → r ≡ record { working = s.working && h.working; stop = h.stop }
first_decides s h e q = rw e (rw e at q)

-- from t up to r, which is at most b, the test gives v throughout
pub record Steady (p : ℕ → Bool) (t b r : ℕ) (v : Bool) : Type 0 where
  pub most : r ≤ b
  pub above : t < b → t < r
  pub here : v ≡ p t
  pub same : (u : ℕ) → t ≤ u → u < r → p u ≡ v

-- joint working time, as a test of numbers
abbrev pub joint_at : List TimeWindow → List Places → ℕ → Bool
joint_at w cs t = joint_working clock (calendars_of w cs) (pos t)

pub looked_at : (w : List TimeWindow) (cs : List Places) (t b : ℕ) (s : Stretch) → s ≡ joint_look (lists_of w cs) t b → Steady (joint_at w cs) t b s.stop s.working
unfolding joint_look calendars_of
looked_at w cs t b s e =
    let h = subst (Joined t (record { working = true; stop = b }) (lists_of w cs)) (sym e) (joined t (lists_of w cs) (record { working = true; stop = b })) in
    record {
      most = h.most;
      above = h.above;
      here = h.working;
      same = λ u l l'. all_still t u s.stop l l' (lists_of w cs) h.clear ∙ sym h.working;
    }

-- ---- from a number on that no start or end exceeds, working time does not change

ends_more : (m : ℕ) (l : List TimeWindow) (x : TimeWindow) → EndsBy m l → x.start ≤ m → x.end ≤ m → EndsBy m (l ++ x ∷ [])
ends_more m [] x h a b = ((a, b), tt)
ends_more m (y ∷ l) x h a b = (h.0, ends_more m l x h.1 a b)

-- the next window of a slice
pub window_at : (w : List TimeWindow) (i : ℕ) (d : TimeWindow) (t b : ℕ) {s p q r : ℕ} → i < length w → s ≡ next_stop (take i w) t b → EndsBy last_instant (take i w)
    → p ≡ nearer t (get_or w i d).start last_instant → q ≡ nearer t (get_or w i d).end p → r ≡ min s q → Fits w64 b → Fits w64 (get_or w i d).start → Fits w64 (get_or w i d).end
    → (r ≡ next_stop (take (i + 1) w) t b) × EndsBy last_instant (take (i + 1) w)
window_at w i d t b l e k f g h fb fs fe =
    let m = sym (take_more w i d l) in (
      stop_next (take i w) (get_or w i d) t b last_instant e f g h (omega (arith, e, (looked t (take i w) b).most, fb.fits)) ∙ ap (λ z. next_stop z t b) m,
      subst (EndsBy last_instant) m (ends_more last_instant (take i w) (get_or w i d) k (omega (arith, fs.fits)) (omega (arith, fe.fits))),
    )

all_end_more : (m : ℕ) (ls : List (List TimeWindow)) (l : List TimeWindow) → AllEndBy m ls → EndsBy m l → AllEndBy m (ls ++ l ∷ [])
all_end_more m [] l h k = (k, tt)
all_end_more m (x ∷ ls) l h k = (h.0, all_end_more m ls l h.1 k)

pub all_end_at : (m : ℕ) (w : List TimeWindow) (cs : List Places) (i : ℕ) (d : Places) {v : List TimeWindow} → i < length cs → AllEndBy m (lists_of w (take i cs))
    → v ≡ windows_of w (get_or cs i d).from (get_or cs i d).to → EndsBy m v → AllEndBy m (lists_of w (take (i + 1) cs))
unfolding lists_of
all_end_at m w cs i d l h e k =
    subst (AllEndBy m) (sym (map_more (λ c. windows_of w c.from c.to) cs i d l)) (all_end_more m _ _ h (subst (EndsBy m) e k))

clear_append : (t r : ℕ) (l k : List TimeWindow) → Clear t r l → Clear t r k → Clear t r (l ++ k)
clear_append t r [] k h h' = h'
clear_append t r (x ∷ l) k h h' = (h.0, clear_append t r l k h.1 h')

clear_all_append : (t r : ℕ) (l k : List (List TimeWindow)) → ClearAll t r l → ClearAll t r k → ClearAll t r (l ++ k)
clear_all_append t r [] k h h' = h'
clear_all_append t r (x ∷ l) k h h' = (h.0, clear_all_append t r l k h.1 h')

clear_ends : (m r : ℕ) (l : List TimeWindow) → EndsBy m l → Clear m r l
clear_ends m r [] h = tt
clear_ends m r (x ∷ l) h = ((inl h.0.0, inl h.0.1), clear_ends m r l h.1)

clear_all_end : (m r : ℕ) (ls : List (List TimeWindow)) → AllEndBy m ls → ClearAll m r ls
clear_all_end m r [] h = tt
clear_all_end m r (l ∷ ls) h = (clear_ends m r l h.0, clear_all_end m r ls h.1)

pub settled_at : (w : List TimeWindow) (cs : List Places) (m : ℕ) → AllEndBy m (lists_of w cs) → (u : ℕ) → m ≤ u → joint_at w cs u ≡ joint_at w cs m
unfolding calendars_of
settled_at w cs m h u l = all_still m u (suc u) l (omega arith) (lists_of w cs) (clear_all_end m (suc u) (lists_of w cs) h)
