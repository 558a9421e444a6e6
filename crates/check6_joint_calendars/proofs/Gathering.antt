-- Calendars are laid out one behind the other, resource by resource; there is always place for one more. Assumes nothing.
use Prim.Native.Nat.{ℕ, zero, suc, ◌+◌, ◌<◌, ◌≤◌}
use mathlib.Core.Path.{◌≡◌, refl, ap, ap₂, sym, subst, ◌∙◌}
use mathlib.Core.Bool.{Bool, true, false, cond, ◌&&◌, true≢false}
use mathlib.Core.List.{List, [], ◌∷◌, ◌++◌, map, append-nil}
use mathlib.Core.Logic.{inr}
use native.Mathlib.Omega.{arith}
use native.Mathlib.Decide.{ℕ_discrete, dec_lt}
use borrow.Author.Tests.{lt-ltb, le-ltb, eq-eqb, ne_eqb}
use lib.Dec.{eqb, ltb}
use lib.IntN.{ℤ}
use lib.ListN.{length, length-append, take, drop}
use lib.Seq.{drop-append_seam, take-append_seam}
use Rattle.std.proofs.lemmas.List.{append_assoc, length_push, length-map, take-map, drop-map, drop-take}
use Rattle.loops.specs.Lists.{each}
use Rattle.loops.specs.Range.{collect}
use Rattle.loops.specs.Sums.{total}
use Rattle.loops.specs.Search.{count_below}
use Rattle.loops.specs.inner.Chain.{First}
use Rattle.loops.proofs.BoolLaws.{and_left}
use Rattle.loops.proofs.ListLaws.{each_append}
use Rattle.loops.proofs.SearchLaws.{count_le}
use Rattle.loops.proofs.Walks.{over}
use Rattle.lent_room.specs.declared.lent_list.LentList.{LentList}
use Rattle.lent_room.specs.Listed.{Room, behind, past}
use Rattle.lent_room.proofs.Pushing.{past_past, past_more}
use Rattle.calendar.specs.declared.Places.{Places}
use Rattle.calendar.specs.declared.TimeWindow.{TimeWindow}
use Rattle.calendar.specs.Calendar.{Calendar}
use Rattle.calendar.specs.Layout.{window_of, windows_of, calendar_of, lists_of, calendars_of}
use Rattle.rows.specs.Cells.{row_count, num, is}
use Rattle.sheet.specs.Places.{of_kind}
use Rattle.sheet.proofs.Lookups.{is_num, num_is, placed}
use Rattle.owners.specs.inner.Owners.{own_place, owned_by}
use Rattle.model.specs.Sheet.{sheet}
use Rattle.model.specs.Resource.{windows}
use Rattle.model.proofs.Requiring.{count_less}
use Rattle.model.proofs.OwnedLaws.{owned_kind}
use Rattle.window_rows.specs.Listed.{listed, calendar_in}
use Rattle.window_rows.specs.inner.Laid.{Holder}
use Rattle.check6_joint_calendars.specs.inner.Taken.{marked, OnResources}
use Rattle.check6_joint_calendars.specs.inner.Laid.{in_a_row, places_from, LaidOut}
use Rattle.check6_joint_calendars.specs.inner.Laying.{Added, calendar_at, window_above, Resources}

-- ---- calendars one behind the other

row_total : (cs : List (Calendar ℤ)) → length (in_a_row cs) ≡ total length cs
unfolding in_a_row each total
row_total [] = refl
row_total (c ∷ cs) = omega (arith, length-append c (each (λ x. x) cs), row_total cs)

row_more : (cs : List (Calendar ℤ)) (x : Calendar ℤ) → in_a_row (cs ++ x ∷ []) ≡ in_a_row cs ++ x
unfolding in_a_row
row_more cs x = each_append (λ c. c) cs (x ∷ []) ∙ ap (λ y. each (λ c. c) cs ++ y) (unfold each in append-nil x)

places_more : (n m : ℕ) (cs : List (Calendar ℤ)) (x : Calendar ℤ) → m ≡ n + total length cs
    → places_from n (cs ++ x ∷ []) ≡ places_from n cs ++ record { from = m; to = m + length x } ∷ []
unfolding total
places_more n m [] x e = let q : m ≡ n = omega arith in rw q
places_more n m (c ∷ cs) x e = ap (λ y. record { from = n; to = n + length c } ∷ y) (places_more (n + length c) m cs x (omega arith))

-- so many windows
listed_length : (l : LentList TimeWindow 800) → length (calendar_in l) ≡ length (listed l)
unfolding calendar_in
listed_length l = length-map (listed l) window_of

-- one calendar more
pub out_more : (cs : List (Calendar ℤ)) (w : Room TimeWindow) (p : Room Places) {x : Calendar ℤ} {m : ℕ} {l l' : LentList TimeWindow 800} {q q' : LentList Places 800} → LaidOut cs w p l q
    → Added x m l l' q q' → LaidOut (cs ++ x ∷ []) w p l' q'
out_more cs w p {x} {m} {l} o a =
    let n : length (listed l) ≡ 0 + total length cs =
    omega (arith, listed_length l, ap length o.windows, row_total cs) in
    record {
      windows = a.windows ∙ ap (λ c. c ++ x) o.windows ∙ sym (row_more cs x);
      places =
          a.places
          ∙ ap (λ p. p ++ record { from = length (listed l); to = length (listed l) + length x } ∷ []) o.places
          ∙ sym (places_more 0 (length (listed l)) cs x n);
      behind_windows =
          a.behind_windows
          ∙ ap (past (length x)) o.behind_windows
          ∙ past_past (length (in_a_row cs)) (length x) w
          ∙ ap (λ i. past i w) (sym (ap length (row_more cs x) ∙ length-append (in_a_row cs) x));
      behind_places = past_more x cs p refl a.behind_places o.behind_places;
    }

-- where the lists are empty, none is laid out
none_out : {w : Room TimeWindow} {p : Room Places} (l : LentList TimeWindow 800) (q : LentList Places 800) → listed l ≡ [] → behind l ≡ w → listed q ≡ [] → behind q ≡ p → LaidOut [] w p l q
unfolding calendar_in in_a_row each past
none_out l q e a f b = record { windows = ap (map window_of) e; places = f; behind_windows = a; behind_places = b }

-- a calendar behind others, read at its places
calendar_from : (w : List TimeWindow) (p c r : Calendar ℤ) (n : ℕ) → map window_of w ≡ p ++ (c ++ r) → n ≡ length p → calendar_of w n (n + length c) ≡ c
unfolding calendar_of windows_of
calendar_from w p c r n e z =
    sym (drop-map window_of n (take (n + length c) w))
    ∙ ap (drop n) (sym (take-map window_of (n + length c) w) ∙ ap (take (n + length c)) e)
    ∙ drop-take n (length c) (p ++ (c ++ r))
    ∙ ap (take (length c)) (ap (λ (i : ℕ). drop i (p ++ (c ++ r))) z ∙ drop-append_seam p (c ++ r))
    ∙ take-append_seam c r

laid_from : (w : List TimeWindow) (p : Calendar ℤ) (cs : List (Calendar ℤ)) (n : ℕ) → map window_of w ≡ p ++ in_a_row cs → n ≡ length p → calendars_of w (places_from n cs) ≡ cs
unfolding calendars_of lists_of in_a_row each
laid_from w p [] n e z = refl
laid_from w p (c ∷ cs) n e z =
    ap₂ ◌∷◌ (unfold calendar_of in calendar_from w p c (each (λ x. x) cs) n e z)
    (laid_from w (p ++ c) cs (n + length c) (e ∙ sym (append_assoc p c (each (λ x. x) cs))) (omega (arith, z, length-append p c)))

-- as they are lent, they are the calendars that were laid out
pub lent : (cs : List (Calendar ℤ)) (w : Room TimeWindow) (p : Room Places) (l : LentList TimeWindow 800) (q : LentList Places 800) → LaidOut cs w p l q → calendars_of (listed l) (listed q) ≡ cs
lent cs w p l q o = ap (calendars_of (listed l)) o.places ∙ laid_from (listed l) [] cs 0 (unfold calendar_in in o.windows) refl

-- ---- counts of rows

-- of two tests that hold one at a time, within a third
count_both : (p q r : ℕ → Bool) → ((k : ℕ) → cond (p k) 1 0 + cond (q k) 1 0 ≤ cond (r k) 1 0) → (n : ℕ) → count_below p n + count_below q n ≤ count_below r n
unfolding count_below
count_both p q r h zero = omega arith
count_both p q r h (suc n) = let a = count_both p q r h n in let b = h n in omega arith

-- of two that hold one at a time
count_apart : (p q : ℕ → Bool) → ((k : ℕ) → p k ≡ true → q k ≡ true → ⊥) → (n : ℕ) → count_below p n + count_below q n ≤ n
count_apart p q h n = let a = count_both p q (λ k. true) (λ k. go k (p k) (q k) refl refl) n in let b = count_le (λ k. true) n in omega arith
  where
    go : (k : ℕ) (a b : Bool) → p k ≡ a → q k ≡ b → cond a 1 0 + cond b 1 0 ≤ 1
    go k true true e f = absurd (h k e f)
    go k true false e f = omega arith
    go k false true e f = omega arith
    go k false false e f = omega arith

module _ (rows : List ℤ) where
  -- no row is of two kinds
  two_kinds : (x y k : ℕ) → (x ≡ y → ⊥) → is rows k 0 x ≡ true → is rows k 0 y ≡ true → ⊥
  two_kinds x y k d e f = d (sym (is_num rows k 0 x e) ∙ is_num rows k 0 y f)

  -- the windows of row i and of the rows above it
  window_more : (i j : ℕ) → cond (window_above rows i j) 1 0 + cond (owned_by rows i 15 j) 1 0 ≤ cond (window_above rows (suc i) j) 1 0
  unfolding window_above owned_by
  window_more i j = go (is rows j 0 15) (dec_lt (own_place rows j) i) (ℕ_discrete (own_place rows j) i)
    where
      go : (b : Bool) → Dec (own_place rows j < i) → Dec (own_place rows j ≡ i)
          → cond (b && ltb (own_place rows j) i) 1 0 + cond (b && eqb (own_place rows j) i) 1 0 ≤ cond (b && ltb (own_place rows j) (suc i)) 1 0
      go false d e = omega arith
      go true (yes d) e = rw (lt-ltb _ _ d, ne_eqb (own_place rows j) i (λ z. omega arith), lt-ltb (own_place rows j) (suc i) (omega arith)) (omega arith)
      go true (no d) (yes e) = rw (le-ltb (own_place rows j) i (omega arith), eq-eqb _ _ e, lt-ltb (own_place rows j) (suc i) (omega arith)) (omega arith)
      go true (no d) (no e) = rw (le-ltb (own_place rows j) i (omega arith), ne_eqb _ _ e, le-ltb (own_place rows j) (suc i) (omega arith)) (omega arith)

  windows_more : (i n : ℕ) → count_below (window_above rows i) n + count_below (owned_by rows i 15) n ≤ count_below (window_above rows (suc i)) n
  windows_more i n = count_both (window_above rows i) (owned_by rows i 15) (window_above rows (suc i)) (window_more i) n

  above_kind : (i k : ℕ) → window_above rows i k ≡ true → is rows k 0 15 ≡ true
  unfolding window_above
  above_kind i k e = and_left (is rows k 0 15) _ e

  -- and of an activity
  windows_all : (i a n : ℕ) → count_below (window_above rows i) n + count_below (owned_by rows a 16) n ≤ n
  windows_all i a n = count_apart (window_above rows i) (owned_by rows a 16) (λ k e f. two_kinds 15 16 k (λ z. omega arith) (above_kind i k e) (owned_kind rows a 16 k f)) n

  resource_more : (r : ℕ) → of_kind rows 11 r ≡ true → count_below (of_kind rows 11) (suc r) ≡ count_below (of_kind rows 11) r + 1
  unfolding count_below
  resource_more r e = rw e

  -- a booking is no resource
  resources_few : (k n : ℕ) → k < n → is rows k 0 23 ≡ true → count_below (of_kind rows 11) n < n
  unfolding of_kind
  resources_few k n l h =
      let a = count_apart (of_kind rows 11) (of_kind rows 23) (λ j e f. two_kinds 11 23 j (λ z. omega arith) e f) n in
      let b = count_less (of_kind rows 23) k n l h in
      omega arith

-- ---- resource by resource

module _ (rows : List ℤ) (marks : List Bool) where
  -- there is place for one calendar more
  module _ {r : ℕ} {w : Room TimeWindow} {p : Room Places} (l : LentList TimeWindow 800) (q : LentList Places 800) (h : Resources rows marks r w p l q) (b : row_count rows ≤ 800) where
    pub room_windows : length (listed l) + count_below (owned_by rows r 15) (row_count rows) ≤ 800
    room_windows = omega (arith, windows_more rows r (row_count rows), count_le (window_above rows (suc r)) (row_count rows), h.windows)

    pub room_calendars : r < row_count rows → length (listed q) < 800
    room_calendars m = omega (arith, count_le (of_kind rows 11) r, h.calendars)

  pub gather_more : {r : ℕ} {w : Room TimeWindow} {p : Room Places} (l l' : LentList TimeWindow 800) (q q' : LentList Places 800) → marked marks r ≡ true → of_kind rows 11 r ≡ true
      → Added (windows (sheet rows) 15 (num rows r 1)) (count_below (owned_by rows r 15) (row_count rows)) l l' q q'
      → Resources rows marks r w p l q → Resources rows marks (suc r) w p l' q'
  gather_more {r} {w} {p} l l' q q' e k a h = record {
    out =
        let s : collect (calendar_at rows marks) r ++ windows (sheet rows) 15 (num rows r 1) ∷ [] ≡ collect (calendar_at rows marks) (suc r) =
        unfold collect calendar_at in rw e in
        subst (λ c. LaidOut c w p l' q') s (out_more _ w p h.out a);
    windows = let b = windows_more rows r (row_count rows) in omega (arith, a.count, h.windows);
    calendars = let z = resource_more rows r k in omega (arith, ap length a.places, length_push (listed q) (record { from = length (listed l); to = length (listed l) + length (windows (sheet rows) 15 (num rows r 1)) }), h.calendars);
  }

  pub gather_none : {r : ℕ} {w : Room TimeWindow} {p : Room Places} (l : LentList TimeWindow 800) (q : LentList Places 800) → marked marks r ≡ false → Resources rows marks r w p l q
      → Resources rows marks (suc r) w p l q
  gather_none {r} {w} {p} l q e h = record {
    out =
        let s : collect (calendar_at rows marks) r ≡ collect (calendar_at rows marks) (suc r) = unfold collect calendar_at in rw e (sym (append-nil _)) in
        subst (λ c. LaidOut c w p l q) s h.out;
    windows = let b = windows_more rows r (row_count rows) in omega (arith, h.windows);
    calendars = let b = h.calendars in unfold count_below in omega arith;
  }

  module _ (m : OnResources rows marks) where
    pub holder : {r : ℕ} → r < row_count rows → marked marks r ≡ true → Holder rows r 15
    holder l e = inr (refl, m.resource _ l e)

    -- a row that is no resource is not marked
    unmarked : (r : ℕ) → r < row_count rows → of_kind rows 11 r ≡ false → (b : Bool) → marked marks r ≡ b → marked marks r ≡ false
    unfolding of_kind
    unmarked r l e true q = absurd (true≢false (sym (num_is rows r 0 11 (placed rows 11 _ r (m.resource r l q)).kind) ∙ e))
    unmarked r l e false q = q

    module _ (w : Room TimeWindow) (p : Room Places) (l : LentList TimeWindow 800) (q : LentList Places 800) where
      -- what is known of row i, where it is one or the end
      abbrev At : ℕ → Type 0
      At i = i ≤ row_count rows → Resources rows marks i w p l q

      still : (r : ℕ) → of_kind rows 11 r ≡ false → At r → At (r + 1)
      still r e h b =
          let z : r + 1 ≡ suc r = omega arith in
          rw z (gather_none l q (unmarked r (omega arith) e (marked marks r) refl) (h (omega arith)))

    pub gather_first : {i : ℕ} {w : Room TimeWindow} {p : Room Places} (l : LentList TimeWindow 800) (q : LentList Places 800) → First (of_kind rows 11) 0 (row_count rows) i
        → listed l ≡ [] → behind l ≡ w → listed q ≡ [] → behind q ≡ p → Resources rows marks i w p l q
    gather_first {i} {w} {p} l q f e a g b =
        over (At w p l q) (of_kind rows 11) 0 _ _ (still w p l q) f
        (λ z. record { out = unfold collect in none_out l q e a g b; windows = omega (arith, ap length e); calendars = omega (arith, ap length g) })
        f.high

    pub gather_next : {i j : ℕ} {w : Room TimeWindow} {p : Room Places} (l : LentList TimeWindow 800) (q : LentList Places 800) → First (of_kind rows 11) (suc i) (row_count rows) j
        → Resources rows marks (suc i) w p l q → Resources rows marks j w p l q
    gather_next {w = w} {p} l q f h = over (At w p l q) (of_kind rows 11) (suc _) _ _ (still w p l q) f (λ _. h) f.high

  -- there is place for the calendar of the activity of row a, which booking k is of
  module _ {w : Room TimeWindow} {p : Room Places} (l : LentList TimeWindow 800) (q : LentList Places 800) (h : Resources rows marks (row_count rows) w p l q) (b : row_count rows ≤ 800) where
    pub last_windows : (a : ℕ) → length (listed l) + count_below (owned_by rows a 16) (row_count rows) ≤ 800
    last_windows a = omega (arith, windows_all rows (row_count rows) a (row_count rows), h.windows)

    pub last_calendars : (k : ℕ) → is rows k 0 23 ≡ true → k < row_count rows → length (listed q) < 800
    last_calendars k e m = omega (arith, resources_few rows k (row_count rows) m e, h.calendars)

-- ---- a calendar more in the rooms that are lent

pub added : (l l' : LentList TimeWindow 800) (q q' : LentList Places 800) {x : Calendar ℤ} {m from to : ℕ} → from ≡ length (listed l) → to ≡ length (listed l')
    → calendar_in l' ≡ calendar_in l ++ x → length (listed l') ≡ length (listed l) + m → behind l' ≡ past m (behind l)
    → listed q' ≡ listed q ++ record { from = from; to = to } ∷ [] → behind q' ≡ past 1 (behind q) → Added x m l l' q q'
added l l' q q' {x} {m} {from} {to} e f g h b c d =
    let n : length (listed l') ≡ length (listed l) + length x =
    omega (arith, listed_length l', ap length g, length-append (calendar_in l) x, listed_length l) in
    record {
      windows = g;
      places = c ∙ ap₂ (λ (i j : ℕ). listed q ++ record { from = i; to = j } ∷ []) e (f ∙ n);
      count = h;
      behind_windows = b ∙ ap (λ i. past i (behind l)) (omega (arith, h, n));
      behind_places = d;
    }
