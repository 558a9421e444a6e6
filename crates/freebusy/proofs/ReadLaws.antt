-- Laws of reading periods one after the other: refusals and rows of some, then of others. Assumes nothing.
use Prim.Native.Nat.{ℕ, ◌+◌, ◌^◌, ◌<◌, ◌≤◌}
use mathlib.Core.Bool.{Bool, true, false, cond, ◌&&◌, not}
use mathlib.Core.List.{List, [], ◌∷◌, ◌++◌, append-nil}
use mathlib.Core.Logic.{◌⊎◌, inl, inr}
use Rattle.std.specs.Prelude.{Option, None, Some, Result, Ok, Err}
use mathlib.Core.Path.{◌≡◌, refl, sym, ap, ◌∙◌}
use native.Mathlib.Omega.{arith}
use native.Mathlib.Nat.{add-zero}
use lib.Dec.{ltb}
use lib.IntN.{ℤ}
use lib.ListN.{length, length-append}
use borrow.Author.Tests.{ltb-true}
use Rattle.loops.specs.Lists.{each}
use Rattle.loops.specs.Search.{or_else}
use Rattle.loops.proofs.ListLaws.{each_append}
use Rattle.loops.proofs.OrderedLaws.{none_some}
use Rattle.loops.proofs.PlaceLaws.{or_none_lem, or_assoc, or_none_left, or_none_right}
use Rattle.line_buffer.specs.inner.Sink.{Sink, sink, more, put_line, put_lines}
use Rattle.line_buffer.proofs.LineLaws.{more_below, lines_append, lines_none, lines_kept}
use Rattle.refusals.specs.Refusals.{refuse, verdict_of}
use Rattle.refusals.specs.declared.Reason.{Reason}
use Rattle.refusals.specs.declared.Reason.TheVariants.{Overfull}
use Rattle.refusals.specs.declared.Refusal.{Refusal}
use Rattle.freebusy_periods.specs.Period.{window_of}
use Rattle.freebusy_periods.specs.declared.Span.{Span}
use Rattle.freebusy_components.specs.Components.{Busy}
use Rattle.freebusy.specs.declared.Reading.{Reading}
use Rattle.freebusy.specs.Call.{Closure, closure_row, window_closures, closures_of, window_refusal, period_refusal, periods_refusal}
use Rattle.freebusy.specs.inner.Reading.{put_closures, ReadOn}

-- ---- one period

-- a period that passes has no row, or one that fits
passed_one : (room n : ℕ) (b : Busy) → period_refusal room n b ≡ None → (closures_of b ≡ []) ⊎ ((c : Closure) × (closures_of b ≡ c ∷ []) × (n < room))
unfolding period_refusal closures_of
passed_one room n b e = go b.free (window_of b.bytes) (ltb n room) refl e
  where
    go : (f : Bool) (w : Result Span Reason) (t : Bool) → ltb n room ≡ t → or_else (window_refusal b.place w) (refuse (not f && not t) Overfull b.place) ≡ None
        → (cond f [] (window_closures w) ≡ []) ⊎ ((c : Closure) × (cond f [] (window_closures w) ≡ c ∷ []) × (n < room))
    go f (Err k) t q e = absurd (none_some (sym e))
    go true (Ok v) t q e = inl refl
    go false (Ok v) true q e = inr (_, refl, ltb-true n room q)
    go false (Ok v) false q e = absurd (none_some (sym e))

-- ---- some periods, and then others

refusal_append : (room n : ℕ) (a b : List Busy)
    → periods_refusal room n (a ++ b) ≡ or_else (periods_refusal room n a) (periods_refusal room (n + length (each closures_of a)) b)
unfolding periods_refusal each
refusal_append room n [] b = rw (add-zero n)
refusal_append room n (x ∷ a) b =
    let k : n + length (closures_of x ++ each closures_of a) ≡ n + length (closures_of x) + length (each closures_of a) = simp length-append (omega arith) in
    rw (k, refusal_append room (n + length (closures_of x)) a b)
    (sym (or_assoc (period_refusal room n x) (periods_refusal room (n + length (closures_of x)) a) (periods_refusal room (n + length (closures_of x) + length (each closures_of a)) b)))

module _ (room : ℕ) (resource : ℤ) where
  -- periods that pass have rows that fit
  pub passed_fit : (bs : List Busy) (n : ℕ) → n ≤ room → periods_refusal room n bs ≡ None → n + length (each closures_of bs) ≤ room
  unfolding periods_refusal each
  passed_fit [] n h e = omega arith
  passed_fit (b ∷ bs) n h e =
      let p = or_none_left (period_refusal room n b) (periods_refusal room (n + length (closures_of b)) bs) e in
      let q = or_none_right (period_refusal room n b) (periods_refusal room (n + length (closures_of b)) bs) e in
      go (passed_one room n b p) (λ l. passed_fit bs (n + length (closures_of b)) l q)
    where
      go : (closures_of b ≡ []) ⊎ ((c : Closure) × (closures_of b ≡ c ∷ []) × (n < room))
          → (n + length (closures_of b) ≤ room → n + length (closures_of b) + length (each closures_of bs) ≤ room)
          → n + length (closures_of b ++ each closures_of bs) ≤ room
      go (inl q) k = simp length-append (omega (arith, ap length q, k (omega (arith, ap length q))))
      go (inr q) k = simp length-append (omega (arith, ap length q.1, q.2, k (omega (arith, ap length q.1, q.2))))

  module _ (small : room < 2 ^ 60) where
    -- and are counted right
    passed_count : (bs : List Busy) (o : List ℤ) (n : ℕ) → periods_refusal room n bs ≡ None
        → (put_closures resource (sink o n) (each closures_of bs)).count ≡ n + length (each closures_of bs)
    unfolding periods_refusal each put_lines put_line
    passed_count [] o n e = sym (add-zero n)
    passed_count (b ∷ bs) o n e =
        let p = or_none_left (period_refusal room n b) (periods_refusal room (n + length (closures_of b)) bs) e in
        let q = or_none_right (period_refusal room n b) (periods_refusal room (n + length (closures_of b)) bs) e in
        go (closures_of b) (passed_one room n b p) q (λ o n e. passed_count bs o n e)
      where
        go : (cs : List Closure) → (cs ≡ []) ⊎ ((c : Closure) × (cs ≡ c ∷ []) × (n < room)) → periods_refusal room (n + length cs) bs ≡ None
            → ((o : List ℤ) (n : ℕ) → periods_refusal room n bs ≡ None → (put_closures resource (sink o n) (each closures_of bs)).count ≡ n + length (each closures_of bs))
            → (put_closures resource (sink o n) (cs ++ each closures_of bs)).count ≡ n + length (cs ++ each closures_of bs)
        go cs (inl q) e k = rw q (k o n (rw (q, add-zero n) at e))
        go cs (inr q) e k =
            let b : List ℤ = (put_line 10 (sink o n) (closure_row resource q.0)).buf in
            rw q.1
            (ap (λ (m : ℕ). (put_closures resource (sink b m) (each closures_of bs)).count) (more_below n (omega (arith, q.2)))
            ∙ k b (n + 1) (rw q.1 at e) ∙ omega arith)

    count_then : {rows rows' : List ℤ} {from to : Reading} (a b : List Busy) → ReadOn room resource rows from a rows' to → (v : Option Refusal)
        → or_else (or_else v (periods_refusal room from.count a)) (periods_refusal room to.count b) ≡ or_else v (periods_refusal room from.count (a ++ b))
    count_then {rows = rows} {from = from} {to = to} a b r (Some x) = refl
    count_then {rows = rows} {from = from} {to = to} a b r None =
        go (periods_refusal room from.count a) refl ∙ sym (refusal_append room from.count a b)
      where
        go : (x : Option Refusal) → periods_refusal room from.count a ≡ x
            → or_else x (periods_refusal room to.count b) ≡ or_else x (periods_refusal room (from.count + length (each closures_of a)) b)
        go (Some x) e = refl
        go None e = ap (λ (k : ℕ). periods_refusal room k b) (ap (λ (s : Sink). s.count) r.numbers ∙ passed_count a rows from.count e)

    pub read_then : {rows rows' rows'' : List ℤ} {from to on : Reading} (a b : List Busy) → ReadOn room resource rows from a rows' to → ReadOn room resource rows' to b rows'' on
        → ReadOn room resource rows from (a ++ b) rows'' on
    read_then {rows = rows} {from = from} {to = to} a b r s =
        record {
          refusal = s.refusal ∙ ap (λ (v : Option Refusal). or_else v (periods_refusal room to.count b)) r.refusal ∙ count_then a b r (verdict_of from.refused);
          numbers =
              s.numbers ∙ ap (λ (k : Sink). put_closures resource k (each closures_of b)) r.numbers
              ∙ lines_append 10 (closure_row resource) (each closures_of a) (each closures_of b) (sink rows from.count)
              ∙ ap (put_closures resource (sink rows from.count)) (sym (each_append closures_of a b));
        }

  pub read_none : (rows : List ℤ) (from : Reading) → ReadOn room resource rows from [] rows from
  unfolding periods_refusal each
  read_none rows from = record { refusal = sym (or_none_lem (verdict_of from.refused)); numbers = sym (lines_none 10 (closure_row resource) (sink rows from.count)) }

  pub read_one : {rows rows' : List ℤ} (from : Reading) {to : Reading} (b : Busy)
      → verdict_of to.refused ≡ or_else (verdict_of from.refused) (period_refusal room from.count b)
      → sink rows' to.count ≡ put_closures resource (sink rows from.count) (closures_of b) → ReadOn room resource rows from (b ∷ []) rows' to
  unfolding periods_refusal each
  read_one {rows = rows} from b p q =
      record {
        refusal = p ∙ ap (or_else (verdict_of from.refused)) (sym (or_none_lem (period_refusal room from.count b)));
        numbers = q ∙ ap (put_closures resource (sink rows from.count)) (sym (append-nil (closures_of b)));
      }

-- ---- a loop over periods: to read the rest from here gives what it gave to read all from the start

pub record Going (room : ℕ) (resource : ℤ) (rows₀ : List ℤ) (from : Reading) (all : List Busy) (rows : List ℤ) (so_far : Reading) (rest : List Busy) : Type 0 where
  pub on : (rows' : List ℤ) (to : Reading) → ReadOn room resource rows so_far rest rows' to → ReadOn room resource rows₀ from all rows' to
  pub long : length rows ≡ length rows₀

pub going_start : (room : ℕ) (resource : ℤ) (rows : List ℤ) (from : Reading) (all : List Busy) → Going room resource rows from all rows from all
going_start room resource rows from all = record { on = λ rows' to r. r; long = refl }

module _ {room : ℕ} {resource : ℤ} {rows₀ : List ℤ} {from : Reading} {all : List Busy} {rows : List ℤ} {so_far : Reading} {rest : List Busy}
    (g : Going room resource rows₀ from all rows so_far rest) {rows' : List ℤ} {to : Reading} where
  pub going_on : room < 2 ^ 60 → (a more : List Busy) → rest ≡ a ++ more → ReadOn room resource rows so_far a rows' to → Going room resource rows₀ from all rows' to more
  going_on small a more e r =
      record {
        on = λ rows'' on s. g.on rows'' on (rw e (read_then room resource small a more r s));
        long = lines_kept 10 (closure_row resource) rows so_far.count (each closures_of a) r.numbers ∙ g.long;
      }

pub going_end : {room : ℕ} {resource : ℤ} {rows₀ : List ℤ} {from : Reading} {all : List Busy} {rows : List ℤ} {so_far : Reading} {rest : List Busy}
    → Going room resource rows₀ from all rows so_far rest → rest ≡ [] → ReadOn room resource rows₀ from all rows so_far
going_end {room = room} {resource = resource} {rows = rows} {so_far = so_far} g e = g.on rows so_far (rw e (read_none room resource rows so_far))
