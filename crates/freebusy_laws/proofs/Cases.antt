-- Letters in the other case give the same answer. Assumes nothing.
use Prim.Native.Nat.{ℕ, suc, ◌+◌, ◌/◌}
use mathlib.Core.Bool.{Bool, true, false, cond}
use mathlib.Core.List.{List, [], ◌∷◌, map}
use Rattle.std.specs.Prelude.{Option, None, Some}
use mathlib.Core.Path.{◌≡◌, refl, sym, ap, ◌∙◌}
use lib.ListN.{length, length-map}
use Rattle.loops.specs.Lists.{each}
use Rattle.loops.proofs.ListLaws.{map_append}
use Rattle.letters.specs.Letters.{capital, capitals}
use Rattle.freebusy_lines.specs.Lines.{Line, lines}
use Rattle.freebusy_lines.proofs.CaseLaws.{line_capitals, spells_unseen, lines_capitals}
use Rattle.freebusy_periods.proofs.CaseLaws.{window_unseen}
use Rattle.freebusy_property.specs.Property.{is_freebusy, is_free, periods_of}
use Rattle.freebusy_property.proofs.CaseLaws.{freebusy_unseen, is_freebusy_unseen, is_free_unseen, periods_capitals}
use Rattle.freebusy_components.specs.Components.{Busy, busy, is_begin, is_end, open_after, against, wrong_at, wrong_from, periods_at, periods_from}
use Rattle.freebusy.specs.Call.{periods_in, closures_of, closures, period_refusal, periods_refusal, freebusy_refusal, freebusy_answer, freebusy_after}
use Rattle.freebusy_laws.specs.Laws.{Alike, CaseUnseen}

-- ---- by line

begin_unseen : (l : List ℕ) → is_begin (capitals l) ≡ is_begin l
unfolding is_begin
begin_unseen l = spells_unseen _ l

end_unseen : (l : List ℕ) → is_end (capitals l) ≡ is_end l
unfolding is_end
end_unseen l = spells_unseen _ l

open_unseen : (begun : Option ℕ) (p : ℕ) (l : List ℕ) → open_after begun p (capitals l) ≡ open_after begun p l
open_unseen None p l = rw (begin_unseen l)
open_unseen (Some q) p l = rw (end_unseen l)

against_unseen : (begun : Option ℕ) (l : List ℕ) → against begun (capitals l) ≡ against begun l
against_unseen None l = end_unseen l
against_unseen (Some q) l = rw (begin_unseen l, is_freebusy_unseen l, freebusy_unseen l)

wrong_unseen : (begun : Option ℕ) (p : ℕ) (ls : List Line) → wrong_from begun p (map line_capitals ls) ≡ wrong_from begun p ls
unfolding wrong_from wrong_at
wrong_unseen begun p [] = refl
wrong_unseen begun p (l ∷ ls) =
    rw (against_unseen begun l.bytes, open_unseen begun p l.bytes, wrong_unseen (open_after begun p l.bytes) (suc p) ls)

-- ---- by period

upper_busy : Busy → Busy
upper_busy b = busy b.place b.free (capitals b.bytes)

upper_map : (p : ℕ) (f : Bool) (ss : List (List ℕ)) → map (busy p f) (map capitals ss) ≡ map upper_busy (map (busy p f) ss)
unfolding upper_busy
upper_map p f [] = refl
upper_map p f (s ∷ ss) = ap (λ (bs : List Busy). busy p f (capitals s) ∷ bs) (upper_map p f ss)

at_capitals : (begun : Option ℕ) (p : ℕ) (l : List ℕ) → periods_at begun p (capitals l) ≡ map upper_busy (periods_at begun p l)
at_capitals None p l = refl
at_capitals (Some q) p l = rw (is_freebusy_unseen l, is_free_unseen l, periods_capitals l) (go (is_freebusy l))
  where
    go : (b : Bool) → cond b (map (busy p (is_free l)) (map capitals (periods_of l))) [] ≡ map upper_busy (cond b (map (busy p (is_free l)) (periods_of l)) [])
    go true = upper_map p (is_free l) (periods_of l)
    go false = refl

from_capitals : (begun : Option ℕ) (p : ℕ) (ls : List Line) → periods_from begun p (map line_capitals ls) ≡ map upper_busy (periods_from begun p ls)
unfolding periods_from
from_capitals begun p [] = refl
from_capitals begun p (l ∷ ls) =
    rw (at_capitals begun p l.bytes, open_unseen begun p l.bytes, from_capitals (open_after begun p l.bytes) (suc p) ls)
    (sym (map_append upper_busy (periods_at begun p l.bytes) (periods_from (open_after begun p l.bytes) (suc p) ls)))

closures_unseen : (b : Busy) → closures_of (upper_busy b) ≡ closures_of b
unfolding closures_of upper_busy
closures_unseen b = rw (window_unseen b.bytes)

refusal_unseen : (room n : ℕ) (b : Busy) → period_refusal room n (upper_busy b) ≡ period_refusal room n b
unfolding period_refusal upper_busy
refusal_unseen room n b = rw (window_unseen b.bytes)

refusals_unseen : (room n : ℕ) (bs : List Busy) → periods_refusal room n (map upper_busy bs) ≡ periods_refusal room n bs
unfolding periods_refusal
refusals_unseen room n [] = refl
refusals_unseen room n (b ∷ bs) = rw (refusal_unseen room n b, closures_unseen b, refusals_unseen room (n + length (closures_of b)) bs)

each_unseen : (bs : List Busy) → each closures_of (map upper_busy bs) ≡ each closures_of bs
unfolding each
each_unseen [] = refl
each_unseen (b ∷ bs) = rw (closures_unseen b, each_unseen bs)

-- ---- the text in capitals has the answer of the text

in_capitals : (s : List ℕ) → periods_in (capitals s) ≡ map upper_busy (periods_in s)
unfolding periods_in
in_capitals s = rw (lines_capitals s) (from_capitals None 0 (lines s))

upper_alike : (s : List ℕ) → Alike (capitals s) s
unfolding freebusy_answer freebusy_after freebusy_refusal closures
upper_alike s resource lent =
    let w : wrong_from None 0 (lines (capitals s)) ≡ wrong_from None 0 (lines s) = rw (lines_capitals s) (wrong_unseen None 0 (lines s)) in (
      rw (length-map s capital, w, in_capitals s, refusals_unseen (length lent / 10) 0 (periods_in s), each_unseen (periods_in s)),
      rw (length-map s capital, w, in_capitals s, refusals_unseen (length lent / 10) 0 (periods_in s), each_unseen (periods_in s)),
    )

pub case_unseen : CaseUnseen
case_unseen s t e resource lent =
    let a = upper_alike s resource lent in
    let b = upper_alike t resource lent in
    (sym a.0 ∙ (rw e b.0), sym a.1 ∙ (rw e b.1))
