-- The components VFREEBUSY of a calendar: which of its lines are against the rules (11), and which periods are the components'. Assumes nothing.
use Rattle.std.specs.Prelude.{ℕ, suc, Bool, cond, ◌&&◌, ◌||◌, not, List, [], ◌∷◌, ◌++◌, map, min, Option, None, Some}
use Rattle.loops.specs.Search.{some_if}
use Rattle.freebusy_lines.specs.Bytes.{spells}
use Rattle.freebusy_lines.specs.Lines.{Line}
use Rattle.freebusy_property.specs.Property.{freebusy, is_freebusy, is_free, periods_of}

-- the whole lines BEGIN:VFREEBUSY and END:VFREEBUSY
abbrev pub BEGIN : List ℕ
BEGIN = 66 ∷ 69 ∷ 71 ∷ 73 ∷ 78 ∷ 58 ∷ 86 ∷ 70 ∷ 82 ∷ 69 ∷ 69 ∷ 66 ∷ 85 ∷ 83 ∷ 89 ∷ []

abbrev pub END : List ℕ
END = 69 ∷ 78 ∷ 68 ∷ 58 ∷ 86 ∷ 70 ∷ 82 ∷ 69 ∷ 69 ∷ 66 ∷ 85 ∷ 83 ∷ 89 ∷ []

unfoldable pub is_begin : List ℕ → Bool
is_begin l = spells BEGIN l

unfoldable pub is_end : List ℕ → Bool
is_end l = spells END l

-- A component is open from the line that begins it, at place q, to the line that ends it. What is open after the line l at place p: a component that is
-- begun inside itself opens none.
abbrev pub open_after : Option ℕ → ℕ → List ℕ → Option ℕ
open_after None p l = some_if (is_begin l) p
open_after (Some q) p l = cond (is_end l) None (Some q)

-- ---- 11, by line

-- outside a component: it is ended unopened. In one: it is begun inside itself, or a line FREEBUSY breaks the grammar. No other line is judged
abbrev pub against : Option ℕ → List ℕ → Bool
against None l = is_end l
against (Some q) l = is_begin l || (is_freebusy l && not (freebusy l))

-- at the line l at place p: it lacks its CRLF, or is against the rules
unfoldable pub wrong_at : Option ℕ → ℕ → Line → Option ℕ
wrong_at begun p l = some_if (not l.ended || against begun l.bytes) p

abbrev pub least : Option ℕ → Option ℕ → Option ℕ
least None b = b
least (Some x) None = Some x
least (Some x) (Some y) = Some (min x y)

-- the least place of all, from the line at place p on; a component that is never ended has it at its first line
unfoldable pub wrong_from : Option ℕ → ℕ → List Line → Option ℕ
wrong_from begun p [] = begun
wrong_from begun p (l ∷ ls) = least (wrong_at begun p l) (wrong_from (open_after begun p l.bytes) (suc p) ls)

-- ---- the periods

-- a period: the place of its line, whether that says FREE, and its bytes
pub record Busy : Type 0 where
  pub place : ℕ
  pub free : Bool
  pub bytes : List ℕ

abbrev pub busy : ℕ → Bool → List ℕ → Busy
busy p f s = record { place = p; free = f; bytes = s }

-- of the line l at place p: those of a line FREEBUSY in a component
abbrev pub periods_at : Option ℕ → ℕ → List ℕ → List Busy
periods_at None p l = []
periods_at (Some q) p l = cond (is_freebusy l) (map (busy p (is_free l)) (periods_of l)) []

-- in the order of the text, from the line at place p on
unfoldable pub periods_from : Option ℕ → ℕ → List Line → List Busy
periods_from begun p [] = []
periods_from begun p (l ∷ ls) = periods_at begun p l.bytes ++ periods_from (open_after begun p l.bytes) (suc p) ls
