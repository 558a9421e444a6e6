-- What reading some periods comes to, where others went before them: the public promises do not speak of it. Assumes nothing.
use Rattle.std.specs.Prelude.{Ok, ℕ, List, ◌≡◌, ℤ, Option, None, Some}
use Rattle.loops.specs.Lists.{each}
use Rattle.loops.specs.Search.{or_else}
use Rattle.line_buffer.specs.inner.Sink.{Sink, sink, put_lines}
use Rattle.refusals.specs.Refusals.{verdict_of}
use Rattle.refusals.specs.declared.Refusal.{Refusal}
use Rattle.freebusy_lines.specs.Lines.{lines}
use Rattle.freebusy_components.specs.Components.{Busy, wrong_from}
use Rattle.freebusy_components.specs.inner.Room.{space_after}
use Rattle.freebusy.specs.declared.Reading.{Reading}
use Rattle.freebusy.specs.Call.{Closure, periods_in, closure_row, closures_of, line_refusal, periods_refusal}

-- closures as rows of the resource, one after the other
abbrev pub put_closures : ℤ → Sink → List Closure → Sink
put_closures resource = put_lines 10 (closure_row resource)

-- the periods bs were read, with `room` rows lent: the refusal of the first that is refused, the rows of all as far as they go
pub record ReadOn (room : ℕ) (resource : ℤ) (rows : List ℤ) (from : Reading) (bs : List Busy) (rows' : List ℤ) (to : Reading) : Type 0 where
  pub refusal : verdict_of to.refused ≡ or_else (verdict_of from.refused) (periods_refusal room from.count bs)
  pub numbers : sink rows' to.count ≡ put_closures resource (sink rows from.count) (each closures_of bs)

-- no period was read yet
abbrev pub unread : Reading
unread = record { count = 0; refused = Ok tt }

-- the lent space after a text was read for its refusal, and where it has none once more for its rows
abbrev pub space_read : Option Refusal → List ℕ → List ℕ → List ℕ
space_read None text space = space_after text (space_after text space)
space_read (Some r) text space = space_after text space

-- what a text is refused by that is not overlong, for a resource that may be: 11 by line, then by period
abbrev pub text_refusal : List ℕ → ℕ → Option Refusal
text_refusal text room = or_else (line_refusal (wrong_from None 0 (lines text))) (periods_refusal room 0 (periods_in text))
