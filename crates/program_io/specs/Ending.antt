-- How reading and writing go on and end, one answer of the system after the other. What it answers, no contract can say; what is made of each answer is said
-- here: a read that failed is no end of the input, and neither is one that was interrupted. Left to believe is that `read` and `write` of `system.rt` lend the
-- bytes that they are handed and pass on what the standard library told, and that it told the answer as it came: the fields of `Answer` are private, so no
-- other page makes one. Assumes nothing.
use Rattle.std.specs.Prelude.{ℕ, ◌+◌, ◌-◌, cond, ◌≡◌, ◌↔◌, ◌⊎◌, leb, eqb, Option, None, Some, Result, Ok, Err, MatchResult}
use Rattle.std.specs.IoError.{error_kind}
use Rattle.std.specs.declared.io.Error.{Error}
use Rattle.std.specs.declared.io.ErrorKind.TheVariants as kind
use Rattle.std.specs.declared.ops.ControlFlow.{ControlFlow}
use Rattle.std.specs.declared.ops.ControlFlow.TheVariants.{Continue, Break}
use Rattle.program_io.specs.declared.system.Answer.{Answer}
use Rattle.program_io.specs.declared.system.Stop.{Stop}
use Rattle.program_io.specs.declared.system.Stop.TheVariants as stop
use Rattle.program_io.specs.declared.steps.Place.{Place}
use Rattle.program_io.specs.declared.steps.End.{End}
use Rattle.program_io.specs.declared.steps.End.TheVariants.{Whole, Short, Failed}
use Rattle.program_io.specs.declared.Ended.{Ended}
use Rattle.program_io.specs.declared.Reading.{Reading}

-- what the standard library's error makes of a call: it was stopped, by an interruption where the error is one
abbrev pub Stops : Error → Stop → Type 0
Stops e why = (why ≡ stop.Interrupted) ↔ (error_kind e ≡ kind.Interrupted)

-- the answer where it tells of an error
abbrev pub IsFailure : Error → Answer → Type 0
IsFailure e answer = (why : Stop) × (answer.got ≡ Err why) × Stops e why

-- what the standard library told is handed on: its count is the answer's, and the reason of an earlier failure stays; its error is a failure, and the reason
abbrev pub HandsOn : Result ℕ Error → Option Error → Option Error → Answer → Type 0
HandsOn told before after answer = MatchResult told (λ n. (answer.got ≡ Ok n) × (after ≡ before)) (λ e. IsFailure e answer × (after ≡ Some e))

-- a call that counts leaves the reason of an earlier failure as it was; one that fails has its own
abbrev pub TellsWhy : Option Error → Option Error → Answer → Type 0
TellsWhy before after answer = ((n : ℕ) × (answer.got ≡ Ok n) × (after ≡ before)) ⊎ ((e : Error) × IsFailure e answer × (after ≡ Some e))

-- nothing was lent, and the system was not asked
abbrev pub unasked : Answer
unasked = record { lent = 0; got = Ok 0 }

-- at first, after n more bytes, and after an interruption: each read and each write is tried a hundred times
abbrev pub begun : Place
begun = record { done = 0; left = 100 }

abbrev pub further : Place → ℕ → Place
further place n = record { done = place.done + n; left = 100 }

abbrev pub again : Place → Place
again place = record { done = place.done; left = place.left - 1 }

-- after a call that moved as many bytes as were lent all is done; after one that moved none, no more will come or be taken
unfoldable pub after_moved : Place → ℕ → ℕ → ControlFlow End Place
after_moved place lent n = cond (leb lent n) (Break Whole) (cond (eqb n 0) (Break Short) (Continue (further place n)))

-- the last try has failed
unfoldable pub try_again : Place → ControlFlow End Place
try_again place = cond (leb place.left 1) (Break Failed) (Continue (again place))

abbrev pub after : Place → ℕ → Result ℕ Stop → ControlFlow End Place
after place lent (Ok n) = after_moved place lent n
after place lent (Err stop.Interrupted) = try_again place
after place lent (Err stop.Failed) = Break Failed

-- the last call was lent all the bytes from its place on, and reading or writing ended by its answer
pub record ToEnd (ended : Ended) (size : ℕ) : Type 0 where
  pub lent : ended.from.done + ended.last.lent ≡ size
  pub by : after ended.from ended.last.lent ended.last.got ≡ Break ended.end

-- how many bytes were read, where reading ended so: the buffer is full, or the input has no more; a read that failed is no end of the input
abbrev pub read_by : ℕ → ℕ → End → Option ℕ
read_by done lent Whole = Some (done + lent)
read_by done lent Short = Some done
read_by done lent Failed = None

abbrev pub read_of : Ended → Option ℕ
read_of ended = read_by ended.from.done ended.last.lent ended.end

-- reading ended so, and its count is what this makes of it
pub record ReadToEnd (reading : Reading) (room : ℕ) : Type 0 where
  pub ended : ToEnd reading.ended room
  pub counted : reading.input ≡ read_of reading.ended
