use Rattle.derived_times.proofs.Derivation.{timed_aside, timed_found, timed_without}
use borrow.Author.Rules.{rules}
use Rattle.derived_times.proofs.TimedBookings.timed_on.Goals as goal

pub returns-then-not-runs_on : goal.returns-then-not-runs_on
returns-then-not-runs_on c = λ g e. search (rules, timed_aside)

pub returns-in-Some : goal.returns-in-Some
returns-in-Some c = λ g e.
    timed_found _ _ _ _ _ c.runs_on.ensures c.if-not-runs_on.false c.on.ensures (rw c.as_slice.ensures.rows at c.timing_at.ensures) (search rules) c.args.self.now.accepted c.requires.0 e

pub returns-in-None : goal.returns-in-None
returns-in-None c = λ g e. search (rules, timed_without)
