use mathlib.Core.Path.{sym}
use Rattle.std.proofs.Common.{rules}
use Rattle.rows.specs.Cells.{row_count}
use Rattle.sheet.specs.Places.{of_kind}
use Rattle.load.specs.inner.Firsts.{is_first}
use Rattle.load.proofs.Finding.{find_takes, find_left, find_taken, step_goes}
use Rattle.load.proofs.first_bookings.FirstBookingsIterator.next.Goals as goal

pub find-requires-clause-callable : goal.find-requires-clause-callable
unfolding of_kind
find-requires-clause-callable c =
    find_takes (of_kind c.self.inside.rows.now 23) (is_first c.self.inside.rows.now) (row_count c.self.inside.rows.now) _ _ (λ x f' k. search rules) (λ x l h. search rules) c.self.invariant

pub invariant_of-self : goal.invariant_of-self
invariant_of-self c =
    find_left (of_kind c.self.inside.rows.now 23) (is_first c.self.inside.rows.now) (row_count c.self.inside.rows.now) _ _ _ (λ x f' k. search rules) (λ x f' k. search rules) _ c.find.ensures.ran c.self.invariant

pub returns-clause-steps : goal.returns-clause-steps
returns-clause-steps c =
    find_taken (of_kind c.self.inside.rows.now 23) (is_first c.self.inside.rows.now) (row_count c.self.inside.rows.now) _ _ _ (λ x f' k. search rules) (λ x f' k. search rules) (sym c.self.view_is) _ c.find.ensures.ran

pub returns-clause-goes : goal.returns-clause-goes
returns-clause-goes c = step_goes c.find.result (λ l. search rules) (returns-clause-steps c)
