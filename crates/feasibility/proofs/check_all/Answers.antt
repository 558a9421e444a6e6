use mathlib.Core.Path.{ap, ◌∙◌}
use Rattle.std.proofs.Common.{rules}
use Rattle.findings.specs.inner.Sink.{emit}
use Rattle.definition.specs.CheckSchedule.{findings}
use Rattle.feasibility.proofs.Top.{all_in_turn}
use Rattle.feasibility.proofs.check_all.Goals as goal

pub returns : goal.returns
returns c =
    let e = c.sheet-sheet.ensures in
    let time_only = rw e at c.check_time_only.ensures in
    let parts = rw e at c.check_parts.ensures in
    let requirements = rw e at c.check_requirements.ensures in
    let capacity = rw e at c.check_capacity.ensures in
    let calendars = rw (c.new-lacking_sheet.ensures, e) at c.check_calendars.ensures in
    let precedence = rw e at c.check_precedence.ensures in
    let told = all_in_turn c.args.rows.now _ _ (c.by_kind.ensures.rows ∙ e) (c.by_kind-2.ensures.rows ∙ e) _ _ _ _ _ _ _ _ _
    (ap (λ t. t.sink) c.check_assignments.ensures)
    (ap (λ t. t.sink) time_only)
    (ap (λ t. t.sink) parts)
    (ap (λ t. t.sink) requirements)
    (ap (λ t. t.sink) capacity)
    (ap (λ t. t.sink) calendars)
    (ap (λ t. t.sink) precedence)
    (ap (λ t. t.sink) c.check_deadlines.ensures)
    (ap (λ t. t.sink) c.check_constraints.ensures) in
    let sinks = told ∙ ap (λ t. emit t.sink (findings c.args.rows.now)) c.new-found.ensures in
    let names =
    ap (λ t. t.name) c.check_constraints.ensures
    ∙ ap (λ t. t.name) c.check_deadlines.ensures
    ∙ ap (λ t. t.name) precedence
    ∙ ap (λ t. t.name) calendars
    ∙ ap (λ t. t.name) capacity
    ∙ ap (λ t. t.name) requirements
    ∙ ap (λ t. t.name) parts
    ∙ ap (λ t. t.name) time_only
    ∙ ap (λ t. t.name) c.check_assignments.ensures
    ∙ ap (λ t. t.name) c.new-found.ensures in
    search (rules, names, sinks)
