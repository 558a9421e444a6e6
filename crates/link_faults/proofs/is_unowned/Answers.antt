use Rattle.std.proofs.Common.{◌≤◌, arith}
use Rattle.owners.proofs.Absent.{early, unnamed, lost, standing, of_requirement, of_constraint}
use Rattle.owners.proofs.Tables.{found_within}
use mathlib.Core.Path.{refl, ◌∙◌, ap}
use Rattle.std.specs.Prelude.{Some}
use Rattle.link_faults.proofs.is_unowned.Goals as goal

pub returns-then-kind-number : goal.returns-then-kind-number
returns-then-kind-number c =
    let l : c.num-kind.result ≤ 22 = omega (arith, c.number.ensures, c.if-kind-number.true) in
    c.is_some.ensures ∙ lost _ _ c.num-kind.ensures.value c.owner_kind.ensures c.find_owner.ensures l c.in_default.is

pub returns-in_default-owner_kind : goal.returns-in_default-owner_kind
returns-in_default-owner_kind c = unnamed _ _ c.num-kind.ensures.value c.owner_kind-2.ensures c.in_default-owner_kind.is

pub find_owner-requires-in-RequirementRow : goal.find_owner-requires-in-RequirementRow
find_owner-requires-in-RequirementRow c = found_within _ _ _ c.find_owner.ensures c.in-Some.is

pub returns-in-RequirementRow : goal.returns-in-RequirementRow
returns-in-RequirementRow c =
    let w = c.in-Some-owner_kind.is ∙ ap Some c.in-RequirementRow.is in
    of_requirement _ _ c.num-kind.ensures.value c.owner_kind-2.ensures (early _ _ c.num-kind.ensures.value c.owner_kind-2.ensures _ w refl) c.find_owner.ensures _ w c.in-Some.is c.find_owner-in-RequirementRow.ensures c.is_none.ensures

pub returns-in-ConstraintRow : goal.returns-in-ConstraintRow
returns-in-ConstraintRow c =
    let w = c.in-Some-owner_kind.is ∙ ap Some c.in-ConstraintRow.is in
    of_constraint _ _ c.num-kind.ensures.value c.owner_kind-2.ensures (early _ _ c.num-kind.ensures.value c.owner_kind-2.ensures _ w refl) c.find_owner.ensures _ w c.in-Some.is c.has_members.ensures

pub returns-in_default-owner : goal.returns-in_default-owner
returns-in_default-owner c =
    standing _ _ c.num-kind.ensures.value c.owner_kind-2.ensures c.find_owner.ensures _ _ c.in-Some-owner_kind.is c.in_default-owner.not-RequirementRow c.in_default-owner.not-ConstraintRow c.in-Some.is
