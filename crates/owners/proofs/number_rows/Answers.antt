use Rattle.std.proofs.Common.{rules, refl}
use Rattle.owners.proofs.Tables.{numbering_start, numbering_yes, numbering_no, numbering_end}
use Rattle.owners.proofs.number_rows.Goals as goal
use Rattle.owners.proofs.number_rows.Goals.{then-is_constraint, else-is_constraint}

pub loop-k-init : goal.loop-k-init
loop-k-init c = rw c.requires.1 (numbering_start c.args.rows.now _ refl)

pub returns : goal.returns
returns c = search (rules, numbering_end)

pub loop-k-preserved : goal.loop-k-preserved
loop-k-preserved c =
    elim c.if-is_constraint.branch [
      | then-is_constraint w ↦ search (rules, numbering_yes)
      | else-is_constraint w ↦ search (rules, numbering_no)
    ]
