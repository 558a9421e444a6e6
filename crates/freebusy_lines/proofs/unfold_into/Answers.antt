use Rattle.std.proofs.Common.{◌∙◌, sym, arith}
use Rattle.freebusy_lines.proofs.FoldLaws.{copied_fold, copied_byte, copied_count, copied_all}
use Rattle.freebusy_lines.proofs.unfold_into.Goals as goal

pub loop-rest-preserved-then-is_fold : goal.loop-rest-preserved-then-is_fold
loop-rest-preserved-then-is_fold c = copied_fold c.loop-rest.invariant (sym c.is_fold.ensures ∙ c.if-is_fold.true)

pub loop-rest-preserved : goal.loop-rest-preserved
loop-rest-preserved c = copied_byte c.loop-rest.invariant (omega arith) (omega arith) (sym c.is_fold.ensures ∙ c.if-is_fold.false)

pub returns-clause-value : goal.returns-clause-value
returns-clause-value c = copied_count c.loop-rest.invariant (omega arith) (omega arith)

pub returns-clause-to_after : goal.returns-clause-to_after
returns-clause-to_after c = copied_all c.loop-rest.invariant (omega arith) (omega arith)
