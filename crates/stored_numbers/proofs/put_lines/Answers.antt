use Rattle.stored_numbers.specs.inner.Gives.{line_gives}
use Rattle.stored_numbers.proofs.GivesLaws.{each_more, each_none}
use Rattle.stored_numbers.proofs.put_lines.Goals as goal

pub loop-line-preserved : goal.loop-line-preserved
loop-line-preserved c = each_more c.in-Some.ensures.steps (line_gives c.args.asked) c.loop-line.invariant c.put_line-at.ensures

pub returns : goal.returns
returns c = each_none c.in-None.ensures.steps.0 (line_gives c.args.asked) c.loop-line.invariant
