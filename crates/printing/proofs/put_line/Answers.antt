use borrow.Author.Rules.{rules}
use Rattle.loops.specs.Range.{collect}
use Rattle.printing.specs.NumberLines.{number_line}
use Rattle.loops.proofs.StoreLaws.{wrote_none}
use Rattle.printing.proofs.PutLaws.{wrote_line, wrote_upto}
use Rattle.printing.proofs.put_line.Goals as goal

pub loop-c-init : goal.loop-c-init
unfolding collect
loop-c-init c = search (rules, wrote_none)

pub loop-c-preserved : goal.loop-c-preserved
loop-c-preserved c = search (rules, wrote_line)

pub returns : goal.returns
unfolding number_line
returns c = search (rules, wrote_upto)
