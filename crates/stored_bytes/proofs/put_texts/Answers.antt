use Rattle.stored_bytes.specs.inner.Bytes.{bytes_of}
use Rattle.stored_numbers.proofs.GivesLaws.{each_more, each_none}
use Rattle.stored_bytes.proofs.put_texts.Goals as goal

pub loop-line-preserved : goal.loop-line-preserved
loop-line-preserved c = each_more c.in-Some.ensures.steps bytes_of c.loop-line.invariant c.put_text-at.ensures

pub returns : goal.returns
returns c = each_none c.in-None.ensures.steps.0 bytes_of c.loop-line.invariant
