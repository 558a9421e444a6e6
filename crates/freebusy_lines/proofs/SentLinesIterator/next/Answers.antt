use Rattle.std.proofs.Common.{◌∙◌, arith, length, ap, sym, refl}
use borrow.Author.Tests.{eqb-true, eqb-false}
use Rattle.freebusy_lines.proofs.LineLaws.{sent_none, sent_turn}
use Rattle.freebusy_lines.proofs.SentLinesIterator.next.Goals as goal

pub returns-then-is_empty-clause-steps : goal.returns-then-is_empty-clause-steps
returns-then-is_empty-clause-steps c = let z = sent_none _ (eqb-true _ _ (sym c.is_empty.ensures ∙ c.if-is_empty.true)) in (z, z)

pub returns-clause-steps : goal.returns-clause-steps
returns-clause-steps c = sent_turn _ _ (eqb-false _ _ (sym c.is_empty.ensures ∙ c.if-is_empty.false)) c.first_line-bytes.ensures refl c.min-next.ensures

pub returns-clause-goes : goal.returns-clause-goes
returns-clause-goes c = record {
  on = λ _. (tt, tt, omega (arith, ap length (returns-clause-steps c)));
  keeps = tt;
  rests = λ _. tt;
}
