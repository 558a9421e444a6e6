use Rattle.std.proofs.Common.{◌∙◌, arith, length, ap, Option, Bor, List, ℕ}
use Rattle.freebusy_property.specs.inner.Left.{unquoted_left}
use Rattle.freebusy_property.proofs.QuoteLaws.{parts_turn}
use Rattle.freebusy_property.proofs.quotes.UnquotedPartsIterator.next.Goals as goal

pub returns-clause-steps : goal.returns-clause-steps
returns-clause-steps c =
    ap (λ (r : Option (Bor (List ℕ))). unquoted_left c.args.self.now.stop r) c.in_ok-self.was
    ∙ parts_turn _ _ _ _ c.args.self.now.no_quote c.split_unquoted.ensures.before c.split_unquoted.ensures.after

pub returns-clause-goes : goal.returns-clause-goes
returns-clause-goes c = record {
  on = λ _. (tt, tt, omega (arith, ap length (returns-clause-steps c)));
  keeps = tt;
  rests = λ _. tt;
}
