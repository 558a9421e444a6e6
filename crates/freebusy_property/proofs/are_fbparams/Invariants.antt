use Rattle.std.proofs.Common.{◌≡◌}
use Rattle.freebusy_property.specs.Quotes.{unquoted_parts}
use Rattle.freebusy_property.specs.Property.{fbparam}
use Rattle.freebusy_property.specs.inner.Left.{unquoted_left}
use Rattle.freebusy_property.specs.inner.Reading.{fbparam_from}
use Rattle.freebusy_property.proofs.are_fbparams.Given as goal

abbrev pub invariant-loop-p : goal.invariant-loop-p
invariant-loop-p l = record {
  can : (goal.iterator-loop-p).can_next l.p-iterator;
  ends : (goal.iterator-loop-p).is_finite l.p-iterator;
  same : fbparam_from l.typed (unquoted_left l.p-iterator.stop l.p-iterator.rest) ≡ fbparam (unquoted_parts 59 l.s);
}
