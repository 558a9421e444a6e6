use Rattle.freebusy.proofs.ShortLaws.{short_open}
use Rattle.freebusy.proofs.StepLaws.{short_read}
use borrow.Author.Rules.{rules}
use Rattle.freebusy.proofs.Lent.read_line.Goals as goal

pub returns-then-l-lt8 : goal.returns-then-l-lt8
returns-then-l-lt8 c =
    record {
      begun_value = search short_open;
      read_on = search short_read;
    }

pub returns : goal.returns
returns c =
    record {
      begun_value = search rules;
      read_on = search rules;
    }
