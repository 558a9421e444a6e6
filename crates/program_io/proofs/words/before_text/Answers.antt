use Rattle.std.proofs.Common.{rules}
use Rattle.program_io.proofs.Wording.{found}
use Rattle.program_io.proofs.words.before_text.Goals as goal

pub returns-in-Some : goal.returns-in-Some
returns-in-Some c = search (rules, found c.args.text.now c.args.stop.now c.split_once.result c.split_once.ensures.cases)
