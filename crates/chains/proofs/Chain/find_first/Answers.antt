use Rattle.std.proofs.Common.{rules}
use Rattle.loops.proofs.TableLaws.{first_found, first_absent}
use Rattle.chains.proofs.Chain.find_first.Goals as goal

pub returns-then-k-end_place : goal.returns-then-k-end_place
returns-then-k-end_place g c = search (rules, first_found)

pub returns : goal.returns
returns g c = search (rules, first_absent)
