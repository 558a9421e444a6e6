use borrow.Author.Rules.{rules}
use Rattle.check7_pair.proofs.Overlapping.{share_is, end_most}
use Rattle.check7_pair.proofs.Told.{both_told}
use Rattle.check7_pair.proofs.check_overlapping.Goals as goal

pub earliest_start-from-requires : goal.earliest_start-from-requires
earliest_start-from-requires c = search (rules, share_is)

pub report_end-requires : goal.report_end-requires
report_end-requires c = search (rules, end_most)

pub returns : goal.returns
returns c = search both_told fits 20000
