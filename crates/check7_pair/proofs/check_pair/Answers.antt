use borrow.Author.Rules.{rules}
use Rattle.model.proofs.Accepting.{activity_at_lem}
use Rattle.check7_end_to_start.proofs.Bounds.{start_most, end_most}
use Rattle.check7_pair.proofs.Overlapping.{overlap_row, no_overlap_lem, first_kind}
use Rattle.check7_pair.proofs.Told.{no_previous, in_order_lem, overlapping}
use Rattle.check7_pair.proofs.check_pair.Goals as goal

pub returns-in_default : goal.returns-in_default
returns-in_default c = search (rules, no_previous)

pub report_early-requires : goal.report_early-requires
report_early-requires c = search (rules, end_most)

pub returns-in_default-find_owned : goal.returns-in_default-find_owned
returns-in_default-find_owned c = search (rules, in_order_lem, no_overlap_lem, activity_at_lem, c.in_default-find_owned.ensures.place)

pub check_overlapping-requires : goal.check_overlapping-requires
check_overlapping-requires c = (search (rules, start_most), search (rules, end_most), search (rules, first_kind))

pub returns : goal.returns
returns c = search (rules, overlapping, overlap_row, activity_at_lem, c.in-Some.ensures.place)
