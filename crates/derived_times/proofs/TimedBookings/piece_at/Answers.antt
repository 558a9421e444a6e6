use Rattle.loops.proofs.BranchLaws.{told}
use Rattle.sheet.proofs.Lookups.{place_low}
use Rattle.derived_times.proofs.Parts.{piece_unsplit, piece_part}
use borrow.Author.Rules.{rules}
use Rattle.derived_times.proofs.TimedBookings.piece_at.Goals as goal

pub find_owned-requires : goal.find_owned-requires
find_owned-requires c = search (rules, place_low)

pub returns-in_default-clause-piece : goal.returns-in_default-clause-piece
returns-in_default-clause-piece c = search (rules, piece_unsplit, told)

pub returns-clause-piece : goal.returns-clause-piece
returns-clause-piece c = rw (c.part_of.ensures, c.cell-index.ensures, c.num-work.ensures.value, c.num-whole.ensures.value, c.num-overhead.ensures.value) (search (rules, piece_part, told))
