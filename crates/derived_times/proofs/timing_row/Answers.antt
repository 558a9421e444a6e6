use Rattle.loops.proofs.BranchLaws.{told}
use Rattle.sheet.proofs.Lookups.{found_low}
use Rattle.pieces.proofs.Chains.{timings_blind}
use Rattle.derived_times.proofs.Parts.{kind_9, kind_10, row_earlier}
use borrow.Author.Rules.{rules}
use borrow.Author.Tests.{not-false}
use Rattle.derived_times.proofs.timing_row.Goals as goal

pub find_naming-speed-requires : goal.find_naming-speed-requires
find_naming-speed-requires c = rw c.by_owner-by_owner.ensures (search (rules, found_low), search (rules, timings_blind, kind_9))

pub find_naming-fixed-requires : goal.find_naming-fixed-requires
find_naming-fixed-requires c = rw c.by_owner-by_owner.ensures (search (rules, found_low), search (rules, timings_blind, kind_10))

pub returns : goal.returns
returns c =
    let e = c.by_owner-by_owner.ensures in
    row_earlier _ _ _ _ (search (rules, told, not-false)) c.num-a.ensures.value c.num-b.ensures.value
    (rw e at c.find_naming-speed.ensures) (rw e at c.find_naming-fixed.ensures) c.earlier.ensures
