use Rattle.std.proofs.Common.{rules}
use Rattle.stored_numbers.proofs.PutLaws.{row_zeros}
use Rattle.stored_numbers.proofs.put_row.Goals as goal

pub returns : goal.returns
returns c = search (rules, row_zeros)
