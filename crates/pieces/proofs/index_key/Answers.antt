use Rattle.loops.proofs.SignLaws.{cast_sign, cast_fits}
use borrow.Author.Rules.{rules}
use Rattle.pieces.proofs.Indices.{low, sum_fits, sum_sign, sum_held, sum_key, up_fits, up_key}
use Rattle.pieces.proofs.index_key.Goals as goal

pub returns-then-x-ltminus1000000 : goal.returns-then-x-ltminus1000000
returns-then-x-ltminus1000000 c = search (rules, low)

pub overflow_add-result : goal.overflow_add-result
overflow_add-result c = search (rules, sum_fits)

pub overflow_cast-result : goal.overflow_cast-result
overflow_cast-result c = (search (rules, sum_sign), search (rules, sum_held))

pub returns-then-x-lt0 : goal.returns-then-x-lt0
returns-then-x-lt0 c = search (rules, sum_key)

pub overflow_cast-result-2 : goal.overflow_cast-result-2
overflow_cast-result-2 c = (search (rules, cast_sign), search (rules, cast_fits))

pub overflow_add-result-2 : goal.overflow_add-result-2
overflow_add-result-2 c = search (rules, up_fits)

pub returns : goal.returns
returns c = search (rules, up_key)
