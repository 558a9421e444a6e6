use borrow.Author.Rules.{rules}
use Rattle.loops.proofs.BranchLaws.{told}
use Rattle.rows.specs.Cells.{row_count}
use Rattle.owners.specs.inner.Owners.{owned_by}
use Rattle.chains.proofs.PlaceLaws.{left_start, front_start, left_below, left_here, left_first, left_next}
use Rattle.check3_parts.proofs.Sums.{summed_start, summed_here, summed_whole, summed_new, summed_again, sum_fits, again_fits}
use Rattle.check3_parts.proofs.sum_of.Goals as goal

pub loop-k-init : goal.loop-k-init
loop-k-init g c =
    let e = c.into_iter-k-iterator.ensures.into_iter_gives in
    let h = c.owned_by-k-items.ensures.places in (
      left_start (owned_by c.args.rows.now c.args.o 23) (row_count c.args.rows.now) e h,
      summed_start _ _ _ (front_start (owned_by c.args.rows.now c.args.o 23) (row_count c.args.rows.now) e h),
    )

pub overflow_add-sum : goal.overflow_add-sum
overflow_add-sum g c =
    let e = c.in-Some.ensures.steps in
    let h = c.loop-k.invariant.0 in
    sum_fits _ _ _ c.owned_by-k-items.ensures.known.0 _ c.requires.steady (left_here _ _ e h) (search (rules, told)) c.num.ensures.value c.measure-sum.ensures
    (summed_here _ _ _ _ e c.loop-k.invariant.1) (left_below _ _ e h)

pub overflow_sub-sum : goal.overflow_sub-sum
overflow_sub-sum g c =
    let e = c.in-Some.ensures.steps in
    let h = c.loop-k.invariant.0 in
    again_fits _ _ _ c.owned_by-k-items.ensures.known.0 _ c.requires.steady (left_here _ _ e h) (search (rules, told)) c.num.ensures.value c.measure-sum.ensures
    (summed_here _ _ _ _ e c.loop-k.invariant.1) (search rules) c.measure-sum-in-Some-work_before.ensures (left_first _ _ e h)

pub loop-k-preserved-in-Some-work_before : goal.loop-k-preserved-in-Some-work_before
loop-k-preserved-in-Some-work_before g c =
    let e = c.in-Some.ensures.steps in
    let h = c.loop-k.invariant.0 in (
      left_next _ _ e h,
      summed_again _ _ _ c.owned_by-k-items.ensures.known.0 _ c.requires.steady (left_here _ _ e h) (search (rules, told)) c.num.ensures.value c.measure-sum.ensures
          (summed_here _ _ _ _ e c.loop-k.invariant.1) (search rules) c.measure-sum-in-Some-work_before.ensures (left_first _ _ e h),
    )

pub loop-k-preserved-in_default : goal.loop-k-preserved-in_default
loop-k-preserved-in_default g c =
    let e = c.in-Some.ensures.steps in
    let h = c.loop-k.invariant.0 in (
      left_next _ _ e h,
      summed_new _ _ _ c.owned_by-k-items.ensures.known.0 _ c.requires.steady (left_here _ _ e h) (search (rules, told)) c.num.ensures.value c.measure-sum.ensures
          (summed_here _ _ _ _ e c.loop-k.invariant.1) (search rules) (left_first _ _ e h),
    )

pub loop-k-preserved : goal.loop-k-preserved
loop-k-preserved g c =
    let e = c.in-Some.ensures.steps in
    let h = c.loop-k.invariant.0 in
    (left_next _ _ e h, summed_whole _ _ _ (search (rules, told)) (left_first _ _ e h) (summed_here _ _ _ _ e c.loop-k.invariant.1))
