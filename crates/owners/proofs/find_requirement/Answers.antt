use Prim.Native.Nat.{ℕ}
use mathlib.Core.Path.{◌≡◌, ap, ◌∙◌}
use mathlib.Core.Bool.{Bool}
use mathlib.Core.List.{List}
use Rattle.std.specs.Prelude.{Option, slice_get}
use Rattle.loops.specs.Lists.{head}
use Rattle.chains.specs.Places.{places}
use Rattle.chains.proofs.WalkLaws.{walk_front, walk_behind, walk_short}
use Rattle.rows.specs.Cells.{row_count}
use Rattle.sheet.specs.Places.{named, nth_place}
use Rattle.sheet.proofs.Lookups.{nth_places}
use Rattle.owners.proofs.find_requirement.Goals.{then-m-gt0+in_ok-nth, else-m-gt0}
use Rattle.owners.proofs.find_requirement.Goals as goal

-- number m of a walk's places
of_walk : (p : ℕ → Bool) (m n : ℕ) {l : List ℕ} {r : Option ℕ} → l ≡ places p n → r ≡ slice_get l m → r ≡ nth_place p m n
of_walk p m n w e = e ∙ ap (λ l. slice_get l m) w ∙ nth_places p m n

pub returns-in_err-nth : goal.returns-in_err-nth
returns-in_err-nth c =
    of_walk (named c.args.rows.now 5 c.args.activity) c.args.m (row_count c.args.rows.now) c.named-left.ensures.places
    (c.from_residual.ensures ∙ walk_short c.args.m _ c.if-m-gt0.true c.nth.ensures.ran c.in_err-nth.was)

pub returns : goal.returns
returns c =
    of_walk (named c.args.rows.now 5 c.args.activity) c.args.m (row_count c.args.rows.now) c.named-left.ensures.places
    (c.peek.ensures ∙ elim c.if-m-gt0.branch [
      | then-m-gt0+in_ok-nth w ↦ ap head w.left-is ∙ walk_behind c.args.m w.in_ok-nth.field-0 _ w.if-m-gt0.true w.nth.ensures.ran w.in_ok-nth.was
      | else-m-gt0 w ↦ ap head w.left-is ∙ walk_front _ c.args.m w.if-m-gt0.false
    ])
