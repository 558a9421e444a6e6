-- From step to step: a place stays within the room and comes nearer to its end, or has one try less. Assumes nothing.
use Rattle.std.proofs.Common.{◌≡◌, refl, sym, ◌∙◌, ℕ, ◌+◌, ◌-◌, ◌*◌, ◌<◌, ◌≤◌, Bool, true, false, cond, arith, Result, Ok, Err, Continue, rules}
use borrow.Author.Tests.{leb-false, eqb-false}
use lib.Dec.{leb, eqb}
use Rattle.std.specs.declared.ops.ControlFlow.{ControlFlow}
use Rattle.std.specs.declared.ops.ControlFlow.TheVariants.{Break}
use Rattle.program_io.specs.Ending.{begun, further, again, after_moved, try_again, after}
use Rattle.program_io.specs.declared.steps.Place.{Place}
use Rattle.program_io.specs.declared.steps.End.{End}
use Rattle.program_io.specs.declared.steps.End.TheVariants.{Whole, Short, Failed}
use Rattle.program_io.specs.declared.system.Stop.{Stop}
use Rattle.program_io.specs.declared.system.Stop.TheVariants as stop

-- a place within the room, with a try left
pub record Within (place : Place) (room : ℕ) : Type 0 where
  pub inside : place.done ≤ room
  pub some : 1 ≤ place.left
  pub few : place.left ≤ 100

-- what a loop's turn makes less
abbrev pub ahead : Place → ℕ → ℕ
ahead place room = (room - place.done) * 100 + place.left

-- how a step goes on
data Onward (place : Place) (lent : ℕ) : Place → Type 0 where
  farther : (n : ℕ) → n < lent → (n ≡ 0 → ⊥) → Onward place lent (further place n)
  retried : 1 < place.left → Onward place lent (again place)

module _ (place : Place) (lent : ℕ) {next : Place} where
  moved_on : (n : ℕ) → Continue next ≡ after_moved place lent n → Onward place lent next
  unfolding after_moved
  moved_on n = go (leb lent n) (eqb n 0) (leb-false lent n) (eqb-false n 0)
    where
      go : (b z : Bool) → (b ≡ false → n < lent) → (z ≡ false → n ≡ 0 → ⊥)
          → Continue next ≡ cond b (Break Whole) (cond z (Break Short) (Continue (further place n))) → Onward place lent next
      go true z l f q = let w : ◌≡◌ {A = ℕ} 0 1 = cc in absurd (omega arith)
      go false true l f q = let w : ◌≡◌ {A = ℕ} 0 1 = cc in absurd (omega arith)
      go false false l f q = let e : next ≡ further place n = cc in rw e (farther n (l refl) (f refl))

  again_on : Continue next ≡ try_again place → Onward place lent next
  unfolding try_again
  again_on = go (leb place.left 1) (leb-false place.left 1)
    where
      go : (b : Bool) → (b ≡ false → 1 < place.left) → Continue next ≡ cond b (Break Failed) (Continue (again place)) → Onward place lent next
      go true l q = let w : ◌≡◌ {A = ℕ} 0 1 = cc in absurd (omega arith)
      go false l q = let e : next ≡ again place = cc in rw e (retried (l refl))

  goes_on : (got : Result ℕ Stop) → Continue next ≡ after place lent got → Onward place lent next
  goes_on (Ok n) q = moved_on n q
  goes_on (Err stop.Interrupted) q = again_on q
  goes_on (Err stop.Failed) q = let w : ◌≡◌ {A = ℕ} 0 1 = cc in absurd (omega arith)

onward_within : {place next : Place} {lent : ℕ} (room : ℕ) → Onward place lent next → place.done + lent ≡ room → Within place room → Within next room
onward_within room (farther n l z) e w = record { inside = omega (arith, w.inside); some = omega arith; few = omega arith }
onward_within room (retried l) e w = record { inside = w.inside; some = omega arith; few = omega (arith, w.few) }

onward_nearer : {place next : Place} {lent : ℕ} (room : ℕ) → Onward place lent next → place.done + lent ≡ room → Within place room → ahead next room < ahead place room
onward_nearer {place} {next} room (farther n l z) e w = let k : 0 < n = omega arith in omega (arith, w.some, k)
onward_nearer room (retried l) e w = omega arith

pub within_begun : {place : Place} (room : ℕ) → place ≡ begun → Within place room
within_begun room e = rw e (record { inside = omega arith; some = omega arith; few = omega arith })

-- a loop's turn: the step that it made, the room that it lent
module _ {step : ControlFlow End Place} (place next : Place) (lent room : ℕ) (got : Result ℕ Stop) (w : Within place room) (l : place.done + lent ≡ room)
    (e : step ≡ after place lent got) (q : step ≡ Continue next) where
  pub turn_within : Within next room
  turn_within = onward_within room (goes_on place lent got (sym q ∙ e)) l w

  pub turn_nearer : ahead next room < ahead place room
  turn_nearer = onward_nearer room (goes_on place lent got (sym q ∙ e)) l w

-- the same where the buffer is as long after the call as before it
module _ {step : ControlFlow End Place} (place next : Place) (lent new old room : ℕ) (got : Result ℕ Stop) (w : Within place room) (l : place.done + lent ≡ new)
    (m : new ≡ old) (k : old ≡ room) (e : step ≡ after place lent got) (q : step ≡ Continue next) where
  pub read_within : Within next room
  read_within = turn_within place next lent room got w (l ∙ m ∙ k) e q

  pub read_nearer : ahead next room < ahead place room
  read_nearer = turn_nearer place next lent room got w (l ∙ m ∙ k) e q

pub ruleset reading = (rules, within_begun, read_within, read_nearer)

pub ruleset writing = (rules, within_begun, turn_within, turn_nearer)
