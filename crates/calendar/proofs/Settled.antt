-- Once every window has ended, working time does not change. For all whole instants. Assumes nothing.
use Prim.Native.Nat.{ℕ, ◌≤◌}
use mathlib.Core.Path.{◌≡◌, refl, ap, ap₂, ◌∙◌}
use mathlib.Core.Bool.{Bool, false, ◌&&◌, and-false}
use mathlib.Core.List.{List, [], ◌∷◌}
use native.Mathlib.Omega.{arith}
use lib.IntN.{ℤ, pos, negsuc, ◌+ℤ◌, ◌-ℤ◌, neg_ℤ, +ℤ_comm, +ℤ-neg_ℤ_cancel}
use lib.Signed.{lt_z}
use borrow.Author.Tests.{le-ltb}
use Rattle.loops.specs.Numbers.{to_nat}
use Rattle.calendar.specs.Clock.{clock, ahead}
use Rattle.loops.specs.Lists.{any_of, all_of}
use Rattle.calendar.specs.Calendar.{Window, Calendar, is_open, is_closed, contains, is_working_time, joint_working}
use Rattle.calendar.specs.WorkEnd.{reach, reaches}
use Rattle.calendar.proofs.Moving.{lt_z_add}

not_before : (z : ℤ) (n : ℕ) → to_nat z ≤ n → lt_z (pos n) z ≡ false
not_before (pos z) n h = le-ltb n z h
not_before (negsuc z) n h = refl

module _ (t : ℤ) where
  -- x has gone by after n milliseconds
  gone_by : (x : ℤ) (n : ℕ) → ahead clock t x ≤ n → lt_z (t +ℤ pos n) x ≡ false
  gone_by x n h =
      lt_z_add (t +ℤ pos n) x (neg_ℤ t)
      ∙ ap (λ z. lt_z z (x -ℤ t)) (ap (λ z. z +ℤ neg_ℤ t) (+ℤ_comm t (pos n)) ∙ +ℤ-neg_ℤ_cancel (pos n) t)
      ∙ not_before (x -ℤ t) n h

  any_gone : (k : Window ℤ → Bool) (l : Calendar ℤ) (n : ℕ) → reach clock t l ≤ n → any_of (λ x. k x && contains clock (t +ℤ pos n) x) l ≡ false
  unfolding any_of reach contains
  any_gone k [] n h = refl
  any_gone k (x ∷ l) n h =
      simp (gone_by x.end n (omega arith), any_gone k l n (omega arith), and-false)

  works_settled : (l : Calendar ℤ) (n m : ℕ) → reach clock t l ≤ n → reach clock t l ≤ m → is_working_time clock l (t +ℤ pos n) ≡ is_working_time clock l (t +ℤ pos m)
  unfolding is_working_time
  works_settled l n m h h' = rw (any_gone is_open l n h, any_gone is_closed l n h, any_gone is_open l m h', any_gone is_closed l m h')

  pub joint_settled : (cs : List (Calendar ℤ)) (n m : ℕ) → reaches clock t cs ≤ n → reaches clock t cs ≤ m → joint_working clock cs (t +ℤ pos n) ≡ joint_working clock cs (t +ℤ pos m)
  unfolding joint_working all_of reaches
  joint_settled [] n m h h' = refl
  joint_settled (l ∷ cs) n m h h' =
      ap₂ ◌&&◌ (works_settled l n m (omega arith) (omega arith)) (joint_settled cs n m (omega arith) (omega arith))
