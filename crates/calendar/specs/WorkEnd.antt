-- When work ends that runs only in working time.
use Rattle.std.specs.Prelude.{ℕ, zero, suc, ◌+◌, max, Bool, true, false, cond, List, [], ◌∷◌, ℤ, pos}
use Rattle.loops.specs.Numbers.{to_nat}
use Rattle.calendar.specs.Clock.{Clock, ahead}
use Rattle.calendar.specs.Calendar.{Calendar, joint_working}
use Rattle.calendar.specs.Amount.{since}

-- at an instant; or the start is no working time; or too little working time follows
pub data Ending (T : Type 0) : Type 0 where
  ends_at : T → Ending T
  pauses : Ending T
  never : Ending T

abbrev pub map_ending : {A B : Type 0} → (A → B) → Ending A → Ending B
map_ending f (ends_at e) = ends_at (f e)
map_ending f pauses = pauses
map_ending f never = never

-- what is left of `suc left` milliseconds of work after one millisecond
abbrev pub after : Bool → ℕ → ℕ
after true left = left
after false left = suc left

-- The first number by which `left` numbers that pass the test have gone by since t; never if the n numbers from t on hold fewer.
unfoldable pub end_in : (ℕ → Bool) → ℕ → ℕ → ℕ → Ending ℕ
end_in p zero t zero = ends_at t
end_in p zero t (suc left) = never
end_in p (suc n) t zero = ends_at t
end_in p (suc n) t (suc left) = end_in p n (suc t) (after (p t) left)

module _ {T : Type 0} (K : Clock T) where
  -- the milliseconds from t on until every window of the calendar has ended; from there on its working time does not change
  unfoldable pub reach : T → Calendar T → ℕ
  reach t [] = 0
  reach t (x ∷ l) = max (ahead K t x.end) (reach t l)

  unfoldable pub reaches : T → List (Calendar T) → ℕ
  reaches t [] = 0
  reaches t (l ∷ cs) = max (reach t l) (reaches t cs)

  -- After how many milliseconds from t on `work` working milliseconds have gone by; never if too few follow.
  -- (That it is enough to look so far is a law: proofs/Laws.antt.)
  unfoldable pub end_after : List (Calendar T) → T → ℕ → Ending ℕ
  end_after cs t work = end_in (since K cs t) (reaches t cs + work) 0 work

  -- the instant at which they have
  unfoldable pub end_from : List (Calendar T) → T → ℕ → Ending T
  end_from cs t work = map_ending (λ k. K.plus t (pos k)) (end_after cs t work)

  -- the work end: pause where the start is no working time; work below zero counts as none
  unfoldable pub joint_work_end : List (Calendar T) → T → ℤ → Ending T
  joint_work_end cs t work = cond (joint_working K cs t) (end_from cs t (to_nat work)) pauses
