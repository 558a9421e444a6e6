-- What is expected of a call that writes to lent numbers, each of them 7. Assumes nothing.
use Rattle.std.specs.Prelude.{ℕ, Bool, true, cond, ◌&&◌, ◌≡◌, List, [], ◌++◌, ◌==◌, ℤ, pos, length, get_or, take, drop, replicate, Result, Ok, Err}
use Rattle.std.specs.List.{list_all, enumerate_from}
use Rattle.std.specs.Ordering.{int_eq}
use Rattle.loops.specs.Numbers.{to_nat}
use Rattle.refusals.specs.Refusals.{number_of}
use Rattle.refusals.specs.declared.Refusal.{Refusal}

-- the lent numbers are the first of those expected, and after them 7
abbrev pub as_expected : List ℤ → List ℤ → Bool
as_expected lent expected = list_all (λ p. int_eq p.1 (get_or expected p.0 (pos 7))) (enumerate_from 0 lent)

-- accepted with that count and those numbers, or refused so, with every lent number still 7
abbrev pub passes : Result ℕ Refusal → List ℤ → List ℤ → ℕ → ℕ → Bool
passes (Ok k) lent expected number place = (number == 0 && place == k) && as_expected lent expected
passes (Err e) lent expected number place = (number == number_of e.reason && place == e.place) && as_expected lent []

-- a number of the line that judges
abbrev pub number_at : List ℤ → ℕ → ℕ
number_at judging i = to_nat (get_or judging i (pos 0))

-- a call was lent the first of numbers that are all 7; what it answered, and what it left there and those after, pass
abbrev pub LentPasses : (List ℤ → Result ℕ Refusal → List ℤ → Type 0) → ℕ → List ℤ → ℕ → ℕ → Type 0
LentPasses Returns lent expected number place =
    (answer : Result ℕ Refusal) × (left : List ℤ) × Returns (take lent (replicate 8210 (pos 7))) answer left
    × (passes answer (left ++ drop lent (replicate 8210 (pos 7))) expected number place ≡ true)

-- a line LENT,NUMBER,PLACE judges a call so
abbrev pub CallPasses : (List ℤ → Result ℕ Refusal → List ℤ → Type 0) → List ℤ → List ℤ → Type 0
CallPasses Returns judging expected =
    (length judging ≡ 3) × LentPasses Returns (number_at judging 0) expected (number_at judging 1) (number_at judging 2)

-- how many lines a call is to write by a line LENT,NUMBER,PLACE: none where it is to refuse
abbrev pub lines_expected : List ℤ → ℕ
lines_expected judging = cond (number_at judging 1 == 0) (number_at judging 2) 0

-- what a verdict answers, as a call that counts nothing
abbrev pub answer_of : Result Unit Refusal → Result ℕ Refusal
answer_of (Ok _) = Ok 0
answer_of (Err e) = Err e

-- a line NUMBER,PLACE judges a verdict so
abbrev pub verdict_passes : List ℤ → Result Unit Refusal → Bool
verdict_passes judging verdict = length judging == 2 && passes (answer_of verdict) [] [] (number_at judging 0) (number_at judging 1)
