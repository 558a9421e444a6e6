-- What the work end means, said of the set of working milliseconds alone: an end is the first instant at which that much working
-- time has gone by, and never is the answer exactly if it never goes by. One answer only has that meaning. Assumes nothing.
use Prim.Native.Nat.{ℕ, zero, suc, ◌+◌, ◌-◌, ◌<◌, ◌≤◌}
use mathlib.Core.Path.{◌≡◌, refl, sym, ap, subst, ◌∙◌}
use mathlib.Core.Logic.{⊎_elim}
use mathlib.Core.Bool.{Bool, true, false, true≢false, cond}
use mathlib.Core.List.{List}
use native.Mathlib.Nat.{not-suc-le-zero, sub_self}
use native.Mathlib.Omega.{arith}
use lib.IntN.{ℤ, pos, ◌+ℤ◌}
use Rattle.loops.specs.Numbers.{to_nat}
use Rattle.calendar.specs.Clock.{Clock, clock}
use Rattle.calendar.specs.Calendar.{Calendar, joint_working}
use Rattle.calendar.specs.Amount.{one, count, since}
use Rattle.calendar.specs.WorkEnd.{Ending, ends_at, pauses, never, map_ending, after, end_in, reaches, end_after, end_from, joint_work_end}
use Rattle.calendar.proofs.Tests.{le_or_lt}
use Rattle.calendar.proofs.Counts.{count_split, count_const}
use Rattle.calendar.proofs.Settled.{joint_settled}

-- e is the first instant from t on at which `work` milliseconds that pass the test have gone by
pub record EndsAt (p : ℕ → Bool) (t work e : ℕ) : Type 0 where
  pub from : t ≤ e
  pub whole : count p t (e - t) ≡ work
  pub first : (n : ℕ) → n < e - t → count p t n < work

-- what an answer says of the set of instants that pass the test
abbrev pub Means : (ℕ → Bool) → ℕ → ℕ → Ending ℕ → Type 0
Means p t work (ends_at e) = EndsAt p t work e
Means p t work pauses = ⊥
Means p t work never = (n : ℕ) → count p t n < work

-- the same, for a look at n milliseconds
abbrev MeansIn : (ℕ → Bool) → ℕ → ℕ → ℕ → Ending ℕ → Type 0
MeansIn p n t work (ends_at e) = EndsAt p t work e
MeansIn p n t work pauses = ⊥
MeansIn p n t work never = count p t n < work

module _ (p : ℕ → Bool) where
  count_suc : (a n : ℕ) → count p a (suc n) ≡ one (p a) + count p (suc a) n
  unfolding count
  count_suc a n = refl

  count_zero : (a : ℕ) → count p a 0 ≡ 0
  unfolding count
  count_zero a = refl

  spent : (v : Bool) (left : ℕ) → one v + after v left ≡ suc left
  spent true left = omega arith
  spent false left = omega arith

  ends_now : (t : ℕ) → EndsAt p t 0 t
  ends_now t = record {
    from = omega arith;
    whole = rw (sub_self t) (count_zero t);
    first = λ n l. absurd (not-suc-le-zero (rw (sub_self t) at l));
  }

  -- one millisecond earlier
  ends_back : (v : Bool) (t left e : ℕ) → p t ≡ v → EndsAt p (suc t) (after v left) e → EndsAt p t (suc left) e
  ends_back v t left e q h = record {
    from = omega (arith, h.from);
    whole =
        (let z : e - t ≡ suc (e - suc t) = omega (arith, h.from) in
        rw (z, count_suc t (e - suc t), q, h.whole) (spent v left));
    first = before;
  }
    where
      before : (n : ℕ) → n < e - t → count p t n < suc left
      before zero l = rw (count_zero t) (omega arith)
      before (suc n) l = rw (count_suc t n, q) (omega (arith, spent v left, h.first n (omega arith)))

  means_back : (v : Bool) (n t left : ℕ) (x : Ending ℕ) → p t ≡ v → MeansIn p n (suc t) (after v left) x → MeansIn p (suc n) t (suc left) x
  means_back v n t left (ends_at e) q h = ends_back v t left e q h
  means_back v n t left pauses q h = h
  means_back v n t left never q h = rw (count_suc t n, q) (omega (arith, spent v left))

  means_in : (n t work : ℕ) → MeansIn p n t work (end_in p n t work)
  unfolding end_in
  means_in zero t zero = ends_now t
  means_in zero t (suc left) = rw (count_zero t) (omega arith)
  means_in (suc n) t zero = ends_now t
  means_in (suc n) t (suc left) = means_back (p t) n t left (end_in p n (suc t) (after (p t) left)) refl (means_in n (suc t) (after (p t) left))

  -- the answer is the only one with its meaning
  pub means_unique : (t work : ℕ) (x y : Ending ℕ) → Means p t work x → Means p t work y → x ≡ y
  means_unique t work (ends_at e) (ends_at e') h h' =
      ap ends_at
      (⊎_elim
      (λ l. ⊎_elim
      (λ l'. omega arith)
      (λ l'. absurd (omega (arith, h.whole, h'.first (e - t) (omega (arith, h.from)))))
      (le_or_lt e' e))
      (λ l. absurd (omega (arith, h'.whole, h.first (e' - t) (omega (arith, h'.from)))))
      (le_or_lt e e'))
  means_unique t work (ends_at e) pauses h h' = absurd h'
  means_unique t work (ends_at e) never h h' = absurd (omega (arith, h.whole, h' (e - t)))
  means_unique t work pauses y h h' = absurd h
  means_unique t work never (ends_at e) h h' = absurd (omega (arith, h'.whole, h (e - t)))
  means_unique t work never pauses h h' = absurd h'
  means_unique t work never never h h' = refl

-- from t + h on the test does not change, so a look at h + work numbers is enough
module _ (p : ℕ → Bool) (t h : ℕ) (settled : (u : ℕ) → t + h ≤ u → p u ≡ p (t + h)) where
  more_is_in_vain : (v : Bool) (work n : ℕ) → p (t + h) ≡ v → count p t (h + work) < work → h + work < n → count p t n < work
  more_is_in_vain true work n q l l' =
      absurd
      (omega (
        arith,
        count_split p h work t,
        count_const p true work (t + h) (λ u m m'. settled u m ∙ q),
      ))
  more_is_in_vain false work n q l l' =
      let z : n ≡ (h + work) + (n - (h + work)) = omega arith in
      rw z
      (omega (
        arith,
        count_split p (h + work) (n - (h + work)) t,
        count_const p false (n - (h + work)) (t + (h + work)) (λ u m m'. settled u (omega arith) ∙ q),
      ))

  enough : (work n : ℕ) → count p t (h + work) < work → count p t n < work
  enough work n l =
      ⊎_elim
      (λ m.
      let z : n + (h + work - n) ≡ h + work = omega arith in
      omega (arith, rw z at (count_split p n (h + work - n) t)))
      (λ m. more_is_in_vain (p (t + h)) work n refl l m)
      (le_or_lt n (h + work))

  whole_look : (work : ℕ) (x : Ending ℕ) → MeansIn p (h + work) t work x → Means p t work x
  whole_look work (ends_at e) l = l
  whole_look work pauses l = l
  whole_look work never l = λ n. enough work n l

  -- the end is the first number at which that much has gone by, and never is said exactly if it never goes by
  pub settled_means : (work : ℕ) → Means p t work (end_in p (h + work) t work)
  settled_means work = whole_look work (end_in p (h + work) t work) (means_in p (h + work) t work)

-- of calendars: after so many milliseconds that much working time has gone by for the first time; never exactly if it never goes by
pub end_means : (cs : List (Calendar ℤ)) (t : ℤ) (work : ℕ) → Means (since clock cs t) 0 work (end_after clock cs t work)
unfolding end_after
end_means cs t work =
    settled_means (since clock cs t) 0 (reaches clock t cs) (λ u l. joint_settled t cs u (0 + reaches clock t cs) (omega arith) (omega arith)) work

-- so whatever has that meaning is the end
pub end_is : (cs : List (Calendar ℤ)) (t : ℤ) (work : ℕ) (x : Ending ℕ) → Means (since clock cs t) 0 work x → end_after clock cs t work ≡ x
end_is cs t work x h = means_unique (since clock cs t) 0 work (end_after clock cs t work) x (end_means cs t work) h

-- ---- what the answers say, over any clock

-- after n milliseconds, and not before, `work` working milliseconds have gone by
pub record EndsAfter (p : ℕ → Bool) (work n : ℕ) : Type 0 where
  pub whole : count p 0 n ≡ work
  pub first : (m : ℕ) → m < n → count p 0 m < work

module _ {T : Type 0} (K : Clock T) (cs : List (Calendar T)) (t : T) (work : ℕ) where
  -- the end from t, whether t is working time or not
  abbrev pub Tells : Ending T → Type 0
  Tells (ends_at e) = (n : ℕ) × ((e ≡ K.plus t (pos n)) × EndsAfter (since K cs t) work n)
  Tells pauses = ⊥
  Tells never = (n : ℕ) → count (since K cs t) 0 n < work

  -- the work end, with its pause
  abbrev pub Says : Ending T → Type 0
  Says (ends_at e) = (joint_working K cs t ≡ true) × Tells (ends_at e)
  Says pauses = joint_working K cs t ≡ false
  Says never = (joint_working K cs t ≡ true) × Tells never

  told : (x : Ending ℕ) → Means (since K cs t) 0 work x → Tells (map_ending (λ k. K.plus t (pos k)) x)
  told (ends_at n) h =
      let z : n - 0 ≡ n = omega arith in
      (n, (refl, record { whole = rw z at h.whole; first = λ m l. h.first m (omega arith) }))
  told pauses h = h
  told never h = h

pub end_from_tells : (cs : List (Calendar ℤ)) (t : ℤ) (work : ℕ) → Tells clock cs t work (end_from clock cs t work)
unfolding end_from
end_from_tells cs t work = told clock cs t work (end_after clock cs t work) (end_means cs t work)

pub work_end_says : (cs : List (Calendar ℤ)) (t work : ℤ) → Says clock cs t (to_nat work) (joint_work_end clock cs t work)
unfolding joint_work_end
work_end_says cs t work = go (joint_working clock cs t) refl (end_from clock cs t (to_nat work)) (end_from_tells cs t (to_nat work))
  where
    go : (v : Bool) → joint_working clock cs t ≡ v → (x : Ending ℤ) → Tells clock cs t (to_nat work) x → Says clock cs t (to_nat work) (cond v x pauses)
    go true e (ends_at s) h = (e, h)
    go true e pauses h = absurd h
    go true e never h = (e, h)
    go false e x h = e

module _ {T : Type 0} (K : Clock T) (cs : List (Calendar T)) (t : T) (work : ℕ) where
  after_unique : (n m : ℕ) → EndsAfter (since K cs t) work n → EndsAfter (since K cs t) work m → n ≡ m
  after_unique n m h h' =
      ⊎_elim
      (λ l. ⊎_elim (λ l'. omega arith) (λ l'. absurd (omega (arith, h.whole, h'.first n l'))) (le_or_lt m n))
      (λ l. absurd (omega (arith, h'.whole, h.first m l)))
      (le_or_lt n m)

  -- one answer only says what it says
  pub tells_unique : (x y : Ending T) → Tells K cs t work x → Tells K cs t work y → x ≡ y
  tells_unique (ends_at e) (ends_at e') h h' =
      ap ends_at (h.1.0 ∙ ap (λ (n : ℕ). K.plus t (pos n)) (after_unique h.0 h'.0 h.1.1 h'.1.1) ∙ sym h'.1.0)
  tells_unique (ends_at e) pauses h h' = absurd h'
  tells_unique (ends_at e) never h h' = absurd (omega (arith, h.1.1.whole, h' h.0))
  tells_unique pauses y h h' = absurd h
  tells_unique never (ends_at e) h h' = absurd (omega (arith, h'.1.1.whole, h h'.0))
  tells_unique never pauses h h' = absurd h'
  tells_unique never never h h' = refl

  pub says_unique : (x y : Ending T) → Says K cs t work x → Says K cs t work y → x ≡ y
  says_unique (ends_at e) (ends_at e') h h' = tells_unique (ends_at e) (ends_at e') h.1 h'.1
  says_unique (ends_at e) pauses h h' = absurd (true≢false (sym h.0 ∙ h'))
  says_unique (ends_at e) never h h' = tells_unique (ends_at e) never h.1 h'.1
  says_unique pauses (ends_at e) h h' = absurd (true≢false (sym h'.0 ∙ h))
  says_unique pauses pauses h h' = refl
  says_unique pauses never h h' = absurd (true≢false (sym h'.0 ∙ h))
  says_unique never (ends_at e) h h' = tells_unique never (ends_at e) h.1 h'.1
  says_unique never pauses h h' = absurd (true≢false (sym h.0 ∙ h'))
  says_unique never never h h' = refl

-- ---- the laws of the work end, one for each answer

module _ (cs : List (Calendar ℤ)) (t work : ℤ) where
  -- pause exactly if the start is no working millisecond
  pub pause_exactly :
      (joint_work_end clock cs t work ≡ pauses → joint_working clock cs t ≡ false)
      × (joint_working clock cs t ≡ false → joint_work_end clock cs t work ≡ pauses)
  pause_exactly = (
    λ e. subst (Says clock cs t (to_nat work)) e (work_end_says cs t work),
    λ h. says_unique clock cs t (to_nat work) (joint_work_end clock cs t work) pauses (work_end_says cs t work) h,
  )

  -- never exactly if the start is one and, however far one looks, too little working time follows
  pub never_exactly :
      (joint_work_end clock cs t work ≡ never → (joint_working clock cs t ≡ true) × ((n : ℕ) → count (since clock cs t) 0 n < to_nat work))
      × ((joint_working clock cs t ≡ true) × ((n : ℕ) → count (since clock cs t) 0 n < to_nat work) → joint_work_end clock cs t work ≡ never)
  never_exactly = (
    λ e. subst (Says clock cs t (to_nat work)) e (work_end_says cs t work),
    λ h. says_unique clock cs t (to_nat work) (joint_work_end clock cs t work) never (work_end_says cs t work) h,
  )

  -- an end n milliseconds after the start exactly if the start is one and by then, and not before, that much working time has passed
  pub end_exactly : (e : ℤ)
      → (joint_work_end clock cs t work ≡ ends_at e → (joint_working clock cs t ≡ true) × ((n : ℕ) × ((e ≡ t +ℤ pos n) × EndsAfter (since clock cs t) (to_nat work) n)))
      × ((joint_working clock cs t ≡ true) × ((n : ℕ) × ((e ≡ t +ℤ pos n) × EndsAfter (since clock cs t) (to_nat work) n)) → joint_work_end clock cs t work ≡ ends_at e)
  end_exactly e = (
    λ q. subst (Says clock cs t (to_nat work)) q (work_end_says cs t work),
    λ h. says_unique clock cs t (to_nat work) (joint_work_end clock cs t work) (ends_at e) (work_end_says cs t work) h,
  )
