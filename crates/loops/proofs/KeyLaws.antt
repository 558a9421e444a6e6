-- An ordered map that is filled entry by entry, as a list over all keys: with natural numbers for keys, all below some bound, each key's entry stands at
-- its place. So to go through the map is to go from key to key. Assumes nothing.
use Prim.Native.Nat.{ℕ, zero, suc, ◌<◌, ◌≤◌}
use mathlib.Core.Path.{◌≡◌, refl, ap, ap₂, sym, ◌∙◌}
use mathlib.Core.Bool.{Bool, true, false, cond, ◌&&◌, ◌||◌, or-false, or-true}
use mathlib.Core.List.{List, [], ◌∷◌, ◌++◌, map, foldl, append_assoc, append-nil}
use native.Mathlib.Omega.{arith}
use native.Mathlib.Decide.{ℕ_discrete}
use lib.Dec.{eqb, ltb}
use borrow.Author.Tests.{eq-eqb, ne_eqb, lt-ltb, le-ltb, ltb-true}
use Rattle.loops.specs.Lists.{given, keep, any_of, all_of}
use Rattle.loops.specs.Range.{collect}
use Rattle.loops.specs.Ordered.{Entry, entry, upsert, values}
use Rattle.loops.proofs.BoolLaws.{and_left, and_right}
use Rattle.loops.proofs.RangeLaws.{collect_ext}
use Rattle.loops.proofs.ListLaws.{keep_append, any_append, all_append}
use Rattle.loops.proofs.PartLaws.{collect_nothing}

-- ---- natural numbers for keys

module _ {A B : Type 0} (valid : A → Bool) (before : A → A → Bool) (number : A → ℕ)
    (order : (x y : A) → valid x ≡ true → valid y ≡ true → before x y ≡ ltb (number x) (number y)) where
  abbrev numbered : List (Entry A B) → List (Entry ℕ B)
  numbered m = map (λ e. entry (number e.key) e.value) m

  abbrev sound : List (Entry A B) → Bool
  sound m = all_of (λ e. valid e.key) m

  numbered_values : (m : List (Entry A B)) → values (numbered m) ≡ values m
  numbered_values [] = refl
  numbered_values (e ∷ m) = ap (λ l. e.value ∷ l) (numbered_values m)

  module _ (k : A) (d : B) (f : B → B) (v : valid k ≡ true) where
    numbered_upsert : (m : List (Entry A B)) → sound m ≡ true → numbered (upsert before k d f m) ≡ upsert ltb (number k) d f (numbered m)
    unfolding upsert all_of
    numbered_upsert [] h = refl
    numbered_upsert (e ∷ m) h =
        let u : valid e.key ≡ true = and_left (valid e.key) (all_of (λ e. valid e.key) m) h in
        rw (order k e.key v u, order e.key k u v)
        (go (ltb (number k) (number e.key)) (ltb (number e.key) (number k)) (numbered_upsert m (and_right (valid e.key) (all_of (λ e. valid e.key) m) h)))
      where
        go : (a b : Bool) → numbered (upsert before k d f m) ≡ upsert ltb (number k) d f (numbered m)
            → numbered (cond a (entry k (f d) ∷ e ∷ m) (cond b (e ∷ upsert before k d f m) (entry e.key (f e.value) ∷ m)))
            ≡ cond a (entry (number k) (f d) ∷ entry (number e.key) e.value ∷ numbered m)
            (cond b (entry (number e.key) e.value ∷ upsert ltb (number k) d f (numbered m)) (entry (number e.key) (f e.value) ∷ numbered m))
        go true b r = refl
        go false true r = ap (λ l. entry (number e.key) e.value ∷ l) r
        go false false r = refl

    sound_upsert : (m : List (Entry A B)) → sound m ≡ true → sound (upsert before k d f m) ≡ true
    unfolding upsert all_of
    sound_upsert [] h = rw v
    sound_upsert (e ∷ m) h =
        go (before k e.key) (before e.key k) (and_left (valid e.key) (all_of (λ e. valid e.key) m) h)
        (and_right (valid e.key) (all_of (λ e. valid e.key) m) h) (sound_upsert m (and_right (valid e.key) (all_of (λ e. valid e.key) m) h))
      where
        go : (a b : Bool) → valid e.key ≡ true → all_of (λ e. valid e.key) m ≡ true → all_of (λ e. valid e.key) (upsert before k d f m) ≡ true
            → all_of (λ e. valid e.key) (cond a (entry k (f d) ∷ e ∷ m) (cond b (e ∷ upsert before k d f m) (entry e.key (f e.value) ∷ m))) ≡ true
        go true b p q r = rw (v, p) q
        go false true p q r = rw p r
        go false false p q r = rw p q

  -- a map that is filled from a list
  module _ {C : Type 0} (key : C → A) (d : C → B) (f : C → B → B) where
    pub numbered_fold : (l : List C) (m : List (Entry A B)) → all_of (λ c. valid (key c)) l ≡ true → sound m ≡ true
        → values (foldl (λ m c. upsert before (key c) (d c) (f c) m) m l) ≡ values (foldl (λ m c. upsert ltb (number (key c)) (d c) (f c) m) (numbered m) l)
    unfolding all_of
    numbered_fold [] m h s = sym (numbered_values m)
    numbered_fold (c ∷ l) m h s =
        let v : valid (key c) ≡ true = and_left (valid (key c)) (all_of (λ c. valid (key c)) l) h in
        numbered_fold l (upsert before (key c) (d c) (f c) m) (and_right (valid (key c)) (all_of (λ c. valid (key c)) l) h) (sound_upsert (key c) (d c) (f c) v m s)
        ∙ ap (λ x. values (foldl (λ m c. upsert ltb (number (key c)) (d c) (f c) m) x l)) (numbered_upsert (key c) (d c) (f c) v m s)

-- ---- an entry at its place

module _ {B : Type 0} (k : ℕ) (d : B) (f : B → B) where
  -- an entry with a greater key stays last
  upsert_below : (m : List (Entry ℕ B)) (b : Bool) (n : ℕ) (v : B) → k < n
      → upsert ltb k d f (m ++ given b (entry n v)) ≡ upsert ltb k d f m ++ given b (entry n v)
  unfolding upsert
  upsert_below [] true n v h = rw (lt-ltb k n h)
  upsert_below [] false n v h = refl
  upsert_below (e ∷ m) b n v h = go (ltb k e.key) (ltb e.key k) (upsert_below m b n v h)
    where
      go : (p q : Bool) → upsert ltb k d f (m ++ given b (entry n v)) ≡ upsert ltb k d f m ++ given b (entry n v)
          → cond p (entry k (f d) ∷ e ∷ (m ++ given b (entry n v))) (cond q (e ∷ upsert ltb k d f (m ++ given b (entry n v))) (entry e.key (f e.value) ∷ (m ++ given b (entry n v))))
          ≡ cond p (entry k (f d) ∷ e ∷ m) (cond q (e ∷ upsert ltb k d f m) (entry e.key (f e.value) ∷ m)) ++ given b (entry n v)
      go true q r = refl
      go false true r = ap (λ l. e ∷ l) r
      go false false r = refl

  -- entries with lesser keys stay first
  upsert_above : (m r : List (Entry ℕ B)) → all_of (λ e. ltb e.key k) m ≡ true → upsert ltb k d f (m ++ r) ≡ m ++ upsert ltb k d f r
  unfolding upsert all_of
  upsert_above [] r h = refl
  upsert_above (e ∷ m) r h =
      let a : ltb e.key k ≡ true = and_left (ltb e.key k) (all_of (λ e. ltb e.key k) m) h in
      let l : e.key < k = ltb-true e.key k a in
      rw (le-ltb k e.key (omega arith), a) (ap (λ l. e ∷ l) (upsert_above m r (and_right (ltb e.key k) (all_of (λ e. ltb e.key k) m) h)))

module _ {B : Type 0} (b : ℕ → Bool) (v : ℕ → B) where
  abbrev at : ℕ → List (Entry ℕ B)
  at q = given (b q) (entry q (v q))

  keys_below : (n m : ℕ) → n ≤ m → all_of (λ e. ltb e.key m) (collect at n) ≡ true
  unfolding collect all_of
  keys_below zero m h = refl
  keys_below (suc n) m h = all_append (λ e. ltb e.key m) (collect at n) (at n) ∙ ap₂ ◌&&◌ (keys_below n m (omega arith)) (go (b n))
    where
      go : (c : Bool) → all_of (λ e. ltb e.key m) (given c (entry n (v n))) ≡ true
      go true = rw (lt-ltb n m h)
      go false = refl

  module _ (k : ℕ) (d : B) (f : B → B) where
    abbrev after : ℕ → List (Entry ℕ B)
    after q = given (b q || eqb k q) (entry q (cond (eqb k q) (f (cond (b q) (v q) d)) (v q)))

    other : (q : ℕ) → (k ≡ q → ⊥) → at q ≡ after q
    other q h = rw (ne_eqb k q h, or-false (b q))

    here : (n : ℕ) → k ≡ n → upsert ltb k d f (at n) ≡ after n
    unfolding upsert
    here n h = rw (eq-eqb k n h, or-true (b n), h) (go (b n))
      where
        go : (c : Bool) → upsert ltb n d f (given c (entry n (v n))) ≡ entry n (f (cond c (v n) d)) ∷ []
        go true = rw (le-ltb n n (omega arith))
        go false = refl

    upsert_collect : (n : ℕ) → k < n → upsert ltb k d f (collect at n) ≡ collect after n
    unfolding collect
    upsert_collect zero h = absurd (omega arith)
    upsert_collect (suc n) h = go (ℕ_discrete k n) (λ l. upsert_collect n l)
      where
        go : Dec (k ≡ n) → (k < n → upsert ltb k d f (collect at n) ≡ collect after n) → upsert ltb k d f (collect at n ++ at n) ≡ collect after n ++ after n
        go (yes e) r =
            upsert_above k d f (collect at n) (at n) (keys_below n k (omega arith))
            ∙ ap₂ ◌++◌ (collect_ext at after n (λ q l. other q (λ z. omega arith))) (here n e)
        go (no e) r = upsert_below k d f (collect at n) (b n) n (v n) (omega arith) ∙ ap₂ ◌++◌ (r (omega arith)) (other n e)

-- ---- lists by key

module _ {C : Type 0} (key : C → ℕ) (n : ℕ) where
  abbrev group : List C → ℕ → List (Entry ℕ (List C))
  group l q = given (any_of (λ c. eqb (key c) q) l) (entry q (keep (λ c. eqb (key c) q) l))

  abbrev join : List (Entry ℕ (List C)) → C → List (Entry ℕ (List C))
  join m c = upsert ltb (key c) [] (λ l. l ++ c ∷ []) m

  kept_none : (p : C → Bool) (l : List C) → any_of p l ≡ false → keep p l ≡ []
  unfolding any_of keep
  kept_none p [] h = refl
  kept_none p (c ∷ l) h = go (p c) h (kept_none p l)
    where
      go : (b : Bool) → (b || any_of p l) ≡ false → (any_of p l ≡ false → keep p l ≡ []) → given b c ++ keep p l ≡ []
      go true e r = absurd (let z : ◌≡◌ {A = ℕ} 0 1 = cc in omega arith)
      go false e r = r e

  joins : (l : List C) (c : C) (q : ℕ)
      → given (any_of (λ c. eqb (key c) q) l || eqb (key c) q)
      (entry q (cond (eqb (key c) q) (cond (any_of (λ c. eqb (key c) q) l) (keep (λ c. eqb (key c) q) l) [] ++ c ∷ []) (keep (λ c. eqb (key c) q) l)))
      ≡ group (l ++ c ∷ []) q
  joins l c q = rw (any_append (λ c. eqb (key c) q) l (c ∷ []), keep_append (λ c. eqb (key c) q) l (c ∷ [])) (go (any_of (λ c. eqb (key c) q) l) refl (eqb (key c) q) refl)
    where
      go : (a : Bool) → any_of (λ c. eqb (key c) q) l ≡ a → (b : Bool) → eqb (key c) q ≡ b
          → given (a || b) (entry q (cond b (cond a (keep (λ c. eqb (key c) q) l) [] ++ c ∷ []) (keep (λ c. eqb (key c) q) l)))
          ≡ given (a || any_of (λ c. eqb (key c) q) (c ∷ [])) (entry q (keep (λ c. eqb (key c) q) l ++ keep (λ c. eqb (key c) q) (c ∷ [])))
      go a e true h = unfold any_of keep in rw h (go₁ a e)
        where
          go₁ : (a : Bool) → any_of (λ c. eqb (key c) q) l ≡ a
              → given (a || true) (entry q (cond a (keep (λ c. eqb (key c) q) l) [] ++ c ∷ [])) ≡ given (a || true) (entry q (keep (λ c. eqb (key c) q) l ++ c ∷ []))
          go₁ true e = refl
          go₁ false e = rw (kept_none (λ c. eqb (key c) q) l e)
      go a e false h = unfold any_of keep in rw (h, or-false a, append-nil (keep (λ c. eqb (key c) q) l))

  grouped : (m l : List C) → all_of (λ c. ltb (key c) n) m ≡ true → foldl join (collect (group l) n) m ≡ collect (group (l ++ m)) n
  unfolding all_of
  grouped [] l h = ap (λ x. collect (group x) n) (sym (append-nil l))
  grouped (c ∷ m) l h =
      let a : ltb (key c) n ≡ true = and_left (ltb (key c) n) (all_of (λ c. ltb (key c) n) m) h in
      ap (λ x. foldl join x m)
      (upsert_collect (λ q. any_of (λ c. eqb (key c) q) l) (λ q. keep (λ c. eqb (key c) q) l) (key c) [] (λ l. l ++ c ∷ []) n (ltb-true (key c) n a)
      ∙ collect_ext _ _ n (λ q _. joins l c q))
      ∙ grouped m (l ++ c ∷ []) (and_right (ltb (key c) n) (all_of (λ c. ltb (key c) n) m) h)
      ∙ ap (λ x. collect (group x) n) (append_assoc l (c ∷ []) m)

  -- the lists of the keys, in the order of the keys
  pub by_key : (l : List C) → all_of (λ c. ltb (key c) n) l ≡ true
      → values (foldl join [] l) ≡ values (collect (λ q. given (any_of (λ c. eqb (key c) q) l) (entry q (keep (λ c. eqb (key c) q) l))) n)
  by_key l h = ap values (ap (λ x. foldl join x l) (sym (collect_nothing (group []) (λ q. unfold any_of in refl) n)) ∙ grouped l [] h)
