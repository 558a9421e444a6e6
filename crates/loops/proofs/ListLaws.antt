-- A list that is put together place by place, taken apart place by place: what a list function makes of `collect g n` is what a loop over the
-- places makes of g 0, g 1, ... Assumes nothing.
use Prim.Native.Nat.{ℕ, zero, suc, ◌+◌, ◌-◌, ◌<◌}
use mathlib.Core.Path.{◌≡◌, refl, ap, ap₂, sym, ◌∙◌}
use mathlib.Core.Bool.{Bool, true, false, cond, ◌&&◌, ◌||◌}
use mathlib.Core.List.{List, [], ◌∷◌, ◌++◌, map, foldl, foldl-append, append_assoc, append-nil}
use Rattle.std.specs.Prelude.{None, Some}
use native.Mathlib.Omega.{arith}
use lib.ListN.{length, take, drop, length-drop}
use lib.Seq.{take_all}
use Rattle.loops.specs.Lists.{given, keep, any_of, all_of, count_of, is_empty, head, last, each}
use Rattle.loops.specs.Range.{fold, collect}
use Rattle.loops.specs.Search.{or_else, first, any_below, some_if}

-- what follows a place, as a part that goes to the end
pub rest_is : {A : Type 0} (k : ℕ) (xs : List A) → take (length xs - k) (drop k xs) ≡ drop k xs
rest_is k xs = take_all (length xs - k) (drop k xs) (simp length-drop (omega arith))

-- a list of no elements, and one of some
pub none_ahead : {A : Type 0} (xs ys : List A) → length xs ≡ 0 → xs ++ ys ≡ ys
none_ahead [] ys e = refl
none_ahead (x ∷ xs) ys e = absurd (omega arith)

pub not_empty : {A : Type 0} (l : List A) → 0 < length l → is_empty l ≡ false
not_empty [] h = absurd (omega arith)
not_empty (x ∷ l) h = refl

pub each_append : {A B : Type 0} (f : A → List B) (l m : List A) → each f (l ++ m) ≡ each f l ++ each f m
unfolding each
each_append f [] m = refl
each_append f (x ∷ l) m = ap (λ y. f x ++ y) (each_append f l m) ∙ sym (append_assoc (f x) (each f l) (each f m))

-- two functions that agree
pub each_ext : {A B : Type 0} (f g : A → List B) → ((x : A) → f x ≡ g x) → (l : List A) → each f l ≡ each g l
unfolding each
each_ext f g h [] = refl
each_ext f g h (x ∷ l) = ap₂ ◌++◌ (h x) (each_ext f g h l)

-- of what is made of each
pub each_map : {A B C : Type 0} (f : B → List C) (g : A → B) (l : List A) → each f (map g l) ≡ each (λ x. f (g x)) l
unfolding each
each_map f g [] = refl
each_map f g (x ∷ l) = ap (λ y. f (g x) ++ y) (each_map f g l)

pub each_each : {A B C : Type 0} (f : B → List C) (g : A → List B) (l : List A) → each f (each g l) ≡ each (λ x. each f (g x)) l
unfolding each
each_each f g [] = refl
each_each f g (x ∷ l) = each_append f (g x) (each g l) ∙ ap (λ m. each f (g x) ++ m) (each_each f g l)

pub each_collect : {A B : Type 0} (f : A → List B) (g : ℕ → List A) (n : ℕ) → each f (collect g n) ≡ collect (λ k. each f (g k)) n
unfolding collect each
each_collect f g zero = refl
each_collect f g (suc n) = each_append f (collect g n) (g n) ∙ ap (λ l. l ++ each f (g n)) (each_collect f g n)

pub map_append : {A B : Type 0} (f : A → B) (l m : List A) → map f (l ++ m) ≡ map f l ++ map f m
map_append f [] m = refl
map_append f (x ∷ l) m = ap (λ y. f x ∷ y) (map_append f l m)

pub map_collect : {A B : Type 0} (f : A → B) (g : ℕ → List A) (n : ℕ) → map f (collect g n) ≡ collect (λ k. map f (g k)) n
unfolding collect
map_collect f g zero = refl
map_collect f g (suc n) = map_append f (collect g n) (g n) ∙ ap (λ l. l ++ map f (g n)) (map_collect f g n)

-- `keep` is `each` of what the test lets through
pub keep_each : {A : Type 0} (p : A → Bool) (l : List A) → keep p l ≡ each (λ x. given (p x) x) l
unfolding keep each
keep_each p [] = refl
keep_each p (x ∷ l) = ap (λ y. given (p x) x ++ y) (keep_each p l)

pub keep_append : {A : Type 0} (p : A → Bool) (l m : List A) → keep p (l ++ m) ≡ keep p l ++ keep p m
keep_append p l m = keep_each p (l ++ m) ∙ each_append (λ x. given (p x) x) l m ∙ sym (ap₂ ◌++◌ (keep_each p l) (keep_each p m))

pub keep_collect : {A : Type 0} (p : A → Bool) (g : ℕ → List A) (n : ℕ) → keep p (collect g n) ≡ collect (λ k. keep p (g k)) n
unfolding collect
keep_collect p g zero = unfold keep in refl
keep_collect p g (suc n) = keep_append p (collect g n) (g n) ∙ ap (λ l. l ++ keep p (g n)) (keep_collect p g n)

-- f of each element that passes the test
pub each_keep : {A B : Type 0} (f : A → List B) (p : A → Bool) (l : List A) → each f (keep p l) ≡ each (λ x. cond (p x) (f x) []) l
unfolding each keep
each_keep f p [] = refl
each_keep f p (x ∷ l) = go (p x) (each_keep f p l)
  where
    go : (b : Bool) → each f (keep p l) ≡ each (λ y. cond (p y) (f y) []) l → each f (given b x ++ keep p l) ≡ cond b (f x) [] ++ each (λ y. cond (p y) (f y) []) l
    go true h = ap (λ y. f x ++ y) h
    go false h = h

pub any_append : {A : Type 0} (p : A → Bool) (l m : List A) → any_of p (l ++ m) ≡ (any_of p l || any_of p m)
unfolding any_of
any_append p [] m = refl
any_append p (x ∷ l) m = go (p x) (any_append p l m)
  where
    go : (b : Bool) → any_of p (l ++ m) ≡ (any_of p l || any_of p m) → (b || any_of p (l ++ m)) ≡ ((b || any_of p l) || any_of p m)
    go true h = refl
    go false h = h

pub any_collect : {A : Type 0} (p : A → Bool) (g : ℕ → List A) (n : ℕ) → any_of p (collect g n) ≡ any_below (λ k. any_of p (g k)) n
unfolding collect any_below any_of
any_collect p g zero = refl
any_collect p g (suc n) = any_append p (collect g n) (g n) ∙ ap (λ b. b || any_of p (g n)) (any_collect p g n)

pub any_keep : {A : Type 0} (q p : A → Bool) (l : List A) → any_of q (keep p l) ≡ any_of (λ x. p x && q x) l
unfolding any_of keep
any_keep q p [] = refl
any_keep q p (x ∷ l) = go (p x) (any_keep q p l)
  where
    go : (b : Bool) → any_of q (keep p l) ≡ any_of (λ y. p y && q y) l → any_of q (given b x ++ keep p l) ≡ ((b && q x) || any_of (λ y. p y && q y) l)
    go true h = ap (λ y. q x || y) h
    go false h = h

pub any_map : {A B : Type 0} (q : B → Bool) (f : A → B) (l : List A) → any_of q (map f l) ≡ any_of (λ x. q (f x)) l
unfolding any_of
any_map q f [] = refl
any_map q f (x ∷ l) = ap (λ y. q (f x) || y) (any_map q f l)

pub all_append : {A : Type 0} (p : A → Bool) (l m : List A) → all_of p (l ++ m) ≡ (all_of p l && all_of p m)
unfolding all_of
all_append p [] m = refl
all_append p (x ∷ l) m = go (p x) (all_append p l m)
  where
    go : (b : Bool) → all_of p (l ++ m) ≡ (all_of p l && all_of p m) → (b && all_of p (l ++ m)) ≡ ((b && all_of p l) && all_of p m)
    go true h = h
    go false h = refl

pub count_append : {A : Type 0} (p : A → Bool) (l m : List A) → count_of p (l ++ m) ≡ count_of p l + count_of p m
unfolding count_of
count_append p [] m = omega arith
count_append p (x ∷ l) m = let h = count_append p l m in omega arith

pub count_collect : {A : Type 0} (p : A → Bool) (g : ℕ → List A) (n : ℕ) → count_of p (collect g n) ≡ fold (λ c k. c + count_of p (g k)) 0 n
unfolding collect fold count_of
count_collect p g zero = refl
count_collect p g (suc n) = count_append p (collect g n) (g n) ∙ ap (λ c. c + count_of p (g n)) (count_collect p g n)

pub foldl_collect : {A C : Type 0} (step : C → A → C) (b : C) (g : ℕ → List A) (n : ℕ) → foldl step b (collect g n) ≡ fold (λ c k. foldl step c (g k)) b n
unfolding collect fold
foldl_collect step b g zero = refl
foldl_collect step b g (suc n) = foldl-append step b (collect g n) (g n) ∙ ap (λ c. foldl step c (g n)) (foldl_collect step b g n)

pub head_append : {A : Type 0} (l m : List A) → head (l ++ m) ≡ or_else (head l) (head m)
head_append [] m = refl
head_append (x ∷ l) m = refl

pub head_collect : {A : Type 0} (g : ℕ → List A) (n : ℕ) → head (collect g n) ≡ first (λ k. head (g k)) n
unfolding collect first
head_collect g zero = refl
head_collect g (suc n) = head_append (collect g n) (g n) ∙ ap (λ x. or_else x (head (g n))) (head_collect g n)

-- the last element, of the second list if it has one
pub last_append : {A : Type 0} (l m : List A) → last (l ++ m) ≡ or_else (last m) (last l)
unfolding last
last_append {A = A} l [] = ap last (append-nil l)
last_append {A = A} [] (y ∷ m) = go m y
  where
    go : (m : List A) (y : A) → last (y ∷ m) ≡ or_else (last (y ∷ m)) None
    go [] y = refl
    go (z ∷ m) y = go m z
last_append {A = A} (x ∷ []) (y ∷ m) = go m y
  where
    go : (m : List A) (y : A) → last (y ∷ m) ≡ or_else (last (y ∷ m)) (Some x)
    go [] y = refl
    go (z ∷ m) y = go m z
last_append (x ∷ w ∷ l) (y ∷ m) = last_append (w ∷ l) (y ∷ m)

pub head_given : {A : Type 0} (b : Bool) (x : A) → head (given b x) ≡ some_if b x
head_given true x = refl
head_given false x = refl
