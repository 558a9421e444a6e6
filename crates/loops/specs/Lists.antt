-- Lists, with tests that compute. Assumes nothing.
use Rattle.std.specs.Prelude.{ℕ, ◌+◌, Bool, true, false, cond, ◌&&◌, ◌||◌, List, [], ◌∷◌, ◌++◌, eqb}
use Rattle.std.specs.Prelude.{Option, None, Some}

module _ {A : Type 0} where
  -- x where the test holds, else nothing
  abbrev pub given : Bool → A → List A
  given true x = x ∷ []
  given false x = []

  unfoldable pub keep : (A → Bool) → List A → List A
  keep p [] = []
  keep p (x ∷ l) = given (p x) x ++ keep p l

  unfoldable pub any_of : (A → Bool) → List A → Bool
  any_of p [] = false
  any_of p (x ∷ l) = p x || any_of p l

  unfoldable pub all_of : (A → Bool) → List A → Bool
  all_of p [] = true
  all_of p (x ∷ l) = p x && all_of p l

  unfoldable pub count_of : (A → Bool) → List A → ℕ
  count_of p [] = 0
  count_of p (x ∷ l) = cond (p x) 1 0 + count_of p l

  abbrev pub is_empty : List A → Bool
  is_empty [] = true
  is_empty (x ∷ l) = false

  -- the first element
  abbrev pub head : List A → Option A
  head [] = None
  head (x ∷ l) = Some x

  unfoldable pub last : List A → Option A
  last [] = None
  last (x ∷ []) = Some x
  last (x ∷ y ∷ l) = last (y ∷ l)

  abbrev pub is_some : Option A → Bool
  is_some None = false
  is_some (Some x) = true

  unfoldable pub insert_by : (A → A → Bool) → A → List A → List A
  insert_by lt x [] = x ∷ []
  insert_by lt x (y ∷ l) = cond (lt y x) (y ∷ insert_by lt x l) (x ∷ y ∷ l)

  -- in order, equals as they stood
  unfoldable pub sort_by : (A → A → Bool) → List A → List A
  sort_by lt [] = []
  sort_by lt (x ∷ l) = insert_by lt x (sort_by lt l)

module _ {A B : Type 0} where
  -- f of each element, one after the other
  unfoldable pub each : (A → List B) → List A → List B
  each f [] = []
  each f (x ∷ l) = f x ++ each f l

  -- b where there is none, else f of what there is
  abbrev pub option : Option A → B → (A → B) → B
  option None b f = b
  option (Some a) b f = f a

-- x is one of the numbers
abbrev pub among : ℕ → List ℕ → Bool
among x l = any_of (eqb x) l
