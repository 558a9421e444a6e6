-- What is laid out in lent room, as a list, and what the room holds behind it. Assumes nothing.
use Rattle.std.specs.Prelude.{ℕ, List, ◌++◌, take, drop}
use Rattle.std.specs.Borrow.{MutBor}
use Rattle.lent_room.specs.declared.lent_list.LentList.{LentList}

unfoldable pub listed : {A : Type 0} {N : ℕ} → LentList A N → List A
listed l = take l.count l.room.now

-- room by the name of the reference that lends it, and what stands there from a place on
pub record Room (A : Type 0) : Type 0 where
  pub name : ℕ
  pub elements : List A

-- as it is lent
abbrev pub room_of : {A : Type 0} → MutBor (List A) → Room A
room_of r = record { name = r.ghost_name; elements = r.now }

-- from n places further on
unfoldable pub past : {A : Type 0} → ℕ → Room A → Room A
past n r = record { name = r.name; elements = drop n r.elements }

-- the room behind the list
unfoldable pub behind : {A : Type 0} {N : ℕ} → LentList A N → Room A
behind l = past l.count (room_of l.room)

-- all of the room, with the list at its front
abbrev pub whole : {A : Type 0} {N : ℕ} → LentList A N → Room A
whole l = record { name = (behind l).name; elements = listed l ++ (behind l).elements }
