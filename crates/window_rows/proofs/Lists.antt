-- A list that windows are laid out in. Assumes nothing.
use mathlib.Core.List.{List, [], ◌++◌, map}
use Prim.Native.Nat.{ℕ}
use mathlib.Core.Path.{◌≡◌, ap, ◌∙◌}
use native.Mathlib.Omega.{arith}
use lib.IntN.{ℤ}
use lib.ListN.{take, drop_of_length-le, length-take}
use Rattle.lent_room.specs.declared.lent_list.LentList.{LentList}
use Rattle.calendar.specs.declared.TimeWindow.{TimeWindow}
use Rattle.calendar.specs.Calendar.{Calendar}
use Rattle.calendar.specs.Layout.{window_of, windows_of, calendar_of}
use Rattle.window_rows.specs.Listed.{listed, calendar_in}

-- from a place up to itself there are no windows
nothing_yet : (w : List TimeWindow) (at : ℕ) → calendar_of w at at ≡ []
unfolding calendar_of windows_of
nothing_yet w at = ap (map window_of) (drop_of_length-le (take at w) {i = at} (omega (arith, length-take at w)))

-- what is laid out in an empty list is all that the list holds
pub alone : (l l' : LentList TimeWindow 800) (c : Calendar ℤ) {w : List TimeWindow} → listed l ≡ [] → calendar_in l' ≡ calendar_in l ++ c → w ≡ listed l' → map window_of w ≡ c
unfolding calendar_in
alone l l' c e h q = ap (map window_of) q ∙ h ∙ ap (λ v. map window_of v ++ c) e
