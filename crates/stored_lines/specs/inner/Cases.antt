-- How the iterator over a list's cases goes. Assumes nothing.
use Rattle.std.specs.Prelude.{Option, ◌≡◌, ◌≤◌, ◌<◌, length, MatchOption}
use Rattle.stored_lines.specs.declared.Case.{Case}
use Rattle.stored_lines.specs.declared.Cases.{Cases}
use Rattle.stored_lines.specs.inner.Case.{CaseAt}

-- the case from where it stands on, whose places lie in order within the list; then it stands where the next one starts. None at the list's end.
abbrev pub NextCase : Cases → Option Case → Cases → Type 0
NextCase s r t =
    (t.list ≡ s.list)
    × MatchOption r ((length s.list.now ≤ s.at) × (t.at ≡ s.at))
    (λ c. CaseAt s.list.now s.at c × (s.at ≤ c.line) × (c.line ≤ c.end) × (c.end ≤ length s.list.now) × (s.at < c.next) × (t.at ≡ c.next))
