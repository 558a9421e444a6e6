-- Findings as lines of four numbers: check, type, entity, severity. Assumes nothing.
use Rattle.std.specs.Prelude.{List, [], ◌∷◌, ℤ, pos}
use Rattle.line_buffer.specs.Lines.{flat_lines}
use Rattle.findings.specs.declared.Violation.{Violation}

abbrev pub four : Violation → List ℤ
four f = pos f.check ∷ pos f.kind ∷ pos f.entity ∷ pos f.severity ∷ []

-- the numbers of findings, four each
unfoldable pub flat : List Violation → List ℤ
flat = flat_lines four
