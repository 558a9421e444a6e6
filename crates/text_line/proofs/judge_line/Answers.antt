use Rattle.std.proofs.Common.{rules, refl, sym, ◌∙◌}
use Rattle.text_line.proofs.LineLaws.{kind_judged}
use Rattle.text_line.proofs.judge_line.Goals as goal

pub returns-then-has_width : goal.returns-then-has_width
returns-then-has_width c =
    kind_judged c.args.kind.now c.args.n c.nat-number.result c.number.result c.if-not-good.false (search (rules, ◌∙◌)) (search rules) c.in-Ok.ensures c.number.ensures (rw (sym c.has_width.ensures ∙ c.if-has_width.true) refl)

pub returns-else-has_width : goal.returns-else-has_width
returns-else-has_width c =
    kind_judged c.args.kind.now c.args.n c.nat-number.result c.number.result c.if-not-good.false (search (rules, ◌∙◌)) (search rules) c.in-Ok.ensures c.number.ensures (rw (sym c.has_width.ensures ∙ c.if-has_width.false) refl)
