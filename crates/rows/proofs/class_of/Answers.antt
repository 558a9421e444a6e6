use Rattle.std.proofs.Common.{◌-◌, ◌∙◌, ap, sym, arith}
use Rattle.std.specs.Prelude.{[], length, get_or}
use Rattle.rows.specs.declared.Class.TheVariants.{Blank}
use Rattle.rows.specs.Table.{columns, width}
use Rattle.rows.specs.inner.Padded.{padded}
use Rattle.rows.proofs.Tables.{class_later, clamped, padded_blank, width_most}
use Rattle.rows.proofs.class_of.Goals as goal

pub returns : goal.returns
unfolding padded width
returns c =
    let l = get_or columns c.args.kind [] in
    let m = clamped l (c.args.c - 1) c.min.result (omega (arith, c.min.ensures)) (λ h. omega (arith, c.min.ensures, width_most c.args.kind)) in
    ap (λ t. get_or t c.min.result Blank) c.columns_of.ensures ∙ padded_blank l (9 - length l) c.min.result ∙ m ∙ sym (class_later c.args.kind c.args.c c.if-c-eq0.false)
