use Rattle.std.proofs.Common.{sym, subst, arith}
use Rattle.std.proofs.lemmas.Result.{err_from_is_err_and}
use Rattle.jc_reading.specs.Giving.{Gives, Halts}
use Rattle.jc_reading.specs.Reading.{Read}
use Rattle.jc_parse_heads.proofs.Joinings.{two_gives, two_halts}
use Rattle.jc_parse_nodes.specs.declared.head_parts.ForDims.{ForDims}
use Rattle.jc_parse_nodes.specs.declared.head_parts.ForNamed.{ForNamed}
use Rattle.jc_tree.specs.declared.name.Ident.{Ident}
use Rattle.jc_reading.specs.Reading.{an_ident_at}
use Rattle.jc_parse_heads.specs.HeadCode.{for_dims_run}
use Rattle.jc_parse_heads.proofs.ForForms.{for_name_is}
use Rattle.jc_parse_heads.proofs.looping.for_name.Goals as goal

pub returns-in_err-label : goal.returns-in_err-label
returns-in_err-label c = let p = err_from_is_err_and c.from_residual.result c.from_residual.ensures.1 in rw (p.1, p.2) (subst (λ (v : Read ForNamed). Halts c.in_err-label.field-0.0 v) (sym (for_name_is c.args.height c.args.tokens.now)) (two_halts (λ (p : Ident × ForDims). record { name = p.0; dims = p.1.dims; kind = p.1.kind }) (an_ident_at c.args.tokens.now) (for_dims_run c.args.height) c.in_err-label.field-0.0 (c.in_err-label.ensures.read)))

pub returns : goal.returns
returns c = subst (λ (v : Read ForNamed). Gives c.for_named_of.result v) (sym (for_name_is c.args.height c.args.tokens.now)) (two_gives (λ (p : Ident × ForDims). record { name = p.0; dims = p.1.dims; kind = p.1.kind }) (an_ident_at c.args.tokens.now) (for_dims_run c.args.height) c.in_ok-label.label c.for_dims.result c.for_named_of.result (c.in_ok-label.ensures.read) (c.for_dims.ensures) c.for_named_of.ensures)
