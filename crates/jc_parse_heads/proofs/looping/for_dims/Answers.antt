use Rattle.std.proofs.Common.{ℕ, sym, subst, arith}
use Rattle.jc_reading.specs.Giving.{Gives}
use Rattle.jc_reading.specs.Reading.{Read}
use Rattle.jc_parse_type.specs.TypeReading.{dims_run}
use Rattle.jc_parse_heads.proofs.Joinings.{two_gives}
use Rattle.jc_parse_nodes.specs.declared.head_parts.ForKind.{ForKind}
use Rattle.jc_parse_nodes.specs.declared.head_parts.ForDims.{ForDims}
use Rattle.jc_parse_heads.specs.HeadCode.{for_kind_run}
use Rattle.jc_parse_heads.proofs.ForForms.{for_dims_is}
use Rattle.jc_parse_heads.proofs.looping.for_dims.Goals as goal

pub returns : goal.returns
returns c = subst (λ (v : Read ForDims). Gives c.for_dims_of.result v) (sym (for_dims_is c.args.height c.args.tokens.now)) (two_gives (λ (p : ℕ × ForKind). record { dims = p.0; kind = p.1 }) (dims_run c.args.tokens.now) (for_kind_run c.args.height) c.dims-pairs.result c.for_kind.result c.for_dims_of.result c.dims-pairs.ensures.read c.for_kind.ensures c.for_dims_of.ensures)
