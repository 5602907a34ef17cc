use Rattle.std.proofs.Common.{Option, sym, subst, arith}
use Rattle.jc_reading.specs.Giving.{Gives}
use Rattle.jc_reading.specs.Reading.{Read}
use Rattle.jc_parse_heads.proofs.Joinings.{two_gives}
use Rattle.jc_parse_nodes.specs.declared.head_parts.ForMore.{ForMore}
use Rattle.jc_parse_nodes.specs.declared.head_parts.ForKind.{ForKind}
use Rattle.jc_parse_nodes.specs.declared.head_parts.ForKind.TheVariants as kind_is
use Rattle.jc_tree.specs.declared.expression.Init.{Init}
use Rattle.jc_parse_parts.specs.Parts.{initial_run}
use Rattle.jc_parse_heads.specs.HeadCode.{for_more_run}
use Rattle.jc_parse_heads.proofs.ForForms.{for_vars_is}
use Rattle.jc_parse_heads.proofs.looping.for_vars.Goals as goal

pub returns : goal.returns
returns c = subst (λ (v : Read ForKind). Gives c.for_kind_of.result v) (sym (for_vars_is c.args.height c.args.tokens.now)) (two_gives (λ (p : Option Init × ForMore). kind_is.Basic p.0 p.1) (initial_run c.args.height c.args.tokens.now) (for_more_run c.args.height) c.in_ok-init.init c.for_more.result c.for_kind_of.result (c.in_ok-init.ensures.read) (c.for_more.ensures) c.for_kind_of.ensures)
