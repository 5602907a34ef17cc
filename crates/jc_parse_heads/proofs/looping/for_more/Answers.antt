use Rattle.std.proofs.Common.{List, sym, subst, arith}
use Rattle.jc_reading.specs.Giving.{Gives}
use Rattle.jc_reading.specs.Reading.{Read}
use Rattle.jc_parse_heads.proofs.Joinings.{two_gives}
use Rattle.jc_parse_nodes.specs.declared.head_parts.ForTail.{ForTail}
use Rattle.jc_parse_nodes.specs.declared.head_parts.ForMore.{ForMore}
use Rattle.jc_tree.specs.declared.statement.Var.{Var}
use Rattle.jc_parse_parts.specs.Parts.{more_vars_run}
use Rattle.jc_parse_heads.specs.HeadCode.{for_tail_run}
use Rattle.jc_parse_heads.proofs.ForForms.{for_more_is}
use Rattle.jc_parse_heads.proofs.looping.for_more.Goals as goal

pub returns : goal.returns
returns c = subst (λ (v : Read ForMore). Gives c.for_more_of.result v) (sym (for_more_is c.args.height c.args.tokens.now)) (two_gives (λ (p : List Var × ForTail). record { more = p.0; test = p.1.test; update = p.1.update }) (more_vars_run c.args.height c.args.tokens.now) (for_tail_run c.args.height) c.in_ok-more.more c.for_tail.result c.for_more_of.result (c.in_ok-more.ensures.read) (c.for_tail.ensures) c.for_more_of.ensures)
