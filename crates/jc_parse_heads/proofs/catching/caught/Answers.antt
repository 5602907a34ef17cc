use Rattle.std.proofs.Common.{map, sym, subst, arith, rules}
use Rattle.jc_parse_expr.proofs.PrimeNears.{near_class}
use Rattle.jc_lexer.specs.declared.token.Sign.TheVariants as sign_of
use Rattle.jc_reading.specs.Giving.{Gives}
use Rattle.jc_reading.specs.Reading.{Read, as_new, behind_it, each_behind}
use Rattle.jc_parse_type.specs.TypeReading.{class_run}
use Rattle.jc_parse_heads.proofs.Joinings.{two_gives}
use Rattle.jc_parse_nodes.specs.declared.head_parts.Caught.{Caught}
use Rattle.jc_parse_heads.specs.HeadCode.{closed_name_run}
use Rattle.jc_parse_heads.proofs.CatchForms.{caught_is, caught_node}
use Rattle.jc_parse_heads.proofs.catching.caught.Goals as goal

pub each-requires : goal.each-requires
each-requires c κs = (search rules, (λ ts h. omega (arith, h, c.requires), ((class_run c.args.height), (near_class c.args.height), λ ts r p. search rules)))

pub returns : goal.returns
returns c = subst (λ (v : Read Caught). Gives c.caught_of.result v) (sym (caught_is c.args.height c.args.tokens.now)) (two_gives caught_node (as_new (map behind_it) (each_behind sign_of.Or (class_run c.args.height)) c.args.tokens.now) closed_name_run c.in_ok-more.more c.closed_name.result c.caught_of.result (c.in_ok-more.ensures.read (class_run c.args.height) (near_class c.args.height) (λ ts r p. search rules)) (c.closed_name.ensures) c.caught_of.ensures)
