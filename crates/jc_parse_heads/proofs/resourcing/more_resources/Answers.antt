use Rattle.std.proofs.Common.{map, sym, subst, arith, rules}
use Rattle.jc_lexer.specs.declared.token.Sign.TheVariants as sign_of
use Rattle.jc_reading.specs.Giving.{Gives}
use Rattle.jc_reading.specs.Reading.{Read, as_new, behind_it, each_behind}
use Rattle.jc_part_laws.specs.PartReading.{closing_run}
use Rattle.jc_parse_heads.proofs.Joinings.{two_gives}
use Rattle.jc_parse_nodes.specs.declared.head_parts.MoreResources.{MoreResources}
use Rattle.jc_parse_heads.specs.HeadCode.{one_resource_run}
use Rattle.jc_parse_heads.proofs.ResourceForms.{more_resources_is, more_resources_node}
use Rattle.jc_parse_heads.proofs.HeadInsides.{resource_inside}
use Rattle.jc_parse_heads.proofs.resourcing.more_resources.Goals as goal

pub each-requires : goal.each-requires
each-requires c κs = (search rules, (λ ts h. omega (arith, h, c.requires), ((one_resource_run c.args.height), (resource_inside c.args.height), λ ts r p. search rules)))

pub returns : goal.returns
returns c = subst (λ (v : Read MoreResources). Gives c.more_resources_of.result v) (sym (more_resources_is c.args.height c.args.tokens.now)) (two_gives more_resources_node (as_new (map behind_it) (each_behind sign_of.Semicolon (one_resource_run c.args.height)) c.args.tokens.now) (closing_run sign_of.Semicolon sign_of.RightParen) c.in_ok-more.more c.resources_end.result c.more_resources_of.result (c.in_ok-more.ensures.read (one_resource_run c.args.height) (resource_inside c.args.height) (λ ts r p. search rules)) (c.resources_end.ensures) c.more_resources_of.ensures)
