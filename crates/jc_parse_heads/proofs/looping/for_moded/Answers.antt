use Rattle.std.proofs.Common.{List, sym, subst, arith}
use Rattle.std.proofs.lemmas.Result.{err_from_is_err_and}
use Rattle.jc_tree.specs.declared.statement.ForHead.{ForHead}
use Rattle.jc_reading.specs.Giving.{Gives, Halts}
use Rattle.jc_reading.specs.Reading.{Read}
use Rattle.jc_parse_heads.proofs.Joinings.{two_gives, two_halts}
use Rattle.jc_parse_nodes.specs.declared.head_parts.ForTyped.{ForTyped}
use Rattle.jc_tree.specs.declared.statement.Modifier.{Modifier}
use Rattle.jc_parse_heads.specs.HeadCode.{first_modifiers_run, for_typed_run, typed_head}
use Rattle.jc_parse_heads.proofs.ForForms.{for_moded_is}
use Rattle.jc_parse_heads.proofs.looping.for_moded.Goals as goal

pub returns-in_err-modifiers : goal.returns-in_err-modifiers
returns-in_err-modifiers c = let p = err_from_is_err_and c.from_residual.result c.from_residual.ensures.1 in rw (p.1, p.2) (subst (λ (v : Read ForHead). Halts c.in_err-modifiers.field-0.0 v) (sym (for_moded_is c.args.height c.args.tokens.now)) (two_halts (λ (p : List Modifier × ForTyped). typed_head p.0 p.1) (first_modifiers_run c.args.height c.args.tokens.now) (for_typed_run c.args.height) c.in_err-modifiers.field-0.0 (c.in_err-modifiers.ensures.read)))

pub returns : goal.returns
returns c = subst (λ (v : Read ForHead). Gives c.for_moded_of.result v) (sym (for_moded_is c.args.height c.args.tokens.now)) (two_gives (λ (p : List Modifier × ForTyped). typed_head p.0 p.1) (first_modifiers_run c.args.height c.args.tokens.now) (for_typed_run c.args.height) c.in_ok-modifiers.modifiers c.for_typed.result c.for_moded_of.result (c.in_ok-modifiers.ensures.read) (c.for_typed.ensures) c.for_moded_of.ensures)
