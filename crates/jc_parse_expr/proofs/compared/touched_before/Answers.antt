use Rattle.std.proofs.Common.{◌≡◌, ◌-◌, ◌+◌, ◌<◌, suc, Some, length, refl, sym, ◌∙◌, arith}
use Rattle.std.proofs.lemmas.Option.{slice_get_read}
use Rattle.std.specs.List.{slice_get}
use Rattle.jc_parse_expr.proofs.CompareTurns.{touched_get}
use Rattle.jc_parse_expr.proofs.compared.touched_before.Goals as goal

pub returns-in-Some : goal.returns-in-Some
returns-in-Some c =
    let ts = c.args.tokens.now in
    let at = length ts - c.args.left - 1 in
    let last = c.in-Some.last.now in
    let whole : suc (at + c.args.left) ≡ length ts = omega arith in
    let within : at < length ts = omega arith in
    let there : slice_get ts at ≡ Some last = slice_get_read ts (length ts) at last refl within c.in-Some.ensures.lookup.1 in
    c.is_touching.ensures ∙ sym (touched_get ts at last c.args.left there whole)
