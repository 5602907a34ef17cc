use Rattle.std.proofs.Common.{ℕ, min, length, sym, ap, ◌∙◌, arith}
use Rattle.jc_reading.specs.Reading.{Found}
use Rattle.jc_parse_expr.proofs.Rests.{rest_name, rest_names}
use Rattle.jc_parse_expr.proofs.SpecialCodes.{names_read}
use Rattle.jc_parse_expr.proofs.specials.named_special.Goals as goal

pub tail-requires : goal.tail-requires
tail-requires c =
    let inside = c.in-Some.inside.now in
    let names = c.behind_names-names.result in
    let one = rest_name c.args.tokens.now inside (length inside) c.in-Some.ensures in
    let more = rest_names inside names.rest.now names.left c.behind_names-names.ensures in
    omega (arith, one, more)

pub returns-in_ok-value-in-Ok : goal.returns-in_ok-value-in-Ok
returns-in_ok-value-in-Ok c =
    let inside = c.in-Some.inside.now in
    let names = c.behind_names-names.result in
    let tail = c.in-Ok.tail in
    let value = c.in_ok-value-in-Ok.value in (
      names_read c.args.height c.args.tokens.now inside names.rest.now tail.rest.now value.tree tail.value names.left tail.left c.in-Some.ensures c.behind_names-names.ensures c.in-Ok.ensures c.in_ok-value-in-Ok.ensures.1
          ∙ ap (λ (j : ℕ). Found value.tree tail.rest.now j) (sym (c.min.ensures ∙ ap (λ (k : ℕ). min k tail.left) c.min-reach.ensures)),
      c.in_ok-value-in-Ok.ensures.0,
    )
