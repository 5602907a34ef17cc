use Rattle.std.proofs.Common.{◌<◌, min, List, length, sym, ap, ◌∙◌, subst, arith}
use Rattle.jc_lexer.specs.declared.token.Token.{Token}
use Rattle.jc_tree.specs.declared.expression.PostfixOp.{PostfixOp}
use Rattle.jc_reading.proofs.Turns.{loop_shorter}
use Rattle.jc_reading.specs.Reading.{Found}
use Rattle.jc_expr_laws.specs.PostReading.{changed, ops_run}
use Rattle.jc_parse_expr.specs.PrimeCode.{changed_on}
use Rattle.jc_parse_expr.proofs.GrowCode.{grows_same}
use Rattle.jc_parse_expr.proofs.Grows.{grows_first, grows_next, grows_stop}
use Rattle.jc_parse_expr.proofs.Shorters.{op_advances}
use Rattle.jc_parse_expr.proofs.primes.changes.Goals as goal

pub signs-init : goal.signs-init
signs-init c =
    let first = c.args.first in
    (grows_first changed (ops_run c.args.height) first.value.tree first.rest.now first.left, c.requires.measured)

pub signs-smaller : goal.signs-smaller
signs-smaller c =
    let v = c.signs.value in
    let q = c.in-Some.rest.now in
    let lt = loop_shorter PostfixOp (ops_run c.args.height v.value.tree) (op_advances c.args.height v.value.tree) v.rest.now q c.in-Some.op (length q) c.in-Some.ensures in
    subst (λ (r : List Token). length r < length v.rest.now) (sym c.in_ok-next-in-Some.ensures.1) lt

pub signs-preserved : goal.signs-preserved
signs-preserved c =
    let v = c.signs.value in
    let first = c.args.first in
    let whole = changed_on c.args.height first.value.tree first.rest.now first.left in
    let part = ops_run c.args.height in
    let q = c.in-Some.rest.now in
    let op = c.in-Some.op in
    let next = c.in_ok-next-in-Some.next in
    let w = c.in_ok-next-in-Some.ensures in
    let lt = loop_shorter PostfixOp (part v.value.tree) (op_advances c.args.height v.value.tree) v.rest.now q op (length q) c.in-Some.ensures in
    let g = grows_next changed part whole v.value.tree v.left v.rest.now q op (length q) c.signs.invariant.0 c.in-Some.ensures lt in
    (grows_same changed part whole (changed v.value.tree op) next.value.tree (min v.left (length q)) next.left q next.rest.now g w.0 w.1 w.2, w.3)

pub returns-in-None : goal.returns-in-None
returns-in-None c =
    let v = c.signs.value in
    let first = c.args.first in
    let whole = changed_on c.args.height first.value.tree first.rest.now first.left in (
      grows_stop changed (ops_run c.args.height) whole v.value.tree v.left v.rest.now (length v.rest.now) c.signs.invariant.0 c.in-None.ensures (omega arith) ∙ ap (λ j. Found v.value.tree v.rest.now j) (sym c.min.ensures),
      c.signs.invariant.1,
    )
