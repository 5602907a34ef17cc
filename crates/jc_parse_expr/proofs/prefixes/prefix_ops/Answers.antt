use Rattle.std.proofs.Common.{◌≡◌, List, [], ◌∷◌, ◌++◌, length, sym, ap, ◌∙◌, subst}
use Rattle.jc_tree.specs.declared.expression.PrefixOp.{PrefixOp}
use Rattle.jc_reading.specs.Reading.{Found, any_number, times}
use Rattle.jc_reading.proofs.Turns.{Resumes, loop_first, loop_next, loop_stop, loop_shorter}
use Rattle.jc_reading.specs.Reach.{onto, GoesAhead}
use Rattle.jc_reading.proofs.Nears.{ahead_picking}
use Rattle.jc_expr_laws.specs.LevelReading.{picks_prefix, prefix_op_run}
use Rattle.jc_parse_expr.proofs.prefixes.prefix_ops.Goals as goal

steps : GoesAhead prefix_op_run
steps = ahead_picking picks_prefix

pub signs-init : goal.signs-init
signs-init c =
    let s = loop_first PrefixOp prefix_op_run steps c.args.tokens.now in
    (s.0, s.1, s.2 ∙ ap (λ (l : List PrefixOp). onto l (length c.args.tokens.now) (times s.0 prefix_op_run c.args.tokens.now)) (sym c.new-ops.ensures))

pub signs-smaller : goal.signs-smaller
signs-smaller c = loop_shorter PrefixOp prefix_op_run steps c.signs.rest.now c.in-Some.after.now c.in-Some.op _ c.in-Some.ensures.read

pub signs-preserved : goal.signs-preserved
signs-preserved c =
    let whole = any_number prefix_op_run c.args.tokens.now in
    let s = loop_next PrefixOp prefix_op_run steps whole c.signs.ops c.signs.left c.signs.rest.now c.in-Some.after.now c.in-Some.op _ c.signs.invariant c.in-Some.ensures.read in
    let held : c.push.new.self ≡ c.signs.ops ++ c.in-Some.op ∷ [] = c.in_ok-push-in-Some.ensures.ok in
    subst (λ (l : List PrefixOp). Resumes whole l c.min-left.result prefix_op_run c.in-Some.after.now) (sym held)
    (subst (λ j. Resumes whole (c.signs.ops ++ c.in-Some.op ∷ []) j prefix_op_run c.in-Some.after.now) (sym c.min-left.ensures) s)

pub returns-in-None : goal.returns-in-None
returns-in-None c =
    loop_stop PrefixOp prefix_op_run steps (any_number prefix_op_run c.args.tokens.now) c.signs.ops c.signs.left c.signs.rest.now _ c.signs.invariant c.in-None.ensures.read
    ∙ ap (λ j. Found c.signs.ops c.signs.rest.now j) (sym c.min.ensures)
