use Rattle.std.proofs.Common.{◌≡◌, min, max, List, [], ◌∷◌, ◌++◌, length, sym, ap, ◌∙◌, subst, arith}
use Rattle.std.proofs.lemmas.Bool.Decides.{nat_tests}
use Rattle.jc_tree.specs.declared.expression.SkipPart.{SkipPart}
use Rattle.jc_tree.specs.Heights.{capped, skip_part_height}
use Rattle.jc_reading.specs.declared.reading.Halt.{Halt}
use Rattle.jc_reading.specs.Giving.{Halts}
use Rattle.jc_reading.specs.Reading.{Found, Stopped, any_number, times}
use Rattle.jc_reading.proofs.Turns.{Resumes, loop_first, loop_next, loop_stop, loop_shorter}
use Rattle.jc_reading.specs.Reach.{onto}
use Rattle.jc_parse_expr.specs.PrimeCode.{skip_item_run, skip_parts_height}
use Rattle.jc_parse_expr.proofs.HeightSteps.{pushed}
use Rattle.jc_parse_expr.proofs.Shorters.{skip_steps}
use Rattle.jc_parse_expr.proofs.skips.+skips.Goals as goal

pub skip_parts-parts-init : goal.skip_parts-parts-init
skip_parts-parts-init t c =
    let run = skip_item_run c.args.height in
    let s = loop_first SkipPart run (skip_steps c.args.height) c.args.tokens.now in (
      (s.0, s.1, s.2 ∙ ap (λ (l : List SkipPart). onto l (length c.args.tokens.now) (times s.0 run c.args.tokens.now)) (sym c.new-parts.ensures)),
      sym (ap (λ (l : List SkipPart). capped (skip_parts_height l)) c.new-parts.ensures),
    )

pub skip_parts-parts-smaller : goal.skip_parts-parts-smaller
skip_parts-parts-smaller t c =
    let found = c.in-Ok.found in
    let next : skip_item_run c.args.height c.parts.rest.now ≡ Found found.value.tree found.rest.now found.left = c.in-Ok.ensures.0 in
    loop_shorter SkipPart _ (skip_steps c.args.height) c.parts.rest.now found.rest.now found.value.tree found.left next

pub skip_parts-parts-preserved : goal.skip_parts-parts-preserved
skip_parts-parts-preserved t c =
    let m = skip_item_run c.args.height in
    let whole = any_number m c.args.tokens.now in
    let found = c.in-Ok.found in
    let next : m c.parts.rest.now ≡ Found found.value.tree found.rest.now found.left = c.in-Ok.ensures.0 in
    let s = loop_next SkipPart m (skip_steps c.args.height) whole c.parts.parts c.parts.left c.parts.rest.now found.rest.now found.value.tree found.left c.parts.invariant.0 next in
    let top : c.max-most.result ≡ max c.parts.most found.value.height = grind (arith, nat_tests) in
    let held : c.in_ok-parts-in-Ok.parts ≡ c.parts.parts ++ found.value.tree ∷ [] = c.in_ok-parts-in-Ok.ensures in (
      subst (λ (l : List SkipPart). Resumes whole l c.min-left.result m found.rest.now) (sym held) (subst (λ j. Resumes whole (c.parts.parts ++ found.value.tree ∷ []) j m found.rest.now) (sym c.min-left.ensures) s),
      top ∙ ap (λ n. max n found.value.height) c.parts.invariant.1 ∙ ap (λ n. max (capped (skip_parts_height c.parts.parts)) n) c.in-Ok.ensures.1
          ∙ sym (ap (λ (l : List SkipPart). capped (skip_parts_height l)) held ∙ pushed skip_part_height c.parts.parts found.value.tree),
    )

pub skip_parts-returns-in-Err-Stopped : goal.skip_parts-returns-in-Err-Stopped
skip_parts-returns-in-Err-Stopped t c =
    let m = skip_item_run c.args.height in
    let stop : m c.parts.rest.now ≡ Stopped c.in-Err-Stopped.reach = subst (λ (h : Halt). Halts h (m c.parts.rest.now)) c.in-Err-Stopped.field-0-is c.in-Err-Stopped.ensures in (
      loop_stop SkipPart m (skip_steps c.args.height) (any_number m c.args.tokens.now) c.parts.parts c.parts.left c.parts.rest.now c.in-Err-Stopped.reach c.parts.invariant.0 stop
          ∙ ap (λ j. Found c.parts.parts c.parts.rest.now j) (sym (c.min.ensures ∙ ap (λ k. min c.parts.left k) c.in-Err-Stopped.reach-is)),
      c.parts.invariant.1,
    )
