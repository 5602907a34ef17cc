use Rattle.std.proofs.Common.{◌≡◌, min, List, [], ◌∷◌, ◌++◌, length, sym, ap, ◌∙◌, subst}
use Rattle.jc_tree.specs.declared.name.Ident.{Ident}
use Rattle.jc_reading.specs.declared.reading.Halt.{Halt}
use Rattle.jc_reading.specs.Giving.{Halts}
use Rattle.jc_reading.specs.Reading.{Found, Stopped, any_number, times}
use Rattle.jc_reading.proofs.Turns.{Resumes, loop_first, loop_next, loop_stop, loop_shorter}
use Rattle.jc_reading.specs.Reach.{onto}
use Rattle.jc_parse_expr.specs.SpecialCode.{dot_name_run}
use Rattle.jc_parse_expr.proofs.Shorters.{dot_names, names_as}
use Rattle.jc_parse_expr.proofs.specials.more_names.Goals as goal

pub dots-init : goal.dots-init
dots-init c =
    let s = loop_first Ident dot_name_run dot_names c.args.tokens.now in
    (s.0, s.1, s.2 ∙ ap (λ (l : List Ident). onto l (length c.args.tokens.now) (times s.0 dot_name_run c.args.tokens.now)) (sym c.new-names.ensures))

pub dots-smaller : goal.dots-smaller
dots-smaller c =
    let found = c.in-Ok.found in
    let next : dot_name_run c.dots.rest.now ≡ Found found.value found.rest.now found.left = c.in-Ok.ensures in
    loop_shorter Ident _ dot_names c.dots.rest.now found.rest.now found.value found.left next

pub dots-preserved : goal.dots-preserved
dots-preserved c =
    let whole = any_number dot_name_run c.args.tokens.now in
    let found = c.in-Ok.found in
    let next : dot_name_run c.dots.rest.now ≡ Found found.value found.rest.now found.left = c.in-Ok.ensures in
    let s = loop_next Ident dot_name_run dot_names whole c.dots.names c.dots.left c.dots.rest.now found.rest.now found.value found.left c.dots.invariant next in
    let held : c.push.new.self ≡ c.dots.names ++ found.value ∷ [] = c.in_ok-push-in-Ok.ensures.ok in
    subst (λ (l : List Ident). Resumes whole l c.min-left.result dot_name_run found.rest.now) (sym held) (subst (λ j. Resumes whole (c.dots.names ++ found.value ∷ []) j dot_name_run found.rest.now) (sym c.min-left.ensures) s)

pub returns-in-Err-Stopped : goal.returns-in-Err-Stopped
returns-in-Err-Stopped c =
    let stop : dot_name_run c.dots.rest.now ≡ Stopped c.in-Err-Stopped.reach = subst (λ (h : Halt). Halts h (dot_name_run c.dots.rest.now)) c.in-Err-Stopped.field-0-is c.in-Err-Stopped.ensures in
    names_as c.args.tokens.now ∙ loop_stop Ident dot_name_run dot_names (any_number dot_name_run c.args.tokens.now) c.dots.names c.dots.left c.dots.rest.now c.in-Err-Stopped.reach c.dots.invariant stop
    ∙ ap (λ j. Found c.dots.names c.dots.rest.now j) (sym (c.min.ensures ∙ ap (λ k. min c.dots.left k) c.in-Err-Stopped.reach-is))
