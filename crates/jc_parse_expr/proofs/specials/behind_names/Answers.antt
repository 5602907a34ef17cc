use Rattle.std.proofs.Common.{[], ◌∷◌, ◌++◌, length, sym, ap, ◌∙◌, subst}
use Rattle.jc_tree.specs.declared.name.Ident.{Ident}
use Rattle.jc_reading.specs.Reading.{Found, any_number, becoming}
use Rattle.jc_reading.proofs.Turns.{Resumes, loop_first, loop_next, loop_stop, loop_shorter}
use Rattle.jc_parse_expr.specs.SpecialCode.{dot_name_run, forgetting}
use Rattle.jc_parse_expr.proofs.PairSteps.{made_found}
use Rattle.jc_parse_expr.proofs.Shorters.{dot_names, names_as}
use Rattle.jc_parse_expr.proofs.specials.behind_names.Goals as goal

pub dots-init : goal.dots-init
dots-init c = ([], loop_first Ident dot_name_run dot_names c.args.tokens.now)

pub dots-smaller : goal.dots-smaller
dots-smaller c =
    let after = c.in-Ok.after.now in
    let name = made_found forgetting (dot_name_run c.dots.rest.now) tt after (length after) c.in-Ok.ensures in
    loop_shorter Ident dot_name_run dot_names c.dots.rest.now after name.0 (length after) name.1

pub dots-preserved : goal.dots-preserved
dots-preserved c =
    let i = c.dots.invariant in
    let after = c.in-Ok.after.now in
    let name = made_found forgetting (dot_name_run c.dots.rest.now) tt after (length after) c.in-Ok.ensures in
    let n = loop_next Ident dot_name_run dot_names (any_number dot_name_run c.args.tokens.now) i.0 c.dots.left c.dots.rest.now after name.0 (length after) i.1 name.1 in
    (i.0 ++ name.0 ∷ [], subst (λ j. Resumes (any_number dot_name_run c.args.tokens.now) (i.0 ++ name.0 ∷ []) j dot_name_run after) (sym c.min-left.ensures) n)

pub returns-in-Err : goal.returns-in-Err
returns-in-Err c =
    let i = c.dots.invariant in
    ap (becoming forgetting) (names_as c.args.tokens.now ∙ loop_stop Ident dot_name_run dot_names (any_number dot_name_run c.args.tokens.now) i.0 c.dots.left c.dots.rest.now c.in-Err.reach i.1 c.in-Err.ensures)
    ∙ ap (λ j. Found tt c.dots.rest.now j) (sym c.min.ensures)
