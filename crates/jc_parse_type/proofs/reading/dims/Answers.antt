use Rattle.std.proofs.Common.{◌+◌, [], ◌∷◌, ◌++◌, length, length-append, min, subst, refl, sym, ap, ◌∙◌, arith}
use Rattle.jc_reading.specs.Reading.{Found, any_number, becoming}
use Rattle.jc_reading.proofs.Turns.{Resumes, lawful_ahead, loop_first, loop_next, loop_stop, loop_shorter}
use Rattle.jc_reading.specs.Reach.{GoesAhead}
use Rattle.jc_parse_type.specs.TypeReading.{bracket_run, dims_run}
use Rattle.jc_parse_type.proofs.TypeForms.{Bracket, bracket_laws}
use Rattle.jc_parse_type.proofs.reading.dims.Goals as goal

abbrev Pair : Type 0
Pair = Unit {0} × Unit {0}

steps : GoesAhead bracket_run
steps = lawful_ahead Pair Bracket bracket_laws refl

pub pairs-init : goal.pairs-init
pairs-init c = ([], refl, omega arith, loop_first Pair bracket_run steps c.args.tokens.now)

pub pairs-smaller : goal.pairs-smaller
pairs-smaller c = loop_shorter Pair bracket_run steps c.pairs.rest.now c.in-Ok.after.now (tt, tt) _ c.in-Ok.ensures

pub pairs-preserved : goal.pairs-preserved
pairs-preserved c =
    let i = c.pairs.invariant in
    let lt = loop_shorter Pair bracket_run steps c.pairs.rest.now c.in-Ok.after.now (tt, tt) _ c.in-Ok.ensures in
    let n = loop_next Pair bracket_run steps (any_number bracket_run c.args.tokens.now) i.0 c.pairs.left c.pairs.rest.now c.in-Ok.after.now (tt, tt) _ i.3 c.in-Ok.ensures in
    (i.0 ++ (tt, tt) ∷ [], length-append i.0 ((tt, tt) ∷ []) ∙ ap (λ k. k + 1) i.1, omega (arith, lt, i.2), subst (λ j. Resumes (any_number bracket_run c.args.tokens.now) (i.0 ++ (tt, tt) ∷ []) j bracket_run c.in-Ok.after.now) (sym c.min-left.ensures) n)

pub returns-in-Err : goal.returns-in-Err
unfolding dims_run
returns-in-Err c =
    let i = c.pairs.invariant in
    ap (becoming length) (loop_stop Pair bracket_run steps (any_number bracket_run c.args.tokens.now) i.0 c.pairs.left c.pairs.rest.now c.in-Err.reach i.3 c.in-Err.ensures)
    ∙ ap (λ n. Found n c.pairs.rest.now (min c.pairs.left c.in-Err.reach)) i.1 ∙ ap (λ j. Found c.pairs.dims c.pairs.rest.now j) (sym c.min.ensures)
