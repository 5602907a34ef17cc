use Rattle.std.proofs.Common.{◌<◌, ◌^◌, ℕ, List, [], length, sym, ap, ◌∙◌, subst, arith}
use Rattle.std.proofs.lemmas.List.{get_or_read}
use Rattle.std.proofs.lemmas.Result.{err_from_is_err_and}
use Rattle.jc_lexer.specs.declared.token.Token.{Token}
use Rattle.jc_syntax.proofs.Counts.{as_many, short_at, short_lists}
use Rattle.jc_syntax.proofs.Turns.{unit_on, unit_stops}
use Rattle.jc_syntax.proofs.stage.units_of.Goals as goal

pub bounds-texts-n : goal.bounds-texts-n
bounds-texts-n c = omega (arith, as_many c.args.texts.now c.args.lists.now (short_lists c.args.texts.now c.args.lists.now c.requires))

pub unit_of-requires-clause-tokens : goal.unit_of-requires-clause-tokens
unit_of-requires-clause-tokens c =
    let lists = c.args.lists.now in
    let n = c.loop-n.n in
    let within : n < length lists = omega arith in
    let read = c.slice.ensures ∙ get_or_read lists n c.index-lists-n.result within c.index-lists-n.is [] in
    subst (λ (l : List Token). length l < 2 ^ 32) (sym read) (short_at c.args.texts.now lists (short_lists c.args.texts.now lists c.requires) n within).0

pub unit_of-requires-clause-size : goal.unit_of-requires-clause-size
unit_of-requires-clause-size c =
    let texts = c.args.texts.now in
    let lists = c.args.lists.now in
    let n = c.loop-n.n in
    let within : n < length lists = omega arith in
    let shorts = short_lists texts lists c.requires in
    let inside : n < length texts = omega (arith, as_many texts lists shorts) in
    let read = c.len.ensures ∙ ap length (get_or_read texts n c.index-texts-n.result inside c.index-texts-n.is []) in
    subst (λ (k : ℕ). k < 2 ^ 32) (sym read) (short_at texts lists shorts n within).1

pub returns-in_err-unit-clause-refused : goal.returns-in_err-unit-clause-refused
returns-in_err-unit-clause-refused c =
    let texts = c.args.texts.now in
    let lists = c.args.lists.now in
    let n = c.loop-n.n in
    let within : n < length lists = omega arith in
    let inside : n < length texts = omega (arith, as_many texts lists (short_lists texts lists c.requires)) in
    let read = c.slice.ensures ∙ get_or_read lists n c.index-lists-n.result within c.index-lists-n.is [] in
    let size = c.len.ensures ∙ ap length (get_or_read texts n c.index-texts-n.result inside c.index-texts-n.is []) in
    let p = err_from_is_err_and c.from_residual.result c.from_residual.ensures.1 in
    rw (p.1, p.2) (unit_stops texts lists c.loop-n.units n c.slice.result.now c.len.result c.in_err-unit.field-0.0 c.loop-n.invariant within read size c.in_err-unit.ensures.refused)

pub loop-n-preserved : goal.loop-n-preserved
loop-n-preserved c =
    let lists = c.args.lists.now in
    let n = c.loop-n.n in
    let within : n < length lists = omega arith in
    let read = c.slice.ensures ∙ get_or_read lists n c.index-lists-n.result within c.index-lists-n.is [] in
    unit_on lists c.loop-n.units n c.slice.result.now c.in_ok-unit.unit c.push.new.self c.loop-n.invariant within read c.in_ok-unit.ensures.unit c.in_ok-push.ensures.ok
