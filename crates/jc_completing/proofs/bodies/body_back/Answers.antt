use Rattle.std.proofs.Common.{◌≡◌, [], ◌∷◌, ◌++◌, append_assoc, ap, refl, sym, ◌∙◌}
use Rattle.jc_typed.specs.Parts.{stmt_of, stmts_of}
use Rattle.jc_meaning.specs.Programs.{stmt_list, stmts_before}
use Rattle.jc_pending.specs.Level.{stmts_back}
use Rattle.jc_completing.proofs.StmtLists.{stmts_onto}
use Rattle.jc_completing.proofs.bodies.body_back.Goals as goal

pub returns : goal.returns
returns c =
    let one : stmts_back c.args.nodes.now c.push.new.self ≡ stmt_of c.args.nodes.now c.args.b.rest ∷ [] = rw (c.in_ok-push.ensures.ok, c.new-out.ensures) refl in
    let two : stmts_back c.args.nodes.now c.add_stmts.new.out ≡ stmt_list (stmts_of c.args.nodes.now c.args.b.initialisers) ++ (stmt_of c.args.nodes.now c.args.b.rest ∷ []) =
    c.in_ok-add_stmts.ensures ∙ (ap (stmts_before (stmts_of c.args.nodes.now c.args.b.initialisers)) one ∙ stmts_onto (stmts_of c.args.nodes.now c.args.b.initialisers) (stmt_of c.args.nodes.now c.args.b.rest ∷ [])) in
    let three : stmts_back c.args.nodes.now c.add_stmts-2.new.out ≡ stmt_list (stmts_of c.args.nodes.now c.args.b.call) ++ (stmt_list (stmts_of c.args.nodes.now c.args.b.initialisers) ++ (stmt_of c.args.nodes.now c.args.b.rest ∷ [])) =
    c.in_ok-add_stmts-2.ensures ∙ (ap (stmts_before (stmts_of c.args.nodes.now c.args.b.call)) two ∙ stmts_onto (stmts_of c.args.nodes.now c.args.b.call) (stmt_list (stmts_of c.args.nodes.now c.args.b.initialisers) ++ (stmt_of c.args.nodes.now c.args.b.rest ∷ []))) in
    rw append_assoc (sym three)
