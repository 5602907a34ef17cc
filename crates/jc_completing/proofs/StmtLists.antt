-- Statements of a list come before others.
use Rattle.std.proofs.Common.{◌≡◌, List, [], ◌∷◌, ◌++◌, refl, append_assoc}
use Rattle.jc_typed.specs.Trees.{Stmt, Stmts, NoStmts, MoreStmts}
use Rattle.jc_meaning.specs.Programs.{stmt_list, stmts_before}

pub stmts_onto : (ss : Stmts) (more : List Stmt) → stmts_before ss more ≡ stmt_list ss ++ more
stmts_onto NoStmts more = refl
stmts_onto (MoreStmts before last) more =
    let whole : stmts_before before (last ∷ more) ≡ stmt_list before ++ (last ∷ more) = stmts_onto before (last ∷ more) in
    let one : stmts_before before (last ∷ []) ≡ stmt_list before ++ last ∷ [] = stmts_onto before (last ∷ []) in
    rw (whole, one, append_assoc) refl
