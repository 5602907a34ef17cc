use Rattle.std.proofs.Common.{IsTrue, List, sym, subst}
use Rattle.jc_types.specs.declared.declarations.MethodDecl.{MethodDecl}
use Rattle.jc_types.specs.declared.table.Table.{Table}
use Rattle.jc_types.specs.Tables.{IsTable}
use Rattle.jc_tables.specs.Making.{method_stands}
use Rattle.jc_tables.proofs.Kept.{method_kept}
use Rattle.jc_tables.proofs.pushing.push_method.Goals as goal

pub returns-clause-kept : goal.returns-clause-kept
returns-clause-kept c = λ is stands.
    let T = c.args.table.now in
    let made = λ (xs : List MethodDecl). let U : Table = record T { methods = xs } in U in
    let e = c.in_ok-push.ensures.ok in
    subst (λ xs. IsTable (made xs)) (sym e) (method_kept T c.args.method is (subst (λ xs. IsTrue (method_stands (made xs) c.args.method)) e stands))
