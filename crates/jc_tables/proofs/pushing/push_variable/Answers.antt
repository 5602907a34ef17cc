use Rattle.std.proofs.Common.{IsTrue, List, sym, subst}
use Rattle.jc_types.specs.declared.declarations.VariableDecl.{VariableDecl}
use Rattle.jc_types.specs.declared.table.Table.{Table}
use Rattle.jc_types.specs.Tables.{IsTable}
use Rattle.jc_tables.specs.Making.{variable_stands}
use Rattle.jc_tables.proofs.Kept.{variable_kept}
use Rattle.jc_tables.proofs.pushing.push_variable.Goals as goal

pub returns-clause-kept : goal.returns-clause-kept
returns-clause-kept c = λ is stands.
    let T = c.args.table.now in
    let made = λ (xs : List VariableDecl). let U : Table = record T { variables = xs } in U in
    let e = c.in_ok-push.ensures.ok in
    subst (λ xs. IsTable (made xs)) (sym e) (variable_kept T c.args.variable is (subst (λ xs. IsTrue (variable_stands (made xs) c.args.variable)) e stands))
