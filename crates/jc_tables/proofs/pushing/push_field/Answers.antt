use Rattle.std.proofs.Common.{IsTrue, List, sym, subst}
use Rattle.jc_types.specs.declared.declarations.FieldDecl.{FieldDecl}
use Rattle.jc_types.specs.declared.table.Table.{Table}
use Rattle.jc_types.specs.Tables.{IsTable}
use Rattle.jc_tables.specs.Making.{field_stands}
use Rattle.jc_tables.proofs.Kept.{field_kept}
use Rattle.jc_tables.proofs.pushing.push_field.Goals as goal

pub returns-clause-kept : goal.returns-clause-kept
returns-clause-kept c = λ is stands.
    let T = c.args.table.now in
    let made = λ (xs : List FieldDecl). let U : Table = record T { fields = xs } in U in
    let e = c.in_ok-push.ensures.ok in
    subst (λ xs. IsTable (made xs)) (sym e) (field_kept T c.args.field is (subst (λ xs. IsTrue (field_stands (made xs) c.args.field)) e stands))
