use Rattle.std.proofs.Common.{◌≡◌, ◌++◌, List, ap, ◌∙◌}
use Rattle.jc_types.specs.declared.declarations.ClassDecl.{ClassDecl}
use Rattle.jc_types.specs.declared.declarations.FieldDecl.{FieldDecl}
use Rattle.jc_types.specs.declared.declarations.MethodDecl.{MethodDecl}
use Rattle.jc_types.specs.declared.declarations.VariableDecl.{VariableDecl}
use Rattle.jc_types.specs.declared.scopes.Scope.{Scope}
use Rattle.jc_types.specs.declared.scopes.Use.{Use}
use Rattle.jc_types.specs.declared.table.Table.{Table}
use Rattle.jc_declares.specs.Making.{class_decl, method_decl, field_decl, variable_decl, use_decls, numbered}
use Rattle.jc_declares.specs.Sites as site
use Rattle.jc_looking.specs.Members.{known_in}
use Rattle.jc_table.proofs.table.fill.Goals as goal

filled : Table → List ClassDecl → List MethodDecl → List FieldDecl → List VariableDecl → List Scope → List Use → Table
filled T classes methods fields variables scopes uses = record { classes = classes; methods = methods; fields = fields; variables = variables; scopes = scopes; uses = uses; index = T.index }

same : (T : Table) {classes classes2 : List ClassDecl} {methods methods2 : List MethodDecl} {fields fields2 : List FieldDecl} {variables variables2 : List VariableDecl} {scopes scopes2 : List Scope} {uses uses2 : List Use}
    → classes ≡ classes2 → methods ≡ methods2 → fields ≡ fields2 → variables ≡ variables2 → scopes ≡ scopes2 → uses ≡ uses2
    → filled T classes methods fields variables scopes uses ≡ filled T classes2 methods2 fields2 variables2 scopes2 uses2
same T a b c d e f = cc

pub returns : goal.returns
unfolding filled
returns c =
    let H = c.args.scene.now.declared.heads.now in let K = known_in c.args.scene.now.known.now in let T : Table = c.args.table.now in
    same T (c.in_ok-push_classes.ensures ∙ ap (λ (l : List site.ClassSite). T.classes ++ numbered (class_decl H K) 0 l) c.slice.ensures)
    (c.in_ok-push_methods.ensures ∙ ap (λ (l : List site.MethodSite). T.methods ++ numbered (method_decl H K) 0 l) c.slice-2.ensures)
    (c.in_ok-push_fields.ensures ∙ ap (λ (l : List site.FieldSite). T.fields ++ numbered (field_decl H K) 0 l) c.slice-3.ensures)
    (c.in_ok-push_variables.ensures ∙ ap (λ (l : List site.VariableSite). T.variables ++ numbered (variable_decl H K) 0 l) c.slice-4.ensures)
    c.in_ok-push_scopes.ensures
    (c.in_ok-push_uses.ensures ∙ ap (λ (l : List site.UseSite). T.uses ++ use_decls H K l) c.slice-5.ensures)
