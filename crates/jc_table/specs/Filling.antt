-- A table with all declarations of a program behind those that it has, and the supertypes that a head writes.
use Rattle.std.specs.Prelude.{ℕ, Bool, cond, ◌==◌, List, [], ◌++◌}
use Rattle.jc_tree.specs.declared.statement.DeclarationHead.{DeclarationHead}
use Rattle.jc_tree.specs.Offsets.{first_offset_of_head}
use Rattle.jc_types.specs.declared.declarations.ClassDecl.{ClassDecl}
use Rattle.jc_types.specs.declared.declarations.Written.{Written}
use Rattle.jc_types.specs.declared.table.Table.{Table}
use Rattle.jc_declares.specs.declared.heads.Heads.{Heads}
use Rattle.jc_declares.specs.Sites.{Sites}
use Rattle.jc_declares.specs.Heads.{superclass_trees, interface_trees}
use Rattle.jc_declares.specs.Looking.{Knowledge}
use Rattle.jc_declares.specs.Writing.{Reading}
use Rattle.jc_declares.specs.Making.{or_object, written_classes, class_decl, method_decl, field_decl, variable_decl, scope_decl, use_decls, numbered}

-- the supertypes that the head of class c writes in a file, read in one way: the superclass, and then the superinterfaces
abbrev pub superclass_read : Heads → Knowledge → Reading → ℕ → ℕ → DeclarationHead → List Written
superclass_read H K r c file head = cond (c == 0) [] (or_object file (first_offset_of_head head) (written_classes H K file r (superclass_trees head)))

-- the superinterfaces behind the superclass, in the order in which they are written
abbrev pub supers_read : Heads → Knowledge → Reading → ℕ → ℕ → DeclarationHead → List Written
supers_read H K r c file head = superclass_read H K r c file head ++ written_classes H K file r (interface_trees head)

-- class c by where it is declared, of which its unit plays no part
abbrev pub class_in : Heads → Knowledge → ℕ → ℕ → ℕ → Bool → List ℕ → DeclarationHead → ClassDecl
class_in H K c file scope of_interface round head =
    class_decl H K c (record { file = file; unit = 0; round = round; of_interface = of_interface; scope = scope; head = head })

-- all declarations of these sites behind those of T; the index of binary names stays as it is
abbrev pub with_declarations : Sites → Heads → Knowledge → Table → Table
with_declarations S H K T =
    record {
      classes = T.classes ++ numbered (class_decl H K) 0 S.classes;
      methods = T.methods ++ numbered (method_decl H K) 0 S.methods;
      fields = T.fields ++ numbered (field_decl H K) 0 S.fields;
      variables = T.variables ++ numbered (variable_decl H K) 0 S.variables;
      scopes = T.scopes ++ numbered (scope_decl H K) 0 H.scopes;
      uses = T.uses ++ use_decls H K S.uses;
      index = T.index;
    }
