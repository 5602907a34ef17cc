-- Declarations by the reading of their types and by where they stand.
use Rattle.std.specs.Prelude.{ℕ, Bool, map}
use Rattle.jc_rules.specs.declared.rule.Place.{Place}
use Rattle.jc_tree.specs.declared.statement.LocalVars.{LocalVars}
use Rattle.jc_tree.specs.declared.statement.MethodHead.{MethodHead}
use Rattle.jc_tree.specs.declared.statement.TypeParam.{TypeParam}
use Rattle.jc_tree.specs.declared.statement.Var.{Var}
use Rattle.jc_tree.specs.Offsets.{first_offset_of_type, first_offset_of_method}
use Rattle.jc_types.specs.declared.declarations.FieldDecl.{FieldDecl}
use Rattle.jc_types.specs.declared.declarations.MethodDecl.{MethodDecl}
use Rattle.jc_types.specs.declared.declarations.Modifiers.{Modifiers}
use Rattle.jc_types.specs.declared.declarations.Owner.{Owner}
use Rattle.jc_types.specs.declared.declarations.VariableDecl.{VariableDecl}
use Rattle.jc_declares.specs.declared.heads.Heads.{Heads}
use Rattle.jc_declares.specs.Heads.{is_interface, method_variables}
use Rattle.jc_declares.specs.Looking.{Knowledge}
use Rattle.jc_declares.specs.Making.{place_at, class_id, types, or_object, written_at, written_classes, written_formal, param_name, written_result, kind_of_method, variable_ids}
use Rattle.jc_declares.specs.Modifiers.{method_modifiers, last_is_variable}
use Rattle.jc_declares.specs.Writing.{Reading, wrote_type}
use Rattle.jc_declared.specs.Types.{value_of}

-- method m of class c, in scope s of a file, with its types read so
abbrev pub method_in : Heads → Knowledge → Reading → ℕ → ℕ → ℕ → ℕ → MethodHead → Bool → MethodDecl
method_in H K r file m c s head has_block =
    record {
      place = place_at file (first_offset_of_method head);
      class = class_id c;
      name = head.name.text;
      kind = kind_of_method head.result;
      modifiers = method_modifiers (is_interface H c) head.modifiers;
      scope = record { 0 = s };
      vars = variable_ids (method_variables H m);
      params = types (map (written_formal H K file r) head.formals);
      param_names = map (param_name file) head.formals;
      result = written_result H K file r head.result;
      thrown = types (written_classes H K file r head.throws);
      is_variable_arity = last_is_variable head.formals;
      has_body = has_block;
    }

-- a field of class c with these modifiers, one of the variables that are declared together, in scope s of a file
abbrev pub field_in : Heads → Knowledge → Reading → ℕ → ℕ → ℕ → Modifiers → LocalVars → Var → FieldDecl
field_in H K r file c s ms vars var =
    record {
      place = place_at file var.name.at;
      class = class_id c;
      name = var.name.text;
      modifiers = ms;
      ty = written_at file (first_offset_of_type vars.ty) var.dims (wrote_type H K r vars.ty);
      value = value_of H K file r s var.init ms.is_final;
    }

-- a type parameter of an owner at a place, with Object where it writes no bound (JLS 4.4)
abbrev pub variable_in : Heads → Knowledge → Reading → Place → Owner → TypeParam → VariableDecl
variable_in H K r at owner param =
    record { place = at; name = param.name.text; owner = owner; bounds = types (or_object at.file at.at (written_classes H K at.file r param.bounds)) }
