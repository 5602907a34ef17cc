-- Fields by their class and name, formal parameters of one method by their name, and type parameters by their owner and name.
use Rattle.std.specs.Prelude.{ℕ, List, Option, Some}
use Rattle.jc_tree.specs.declared.statement.Formal.{Formal}
use Rattle.jc_types.specs.Names.{named}
use Rattle.jc_types.specs.declared.declarations.Owner.{Owner}
use Rattle.jc_types.specs.declared.declarations.Owner.TheVariants as owner
use Rattle.jc_declares.specs.declared.heads.FieldHead.{FieldHead}
use Rattle.jc_declares.specs.declared.heads.Heads.{Heads}
use Rattle.jc_declares.specs.Heads.{class_variables, method_variables}

-- a field in the space of its class, under its name
abbrev pub as_field : FieldHead → Option (ℕ × List ℕ)
as_field f = Some (f.class, f.name)

-- a formal parameter under its name, in the one space of its method
abbrev pub as_formal : Formal → Option (ℕ × List ℕ)
as_formal f = Some (0, f.name.text)

-- the first type parameter of a name
abbrev pub owner_named : Heads → Owner → List ℕ → Option ℕ
owner_named H (owner.Class c) n = named n (class_variables H c.0)
owner_named H (owner.Method m) n = named n (method_variables H m.0)
