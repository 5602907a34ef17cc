-- Heads of declarations that follow one another.
use Rattle.std.specs.Prelude.{ℕ, [], ◌∷◌, ◌++◌, length, Some}
use Rattle.jc_tree.specs.declared.statement.Var.{Var}
use Rattle.jc_declares.specs.declared.heads.FieldHead.{FieldHead}
use Rattle.jc_declares.specs.declared.heads.Heads.{Heads}
use Rattle.jc_declares.specs.declared.heads.ScopeForm.TheVariants as scope_of
use Rattle.jc_declares.specs.declared.heads.Standing.{Standing}
use Rattle.jc_declares.specs.Sites.{Counts, innermost}

-- the ones and then the others
abbrev pub joined_heads : Heads → Heads → Heads
joined_heads a b =
    record {
      units = a.units ++ b.units;
      classes = a.classes ++ b.classes;
      methods = a.methods ++ b.methods;
      fields = a.fields ++ b.fields;
      variables = a.variables ++ b.variables;
      scopes = a.scopes ++ b.scopes;
    }

-- how many classes, methods and scopes there are
abbrev pub counted : Heads → Counts
counted h = record { classes = length h.classes; methods = length h.methods; scopes = length h.scopes }

-- with one method more, and its scope
abbrev pub with_method : Standing → Heads → Heads
with_method at h =
    record h {
      methods = h.methods ++ record { class = innermost at.round; scope = length h.scopes } ∷ [];
      scopes = h.scopes ++ record { outer = Some at.scope; form = scope_of.Method (length h.methods) } ∷ [];
    }

-- a field of a class
abbrev pub field_of_var : ℕ → Var → FieldHead
field_of_var class v = record { class = class; at = v.name.at; name = v.name.text }
