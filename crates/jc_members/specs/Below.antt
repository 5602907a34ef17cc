-- What overriding and hiding ask alike.
use Rattle.std.specs.Prelude.{Bool, ◌&&◌, ◌||◌, Option}
use Rattle.jc_types.specs.declared.ids.ClassId.{ClassId}
use Rattle.jc_types.specs.declared.ids.MethodId.{MethodId}
use Rattle.jc_types.specs.declared.table.Table.{Table}
use Rattle.jc_overriding.specs.declared.view.MethodView.{MethodView}
use Rattle.jc_overriding.specs.Overriding.{hides, is_above, is_inheritable, overrides, owner, subsignature_of}
use Rattle.jc_overriding.specs.Viewing.{class_view}

-- the class of method n is above class k, which may inherit n, and a's signature is a subsignature of n's there
abbrev pub signature_below : Table → ClassId → Option MethodView → MethodId → Bool
signature_below T k a n = is_above T k (owner T n) && is_inheritable T k n && subsignature_of T a (class_view T k n)

-- method m overrides or hides method n
abbrev pub replaces : Table → MethodId → MethodId → Bool
replaces T m n = overrides T m n || hides T m n
