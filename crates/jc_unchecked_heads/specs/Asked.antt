-- A test of one method, of which some are asked.
use Rattle.std.specs.Prelude.{◌≡◌, ◌⊎◌, ◌==◌, Bool, not, ◌&&◌, List}
use Rattle.jc_types.specs.declared.ids.ClassId.{ClassId}
use Rattle.jc_types.specs.declared.ids.MethodId.{MethodId}
use Rattle.jc_types.specs.declared.table.Table.{Table}
use Rattle.jc_types.specs.Accessors.{method_name_of}
use Rattle.jc_overriding.specs.Overriding.{has_name, is_abstract, is_instance, overrides, owner, same_class, select}
use Rattle.jc_members.specs.Named.{all_named}
use Rattle.jc_method_rules.specs.Owned.{standing}
use Rattle.jc_unchecked_spec.specs.Heads.{are_open, is_open_selection}

-- method m overrides method n, and its result isn't below n's
unfoldable pub is_over_open : Table → MethodId → MethodId → Bool
is_over_open T m n = overrides T m n && are_open T (owner T m) m n

-- class k has for method m a body that it inherits, whose result isn't below m's
unfoldable pub is_selected_open : Table → ClassId → MethodId → Bool
is_selected_open T k m = is_open_selection T k m (select T k m)

-- method n has a body and the name of method m, and another class than k declares it
unfoldable pub is_rival : Table → ClassId → MethodId → MethodId → Bool
is_rival T k m n = has_name T (method_name_of T m) n && not (same_class (owner T n) k) && not (n.0 == m.0) && not (is_abstract T n) && is_instance T n

-- these are all methods of m's name, or all of class k and of the classes above it
abbrev pub AreAmong : Table → ClassId → MethodId → List MethodId → Type 0
AreAmong T k m ids = (ids ≡ all_named T (method_name_of T m)) ⊎ (ids ≡ standing T k)
