-- Which method a call selects by its name and descriptor (JVMS 6.5, invokevirtual and invokeinterface), where each class has its bridges.
use Rattle.std.specs.Prelude.{ℕ, zero, suc, ◌+◌, ◌&&◌, cond, List, [], ◌∷◌, Option, Some, None}
use Rattle.jc_types.specs.declared.ids.ClassId.{ClassId}
use Rattle.jc_types.specs.declared.ids.MethodId.{MethodId}
use Rattle.jc_types.specs.declared.table.Table.{Table}
use Rattle.jc_types.specs.Accessors.{class_count, methods_of}
use Rattle.jc_overriding.specs.Overriding.{superclass}
use Rattle.jc_bridges_spec.specs.declared.bridge.Bridge.{Bridge}
use Rattle.jc_bridges_spec.specs.Descriptors.{is_called_as, is_selectable}
use Rattle.jc_bridges_spec.specs.Bridging.{bridges}

-- what a call selects: a method that a class declares, or a bridge
pub data Selected : Type 0 where
  Written : (method : MethodId) → Selected
  Across : (bridge : Bridge) → Selected

-- the first of these bridges that has m's name and descriptor
abbrev pub among_bridges : Table → MethodId → List Bridge → Option Selected
among_bridges T m [] = None
among_bridges T m (b ∷ bs) = cond (is_called_as T b.called m) (Some (Across b)) (among_bridges T m bs)

-- the first of these methods that may be selected and has m's name and descriptor, and `other` where there is none
abbrev pub among_methods : Table → MethodId → List MethodId → Option Selected → Option Selected
among_methods T m [] other = other
among_methods T m (n ∷ ns) other = cond (is_selectable T n && is_called_as T n m) (Some (Written n)) (among_methods T m ns other)

-- what a class has itself
abbrev pub in_class : Table → MethodId → ClassId → Option Selected
in_class T m k = among_methods T m (methods_of T k) (among_bridges T m (bridges T k))

-- what was found, or else what the superclass has, if there is one
abbrev pub or_above : (ClassId → Option Selected) → Option Selected → Option ClassId → Option Selected
or_above f (Some s) k = Some s
or_above f None (Some k) = f k
or_above f None None = None

-- the nearest from class k upwards, through at most n classes
unfoldable pub selected_within : Table → MethodId → ℕ → ClassId → Option Selected
selected_within T m zero k = None
selected_within T m (suc n) k = or_above (selected_within T m n) (in_class T m k) (superclass T k)

-- for an object of class k; no class is above itself, so these are steps enough
abbrev pub selected : Table → ClassId → MethodId → Option Selected
selected T k m = selected_within T m (class_count T + 1) k
