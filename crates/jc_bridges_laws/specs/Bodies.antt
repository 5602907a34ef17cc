-- What the bodies of methods that have one name and descriptor have to do with each other (JLS 8.4.2, 8.4.8.1, 8.4.8.3, 8.4.8.4), and that selection by name
-- and descriptor leads to them.
use Rattle.std.specs.Prelude.{◌≡◌, ◌⊎◌, ◌<◌, ◌+◌, true, false, List, [], ◌∷◌, length, Some, None}
use Rattle.jc_types.specs.declared.ids.ClassId.{ClassId}
use Rattle.jc_types.specs.declared.ids.MethodId.{MethodId}
use Rattle.jc_types.specs.declared.table.Table.{Table}
use Rattle.jc_types.specs.Accessors.{class_count, is_interface, methods_of}
use Rattle.jc_overriding.specs.Overriding.{owner, same_class, select, superclass}
use Rattle.jc_bridges_spec.specs.declared.bridge.Bridge.{Bridge}
use Rattle.jc_bridges_spec.specs.Bridging.{is_at}
use Rattle.jc_bridges_spec.specs.Descriptors.{is_called_as, is_selectable}
use Rattle.jc_bridges_laws.specs.Selecting.{Written, Across, selected}

-- x is one of these
abbrev pub IsListed : {X : Type 0} → X → List X → Type 0
IsListed x [] = ⊥
IsListed x (y ∷ ys) = (x ≡ y) ⊎ IsListed x ys

-- class k and its superclasses, the nearest first, none of which is an interface (JLS 8.1.4)
abbrev pub IsLine : Table → ClassId → List ClassId → Type 0
IsLine T k [] = (is_interface T k ≡ false) × (superclass T k ≡ None)
IsLine T k (c ∷ cs) = (is_interface T k ≡ false) × (superclass T k ≡ Some c) × IsLine T c cs

-- a method that a call may select, declared in class k or above it
pub record IsVirtual (T : Table) (k : ClassId) (m : MethodId) : Type 0 where
  pub selectable : is_selectable T m ≡ true
  pub here : is_at T k m ≡ true

-- `own` is the body that class k has for m
pub record IsBody (T : Table) (k : ClassId) (m own : MethodId) : Type 0 where
  pub virtual : IsVirtual T k m
  pub body : select T k m ≡ Some own

-- What overriding keeps in a table whose headers and clashes break no rule
pub record HasBodies (T : Table) : Type 0 where
  -- each class that is no interface has superclasses, as many as there are classes at most
  pub lines : (k : ClassId) → is_interface T k ≡ false → (cs : List ClassId) × IsLine T k cs × (length cs < class_count T + 1)
  -- a method is listed by its class, and a class lists its own
  pub listed : (k : ClassId) (m : MethodId) → is_selectable T m ≡ true → same_class (owner T m) k ≡ true → IsListed m (methods_of T k)
  pub owned : (k : ClassId) (m : MethodId) → IsListed m (methods_of T k) → same_class (owner T m) k ≡ true
  -- what is declared in a class without a superclass or above it is declared in it
  pub rooted : (k : ClassId) (m : MethodId) → superclass T k ≡ None → is_at T k m ≡ true → same_class (owner T m) k ≡ true
  -- methods of one name and descriptor have one body in a class, or none has one (JLS 8.4.8.3)
  pub one : (k : ClassId) (m n : MethodId) → IsVirtual T k m → IsVirtual T k n → is_called_as T m n ≡ true → select T k m ≡ select T k n
  -- a method that a class declares has no other body there (JLS 8.4.2)
  pub declared : (k : ClassId) (m own : MethodId) → IsListed m (methods_of T k) → IsBody T k m own → own ≡ m
  -- a body may be called itself, under the called method's name, and is its own body (JLS 8.4.8.3: overriding gives no less access)
  pub itself : (k : ClassId) (m own : MethodId) → IsBody T k m own → IsBody T k own own
  -- a body that a class doesn't declare is inherited from its superclass (JLS 8.4.8)
  pub inherited : (k c : ClassId) (own : MethodId) → superclass T k ≡ Some c → IsBody T k own own → same_class (owner T own) k ≡ false → IsBody T c own own

-- a call of m by name and descriptor for an object of class k runs `own`: at once, or by way of one bridge that stands for m
abbrev pub LeadsTo : Table → ClassId → MethodId → MethodId → Type 0
LeadsTo T k m own =
    ((selected T k m ≡ Some (Written own)) × (is_called_as T own m ≡ true))
    ⊎ ((b : Bridge) × (selected T k m ≡ Some (Across b)) × (is_called_as T b.called m ≡ true) × (is_called_as T own b.own ≡ true) × (selected T k b.own ≡ Some (Written own)))
