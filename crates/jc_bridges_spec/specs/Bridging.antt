-- The bridge methods of a class: so calls by name and descriptor (JVMS 6.5, invokevirtual) lead to the bodies that overriding gives (JLS 8.4.8, 15.12.4.4),
-- where these have other descriptors (JLS 15.12.4.5).
use Rattle.std.specs.Prelude.{ℕ, zero, suc, ◌==◌, Bool, true, false, not, cond, ◌&&◌, ◌||◌, List, [], ◌∷◌, ◌++◌, length, Option, Some, None}
use Rattle.std.specs.List.{list_any}
use Rattle.jc_types.specs.declared.ids.ClassId.{ClassId}
use Rattle.jc_types.specs.declared.ids.MethodId.{MethodId}
use Rattle.jc_types.specs.declared.table.Table.{Table}
use Rattle.jc_types.specs.Accessors.{is_interface, method_name_of}
use Rattle.jc_overriding.specs.Overriding.{is_above, owner, same_class, select, superclass}
use Rattle.jc_members.specs.Named.{all_named}
use Rattle.jc_bridges_spec.specs.declared.bridge.Bridge.{Bridge}
use Rattle.jc_bridges_spec.specs.Descriptors.{is_called_as, is_selectable, same_descriptor}

-- method m is declared in class k or above it
abbrev pub is_at : Table → ClassId → MethodId → Bool
is_at T k m = same_class (owner T m) k || is_above T k (owner T m)

-- A call that a bridge of the superclass leads to its body `old` comes to `own` in class k: it is that body, or k declares it with the name and the descriptor
-- by which the bridge calls
abbrev pub goes_on : Table → ClassId → MethodId → MethodId → Bool
goes_on T k own old = (old.0 == own.0) || (same_class (owner T own) k && is_called_as T own old)

-- the superclass has a body for a method, under another descriptor than m's, so a bridge leads to it; and that call comes to `own` in class k
abbrev pub goes_across : Table → ClassId → MethodId → MethodId → Option MethodId → Bool
goes_across T k m own None = false
goes_across T k m own (Some old) = not (same_descriptor T m old) && goes_on T k own old

-- .. for method n of the superclass c or above it, which has m's name and descriptor
abbrev pub leads_by : Table → ClassId → ClassId → MethodId → MethodId → MethodId → Bool
leads_by T k c m own n = is_selectable T n && is_called_as T n m && is_at T c n && goes_across T k m own (select T c n)

-- .. for one of these methods
abbrev pub leads_among : Table → ClassId → ClassId → MethodId → MethodId → List MethodId → Bool
leads_among T k c m own [] = false
leads_among T k c m own (n ∷ ns) = leads_by T k c m own n || leads_among T k c m own ns

-- the bridges that class k inherits already lead m's name and descriptor to `own`
abbrev pub leads_in : Table → ClassId → MethodId → MethodId → Option ClassId → Bool
leads_in T k m own None = false
leads_in T k m own (Some c) = leads_among T k c m own (all_named T (method_name_of T m))

-- the body that class k has for m has another descriptor, and nothing that k inherits leads to it
abbrev pub is_led_astray : Table → ClassId → MethodId → Option MethodId → Bool
is_led_astray T k m None = false
is_led_astray T k m (Some own) = not (same_descriptor T m own) && not (leads_in T k m own (superclass T k))

-- a method above class k that a call may select wants a bridge there
unfoldable pub wants_bridge : Table → ClassId → MethodId → Bool
wants_bridge T k m = is_selectable T m && is_above T k (owner T m) && is_led_astray T k m (select T k m)

-- one of these bridges has m's name and descriptor
abbrev pub is_bridged : Table → MethodId → List Bridge → Bool
is_bridged T m bs = list_any (λ (b : Bridge). is_called_as T b.called m) bs

-- these bridges and one from m to a body, if there is one
abbrev pub with_bridge_to : MethodId → List Bridge → Option MethodId → List Bridge
with_bridge_to m bs None = bs
with_bridge_to m bs (Some own) = bs ++ record { called = m; own = own } ∷ []

-- these bridges, and one for m, where it wants one and none of these has its name and descriptor
abbrev pub with_bridge : Table → ClassId → List Bridge → MethodId → List Bridge
with_bridge T k bs m = cond (wants_bridge T k m && not (is_bridged T m bs)) (with_bridge_to m bs (select T k m)) bs

-- the bridges of class k for the first n methods of the table
abbrev pub bridges_for : Table → ClassId → ℕ → List Bridge
bridges_for T k zero = []
bridges_for T k (suc n) = with_bridge T k (bridges_for T k n) (record { 0 = n })

-- The bridges of a class, in the order of the methods that they stand for in the table: one for each name and descriptor of a method above the class whose body
-- there has another descriptor, where no bridge of a class above leads to that body. An interface has none: its methods have no bodies
abbrev pub bridges_if : Table → ClassId → Bool → List Bridge
bridges_if T k true = []
bridges_if T k false = bridges_for T k (length T.methods)

unfoldable pub bridges : Table → ClassId → List Bridge
bridges T k = bridges_if T k (is_interface T k)
