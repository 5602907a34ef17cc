-- The names of methods in class files.
use Rattle.std.specs.Prelude.{ℕ, zero, suc, ◌+◌, ◌==◌, Bool, false, not, ◌&&◌, List, ◌++◌, Option, Some, None, codes, if◌then◌else◌}
use Rattle.std.specs.Fmt.{decimal}
use Rattle.std.specs.List.{list_any}
use Rattle.jc_types.specs.declared.ids.ClassId.{ClassId}
use Rattle.jc_types.specs.declared.ids.MethodId.{MethodId}
use Rattle.jc_types.specs.declared.declarations.Modifiers.{Modifiers}
use Rattle.jc_types.specs.declared.table.Table.{Table}
use Rattle.jc_types.specs.Accessors.{class_count, method_kind_of, method_modifiers_of, method_name_of}
use Rattle.jc_heaps.specs.Classes.{superclass_of}
use Rattle.jc_heaps.specs.Making.{units_of_text}
use Rattle.jc_typed.specs.declared.expressions.ExprNode.TheVariants as e
use Rattle.jc_typed.specs.declared.expressions.ExprForm.{ExprForm}
use Rattle.jc_typed.specs.declared.expressions.ExprForm.TheVariants as f
use Rattle.jc_typed.specs.declared.nodes.Node.{Node}
use Rattle.jc_typed.specs.declared.nodes.Node.TheVariants as n
use Rattle.jc_typed.specs.declared.program.TypedMethod.{TypedMethod}
use Rattle.jc_typed.specs.declared.program.TypedProgram.{TypedProgram}
use Rattle.jc_meaning.specs.Programs.{method_class}
use Rattle.jc_erased.specs.Selecting.{is_plain_kind, is_private}

-- a form that calls a method
abbrev pub form_calls : MethodId → ExprForm → Bool
form_calls m (f.Call kind receiver method type_args args phase thrown is_raw) = method.0 == m.0
form_calls m _ = false

-- .. and a node
abbrev pub node_calls : MethodId → Node → Bool
node_calls m (n.Expr (e.Expr place ty captures form)) = form_calls m form
node_calls m _ = false

-- a method of another class calls it
abbrev pub calls_from_outside : Table → MethodId → TypedMethod → Bool
calls_from_outside T m t = not ((method_class T t.id).0 == (method_class T m).0) && list_any (node_calls m) t.nodes

-- whether a method is private and not static
abbrev pub is_private_instance : Option Modifiers → Bool
is_private_instance (Some m) = is_private m.access && not m.is_static
is_private_instance None = false

-- A private instance method that another class of its nest calls: it gets a name of its own and is no longer private, so that class files
-- may call it (JLS 6.6.1, JVMS 5.4.4)
abbrev pub is_opened : TypedProgram → MethodId → Bool
is_opened P m =
    is_plain_kind (method_kind_of P.table m) && is_private_instance (method_modifiers_of P.table m) && list_any (calls_from_outside P.table m) P.methods

-- one more than of the superclass; none where there is no superclass
abbrev pub one_above : (ClassId → ℕ) → Option ClassId → ℕ
one_above f None = 0
one_above f (Some k) = f k + 1

-- how many superclasses a class has, up to n
unfoldable pub depth_within : Table → ℕ → ClassId → ℕ
depth_within T zero k = 0
depth_within T (suc n) k = one_above (depth_within T n) (superclass_of T k)

abbrev pub depth_of : Table → ClassId → ℕ
depth_of T k = depth_within T (class_count T) k

-- The UTF-16 units of the name that a method has in its class file: its own name, and behind it `$p` and the number of superclasses of its
-- class where it is opened. The number keeps the methods of a class from overriding those of the classes above it
unfoldable pub erased_name : TypedProgram → MethodId → List ℕ
erased_name P m =
    if is_opened P m then units_of_text (method_name_of P.table m ++ codes "$p" ++ decimal (depth_of P.table (method_class P.table m)))
    else units_of_text (method_name_of P.table m)
