-- What is created has a class or a primitive type at its base, also inside a generic method (JLS 15.9, 15.10, 15.12.4.2): what stands for type variables at run
-- time can't change what is made. Of typed trees this is what erasure needs.
use Rattle.std.specs.Prelude.{◌≡◌, suc, ◌≤◌, Bool, true, false, List, [], ◌∷◌, Some}
use Rattle.jc_types.specs.declared.form.Arg.{Arg}
use Rattle.jc_types.specs.declared.form.Ty.{Ty, Ty-F, out-Ty}
use Rattle.jc_types.specs.declared.ids.MethodId.{MethodId}
use Rattle.jc_types.specs.declared.table.Table.{Table}
use Rattle.jc_types.specs.Accessors.{method_owner_of}
use Rattle.jc_heaps.specs.Classes.{class_of}
use Rattle.jc_heaps.specs.Layout.{or_object}
use Rattle.jc_typed.specs.declared.expressions.ExprForm.{ExprForm}
use Rattle.jc_typed.specs.declared.expressions.ExprForm.TheVariants as f
use Rattle.jc_typed.specs.declared.expressions.ExprNode.{ExprNode}
use Rattle.jc_typed.specs.declared.expressions.ExprNode.TheVariants as e
use Rattle.jc_typed.specs.declared.nodes.Node.{Node}
use Rattle.jc_typed.specs.declared.nodes.Node.TheVariants as n
use Rattle.jc_typed.specs.Parts.{type_of}

-- a class type, a raw type or a primitive type
abbrev pub is_base_layer : Ty-F Arg Ty → Bool
is_base_layer (Ty-F.Class id args) = true
is_base_layer (Ty-F.Raw id) = true
is_base_layer (Ty-F.Prim p) = true
is_base_layer _ = false

-- .. under at most 255 dimensions
abbrev pub FirmLayer : Ty-F Arg Ty → Type 0
FirmLayer (Ty-F.Array t m) = (is_base_layer (out-Ty t) ≡ true) × (suc m ≤ 255)
FirmLayer l = ⊥

-- an object is made of the constructor's class, and an array of an array type
abbrev pub IsOfClass : Table → MethodId → Ty → Type 0
IsOfClass T m t = class_of t ≡ Some (or_object (method_owner_of T m))

abbrev pub FirmForm : Table → Ty → ExprForm → Type 0
FirmForm T t (f.New m args phase thrown is_raw) = IsOfClass T m t
FirmForm T t (f.NewArray lengths) = FirmLayer (out-Ty t)
FirmForm T t (f.ArrayOf elements) = FirmLayer (out-Ty t)
FirmForm T t _ = Unit {0}

-- an expression of an arena, and any node of it
abbrev pub FirmExpr : Table → List Node → ExprNode → Type 0
FirmExpr T nodes e.Missing = Unit {0}
FirmExpr T nodes (e.Expr place ty captures form) = FirmForm T (type_of nodes ty) form

abbrev pub FirmNode : Table → List Node → Node → Type 0
FirmNode T nodes (n.Expr x) = FirmExpr T nodes x
FirmNode T nodes _ = Unit {0}

-- each of these nodes
abbrev pub FirmEach : Table → List Node → List Node → Type 0
FirmEach T nodes [] = Unit {0}
FirmEach T nodes (n ∷ ns) = FirmNode T nodes n × FirmEach T nodes ns

-- .. and all of an arena
abbrev pub Firm : Table → List Node → Type 0
Firm T nodes = FirmEach T nodes nodes
