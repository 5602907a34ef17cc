-- Names and descriptors of methods, as class files have them (JLS 4.6, JVMS 4.3.3).
use Rattle.std.specs.Prelude.{◌==◌, Bool, true, false, not, ◌&&◌, List, [], ◌∷◌, Option, Some, None}
use Rattle.std.specs.Str.{bytes_eq}
use Rattle.jc_types.specs.declared.declarations.Access.{Access}
use Rattle.jc_types.specs.declared.declarations.Access.TheVariants as access
use Rattle.jc_types.specs.declared.erased.Base.{Base}
use Rattle.jc_types.specs.declared.erased.Base.TheVariants as base
use Rattle.jc_types.specs.declared.erased.Erased.{Erased}
use Rattle.jc_types.specs.declared.form.Primitive.{Primitive}
use Rattle.jc_types.specs.declared.form.Primitive.TheVariants.{Boolean, Byte, Short, Char, Int, Long}
use Rattle.jc_types.specs.declared.form.Ty.{Ty}
use Rattle.jc_types.specs.declared.ids.MethodId.{MethodId}
use Rattle.jc_types.specs.declared.table.Table.{Table}
use Rattle.jc_types.specs.Accessors.{method_name_of, params_of, result_of}
use Rattle.jc_types.specs.Erasing.{erasure}
use Rattle.jc_overriding.specs.Overriding.{access_of, is_instance}

-- equality of primitive types, of types without dimensions, and of erased types
abbrev pub same_primitive : Primitive → Primitive → Bool
same_primitive Boolean Boolean = true
same_primitive Byte Byte = true
same_primitive Short Short = true
same_primitive Char Char = true
same_primitive Int Int = true
same_primitive Long Long = true
same_primitive _ _ = false

abbrev pub same_base : Base → Base → Bool
same_base (base.Prim p) (base.Prim q) = same_primitive p q
same_base (base.Class k) (base.Class c) = k.0 == c.0
same_base base.NullTy base.NullTy = true
same_base _ _ = false

abbrev pub same_erased : Erased → Erased → Bool
same_erased e f = (e.dims == f.dims) && same_base e.base f.base

-- two types have one erasure
unfoldable pub same_erasure : Table → Ty → Ty → Bool
same_erasure T s t = same_erased (erasure T [] s) (erasure T [] t)

-- as many types with the same erasures, place by place
abbrev pub same_erasures : Table → List Ty → List Ty → Bool
same_erasures T [] [] = true
same_erasures T [] (t ∷ ts) = false
same_erasures T (s ∷ ss) [] = false
same_erasures T (s ∷ ss) (t ∷ ts) = same_erasure T s t && same_erasures T ss ts

-- results of one erasure, or none on both sides
abbrev pub same_results : Table → Option Ty → Option Ty → Bool
same_results T None None = true
same_results T None (Some t) = false
same_results T (Some s) None = false
same_results T (Some s) (Some t) = same_erasure T s t

-- two methods as they are declared have one descriptor: the erasures of their parameters and of their results
abbrev pub same_descriptor : Table → MethodId → MethodId → Bool
same_descriptor T m n = same_erasures T (params_of T m) (params_of T n) && same_results T (result_of T m) (result_of T n)

-- one name, byte by byte, and one descriptor
abbrev pub is_called_as : Table → MethodId → MethodId → Bool
is_called_as T m n = bytes_eq (method_name_of T m) (method_name_of T n) && same_descriptor T m n

abbrev pub is_private : Access → Bool
is_private access.Private = true
is_private _ = false

-- a call by the class of its object may select the method: it is no constructor, and neither private nor static (JVMS 6.5, invokevirtual)
abbrev pub is_selectable : Table → MethodId → Bool
is_selectable T m = is_instance T m && not (is_private (access_of T m))
