-- The types of a method's parameters as a call with some number of arguments has them (JLS 15.12.2.4).
use Rattle.std.specs.Prelude.{ℕ, zero, suc, List, [], ◌∷◌, replicate, Option, Some, None}
use Rattle.jc_types.specs.declared.conversion.Phase.{Phase}
use Rattle.jc_types.specs.declared.conversion.Phase.TheVariants.{Subtyping, Invocation, VariableArity}
use Rattle.jc_types.specs.declared.form.Ty.{Ty}
use Rattle.jc_types.specs.Arrays.{element}

-- the type of elements, or the type itself where it has none
abbrev pub or_same : Ty → Option Ty → Ty
or_same t (Some e) = e
or_same t None = t

-- the type of an element of the last parameter stands for each argument from its place on
abbrev pub stretched : List Ty → ℕ → List Ty
stretched [] n = []
stretched (p ∷ []) n = replicate n (or_same p (element p))
stretched (p ∷ q ∷ ps) zero = []
stretched (p ∷ q ∷ ps) (suc n) = p ∷ stretched (q ∷ ps) n

-- in the third phase the last parameter is stretched
abbrev pub formals : Phase → List Ty → ℕ → List Ty
formals Subtyping params n = params
formals Invocation params n = params
formals VariableArity params n = stretched params n
