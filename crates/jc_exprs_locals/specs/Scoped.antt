-- Locals in scope as the definition of bodies has them.
use Rattle.std.specs.Prelude.{ℕ, ◌||◌, Bool, false, List, [], ◌∷◌, Option, None, map, if◌then◌else◌}
use Rattle.std.specs.Str.{bytes_eq}
use Rattle.jc_types.specs.declared.constant.Constant.{Constant}
use Rattle.jc_types.specs.declared.form.Ty.{Ty}
use Rattle.jc_types.specs.declared.form.Ty.TheVariants.{NullTy}
use Rattle.jc_exprs_parts_spec.specs.Worlds.{LocalIn}
use Rattle.jc_exprs_locals.specs.declared.scoped.ScopedLocal.{ScopedLocal}

abbrev pub local_of : ScopedLocal → LocalIn
local_of l = record { name = l.name; number = l.number; ty = l.ty; is_final = l.is_final; constant = l.constant }

abbrev pub locals_of : List ScopedLocal → List LocalIn
locals_of ls = map local_of ls

-- one of the name is in scope
abbrev pub is_named : List ℕ → List LocalIn → Bool
is_named n [] = false
is_named n (l ∷ ls) = bytes_eq n l.name || is_named n ls

abbrev pub last_type : List LocalIn → Ty
last_type [] = NullTy
last_type (l ∷ []) = l.ty
last_type (l ∷ m ∷ ls) = last_type (m ∷ ls)

-- with this value, if it is final
abbrev pub valued : Option Constant → LocalIn → LocalIn
valued c l = record l { constant = if l.is_final then c else None }

abbrev pub last_constant : Option Constant → List LocalIn → List LocalIn
last_constant c [] = []
last_constant c (l ∷ []) = valued c l ∷ []
last_constant c (l ∷ m ∷ ls) = l ∷ last_constant c (m ∷ ls)
