-- Locals that are declared one after the other.
use Rattle.std.proofs.Common.{◌≡◌, refl, ap, List, [], ◌∷◌, ◌++◌, append_assoc, append-nil}
use Rattle.jc_exprs_locals.specs.declared.scoped.ScopedLocal.{ScopedLocal}
use Rattle.jc_exprs_locals.specs.Scoped.{local_of, locals_of}

pub locals_more : (ls : List ScopedLocal) (l : ScopedLocal) → locals_of (ls ++ l ∷ []) ≡ locals_of ls ++ local_of l ∷ []
locals_more [] l = refl
locals_more (m ∷ ms) l = ap (λ xs. local_of m ∷ xs) (locals_more ms l)

pub ruleset scoping = (locals_more, append_assoc, append-nil)
