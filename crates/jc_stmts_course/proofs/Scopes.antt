-- Scopes, and locals in scope.
use Rattle.std.proofs.Common.{◌≡◌, refl, ap, ℕ, zero, suc, ◌||◌, List, [], ◌∷◌, ◌++◌, length, take}
use Rattle.std.specs.Str.{bytes_eq}
use Rattle.jc_exprs_locals.specs.declared.scoped.ScopedLocal.{ScopedLocal}
use Rattle.jc_exprs_locals.specs.Scoped.{is_named, local_of, locals_of}
use Rattle.jc_exprs_parts_spec.specs.Worlds.{LocalIn}
use Rattle.jc_stmts_spec.specs.Courses.{Scope, is_declared}
use Rattle.jc_stmts_wants.specs.declared.answers.Scope.{Scope as ScopeIn}
use Rattle.jc_stmts_wants.specs.Wanting.{scope_of}
use Rattle.jc_stmts_course.specs.Nows.{scopes_on}

pub scopes_more : (ss : List ScopeIn) (s : ScopeIn) (outer : List Scope) → scopes_on (ss ++ s ∷ []) outer ≡ scope_of s ∷ scopes_on ss outer
scopes_more [] s outer = refl
scopes_more (r ∷ ss) s outer = scopes_more ss s (scope_of r ∷ outer)

pub locals_length : (ls : List ScopedLocal) → length (locals_of ls) ≡ length ls
locals_length [] = refl
locals_length (l ∷ ls) = ap suc (locals_length ls)

pub locals_take : (n : ℕ) (ls : List ScopedLocal) → locals_of (take n ls) ≡ take n (locals_of ls)
locals_take zero [] = refl
locals_take zero (l ∷ ls) = refl
locals_take (suc n) [] = refl
locals_take (suc n) (l ∷ ls) = ap (λ xs. local_of l ∷ xs) (locals_take n ls)

pub locals_more : (ls : List ScopedLocal) (l : ScopedLocal) → locals_of (ls ++ l ∷ []) ≡ locals_of ls ++ local_of l ∷ []
locals_more [] l = refl
locals_more (k ∷ ls) l = ap (λ xs. local_of k ∷ xs) (locals_more ls l)

pub named_declared : (n : List ℕ) (ls : List LocalIn) → is_named n ls ≡ is_declared n ls
named_declared n [] = refl
named_declared n (l ∷ ls) = ap (λ b. bytes_eq n l.name || b) (named_declared n ls)

pub ruleset scoping = (scopes_more, locals_length, locals_take, locals_more)
