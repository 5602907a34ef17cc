-- How each written type of a program is read: in the head of a class, in the body of a class, or in a method.
use Rattle.std.specs.Prelude.{ℕ, Bool, cond, ◌||◌, List, [], ◌∷◌, Option, Some, None, slice_get}
use Rattle.jc_types.specs.Names.{named}
use Rattle.jc_declares.specs.declared.heads.Heads.{Heads}
use Rattle.jc_declares.specs.declared.heads.MethodPlace.{MethodPlace}
use Rattle.jc_declares.specs.declared.heads.ScopeHead.{ScopeHead}
use Rattle.jc_declares.specs.declared.heads.ScopeForm.TheVariants as scope_of
use Rattle.jc_declares.specs.Sites.{UseSite, BodyPart, OfType, OfClassType, OfDiamond, OfElement, OfVariable}
use Rattle.jc_declares.specs.Heads.{is_interface, unit_package, method_variables}
use Rattle.jc_declares.specs.Looking.{Knowledge, or_next, one_variable, in_unit, in_body, in_head, body_asker, head_asker}
use Rattle.jc_declares.specs.Writing.{Reading, Wrote, wrote_type, wrote_class, wrote_base}

-- the class whose type variables may be named: none in a static place (JLS 8.1.2)
abbrev pub own_unless : Bool → ℕ → Option ℕ
own_unless is_static c = cond is_static None (Some c)

-- in the head of class c: the bounds of its parameters, and its supertypes
abbrev pub head_reading : Heads → Knowledge → ℕ → Reading
head_reading H K c = record { find = in_head H K c; asker = head_asker H c; own = Some c }

-- in its body
abbrev pub body_reading : Heads → Knowledge → ℕ → Bool → Reading
body_reading H K c is_static = record { find = in_body H K c; asker = body_asker H c; own = own_unless is_static c }

-- in method m of class c: first its own type parameters (JLS 8.4.4)
abbrev pub method_reading : Heads → Knowledge → ℕ → ℕ → Bool → Reading
method_reading H K m c is_static =
    record { find = λ n. or_next (one_variable (named n (method_variables H m))) (in_body H K c n); asker = body_asker H c; own = own_unless is_static c }

-- the class of a method; 0 where there is no such method
abbrev pub class_of_method : Option MethodPlace → ℕ
class_of_method (Some m) = m.class
class_of_method None = 0

-- outside of all types
abbrev pub unit_reading : Heads → ℕ → Reading
unit_reading H u = record { find = in_unit H u; asker = record { «package» = unit_package H u; top = None }; own = None }

-- in a scope of a unit, a class or a method; without one, in unit 0
abbrev pub reading_in : Heads → Knowledge → Option ScopeHead → Bool → Reading
reading_in H K None is_static = unit_reading H 0
reading_in H K (Some s) is_static =
    elim s.form [
      | scope_of.Unit u ↦ unit_reading H u
      | scope_of.Class c ↦ body_reading H K c is_static
      | scope_of.Method m ↦ method_reading H K m (class_of_method (slice_get H.methods m)) is_static
    ]

-- in a scope, in a static place or not
abbrev pub reading_of : Heads → Knowledge → ℕ → Bool → Reading
reading_of H K scope is_static = reading_in H K (slice_get H.scopes scope) is_static

-- the types that a part of a body writes: one, or none
abbrev pub wrote_in_part : Heads → Knowledge → Reading → BodyPart → List Wrote
wrote_in_part H K r (OfType t) = wrote_type H K r t ∷ []
wrote_in_part H K r (OfClassType t) = wrote_class H K r t ∷ []
wrote_in_part H K r (OfDiamond t) = wrote_class H K r t ∷ []
wrote_in_part H K r (OfElement t) = wrote_base H K r t ∷ []
wrote_in_part H K r (OfVariable modifiers at) = []

-- in an interface every place is static, since its fields are (JLS 9.3)
abbrev pub wrote_in_use : Heads → Knowledge → UseSite → List Wrote
wrote_in_use H K u = wrote_in_part H K (reading_of H K u.scope (u.is_static || is_interface H u.class)) u.part
