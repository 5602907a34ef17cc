-- Where the steps of a conversion lead.
use Rattle.std.specs.Prelude.{◌≡◌, ◌⊎◌, ◌&&◌, true, List, [], ◌∷◌, Option}
use Rattle.jc_types.specs.declared.constant.Constant.{Constant}
use Rattle.jc_types.specs.declared.conversion.Conversion.{Conversion}
use Rattle.jc_types.specs.declared.conversion.Step.{Step}
use Rattle.jc_types.specs.declared.conversion.Step.TheVariants.{Widen, Narrow, BoxUp, Unbox, Up, Check}
use Rattle.jc_types.specs.declared.environment.Bounds.{Bounds}
use Rattle.jc_types.specs.declared.form.Primitive.{Primitive}
use Rattle.jc_types.specs.declared.form.Ty.{Ty}
use Rattle.jc_types.specs.declared.form.Ty.TheVariants.{Prim}
use Rattle.jc_types.specs.declared.table.Table.{Table}
use Rattle.jc_judge.specs.declared.question.Answer.TheVariants.{Yes}
use Rattle.jc_judge.specs.Deciding.{answer_of}
use Rattle.jc_judge.specs.Kinds.{primitive_below}
use Rattle.jc_convert.specs.declared.answer.Converts.TheVariants as converts
use Rattle.jc_convert.specs.Converting.{box, unboxes, converts_unchecked, assignment}
use Rattle.jc_convert.specs.Casting.{is_numeric, bound_of, is_legal, cast}

-- from one primitive type to another, where the test holds of both
pub record IsBetween (test : Primitive → Primitive → Type 0) (s : Ty) (q : Primitive) (t : Ty) : Type 0 where
  pub from : Primitive
  pub is_from : s ≡ Prim from
  pub is_to : t ≡ Prim q
  pub holds : test from q

-- between a primitive type and its class
pub record IsBoxed (T : Table) (primitive class : Ty) : Type 0 where
  pub of : Primitive
  pub is_primitive : primitive ≡ Prim of
  pub is_class : class ≡ box T of

-- the class of a primitive type is above S, by the bounds of a variable
pub record IsBoxAbove (T : Table) (env : List Bounds) (s t : Ty) : Type 0 where
  pub of : Primitive
  pub is_class : t ≡ box T of
  pub above : unboxes T env s of ≡ true

-- the class of a primitive type is below what bounds S
pub record IsBoxBelow (T : Table) (env : List Bounds) (s t : Ty) : Type 0 where
  pub of : Primitive
  pub is_class : t ≡ box T of
  pub below : answer_of T 64 env t (bound_of T env s) ≡ Yes

-- why a type may go up to another: it is below that; its supertype of that class is raw, in an unchecked conversion alone; or that is a box
-- above it
abbrev pub MayGoUp : Table → List Bounds → Conversion → Ty → Ty → Type 0
MayGoUp T env c s t =
    (answer_of T 64 env s t ≡ Yes) ⊎ (((c.unchecked ≡ true) × (converts_unchecked T env s t ≡ true)) ⊎ IsBoxAbove T env s t)

-- why a value may be tested for a type
abbrev pub MayCheck : Table → List Bounds → Ty → Ty → Type 0
MayCheck T env s t = (is_legal T env s t ≡ true) ⊎ IsBoxBelow T env s t

-- one step of this conversion, from a type to another (JLS 5.1)
abbrev pub IsStep : Table → List Bounds → Conversion → Ty → Step → Ty → Type 0
IsStep T env c s (Widen q) t = IsBetween (λ p q. primitive_below p q ≡ true) s q t
IsStep T env c s (Narrow q) t = IsBetween (λ p q. (is_numeric p && is_numeric q) ≡ true) s q t
IsStep T env c s BoxUp t = IsBoxed T s t
IsStep T env c s Unbox t = IsBoxed T t s
IsStep T env c s (Up x) t = (t ≡ x) × MayGoUp T env c s t
IsStep T env c s (Check x) t = (t ≡ x) × MayCheck T env s t

-- steps from a type to another
abbrev pub Lead : Table → List Bounds → Conversion → Ty → List Step → Ty → Type 0
Lead T env c s [] t = s ≡ t
Lead T env c s (x ∷ xs) t = (m : Ty) × IsStep T env c s x m × Lead T env c m xs t

-- the steps of an assignment's conversion lead from the one type to the other
abbrev pub AssignmentsLead : Type 0
AssignmentsLead =
    (T : Table) (env : List Bounds) (s : Ty) (constant : Option Constant) (t : Ty) (c : Conversion) →
    assignment T env s constant t ≡ converts.Yes c → Lead T env c s c.steps t

-- and so do those of a cast's
abbrev pub CastsLead : Type 0
CastsLead = (T : Table) (env : List Bounds) (s t : Ty) (c : Conversion) → cast T env s t ≡ converts.Yes c → Lead T env c s c.steps t
