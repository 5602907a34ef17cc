-- Capture conversion: fresh variables for the wildcards of a class type (JLS 5.1.10).
use Rattle.std.specs.Prelude.{◌≡◌, ℕ, ◌+◌, ◌==◌, Bool, false, Option, Some, None, List, [], ◌∷◌, ◌++◌, length, map, if◌then◌else◌}
use Rattle.jc_rules.specs.declared.stop.Stop.{Stop}
use Rattle.jc_rules.specs.declared.stop.Stop.TheVariants.{Refused, WantOfMemory}
use Rattle.jc_types.specs.declared.form.Ty.{Ty, Ty-F, out-Ty}
use Rattle.jc_types.specs.declared.form.Ty.TheVariants.{Class, Captured, Meet}
use Rattle.jc_types.specs.declared.form.Arg.{Arg, Arg-F, out-Arg}
use Rattle.jc_types.specs.declared.form.Arg.TheVariants.{Exact}
use Rattle.jc_types.specs.declared.ids.ClassId.{ClassId}
use Rattle.jc_types.specs.declared.ids.VarId.{VarId}
use Rattle.jc_types.specs.declared.environment.Bounds.{Bounds}
use Rattle.jc_types.specs.declared.table.Table.{Table}
use Rattle.jc_types.specs.Substitution.{subst}
use Rattle.jc_types.specs.Accessors.{vars_of, bounds_of}
use Rattle.jc_judge.specs.declared.faults.CaptureFault.{CaptureFault}
use Rattle.jc_judge.specs.declared.faults.CaptureFault.TheVariants.{ClassesMeet}
use Rattle.jc_judge.specs.Kinds.{Layer, ArgLayer}
use Rattle.jc_judge.specs.Meeting.{glb, glb_parts, classes_meet}

-- what stands for an argument: a fresh variable for a wildcard, where n is the next one's number
abbrev pub captured_at : ℕ → ArgLayer → Ty
captured_at n (Arg-F.Exact t) = t
captured_at n _ = Captured (record { 0 = n })

-- the number of the next fresh variable: only a wildcard takes one
abbrev pub next_at : ℕ → ArgLayer → ℕ
next_at n (Arg-F.Exact t) = n
next_at n _ = n + 1

-- what stands for each argument in turn, where n is the number of the first fresh variable
abbrev pub captured_args : ℕ → List Arg → List Ty
captured_args n [] = []
captured_args n (a ∷ args) = captured_at n (out-Arg a) ∷ captured_args (next_at n (out-Arg a)) args

-- the bounds of a fresh variable with this one upper bound
abbrev pub bounded : Ty → Option Ty → Bounds
bounded upper low = record { uppers = upper ∷ []; lower = low }

-- the bounds of an argument's fresh variable, where `bounds` are those of its parameter with the new arguments: `? extends U`
-- adds U to the upper bounds, and L of `? super L` is the lower bound
abbrev pub fresh_at : Table → List Ty → ArgLayer → List Bounds
fresh_at T bounds (Arg-F.Exact t) = []
fresh_at T bounds Arg-F.Any = bounded (glb T bounds) None ∷ []
fresh_at T bounds (Arg-F.Extends u) = bounded (glb T (u ∷ bounds)) None ∷ []
fresh_at T bounds (Arg-F.Super l) = bounded (glb T bounds) (Some l) ∷ []

-- the declared bounds of a parameter, with the new arguments for the parameters
abbrev pub put_bounds : Table → List VarId → List Ty → VarId → List Ty
put_bounds T vars by p = map (subst vars by) (bounds_of T p)

-- the bounds of all fresh variables, in the order of the wildcards, where `by` stands for the parameters `vars`
abbrev pub fresh_args : Table → List VarId → List Ty → List VarId → List Arg → List Bounds
fresh_args T vars by [] args = []
fresh_args T vars by (p ∷ params) [] = []
fresh_args T vars by (p ∷ params) (a ∷ args) = fresh_at T (put_bounds T vars by p) (out-Arg a) ++ fresh_args T vars by params args

-- a captured type, and the bounds of the fresh variables
pub record Capture : Type 0 where
  pub ty : Ty
  pub fresh : List Bounds

-- a type that capture leaves as it is
abbrev pub unchanged : Ty → Capture
unchanged t = record { ty = t; fresh = [] }

-- of a class type with as many arguments as its class has parameters
abbrev pub capture_class : Table → ℕ → ClassId → List VarId → List Arg → Capture
capture_class T n id vars args =
    let by = captured_args n args in record { ty = Class id (map Exact by); fresh = fresh_args T vars by vars args }

-- the type is given twice, as it is and opened by one level
abbrev pub capture_at : Table → ℕ → Ty → Layer → Capture
capture_at T n t (Ty-F.Class id args) =
    if length args == length (vars_of T id) then capture_class T n id (vars_of T id) args else unchanged t
capture_at T n t _ = unchanged t

-- the capture of a class type, where n variables were captured before. It isn't recursive: wildcards inside the arguments stay.
-- A type whose number of arguments is not that of its class's parameters counts as raw, and stays
unfoldable pub capture_one : Table → ℕ → Ty → Capture
capture_one T n t = capture_at T n t (out-Ty t)

-- captured types, and the bounds of all their fresh variables
pub record Captures : Type 0 where
  pub types : List Ty
  pub fresh : List Bounds

-- from left to right: the variables of each type are numbered after those of the types before it
abbrev pub capture_parts : Table → ℕ → List Ty → Captures
capture_parts T n [] = record { types = []; fresh = [] }
capture_parts T n (t ∷ ts) =
    let c = capture_one T n t in
    let rest = capture_parts T (n + length c.fresh) ts in
    record { types = c.ty ∷ rest.types; fresh = c.fresh ++ rest.fresh }

-- the captured parts as one intersection
abbrev pub as_meet : Captures → Capture
as_meet c = record { ty = Meet c.types; fresh = c.fresh }

-- the type is given twice, as it is and opened by one level
abbrev pub capture_by : Table → ℕ → Ty → Layer → Capture
capture_by T n t (Ty-F.Meet parts) = as_meet (capture_parts T n parts)
capture_by T n t _ = capture_one T n t

-- the capture of a type: an intersection is captured part by part, and what is neither a class type nor an intersection stays
unfoldable pub capture : Table → ℕ → Ty → Capture
capture T n t = capture_by T n t (out-Ty t)

-- two unrelated classes meet in the bound of a wildcard `? extends U`
abbrev pub meets_at : Table → List Ty → ArgLayer → Bool
meets_at T bounds (Arg-F.Extends u) = classes_meet T (glb_parts T (u ∷ bounds))
meets_at T bounds _ = false

-- the first argument where they do, where i is the number of the next one
abbrev pub first_meeting : Table → List VarId → List Ty → ℕ → List VarId → List Arg → Option ℕ
first_meeting T vars by i [] args = None
first_meeting T vars by i (p ∷ params) [] = None
first_meeting T vars by i (p ∷ params) (a ∷ args) =
    if meets_at T (put_bounds T vars by p) (out-Arg a) then Some i else first_meeting T vars by (i + 1) params args

-- the first such argument, counted from 0: None where there is none, where the type is no class type, and where it counts as raw
abbrev pub meeting_at : Table → ℕ → Layer → Option ℕ
meeting_at T n (Ty-F.Class id args) =
    if length args == length (vars_of T id) then first_meeting T (vars_of T id) (captured_args n args) 0 (vars_of T id) args else None
meeting_at T n _ = None

-- of one type that is not taken apart, where n variables were captured before
unfoldable pub meeting_one : Table → ℕ → Ty → Option ℕ
meeting_one T n t = meeting_at T n (out-Ty t)

-- the first of two numbers, or the second where the first is missing
abbrev pub first_some : Option ℕ → Option ℕ → Option ℕ
first_some (Some i) o = Some i
first_some None o = o

-- the parts are captured from left to right; the number is that of an argument in its part
abbrev pub meeting_parts : Table → ℕ → List Ty → Option ℕ
meeting_parts T n [] = None
meeting_parts T n (t ∷ ts) = first_some (meeting_one T n t) (meeting_parts T (n + length (capture_one T n t).fresh) ts)

-- the type is given twice, as it is and opened by one level
abbrev pub meeting_by : Table → ℕ → Ty → Layer → Option ℕ
meeting_by T n t (Ty-F.Meet parts) = meeting_parts T n parts
meeting_by T n t _ = meeting_one T n t

-- the first argument of the type, or of its first part that has one, at which capture meets two unrelated classes
unfoldable pub meeting : Table → ℕ → Ty → Option ℕ
meeting T n t = meeting_by T n t (out-Ty t)

-- why a capture stopped: want of memory says nothing
abbrev pub IsCaptureStop : Option ℕ → Stop CaptureFault → Type 0
IsCaptureStop place (Refused (ClassesMeet i)) = place ≡ Some i
IsCaptureStop place WantOfMemory = Unit {0}
