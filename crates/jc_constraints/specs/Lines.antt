-- What constraints imply, line by line as the language has them (JLS 15.12.2.7, 15.12.2.8).
use Rattle.std.specs.Prelude.{◌≡◌, ◌⊎◌, true, List, [], ◌∷◌, Some}
use Rattle.jc_types.specs.declared.environment.Bounds.{Bounds}
use Rattle.jc_types.specs.declared.form.Arg.{Arg, out-Arg}
use Rattle.jc_types.specs.declared.form.Ty.{Ty}
use Rattle.jc_types.specs.declared.form.Ty.TheVariants.{Class, Variable}
use Rattle.jc_types.specs.declared.ids.ClassId.{ClassId}
use Rattle.jc_types.specs.declared.ids.VarId.{VarId}
use Rattle.jc_types.specs.declared.table.Table.{Table}
use Rattle.jc_types.specs.Arrays.{element}
use Rattle.jc_constraints.specs.declared.standing.Implied.{Implied}
use Rattle.jc_constraints.specs.declared.standing.Standing.{Standing}
use Rattle.jc_constraints.specs.Standings.{kind_of, part_of, standing_of}
use Rattle.jc_constraints.specs.Constraints.{args_for, element_for, is_unknown}

-- x and y stand at one place of two lists
abbrev pub AtOnePlace : {X Y : Type 0} → List X → List Y → X → Y → Type 0
AtOnePlace [] ys x y = ⊥
AtOnePlace (a ∷ xs) [] x y = ⊥
AtOnePlace (a ∷ xs) (b ∷ ys) x y = ((a ≡ x) × (b ≡ y)) ⊎ AtOnePlace xs ys x y

-- A constraint between a formal and an actual type implies this. `parameter`: the formal type is an unknown parameter. `elements`: both are arrays, of references, and
-- their elements stand so (where the actual type is below, a variable counts as its array bound). `arguments`: the formal type has arguments of a class, and one of
-- them implies it against the argument that the actual type has there as that class; their kinds say how these two stand.
pub data ByLines (T : Table) (env : List Bounds) (unknown : List VarId) : Ty → Standing → Ty → Implied → Type 0 where
  parameter : {f : Ty} {s : Standing} {a : Ty} {i : Implied}
      → f ≡ Variable i.variable → is_unknown unknown i.variable ≡ true → i.standing ≡ s → i.ty ≡ a → ByLines T env unknown f s a i
  elements : {f : Ty} {s : Standing} {a : Ty} {i : Implied} (u v : Ty)
      → element f ≡ Some u → element_for T env s a ≡ Some v → ByLines T env unknown u s v i → ByLines T env unknown f s a i
  arguments : {f : Ty} {s : Standing} {a : Ty} {i : Implied} (k : ClassId) (xs : List Arg) (x y : Arg) (u v : Ty) (r : Standing)
      → f ≡ Class k xs → AtOnePlace xs (args_for T env s k a) x y → part_of (out-Arg x) ≡ Some u → part_of (out-Arg y) ≡ Some v
      → standing_of s (kind_of (out-Arg x)) (kind_of (out-Arg y)) ≡ Some r → ByLines T env unknown u r v i → ByLines T env unknown f s a i
