-- Casts of references of which the machine can't tell that they hold (JLS 5.5.2). A question of subtyping or containment that is too deep to be answered counts as
-- not holding, so the warning stands.
use Rattle.std.specs.Prelude.{◌-◌, ◌==◌, Bool, true, false, not, ◌&&◌, List, [], ◌∷◌, Option, Some, None, if◌then◌else◌}
use Rattle.std.specs.List.{list_all}
use Rattle.jc_types.specs.declared.environment.Bounds.{Bounds}
use Rattle.jc_types.specs.declared.form.Arg.{Arg, Arg-F, out-Arg}
use Rattle.jc_types.specs.declared.form.Ty.{Ty, Ty-F, out-Ty}
use Rattle.jc_types.specs.declared.ids.ClassId.{ClassId}
use Rattle.jc_types.specs.declared.ids.VarId.{VarId}
use Rattle.jc_types.specs.declared.table.Table.{Table}
use Rattle.jc_types.specs.Accessors.{vars_of}
use Rattle.jc_types.specs.Reifying.{is_unbounded, reifiable}
use Rattle.jc_judge.specs.declared.question.Answer.{Answer}
use Rattle.jc_judge.specs.declared.question.Answer.TheVariants.{Yes, No, Deep}
use Rattle.jc_judge.specs.Deciding.{answer_of, contained_answer}
use Rattle.jc_judge.specs.Kinds.{is_primitive}
use Rattle.jc_judge.specs.Views.{view}
use Rattle.jc_overriding.specs.Viewing.{own_type, with_dims}

-- an answer is Yes
abbrev pub is_yes : Answer → Bool
is_yes Yes = true
is_yes No = false
is_yes Deep = false

module _ (T : Table) (env : List Bounds) where
  -- by a proof tree the first is below the second
  abbrev pub is_below : Ty → Ty → Bool
  is_below s t = is_yes (answer_of T 64 env s t)

  -- ---- the arguments of S tell those of G

  -- an argument is type variable p as it stands
  abbrev pub is_variable_at : VarId → Ty-F Arg Ty → Bool
  is_variable_at p (Ty-F.Variable v) = v.0 == p.0
  is_variable_at p _ = false

  abbrev pub is_whole_at : VarId → Arg-F Arg Ty → Bool
  is_whole_at p (Arg-F.Exact t) = is_variable_at p (out-Ty t)
  is_whole_at p _ = false

  -- Of the arguments of a view and those of S beside them: the first place where the view has p as a whole argument, and there S's argument is contained in the wanted
  -- one. False where p stands nowhere
  abbrev pub tells_one : VarId → Arg → List Arg → List Arg → Bool
  tells_one p wanted [] ss = false
  tells_one p wanted (v ∷ vs) [] = false
  tells_one p wanted (v ∷ vs) (s ∷ ss) = if is_whole_at p (out-Arg v) then is_yes (contained_answer T 64 env s wanted) else tells_one p wanted vs ss

  -- .. for each parameter of G and its wanted argument, of which there are as many
  abbrev pub tells_all : List Arg → List Arg → List VarId → List Arg → Bool
  tells_all vs ss [] [] = true
  tells_all vs ss [] (a ∷ wanted) = false
  tells_all vs ss (p ∷ ps) [] = false
  tells_all vs ss (p ∷ ps) (a ∷ wanted) = tells_one p a vs ss && tells_all vs ss ps wanted

  -- G as the class of S has these arguments
  abbrev pub tells_by : Option (Ty-F Arg Ty) → List Arg → List VarId → List Arg → Bool
  tells_by (Some (Ty-F.Class c vs)) ss ps wanted = tells_all vs ss ps wanted
  tells_by _ ss ps wanted = false

  abbrev pub layer_of : Option Ty → Option (Ty-F Arg Ty)
  layer_of None = None
  layer_of (Some t) = Some (out-Ty t)

  -- S is a class type with arguments, and they tell all of G's
  abbrev pub is_told : Ty-F Arg Ty → ClassId → List Arg → Bool
  is_told (Ty-F.Class c (s ∷ ss)) g wanted = tells_by (layer_of (view T c (own_type T g))) (s ∷ ss) (vars_of T g) wanted
  is_told _ g wanted = false

  -- ---- casts

  -- where T is no array, or S is none: to a class with arguments, not all of them `?`, which S's don't tell; to a type variable; and to an array that isn't reifiable
  abbrev pub is_open_at : Ty-F Arg Ty → Ty-F Arg Ty → Bool
  is_open_at s (Ty-F.Class g []) = false
  is_open_at s (Ty-F.Class g (a ∷ args)) = not (list_all is_unbounded (a ∷ args)) && not (is_told s g (a ∷ args))
  is_open_at s (Ty-F.Variable v) = true
  is_open_at s (Ty-F.Array u n) = not (reifiable T u)
  is_open_at s _ = false

  -- .. and S isn't below T
  abbrev pub is_unchecked_at : Ty → Ty → Bool
  is_unchecked_at s t = not (is_below s t) && is_open_at (out-Ty s) (out-Ty t)

  -- of arrays, the first not below the second, as the cast of their elements, for as many dimensions as both have
  abbrev pub is_unchecked_by : Ty → Ty → Ty-F Arg Ty → Ty-F Arg Ty → Bool
  is_unchecked_by s t (Ty-F.Array u m) (Ty-F.Array v n) = not (is_below s t) && is_unchecked_at (with_dims (m - n) u) (with_dims (n - m) v)
  is_unchecked_by s t _ _ = is_unchecked_at s t

  -- a cast of S to T, both reference types, is unchecked
  abbrev pub is_unchecked_cast : Ty → Ty → Bool
  is_unchecked_cast s t = not (is_primitive s) && not (is_primitive t) && is_unchecked_by s t (out-Ty s) (out-Ty t)
