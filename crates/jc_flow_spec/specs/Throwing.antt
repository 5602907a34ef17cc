-- Types that are thrown, caught and declared (JLS 11.1.1, 11.2).
use Rattle.std.specs.Prelude.{ℕ, Bool, true, false, not, ◌&&◌, ◌||◌, List, [], ◌∷◌, ◌++◌, codes, if◌then◌else◌}
use Rattle.std.specs.List.{list_any}
use Rattle.jc_rules.specs.declared.rule.Place.{Place}
use Rattle.jc_types.specs.declared.form.Ty.{Ty}
use Rattle.jc_types.specs.declared.form.Ty.TheVariants as ty
use Rattle.jc_types.specs.declared.table.Table.{Table}
use Rattle.jc_types.specs.declared.environment.Bounds.{Bounds}
use Rattle.jc_types.specs.Sameness.{same}
use Rattle.jc_types.specs.Accessors.{class_named}
use Rattle.jc_judge.specs.declared.question.Answer.{Answer}
use Rattle.jc_judge.specs.declared.question.Answer.TheVariants.{Yes, No, Deep}
use Rattle.jc_judge.specs.Deciding.{answer_of}
use Rattle.jc_typed.specs.Trees.{Catches, NoCatches, MoreCatches}
use Rattle.jc_flow_spec.specs.declared.flow.Thrown.{Thrown}

-- a question of subtyping that needs a tree higher than 64 counts as answered by no
abbrev pub is_yes : Answer → Bool
is_yes Yes = true
is_yes No = false
is_yes Deep = false

module _ (T : Table) (env : List Bounds) where
  -- a type is a subtype of another one (JLS 4.10)
  unfoldable pub is_below : Ty → Ty → Bool
  is_below s t = is_yes (answer_of T 64 env s t)

  -- one of two types is a subtype of the other
  abbrev pub is_related : Ty → Ty → Bool
  is_related s t = is_below s t || is_below t s

  -- a type is a subtype of one of these
  abbrev pub is_below_any : Ty → List Ty → Bool
  is_below_any t us = list_any (λ u. is_below t u) us

  -- neither an Error nor a RuntimeException (JLS 11.1.1); null is both
  unfoldable pub is_checked : Ty → Bool
  is_checked t = not (is_below t (ty.Class (class_named T (codes "java.lang.RuntimeException")) []) || is_below t (ty.Class (class_named T (codes "java.lang.Error")) []))

  -- Exception and Throwable, which may be caught whatever is thrown (JLS 11.2.3)
  unfoldable pub is_catch_all : Ty → Bool
  is_catch_all t = same t (ty.Class (class_named T (codes "java.lang.Exception")) []) || same t (ty.Class (class_named T (codes "java.lang.Throwable")) [])

  -- a type is a subtype of an alternative of one of these clauses
  abbrev pub is_caught : Ty → Catches → Bool
  is_caught t NoCatches = false
  is_caught t (MoreCatches before place local types body) = is_below_any t types || is_caught t before

  -- what is thrown on behind catch clauses
  abbrev pub uncaught : Catches → List Thrown → List Thrown
  uncaught cs [] = []
  uncaught cs (x ∷ xs) = if is_caught x.ty cs then uncaught cs xs else x ∷ uncaught cs xs

  -- a checked type is thrown that is related to this one; null is none (JLS 11.2.3)
  abbrev pub is_thrown : List Thrown → Ty → Bool
  is_thrown xs a = list_any (λ x. is_related x.ty a && is_checked x.ty) xs

  -- an alternative catches nothing: an earlier clause catches it, or it is checked, neither Exception nor Throwable, and unrelated to
  -- the checked types that the block throws (JLS 11.2.3)
  abbrev pub is_useless : List Thrown → Catches → Ty → Bool
  is_useless thrown before a = is_caught a before || (is_checked a && not (is_catch_all a) && not (is_thrown thrown a))

  -- the lower one of two related types, as a list that is empty where they aren't related
  abbrev pub lower : Ty → Ty → List Ty
  lower t a = if is_below t a then t ∷ [] else if is_below a t then a ∷ [] else []

  -- of a type that the block throws what each alternative catches
  abbrev pub lower_all : Ty → List Ty → List Ty
  lower_all t [] = []
  lower_all t (a ∷ more) = lower t a ++ lower_all t more

  -- what the parameter of a clause is thrown again with: of each type that the block throws and no earlier clause catches, what the
  -- alternatives catch (JLS 11.2.2)
  abbrev pub rethrown : Catches → List Ty → List Thrown → List Ty
  rethrown before types [] = []
  rethrown before types (x ∷ xs) = (if is_caught x.ty before then [] else lower_all x.ty types) ++ rethrown before types xs

  -- a type needs a clause that it is not below of: it is checked, and no declared type is above it (JLS 11.2.1, 11.2.3)
  abbrev pub is_undeclared : List Ty → Ty → Bool
  is_undeclared declared t = is_checked t && not (is_below_any t declared)
