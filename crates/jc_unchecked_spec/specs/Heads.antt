-- The warnings at declarations: results that don't stand for those of overridden methods (5), and raw supertypes (6).
use Rattle.std.specs.Prelude.{ℕ, suc, ◌==◌, Bool, false, not, ◌&&◌, ◌||◌, List, [], ◌∷◌, ◌++◌, Option, Some, None, is_none}
use Rattle.std.specs.List.{list_any}
use Rattle.jc_types.specs.declared.declarations.ClassDecl.{ClassDecl}
use Rattle.jc_types.specs.declared.declarations.MethodDecl.{MethodDecl}
use Rattle.jc_types.specs.declared.form.Ty.{Ty}
use Rattle.jc_types.specs.declared.ids.ClassId.{ClassId}
use Rattle.jc_types.specs.declared.ids.MethodId.{MethodId}
use Rattle.jc_types.specs.declared.table.Table.{Table}
use Rattle.jc_types.specs.Accessors.{is_interface}
use Rattle.jc_types.specs.Reifying.{arguments}
use Rattle.jc_judge.specs.Kinds.{is_primitive}
use Rattle.jc_overriding.specs.declared.view.MethodView.{MethodView}
use Rattle.jc_overriding.specs.Overriding.{overrides, owner, same_class, select, superclass}
use Rattle.jc_overriding.specs.Signatures.{adapted}
use Rattle.jc_overriding.specs.Viewing.{class_view}
use Rattle.jc_unchecked_spec.specs.declared.warning.Warning.{Warning}
use Rattle.jc_unchecked_spec.specs.declared.warning.WarningKind.TheVariants as kind
use Rattle.jc_unchecked_spec.specs.Casts.{is_below}
use Rattle.jc_unchecked_spec.specs.Kinds.{warned_if}

-- of each of these, counted from i
abbrev pub of_each : {X : Type 0} → (ℕ → X → List Warning) → ℕ → List X → List Warning
of_each f i [] = []
of_each f i (x ∷ xs) = f i x ++ of_each f (suc i) xs

-- ---- 5: the result of a body fits that of the method for which it stands by an unchecked conversion or as its erasure alone (JLS 8.4.5)

-- no proof tree says that result s of a is below result t of b, both reference types. Primitive results and none are the same on both sides where no rule is broken
abbrev pub is_open_result : Table → MethodView → MethodView → Option Ty → Option Ty → Bool
is_open_result T a b (Some s) (Some t) = not (is_primitive s || is_primitive t) && not (is_below T [] s (adapted a b t))
is_open_result T a b _ _ = false

-- .. of two methods as a class has both
abbrev pub are_open_views : Table → Option MethodView → Option MethodView → Bool
are_open_views T (Some a) (Some b) = is_open_result T a b a.result b.result
are_open_views T _ _ = false

abbrev pub are_open : Table → ClassId → MethodId → MethodId → Bool
are_open T k n m = are_open_views T (class_view T k n) (class_view T k m)

-- method m overrides one of these methods, counted from i, with a result that isn't below its own
abbrev pub overrides_open : Table → MethodId → ℕ → List MethodDecl → Bool
overrides_open T m i [] = false
overrides_open T m i (d ∷ ds) = (overrides T m (record { 0 = i }) && are_open T (owner T m) m (record { 0 = i })) || overrides_open T m (suc i) ds

-- at the method
abbrev pub method_warned : Table → ℕ → MethodDecl → List Warning
method_warned T i d = warned_if (overrides_open T (record { 0 = i }) 0 T.methods) kind.Result d.place

-- the body is that which the superclass has too
abbrev pub is_selected_by : Table → MethodId → MethodId → Option ClassId → Bool
is_selected_by T m n None = false
is_selected_by T m n (Some c) = is_that (select T c m)
  where
    is_that : Option MethodId → Bool
    is_that None = false
    is_that (Some b) = b.0 == n.0

-- Class k has for method m a body that it inherits, that doesn't override m outright and isn't the superclass's for m, and its result isn't below m's as k has both: of a
-- method of a superinterface which the superclass doesn't have, or which the body overrides only as k sees both
abbrev pub is_open_selection : Table → ClassId → MethodId → Option MethodId → Bool
is_open_selection T k m None = false
is_open_selection T k m (Some n) =
    not (same_class (owner T n) k) && not (n.0 == m.0) && not (overrides T n m) && not (is_selected_by T m n (superclass T k)) && are_open T k n m

abbrev pub selects_open : Table → ClassId → ℕ → List MethodDecl → Bool
selects_open T k i [] = false
selects_open T k i (d ∷ ds) = is_open_selection T k (record { 0 = i }) (select T k (record { 0 = i })) || selects_open T k (suc i) ds

-- ---- 6: a declared supertype is raw (own)

abbrev pub has_raw : Table → List Ty → Bool
has_raw T ts = list_any (λ t. is_none (arguments T t)) ts

-- what stands at a class; an interface has no bodies
abbrev pub class_warned : Table → ℕ → ClassDecl → List Warning
class_warned T i c =
    warned_if (not (is_interface T (record { 0 = i })) && selects_open T (record { 0 = i }) 0 T.methods) kind.Result c.place ++ warned_if (has_raw T c.supers.types) kind.RawSupertype c.place

-- of all declarations
abbrev pub heads_warned : Table → List Warning
heads_warned T = of_each (class_warned T) 0 T.classes ++ of_each (method_warned T) 0 T.methods
