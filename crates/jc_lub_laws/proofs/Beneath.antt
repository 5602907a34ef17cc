-- A type under another by its supertypes as they stand, where what is above the null type is known to be so.
use Rattle.std.proofs.Common.{◌≡◌, ◌≤◌, ℕ, true, Some, List}
use Rattle.jc_types.specs.declared.environment.Bounds.{Bounds}
use Rattle.jc_types.specs.declared.form.Arg.{Arg}
use Rattle.jc_types.specs.declared.form.Ty.{Ty}
use Rattle.jc_types.specs.declared.form.Ty.TheVariants.{Class, Raw, Meet}
use Rattle.jc_types.specs.declared.ids.ClassId.{ClassId}
use Rattle.jc_types.specs.declared.table.Table.{Table}
use Rattle.jc_types.specs.Sameness.{same}
use Rattle.jc_judge.specs.Kinds.{is_null}
use Rattle.jc_lub.specs.Lubs.{depth, stripped, over}
use Rattle.jc_lub.specs.Uncaptured.{object, args_of, up_view}
use Rattle.jc_header_rules.specs.Checked.{IsAmong}
use Rattle.jc_lub_laws.specs.Under.{IsUnder, itself, null, top, as_raw, as_class, parts, elements, AllIn}

pub data Beneath (T : Table) (env : List Bounds) (N : Ty → Type 0) (R : Ty → Ty → Type 0) : Ty → Ty → Type 0 where
  by_itself : (t u : Ty) → same t u ≡ true → Beneath T env N R t u
  by_null : (t u : Ty) → is_null t ≡ true → N u → Beneath T env N R t u
  by_top : (t : Ty) → Beneath T env N R t object
  by_raw : (t v : Ty) (k : ClassId) → up_view T env k t ≡ Some v → Beneath T env N R t (Raw k)
  by_class : (t v : Ty) (k : ClassId) (args : List Arg) → up_view T env k t ≡ Some v → AllIn R (args_of v) args → Beneath T env N R t (Class k args)
  by_parts : (t : Ty) (us : List Ty) → ((u : Ty) → IsAmong u us → Beneath T env N R t u) → Beneath T env N R t (Meet us)
  by_elements : (t u : Ty) (d : ℕ) → d ≤ depth t → Beneath T env N R (stripped d t) u → Beneath T env N R t (over d u)

pub forget : (T : Table) (env : List Bounds) (N : Ty → Type 0) (R : Ty → Ty → Type 0) (t u : Ty) → Beneath T env N R t u → IsUnder T env R t u
forget T env N R t u (by_itself _ _ e) = itself t u e
forget T env N R t u (by_null _ _ e n) = null t u e
forget T env N R t u (by_top _) = top t
forget T env N R t u (by_raw _ v k e) = as_raw t v k e
forget T env N R t u (by_class _ v k args e h) = as_class t v k args e h
forget T env N R t u (by_parts _ us h) = parts t us (λ w m. forget T env N R t w (h w m))
forget T env N R t u (by_elements _ w d l h) = elements t w d l (forget T env N R (stripped d t) w h)
