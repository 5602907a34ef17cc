-- The repair of each variant.
use Rattle.std.proofs.Common.{◌≡◌, ℕ, List, [], ◌∷◌, map, refl, ap, sym, ◌∙◌, if◌then◌else◌}
use Rattle.jc_types.specs.declared.environment.Bounds.{Bounds}
use Rattle.jc_types.specs.declared.form.Arg.{Arg, Arg-F, roll-Arg, map-Arg, para-roll-Arg}
use Rattle.jc_types.specs.declared.form.Arg.TheVariants.{Exact, Any, Extends, Super, rolls-Exact, rolls-Any, rolls-Extends, rolls-Super}
use Rattle.jc_types.specs.declared.form.Primitive.{Primitive}
use Rattle.jc_types.specs.declared.form.Ty.{Ty, Ty-F, roll-Ty, map-Ty, para-roll-Ty}
use Rattle.jc_types.specs.declared.form.Ty.TheVariants.{Prim, Class, Raw, Array, Variable, Captured, Meet, NullTy, rolls-Prim, rolls-Class, rolls-Raw, rolls-Array, rolls-Variable, rolls-Captured, rolls-Meet, rolls-NullTy}
use Rattle.jc_types.specs.declared.ids.CaptureId.{CaptureId}
use Rattle.jc_types.specs.declared.ids.ClassId.{ClassId}
use Rattle.jc_types.specs.declared.ids.VarId.{VarId}
use Rattle.jc_types.specs.declared.table.Table.{Table}
use Rattle.jc_repair.specs.Repairing.{is_sound, loosened, repaired, repaired_arg, repaired_at, repaired_arg_at}

module _ (T : Table) (env : List Bounds) where
  repaired_rolled : (l : Ty-F Arg Ty) → repaired T env (roll-Ty l) ≡ repaired_at T env (map-Ty Arg Ty (Arg × Arg) (Ty × Ty) (λ a. (a, repaired_arg T env a)) (λ t. (t, repaired T env t)) l)
  unfolding repaired repaired_arg
  repaired_rolled l = para-roll-Ty Arg Ty repaired_arg_at (repaired_at T env) l

  repaired_arg_rolled : (l : Arg-F Arg Ty) → repaired_arg T env (roll-Arg l) ≡ repaired_arg_at (map-Arg Arg Ty (Arg × Arg) (Ty × Ty) (λ a. (a, repaired_arg T env a)) (λ t. (t, repaired T env t)) l)
  unfolding repaired repaired_arg
  repaired_arg_rolled l = para-roll-Arg Arg Ty repaired_arg_at (repaired_at T env) l

  paired_args : (xs : List Arg) → map (λ x. x.0) (map (λ a. let r : Arg × Arg = (a, repaired_arg T env a) in r) xs) ≡ xs
  paired_args [] = refl
  paired_args (x ∷ xs) = ap (λ ys. x ∷ ys) (paired_args xs)

  later_args : (xs : List Arg) → map (λ x. x.1) (map (λ a. let r : Arg × Arg = (a, repaired_arg T env a) in r) xs) ≡ map (repaired_arg T env) xs
  later_args [] = refl
  later_args (x ∷ xs) = ap (λ ys. repaired_arg T env x ∷ ys) (later_args xs)

  later_types : (xs : List Ty) → map (λ x. x.1) (map (λ t. let r : Ty × Ty = (t, repaired T env t) in r) xs) ≡ map (repaired T env) xs
  later_types [] = refl
  later_types (x ∷ xs) = ap (λ ys. repaired T env x ∷ ys) (later_types xs)

  pub repaired-Class : (i : ClassId) (xs : List Arg) → repaired T env (Class i xs) ≡ (if is_sound T env (Class i xs) then Class i (map (repaired_arg T env) xs) else Class i (map loosened (map (repaired_arg T env) xs)))
  repaired-Class i xs =
      ap (repaired T env) (sym (rolls-Class i xs)) ∙ repaired_rolled (Ty-F.Class i xs)
      ∙ ap (λ ys. if is_sound T env (Class i ys) then Class i (map (λ x. x.1) (map (λ a. let r : Arg × Arg = (a, repaired_arg T env a) in r) xs)) else Class i (map loosened (map (λ x. x.1) (map (λ a. let r : Arg × Arg = (a, repaired_arg T env a) in r) xs)))) (paired_args xs)
      ∙ ap (λ ys. if is_sound T env (Class i xs) then Class i ys else Class i (map loosened ys)) (later_args xs)

  pub repaired-Array : (t : Ty) (n : ℕ) → repaired T env (Array t n) ≡ Array (repaired T env t) n
  repaired-Array t n = ap (repaired T env) (sym (rolls-Array t n)) ∙ repaired_rolled (Ty-F.Array t n)

  pub repaired-Meet : (xs : List Ty) → repaired T env (Meet xs) ≡ Meet (map (repaired T env) xs)
  repaired-Meet xs = ap (repaired T env) (sym (rolls-Meet xs)) ∙ repaired_rolled (Ty-F.Meet xs) ∙ ap Meet (later_types xs)

  pub repaired-Prim : (p : Primitive) → repaired T env (Prim p) ≡ Prim p
  repaired-Prim p = ap (repaired T env) (sym (rolls-Prim p)) ∙ repaired_rolled (Ty-F.Prim p) ∙ rolls-Prim p

  pub repaired-Raw : (i : ClassId) → repaired T env (Raw i) ≡ Raw i
  repaired-Raw i = ap (repaired T env) (sym (rolls-Raw i)) ∙ repaired_rolled (Ty-F.Raw i) ∙ rolls-Raw i

  pub repaired-Variable : (v : VarId) → repaired T env (Variable v) ≡ Variable v
  repaired-Variable v = ap (repaired T env) (sym (rolls-Variable v)) ∙ repaired_rolled (Ty-F.Variable v) ∙ rolls-Variable v

  pub repaired-Captured : (c : CaptureId) → repaired T env (Captured c) ≡ Captured c
  repaired-Captured c = ap (repaired T env) (sym (rolls-Captured c)) ∙ repaired_rolled (Ty-F.Captured c) ∙ rolls-Captured c

  pub repaired-NullTy : repaired T env NullTy ≡ NullTy
  repaired-NullTy = ap (repaired T env) (sym rolls-NullTy) ∙ repaired_rolled Ty-F.NullTy ∙ rolls-NullTy

  pub repaired_arg-Exact : (t : Ty) → repaired_arg T env (Exact t) ≡ Exact (repaired T env t)
  repaired_arg-Exact t = ap (repaired_arg T env) (sym (rolls-Exact t)) ∙ repaired_arg_rolled (Arg-F.Exact t)

  pub repaired_arg-Any : repaired_arg T env Any ≡ Any
  repaired_arg-Any = ap (repaired_arg T env) (sym rolls-Any) ∙ repaired_arg_rolled Arg-F.Any

  pub repaired_arg-Extends : (t : Ty) → repaired_arg T env (Extends t) ≡ Extends (repaired T env t)
  repaired_arg-Extends t = ap (repaired_arg T env) (sym (rolls-Extends t)) ∙ repaired_arg_rolled (Arg-F.Extends t)

  pub repaired_arg-Super : (t : Ty) → repaired_arg T env (Super t) ≡ Super (repaired T env t)
  repaired_arg-Super t = ap (repaired_arg T env) (sym (rolls-Super t)) ∙ repaired_arg_rolled (Arg-F.Super t)

pub ruleset repaireds = (repaired-Class, repaired-Array, repaired-Meet, repaired-Prim, repaired-Raw, repaired-Variable, repaired-Captured, repaired-NullTy, repaired_arg-Exact, repaired_arg-Any, repaired_arg-Extends, repaired_arg-Super)
