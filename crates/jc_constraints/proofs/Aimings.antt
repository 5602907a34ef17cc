-- What each form of a target implies, and lists of arguments one by one.
use Rattle.std.proofs.Common.{◌≡◌, ℕ, List, [], ◌∷◌, ◌++◌, map, ap, sym, ◌∙◌, refl, ◌+◌, ◌<◌, ◌≤◌, zero, suc, length, take, get_or, arith, append_assoc, append-nil, add-one}
use Rattle.jc_types.specs.declared.environment.Bounds.{Bounds}
use Rattle.jc_types.specs.declared.form.Ty.{Ty, Ty-F, roll-Ty, map-Ty, para-roll-Ty, out-Ty}
use Rattle.jc_types.specs.declared.form.Ty.TheVariants.{Prim, Class, Raw, Array, Variable, Captured, Meet, NullTy, rolls-Prim, rolls-Class, rolls-Raw, rolls-Array, rolls-Variable, rolls-Captured, rolls-Meet, rolls-NullTy}
use Rattle.jc_types.specs.declared.form.Arg.{Arg, Arg-F, roll-Arg, map-Arg, para-roll-Arg, out-Arg}
use Rattle.jc_types.specs.declared.form.Arg.TheVariants.{Exact, Any, Extends, Super, rolls-Exact, rolls-Any, rolls-Extends, rolls-Super}
use Rattle.jc_types.specs.declared.form.Primitive.{Primitive}
use Rattle.jc_types.specs.declared.ids.CaptureId.{CaptureId}
use Rattle.jc_types.specs.declared.ids.ClassId.{ClassId}
use Rattle.jc_types.specs.declared.ids.VarId.{VarId}
use Rattle.jc_types.specs.declared.table.Table.{Table}
use Rattle.jc_constraints.specs.declared.standing.Implied.{Implied}
use Rattle.jc_constraints.specs.declared.standing.Standing.TheVariants.{Below, Same}
use Rattle.jc_constraints.specs.Constraints.{implied}
use Rattle.jc_constraints.specs.Targets.{Aims, ArgAims, aimed, aimed_by_arg, aims_beside, arg_aim, array_aim, exact_only, exact_or_lower, exact_or_upper, implied_by_target, on_some, seen_as, type_aim, with_aim}

module _ (T : Table) (env : List Bounds) (unknown : List VarId) where
  rolled : (l : Ty-F Arg Ty) (f : Ty) → aimed T env unknown (roll-Ty l) f ≡ type_aim T env unknown (map-Ty Arg Ty (Arg × ArgAims) (Ty × Aims) (λ a. (a, aimed_by_arg T env unknown a)) (λ t. (t, aimed T env unknown t)) l) f
  unfolding aimed aimed_by_arg
  rolled l f = ap (λ (g : Aims). g f) (para-roll-Ty ArgAims Aims (arg_aim T env unknown) (type_aim T env unknown) l)

  arg_rolled : (l : Arg-F Arg Ty) (u : Arg-F Arg Ty) → aimed_by_arg T env unknown (roll-Arg l) u ≡ arg_aim T env unknown (map-Arg Arg Ty (Arg × ArgAims) (Ty × Aims) (λ a. (a, aimed_by_arg T env unknown a)) (λ t. (t, aimed T env unknown t)) l) u
  unfolding aimed aimed_by_arg
  arg_rolled l u = ap (λ (g : ArgAims). g u) (para-roll-Arg ArgAims Aims (arg_aim T env unknown) (type_aim T env unknown) l)

  from : {s r : Ty} (f : Ty) → r ≡ s → aimed T env unknown s f ≡ aimed T env unknown r f
  from f e = ap (λ (t : Ty). aimed T env unknown t f) (sym e)

  arg_from : {s r : Arg} (u : Arg-F Arg Ty) → r ≡ s → aimed_by_arg T env unknown s u ≡ aimed_by_arg T env unknown r u
  arg_from u e = ap (λ (t : Arg). aimed_by_arg T env unknown t u) (sym e)

  pub aimed-Prim : (p : Primitive) (f : Ty) → aimed T env unknown (Prim p) f ≡ []
  aimed-Prim p f = from f (rolls-Prim p) ∙ rolled (Ty-F.Prim p) f

  pub aimed-Class : (i : ClassId) (ws : List Arg) (f : Ty) → aimed T env unknown (Class i ws) f ≡ aims_beside (map (with_aim T env unknown) ws) (seen_as T i f)
  aimed-Class i ws f = from f (rolls-Class i ws) ∙ rolled (Ty-F.Class i ws) f

  pub aimed-Raw : (i : ClassId) (f : Ty) → aimed T env unknown (Raw i) f ≡ []
  aimed-Raw i f = from f (rolls-Raw i) ∙ rolled (Ty-F.Raw i) f

  pub aimed-Array : (t : Ty) (m : ℕ) (f : Ty) → aimed T env unknown (Array t m) f ≡ array_aim unknown (t, aimed T env unknown t) m (out-Ty f)
  aimed-Array t m f = from f (rolls-Array t m) ∙ rolled (Ty-F.Array t m) f

  pub aimed-Variable : (v : VarId) (f : Ty) → aimed T env unknown (Variable v) f ≡ []
  aimed-Variable v f = from f (rolls-Variable v) ∙ rolled (Ty-F.Variable v) f

  pub aimed-Captured : (v : CaptureId) (f : Ty) → aimed T env unknown (Captured v) f ≡ []
  aimed-Captured v f = from f (rolls-Captured v) ∙ rolled (Ty-F.Captured v) f

  pub aimed-Meet : (ts : List Ty) (f : Ty) → aimed T env unknown (Meet ts) f ≡ []
  aimed-Meet ts f = from f (rolls-Meet ts) ∙ rolled (Ty-F.Meet ts) f

  pub aimed-NullTy : (f : Ty) → aimed T env unknown NullTy f ≡ []
  aimed-NullTy f = from f rolls-NullTy ∙ rolled Ty-F.NullTy f

  pub aimed_by_arg-Exact : (w : Ty) (u : Arg-F Arg Ty) → aimed_by_arg T env unknown (Exact w) u ≡ on_some (λ f. implied T env unknown f Same w) (exact_only u)
  aimed_by_arg-Exact w u = arg_from u (rolls-Exact w) ∙ arg_rolled (Arg-F.Exact w) u

  pub aimed_by_arg-Any : (u : Arg-F Arg Ty) → aimed_by_arg T env unknown Any u ≡ []
  aimed_by_arg-Any u = arg_from u rolls-Any ∙ arg_rolled Arg-F.Any u

  pub aimed_by_arg-Extends : (w : Ty) (u : Arg-F Arg Ty) → aimed_by_arg T env unknown (Extends w) u ≡ on_some (implied_by_target T env unknown w) (exact_or_upper u)
  aimed_by_arg-Extends w u = arg_from u (rolls-Extends w) ∙ arg_rolled (Arg-F.Extends w) u

  pub aimed_by_arg-Super : (w : Ty) (u : Arg-F Arg Ty) → aimed_by_arg T env unknown (Super w) u ≡ on_some (λ f. implied T env unknown f Below w) (exact_or_lower u)
  aimed_by_arg-Super w u = arg_from u (rolls-Super w) ∙ arg_rolled (Arg-F.Super w) u

pub ruleset aimings = (aimed-Prim, aimed-Class, aimed-Raw, aimed-Array, aimed-Variable, aimed-Captured, aimed-Meet, aimed-NullTy, aimed_by_arg-Exact, aimed_by_arg-Any, aimed_by_arg-Extends, aimed_by_arg-Super)

aims_suc : (g : Arg → Arg × ArgAims) (ws us : List Arg) (i : ℕ) (d e : Arg) → i < length ws → i < length us → aims_beside (map g (take (suc i) ws)) us ≡ aims_beside (map g (take i ws)) us ++ (g (get_or ws i d)).1 (out-Arg (get_or us i e))
aims_suc g [] us i d e lt lt2 = absurd (omega arith)
aims_suc g (w ∷ ws) [] i d e lt lt2 = absurd (omega arith)
aims_suc g (w ∷ ws) (u ∷ us) zero d e lt lt2 = append-nil _
aims_suc g (w ∷ ws) (u ∷ us) (suc i) d e lt lt2 =
    ap (λ (ls : List Implied). (g w).1 (out-Arg u) ++ ls) (aims_suc g ws us i d e (omega arith) (omega arith)) ∙ sym (append_assoc ((g w).1 (out-Arg u)) (aims_beside (map g (take i ws)) us) ((g (get_or ws i d)).1 (out-Arg (get_or us i e))))

pub aims_more : (g : Arg → Arg × ArgAims) (ws us : List Arg) (i : ℕ) (d e : Arg) → i < length ws → i < length us → aims_beside (map g (take (i + 1) ws)) us ≡ aims_beside (map g (take i ws)) us ++ (g (get_or ws i d)).1 (out-Arg (get_or us i e))
aims_more g ws us i d e lt lt2 = rw add-one (aims_suc g ws us i d e lt lt2)

pub aims_end : (g : Arg → Arg × ArgAims) (ws us : List Arg) (i : ℕ) → length us ≤ i → aims_beside (map g (take i ws)) us ≡ aims_beside (map g ws) us
aims_end g [] us zero le = refl
aims_end g [] us (suc i) le = refl
aims_end g (w ∷ ws) [] zero le = refl
aims_end g (w ∷ ws) [] (suc i) le = refl
aims_end g (w ∷ ws) (u ∷ us) zero le = absurd (omega arith)
aims_end g (w ∷ ws) (u ∷ us) (suc i) le = ap (λ (ls : List Implied). (g w).1 (out-Arg u) ++ ls) (aims_end g ws us i (omega arith))
