-- What each form of a formal type implies, and lists of arguments one by one.
use Rattle.std.proofs.Common.{◌≡◌, ℕ, List, [], ◌∷◌, ◌++◌, map, ap, ◌∙◌, refl, Some, ◌+◌, ◌<◌, ◌≤◌, zero, suc, length, take, get_or, arith, sym, append_assoc, append-nil, add-one}
use Rattle.jc_types.specs.declared.environment.Bounds.{Bounds}
use Rattle.jc_types.specs.declared.form.Ty.{Ty, out-Ty, map-Ty, Ty-F, fold_out-Ty}
use Rattle.jc_types.specs.declared.form.Ty.TheVariants.{Prim, Class, Raw, Array, Variable, Captured, Meet, NullTy, outs-Prim, outs-Class, outs-Raw, outs-Array, outs-Variable, outs-Captured, outs-Meet, outs-NullTy}
use Rattle.jc_types.specs.declared.form.Arg.{Arg, out-Arg, map-Arg, Arg-F, fold_out-Arg}
use Rattle.jc_types.specs.declared.form.Arg.TheVariants.{Exact, Any, Extends, Super, outs-Exact, outs-Any, outs-Extends, outs-Super}
use Rattle.jc_types.specs.declared.form.Primitive.{Primitive}
use Rattle.jc_types.specs.declared.ids.CaptureId.{CaptureId}
use Rattle.jc_types.specs.declared.ids.ClassId.{ClassId}
use Rattle.jc_types.specs.declared.ids.VarId.{VarId}
use Rattle.jc_types.specs.declared.table.Table.{Table}
use Rattle.jc_constraints.specs.declared.standing.ArgKind.TheVariants as kind
use Rattle.jc_constraints.specs.declared.standing.Implied.{Implied}
use Rattle.jc_constraints.specs.declared.standing.Standing.{Standing}
use Rattle.jc_constraints.specs.Standings.{kind_of, part_of, standing_of}
use Rattle.jc_constraints.specs.Constraints.{ArgImplies, Implies, arg_step, args_for, beside, down, element_for, implied, implied_by_arg, implied_if, is_unknown, of_parts, on_element, type_step}

module _ (T : Table) (env : List Bounds) (unknown : List VarId) where
  implied_out : (f : Ty) (standing : Standing) (a : Ty) → implied T env unknown f standing a ≡ type_step T env unknown (map-Ty Arg Ty ArgImplies Implies (implied_by_arg T env unknown) (implied T env unknown) (out-Ty f)) standing a
  unfolding implied implied_by_arg
  implied_out f standing a = ap (λ (g : Implies). g standing a) (fold_out-Ty ArgImplies Implies arg_step (type_step T env unknown) f)

  implied_by_arg_out : (f : Arg) (standing : Standing) (a : Arg) → implied_by_arg T env unknown f standing a ≡ arg_step (map-Arg Arg Ty ArgImplies Implies (implied_by_arg T env unknown) (implied T env unknown) (out-Arg f)) standing a
  unfolding implied implied_by_arg
  implied_by_arg_out f standing a = ap (λ (g : ArgImplies). g standing a) (fold_out-Arg ArgImplies Implies arg_step (type_step T env unknown) f)

  along : {l m : Ty-F Arg Ty} (standing : Standing) (a : Ty) → l ≡ m → type_step T env unknown (map-Ty Arg Ty ArgImplies Implies (implied_by_arg T env unknown) (implied T env unknown) l) standing a ≡ type_step T env unknown (map-Ty Arg Ty ArgImplies Implies (implied_by_arg T env unknown) (implied T env unknown) m) standing a
  along standing a e = ap (λ (l : Ty-F Arg Ty). type_step T env unknown (map-Ty Arg Ty ArgImplies Implies (implied_by_arg T env unknown) (implied T env unknown) l) standing a) e

  along_arg : {l m : Arg-F Arg Ty} (standing : Standing) (a : Arg) → l ≡ m → arg_step (map-Arg Arg Ty ArgImplies Implies (implied_by_arg T env unknown) (implied T env unknown) l) standing a ≡ arg_step (map-Arg Arg Ty ArgImplies Implies (implied_by_arg T env unknown) (implied T env unknown) m) standing a
  along_arg standing a e = ap (λ (l : Arg-F Arg Ty). arg_step (map-Arg Arg Ty ArgImplies Implies (implied_by_arg T env unknown) (implied T env unknown) l) standing a) e

  pub implied-Prim : (p : Primitive) (standing : Standing) (a : Ty) → implied T env unknown (Prim p) standing a ≡ []
  implied-Prim p standing a = implied_out (Prim p) standing a ∙ along standing a (outs-Prim p)

  pub implied-Class : (i : ClassId) (xs : List Arg) (standing : Standing) (a : Ty) → implied T env unknown (Class i xs) standing a ≡ beside (map (implied_by_arg T env unknown) xs) standing (args_for T env standing i a)
  implied-Class i xs standing a = implied_out (Class i xs) standing a ∙ along standing a (outs-Class i xs)

  pub implied-Raw : (i : ClassId) (standing : Standing) (a : Ty) → implied T env unknown (Raw i) standing a ≡ []
  implied-Raw i standing a = implied_out (Raw i) standing a ∙ along standing a (outs-Raw i)

  pub implied-Array : (t : Ty) (m : ℕ) (standing : Standing) (a : Ty) → implied T env unknown (Array t m) standing a ≡ on_element (implied T env unknown t) standing (down (element_for T env standing) m (element_for T env standing a))
  implied-Array t m standing a = implied_out (Array t m) standing a ∙ along standing a (outs-Array t m)

  pub implied-Variable : (v : VarId) (standing : Standing) (a : Ty) → implied T env unknown (Variable v) standing a ≡ implied_if (is_unknown unknown v) v standing a
  implied-Variable v standing a = implied_out (Variable v) standing a ∙ along standing a (outs-Variable v)

  pub implied-Captured : (c : CaptureId) (standing : Standing) (a : Ty) → implied T env unknown (Captured c) standing a ≡ []
  implied-Captured c standing a = implied_out (Captured c) standing a ∙ along standing a (outs-Captured c)

  pub implied-Meet : (ts : List Ty) (standing : Standing) (a : Ty) → implied T env unknown (Meet ts) standing a ≡ []
  implied-Meet ts standing a = implied_out (Meet ts) standing a ∙ along standing a (outs-Meet ts)

  pub implied-NullTy : (standing : Standing) (a : Ty) → implied T env unknown NullTy standing a ≡ []
  implied-NullTy standing a = implied_out NullTy standing a ∙ along standing a outs-NullTy

  pub implied_by_arg-Exact : (t : Ty) (standing : Standing) (a : Arg) → implied_by_arg T env unknown (Exact t) standing a ≡ of_parts (Some (implied T env unknown t)) (part_of (out-Arg a)) (standing_of standing kind.Exact (kind_of (out-Arg a)))
  implied_by_arg-Exact t standing a = implied_by_arg_out (Exact t) standing a ∙ along_arg standing a (outs-Exact t)

  pub implied_by_arg-Any : (standing : Standing) (a : Arg) → implied_by_arg T env unknown Any standing a ≡ []
  implied_by_arg-Any standing a = implied_by_arg_out Any standing a ∙ along_arg standing a outs-Any

  pub implied_by_arg-Extends : (t : Ty) (standing : Standing) (a : Arg) → implied_by_arg T env unknown (Extends t) standing a ≡ of_parts (Some (implied T env unknown t)) (part_of (out-Arg a)) (standing_of standing kind.Extends (kind_of (out-Arg a)))
  implied_by_arg-Extends t standing a = implied_by_arg_out (Extends t) standing a ∙ along_arg standing a (outs-Extends t)

  pub implied_by_arg-Super : (t : Ty) (standing : Standing) (a : Arg) → implied_by_arg T env unknown (Super t) standing a ≡ of_parts (Some (implied T env unknown t)) (part_of (out-Arg a)) (standing_of standing kind.Super (kind_of (out-Arg a)))
  implied_by_arg-Super t standing a = implied_by_arg_out (Super t) standing a ∙ along_arg standing a (outs-Super t)

pub ruleset implications = (implied-Prim, implied-Class, implied-Raw, implied-Array, implied-Variable, implied-Captured, implied-Meet, implied-NullTy, implied_by_arg-Exact, implied_by_arg-Any, implied_by_arg-Extends, implied_by_arg-Super)

beside_suc : (g : Arg → ArgImplies) (standing : Standing) (fs ys : List Arg) (i : ℕ) (d e : Arg) → i < length fs → i < length ys → beside (map g (take (suc i) fs)) standing ys ≡ beside (map g (take i fs)) standing ys ++ g (get_or fs i d) standing (get_or ys i e)
beside_suc g standing [] ys i d e lt lt2 = absurd (omega arith)
beside_suc g standing (f ∷ fs) [] i d e lt lt2 = absurd (omega arith)
beside_suc g standing (f ∷ fs) (a ∷ ys) zero d e lt lt2 = append-nil _
beside_suc g standing (f ∷ fs) (a ∷ ys) (suc i) d e lt lt2 =
    ap (λ (ls : List Implied). g f standing a ++ ls) (beside_suc g standing fs ys i d e (omega arith) (omega arith)) ∙ sym (append_assoc (g f standing a) (beside (map g (take i fs)) standing ys) (g (get_or fs i d) standing (get_or ys i e)))

pub beside_more : (g : Arg → ArgImplies) (standing : Standing) (fs ys : List Arg) (i : ℕ) (d e : Arg) → i < length fs → i < length ys → beside (map g (take (i + 1) fs)) standing ys ≡ beside (map g (take i fs)) standing ys ++ g (get_or fs i d) standing (get_or ys i e)
beside_more g standing fs ys i d e lt lt2 = rw add-one (beside_suc g standing fs ys i d e lt lt2)

pub beside_end : (g : Arg → ArgImplies) (standing : Standing) (fs ys : List Arg) (i : ℕ) → length ys ≤ i → beside (map g (take i fs)) standing ys ≡ beside (map g fs) standing ys
beside_end g standing [] ys zero le = refl
beside_end g standing [] ys (suc i) le = refl
beside_end g standing (f ∷ fs) [] zero le = refl
beside_end g standing (f ∷ fs) [] (suc i) le = refl
beside_end g standing (f ∷ fs) (a ∷ ys) zero le = absurd (omega arith)
beside_end g standing (f ∷ fs) (a ∷ ys) (suc i) le = ap (λ (ls : List Implied). g f standing a ++ ls) (beside_end g standing fs ys i (omega arith))
