-- What a type is with closed types for its variables.
use Rattle.std.proofs.Common.{◌≡◌, ℕ, zero, suc, ◌+◌, Option, Some, List, map, get_or, sym, ap, ◌∙◌, arith}
use Rattle.jc_types.specs.declared.form.Arg.{Arg, Arg-F, out-Arg, roll-Arg, map-Arg, fold-Arg, fold_out-Arg}
use Rattle.jc_types.specs.declared.form.Arg.TheVariants.{Exact, Any, Extends, Super, outs-Exact, outs-Any, outs-Extends, outs-Super, rolls-Exact, rolls-Any, rolls-Extends, rolls-Super}
use Rattle.jc_types.specs.declared.form.Ty.{Ty, Ty-F, out-Ty, map-Ty, fold_out-Ty}
use Rattle.jc_types.specs.declared.form.Ty.TheVariants.{Prim, Class, Raw, Array, Meet, NullTy, outs-Prim, outs-Class, outs-Raw, outs-Array, outs-Meet, outs-NullTy, rolls-Prim, rolls-Class, rolls-Raw, rolls-Meet, rolls-NullTy}
use Rattle.jc_types.specs.declared.ids.CaptureId.{CaptureId}
use Rattle.jc_types.specs.declared.ids.VarId.{VarId}
use Rattle.jc_types.specs.Arrays.{array_over, element, element_at, lowered}
use Rattle.jc_meaning.specs.declared.frame.Binding.{Binding}
use Rattle.jc_meaning.specs.Kept.{bound_to, close, close_step}
use Rattle.jc_lub_laws.proofs.Homs.{Hom}
use Rattle.jc_lub_laws.proofs.Layers.{Dimensions, on_array, on_other, dimensions, array_of_array, array_parts}

unfoldable pub close_arg : List Binding → List Ty → Arg → Arg
close_arg vars captured a = fold-Arg Arg Ty roll-Arg (close_step vars captured) a

module _ (vars : List Binding) (captured : List Ty) where
  abbrev layer_closed : Ty-F Arg Ty → Ty
  layer_closed l = close_step vars captured (map-Ty Arg Ty Arg Ty (close_arg vars captured) (close vars captured) l)

  abbrev arg_closed : Arg-F Arg Ty → Arg
  arg_closed l = roll-Arg (map-Arg Arg Ty Arg Ty (close_arg vars captured) (close vars captured) l)

  close_out : (t : Ty) (l : Ty-F Arg Ty) → out-Ty t ≡ l → close vars captured t ≡ layer_closed l
  unfolding close close_arg
  close_out t l e = fold_out-Ty Arg Ty roll-Arg (close_step vars captured) t ∙ ap layer_closed e

  close_arg_out : (a : Arg) (l : Arg-F Arg Ty) → out-Arg a ≡ l → close_arg vars captured a ≡ arg_closed l
  unfolding close close_arg
  close_arg_out a l e = fold_out-Arg Arg Ty roll-Arg (close_step vars captured) a ∙ ap arg_closed e

  pub closing : Hom (close vars captured) (close_arg vars captured)
  closing = record {
    prim = λ p. close_out (Prim p) (Ty-F.Prim p) (outs-Prim p) ∙ rolls-Prim p;
    class = λ i xs. close_out (Class i xs) (Ty-F.Class i xs) (outs-Class i xs) ∙ rolls-Class i (map (close_arg vars captured) xs);
    raw = λ i. close_out (Raw i) (Ty-F.Raw i) (outs-Raw i) ∙ rolls-Raw i;
    array = λ t n. close_out (Array t n) (Ty-F.Array t n) (outs-Array t n);
    meet = λ ts. close_out (Meet ts) (Ty-F.Meet ts) (outs-Meet ts) ∙ rolls-Meet (map (close vars captured) ts);
    null = close_out NullTy Ty-F.NullTy outs-NullTy ∙ rolls-NullTy;
    exacts = λ t. close_arg_out (Exact t) (Arg-F.Exact t) (outs-Exact t) ∙ rolls-Exact (close vars captured t);
    anys = close_arg_out Any Arg-F.Any outs-Any ∙ rolls-Any;
    extend = λ t. close_arg_out (Extends t) (Arg-F.Extends t) (outs-Extends t) ∙ rolls-Extends (close vars captured t);
    supers = λ t. close_arg_out (Super t) (Arg-F.Super t) (outs-Super t) ∙ rolls-Super (close vars captured t);
  }

  pub close_variable : (t : Ty) (v : VarId) → out-Ty t ≡ Ty-F.Variable v → close vars captured t ≡ bound_to v vars
  close_variable t v e = close_out t (Ty-F.Variable v) e

  pub close_captured : (t : Ty) (c : CaptureId) → out-Ty t ≡ Ty-F.Captured c → close vars captured t ≡ get_or captured c.0 NullTy
  close_captured t c e = close_out t (Ty-F.Captured c) e

-- ---- arrays

-- what an array over a type has as elements
abbrev pub inner : ℕ → Ty → Ty
inner zero t = t
inner (suc n) t = array_over n t

element_made : (u : Ty) (n : ℕ) → element (Array u n) ≡ Some (lowered u n)
unfolding element
element_made u n = ap element_at (outs-Array u n)

pub element_over : (n : ℕ) (t : Ty) → element (array_over n t) ≡ Some (inner n t)
element_over zero t = by_kind (dimensions 0 t)
  where
    by_kind : Dimensions 0 t → element (array_over 0 t) ≡ Some t
    by_kind (on_array u m e f) =
        let dims : m + 0 + 1 ≡ suc m = omega arith in
        ap element f ∙ element_made u (m + 0 + 1) ∙ ap (λ (d : ℕ). let r : Option Ty = Some (lowered u d) in r) dims ∙ ap Some (sym e)
    by_kind (on_other f) = ap element f ∙ element_made t 0
element_over (suc n) t = by_kind (dimensions (suc n) t)
  where
    same_array : (u : Ty) (m : ℕ) → t ≡ Array u m → Some (Array u (m + n + 1)) ≡ Some (array_over n t)
    same_array u m e = sym (ap Some (ap (array_over n) e ∙ array_of_array n m u))

    other : Dimensions n t → array_over (suc n) t ≡ Array t (suc n) → array_over n t ≡ Array t n
    other (on_other g) f = g
    other (on_array u m e g) f =
        let same : (t ≡ u) × (suc n ≡ m + suc n + 1) = array_parts t u (suc n) (m + suc n + 1) (sym f ∙ ap (array_over (suc n)) e ∙ array_of_array (suc n) m u) in
        absurd (omega (arith, same.1))

    by_kind : Dimensions (suc n) t → element (array_over (suc n) t) ≡ Some (array_over n t)
    by_kind (on_array u m e f) =
        let dims : m + suc n + 1 ≡ suc (m + n + 1) = omega arith in
        ap element f ∙ element_made u (m + suc n + 1) ∙ ap (λ (d : ℕ). let r : Option Ty = Some (lowered u d) in r) dims ∙ same_array u m e
    by_kind (on_other f) = ap element f ∙ element_made t (suc n) ∙ ap Some (sym (other (dimensions n t) f))
