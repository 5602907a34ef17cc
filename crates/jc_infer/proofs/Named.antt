-- Which variables each form of type names.
use Rattle.std.proofs.Common.{◌≡◌, ℕ, zero, suc, ◌+◌, ◌<◌, Bool, true, false, List, [], ◌∷◌, length, map, take, get_or, arith, sym, ap, subst, ◌∙◌, refl}
use Rattle.std.specs.Prelude.{◌||◌}
use Rattle.jc_types.specs.declared.form.Ty.{Ty, out-Ty, map-Ty, Ty-F, fold_out-Ty}
use Rattle.jc_types.specs.declared.form.Ty.TheVariants.{Prim, Class, Raw, Array, Variable, Captured, Meet, NullTy, outs-Prim, outs-Class, outs-Raw, outs-Array, outs-Variable, outs-Captured, outs-Meet, outs-NullTy}
use Rattle.jc_types.specs.declared.form.Arg.{Arg, out-Arg, map-Arg, Arg-F, fold_out-Arg}
use Rattle.jc_types.specs.declared.form.Arg.TheVariants.{Exact, Any, Extends, Super, outs-Exact, outs-Any, outs-Extends, outs-Super}
use Rattle.jc_types.specs.declared.form.Primitive.{Primitive}
use Rattle.jc_types.specs.declared.ids.CaptureId.{CaptureId}
use Rattle.jc_types.specs.declared.ids.ClassId.{ClassId}
use Rattle.jc_types.specs.declared.ids.VarId.{VarId}
use Rattle.jc_constraints.specs.Constraints.{is_unknown}
use Rattle.jc_infer.specs.Naming.{any_true, arg_names, names, names_in_arg, type_names}

module _ (vars : List VarId) where
  abbrev of_layer : Ty-F Arg Ty → Bool
  of_layer l = type_names vars (map-Ty Arg Ty Bool Bool (names_in_arg vars) (names vars) l)

  abbrev of_arg_layer : Arg-F Arg Ty → Bool
  of_arg_layer l = arg_names (map-Arg Arg Ty Bool Bool (names_in_arg vars) (names vars) l)

  names_out : (t : Ty) → names vars t ≡ of_layer (out-Ty t)
  unfolding names names_in_arg
  names_out t = fold_out-Ty Bool Bool arg_names (type_names vars) t

  names_in_arg_out : (a : Arg) → names_in_arg vars a ≡ of_arg_layer (out-Arg a)
  unfolding names names_in_arg
  names_in_arg_out a = fold_out-Arg Bool Bool arg_names (type_names vars) a

  pub names-Prim : (p : Primitive) → names vars (Prim p) ≡ false
  names-Prim p = names_out (Prim p) ∙ ap of_layer (outs-Prim p)

  pub names-Class : (i : ClassId) (xs : List Arg) → names vars (Class i xs) ≡ any_true (map (names_in_arg vars) xs)
  names-Class i xs = names_out (Class i xs) ∙ ap of_layer (outs-Class i xs)

  pub names-Raw : (i : ClassId) → names vars (Raw i) ≡ false
  names-Raw i = names_out (Raw i) ∙ ap of_layer (outs-Raw i)

  pub names-Array : (t : Ty) (n : ℕ) → names vars (Array t n) ≡ names vars t
  names-Array t n = names_out (Array t n) ∙ ap of_layer (outs-Array t n)

  pub names-Variable : (v : VarId) → names vars (Variable v) ≡ is_unknown vars v
  names-Variable v = names_out (Variable v) ∙ ap of_layer (outs-Variable v)

  pub names-Captured : (c : CaptureId) → names vars (Captured c) ≡ false
  names-Captured c = names_out (Captured c) ∙ ap of_layer (outs-Captured c)

  pub names-Meet : (ts : List Ty) → names vars (Meet ts) ≡ any_true (map (names vars) ts)
  names-Meet ts = names_out (Meet ts) ∙ ap of_layer (outs-Meet ts)

  pub names-NullTy : names vars NullTy ≡ false
  names-NullTy = names_out NullTy ∙ ap of_layer outs-NullTy

  pub names_in_arg-Exact : (t : Ty) → names_in_arg vars (Exact t) ≡ names vars t
  names_in_arg-Exact t = names_in_arg_out (Exact t) ∙ ap of_arg_layer (outs-Exact t)

  pub names_in_arg-Any : names_in_arg vars Any ≡ false
  names_in_arg-Any = names_in_arg_out Any ∙ ap of_arg_layer outs-Any

  pub names_in_arg-Extends : (t : Ty) → names_in_arg vars (Extends t) ≡ names vars t
  names_in_arg-Extends t = names_in_arg_out (Extends t) ∙ ap of_arg_layer (outs-Extends t)

  pub names_in_arg-Super : (t : Ty) → names_in_arg vars (Super t) ≡ names vars t
  names_in_arg-Super t = names_in_arg_out (Super t) ∙ ap of_arg_layer (outs-Super t)

pub ruleset named = (names-Prim, names-Class, names-Raw, names-Array, names-Variable, names-Captured, names-Meet, names-NullTy, names_in_arg-Exact, names_in_arg-Any, names_in_arg-Extends, names_in_arg-Super)

none_next : {A : Type 0} (f : A → Bool) (xs : List A) (i : ℕ) (x : A) → i < length xs → x ≡ get_or xs i x → any_true (map f (take i xs)) ≡ false → f x ≡ false → any_true (map f (take (suc i) xs)) ≡ false
none_next f [] i x lt e h b = absurd (omega arith)
none_next f (y ∷ xs) zero x lt e h b = ap (λ c. c || false) (ap f (sym e) ∙ b)
none_next f (y ∷ xs) (suc i) x lt e h b = by_head (f y) h (none_next f xs i x (omega arith) e)
  where
    by_head : (c : Bool) → (c || any_true (map f (take i xs))) ≡ false
        → (any_true (map f (take i xs)) ≡ false → f x ≡ false → any_true (map f (take (suc i) xs)) ≡ false)
        → (c || any_true (map f (take (suc i) xs))) ≡ false
    by_head true h g = h
    by_head false h g = g h b

-- one more that doesn't
pub none_more : {A : Type 0} (f : A → Bool) (xs : List A) (i : ℕ) (x : A) → i < length xs → x ≡ get_or xs i x → any_true (map f (take i xs)) ≡ false → f x ≡ false → any_true (map f (take (i + 1) xs)) ≡ false
none_more f xs i x lt e h b = subst (λ n. any_true (map f (take n xs)) ≡ false) (let next : suc i ≡ i + 1 = omega arith in next) (none_next f xs i x lt e h b)

-- one that does
pub some_one : {A : Type 0} (f : A → Bool) (xs : List A) (i : ℕ) (x : A) → i < length xs → x ≡ get_or xs i x → f x ≡ true → true ≡ any_true (map f xs)
some_one f [] i x lt e b = absurd (omega arith)
some_one f (y ∷ xs) zero x lt e b = ap (λ c. c || any_true (map f xs)) (sym b ∙ ap f e)
some_one f (y ∷ xs) (suc i) x lt e b = by_head (f y) (some_one f xs i x (omega arith) e b)
  where
    by_head : (c : Bool) → true ≡ any_true (map f xs) → true ≡ (c || any_true (map f xs))
    by_head true h = refl
    by_head false h = h
