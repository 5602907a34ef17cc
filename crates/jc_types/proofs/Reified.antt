-- Reifiability of each variant.
use Rattle.std.proofs.Common.{◌≡◌, ℕ, zero, suc, ◌+◌, ◌<◌, ◌&&◌, Bool, true, false, List, [], ◌∷◌, length, map, take, get_or, arith, refl, sym, ap, subst, ◌∙◌}
use Rattle.jc_types.specs.declared.form.Ty.{Ty, out-Ty, map-Ty, Ty-F, fold_out-Ty}
use Rattle.jc_types.specs.declared.form.Ty.TheVariants.{Prim, Class, Raw, Array, Variable, Captured, Meet, NullTy, outs-Prim, outs-Class, outs-Raw, outs-Array, outs-Variable, outs-Captured, outs-Meet, outs-NullTy}
use Rattle.jc_types.specs.declared.form.Arg.{Arg, out-Arg, map-Arg, Arg-F, fold-Arg, fold_out-Arg}
use Rattle.jc_types.specs.declared.form.Primitive as kind
use Rattle.jc_types.specs.declared.ids.ClassId.{ClassId}
use Rattle.jc_types.specs.declared.ids.VarId.{VarId}
use Rattle.jc_types.specs.declared.ids.CaptureId.{CaptureId}
use Rattle.jc_types.specs.declared.table.Table.{Table}
use Rattle.jc_types.specs.Accessors.{vars_of}
use Rattle.jc_types.specs.Reifying.{reifiable, reifiable_step, is_any, is_unbounded, all_true, raw_or_all, counted}

any_along : (f : Arg → Bool) (g : Ty → Bool) (l : Arg-F Arg Ty) → is_any (map-Arg Arg Ty Bool Bool f g l) ≡ is_any l
any_along f g (Arg-F.Exact t) = refl
any_along f g Arg-F.Any = refl
any_along f g (Arg-F.Extends t) = refl
any_along f g (Arg-F.Super t) = refl

module _ (T : Table) where
  abbrev folded_arg : Arg → Bool
  folded_arg a = fold-Arg Bool Bool is_any (reifiable_step T) a

  arg_out : (a : Arg) → folded_arg a ≡ is_unbounded a
  unfolding is_unbounded reifiable
  arg_out a = fold_out-Arg Bool Bool is_any (reifiable_step T) a ∙ any_along folded_arg (reifiable T) (out-Arg a)

  args_out : (xs : List Arg) → map folded_arg xs ≡ map is_unbounded xs
  args_out [] = refl
  args_out (x ∷ xs) = ap (λ b. b ∷ map folded_arg xs) (arg_out x) ∙ ap (λ bs. is_unbounded x ∷ bs) (args_out xs)

  abbrev of_layer : Ty-F Arg Ty → Bool
  of_layer l = reifiable_step T (map-Ty Arg Ty Bool Bool folded_arg (reifiable T) l)

  reifiable_out : (t : Ty) → reifiable T t ≡ of_layer (out-Ty t)
  unfolding reifiable
  reifiable_out t = fold_out-Ty Bool Bool is_any (reifiable_step T) t

  pub reifiable-Prim : (p : kind.Primitive) → reifiable T (Prim p) ≡ true
  reifiable-Prim p = reifiable_out (Prim p) ∙ ap of_layer (outs-Prim p)

  pub reifiable-Class : (i : ClassId) (xs : List Arg) → reifiable T (Class i xs) ≡ raw_or_all (counted (vars_of T i) (map is_unbounded xs))
  reifiable-Class i xs = reifiable_out (Class i xs) ∙ ap of_layer (outs-Class i xs) ∙ ap (λ bs. raw_or_all (counted (vars_of T i) bs)) (args_out xs)

  pub reifiable-Raw : (i : ClassId) → reifiable T (Raw i) ≡ true
  reifiable-Raw i = reifiable_out (Raw i) ∙ ap of_layer (outs-Raw i)

  pub reifiable-Array : (t : Ty) (n : ℕ) → reifiable T (Array t n) ≡ reifiable T t
  reifiable-Array t n = reifiable_out (Array t n) ∙ ap of_layer (outs-Array t n)

  pub reifiable-Variable : (v : VarId) → reifiable T (Variable v) ≡ false
  reifiable-Variable v = reifiable_out (Variable v) ∙ ap of_layer (outs-Variable v)

  pub reifiable-Captured : (c : CaptureId) → reifiable T (Captured c) ≡ false
  reifiable-Captured c = reifiable_out (Captured c) ∙ ap of_layer (outs-Captured c)

  pub reifiable-Meet : (ts : List Ty) → reifiable T (Meet ts) ≡ false
  reifiable-Meet ts = reifiable_out (Meet ts) ∙ ap of_layer (outs-Meet ts)

  pub reifiable-NullTy : reifiable T NullTy ≡ false
  reifiable-NullTy = reifiable_out NullTy ∙ ap of_layer outs-NullTy

pub ruleset reified = (reifiable-Prim, reifiable-Class, reifiable-Raw, reifiable-Array, reifiable-Variable, reifiable-Captured, reifiable-Meet, reifiable-NullTy)

all_next : (xs : List Arg) (i : ℕ) (x : Arg) → i < length xs → x ≡ get_or xs i x → all_true (map is_unbounded (take i xs)) ≡ true → is_unbounded x ≡ true
    → all_true (map is_unbounded (take (suc i) xs)) ≡ true
all_next [] i x lt e h b = absurd (omega arith)
all_next (y ∷ xs) zero x lt e h b = ap (λ c. c && true) (ap is_unbounded (sym e) ∙ b)
all_next (y ∷ xs) (suc i) x lt e h b = by_head (is_unbounded y) h (all_next xs i x (omega arith) e)
  where
    by_head : (c : Bool) → (c && all_true (map is_unbounded (take i xs))) ≡ true
        → (all_true (map is_unbounded (take i xs)) ≡ true → is_unbounded x ≡ true → all_true (map is_unbounded (take (suc i) xs)) ≡ true)
        → (c && all_true (map is_unbounded (take (suc i) xs))) ≡ true
    by_head true h f = f h b
    by_head false h f = h

-- one argument more that is unbounded
pub all_more : (xs : List Arg) (i : ℕ) (x : Arg) → i < length xs → x ≡ get_or xs i x → all_true (map is_unbounded (take i xs)) ≡ true → is_unbounded x ≡ true
    → all_true (map is_unbounded (take (i + 1) xs)) ≡ true
all_more xs i x lt e h b = subst (λ n. all_true (map is_unbounded (take n xs)) ≡ true) (let next : suc i ≡ i + 1 = omega arith in next) (all_next xs i x lt e h b)

-- an argument that isn't
pub one_bounded : (xs : List Arg) (i : ℕ) (x : Arg) → i < length xs → x ≡ get_or xs i x → is_unbounded x ≡ false → false ≡ all_true (map is_unbounded xs)
one_bounded [] i x lt e b = absurd (omega arith)
one_bounded (y ∷ xs) zero x lt e b = ap (λ c. c && all_true (map is_unbounded xs)) (sym b ∙ ap is_unbounded e)
one_bounded (y ∷ xs) (suc i) x lt e b = by_head (is_unbounded y) (one_bounded xs i x (omega arith) e b)
  where
    by_head : (c : Bool) → false ≡ all_true (map is_unbounded xs) → false ≡ (c && all_true (map is_unbounded xs))
    by_head true h = h
    by_head false h = refl
