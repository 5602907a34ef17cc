-- Erasure of each variant, and through arrays and first parts.
use Rattle.std.proofs.Common.{◌≡◌, ℕ, zero, suc, ◌+◌, ◌-◌, ◌^◌, ◌<◌, min, true, Option, Some, None, List, [], ◌∷◌, length, get_or, refl, sym, ap, ◌∙◌, arith}
use Rattle.jc_types.specs.declared.form.Ty.{Ty, out-Ty, map-Ty, Ty-F, fold_out-Ty}
use Rattle.jc_types.specs.declared.form.Ty.TheVariants.{Array, Meet, outs-Array, outs-Meet}
use Rattle.jc_types.specs.declared.form.Arg.{Arg, fold-Arg}
use Rattle.jc_types.specs.declared.ids.VarId.{VarId}
use Rattle.jc_types.specs.declared.ids.CaptureId.{CaptureId}
use Rattle.jc_types.specs.declared.environment.Bounds.{Bounds}
use Rattle.jc_types.specs.declared.erased.Erased.{Erased}
use Rattle.jc_types.specs.declared.erased.Base.{Base}
use Rattle.jc_types.specs.declared.table.Table.{Table}
use Rattle.jc_types.specs.Accessors.{bounds_of, uppers_of}
use Rattle.jc_types.specs.Erasing.{erased_by, erased_step, erased_within, leftmost_within, raised, capped, plain, is_inner, own_base, variable_bounds, variable_bounds_at, Reaches, object}

module _ (vs : VarId → Erased) (cs : CaptureId → Erased) where
  abbrev folded_arg : Arg → Unit {0}
  folded_arg a = fold-Arg (Unit {0}) Erased (λ _. tt) (erased_step vs cs) a

  abbrev of_layer : Ty-F Arg Ty → Erased
  of_layer l = erased_step vs cs (map-Ty Arg Ty (Unit {0}) Erased folded_arg (erased_by vs cs) l)

  pub erased_out : (t : Ty) → erased_by vs cs t ≡ of_layer (out-Ty t)
  unfolding erased_by
  erased_out t = fold_out-Ty (Unit {0}) Erased (λ _. tt) (erased_step vs cs) t

  pub erased-Array : (t : Ty) (n : ℕ) → erased_by vs cs (Array t n) ≡ raised (n + 1) (erased_by vs cs t)
  erased-Array t n = erased_out (Array t n) ∙ ap of_layer (outs-Array t n)

  pub erased-Meet : (t : Ty) (ts : List Ty) → erased_by vs cs (Meet (t ∷ ts)) ≡ erased_by vs cs t
  erased-Meet t ts = erased_out (Meet (t ∷ ts)) ∙ ap of_layer (outs-Meet (t ∷ ts))

abbrev erased : Base → ℕ → Erased
erased b n = record { base = b; dims = n }

-- an array's dimensions more
pub reaches_element : (t u e : Ty) (n d m : ℕ) → Reaches t u n → u ≡ Array e d → m ≡ min (n + (d + 1)) (2 ^ 32 - 1) → Reaches t e m
reaches_element t u e n d m r eu em = record {
  same = λ vs cs. r.same vs cs ∙ ap (λ x. capped (raised n x)) (ap (erased_by vs cs) eu ∙ erased-Array vs cs e d)
      ∙ ap (erased (erased_by vs cs e).base) (let k = (erased_by vs cs e).dims in let same : min (k + (d + 1) + n) (2 ^ 32 - 1) ≡ min (k + m) (2 ^ 32 - 1) = omega arith in same);
}

-- the first part
pub reaches_first : (t u p : Ty) (ps : List Ty) (n : ℕ) → Reaches t u n → u ≡ Meet ps → 0 < length ps → p ≡ get_or ps 0 p → Reaches t p n
reaches_first t u p [] n r eu lt e = absurd (omega arith)
reaches_first t u p (q ∷ ps) n r eu lt e =
    let same : q ≡ p = sym e in
    record { same = λ vs cs. r.same vs cs ∙ ap (λ x. capped (raised n x)) (ap (erased_by vs cs) eu ∙ erased-Meet vs cs q ps ∙ ap (erased_by vs cs) same) }

abbrev of_bounds : Table → List Bounds → ℕ → Ty-F Arg Ty → Option (List Ty) → Erased
of_bounds T env n l (Some bs) = leftmost_within T env n bs
of_bounds T env n l None = plain (own_base l)

inner_layer : (T : Table) (env : List Bounds) (n : ℕ) (l : Ty-F Arg Ty) → is_inner l ≡ true
    → of_layer (λ v. leftmost_within T env n (bounds_of T v)) (λ c. leftmost_within T env n (uppers_of env c)) l ≡ of_bounds T env n l (variable_bounds_at T env l)
inner_layer T env n (Ty-F.Prim p) e = refl
inner_layer T env n (Ty-F.Class i xs) e = refl
inner_layer T env n (Ty-F.Raw i) e = refl
inner_layer T env n (Ty-F.Array t d) e = cc
inner_layer T env n (Ty-F.Variable v) e = refl
inner_layer T env n (Ty-F.Captured c) e = refl
inner_layer T env n (Ty-F.Meet []) e = refl
inner_layer T env n (Ty-F.Meet (t ∷ ts)) e = cc
inner_layer T env n Ty-F.NullTy e = refl

-- a type that is neither an array nor an intersection with a part: its own erasure, or that of its leftmost bound
inner_erased : (T : Table) (env : List Bounds) (n : ℕ) (u : Ty) → is_inner (out-Ty u) ≡ true → erased_within T env n u ≡ of_bounds T env n (out-Ty u) (variable_bounds T env u)
unfolding erased_within variable_bounds
inner_erased T env n u e = erased_out _ _ u ∙ inner_layer T env n (out-Ty u) e

pub by_bounds : (T : Table) (env : List Bounds) (n : ℕ) (u : Ty) (bs : List Ty) → is_inner (out-Ty u) ≡ true → Some bs ≡ variable_bounds T env u
    → capped (leftmost_within T env n bs) ≡ capped (erased_within T env n u)
by_bounds T env n u bs e f = ap capped (sym (inner_erased T env n u e ∙ ap (of_bounds T env n (out-Ty u)) (sym f)))

pub by_base : (T : Table) (env : List Bounds) (n : ℕ) (u : Ty) → is_inner (out-Ty u) ≡ true → None ≡ variable_bounds T env u
    → plain (own_base (out-Ty u)) ≡ capped (erased_within T env n u)
by_base T env n u e f = ap capped (sym (inner_erased T env n u e ∙ ap (of_bounds T env n (out-Ty u)) (sym f)))

-- the dimensions that were passed are added
pub through : (T : Table) (env : List Bounds) (n : ℕ) (t u : Ty) (d : ℕ) → Reaches t u d → capped (raised d (capped (erased_within T env n u))) ≡ capped (erased_within T env n t)
unfolding erased_within
through T env n t u d r =
    let e = erased_within T env n u in
    let k = e.dims in
    let same : min (min k (2 ^ 32 - 1) + d) (2 ^ 32 - 1) ≡ min (k + d) (2 ^ 32 - 1) = omega arith in
    ap (erased e.base) same ∙ sym (r.same _ _)

first_within : (T : Table) (env : List Bounds) (n : ℕ) (b : Ty) (bs : List Ty) → 0 < n → erased_within T env (n - 1) b ≡ leftmost_within T env n (b ∷ bs)
unfolding leftmost_within erased_within
first_within T env zero b bs lt = absurd (omega arith)
first_within T env (suc n) b bs lt =
    let e : suc n - 1 ≡ n = omega arith in
    ap (λ n. erased_within T env n b) e

-- one variable less
pub leftmost_first : (T : Table) (env : List Bounds) (n : ℕ) (b : Ty) (bs : List Ty) → 0 < n → 0 < length bs → b ≡ get_or bs 0 b
    → capped (erased_within T env (n - 1) b) ≡ capped (leftmost_within T env n bs)
leftmost_first T env n b [] lt some e = absurd (omega arith)
leftmost_first T env n b (q ∷ bs) lt some e =
    let same : b ≡ q = e in
    ap capped (first_within T env n b bs lt ∙ ap (λ q. leftmost_within T env n (q ∷ bs)) same)

pub leftmost_none : (T : Table) (env : List Bounds) (n : ℕ) (bs : List Ty) → n ≡ 0 → object ≡ capped (leftmost_within T env n bs)
unfolding leftmost_within
leftmost_none T env zero bs e = refl
leftmost_none T env (suc n) bs e = absurd (omega arith)

pub leftmost_empty : (T : Table) (env : List Bounds) (n : ℕ) (bs : List Ty) → length bs < 1 → object ≡ capped (leftmost_within T env n bs)
unfolding leftmost_within
leftmost_empty T env zero [] e = refl
leftmost_empty T env (suc n) [] e = refl
leftmost_empty T env n (b ∷ bs) e = absurd (omega arith)
