-- Types that erase alike whatever stands for variables: those with a class or a primitive type at their base.
use Rattle.std.proofs.Common.{◌≡◌, ℕ, zero, suc, ◌+◌, ◌≤◌, true, false, List, [], ◌∷◌, map, replicate, length, Option, Some, None, refl, sym, ap, ◌∙◌, arith, subst}
use Rattle.std.proofs.lemmas.Bool.{false≢true}
use Rattle.std.specs.Prelude.{◌-◌, is_some}
use Rattle.jc_types.specs.declared.environment.Bounds.{Bounds}
use Rattle.jc_types.specs.declared.erased.Base.{Base}
use Rattle.jc_types.specs.declared.erased.Base.TheVariants as base
use Rattle.jc_types.specs.declared.erased.Erased.{Erased}
use Rattle.jc_types.specs.declared.form.Arg.{Arg, roll-Arg, fold-Arg}
use Rattle.jc_types.specs.declared.form.Arg.TheVariants.{Any}
use Rattle.jc_types.specs.declared.form.Primitive.{Primitive}
use Rattle.jc_types.specs.declared.form.Ty.{Ty, Ty-F, out-Ty, map-Ty, fold-Ty, fold_out-Ty}
use Rattle.jc_types.specs.declared.form.Ty.TheVariants.{Prim, Class, Raw, Array, outs-Prim, outs-Class, outs-Raw, outs-Array, rolls-Prim, rolls-Class, rolls-Raw, rolls-Array}
use Rattle.jc_types.specs.declared.ids.CaptureId.{CaptureId}
use Rattle.jc_types.specs.declared.ids.ClassId.{ClassId}
use Rattle.jc_types.specs.declared.ids.VarId.{VarId}
use Rattle.jc_types.specs.declared.table.Table.{Table}
use Rattle.jc_types.specs.Accessors.{vars_of}
use Rattle.jc_types.specs.Arrays.{array_over, array_over_at, element, element_at, lowered}
use Rattle.jc_types.specs.Erasing.{capped, erased_by, erased_step, erased_within, erasure, own_base, plain, raised}
use Rattle.jc_overriding.specs.Viewing.{base_type, erased_type, plain_class}
use Rattle.jc_heaps.specs.Classes.{class_at, class_of, element_of}
use Rattle.jc_meaning.specs.declared.frame.Binding.{Binding}
use Rattle.jc_meaning.specs.Kept.{close, close_step, kept_array, kept_at, kept_by, unbounded_step}
use Rattle.jc_right.specs.Firm.{FirmLayer, is_base_layer}
use Rattle.jc_erase_spec.specs.Trees.{erased_as_type}

abbrev Layer : Type 0
Layer = Ty-F Arg Ty

-- a class type, a raw type or a primitive type, which erases to this base
pub record HasBase (b : Base) (t : Ty) : Type 0 where
  pub layer : is_base_layer (out-Ty t) ≡ true
  pub base : own_base (out-Ty t) ≡ b

-- an array of n + 1 dimensions over such a type
pub record IsArray (b : Base) (n : ℕ) (t : Ty) : Type 0 where
  pub inner : Ty
  pub out : out-Ty t ≡ Ty-F.Array inner n
  pub over : HasBase b inner

prim_has : (p : Primitive) → HasBase (base.Prim p) (Prim p)
prim_has p = record { layer = ap is_base_layer (outs-Prim p); base = ap own_base (outs-Prim p) }

pub class_has : (k : ClassId) (args : List Arg) → HasBase (base.Class k) (Class k args)
class_has k args = record { layer = ap is_base_layer (outs-Class k args); base = ap own_base (outs-Class k args) }

pub raw_has : (k : ClassId) → HasBase (base.Class k) (Raw k)
raw_has k = record { layer = ap is_base_layer (outs-Raw k); base = ap own_base (outs-Raw k) }

array_has : (b : Base) (n : ℕ) (x : Ty) → HasBase b x → IsArray b n (Array x n)
array_has b n x h = record { inner = x; out = outs-Array x n; over = h }

-- of an equal type and base
moved : (b c : Base) (t u : Ty) → u ≡ t → c ≡ b → HasBase c t → HasBase b u
moved b c t u et ec h = subst (HasBase b) (sym et) (subst (λ d. HasBase d t) ec h)

-- ---- closing: what stands for variables changes no base
module _ (vars : List Binding) (captured : List Ty) where
  unfoldable layer_closed : Layer → Ty
  layer_closed l = close_step vars captured (map-Ty Arg Ty Arg Ty (fold-Arg Arg Ty roll-Arg (close_step vars captured)) (fold-Ty Arg Ty roll-Arg (close_step vars captured)) l)

  close_out : (t : Ty) (l : Layer) → out-Ty t ≡ l → close vars captured t ≡ layer_closed l
  unfolding close layer_closed
  close_out t l e = fold_out-Ty Arg Ty roll-Arg (close_step vars captured) t ∙ ap layer_closed e

  closed_layer : (b : Base) (t : Ty) (l : Layer) → out-Ty t ≡ l → is_base_layer l ≡ true → own_base l ≡ b → HasBase b (close vars captured t)
  unfolding layer_closed
  closed_layer b t (Ty-F.Prim p) e hl hb = moved b (base.Prim p) (Prim p) (close vars captured t) (close_out t (Ty-F.Prim p) e ∙ rolls-Prim p) hb (prim_has p)
  closed_layer b t (Ty-F.Class k args) e hl hb =
      let xs = map (fold-Arg Arg Ty roll-Arg (close_step vars captured)) args in
      moved b (base.Class k) (Class k xs) (close vars captured t) (close_out t (Ty-F.Class k args) e ∙ rolls-Class k xs) hb (class_has k xs)
  closed_layer b t (Ty-F.Raw k) e hl hb = moved b (base.Class k) (Raw k) (close vars captured t) (close_out t (Ty-F.Raw k) e ∙ rolls-Raw k) hb (raw_has k)
  closed_layer b t (Ty-F.Array x n) e hl hb = absurd (false≢true hl)
  closed_layer b t (Ty-F.Variable v) e hl hb = absurd (false≢true hl)
  closed_layer b t (Ty-F.Captured c) e hl hb = absurd (false≢true hl)
  closed_layer b t (Ty-F.Meet ts) e hl hb = absurd (false≢true hl)
  closed_layer b t Ty-F.NullTy e hl hb = absurd (false≢true hl)

  pub close_base : (b : Base) (t : Ty) → HasBase b t → HasBase b (close vars captured t)
  close_base b t h = closed_layer b t (out-Ty t) refl h.layer h.base

over_layer : (n : ℕ) (t : Ty) (l : Layer) → is_base_layer l ≡ true → array_over_at n t l ≡ Array t n
over_layer n t (Ty-F.Prim p) h = refl
over_layer n t (Ty-F.Class k args) h = refl
over_layer n t (Ty-F.Raw k) h = refl
over_layer n t (Ty-F.Array x m) h = absurd (false≢true h)
over_layer n t (Ty-F.Variable v) h = refl
over_layer n t (Ty-F.Captured c) h = refl
over_layer n t (Ty-F.Meet ts) h = refl
over_layer n t Ty-F.NullTy h = refl

-- an array over a type with a base
over_base : (b : Base) (n : ℕ) (t : Ty) → HasBase b t → array_over n t ≡ Array t n
unfolding array_over
over_base b n t h = over_layer n t (out-Ty t) h.layer

module _ (vars : List Binding) (captured : List Ty) where
  pub close_array : (b : Base) (n : ℕ) (t : Ty) → IsArray b n t → IsArray b n (close vars captured t)
  unfolding close layer_closed
  close_array b n t h =
      let x : Ty = close vars captured h.inner in
      let hx : HasBase b x = close_base vars captured b h.inner h.over in
      let e : close vars captured t ≡ array_over n x = close_out vars captured t (Ty-F.Array h.inner n) h.out in
      subst (IsArray b n) (sym (e ∙ over_base b n x hx)) (array_has b n x hx)

-- ---- what a new array keeps has the same base
module _ (T : Table) where
  unfoldable layer_kept : Layer → Ty
  layer_kept l = unbounded_step T (map-Ty Arg Ty Arg Ty (fold-Arg Arg Ty roll-Arg (unbounded_step T)) (fold-Ty Arg Ty roll-Arg (unbounded_step T)) l)

  kept_out : (t : Ty) (l : Layer) → out-Ty t ≡ l → kept_array T t ≡ layer_kept l
  unfolding kept_array layer_kept
  kept_out t l e = fold_out-Ty Arg Ty roll-Arg (unbounded_step T) t ∙ ap layer_kept e

  kept_layer : (b : Base) (t : Ty) (l : Layer) → out-Ty t ≡ l → is_base_layer l ≡ true → own_base l ≡ b → HasBase b (kept_array T t)
  unfolding layer_kept
  kept_layer b t (Ty-F.Prim p) e hl hb = moved b (base.Prim p) (Prim p) (kept_array T t) (kept_out t (Ty-F.Prim p) e ∙ rolls-Prim p) hb (prim_has p)
  kept_layer b t (Ty-F.Class k args) e hl hb =
      let xs = map (fold-Arg Arg Ty roll-Arg (unbounded_step T)) args in
      moved b (base.Class k) (Class k xs) (kept_array T t) (kept_out t (Ty-F.Class k args) e ∙ rolls-Class k xs) hb (class_has k xs)
  kept_layer b t (Ty-F.Raw k) e hl hb =
      let xs : List Arg = replicate (length (vars_of T k)) Any in
      moved b (base.Class k) (Class k xs) (kept_array T t) (kept_out t (Ty-F.Raw k) e) hb (class_has k xs)
  kept_layer b t (Ty-F.Array x n) e hl hb = absurd (false≢true hl)
  kept_layer b t (Ty-F.Variable v) e hl hb = absurd (false≢true hl)
  kept_layer b t (Ty-F.Captured c) e hl hb = absurd (false≢true hl)
  kept_layer b t (Ty-F.Meet ts) e hl hb = absurd (false≢true hl)
  kept_layer b t Ty-F.NullTy e hl hb = absurd (false≢true hl)

  pub kept_base : (b : Base) (t : Ty) → HasBase b t → HasBase b (kept_array T t)
  kept_base b t h = kept_layer b t (out-Ty t) refl h.layer h.base

  pub kept_arrays : (b : Base) (n : ℕ) (t : Ty) → IsArray b n t → IsArray b n (kept_array T t)
  unfolding kept_array layer_kept
  kept_arrays b n t h =
      let x : Ty = kept_array T h.inner in
      let e : kept_array T t ≡ Array x n = kept_out t (Ty-F.Array h.inner n) h.out ∙ rolls-Array x n in
      subst (IsArray b n) (sym e) (array_has b n x (kept_base b h.inner h.over))

  -- what a new object keeps
  by_kept : (b : Base) (t : Ty) (l : Layer) → out-Ty t ≡ l → is_base_layer l ≡ true → own_base l ≡ b → HasBase b (kept_at T t l)
  by_kept b t (Ty-F.Prim p) e hl hb = record { layer = ap is_base_layer e; base = ap own_base e ∙ hb }
  by_kept b t (Ty-F.Class k args) e hl hb = record { layer = ap is_base_layer e; base = ap own_base e ∙ hb }
  by_kept b t (Ty-F.Raw k) e hl hb = subst (λ c. HasBase c (kept_at T t (Ty-F.Raw k))) hb (class_has k _)
  by_kept b t (Ty-F.Array x n) e hl hb = absurd (false≢true hl)
  by_kept b t (Ty-F.Variable v) e hl hb = absurd (false≢true hl)
  by_kept b t (Ty-F.Captured c) e hl hb = absurd (false≢true hl)
  by_kept b t (Ty-F.Meet ts) e hl hb = absurd (false≢true hl)
  by_kept b t Ty-F.NullTy e hl hb = absurd (false≢true hl)

  pub kept_by_base : (b : Base) (t : Ty) → HasBase b t → HasBase b (kept_by T t)
  unfolding kept_by
  kept_by_base b t h = by_kept b t (out-Ty t) refl h.layer h.base

-- ---- erasures
few : (b : Base) (n : ℕ) → n ≤ 255 → capped (record { base = b; dims = n }) ≡ record { base = b; dims = n }
few b n small = ap (λ (d : ℕ). let e : Erased = record { base = b; dims = d } in e) (omega (arith, small))

module _ (vs : VarId → Erased) (cs : CaptureId → Erased) where
  by_out : (t : Ty) (l : Layer) → out-Ty t ≡ l → erased_by vs cs t ≡ erased_step vs cs (map-Ty Arg Ty (Unit {0}) Erased (λ _. tt) (erased_by vs cs) l)
  unfolding erased_by
  by_out t l e = fold_out-Ty (Unit {0}) Erased (λ _. tt) (erased_step vs cs) t ∙ ap (λ l. erased_step vs cs (map-Ty Arg Ty (Unit {0}) Erased (λ _. tt) (erased_by vs cs) l)) e

  by_layer : (b : Base) (t : Ty) (l : Layer) → out-Ty t ≡ l → is_base_layer l ≡ true → own_base l ≡ b → erased_by vs cs t ≡ plain b
  by_layer b t (Ty-F.Prim p) e hl hb = by_out t (Ty-F.Prim p) e ∙ ap plain hb
  by_layer b t (Ty-F.Class k args) e hl hb = by_out t (Ty-F.Class k args) e ∙ ap plain hb
  by_layer b t (Ty-F.Raw k) e hl hb = by_out t (Ty-F.Raw k) e ∙ ap plain hb
  by_layer b t (Ty-F.Array x n) e hl hb = absurd (false≢true hl)
  by_layer b t (Ty-F.Variable v) e hl hb = absurd (false≢true hl)
  by_layer b t (Ty-F.Captured c) e hl hb = absurd (false≢true hl)
  by_layer b t (Ty-F.Meet ts) e hl hb = absurd (false≢true hl)
  by_layer b t Ty-F.NullTy e hl hb = absurd (false≢true hl)

  base_by : (b : Base) (t : Ty) → HasBase b t → erased_by vs cs t ≡ plain b
  base_by b t h = by_layer b t (out-Ty t) refl h.layer h.base

  array_by : (b : Base) (n : ℕ) (t : Ty) → IsArray b n t → erased_by vs cs t ≡ raised (n + 1) (plain b)
  array_by b n t h = by_out t (Ty-F.Array h.inner n) h.out ∙ ap (raised (n + 1)) (base_by b h.inner h.over)

module _ (T : Table) (env : List Bounds) where
  pub erasure_base : (b : Base) (t : Ty) → HasBase b t → erasure T env t ≡ record { base = b; dims = 0 }
  unfolding erasure erased_within
  erasure_base b t h = ap capped (base_by _ _ b t h) ∙ few b 0 (omega arith)

  pub erasure_array : (b : Base) (n : ℕ) (t : Ty) → suc n ≤ 255 → IsArray b n t → erasure T env t ≡ record { base = b; dims = suc n }
  unfolding erasure erased_within
  erasure_array b n t small h =
      let dims : 0 + (n + 1) ≡ suc n = omega arith in
      ap capped (array_by _ _ b n t h ∙ ap (λ (d : ℕ). let e : Erased = record { base = b; dims = d } in e) dims) ∙ few b (suc n) small

  -- ---- the erasure as a type has the same base
  plain_has : (k : ClassId) (vars : List VarId) → HasBase (base.Class k) (plain_class T k vars)
  plain_has k [] = class_has k []
  plain_has k (v ∷ vars) = raw_has k

  type_of_layer : (b : Base) (l : Layer) → is_base_layer l ≡ true → own_base l ≡ b → HasBase b (base_type T b)
  type_of_layer b (Ty-F.Prim p) hl hb = subst (λ c. HasBase c (base_type T c)) hb (prim_has p)
  type_of_layer b (Ty-F.Class k args) hl hb = subst (λ c. HasBase c (base_type T c)) hb (plain_has k (vars_of T k))
  type_of_layer b (Ty-F.Raw k) hl hb = subst (λ c. HasBase c (base_type T c)) hb (plain_has k (vars_of T k))
  type_of_layer b (Ty-F.Array x n) hl hb = absurd (false≢true hl)
  type_of_layer b (Ty-F.Variable v) hl hb = absurd (false≢true hl)
  type_of_layer b (Ty-F.Captured c) hl hb = absurd (false≢true hl)
  type_of_layer b (Ty-F.Meet ts) hl hb = absurd (false≢true hl)
  type_of_layer b Ty-F.NullTy hl hb = absurd (false≢true hl)

  of_base : (b : Base) (t : Ty) → HasBase b t → HasBase b (base_type T b)
  of_base b t h = type_of_layer b (out-Ty t) h.layer h.base

  pub erased_base : (b : Base) (t : Ty) → HasBase b t → HasBase b (erased_as_type T env t)
  unfolding erased_as_type
  erased_base b t h = subst (λ e. HasBase b (erased_type T e)) (sym (erasure_base b t h)) (of_base b t h)

  pub erased_array : (b : Base) (n : ℕ) (t : Ty) → suc n ≤ 255 → IsArray b n t → IsArray b n (erased_as_type T env t)
  unfolding erased_as_type
  erased_array b n t small h =
      let hb : HasBase b (base_type T b) = of_base b h.inner h.over in
      subst (λ e. IsArray b n (erased_type T e)) (sym (erasure_array b n t small h))
      (subst (IsArray b n) (sym (over_base b n (base_type T b) hb)) (array_has b n (base_type T b) hb))

-- ---- arrays of some dimensions, or their base
abbrev pub IsLowered : Base → ℕ → Ty → Type 0
IsLowered b zero t = HasBase b t
IsLowered b (suc n) t = IsArray b n t

-- one dimension less, or none
abbrev pub less : ℕ → ℕ
less zero = zero
less (suc n) = n

lowered_has : (b : Base) (n : ℕ) (x : Ty) → HasBase b x → IsLowered b n (lowered x n)
lowered_has b zero x h = h
lowered_has b (suc n) x h = array_has b n x h

no_element : (t : Ty) (l : Layer) → is_base_layer l ≡ true → element_at l ≡ None
no_element t (Ty-F.Prim p) h = refl
no_element t (Ty-F.Class k args) h = refl
no_element t (Ty-F.Raw k) h = refl
no_element t (Ty-F.Array x n) h = absurd (false≢true h)
no_element t (Ty-F.Variable v) h = refl
no_element t (Ty-F.Captured c) h = refl
no_element t (Ty-F.Meet ts) h = refl
no_element t Ty-F.NullTy h = refl

-- the type of elements, as each function tells it that gives the type itself where there is none
pub element_lowered : (f : Ty → Option Ty → Ty) → ((t u : Ty) → f t (Some u) ≡ u) → ((t : Ty) → f t None ≡ t) → (b : Base) (n : ℕ) (t : Ty) → IsLowered b n t → IsLowered b (less n) (f t (element t))
unfolding element
element_lowered f there without b zero t h = subst (HasBase b) (sym (ap (f t) (no_element t (out-Ty t) h.layer) ∙ without t)) h
element_lowered f there without b (suc n) t h = subst (IsLowered b n) (sym (ap (λ l. f t (element_at l)) h.out ∙ there t (lowered h.inner n))) (lowered_has b n h.inner h.over)

less_is : (n : ℕ) → n - 1 ≡ less n
less_is zero = refl
less_is (suc n) = omega arith

less_small : (n : ℕ) → n ≤ 255 → less n ≤ 255
less_small zero h = h
less_small (suc n) h = omega (arith, h)

pub element_erased : (b : Base) (n : ℕ) → element_of (record { base = b; dims = n }) ≡ record { base = b; dims = less n }
element_erased b n = ap (λ (d : ℕ). let e : Erased = record { base = b; dims = d } in e) (less_is n)

pub still_small : (n : ℕ) → n ≤ 255 → less n ≤ 255
still_small n h = less_small n h

module _ (T : Table) where
  pub erasure_lowered : (b : Base) (n : ℕ) (t : Ty) → n ≤ 255 → IsLowered b n t → erasure T [] t ≡ record { base = b; dims = n }
  erasure_lowered b zero t small h = erasure_base T [] b t h
  erasure_lowered b (suc n) t small h = erasure_array T [] b n t small h

  pub kept_lowered : (b : Base) (n : ℕ) (t : Ty) → IsLowered b n t → IsLowered b n (kept_array T t)
  kept_lowered b zero t h = kept_base T b t h
  kept_lowered b (suc n) t h = kept_arrays T b n t h

-- ---- what is firm
pub record FirmArray (t : Ty) : Type 0 where
  pub base : Base
  pub dims : ℕ
  pub is : IsArray base dims t
  pub small : suc dims ≤ 255

firm_layer : (t : Ty) (l : Layer) → out-Ty t ≡ l → FirmLayer l → FirmArray t
firm_layer t (Ty-F.Array x n) e h = record { base = own_base (out-Ty x); dims = n; is = record { inner = x; out = e; over = record { layer = h.0; base = refl } }; small = h.1 }
firm_layer t (Ty-F.Prim p) e h = absurd h
firm_layer t (Ty-F.Class k args) e h = absurd h
firm_layer t (Ty-F.Raw k) e h = absurd h
firm_layer t (Ty-F.Variable v) e h = absurd h
firm_layer t (Ty-F.Captured c) e h = absurd h
firm_layer t (Ty-F.Meet ts) e h = absurd h
firm_layer t Ty-F.NullTy e h = absurd h

pub firm_array : (t : Ty) → FirmLayer (out-Ty t) → FirmArray t
firm_array t h = firm_layer t (out-Ty t) refl h

unfoldable or_first : ClassId → Option ClassId → ClassId
or_first k (Some c) = c
or_first k None = k

no_class : (k : ClassId) → None ≡ Some k → ⊥
no_class k h = let no : false ≡ true = ap is_some h in false≢true no

class_layer : (k : ClassId) (t : Ty) (l : Layer) → out-Ty t ≡ l → class_at l ≡ Some k → HasBase (base.Class k) t
unfolding or_first
class_layer k t (Ty-F.Class c args) e h = record { layer = ap is_base_layer e; base = ap own_base e ∙ ap (λ o. base.Class (or_first k o)) h }
class_layer k t (Ty-F.Raw c) e h = record { layer = ap is_base_layer e; base = ap own_base e ∙ ap (λ o. base.Class (or_first k o)) h }
class_layer k t (Ty-F.Prim p) e h = absurd (no_class k h)
class_layer k t (Ty-F.Array x n) e h = absurd (no_class k h)
class_layer k t (Ty-F.Variable v) e h = absurd (no_class k h)
class_layer k t (Ty-F.Captured c) e h = absurd (no_class k h)
class_layer k t (Ty-F.Meet ts) e h = absurd (no_class k h)
class_layer k t Ty-F.NullTy e h = absurd (no_class k h)

pub class_base : (k : ClassId) (t : Ty) → class_of t ≡ Some k → HasBase (base.Class k) t
class_base k t h = class_layer k t (out-Ty t) refl h
