-- A view is one of the direct supertypes'.
use Rattle.std.proofs.Common.{◌≡◌, ℕ, zero, suc, ◌<◌, ◌-◌, Bool, false, Option, Some, None, List, [], ◌∷◌, map, slice_get, if◌then◌else◌, arith, refl, sym, ap, ◌∙◌}
use Rattle.jc_types.specs.declared.form.Ty.{Ty}
use Rattle.jc_types.specs.declared.form.Arg.{Arg}
use Rattle.jc_types.specs.declared.ids.ClassId.{ClassId}
use Rattle.jc_types.specs.declared.table.Table.{Table}
use Rattle.jc_judge.specs.Kinds.{class_of}
use Rattle.jc_types.specs.Accessors.{supers_of}
use Rattle.jc_judge.specs.Views.{view_within, first_of, is_class, supers, class_supers}
use Rattle.jc_sub.specs.Reaching.{super_with}
use Rattle.jc_sub.proofs.Reached.{mapped}

pub view_up : (T : Table) (n : ℕ) (k : ClassId) (t : Ty) → 0 < n → is_class k (class_of t) ≡ false → view_within T n k t ≡ first_of (view_within T (n - 1) k) (supers T t)
view_up T zero k t lt e = absurd (omega arith)
view_up T (suc n) k t lt e =
    let less : n ≡ suc n - 1 = omega arith in
    ap (λ (b : Bool). if b then Some t else first_of (view_within T n k) (supers T t)) e ∙ ap (λ m. first_of (view_within T m k) (supers T t)) less

abbrev mapped_one : (Ty → Ty) → Option Ty → Option Ty
mapped_one g None = None
mapped_one g (Some t) = Some (g t)

get_map : (g : Ty → Ty) (ts : List Ty) (i : ℕ) → slice_get (map g ts) i ≡ mapped_one g (slice_get ts i)
get_map g [] i = refl
get_map g (t ∷ ts) zero = refl
get_map g (t ∷ ts) (suc i) = get_map g ts i

-- one of the supertypes
pub super_got : (T : Table) (i : ClassId) (o : Option (List Arg)) (n : ℕ) (t : Ty) → Some t ≡ slice_get (supers_of T i) n → Some (super_with T i o t) ≡ slice_get (class_supers T i o) n
super_got T i o n t e = ap (mapped_one (super_with T i o)) e ∙ sym (get_map (super_with T i o) (supers_of T i) n) ∙ ap (λ ts. slice_get ts n) (sym (mapped T i o))

pub super_missed : (T : Table) (i : ClassId) (o : Option (List Arg)) (n : ℕ) → None ≡ slice_get (supers_of T i) n → None ≡ slice_get (class_supers T i o) n
super_missed T i o n e = ap (mapped_one (super_with T i o)) e ∙ sym (get_map (super_with T i o) (supers_of T i) n) ∙ ap (λ ts. slice_get ts n) (sym (mapped T i o))
