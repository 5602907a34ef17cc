-- Lists that agree at each place, and class types with the same parts.
use Rattle.std.proofs.Common.{◌≡◌, ◌↔◌, ℕ, suc, ◌<◌, List, [], ◌∷◌, length, slice_get, arith, refl, ap, sym, ◌∙◌}
use Rattle.jc_types.specs.declared.form.Ty.{Ty, out-Ty, Ty-F}
use Rattle.jc_types.specs.declared.form.Ty.TheVariants.{Class, outs-Class}
use Rattle.jc_types.specs.declared.form.Arg.{Arg}
use Rattle.jc_types.specs.declared.ids.ClassId.{ClassId}

pub ext_slice_get : {A : Type 0} (xs ys : List A) → length xs ≡ length ys → ((k : ℕ) → k < length xs → slice_get xs k ≡ slice_get ys k) → xs ≡ ys
ext_slice_get [] [] e h = refl
ext_slice_get [] (y ∷ ys) e h = absurd (omega arith)
ext_slice_get (x ∷ xs) [] e h = absurd (omega arith)
ext_slice_get (x ∷ xs) (y ∷ ys) e h =
    let head : slice_get (x ∷ xs) 0 ≡ slice_get (y ∷ ys) 0 = h 0 (omega arith) in
    let tail : xs ≡ ys = ext_slice_get xs ys (omega arith) (λ k lt. h (suc k) (omega arith)) in
    cc

pub class_args_same : (i j : ClassId) (xs ys : List Arg) → Class i xs ≡ Class j ys → xs ≡ ys
class_args_same i j xs ys e =
    let opened : Ty-F.Class i xs ≡ Ty-F.Class j ys = sym (outs-Class i xs) ∙ ap out-Ty e ∙ outs-Class j ys in
    cc

pub class_same : (a b : Ty) (i j : ClassId) (xs ys : List Arg) → a ≡ Class i xs → b ≡ Class j ys → i ≡ j → (xs ≡ ys) ↔ (a ≡ b)
class_same a b i j xs ys ea eb ei = (λ e. cc, λ e. class_args_same i j xs ys (sym ea ∙ e ∙ eb))
