-- Types of descriptors by their dimensions.
use Rattle.std.proofs.Common.{◌≡◌, ◌≢◌, ◌<◌, ◌≤◌, ◌+◌, ◌==◌, ℕ, suc, Bool, true, false, List, [], ◌∷◌, length, drop, get_or, refl, sym, ap, ◌∙◌, arith, add-one, if◌then◌else◌}
use Rattle.std.proofs.lemmas.Bool.Decides.{nat_tests}
use Rattle.std.proofs.lemmas.List.{drop_all}
use Rattle.std.proofs.Math.Seq.{drop-cons}
use Rattle.std.specs.Option.{option_map}
use Rattle.std.specs.declared.option.Option.{Option}
use Rattle.std.specs.declared.option.Option.TheVariants.{Some, None}
use Rattle.jc_class_out.specs.declared.model.ClassModel.{ClassModel}
use Rattle.jc_jvm.specs.Types.{deeper, shape_of_descriptor}
use Rattle.jc_jvm.specs.declared.value.Shape.{Shape}
use Rattle.jc_lookups.specs.Deepened.{deepened, bare_shape}

deepened-none : (shape : Option Shape) → deepened 0 shape ≡ shape
deepened-none (Some s) = ap (λ (n : ℕ). let t : Shape = record s { dims = n } in Some t) (let e : s.dims + 0 ≡ s.dims = omega arith in e)
deepened-none None = refl

deepened-more : (n : ℕ) (shape : Option Shape) → deepened n (option_map deeper shape) ≡ deepened (n + 1) shape
deepened-more n (Some s) = ap (λ (m : ℕ). let t : Shape = record s { dims = m } in Some t) (let e : s.dims + 1 + n ≡ s.dims + (n + 1) = omega arith in e)
deepened-more n None = refl

of_cons : (classes : List ClassModel) (u : ℕ) (us : List ℕ) → shape_of_descriptor classes (u ∷ us) ≡ (if u == 91 then option_map deeper (shape_of_descriptor classes us) else bare_shape classes u us)
unfolding shape_of_descriptor
of_cons classes u us = refl

of_nothing : (classes : List ClassModel) → shape_of_descriptor classes [] ≡ None
unfolding shape_of_descriptor
of_nothing classes = refl

-- one dimension more
pub one_deeper : (classes : List ClassModel) (d : List ℕ) (i : ℕ) (whole : Option Shape) → i < length d → get_or d i 0 ≡ 91 →
    deepened i (shape_of_descriptor classes (drop i d)) ≡ whole → deepened (i + 1) (shape_of_descriptor classes (drop (i + 1) d)) ≡ whole
one_deeper classes d i whole inside is e =
    let same : (get_or d i 0 == 91) ≡ true = grind (arith, nat_tests) in
    let at : shape_of_descriptor classes (drop i d) ≡ option_map deeper (shape_of_descriptor classes (drop (suc i) d)) =
    ap (λ (us : List ℕ). shape_of_descriptor classes us) (drop-cons d i 0 inside) ∙ of_cons classes (get_or d i 0) (drop (suc i) d)
    ∙ ap (λ (b : Bool). if b then option_map deeper (shape_of_descriptor classes (drop (suc i) d)) else bare_shape classes (get_or d i 0) (drop (suc i) d)) same in
    let next : i + 1 ≡ suc i = omega arith in
    ap (λ (n : ℕ). deepened (i + 1) (shape_of_descriptor classes (drop n d))) next
    ∙ sym (deepened-more i (shape_of_descriptor classes (drop (suc i) d)))
    ∙ ap (λ (s : Option Shape). deepened i s) (sym at)
    ∙ e

-- the element type
pub bare_at : (classes : List ClassModel) (d : List ℕ) (i : ℕ) (whole : Option Shape) → i < length d → get_or d i 0 ≢ 91 →
    deepened i (shape_of_descriptor classes (drop i d)) ≡ whole → deepened i (bare_shape classes (get_or d i 0) (drop (i + 1) d)) ≡ whole
bare_at classes d i whole inside is e =
    let other : (get_or d i 0 == 91) ≡ false = grind (arith, nat_tests) in
    let at : shape_of_descriptor classes (drop i d) ≡ bare_shape classes (get_or d i 0) (drop (suc i) d) =
    ap (λ (us : List ℕ). shape_of_descriptor classes us) (drop-cons d i 0 inside) ∙ of_cons classes (get_or d i 0) (drop (suc i) d)
    ∙ ap (λ (b : Bool). if b then option_map deeper (shape_of_descriptor classes (drop (suc i) d)) else bare_shape classes (get_or d i 0) (drop (suc i) d)) other in
    rw add-one (ap (λ (s : Option Shape). deepened i s) (sym at) ∙ e)

-- nothing but dimensions
pub no_element : (classes : List ClassModel) (d : List ℕ) (i : ℕ) (whole : Option Shape) → length d ≤ i → deepened i (shape_of_descriptor classes (drop i d)) ≡ whole → None ≡ whole
no_element classes d i whole all e =
    let gone : drop i d ≡ [] = drop_all i d all in
    ap (λ (s : Option Shape). deepened i s) (sym (ap (λ (us : List ℕ). shape_of_descriptor classes us) gone ∙ of_nothing classes)) ∙ e

-- before anything
pub begins : (classes : List ClassModel) (d : List ℕ) → deepened 0 (shape_of_descriptor classes d) ≡ shape_of_descriptor classes d
begins classes d = deepened-none (shape_of_descriptor classes d)
