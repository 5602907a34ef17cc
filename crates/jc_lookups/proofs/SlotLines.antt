-- Marks of instance fields, as loops make them.
use Rattle.std.proofs.Common.{◌≡◌, ℕ, ◌+◌, ◌-◌, ◌==◌, ◌&&◌, List, [], ◌∷◌, ◌++◌, Bool, cond, nat_lt, map, filter, position, length, not, refl, sym, ap, ◌∙◌, arith}
use Rattle.std.proofs.lemmas.List.{length-map}
use Rattle.std.specs.List.{flat_map, position_or_len}
use Rattle.std.specs.declared.option.Option.TheVariants.{Some, None}
use Rattle.jc_class_out.specs.declared.model.ClassModel.{ClassModel}
use Rattle.jc_class_out.specs.declared.model.FieldModel.{FieldModel}
use Rattle.jc_jvm.specs.Classes.{own_fields, fields_of, is_field, is_static_field}
use Rattle.jc_lookups.specs.FieldMarks.{own_marks}

own-marks : (class : ℕ) (name descriptor : List ℕ) (k : ℕ) (fields : List FieldModel) (rest : List (ℕ × FieldModel)) →
    map (λ (s : ℕ × FieldModel). (s.0 == class) && is_field name descriptor s.1) (map (λ (f : FieldModel). (k, f)) fields ++ rest)
    ≡ map (λ (f : FieldModel). (k == class) && is_field name descriptor f) fields ++ map (λ (s : ℕ × FieldModel). (s.0 == class) && is_field name descriptor s.1) rest
own-marks class name descriptor k [] rest = refl
own-marks class name descriptor k (f ∷ fs) rest = ap (λ (more : List Bool). ((k == class) && is_field name descriptor f) ∷ more) (own-marks class name descriptor k fs rest)

marks-flat : (classes : List ClassModel) (class : ℕ) (name descriptor : List ℕ) (ks : List ℕ) →
    flat_map (λ k. own_marks (k == class) name descriptor (fields_of classes k)) ks ≡ map (λ (s : ℕ × FieldModel). (s.0 == class) && is_field name descriptor s.1) (flat_map (own_fields classes) ks)
marks-flat classes class name descriptor [] = refl
marks-flat classes class name descriptor (k ∷ ks) =
    ap (λ (more : List Bool). own_marks (k == class) name descriptor (fields_of classes k) ++ more) (marks-flat classes class name descriptor ks)
    ∙ sym (own-marks class name descriptor k (filter (λ f. not (is_static_field f)) (fields_of classes k)) (flat_map (own_fields classes) ks))

marks-place : {A : Type 0} (f : A → Bool) (xs : List A) → position_or_len (λ (b : Bool). b) (map f xs) ≡ position_or_len f xs
marks-place f [] = refl
marks-place f (x ∷ xs) = ap (λ (n : ℕ). cond (not (f x)) (1 + n) 0) (marks-place f xs)

position-by : {A : Type 0} (f : A → Bool) (xs : List A) → position (λ (b : Bool). b) (map f xs) ≡ position f xs
position-by f xs =
    ap (λ (n : ℕ). cond (nat_lt n (length (map f xs))) (Some n) None) (marks-place f xs)
    ∙ ap (λ (n : ℕ). cond (nat_lt (position_or_len f xs) n) (Some (position_or_len f xs)) None) (length-map xs f)

-- the first mark is where the field stands
pub marks_flat : (classes : List ClassModel) (class : ℕ) (name descriptor : List ℕ) (ks : List ℕ) →
    position (λ (b : Bool). b) (flat_map (λ k. own_marks (k == class) name descriptor (fields_of classes k)) ks)
    ≡ position (λ (s : ℕ × FieldModel). (s.0 == class) && is_field name descriptor s.1) (flat_map (own_fields classes) ks)
marks_flat classes class name descriptor ks =
    ap (λ (marks : List Bool). position (λ (b : Bool). b) marks) (marks-flat classes class name descriptor ks)
    ∙ position-by (λ (s : ℕ × FieldModel). (s.0 == class) && is_field name descriptor s.1) (flat_map (own_fields classes) ks)
