-- Fields along superinterfaces and superclasses.
use Rattle.std.proofs.Common.{◌≡◌, ◌<◌, ◌+◌, ◌-◌, ℕ, zero, suc, List, [], ◌∷◌, ◌++◌, position, slice_get, option_and_then, refl, sym, ap, ◌∙◌, arith}
use Rattle.std.specs.List.{filter_map, cons_option}
use Rattle.std.specs.Option.{option_map}
use Rattle.std.specs.declared.option.Option.{Option}
use Rattle.std.specs.declared.option.Option.TheVariants.{Some, None}
use Rattle.jc_class_out.specs.declared.model.ClassModel.{ClassModel}
use Rattle.jc_jvm.specs.Classes.{class_named, or_else, listed, first_some, is_field, fields_of, interfaces_of, super_of, field_on}
use Rattle.jc_lookups.specs.Interfaces.{interface_names, among_names}

pub or_else-assoc : {A : Type 0} (x y z : Option A) → or_else (or_else x y) z ≡ or_else x (or_else y z)
or_else-assoc (Some a) y z = refl
or_else-assoc None y z = refl

pub or_else-none : {A : Type 0} (x : Option A) → or_else x None ≡ x
or_else-none (Some a) = refl
or_else-none None = refl

name_case : {A : Type 0} (f : ℕ → Option A) (y : Option ℕ) (ys zs : List ℕ) (more : Option A) → first_some f (ys ++ zs) ≡ or_else more (first_some f zs) →
    first_some f (cons_option y ys ++ zs) ≡ or_else (or_else (option_and_then f y) more) (first_some f zs)
name_case f (Some k) ys zs more e = ap (λ o. or_else (f k) o) e ∙ sym (or_else-assoc (f k) more (first_some f zs))
name_case f None ys zs more e = e

by_names : {A : Type 0} (f : ℕ → Option A) (named : List ℕ → Option ℕ) (xs : List (List ℕ)) (zs : List ℕ) →
    first_some f (filter_map named xs ++ zs) ≡ or_else (among_names f named xs) (first_some f zs)
by_names f named [] zs = refl
by_names f named (x ∷ xs) zs = name_case f (named x) (filter_map named xs) zs (among_names f named xs) (by_names f named xs zs)

listed_case : {A : Type 0} (f : ℕ → Option A) (o : Option ℕ) → first_some f (listed o) ≡ option_and_then f o
listed_case f (Some k) = or_else-none (f k)
listed_case f None = refl

names_case : (classes : List ClassModel) (c : Option ClassModel) →
    (elim c [ Some x ↦ filter_map (class_named classes) x.interfaces | None ↦ [] ]) ≡ filter_map (class_named classes) (elim c [ Some x ↦ x.interfaces | None ↦ [] ])
names_case classes (Some c) = refl
names_case classes None = refl

-- what is found above a class
abbrev pub above_on : List ClassModel → List ℕ → List ℕ → ℕ → ℕ → Option (ℕ × ℕ)
above_on classes name descriptor n k =
    or_else (among_names (field_on classes name descriptor n) (class_named classes) (interface_names classes k)) (option_and_then (field_on classes name descriptor n) (super_of classes k))

pub field_on-suc : (classes : List ClassModel) (name descriptor : List ℕ) (n k : ℕ) →
    field_on classes name descriptor (suc n) k ≡ or_else (option_map (λ (i : ℕ). (k, i)) (position (is_field name descriptor) (fields_of classes k))) (above_on classes name descriptor n k)
unfolding field_on
field_on-suc classes name descriptor n k =
    let f : ℕ → Option (ℕ × ℕ) = field_on classes name descriptor n in
    let above : first_some f (interfaces_of classes k ++ listed (super_of classes k)) ≡ above_on classes name descriptor n k =
    ap (λ (ks : List ℕ). first_some f (ks ++ listed (super_of classes k))) (names_case classes (slice_get classes k))
    ∙ by_names f (class_named classes) (interface_names classes k) (listed (super_of classes k))
    ∙ ap (λ (o : Option (ℕ × ℕ)). or_else (among_names f (class_named classes) (interface_names classes k)) o) (listed_case f (super_of classes k)) in
    ap (λ (o : Option (ℕ × ℕ)). or_else (option_map (λ (i : ℕ). (k, i)) (position (is_field name descriptor) (fields_of classes k))) o) above

pub field_none : (classes : List ClassModel) (name descriptor : List ℕ) (k : ℕ) → field_on classes name descriptor 0 k ≡ None
unfolding field_on
field_none classes name descriptor k = refl

pub field_more : (classes : List ClassModel) (name descriptor : List ℕ) (n k : ℕ) → 0 < n →
    field_on classes name descriptor n k ≡ or_else (option_map (λ (i : ℕ). (k, i)) (position (is_field name descriptor) (fields_of classes k))) (above_on classes name descriptor (n - 1) k)
field_more classes name descriptor zero k h = absurd (omega arith)
field_more classes name descriptor (suc n) k h = let e : suc n - 1 ≡ n = omega arith in rw e (field_on-suc classes name descriptor n k)

pub ruleset field_rules = (field_none, field_more)

-- the class itself declares it
pub own_field : (classes : List ClassModel) (name descriptor : List ℕ) (n k i : ℕ) → 0 < n → position (is_field name descriptor) (fields_of classes k) ≡ Some i → Some (k, i) ≡ field_on classes name descriptor n k
own_field classes name descriptor n k i some e =
    sym (field_more classes name descriptor n k some ∙ ap (λ (o : Option ℕ). or_else (option_map (λ (x : ℕ). (k, x)) o) (above_on classes name descriptor (n - 1) k)) e)

-- the class itself doesn't
pub no_own_field : (classes : List ClassModel) (name descriptor : List ℕ) (n k : ℕ) → 0 < n → position (is_field name descriptor) (fields_of classes k) ≡ None → field_on classes name descriptor n k ≡ above_on classes name descriptor (n - 1) k
no_own_field classes name descriptor n k some e =
    field_more classes name descriptor n k some ∙ ap (λ (o : Option ℕ). or_else (option_map (λ (x : ℕ). (k, x)) o) (above_on classes name descriptor (n - 1) k)) e
