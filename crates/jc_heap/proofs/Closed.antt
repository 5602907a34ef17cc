-- Direct supertypes are numbers of classes, and what is found above a class answers what stands below what.
use Rattle.std.proofs.Common.{◌≡◌, ◌-◌, ◌⊎◌, inl, inr, ◌<◌, ◌≤◌, ◌∙◌, ◌||◌, ◌==◌, ◌++◌, ◌∷◌, [], ℕ, zero, suc, Bool, true, false, List, length, slice_get, refl, sym, ap, subst, arith, option_and_then}
use Rattle.std.proofs.lemmas.List.{length-map}
use Rattle.std.proofs.lemmas.List.Quantifiers.{position-Some}
use Rattle.std.proofs.lemmas.Option.{slice_get-map, slice_get_past}
use Rattle.std.specs.List.{cons_option, filter_map, list_any}
use Rattle.std.specs.Option.{option_map}
use Rattle.std.specs.Str.{bytes_eq}
use Rattle.std.specs.declared.option.Option.{Option}
use Rattle.std.specs.declared.option.Option.TheVariants.{Some, None}
use Rattle.jc_class_out.specs.declared.model.ClassModel.{ClassModel}
use Rattle.jc_jvm.specs.Classes.{class_named, is_class_below, listed, super_of}
use Rattle.jc_heap.proofs.Below.{below_by-none, below_by-suc, below_by_all}
use Rattle.jc_heap.specs.Above.{AllAbove, IsClosed, IsIn}
use Rattle.jc_heap.specs.Supers.{all_parents, all_supers, below_by, parent_in, supers_at, supers_in}

named_within : (classes : List ClassModel) (name : List ℕ) (b : ℕ) → class_named classes name ≡ Some b → b < length classes
named_within [] name b e = cc
named_within (c ∷ cs) name b e = (position-Some (λ (x : ClassModel). bytes_eq x.name name) (c ∷ cs) b c e).0

super_within : (classes : List ClassModel) (o : Option (List ℕ)) (b : ℕ) → IsIn b (listed (option_and_then (class_named classes) o)) → b < length classes
super_within classes None b i = absurd i
super_within classes (Some name) b i = by (class_named classes name) refl i
  where
    by : (o : Option ℕ) → class_named classes name ≡ o → IsIn b (listed o) → b < length classes
    by None e i = absurd i
    by (Some x) e (inl s) = named_within classes name b (e ∙ ap Some (sym s))
    by (Some x) e (inr i) = absurd i

names_within : (classes : List ClassModel) (names : List (List ℕ)) (b : ℕ) → IsIn b (filter_map (class_named classes) names) → b < length classes
names_within classes [] b i = absurd i
names_within classes (name ∷ names) b i = by (λ i. names_within classes names b i) (class_named classes name) refl i
  where
    by : (IsIn b (filter_map (class_named classes) names) → b < length classes) → (o : Option ℕ) → class_named classes name ≡ o → IsIn b (cons_option o (filter_map (class_named classes) names)) → b < length classes
    by more None e i = more i
    by more (Some x) e (inl s) = named_within classes name b (e ∙ ap Some (sym s))
    by more (Some x) e (inr i) = more i

in_parts : (x : ℕ) (xs ys : List ℕ) → IsIn x (xs ++ ys) → IsIn x xs ⊎ IsIn x ys
in_parts x [] ys i = inr i
in_parts x (z ∷ xs) ys (inl e) = inl (inl e)
in_parts x (z ∷ xs) ys (inr i) = by (in_parts x xs ys i)
  where
    by : IsIn x xs ⊎ IsIn x ys → IsIn x (z ∷ xs) ⊎ IsIn x ys
    by (inl i) = inl (inr i)
    by (inr i) = inr i

supers_within : (classes : List ClassModel) (c : ClassModel) (b : ℕ) → IsIn b (supers_in classes c) → b < length classes
supers_within classes c b i = by (in_parts b (listed (option_and_then (class_named classes) c.superclass)) (filter_map (class_named classes) c.interfaces) i)
  where
    by : IsIn b (listed (option_and_then (class_named classes) c.superclass)) ⊎ IsIn b (filter_map (class_named classes) c.interfaces) → b < length classes
    by (inl i) = super_within classes c.superclass b i
    by (inr i) = names_within classes c.interfaces b i

supers_by : List ClassModel → Option ClassModel → List ℕ
supers_by classes (Some c) = supers_in classes c
supers_by classes None = []

at_some : (classes : List ClassModel) (o : Option ClassModel) → (elim (option_map (supers_in classes) o) [ Some row ↦ row | None ↦ [] ]) ≡ supers_by classes o
unfolding supers_by
at_some classes (Some c) = refl
at_some classes None = refl

supers_at-by : (classes : List ClassModel) (a : ℕ) → supers_at (all_supers classes) a ≡ supers_by classes (slice_get classes a)
unfolding all_supers
supers_at-by classes a = ap (λ (o : Option (List ℕ)). elim o [ Some row ↦ row | None ↦ [] ]) (slice_get-map (supers_in classes) classes a) ∙ at_some classes (slice_get classes a)

pub as_many : (classes : List ClassModel) → length (all_supers classes) ≡ length classes
unfolding all_supers
as_many classes = length-map classes (supers_in classes)

pub closed_supers : (classes : List ClassModel) → IsClosed (all_supers classes)
unfolding supers_by
closed_supers classes a b i = subst (λ (n : ℕ). b < n) (sym (as_many classes)) (by (slice_get classes a) (subst (IsIn b) (supers_at-by classes a) i))
  where
    by : (o : Option ClassModel) → IsIn b (supers_by classes o) → b < length classes
    by (Some c) i = supers_within classes c b i
    by None i = absurd i

-- a class that is there
pub answer_in : (classes : List ClassModel) (above : List (List ℕ)) (k w : ℕ) (row : List ℕ) → AllAbove (all_supers classes) above → slice_get above k ≡ Some row → list_any (λ (y : ℕ). y == w) row ≡ is_class_below classes k w
answer_in classes above k w row h e =
    h.each k row e w ∙ ap (λ (n : ℕ). below_by (all_supers classes) n w k) (as_many classes) ∙ below_by_all classes (length classes) w k

past : {A : Type 0} (xs : List A) (k : ℕ) → slice_get xs k ≡ None → length xs ≤ k
past [] k e = omega arith
past (x ∷ xs) zero e = cc
past (x ∷ xs) (suc k) e = let h = past xs k e in omega (arith, h)

beyond_by : (classes : List ClassModel) (n k w : ℕ) → supers_at (all_supers classes) k ≡ [] → below_by (all_supers classes) (suc n) w k ≡ (k == w)
beyond_by classes n k w none =
    below_by-suc (all_supers classes) n w k ∙ ap (λ (row : List ℕ). (k == w) || list_any (below_by (all_supers classes) n w) row) none ∙ or_no (k == w)
  where
    or_no : (b : Bool) → (b || false) ≡ b
    or_no true = refl
    or_no false = refl

-- one that isn't
pub answer_out : (classes : List ClassModel) (above : List (List ℕ)) (k w : ℕ) → AllAbove (all_supers classes) above → slice_get above k ≡ None → 0 < length classes → (k == w) ≡ is_class_below classes k w
unfolding supers_by
answer_out classes above k w h none some =
    sym (ap (λ (n : ℕ). below_by (all_supers classes) n w k) (let e : length classes ≡ suc (length classes - 1) = omega (arith, some) in e) ∙ beyond_by classes (length classes - 1) k w nothing)
    ∙ below_by_all classes (length classes) w k
  where
    far : length classes ≤ k
    far = let m = past above k none in let n = h.count in let l = as_many classes in omega (arith, m, n, l)

    nothing : supers_at (all_supers classes) k ≡ []
    nothing = supers_at-by classes k ∙ ap (λ (o : Option ClassModel). supers_by classes o) (slice_get_past classes k far)

pub answer_empty : (classes : List ClassModel) (k w : ℕ) → length classes ≡ 0 → false ≡ is_class_below classes k w
answer_empty classes k w e =
    sym (ap (λ (n : ℕ). below_by (all_supers classes) n w k) e ∙ below_by-none (all_supers classes) w k) ∙ below_by_all classes (length classes) w k

pub ruleset below_rules = (answer_in, answer_out, answer_empty)

-- ---- superclasses

parents_by : (classes : List ClassModel) (o : Option ClassModel) (p : Option ℕ) → option_map (parent_in classes) o ≡ Some p → p ≡ option_and_then (parent_in classes) o
parents_by classes (Some c) p e = let same : parent_in classes c ≡ p = cc in sym same
parents_by classes None p e = cc

no_parents_by : (classes : List ClassModel) (o : Option ClassModel) → option_map (parent_in classes) o ≡ None → None ≡ option_and_then (parent_in classes) o
no_parents_by classes (Some c) e = cc
no_parents_by classes None e = refl

pub parent_there : (classes : List ClassModel) (k : ℕ) (p : Option ℕ) → slice_get (all_parents classes) k ≡ Some p → p ≡ super_of classes k
unfolding all_parents
parent_there classes k p e = parents_by classes (slice_get classes k) p (sym (slice_get-map (parent_in classes) classes k) ∙ e)

pub parent_nowhere : (classes : List ClassModel) (k : ℕ) → slice_get (all_parents classes) k ≡ None → None ≡ super_of classes k
unfolding all_parents
parent_nowhere classes k e = no_parents_by classes (slice_get classes k) (sym (slice_get-map (parent_in classes) classes k) ∙ e)

pub ruleset parent_rules = (parent_there, parent_nowhere)
