-- How much is seen in layers.
use Rattle.std.proofs.Common.{◌≡◌, ◌<◌, ◌+◌, ℕ, suc, add-one, drop, drop-cons, get_or, length, Bool, true, false, List, [], ◌∷◌, ◌++◌, Option, Some, None, refl, sym, ap, ◌∙◌, arith}
use Rattle.std.proofs.lemmas.Grind.{common_steps}
use Rattle.std.specs.Prelude.{◌==◌, ◌||◌, cond, codes, if◌then◌else◌}
use Rattle.std.specs.Str.{bytes_eq}
use Rattle.jc_types.specs.Names.{named}
use Rattle.jc_declares.specs.declared.heads.Heads.{Heads}
use Rattle.jc_declares.specs.declared.heads.ImportHead.{ImportHead}
use Rattle.jc_declares.specs.Heads.{Named, unit_package, imports_of, declared_of, class_variables, types_of_unit, types_of_package}
use Rattle.jc_declares.specs.Looking.{Asker, Meaning, AClass, AVariable, Look, Knowledge, Found, InPackage, AtClass, Nowhere, imported, singles, open_class, demanded, demanded_by, has, once, classes, one_class, one_variable, or_next, in_unit, all_named, inherits, in_class, in_classes, member}
use Rattle.jc_imports.specs.Imported.{demand_of, demands_of}
use Rattle.jc_looking.specs.declared.scene.Sight.{Sight}
use Rattle.jc_looking.specs.declared.scene.Sight.TheVariants as sight
use Rattle.jc_looking.specs.Sights.{seen, sight_of, class_sight, variable_sight, next, is_found, with_class, gathered, open_in, open_in_all, unit_asker, on_demand_sight}

next_seen : (ms : List Meaning) (o : Look) → seen (or_next ms o) ≡ next (sight_of ms) (seen o)
next_seen [] o = refl
next_seen (AClass c ∷ []) o = refl
next_seen (AVariable v ∷ []) o = refl
next_seen (m ∷ n ∷ ms) o = refl

pub class_next : (c : Option ℕ) (o : Look) → seen (or_next (one_class c) o) ≡ next (class_sight c) (seen o)
class_next None o = refl
class_next (Some c) o = refl

pub variable_seen : (v : Option ℕ) (o : Look) → seen (or_next (one_variable v) o) ≡ next (variable_sight v) (seen o)
variable_seen None o = refl
variable_seen (Some v) o = refl

pub last_seen : (ms : List Meaning) → or_next ms (Some []) ≡ Some ms
last_seen [] = refl
last_seen (m ∷ ms) = refl

next_next : (r s t : Sight) → next r (next s t) ≡ next (next r s) t
next_next sight.Nothing s t = refl
next_next sight.Asks s t = refl
next_next (sight.Class c) s t = refl
next_next (sight.Variable v) s t = refl
next_next sight.Several s t = refl

inherits_seen : (n : List ℕ) (k : Option Named) (o : Look) → seen (inherits n k o) ≡ next (seen (inherits n k (Some []))) (seen o)
inherits_seen n None o = refl
inherits_seen n (Some es) o = next_seen (classes (all_named n es)) o ∙ ap (λ x. next x (seen o)) (ap seen (sym (last_seen (classes (all_named n es)))))

pub class_seen : (H : Heads) (K : Knowledge) (n : List ℕ) (c : ℕ) (o : Look)
    → seen (in_class H K n c o) ≡ next (class_sight (named n (declared_of H c))) (next (variable_sight (named n (class_variables H c))) (seen (inherits n (K c) o)))
class_seen H K n c o =
    class_next (named n (declared_of H c)) _ ∙ ap (next (class_sight (named n (declared_of H c)))) (variable_seen (named n (class_variables H c)) _)

rest_seen : (a b x y o : Sight) → x ≡ next y o → next a (next b x) ≡ next (next a (next b y)) o
rest_seen a b x y o e = ap (λ z. next a (next b z)) e ∙ ap (next a) (next_next b y o) ∙ next_next a (next b y) o

pub classes_seen : (H : Heads) (K : Knowledge) (n : List ℕ) (u c : ℕ) (cs : List ℕ)
    → seen (in_classes H K n u (c ∷ cs)) ≡ next (seen (in_class H K n c (Some []))) (seen (in_classes H K n u cs))
classes_seen H K n u c cs =
    class_seen H K n c _
    ∙ rest_seen (class_sight (named n (declared_of H c))) (variable_sight (named n (class_variables H c))) _ _ _ (inherits_seen n (K c) _)
    ∙ ap (λ x. next x (seen (in_classes H K n u cs))) (sym (class_seen H K n c (Some [])))

pub member_seen : (H : Heads) (K : Knowledge) (c : ℕ) (n : List ℕ)
    → seen (member H K c n) ≡ next (class_sight (named n (declared_of H c))) (seen (inherits n (K c) (Some [])))
member_seen H K c n = class_next (named n (declared_of H c)) _

next_found : (s t : Sight) → is_found s ≡ true → next s t ≡ s
next_found sight.Nothing t e = cc
next_found sight.Asks t e = refl
next_found (sight.Class c) t e = refl
next_found (sight.Variable v) t e = refl
next_found sight.Several t e = refl

next_nothing : (s t : Sight) → is_found s ≡ false → next s t ≡ t
next_nothing sight.Nothing t e = refl
next_nothing sight.Asks t e = cc
next_nothing (sight.Class c) t e = cc
next_nothing (sight.Variable v) t e = cc
next_nothing sight.Several t e = cc

at_step : (H : Heads) (K : Knowledge) (n : List ℕ) (u : ℕ) (cs : List ℕ) (i : ℕ) → i < length cs
    → seen (in_classes H K n u (drop i cs)) ≡ next (seen (in_class H K n (get_or cs i 0) (Some []))) (seen (in_classes H K n u (drop (i + 1) cs)))
at_step H K n u cs i l = rw (add-one, drop-cons cs i 0) (classes_seen H K n u (get_or cs i 0) (drop (suc i) cs))

pub found_there : (H : Heads) (K : Knowledge) (n : List ℕ) (u : ℕ) (cs : List ℕ) (i : ℕ) → i < length cs → is_found (seen (in_class H K n (get_or cs i 0) (Some []))) ≡ true
    → seen (in_classes H K n u (drop i cs)) ≡ seen (in_class H K n (get_or cs i 0) (Some []))
found_there H K n u cs i l e = at_step H K n u cs i l ∙ next_found _ _ e

pub found_further : (H : Heads) (K : Knowledge) (n : List ℕ) (u : ℕ) (cs : List ℕ) (i : ℕ) → i < length cs → is_found (seen (in_class H K n (get_or cs i 0) (Some []))) ≡ false
    → seen (in_classes H K n u (drop i cs)) ≡ seen (in_classes H K n u (drop (i + 1) cs))
found_further H K n u cs i l e = at_step H K n u cs i l ∙ next_nothing _ _ e

-- ---- the candidates of imports on demand

with_one : (found : List ℕ) (c : ℕ) → sight_of (classes (cond (has c found) found (found ++ c ∷ []))) ≡ with_class (sight_of (classes found)) c
with_one [] c = refl
with_one (d ∷ []) c = same (c == d) (d == c) (swap c d)
  where
    swap : (a b : ℕ) → (a == b) ≡ (b == a)
    swap a b = grind (arith, common_steps)

    same : (p q : Bool) → p ≡ q → sight_of (classes (cond (p || false) (d ∷ []) (d ∷ c ∷ []))) ≡ cond q (sight.Class d) sight.Several
    same true true e = refl
    same false false e = refl
    same true false e = cc
    same false true e = cc
with_one (d ∷ e ∷ ds) c = either (has c (d ∷ e ∷ ds))
  where
    either : (b : Bool) → sight_of (classes (cond b (d ∷ e ∷ ds) (d ∷ e ∷ (ds ++ c ∷ [])))) ≡ sight.Several
    either true = refl
    either false = refl

once_seen : (cs found : List ℕ) → sight_of (classes (once found cs)) ≡ gathered (sight_of (classes found)) cs
once_seen [] found = refl
once_seen (c ∷ cs) found = once_seen cs (cond (has c found) found (found ++ c ∷ [])) ∙ ap (λ s. gathered s cs) (with_one found c)

demand_seen : (b : Bool) (H : Heads) (a : Asker) (n : List ℕ) (f : Found)
    → open_in_all H a n (cond b (f ∷ []) []) ≡ cond b (open_in H a n f) []
demand_seen true H a n f = right (open_in H a n f)
  where
    right : (xs : List ℕ) → (xs ++ []) ≡ xs
    right [] = refl
    right (x ∷ xs) = ap (λ ys. x ∷ ys) (right xs)
demand_seen false H a n f = refl

demanded_is : (b : Bool) (H : Heads) (a : Asker) (n : List ℕ) (i : ImportHead) (f : Found) → i.on_demand ≡ b → demanded_by H a n i f ≡ cond b (open_in H a n f) []
demanded_is b H a n i (InPackage p) e = ap (λ x. cond x (open_class H a (named n (types_of_package H p))) []) e
demanded_is b H a n i (AtClass c) e = ap (λ x. cond x (open_class H a (named n (declared_of H c))) []) e
demanded_is true H a n i Nowhere e = refl
demanded_is false H a n i Nowhere e = refl

open_joined : (H : Heads) (a : Asker) (n : List ℕ) (fs gs : List Found) → open_in_all H a n (fs ++ gs) ≡ open_in_all H a n fs ++ open_in_all H a n gs
open_joined H a n [] gs = refl
open_joined H a n (f ∷ fs) gs = ap (λ xs. open_in H a n f ++ xs) (open_joined H a n fs gs) ∙ sym (joined (open_in H a n f) (open_in_all H a n fs) (open_in_all H a n gs))
  where
    joined : (xs ys zs : List ℕ) → ((xs ++ ys) ++ zs) ≡ xs ++ (ys ++ zs)
    joined [] ys zs = refl
    joined (x ∷ xs) ys zs = ap (λ ws. x ∷ ws) (joined xs ys zs)

demanded_seen : (H : Heads) (a : Asker) (n : List ℕ) (is : List ImportHead) → demanded H a n is ≡ open_in_all H a n (demands_of H is)
demanded_seen H a n [] = refl
demanded_seen H a n (i ∷ is) =
    ap (λ xs. xs ++ demanded H a n is) (demanded_is i.on_demand H a n i (imported H i) refl ∙ sym (demand_seen i.on_demand H a n (imported H i)))
    ∙ ap (λ xs. open_in_all H a n (demand_of i (imported H i)) ++ xs) (demanded_seen H a n is)
    ∙ sym (open_joined H a n (demand_of i (imported H i)) (demands_of H is))

pub unit_seen : (H : Heads) (u : ℕ) (n : List ℕ)
    → seen (in_unit H u n) ≡ next (class_sight (named n (singles H (imports_of H u) ++ types_of_unit H u))) (next (class_sight (named n (types_of_package H (unit_package H u)))) (on_demand_sight H u n))
unit_seen H u n =
    class_next (named n (singles H (imports_of H u) ++ types_of_unit H u)) _
    ∙ ap (next (class_sight (named n (singles H (imports_of H u) ++ types_of_unit H u))))
    (class_next (named n (types_of_package H (unit_package H u))) _
    ∙ ap (next (class_sight (named n (types_of_package H (unit_package H u)))))
    (once_seen (demanded H (unit_asker H u) n (imports_of H u) ++ open_class H (unit_asker H u) (named n (types_of_package H (codes "java.lang")))) [] ∙ ap (λ xs. gathered sight.Nothing (xs ++ open_class H (unit_asker H u) (named n (types_of_package H (codes "java.lang"))))) (demanded_seen H (unit_asker H u) n (imports_of H u))))

-- ---- gathering what is listed

pub gathered_joined : (xs ys : List ℕ) (s : Sight) → gathered s (xs ++ ys) ≡ gathered (gathered s xs) ys
gathered_joined [] ys s = refl
gathered_joined (x ∷ xs) ys s = gathered_joined xs ys (with_class s x)

abbrev pub or_else : Option ℕ → Option ℕ → Option ℕ
or_else (Some c) o = Some c
or_else None o = o

pub named_or : (n : List ℕ) (xs ys : Named) → named n (xs ++ ys) ≡ or_else (named n xs) (named n ys)
named_or n [] ys = refl
named_or n (e ∷ xs) ys = at (bytes_eq n e.0) e.1 (named n (xs ++ ys)) (named n xs) (named n ys) (named_or n xs ys)
  where
    at : (b : Bool) (c : ℕ) (both first second : Option ℕ) → both ≡ or_else first second → (if b then Some c else both) ≡ or_else (if b then Some c else first) second
    at true c both first second h = refl
    at false c both first second h = h
