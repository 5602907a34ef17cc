-- The first type of each class that was met.
use Rattle.std.proofs.Common.{◌≡◌, ℕ, ◌==◌, Bool, true, false, cond, Option, Some, None, List, [], ◌∷◌, ◌++◌, if◌then◌else◌, arith, refl, sym, ap, ◌∙◌}
use Rattle.std.specs.Prelude.{nat_eq}
use Rattle.std.proofs.lemmas.Bool.Decides.{nat_tests}
use Rattle.jc_rules.proofs.Truths.{same_number}
use Rattle.jc_types.specs.declared.form.Ty.{Ty}
use Rattle.jc_types.specs.declared.ids.ClassId.{ClassId}
use Rattle.jc_judge.specs.Kinds.{class_of}
use Rattle.jc_judge.specs.Views.{is_class}
use Rattle.jc_header_rules.specs.Inheriting.{is_of_class}
use Rattle.jc_class_rules.specs.Climbing.{AreFirsts, first_with, met_as}

pub met_none : (met : List Ty) (s : Ty) → class_of s ≡ None → met_as met s ≡ None
met_none [] s e = refl
met_none (v ∷ vs) s e = ap (λ (o : Option ClassId). if is_of_class o v then Some v else met_as vs s) e ∙ met_none vs s e

-- what was met of a class is told by the class
met_same : (met : List Ty) (s u : Ty) → class_of s ≡ class_of u → met_as met s ≡ met_as met u
met_same [] s u e = refl
met_same (v ∷ vs) s u e = ap (λ o. if is_of_class o v then Some v else met_as vs s) e ∙ ap (λ (r : Option Ty). if is_of_class (class_of u) v then Some v else r) (met_same vs s u e)

abbrev last_as : Option Ty → Bool → Ty → Option Ty
last_as (Some v) b s = Some v
last_as None b s = if b then Some s else None

met_push : (met : List Ty) (s u : Ty) → met_as (met ++ s ∷ []) u ≡ last_as (met_as met u) (is_of_class (class_of u) s) s
met_push [] s u = refl
met_push (v ∷ vs) s u = by (is_of_class (class_of u) v) (met_push vs s u)
  where
    by : (b : Bool) → met_as (vs ++ s ∷ []) u ≡ last_as (met_as vs u) (is_of_class (class_of u) s) s → (if b then Some v else met_as (vs ++ s ∷ []) u) ≡ last_as (if b then Some v else met_as vs u) (is_of_class (class_of u) s) s
    by true e = refl
    by false e = e

no_last : (o : Option Ty) (s : Ty) → o ≡ last_as o false s
no_last None s = refl
no_last (Some v) s = refl

same_test : (a b : ℕ) → nat_eq a b ≡ true → (a == b) ≡ true
same_test a b e = grind (arith, nat_tests)

other_test : (a b : ℕ) → nat_eq a b ≡ false → (a == b) ≡ false
other_test a b e = grind (arith, nat_tests)

pub first_more : (old new : ℕ → Option Ty) (met : List Ty) (s : Ty) → AreFirsts old met → met_as met s ≡ None → ((l : ℕ) → new l ≡ first_with old (class_of s) s l) → AreFirsts new (met ++ s ∷ [])
first_more old new met s firsts none put = λ u k e. put k.0 ∙ by_class u k e (class_of s) refl
  where
    of_u : (u : Ty) (k : ClassId) → class_of u ≡ Some k → (b : Bool) → is_class k (class_of s) ≡ b → last_as (met_as met u) b s ≡ met_as (met ++ s ∷ []) u
    of_u u k e b f = ap (λ b. last_as (met_as met u) b s) (sym (ap (λ o. is_of_class o s) e ∙ f)) ∙ sym (met_push met s u)

    by_class : (u : Ty) (k : ClassId) → class_of u ≡ Some k → (o : Option ClassId) → class_of s ≡ o → first_with old o s k.0 ≡ met_as (met ++ s ∷ []) u
    by_class u k e None f = firsts u k e ∙ no_last (met_as met u) s ∙ of_u u k e false (ap (is_class k) f)
    by_class u k e (Some c) f = by (nat_eq c.0 k.0) refl
      where
        by : (b : Bool) → nat_eq c.0 k.0 ≡ b → cond b (Some s) (old k.0) ≡ met_as (met ++ s ∷ []) u
        by true g =
            let class : class_of s ≡ class_of u = f ∙ ap (λ n. let r : Option ClassId = Some (record { 0 = n }) in r) (same_number c.0 k.0 g) ∙ sym e in
            ap (λ o. last_as o true s) (sym none ∙ met_same met s u class) ∙ of_u u k e true (ap (is_class k) f ∙ same_test c.0 k.0 g)
        by false g = firsts u k e ∙ no_last (met_as met u) s ∙ of_u u k e false (ap (is_class k) f ∙ other_test c.0 k.0 g)
