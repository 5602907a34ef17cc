-- The least break of a class.
use Rattle.std.proofs.lemmas.Bool.Decides.{nat_tests}
use Rattle.std.proofs.Common.{◌≡◌, ℕ, suc, ◌+◌, arith, Bool, true, false, not, ◌&&◌, ◌||◌, cond, Option, Some, None, List, [], ◌∷◌, ◌++◌, length, if◌then◌else◌, add-one, refl, sym, ap, ◌∙◌}
use Rattle.std.specs.List.{list_any}
use Rattle.std.proofs.lemmas.Bool.{or_parts}
use Rattle.jc_rules.proofs.Truths.{and_none}
use Rattle.jc_rules.specs.declared.rule.Place.{Place}
use Rattle.jc_rules.specs.declared.rule.Refusal.{Refusal}
use Rattle.jc_types.specs.declared.declarations.MethodDecl.{MethodDecl}
use Rattle.jc_types.specs.declared.ids.ClassId.{ClassId}
use Rattle.jc_types.specs.declared.ids.MethodId.{MethodId}
use Rattle.jc_types.specs.declared.table.Table.{Table}
use Rattle.jc_types.specs.Breaks.{before, least, sooner}
use Rattle.jc_types.proofs.Least.{before_trans}
use Rattle.jc_judge.specs.declared.question.Answer.{Answer}
use Rattle.jc_judge.specs.declared.question.Answer.TheVariants.{Yes, No, Deep}
use Rattle.jc_judge.specs.Trees.{both}
use Rattle.jc_judge.specs.Views.{view}
use Rattle.jc_overriding.specs.Overriding.{is_above, is_inheritable, is_instance, is_viewed, overrides, owner, same_class, select, is_abstract}
use Rattle.jc_overriding.specs.Viewing.{own_type}
use Rattle.jc_header_rules.specs.Inheriting.{agreement_broken, is_left_open, is_member_above, is_none, is_overridden_above, leaves_open}
use Rattle.jc_header_rules.specs.Places.{broken_if}
use Rattle.jc_method_rules.specs.Owned.{ids_of, is_standing, picked, standing, stands_in}
use Rattle.jc_class_rules.specs.Grouping.{no_if}
use Rattle.jc_class_rules.specs.Lasting.{has_over}

-- a break that doesn't come first changes nothing
later : (found : Option Refusal) (b c : Refusal) → before c b ≡ false → sooner (sooner found (Some b)) (Some c) ≡ sooner found (Some b)
later None b c e = ap (λ t. if t then Some c else Some b) e
later (Some a) b c e = by (before b a) refl
  where
    by : (t : Bool) → before b a ≡ t → sooner (if t then Some b else Some a) (Some c) ≡ (if t then Some b else Some a)
    by true f = ap (λ t. if t then Some c else Some b) e
    by false f = ap (λ t. if t then Some c else Some a) (before_trans a b c f e)

abbrev at : ℕ → Place → Refusal
at rule place = record { rule = rule; place = place; have = 0 }

again : (place : Place) → before (at 511 place) (at 511 place) ≡ false
again place = grind (arith, nat_tests)

behind : (place : Place) → before (at 512 place) (at 511 place) ≡ false
behind place = grind (arith, nat_tests)

pub agreement_least : (found : Option Refusal) (d : Bool) (a : Answer) (place : Place) → least found (agreement_broken (both (no_if d) a) place) ≡ least found (broken_if d 511 place ++ agreement_broken a place)
agreement_least found false a place = refl
agreement_least found true Yes place = refl
agreement_least found true No place = sym (later found (at 511 place) (at 511 place) (again place))
agreement_least found true Deep place = sym (later found (at 511 place) (at 512 place) (behind place))

-- ---- methods of classes that aren't above: they are left open by none, and override nothing there

module _ (T : Table) (k : ClassId) where
  not_above : (m : MethodId) → stands_in T k m ≡ false → is_member_above T k m ≡ false
  not_above m out =
      let apart = or_parts (same_class (owner T m) k) (is_viewed (view T (owner T m) (own_type T k))) out in
      ap (λ b. b || (is_above T k (owner T m) && is_inheritable T k m)) apart.0 ∙ ap (λ b. not (same_class k (owner T m)) && b && is_inheritable T k m) apart.1
      ∙ ap (λ b. b && is_inheritable T k m) (and_none (not (same_class k (owner T m))))

  not_open : (m : MethodId) → stands_in T k m ≡ false → is_left_open T k m ≡ false
  not_open m out =
      ap (λ b. is_instance T m && is_abstract T m && b && is_none (select T k m) && not (is_overridden_above T k m 0 T.methods)) (not_above m out)
      ∙ ap (λ b. b && is_none (select T k m) && not (is_overridden_above T k m 0 T.methods)) (and_none (is_instance T m && is_abstract T m))

  not_over : (m w : MethodId) → stands_in T k w ≡ false → has_over T k m w ≡ false
  unfolding has_over
  not_over m w out = ap (λ b. b && overrides T w m) (not_above w out)

  -- a test that no such method passes, of those that stand in the class, is one of all methods
  module _ (f : MethodId → Bool) (g : ℕ → List MethodDecl → Bool) (none : (i : ℕ) → g i [] ≡ false) (some : (i : ℕ) (d : MethodDecl) (ds : List MethodDecl) → g i (d ∷ ds) ≡ (f (record { 0 = i }) || g (i + 1) ds))
      (apart : (m : MethodId) → stands_in T k m ≡ false → f m ≡ false) where
    any_from : (i : ℕ) (ds : List MethodDecl) → list_any f (ids_of (picked (is_standing T k) i (length ds))) ≡ g i ds
    any_from i [] = sym (none i)
    any_from i (d ∷ ds) = by (is_standing T k i) refl (any_from (suc i) ds ∙ ap (λ j. g j ds) (sym (add-one i))) ∙ sym (some i d ds)
      where
        by : (b : Bool) → is_standing T k i ≡ b → list_any f (ids_of (picked (is_standing T k) (suc i) (length ds))) ≡ g (i + 1) ds
            → list_any f (ids_of (cond b (i ∷ []) [] ++ picked (is_standing T k) (suc i) (length ds))) ≡ (f (record { 0 = i }) || g (i + 1) ds)
        by true e r = ap (λ b. f (record { 0 = i }) || b) r
        by false e r = r ∙ ap (λ b. b || g (i + 1) ds) (sym (apart (record { 0 = i }) e))

pub open_told : (T : Table) (k : ClassId) (all : List MethodId) (r : Bool) → all ≡ standing T k → r ≡ list_any (is_left_open T k) all → r ≡ leaves_open T k 0 T.methods
open_told T k all r e f =
    f ∙ ap (list_any (is_left_open T k)) e ∙ any_from T k (is_left_open T k) (leaves_open T k) (λ i. refl) (λ i d ds. refl) (not_open T k) 0 T.methods

pub over_told : (T : Table) (k : ClassId) (m : MethodId) (all : List MethodId) (r : Bool) → all ≡ standing T k → r ≡ list_any (has_over T k m) all → r ≡ is_overridden_above T k m 0 T.methods
unfolding has_over
over_told T k m all r e f =
    f ∙ ap (list_any (has_over T k m)) e ∙ any_from T k (has_over T k m) (is_overridden_above T k m) (λ i. refl) (λ i d ds. refl) (not_over T k m) 0 T.methods
