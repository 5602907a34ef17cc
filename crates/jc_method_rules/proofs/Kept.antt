-- Results that are the same in each class, and methods that throw nothing.
use Rattle.std.proofs.Common.{◌≡◌, Bool, true, false, not, ◌||◌, Option, Some, None, [], if◌then◌else◌, refl, ap, ◌∙◌}
use Rattle.std.specs.List.{list_all, list_any}
use Rattle.std.proofs.lemmas.Bool.{and_parts}
use Rattle.jc_types.specs.declared.form.Ty.{Ty}
use Rattle.jc_types.specs.declared.ids.ClassId.{ClassId}
use Rattle.jc_types.specs.declared.ids.MethodId.{MethodId}
use Rattle.jc_types.specs.declared.table.Table.{Table}
use Rattle.jc_types.specs.Accessors.{result_of}
use Rattle.jc_types.specs.Sameness.{same}
use Rattle.jc_judge.specs.declared.question.Answer.TheVariants.{Yes}
use Rattle.jc_judge.specs.Deciding.{answer_of}
use Rattle.jc_judge.specs.Kinds.{is_primitive}
use Rattle.jc_overriding.specs.declared.view.MethodView.{MethodView}
use Rattle.jc_overriding.specs.Signatures.{adapted}
use Rattle.jc_overriding.specs.Viewing.{class_view}
use Rattle.jc_header_rules.specs.Headers.{answer_of_views, views_throw}
use Rattle.jc_header_rules.specs.Results.{answer_by, converts_unchecked, is_unchecked, is_within, reference_answer, thrown_class, type_answer, yes_if}
use Rattle.jc_members.specs.Fixed.{is_own_erasure}
use Rattle.jc_members.proofs.Unchanged.{keeps_at, own_erased, result_kept}
use Rattle.jc_method_rules.specs.Pairs.{keeps_result}

own_result : (T : Table) (s t : Option Ty) → keeps_result T s t ≡ true → keeps_at T t ≡ true
own_result T None None e = refl
own_result T None (Some t) e = cc
own_result T (Some s) None e = cc
own_result T (Some s) (Some t) e = (and_parts (same s t) (is_own_erasure T t) e).1

module _ (T : Table) (a b : MethodView) where
  type_kept : (s t : Ty) → same s t ≡ true → is_own_erasure T t ≡ true → type_answer T a b s t ≡ Yes
  type_kept s t e f = by (is_primitive s || is_primitive t)
    where
      by : (p : Bool) → (if p then yes_if (same s t) else reference_answer T a b s t) ≡ Yes
      by true = ap yes_if e
      by false = ap (λ c. if c || converts_unchecked T s (adapted a b t) then Yes else answer_of T 64 [] s (adapted a b t)) (ap (same s) (own_erased T b t f) ∙ e)

  answer_kept : (s t : Option Ty) → keeps_result T s t ≡ true → answer_by T a b s t ≡ Yes
  answer_kept None None e = refl
  answer_kept None (Some t) e = cc
  answer_kept (Some s) None e = cc
  answer_kept (Some s) (Some t) e = let both = and_parts (same s t) (is_own_erasure T t) e in type_kept s t both.0 both.1

pub answer_told : (T : Table) (k : ClassId) (a : MethodView) (n : MethodId) → keeps_result T a.result (result_of T n) ≡ true → answer_of_views T (Some a) (class_view T k n) ≡ Yes
answer_told T k a n e = by (class_view T k n) refl
  where
    by : (o : Option MethodView) → class_view T k n ≡ o → answer_of_views T (Some a) o ≡ Yes
    by None is = refl
    by (Some b) is = ap (answer_by T a b a.result) (result_kept T k n b (own_result T a.result (result_of T n) e) is) ∙ answer_kept T a b a.result (result_of T n) e

pub nothing_thrown : (T : Table) (a : MethodView) (o : Option MethodView) → a.thrown ≡ [] → views_throw T (Some a) o ≡ false
nothing_thrown T a None e = refl
nothing_thrown T a (Some b) e = ap (λ ts. not (list_all (λ t. is_unchecked T (thrown_class T a t) || list_any (λ u. is_within T (thrown_class T b u) (thrown_class T a t)) b.thrown) ts)) e

pub ruleset kept_laws = (answer_told, nothing_thrown)
