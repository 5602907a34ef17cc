-- The pool of the writer, seen as the list of what its constants mean.
use Rattle.std.proofs.Common.{◌≡◌, ℕ, Bool, true, false, cond, List, [], ◌∷◌, ◌++◌, Option, refl, sym, ap, ◌∙◌}
use Rattle.std.specs.Prelude.{not}
use Rattle.std.specs.List.{list_any, position, prefix_len}
use Rattle.std.proofs.lemmas.List.{length-map, map-append}
use Rattle.jc_class_out.specs.declared.format.Constant.{Constant}
use Rattle.jc_class_out.specs.declared.format.Constant.TheVariants as constant
use Rattle.jc_class_out.specs.contracts.format.ConstantPartialEq.TheImpl.{eq-value}
use Rattle.jc_class_out.specs.Spelling.{known, knowns, same_known, has, add, number, number_if}

pub same_is : (a b : Constant) → eq-value.it a b ≡ same_known (known a) (known b)
same_is (constant.Text a) (constant.Text b) = refl
same_is (constant.Whole a) (constant.Whole b) = refl
same_is (constant.Long a) (constant.Long b) = refl
same_is (constant.Behind a) (constant.Behind b) = refl
same_is (constant.Class a) (constant.Class b) = refl
same_is (constant.Literal a) (constant.Literal b) = refl
same_is (constant.Field c n d) (constant.Field e m f) = refl
same_is (constant.Method c n d) (constant.Method e m f) = refl
same_is (constant.Interface c n d) (constant.Interface e m f) = refl
same_is (constant.Pair n d) (constant.Pair m f) = refl
same_is _ _ = refl

pub any_is : (k : Constant) (ks : List Constant) → list_any (eq-value.it k) ks ≡ list_any (same_known (known k)) (knowns ks)
any_is k [] = refl
any_is k (x ∷ ks) = rw (same_is k x, any_is k ks) refl

prefix_is : (k : Constant) (ks : List Constant) → prefix_len (λ x. not (eq-value.it k x)) ks ≡ prefix_len (λ x. not (same_known (known k) x)) (knowns ks)
prefix_is k [] = refl
prefix_is k (x ∷ ks) = rw (same_is k x, prefix_is k ks) refl

pub position_is : (k : Constant) (ks : List Constant) → position (eq-value.it k) ks ≡ position (same_known (known k)) (knowns ks)
position_is k ks = rw (prefix_is k ks, length-map ks known) refl

add_by : (b : Bool) (ks : List Constant) (k : Constant) → knowns (cond b ks (ks ++ k ∷ [])) ≡ cond b (knowns ks) (knowns ks ++ known k ∷ [])
add_by true ks k = refl
add_by false ks k = map-append known ks (k ∷ [])

pub add_is : (ks : List Constant) (k : Constant) → knowns (cond (list_any (eq-value.it k) ks) ks (ks ++ k ∷ [])) ≡ add (knowns ks) (known k)
unfolding has
add_is ks k = rw (any_is k ks) (add_by (list_any (same_known (known k)) (knowns ks)) ks k)

pub number_is : (ks : List Constant) (k : Constant) (o : Option ℕ) → o ≡ position (eq-value.it k) ks → number (knowns ks) (known k) ≡ number_if o
unfolding number
number_is ks k o h = ap number_if (sym (position_is k ks) ∙ sym h)
