-- What stands for a method has its name.
use Rattle.std.proofs.Common.{◌≡◌, ℕ, zero, suc, ◌-◌, ◌<◌, arith, false, ◌&&◌, ◌||◌, ◌==◌, Option, Some, None, refl, sym, ap, ◌∙◌}
use Rattle.std.specs.Str.{bytes_eq}
use Rattle.jc_rules.proofs.Truths.{and_none}
use Rattle.jc_types.specs.declared.ids.ClassId.{ClassId}
use Rattle.jc_types.specs.declared.ids.MethodId.{MethodId}
use Rattle.jc_types.specs.declared.table.Table.{Table}
use Rattle.jc_types.specs.Accessors.{method_name_of, methods_of}
use Rattle.jc_overriding.specs.declared.view.MethodView.{MethodView}
use Rattle.jc_overriding.specs.Overriding.{standing_in, in_superclass, or_further, standing_within, superclass, is_inheritable, is_instance, is_member_of, owner, stands_for, subsignature_of}
use Rattle.jc_overriding.specs.Signatures.{is_erasure, same_signature}
use Rattle.jc_overriding.specs.Viewing.{class_view, own_type}
use Rattle.jc_members.proofs.Remaining.{id_of_view}

pub unnamed : (T : Table) (k : ClassId) (n m : MethodId) → bytes_eq (method_name_of T n) (method_name_of T m) ≡ false → subsignature_of T (class_view T k n) (class_view T k m) ≡ false
unnamed T k n m e = by (class_view T k n) (class_view T k m) refl refl
  where
    by : (a b : Option MethodView) → class_view T k n ≡ a → class_view T k m ≡ b → subsignature_of T a b ≡ false
    by None b f g = refl
    by (Some a) None f g = refl
    by (Some a) (Some b) f g =
        ap (λ c. c && (same_signature a b || is_erasure T a b))
        (ap (λ i. bytes_eq (method_name_of T i) (method_name_of T b.id)) (id_of_view T (own_type T k) n a f) ∙ ap (λ i. bytes_eq (method_name_of T n) (method_name_of T i)) (id_of_view T (own_type T k) m b g) ∙ e)

pub not_standing : (T : Table) (k : ClassId) (n m : MethodId) → (n.0 == m.0) ≡ false → bytes_eq (method_name_of T n) (method_name_of T m) ≡ false → stands_for T k n m ≡ false
not_standing T k n m e f =
    ap (λ b. b || (is_instance T n && is_instance T m && is_member_of T k n && is_inheritable T (owner T n) m && subsignature_of T (class_view T k n) (class_view T k m))) e
    ∙ ap (λ b. is_instance T n && is_instance T m && is_member_of T k n && is_inheritable T (owner T n) m && b) (unnamed T k n m f)
    ∙ and_none (is_instance T n && is_instance T m && is_member_of T k n && is_inheritable T (owner T n) m)

-- one class further up
pub stands_up : (T : Table) (k : ClassId) (m : MethodId) (n : ℕ) (c up : ClassId) → 0 < n → standing_in T k m (methods_of T c) ≡ None → superclass T c ≡ Some up → standing_within T (n - 1) k m up ≡ standing_within T n k m c
unfolding standing_within
stands_up T k m zero c up lt e f = absurd (omega arith)
stands_up T k m (suc n) c up lt e f =
    let g : suc n - 1 ≡ n = omega arith in
    ap (λ n. standing_within T n k m up) g ∙ ap (in_superclass (standing_within T n k m)) (sym f) ∙ ap (λ o. or_further o (in_superclass (standing_within T n k m) (superclass T c))) (sym e)

pub ruleset standing = (not_standing)
