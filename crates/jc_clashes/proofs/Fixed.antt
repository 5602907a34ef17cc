-- Methods without type parameters whose parameters' types are their own erasures: those of one erasure have one signature in each class.
use Rattle.std.proofs.Common.{◌≡◌, true, Some, sym, ap, subst, map, ◌∙◌}
use Rattle.std.specs.Str.{bytes_eq}
use Rattle.std.proofs.lemmas.Bool.{and_from, and_parts}
use Rattle.jc_types.specs.declared.ids.ClassId.{ClassId}
use Rattle.jc_types.specs.declared.ids.MethodId.{MethodId}
use Rattle.jc_types.specs.declared.table.Table.{Table}
use Rattle.jc_types.specs.Accessors.{method_name_of, params_of}
use Rattle.jc_overriding.specs.declared.view.MethodView.{MethodView}
use Rattle.jc_overriding.specs.Signatures.{same_all, subsignature}
use Rattle.jc_overriding.specs.Viewing.{class_view, plain}
use Rattle.jc_header_rules.specs.Clashes.{erased_params}
use Rattle.jc_members.specs.Fixed.{is_fixed}
use Rattle.jc_members.proofs.Unchanged.{params_erased, viewed_alike}
use Rattle.jc_clashes.proofs.Lists.{all_same, self_same}

module _ (T : Table) (k : ClassId) (m n : MethodId) (a b : MethodView) (fm : is_fixed T m ≡ true) (fn : is_fixed T n ≡ true) (va : class_view T k m ≡ Some a) (vb : class_view T k n ≡ Some b) where
  pub same_erasure : subsignature T a b ≡ true → erased_params T m ≡ erased_params T n
  same_erasure e =
      let alike = and_parts (bytes_eq (method_name_of T m) (method_name_of T n)) (same_all (params_of T m) (params_of T n)) (sym (viewed_alike T k m n a b fm fn va vb) ∙ e) in
      ap (map (plain T)) (all_same (params_of T m) (params_of T n) alike.1)

  pub same_fixed : bytes_eq (method_name_of T m) (method_name_of T n) ≡ true → erased_params T m ≡ erased_params T n → subsignature T a b ≡ true
  same_fixed named e =
      let params : params_of T m ≡ params_of T n = sym (params_erased T m fm) ∙ e ∙ params_erased T n fn in
      viewed_alike T k m n a b fm fn va vb
      ∙ and_from (bytes_eq (method_name_of T m) (method_name_of T n)) (same_all (params_of T m) (params_of T n)) named (subst (λ ps. same_all (params_of T m) ps ≡ true) params (self_same (params_of T m)))
