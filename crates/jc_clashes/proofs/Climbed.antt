-- What is not in a closed list of classes has no view.
use Rattle.std.proofs.Common.{◌≡◌, ◌≢◌, ℕ, zero, suc, ◌+◌, Bool, false, Option, Some, None, List, [], ◌∷◌, map, if◌then◌else◌, arith, refl, ap, subst, ◌∙◌}
use Rattle.std.proofs.lemmas.Bool.Decides.{nat_tests}
use Rattle.jc_types.specs.declared.form.Ty.{Ty}
use Rattle.jc_types.specs.declared.ids.ClassId.{ClassId}
use Rattle.jc_types.specs.declared.table.Table.{Table}
use Rattle.jc_types.specs.Accessors.{supers_of, class_count}
use Rattle.jc_judge.specs.Kinds.{class_of}
use Rattle.jc_judge.specs.Supers.{numbered}
use Rattle.jc_judge.specs.Views.{view, view_within, first_of, or_else, is_class, supers}
use Rattle.jc_sub.specs.Reaching.{super_with}
use Rattle.jc_clashes.specs.Climbing.{IsNumberIn, ClassIn, AllIn, IsClosed}
use Rattle.jc_members.proofs.Reached.{keeps, of_class}

module _ (T : Table) (from l : ℕ) (cs : List ℕ) (closed : IsClosed T from cs) (out : IsNumberIn l cs → ⊥) where
  abbrev NoView : ℕ → Type 0
  NoView n = (t : Ty) (x : ℕ) → class_of t ≡ Some (numbered x) → IsNumberIn x cs → view_within T n (numbered l) t ≡ None

  none_first : (n : ℕ) (g : Ty → Ty) → ((t : Ty) (id : ClassId) → class_of t ≡ Some id → class_of (g t) ≡ Some id) → NoView n → (ts : List Ty) → AllIn cs ts → first_of (view_within T n (numbered l)) (map g ts) ≡ None
  none_first n g same none [] h = refl
  none_first n g same none (t ∷ ts) h = by_class (none_first n g same none ts h.1) (class_of t) refl h.0
    where
      by_class : first_of (view_within T n (numbered l)) (map g ts) ≡ None → (o : Option ClassId) → class_of t ≡ o → ClassIn cs o → or_else (view_within T n (numbered l) (g t)) (first_of (view_within T n (numbered l)) (map g ts)) ≡ None
      by_class rest None e d = absurd d
      by_class rest (Some id) e d = ap (λ o. or_else o (first_of (view_within T n (numbered l)) (map g ts))) (none (g t) id.0 (same t id e) d) ∙ rest

  not_class : (t : Ty) (x : ℕ) → class_of t ≡ Some (numbered x) → x ≢ l → is_class (numbered l) (class_of t) ≡ false
  not_class t x e ne = ap (is_class (numbered l)) e ∙ grind (arith, nat_tests)

  no_view : (n : ℕ) → NoView n
  no_view zero t x e m = refl
  no_view (suc n) t x e m =
      let up = of_class T t (numbered x) e in
      let other : x ≢ l = λ same. out (subst (λ y. IsNumberIn y cs) same m) in
      ap (λ (b : Bool). if b then Some t else first_of (view_within T n (numbered l)) (supers T t)) (not_class t x e other)
      ∙ ap (first_of (view_within T n (numbered l))) up.1 ∙ none_first n (super_with T (numbered x) up.0) (keeps T (numbered x) up.0) (no_view n) (supers_of T (numbered x)) (closed.above x m)

  pub outside : (t : Ty) → class_of t ≡ Some (numbered from) → view T (numbered l) t ≡ None
  unfolding view
  outside t e = no_view (class_count T + 1) t from e closed.first
