-- The body that is selected.
use Rattle.std.proofs.Common.{◌≡◌, ◌⊎◌, ℕ, zero, suc, ◌+◌, Bool, true, false, not, ◌&&◌, cond, if◌then◌else◌, inl, inr, List, [], ◌∷◌, ◌++◌, Option, Some, None, refl, sym, ap, ◌∙◌}
use Rattle.std.proofs.lemmas.Bool.{true≢false}
use Rattle.jc_types.specs.declared.declarations.ClassDecl.{ClassDecl}
use Rattle.jc_types.specs.declared.declarations.MethodDecl.{MethodDecl}
use Rattle.jc_types.specs.declared.ids.ClassId.{ClassId}
use Rattle.jc_types.specs.declared.ids.MethodId.{MethodId}
use Rattle.jc_types.specs.declared.table.Table.{Table}
use Rattle.jc_types.specs.Accessors.{class_count, methods_of}
use Rattle.jc_overriding.specs.Overriding.{body_for, declared_for, if_body, in_superclass, or_further, select, standing_in, standing_within, stands_for, superclass, is_abstract}
use Rattle.jc_overriding.specs.Viewing.{class_view}
use Rattle.jc_header_rules.specs.Clashes.{headers_breaks}
use Rattle.jc_header_rules.specs.Headers.{differ, method_breaks, pair_broken, wants_body}
use Rattle.jc_header_rules.specs.Inheriting.{class_breaks}
use Rattle.jc_header_rules.specs.Places.{of_each}
use Rattle.jc_header_laws.specs.Facts.{HasNoParameters, IsNumber, OneChosen}
use Rattle.jc_header_laws.proofs.Bodies.{one_selected}
use Rattle.jc_header_laws.proofs.Fitting.{overriding_none, throwing_others, without_body}
use Rattle.jc_header_laws.proofs.Lists.{each_unbroken, fore, not_broken, rear}

differ_none : (a b : Bool) → differ a b ≡ false → b ≡ a
differ_none true true e = refl
differ_none true false e = absurd (true≢false e)
differ_none false b e = e

standing_told : (T : Table) (k : ClassId) (m x : MethodId) (ns : List MethodId) → declared_for T k m ns ≡ Some x → stands_for T k x m ≡ true
standing_told T k m x [] e = cc
standing_told T k m x (n ∷ ns) e = by (stands_for T k n m) refl e (λ e. standing_told T k m x ns e)
  where
    id_or : MethodId → Option MethodId → MethodId
    id_or y None = y
    id_or y (Some z) = z

    by : (b : Bool) → stands_for T k n m ≡ b → (if b then Some n else declared_for T k m ns) ≡ Some x → (declared_for T k m ns ≡ Some x → stands_for T k x m ≡ true) → stands_for T k x m ≡ true
    by true f e g = ap (λ y. stands_for T k y m) (sym (ap (id_or n) e)) ∙ f
    by false f e g = g e

body_told : (T : Table) (k : ClassId) (m x : MethodId) (ns : List MethodId) → body_for T k m ns ≡ Some x → stands_for T k x m ≡ true
body_told T k m x [] e = cc
body_told T k m x (n ∷ ns) e = by (is_abstract T n) (stands_for T k n m) refl e (λ e. body_told T k m x ns e)
  where
    id_or : MethodId → Option MethodId → MethodId
    id_or y None = y
    id_or y (Some z) = z

    by : (a b : Bool) → stands_for T k n m ≡ b → (if not a && b then Some n else body_for T k m ns) ≡ Some x → (body_for T k m ns ≡ Some x → stands_for T k x m ≡ true) → stands_for T k x m ≡ true
    by true b f e g = g e
    by false true f e g = ap (λ y. stands_for T k y m) (sym (ap (id_or n) e)) ∙ f
    by false false f e g = g e

in_class_told : (T : Table) (k : ClassId) (m x : MethodId) (ns : List MethodId) → standing_in T k m ns ≡ Some x → stands_for T k x m ≡ true
in_class_told T k m x ns e = by (body_for T k m ns) refl e
  where
    by : (o : Option MethodId) → body_for T k m ns ≡ o → or_further o (declared_for T k m ns) ≡ Some x → stands_for T k x m ≡ true
    by None f e = standing_told T k m x ns e
    by (Some y) f e = body_told T k m x ns (f ∙ e)

within_told : (T : Table) (n : ℕ) (k : ClassId) (m x : MethodId) (c : ClassId) → standing_within T n k m c ≡ Some x → stands_for T k x m ≡ true
unfolding standing_within
within_told T zero k m x c e = cc
within_told T (suc n) k m x c e = by (λ up e. within_told T n k m x up e) (standing_in T k m (methods_of T c)) refl e
  where
    id_or : MethodId → Option MethodId → MethodId
    id_or y None = y
    id_or y (Some z) = z

    further : ((up : ClassId) → standing_within T n k m up ≡ Some x → stands_for T k x m ≡ true) → (o : Option ClassId) → in_superclass (standing_within T n k m) o ≡ Some x → stands_for T k x m ≡ true
    further h None e = cc
    further h (Some up) e = h up e

    by : ((up : ClassId) → standing_within T n k m up ≡ Some x → stands_for T k x m ≡ true) → (o : Option MethodId) → standing_in T k m (methods_of T c) ≡ o → or_further o (in_superclass (standing_within T n k m) (superclass T c)) ≡ Some x → stands_for T k x m ≡ true
    by h (Some y) f e = ap (λ z. stands_for T k z m) (sym (ap (id_or y) e)) ∙ in_class_told T k m y (methods_of T c) f
    by h None f e = further h (superclass T c) e

selected_told : (T : Table) (k : ClassId) (m n : MethodId) → select T k m ≡ Some n → (is_abstract T n ≡ false) × (stands_for T k n m ≡ true)
selected_told T k m n e = by (standing_within T (class_count T + 1) k m k) refl e
  where
    id_or : MethodId → Option MethodId → MethodId
    id_or y None = y
    id_or y (Some z) = z

    with_some : (x : MethodId) (b : Bool) → is_abstract T x ≡ b → cond b None (Some x) ≡ Some n → (x ≡ n) × (is_abstract T x ≡ false)
    with_some x true f e = cc
    with_some x false f e = (ap (id_or x) e, f)

    by : (o : Option MethodId) → standing_within T (class_count T + 1) k m k ≡ o → if_body T o ≡ Some n → (is_abstract T n ≡ false) × (stands_for T k n m ≡ true)
    by None f e = cc
    by (Some x) f e =
        let both = with_some x (is_abstract T x) refl e in
        (ap (is_abstract T) (sym both.0) ∙ both.1, ap (λ y. stands_for T k y m) (sym both.0) ∙ within_told T (class_count T + 1) k m x k f)

module _ (T : Table) (unbroken : headers_breaks T ≡ []) where
  pub own_body : (n : ℕ) (d : MethodDecl) → IsNumber 0 n d T.methods → d.has_body ≡ wants_body d
  own_body n d at =
      let m : MethodId = record { 0 = n } in
      let own : method_breaks T n d ≡ [] = each_unbroken (method_breaks T) 0 n d T.methods (fore (of_each (method_breaks T) 0 T.methods) (of_each (class_breaks T) 0 T.classes) unbroken) at in
      differ_none (wants_body d) d.has_body
      (not_broken (differ (wants_body d) d.has_body) 514 d.place (rear ((of_each (pair_broken T m d.place) 0 T.methods ++ overriding_none T m d) ++ throwing_others T m d) (without_body d) own))

  pub one_chosen : (n : ℕ) (c : ClassDecl) → IsNumber 0 n c T.classes → OneChosen T (record { 0 = n })
  one_chosen n c at m found v w e same h g alike_owners theirs stands is =
      let k : ClassId = record { 0 = n } in
      let told = selected_told T k m found e in
      let mine : is_abstract T v.id ≡ false = ap (is_abstract T) same ∙ told.0 in
      sym (one_selected T unbroken n c at m v w h g alike_owners mine theirs (ap (λ y. stands_for T k y m) same ∙ told.1) stands (by k is)) ∙ same
    where
      by : (k : ClassId) → (found ≡ m) ⊎ ((w.id ≡ m) ⊎ HasNoParameters (class_view T k m)) → (v.id ≡ m) ⊎ ((w.id ≡ m) ⊎ HasNoParameters (class_view T k m))
      by k (inl e) = inl (same ∙ e)
      by k (inr r) = inr r
