-- Constructors of one erasure.
use Rattle.std.proofs.Common.{◌≡◌, ℕ, true, false, cond, inl, inr, List, [], ◌∷◌, ◌++◌, refl, sym, ap, subst, ◌∙◌}
use Rattle.std.specs.List.{list_any}
use Rattle.jc_rules.specs.declared.rule.Place.{Place}
use Rattle.jc_types.specs.declared.declarations.ClassDecl.{ClassDecl}
use Rattle.jc_types.specs.declared.form.Ty.{Ty}
use Rattle.jc_types.specs.declared.ids.MethodId.{MethodId}
use Rattle.jc_types.specs.declared.table.Table.{Table}
use Rattle.jc_types.specs.Accessors.{method_place_of}
use Rattle.jc_overriding.specs.Signatures.{same_all}
use Rattle.jc_header_rules.specs.Checked.{IsAmong}
use Rattle.jc_header_rules.specs.Clashes.{clashes_breaks, erased_params, place_or}
use Rattle.jc_header_rules.specs.Places.{broken_if}
use Rattle.jc_clashes.specs.Constructors.{constructors_breaks, constructors_from, constructors_in, is_constructor, is_repeated, with_erasure}
use Rattle.jc_clashes.specs.Stage.{HasNoClash}
use Rattle.jc_header_laws.specs.Facts.{ErasuresDiffer, IsNumber}
use Rattle.jc_header_laws.proofs.Lists.{and_rest, each_unbroken, fore, none_is, not_broken, rear}

among_left : {X : Type 0} (x : X) (xs ys : List X) → IsAmong x xs → IsAmong x (xs ++ ys)
among_left x [] ys h = absurd h
among_left x (z ∷ xs) ys (inl h) = inl h
among_left x (z ∷ xs) ys (inr h) = inr (among_left x xs ys h)

among_last : {X : Type 0} (x : X) (xs : List X) → IsAmong x (xs ++ x ∷ [])
among_last x [] = inl refl
among_last x (z ∷ xs) = inr (among_last x xs)

module _ (T : Table) (place : Place) where
  none_repeated : (earlier : List (List Ty)) (ms : List MethodId) → constructors_from T place earlier ms ≡ [] → (n : MethodId) → IsAmong n ms → is_constructor T n ≡ true → (e : List Ty) → IsAmong e earlier
      → same_all (erased_params T n) e ≡ false
  none_repeated earlier [] unbroken n h is e g = absurd h
  none_repeated earlier (m ∷ ms) unbroken n (inl h) is e g =
      let first : is_repeated T earlier m ≡ false = not_broken (is_repeated T earlier m) 801 (place_or place (method_place_of T m)) (fore (broken_if (is_repeated T earlier m) 801 (place_or place (method_place_of T m))) (constructors_from T place (with_erasure T earlier m) ms) unbroken) in
      let same : is_repeated T earlier n ≡ false = ap (is_repeated T earlier) h ∙ first in
      none_is (same_all (erased_params T n)) e earlier (and_rest (is_constructor T n) (list_any (same_all (erased_params T n)) earlier) is same) g
  none_repeated earlier (m ∷ ms) unbroken n (inr h) is e g =
      none_repeated (with_erasure T earlier m) ms (rear (broken_if (is_repeated T earlier m) 801 (place_or place (method_place_of T m))) (constructors_from T place (with_erasure T earlier m) ms) unbroken) n h is e
      (among_left e earlier (cond (is_constructor T m) (erased_params T m ∷ []) []) g)

  differ : (earlier : List (List Ty)) (ms : List MethodId) → constructors_from T place earlier ms ≡ [] → ErasuresDiffer T ms
  differ earlier [] unbroken = tt
  differ earlier (m ∷ ms) unbroken =
      let rest : constructors_from T place (with_erasure T earlier m) ms ≡ [] = rear (broken_if (is_repeated T earlier m) 801 (place_or place (method_place_of T m))) (constructors_from T place (with_erasure T earlier m) ms) unbroken in (
        λ n h is also. none_repeated (with_erasure T earlier m) ms rest n h also (erased_params T m)
            (subst (λ b. IsAmong (erased_params T m) (earlier ++ cond b (erased_params T m ∷ []) [])) (sym is) (among_last (erased_params T m) earlier)),
        differ (with_erasure T earlier m) ms rest,
      )

pub erasures_differ : (T : Table) → constructors_breaks T ≡ [] → (n : ℕ) (c : ClassDecl) → IsNumber 0 n c T.classes → ErasuresDiffer T c.methods
erasures_differ T e n c at = differ T c.place [] c.methods (each_unbroken (constructors_in T) 0 n c T.classes e at)

-- the clashes of constructors are among those of the stage
pub of_constructors : (T : Table) → HasNoClash T → constructors_breaks T ≡ []
of_constructors T e = rear (clashes_breaks T) (constructors_breaks T) e
