-- Overriding and hiding, told by what they ask alike.
use Rattle.std.proofs.Common.{◌≡◌, ◌≢◌, Bool, true, false, not, ◌&&◌, ◌||◌, refl, ap, ◌∙◌}
use Rattle.jc_types.specs.declared.ids.MethodId.{MethodId}
use Rattle.jc_types.specs.declared.table.Table.{Table}
use Rattle.jc_overriding.specs.Overriding.{hides, is_above, is_inheritable, is_instance, is_method, overrides, owner, subsignature_of}
use Rattle.jc_overriding.specs.Viewing.{class_view, is_static}
use Rattle.jc_members.specs.Below.{replaces, signature_below}

and_three : (a b c d e : Bool) → (a && b && c && d && e) ≡ (a && b && (c && d && e))
and_three true true c d e = refl
and_three true false c d e = refl
and_three false b c d e = refl

and_three_of_four : (a b s t c d e : Bool) → (a && b && s && t && c && d && e) ≡ (a && b && s && t && (c && d && e))
and_three_of_four true true true true c d e = refl
and_three_of_four true true true false c d e = refl
and_three_of_four true true false t c d e = refl
and_three_of_four true false s t c d e = refl
and_three_of_four false b s t c d e = refl

-- of m, as its own class has it
abbrev pub own_below : Table → MethodId → MethodId → Bool
own_below T m n = signature_below T (owner T m) (class_view T (owner T m) m) n

pub overrides_told : (T : Table) (m n : MethodId) → overrides T m n ≡ (is_instance T m && is_instance T n && own_below T m n)
overrides_told T m n =
    and_three (is_instance T m) (is_instance T n) (is_above T (owner T m) (owner T n)) (is_inheritable T (owner T m) n)
    (subsignature_of T (class_view T (owner T m) m) (class_view T (owner T m) n))

pub hides_told : (T : Table) (m n : MethodId) → hides T m n ≡ (is_method T m && is_method T n && is_static T m && is_static T n && own_below T m n)
hides_told T m n =
    and_three_of_four (is_method T m) (is_method T n) (is_static T m) (is_static T n) (is_above T (owner T m) (owner T n)) (is_inheritable T (owner T m) n)
    (subsignature_of T (class_view T (owner T m) m) (class_view T (owner T m) n))

abbrev either : Bool → Bool → Bool → Bool → Bool → Bool
either a b s t c = (a && not s && (b && not t) && c) || (a && b && s && t && c)

told : (T : Table) (m n : MethodId) → replaces T m n ≡ either (is_method T m) (is_method T n) (is_static T m) (is_static T n) (own_below T m n)
told T m n = ap (λ b. b || hides T m n) (overrides_told T m n) ∙ ap (λ b. (is_instance T m && is_instance T n && own_below T m n) || b) (hides_told T m n)

not_second : (a s t c : Bool) → either a false s t c ≡ false
not_second true true t c = refl
not_second true false t c = refl
not_second false s t c = refl

not_alike : (a b s t c : Bool) → s ≢ t → either a b s t c ≡ false
not_alike true true true true c ne = absurd (ne refl)
not_alike true true false false c ne = absurd (ne refl)
not_alike true true true false c ne = refl
not_alike true true false true c ne = refl
not_alike true false true t c ne = refl
not_alike true false false t c ne = refl
not_alike false b s t c ne = refl

alike : (s t c : Bool) → s ≡ t → either true true s t c ≡ c
alike true true c e = refl
alike false false true e = refl
alike false false false e = refl
alike true false c e = cc
alike false true c e = cc

module _ (T : Table) (m n : MethodId) where
  pub replaces_no_method : is_method T m ≡ false → replaces T m n ≡ false
  replaces_no_method e = told T m n ∙ ap (λ a. either a (is_method T n) (is_static T m) (is_static T n) (own_below T m n)) e

  pub replaces_none : is_method T n ≡ false → replaces T m n ≡ false
  replaces_none e = told T m n ∙ ap (λ b. either (is_method T m) b (is_static T m) (is_static T n) (own_below T m n)) e ∙ not_second (is_method T m) (is_static T m) (is_static T n) (own_below T m n)

  pub replaces_unlike : is_static T m ≢ is_static T n → replaces T m n ≡ false
  replaces_unlike ne = told T m n ∙ not_alike (is_method T m) (is_method T n) (is_static T m) (is_static T n) (own_below T m n) ne

  pub replaces_alike : is_method T m ≡ true → is_method T n ≡ true → is_static T m ≡ is_static T n → replaces T m n ≡ own_below T m n
  replaces_alike e f g =
      told T m n ∙ ap (λ a. either a (is_method T n) (is_static T m) (is_static T n) (own_below T m n)) e ∙ ap (λ b. either true b (is_static T m) (is_static T n) (own_below T m n)) f
      ∙ alike (is_static T m) (is_static T n) (own_below T m n) g

pub ruleset replacing = (overrides_told, hides_told, replaces_no_method, replaces_none, replaces_unlike, replaces_alike)
