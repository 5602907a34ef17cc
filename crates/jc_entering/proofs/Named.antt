-- A method overrides methods of its own name alone.
use Rattle.std.proofs.Common.{◌≡◌, ℕ, suc, ◌+◌, ◌&&◌, ◌||◌, Bool, true, false, cond, List, [], ◌∷◌, ◌++◌, length, Option, Some, None, slice_get, refl, sym, ap, ◌∙◌, arith}
use Rattle.std.specs.Str.{bytes_eq}
use Rattle.jc_rules.proofs.Truths.{other_bytes}
use Rattle.jc_types.specs.declared.declarations.MethodDecl.{MethodDecl}
use Rattle.jc_types.specs.declared.form.Ty.{Ty}
use Rattle.jc_types.specs.declared.ids.MethodId.{MethodId}
use Rattle.jc_types.specs.declared.table.Table.{Table}
use Rattle.jc_types.specs.Accessors.{method_name_of, method_owner_of, params_of}
use Rattle.jc_overriding.specs.declared.view.MethodView.{MethodView}
use Rattle.jc_overriding.specs.Overriding.{has_name, is_above, is_inheritable, is_instance, overrides, owner, subsignature_of}
use Rattle.jc_overriding.specs.Signatures.{is_erasure, same_signature, subsignature}
use Rattle.jc_overriding.specs.Viewing.{Seeing, With, Raised, class_view, is_static, own_type, seeing_of, view_of_owner, viewed_by, viewed_in}
use Rattle.jc_members.specs.Named.{all_named, named_from}
use Rattle.jc_bridges_spec.specs.Entering.{checks_from, differs_from, entry_checks, some_differs}
use Rattle.jc_entering.specs.Checked.{checked, other_differs, overridden}

-- ---- what is no instance method overrides nothing

not_of : (T : Table) (m n : MethodId) → is_instance T m ≡ false → overrides T m n ≡ false
not_of T m n e =
    ap (λ b. b && is_instance T n && is_above T (owner T m) (owner T n) && is_inheritable T (owner T m) n && subsignature_of T (class_view T (owner T m) m) (class_view T (owner T m) n)) e

pub none_overridden : (T : Table) (m : MethodId) (ns : List MethodId) → is_instance T m ≡ false → overridden T m ns ≡ []
none_overridden T m [] e = refl
none_overridden T m (n ∷ ns) e = ap (λ b. cond b (n ∷ []) [] ++ overridden T m ns) (not_of T m n e) ∙ none_overridden T m ns e

-- ---- names

-- a view of a method is that method's
id_by : (T : Table) (m : MethodId) (b : Bool) (s : Seeing) → (viewed_by T m b s).id ≡ m
id_by T m true s = refl
id_by T m false (With vars by) = refl
id_by T m false Raised = refl

not_last : (a b c d : Bool) → (a && b && c && d && false) ≡ false
not_last true true true true = refl
not_last true true true false = refl
not_last true true false d = refl
not_last true false c d = refl
not_last false b c d = refl

module _ (T : Table) (m n : MethodId) (other : bytes_eq (method_name_of T m) (method_name_of T n) ≡ false) where
  not_alike : (a b : MethodView) → a.id ≡ m → b.id ≡ n → subsignature T a b ≡ false
  not_alike a b e f =
      ap (λ x. x && (same_signature a b || is_erasure T a b)) (ap (λ i. bytes_eq (method_name_of T i) (method_name_of T b.id)) e ∙ ap (λ j. bytes_eq (method_name_of T m) (method_name_of T j)) f ∙ other)

  not_seen : (u v : Option Ty) → subsignature_of T (viewed_in T m u) (viewed_in T n v) ≡ false
  not_seen None v = refl
  not_seen (Some u) None = refl
  not_seen (Some u) (Some v) =
      not_alike (viewed_by T m (is_static T m) (seeing_of T u)) (viewed_by T n (is_static T n) (seeing_of T v)) (id_by T m (is_static T m) (seeing_of T u)) (id_by T n (is_static T n) (seeing_of T v))

  pub not_overridden : overrides T m n ≡ false
  not_overridden =
      let t = own_type T (owner T m) in
      ap (λ b. is_instance T m && is_instance T n && is_above T (owner T m) (owner T n) && is_inheritable T (owner T m) n && b)
      (not_seen (view_of_owner T t (method_owner_of T m)) (view_of_owner T t (method_owner_of T n)))
      ∙ not_last (is_instance T m) (is_instance T n) (is_above T (owner T m) (owner T n)) (is_inheritable T (owner T m) n)

-- ---- the methods of a name in place of all

differs_more : (T : Table) (i : ℕ) (t : Ty) (b : Bool) (n : MethodId) (ns : List MethodId) →
    other_differs T i t (cond b (n ∷ []) [] ++ ns) ≡ (b && differs_from T t (slice_get (params_of T n) i) || other_differs T i t ns)
differs_more T i t true n ns = refl
differs_more T i t false n ns = refl

module _ (T : Table) (m : MethodId) (i : ℕ) (t : Ty) where
  abbrev name : List ℕ
  name = method_name_of T m

  abbrev at : ℕ → MethodId
  at j = record { 0 = j }

  abbrev one : ℕ → Bool
  one j = overrides T m (at j) && differs_from T t (slice_get (params_of T (at j)) i)

  abbrev further : ℕ → ℕ → Bool
  further j k = other_differs T i t (overridden T m (named_from T name j k))

  one_more : (j k : ℕ) (b : Bool) → has_name T name (at j) ≡ b → (one j || further (suc j) k) ≡ other_differs T i t (overridden T m (cond b (at j ∷ []) [] ++ named_from T name (suc j) k))
  one_more j k true e = sym (differs_more T i t (overrides T m (at j)) (at j) (overridden T m (named_from T name (suc j) k)))
  one_more j k false e =
      ap (λ b. (b && differs_from T t (slice_get (params_of T (at j)) i)) || further (suc j) k) (not_overridden T m (at j) (other_bytes (method_name_of T (at j)) name e))

  some_of_name : (j : ℕ) (ds : List MethodDecl) → some_differs T m i t j ds ≡ further j (length ds)
  some_of_name j [] = refl
  some_of_name j (d ∷ ds) =
      let e : j + 1 ≡ suc j = omega arith in
      ap (λ b. one j || b) (ap (λ k. some_differs T m i t k ds) e ∙ some_of_name (suc j) ds)
      ∙ one_more j (length ds) (has_name T name (at j)) refl

abbrev others : Table → MethodId → List MethodId
others T m = overridden T m (all_named T (method_name_of T m))

checked_of : (T : Table) (m : MethodId) (i : ℕ) (ts : List Ty) → checks_from T m i ts ≡ checked T i ts (others T m)
checked_of T m i [] = refl
checked_of T m i (t ∷ ts) =
    ap (λ b. cond b 1 0 + checks_from T m (i + 1) ts) (some_of_name T m i t 0 T.methods)
    ∙ ap (λ n. cond (other_differs T i t (others T m)) 1 0 + n) (checked_of T m (i + 1) ts)

pub checked_is : (T : Table) (m : MethodId) → checked T 0 (params_of T m) (overridden T m (all_named T (method_name_of T m))) ≡ entry_checks T m
unfolding entry_checks
checked_is T m = sym (checked_of T m 0 (params_of T m))
