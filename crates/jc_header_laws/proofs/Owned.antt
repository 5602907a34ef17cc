-- A method as its own class has it is as it is declared.
use Rattle.std.proofs.Common.{◌≡◌, ℕ, suc, ◌==◌, Bool, true, false, List, [], ◌∷◌, ◌++◌, map, length, Option, Some, None, if◌then◌else◌, refl, sym, ap, ◌∙◌, arith}
use Rattle.std.proofs.Math.Numerals.{add-one}
use Rattle.std.specs.Option.{option_map}
use Rattle.jc_rules.proofs.Truths.{equal_numbers, self_equal}
use Rattle.jc_types.specs.declared.form.Arg.{Arg, roll-Arg}
use Rattle.jc_types.specs.declared.form.Arg.TheVariants.{Exact, outs-Exact}
use Rattle.jc_types.specs.declared.form.Ty.{Ty, Ty-F, fold-Ty}
use Rattle.jc_types.specs.declared.form.Ty.TheVariants.{Variable, outs-Class}
use Rattle.jc_types.specs.declared.ids.ClassId.{ClassId}
use Rattle.jc_types.specs.declared.ids.MethodId.{MethodId}
use Rattle.jc_types.specs.declared.ids.VarId.{VarId}
use Rattle.jc_types.specs.declared.table.Table.{Table}
use Rattle.jc_types.specs.Accessors.{bounds_of, class_count, is_variable_arity, method_owner_of, method_vars_of, params_of, result_of, thrown_of, vars_of}
use Rattle.jc_types.specs.Reifying.{arguments, arguments_at, counted}
use Rattle.jc_types.specs.Substitution.{replacement, subst as put, subst_step}
use Rattle.jc_judge.specs.Kinds.{class_at, class_of}
use Rattle.jc_judge.specs.Views.{exact_at, exacts, first_of, is_class, supers, view, view_within}
use Rattle.jc_overriding.specs.declared.view.MethodView.{MethodView}
use Rattle.jc_overriding.specs.Overriding.{or_object, owner}
use Rattle.jc_overriding.specs.Viewing.{With, class_view, declared_view, is_static, own_type, seeing_by, seeing_of, vars_at, view_of_owner, viewed_by, viewed_in, viewed_with}

-- ---- variables for themselves

one_variable : (w v : VarId) (b : Bool) → (w.0 == v.0) ≡ b → (t : Ty) → t ≡ Variable v → (if b then Variable w else t) ≡ Variable v
one_variable w v true e t h = ap (λ (n : ℕ). Variable (record { 0 = n })) (equal_numbers w.0 v.0 e)
one_variable w v false e t h = h

for_itself : (vars : List VarId) (v : VarId) → replacement vars (map (λ w. Variable w) vars) v ≡ Variable v
for_itself [] v = refl
for_itself (w ∷ vars) v = one_variable w v (w.0 == v.0) refl (replacement vars (map (λ w. Variable w) vars) v) (for_itself vars v)

step_itself : (vars : List VarId) (l : Ty-F Arg Ty) → subst_step vars (map (λ w. Variable w) vars) l ≡ subst_step [] [] l
step_itself vars (Ty-F.Variable v) = for_itself vars v
step_itself vars (Ty-F.Array t n) = refl
step_itself vars (Ty-F.Prim p) = refl
step_itself vars (Ty-F.Class i xs) = refl
step_itself vars (Ty-F.Raw i) = refl
step_itself vars (Ty-F.Captured c) = refl
step_itself vars (Ty-F.Meet us) = refl
step_itself vars Ty-F.NullTy = refl

put_itself : (vars : List VarId) → put vars (map (λ w. Variable w) vars) ≡ put [] []
unfolding put
put_itself vars = λ i t. fold-Ty Arg Ty roll-Arg (λ l. step_itself vars l i) t

abbrev viewed_through : Table → MethodId → (Ty → Ty) → MethodView
viewed_through T m f =
    record {
      id = m;
      vars = method_vars_of T m;
      bounds = map (λ v. map f (bounds_of T v)) (method_vars_of T m);
      params = map f (params_of T m);
      result = option_map f (result_of T m);
      thrown = map f (thrown_of T m);
      variable = is_variable_arity T m;
    }

with_itself : (T : Table) (m : MethodId) (vars : List VarId) → viewed_with T m vars (map (λ w. Variable w) vars) ≡ declared_view T m
with_itself T m vars = ap (viewed_through T m) (put_itself vars)

-- ---- the type of a class inside of it

exact_variables : (vars : List VarId) → exacts (map (λ v. Exact (Variable v)) vars) ≡ map (λ v. Variable v) vars
exact_variables [] = refl
exact_variables (v ∷ vars) = ap (λ l. exact_at l ++ exacts (map (λ v. Exact (Variable v)) vars)) (outs-Exact (Variable v)) ∙ ap (λ ts. Variable v ∷ ts) (exact_variables vars)

mapped_length : (vars : List VarId) → length (map (λ v. Exact (Variable v)) vars) ≡ length vars
mapped_length [] = refl
mapped_length (v ∷ vars) = ap suc (mapped_length vars)

counted_own : (vars : List VarId) → counted vars (map (λ v. Exact (Variable v)) vars) ≡ Some (map (λ v. Exact (Variable v)) vars)
counted_own [] = refl
counted_own (v ∷ vars) =
    ap (λ b. if b then Some (map (λ v. Exact (Variable v)) (v ∷ vars)) else None) (ap (λ n. suc n == suc (length vars)) (mapped_length vars) ∙ self_equal (suc (length vars)))

module _ (T : Table) (k : ClassId) where
  abbrev own_args : List Arg
  own_args = map (λ v. Exact (Variable v)) (vars_of T k)

  class_own : class_of (own_type T k) ≡ Some k
  unfolding class_of
  class_own = ap class_at (outs-Class k own_args)

  within_own : (n : ℕ) → view_within T (suc n) k (own_type T k) ≡ Some (own_type T k)
  within_own n = ap (λ b. if b then Some (own_type T k) else first_of (view_within T n k) (supers T (own_type T k))) (ap (is_class k) class_own ∙ self_equal k.0)

  view_own : view T k (own_type T k) ≡ Some (own_type T k)
  unfolding view
  view_own = ap (λ n. view_within T n k (own_type T k)) (add-one (class_count T)) ∙ within_own (class_count T)

  arguments_own : arguments T (own_type T k) ≡ Some own_args
  unfolding arguments
  arguments_own = ap (arguments_at T) (outs-Class k own_args) ∙ counted_own (vars_of T k)

  seeing_own : seeing_of T (own_type T k) ≡ With (vars_of T k) (map (λ v. Variable v) (vars_of T k))
  seeing_own =
      ap (λ l. seeing_by T (vars_at T l) (arguments T (own_type T k))) (outs-Class k own_args) ∙ ap (seeing_by T (vars_of T k)) arguments_own
      ∙ ap (With (vars_of T k)) (exact_variables (vars_of T k))

  by_own : (m : MethodId) (b : Bool) → viewed_by T m b (With (vars_of T k) (map (λ v. Variable v) (vars_of T k))) ≡ declared_view T m
  by_own m true = refl
  by_own m false = with_itself T m (vars_of T k)

  viewed_own : (m : MethodId) → viewed_in T m (view T k (own_type T k)) ≡ Some (declared_view T m)
  viewed_own m = ap (viewed_in T m) view_own ∙ ap Some (ap (viewed_by T m (is_static T m)) seeing_own ∙ by_own m (is_static T m))

  -- a method of the class as the class has it
  pub declared_here : (m : MethodId) (v : MethodView) → owner T m ≡ k → class_view T k m ≡ Some v → v ≡ declared_view T m
  declared_here m v is e = by (method_owner_of T m) is e
    where
      view_or : MethodView → Option MethodView → MethodView
      view_or w None = w
      view_or w (Some u) = u

      by : (o : Option ClassId) → or_object o ≡ k → viewed_in T m (view_of_owner T (own_type T k) o) ≡ Some v → v ≡ declared_view T m
      by None g h = cc
      by (Some l) g h = sym (ap (view_or v) h) ∙ ap (λ (j : ClassId). view_or v (viewed_in T m (view T j (own_type T k)))) g ∙ ap (view_or v) (viewed_own m)
