-- The fault that a check answers is the first of all faults.
use Rattle.std.proofs.Common.{◌≡◌, ◌↔◌, ℕ, ◌+◌, ◌==◌, Bool, true, false, Option, Some, None, List, [], ◌∷◌, ◌++◌, length, refl, sym, ap, subst, ◌∙◌}
use Rattle.jc_types.specs.declared.form.Ty.{Ty, Ty-F, out-Ty}
use Rattle.jc_types.specs.declared.form.Arg.{Arg, out-Arg}
use Rattle.jc_types.specs.declared.ids.VarId.{VarId}
use Rattle.jc_types.specs.declared.table.Table.{Table}
use Rattle.jc_types.specs.declared.environment.Bounds.{Bounds}
use Rattle.jc_types.specs.Accessors.{vars_of}
use Rattle.jc_types.specs.Inside.{inside}
use Rattle.jc_judge.specs.declared.question.Answer.{Answer}
use Rattle.jc_judge.specs.declared.question.Answer.TheVariants.{Yes, No, Deep}
use Rattle.jc_judge.specs.declared.faults.TypeFault.{TypeFault}
use Rattle.jc_judge.specs.Kinds.{Layer}
use Rattle.jc_judge.specs.Capturing.{captured_args, fresh_args, put_bounds, meets_at}
use Rattle.jc_judge.specs.WellFormed.{upper_parts, lower_parts, is_primitive_arg, bare, arg_fault, OrElse, KindChecked, ArgsChecked, CountChecked, OwnChecked, OwnChecked_at, AllChecked, IsChecked}
use Rattle.jc_judge.specs.Forming.{all_hold, reference_faults, faults_of_arg, arg_faults, args_faults, counted_faults, faults_at, class_faults, all_faults, type_faults, first_fault}
use Rattle.jc_judge_laws.proofs.Decides.{hold_right, hold_single}

reference_first : (i : ℕ) (upper lower : Answer) (meets : Bool) → arg_fault i upper lower meets ≡ first_fault (reference_faults i upper lower meets)
reference_first i No lower meets = refl
reference_first i Yes No meets = refl
reference_first i Deep No meets = refl
reference_first i Yes Yes true = refl
reference_first i Yes Deep true = refl
reference_first i Deep Yes true = refl
reference_first i Deep Deep true = refl
reference_first i Yes Yes false = refl
reference_first i Yes Deep false = refl
reference_first i Deep Yes false = refl
reference_first i Deep Deep false = refl

-- the first of two lists' faults
or_rest : Option TypeFault → Option TypeFault → Option TypeFault
or_rest None o = o
or_rest (Some f) o = Some f

first_joined : (fs gs : List TypeFault) → first_fault (fs ++ gs) ≡ or_rest (first_fault fs) (first_fault gs)
unfolding or_rest
first_joined [] gs = refl
first_joined (f ∷ fs) gs = refl

or_else_first : (f : Option TypeFault) (rest : Option TypeFault → Type 0) (g found : Option TypeFault) → ((h : Option TypeFault) → rest h → h ≡ g) → OrElse f rest found → found ≡ or_rest f g
unfolding or_rest
or_else_first None rest g found k h = k found h
or_else_first (Some f) rest g found k h = h

or_else_met : (f : Option TypeFault) (rest : Option TypeFault → Type 0) (g : Option TypeFault) → rest g → OrElse f rest (or_rest f g)
unfolding or_rest
or_else_met None rest g h = h
or_else_met (Some f) rest g h = refl

module _ (T : Table) where
  module _ (full plain : List Bounds) where
    kind_first : (bounds : List Ty) (i : ℕ) (s : Ty) (a : Arg) (f : Option TypeFault) (b : Bool) → KindChecked T full plain bounds i s a f b → f ≡ first_fault (faults_of_arg T full plain bounds i s a b)
    kind_first bounds i s a f true h = h
    kind_first bounds i s a f false h =
        let upper : h.upper ≡ all_hold T 64 full (upper_parts s bounds) = hold_single T 64 full (upper_parts s bounds) h.upper h.upper_is in
        let lower : h.lower ≡ all_hold T 64 plain (lower_parts (out-Arg a) bounds) = hold_single T 64 plain (lower_parts (out-Arg a) bounds) h.lower h.lower_is in
        h.found_is ∙ reference_first i h.upper h.lower (meets_at T bounds (out-Arg a))
        ∙ ap (λ u. first_fault (reference_faults i u h.lower (meets_at T bounds (out-Arg a)))) upper
        ∙ ap (λ l. first_fault (reference_faults i (all_hold T 64 full (upper_parts s bounds)) l (meets_at T bounds (out-Arg a)))) lower

    kind_met : (bounds : List Ty) (i : ℕ) (s : Ty) (a : Arg) (b : Bool) → KindChecked T full plain bounds i s a (first_fault (faults_of_arg T full plain bounds i s a b)) b
    kind_met bounds i s a true = refl
    kind_met bounds i s a false = record {
      upper = all_hold T 64 full (upper_parts s bounds);
      lower = all_hold T 64 plain (lower_parts (out-Arg a) bounds);
      upper_is = hold_right T 64 full (upper_parts s bounds);
      lower_is = hold_right T 64 plain (lower_parts (out-Arg a) bounds);
      found_is = sym (reference_first i (all_hold T 64 full (upper_parts s bounds)) (all_hold T 64 plain (lower_parts (out-Arg a) bounds)) (meets_at T bounds (out-Arg a)));
    }

    args_first : (vars : List VarId) (by : List Ty) (i : ℕ) (ps : List VarId) (ss : List Ty) (args : List Arg) (found : Option TypeFault)
        → ArgsChecked T full plain vars by i ps ss args found → found ≡ first_fault (args_faults T full plain vars by i ps ss args)
    args_first vars by i [] ss args found h = h
    args_first vars by i (p ∷ ps) [] args found h = h
    args_first vars by i (p ∷ ps) (s ∷ ss) [] found h = h
    args_first vars by i (p ∷ ps) (s ∷ ss) (a ∷ args) found h =
        let here : h.0 ≡ first_fault (arg_faults T full plain (put_bounds T vars by p) i s a) = kind_first (put_bounds T vars by p) i s a h.0 (is_primitive_arg (out-Arg a)) h.1 in
        or_else_first h.0 (ArgsChecked T full plain vars by (i + 1) ps ss args) (first_fault (args_faults T full plain vars by (i + 1) ps ss args)) found (args_first vars by (i + 1) ps ss args) h.2
        ∙ ap (λ f. or_rest f (first_fault (args_faults T full plain vars by (i + 1) ps ss args))) here
        ∙ sym (first_joined (arg_faults T full plain (put_bounds T vars by p) i s a) (args_faults T full plain vars by (i + 1) ps ss args))

    args_met : (vars : List VarId) (by : List Ty) (i : ℕ) (ps : List VarId) (ss : List Ty) (args : List Arg) → ArgsChecked T full plain vars by i ps ss args (first_fault (args_faults T full plain vars by i ps ss args))
    args_met vars by i [] ss args = refl
    args_met vars by i (p ∷ ps) [] args = refl
    args_met vars by i (p ∷ ps) (s ∷ ss) [] = refl
    args_met vars by i (p ∷ ps) (s ∷ ss) (a ∷ args) =
        let here = first_fault (arg_faults T full plain (put_bounds T vars by p) i s a) in
        let rest = first_fault (args_faults T full plain vars by (i + 1) ps ss args) in (
          here,
          kind_met (put_bounds T vars by p) i s a (is_primitive_arg (out-Arg a)),
          subst (OrElse here (ArgsChecked T full plain vars by (i + 1) ps ss args)) (sym (first_joined (arg_faults T full plain (put_bounds T vars by p) i s a) (args_faults T full plain vars by (i + 1) ps ss args)))
              (or_else_met here (ArgsChecked T full plain vars by (i + 1) ps ss args) rest (args_met vars by (i + 1) ps ss args)),
        )

  module _ (env : List Bounds) where
    count_first : (vars : List VarId) (args : List Arg) (b : Bool) (found : Option TypeFault) → CountChecked T env vars args b found → found ≡ first_fault (counted_faults T env vars args b)
    count_first vars args false found h = h
    count_first vars args true found h =
        let by = captured_args (length env) args in
        let fresh = fresh_args T vars by vars args in
        args_first (env ++ fresh) (env ++ bare fresh) vars by 0 vars by args found h

    count_met : (vars : List VarId) (args : List Arg) (b : Bool) → CountChecked T env vars args b (first_fault (counted_faults T env vars args b))
    count_met vars args false = refl
    count_met vars args true =
        let by = captured_args (length env) args in
        let fresh = fresh_args T vars by vars args in
        args_met (env ++ fresh) (env ++ bare fresh) vars by 0 vars by args

    layer_first : (l : Layer) (found : Option TypeFault) → OwnChecked_at T env l found → found ≡ first_fault (faults_at T env l)
    layer_first (Ty-F.Class id args) found h = count_first (vars_of T id) args (length args == length (vars_of T id)) found h
    layer_first (Ty-F.Prim p) found h = h
    layer_first (Ty-F.Raw id) found h = h
    layer_first (Ty-F.Array t n) found h = h
    layer_first (Ty-F.Variable v) found h = h
    layer_first (Ty-F.Captured c) found h = h
    layer_first (Ty-F.Meet ts) found h = h
    layer_first Ty-F.NullTy found h = h

    layer_met : (l : Layer) → OwnChecked_at T env l (first_fault (faults_at T env l))
    layer_met (Ty-F.Class id args) = count_met (vars_of T id) args (length args == length (vars_of T id))
    layer_met (Ty-F.Prim p) = refl
    layer_met (Ty-F.Raw id) = refl
    layer_met (Ty-F.Array t n) = refl
    layer_met (Ty-F.Variable v) = refl
    layer_met (Ty-F.Captured c) = refl
    layer_met (Ty-F.Meet ts) = refl
    layer_met Ty-F.NullTy = refl

    own_first : (t : Ty) (found : Option TypeFault) → OwnChecked T env t found → found ≡ first_fault (class_faults T env t)
    unfolding OwnChecked class_faults
    own_first t found h = layer_first (out-Ty t) found h

    own_met : (t : Ty) → OwnChecked T env t (first_fault (class_faults T env t))
    unfolding OwnChecked class_faults
    own_met t = layer_met (out-Ty t)

    all_first : (ts : List Ty) (found : Option TypeFault) → AllChecked T env ts found → found ≡ first_fault (all_faults T env ts)
    all_first [] found h = h
    all_first (t ∷ ts) found h =
        or_else_first h.0 (AllChecked T env ts) (first_fault (all_faults T env ts)) found (all_first ts) h.2
        ∙ ap (λ f. or_rest f (first_fault (all_faults T env ts))) (own_first t h.0 h.1) ∙ sym (first_joined (class_faults T env t) (all_faults T env ts))

    all_met : (ts : List Ty) → AllChecked T env ts (first_fault (all_faults T env ts))
    all_met [] = refl
    all_met (t ∷ ts) =
        let here = first_fault (class_faults T env t) in
        (here, own_met t, subst (OrElse here (AllChecked T env ts)) (sym (first_joined (class_faults T env t) (all_faults T env ts))) (or_else_met here (AllChecked T env ts) (first_fault (all_faults T env ts)) (all_met ts)))

    pub checked_first : (t : Ty) (found : Option TypeFault) → IsChecked T env t found ↔ (found ≡ first_fault (type_faults T env t))
    checked_first t found = (all_first (inside t) found, λ e. subst (AllChecked T env (inside t)) (sym e) (all_met (inside t)))
