-- Statements are smooth in their units where their parts are.
use Rattle.std.proofs.Common.{◌≡◌, ℕ, suc, ◌≤◌, List, [], ◌∷◌, ◌⊎◌, inl, inr, sym, subst, arith}
use Rattle.std.specs.Prelude.{pos, Bool, true, false, Option, Some, None, drop, ◌==◌, if◌then◌else◌}
use Rattle.jc_types.specs.declared.ids.FieldId.{FieldId}
use Rattle.jc_types.specs.declared.erased.Erased.{Erased}
use Rattle.jc_running.specs.declared.value.Value.{Value}
use Rattle.jc_running.specs.declared.value.Value.TheVariants.{Whole, Long, Address, Null}
use Rattle.jc_running.specs.declared.value.Completion.{Completion}
use Rattle.jc_running.specs.declared.value.Completion.TheVariants.{Normal, Broke, Continued, Returned}
use Rattle.jc_running.specs.declared.value.Turn.{Turn}
use Rattle.jc_running.specs.Outcomes.{give, throw, bind, turns}
use Rattle.jc_running.proofs.Smooth.{Smooth, smooth_less, smooth_next, smooth_instead, smooth_turns, smooth_stop}
use Rattle.jc_heaps.specs.States.{shown_of}
use Rattle.jc_heaps.specs.Numbers.{whole_of}
use Rattle.jc_heaps.specs.Layout.{is_static}
use Rattle.jc_heaps.proofs.Plain.{seq, both, soft}
use Rattle.jc_heaps.proofs.SmoothHeaps as h
use Rattle.jc_erased.specs.declared.program.ErasedProgram.{ErasedProgram}
use Rattle.jc_typed.specs.Trees.{Step, Declared, NoDeclared, MoreDeclared, Stmt, stmt, StmtForm, Empty, Block, Locals, Effect, If, Labelled, While, Do, For, ForArray, ForIterable, Switch, Return, Break, Continue, Throw, Try, Construct, Initialise, Arms, NoArms, MoreArms, Catches, NoCatches, MoreCatches}
use Rattle.jc_heaps.specs.Erases.{ErasedState}
use Rattle.jc_erased.specs.Programs.{ErasedRun}
use Rattle.jc_meaning.specs.Programs.{stmt_list}
use Rattle.jc_erased.specs.Expressions.{Inner}
use Rattle.jc_erased.specs.Statements.{run_all, set_first, declare, if_any, after_body, while_turn, do_turn, take_element, is_before, array_turn, iterator_turn, run_from, is_any_of, caught, try, finally, initialise, form_act, stmt_act}
use Rattle.jc_erased.proofs.SmoothExpressions as e
use Rattle.jc_erased.proofs.SmoothExpressions.{Levels}

-- what is smooth up to a bound is so up to a smaller one
lower : (D E : ℕ) → E ≤ D → (r r' : Inner) → Levels D r r' → Levels E r r'
lower D E hE r r' L = record {
  exprs = λ x. smooth_less ErasedState shown_of D 1 E 1 _ _ hE (omega arith) (L.exprs x);
  bodies = λ m. smooth_less ErasedState shown_of D 1 E 1 _ _ hE (omega arith) (L.bodies m);
  readies = λ k. smooth_less ErasedState shown_of D 0 E 0 _ _ hE (omega arith) (L.readies k);
}

module _ (P : ErasedProgram) (r r' : Inner) (run run' : Stmt → ErasedRun Completion) (k k' : ℕ) where
  -- up to a bound
  module _ (D : ℕ) (L : Levels D r r') (SR : (t : Stmt) → Smooth ErasedState shown_of D 1 (run t) (run' t)) where
    abbrev Steady : {A : Type 0} → ErasedRun A → ErasedRun A → Type 0
    Steady m m' = Smooth ErasedState shown_of D 0 m m'

    andso : {A B : Type 0} {m m' : ErasedRun A} {f f' : A → ErasedRun B} → Steady m m' → ((a : A) → Steady (f a) (f' a)) → Steady (bind m f) (bind m' f')
    andso sm sf = seq ErasedState shown_of D sm sf

    gives : {A : Type 0} (a : A) → Steady (give a) (give a)
    gives a = h.gives Erased (Unit {0}) (Unit {0}) D a

    runs : (t : Stmt) → Steady (run t) (run' t)
    runs t = soft ErasedState shown_of D (SR t)

    pub all_s : (ss : List Stmt) → Steady (run_all P r run k ss) (run_all P r' run' k' ss)
    all_s [] = gives Normal
    all_s (s ∷ ss) = andso (runs s) (smooth_next ErasedState shown_of D _ _ (all_s ss))

    set_first_s : (n : ℕ) (vs : List Value) → Steady (set_first P r run k n vs) (set_first P r' run' k' n vs)
    set_first_s n [] = gives tt
    set_first_s n (v ∷ vs) = h.sets_local Erased (Unit {0}) (Unit {0}) D n v

    declare_s : (ds : Declared) → Steady (declare P r run k ds) (declare P r' run' k' ds)
    declare_s NoDeclared = gives tt
    declare_s (MoreDeclared before place n value) = andso (declare_s before) (λ _. andso (e.values_s D P r r' L value) (set_first_s n))

    if_any_s : (arms : Arms) {m m' : ErasedRun Completion} → Steady m m' → Steady (if_any P r run k arms m) (if_any P r' run' k' arms m')
    if_any_s NoArms sm = sm
    if_any_s (MoreArms before test x) sm = if_any_s before (andso (e.value_s D P r r' L test) (λ v. e.if_s D P r r' L v (runs x) sm))

    if_then : {A : Type 0} (b : Bool) {m m' n n' : ErasedRun A} → Steady m m' → Steady n n' → Steady (if b then m else n) (if b then m' else n')
    if_then true sm sn = sm
    if_then false sm sn = sn

    after_s : {I : Type 0} (own : ℕ) (c : Completion) {m m' : ErasedRun (Turn I)} → Steady m m' → Steady (after_body P r run k own c m) (after_body P r' run' k' own c m')
    after_s own Normal sm = sm
    after_s own (Broke t) sm = if_then (t == own) (gives _) (gives _)
    after_s own (Continued t) sm = if_then (t == own) sm (gives _)
    after_s own (Returned v) sm = gives _

    while_s : (own : ℕ) {t t' : ErasedRun Value} {b b' : ErasedRun Completion} {u u' : ErasedRun (Unit {0})} → Steady t t' → Steady b b' → Steady u u' → Steady (while_turn P r run k own t b u) (while_turn P r' run' k' own t' b' u')
    while_s own st sb su = andso st (λ v. e.if_s D P r r' L v (andso sb (λ c. after_s own c (andso su (λ _. gives _)))) (gives _))

    do_s : (own : ℕ) {b b' : ErasedRun Completion} {t t' : ErasedRun Value} → Steady b b' → Steady t t' → Steady (do_turn P r run k own b t) (do_turn P r' run' k' own b' t')
    do_s own sb st = andso sb (λ c. after_s own c (andso st (λ v. e.if_s D P r r' L v (gives _) (gives _))))

    take_s : (ss : List Step) (n : ℕ) (v : Value) → Steady (take_element P r run k ss n v) (take_element P r' run' k' ss n v)
    take_s ss n v = andso (e.stepping D P r r' L ss v) (λ x. h.sets_local Erased (Unit {0}) (Unit {0}) D n x)

    before_s : (i : ℕ) (v : Value) → Steady (is_before P r run k i v) (is_before P r' run' k' i v)
    before_s i (Whole n) = gives _
    before_s i (Long n) = h.wrongs Erased (Unit {0}) (Unit {0}) D
    before_s i (Address a) = h.wrongs Erased (Unit {0}) (Unit {0}) D
    before_s i Null = h.wrongs Erased (Unit {0}) (Unit {0}) D

    array_s : (own : ℕ) (array : Value) {take take' : Value → ErasedRun (Unit {0})} {b b' : ErasedRun Completion} → ((v : Value) → Steady (take v) (take' v)) → Steady b b' → (i : ℕ) → Steady (array_turn P r run k own array take b i) (array_turn P r' run' k' own array take' b' i)
    array_s own array st sb i =
        andso (e.length_s D P r r' L array) (λ n. andso (before_s i n) (λ more. e.choose_s D P r r' L more
        (andso (e.get_element_s D P r r' L array (Whole (pos i))) (λ v. andso (st v) (λ _. andso sb (λ c. after_s own c (gives _)))))
        (gives _)))

    iterator_s : (own : ℕ) (iterator : Value) {take take' : Value → ErasedRun (Unit {0})} {b b' : ErasedRun Completion} → ((v : Value) → Steady (take v) (take' v)) → Steady b b' → Steady (iterator_turn P r run k own iterator take b) (iterator_turn P r' run' k' own iterator take' b')
    iterator_s own iterator st sb =
        andso (e.virtuals D P r r' L P.known.iterating.has_next iterator []) (λ more. e.if_s D P r r' L more
        (andso (e.virtuals D P r r' L P.known.iterating.next iterator []) (λ v. andso (st v) (λ _. andso sb (λ c. after_s own c (gives _)))))
        (gives _))

    from_s : (ss : List Stmt) (o : Option ℕ) → Steady (run_from P r run k ss o) (run_from P r' run' k' ss o)
    from_s ss None = gives _
    from_s ss (Some n) = all_s (drop n ss)

    caught_s : (cs : Catches) (a : ℕ) (x : Erased) {m m' : ErasedRun Completion} → Steady m m' → Steady (caught P r run k cs a x m) (caught P r' run' k' cs a x m')
    caught_s NoCatches a x sm = sm
    caught_s (MoreCatches before place n types body) a x sm =
        caught_s before a x (if_then (is_any_of P r run k x types) (andso (h.sets_local Erased (Unit {0}) (Unit {0}) D n (Address a)) (λ _. runs body)) sm)

    throws : {A : Type 0} (a : ℕ) → Steady {A = A} (throw a) (throw a)
    throws a = h.throws Erased (Unit {0}) (Unit {0}) D a

    try_s : (body : Stmt) (cs : Catches) → Steady (try P r run k body cs) (try P r' run' k' body cs)
    try_s body cs = both ErasedState shown_of D (runs body) gives (λ a. andso (h.objects Erased (Unit {0}) (Unit {0}) D a) (λ o. caught_s cs a o.kept (throws a)))

    finally_s : {m m' : ErasedRun Completion} → Steady m m' → (ss : List Stmt) → Steady (finally P r run k m ss) (finally P r' run' k' m' ss)
    finally_s sm [] = sm
    finally_s sm (s ∷ ss) = both ErasedState shown_of D sm
        (λ c. andso (all_s (s ∷ ss)) (smooth_instead ErasedState shown_of D _ _ (gives c)))
        (λ a. andso (all_s (s ∷ ss)) (smooth_instead ErasedState shown_of D _ _ (throws a)))

    initialise_s : (f : FieldId) (v : Value) → Steady (initialise P r run k f v) (initialise P r' run' k' f v)
    initialise_s f v = if_then (is_static P.table f) (e.set_static_s D P r r' L f v) (andso (h.looks Erased (Unit {0}) (Unit {0}) D _) (λ o. e.set_field_s D P r r' L f o v))

  -- loops, whose turns may be one more, or none at all
  module _ (kk : (k' ≡ suc k) ⊎ ((k ≡ 0) × (k' ≡ 0))) (L : Levels k r r') (SR : (t : Stmt) → Smooth ErasedState shown_of k 1 (run t) (run' t)) where
    at : (E : ℕ) → E ≤ k → Levels E r r'
    at E hE = lower k E hE r r' L

    runs_at : (E : ℕ) → E ≤ k → (t : Stmt) → Smooth ErasedState shown_of E 1 (run t) (run' t)
    runs_at E hE t = smooth_less ErasedState shown_of k 1 E 1 _ _ hE (omega arith) (SR t)

    abbrev Here : {A : Type 0} → ErasedRun A → ErasedRun A → Type 0
    Here m m' = Smooth ErasedState shown_of k 0 m m'

    go : {A B : Type 0} {m m' : ErasedRun A} {f f' : A → ErasedRun B} → Here m m' → ((a : A) → Here (f a) (f' a)) → Here (bind m f) (bind m' f')
    go sm sf = seq ErasedState shown_of k sm sf

    give_s : {A : Type 0} (a : A) → Here (give a) (give a)
    give_s a = h.gives Erased (Unit {0}) (Unit {0}) k a

    loops_by : {I : Type 0} (turn turn' : I → ErasedRun (Turn I)) → ((E : ℕ) → E ≤ k → (i : I) → Smooth ErasedState shown_of E 0 (turn i) (turn' i)) → (i : I) → (k' ≡ suc k) ⊎ ((k ≡ 0) × (k' ≡ 0)) → Here (turns k turn i) (turns k' turn' i)
    loops_by turn turn' st i (inl more) = subst (λ n. Here (turns k turn i) (turns n turn' i)) (sym more) (smooth_turns ErasedState shown_of k turn turn' st i)
    loops_by turn turn' st i (inr none) =
        subst (λ n. Here (turns k turn i) (turns n turn' i)) (sym none.1)
        (subst (λ n. Smooth ErasedState shown_of k 0 (turns n turn i) (turns 0 turn' i)) (sym none.0) (smooth_stop ErasedState shown_of k 0))

    loops : {I : Type 0} {turn turn' : I → ErasedRun (Turn I)} → ((E : ℕ) → E ≤ k → (i : I) → Smooth ErasedState shown_of E 0 (turn i) (turn' i)) → (i : I) → Here (turns k turn i) (turns k' turn' i)
    loops {turn = turn} {turn' = turn'} st i = loops_by turn turn' st i kk

    form_s : (f : StmtForm) → Here (form_act P r run k f) (form_act P r' run' k' f)
    form_s Empty = give_s _
    form_s (Block ss) = all_s k L SR (stmt_list ss)
    form_s (Locals ds) = go (declare_s k L SR ds) (λ _. give_s _)
    form_s (Effect o) = go (e.value_s k P r r' L o) (λ _. give_s _)
    form_s (If arms other) = if_any_s k L SR arms (all_s k L SR (stmt_list other))
    form_s (Labelled target body) = go (runs k L SR body) (λ c. give_s _)
    form_s (While target test body) = loops (λ E hE i. while_s E (at E hE) (runs_at E hE) target (e.value_s E P r r' (at E hE) test) (runs E (at E hE) (runs_at E hE) body) (h.gives Erased (Unit {0}) (Unit {0}) E tt)) tt
    form_s (Do target body test) = loops (λ E hE i. do_s E (at E hE) (runs_at E hE) target (runs E (at E hE) (runs_at E hE) body) (e.value_s E P r r' (at E hE) test)) tt
    form_s (For target ds before test update body) =
        go (declare_s k L SR ds) (λ _. go (e.values_s k P r r' L before) (λ _.
        loops (λ E hE i. while_s E (at E hE) (runs_at E hE) target
        (seq ErasedState shown_of E (e.values_s E P r r' (at E hE) test) (λ vs. h.gives Erased (Unit {0}) (Unit {0}) E _))
        (runs E (at E hE) (runs_at E hE) body)
        (seq ErasedState shown_of E (e.values_s E P r r' (at E hE) update) (λ vs. h.gives Erased (Unit {0}) (Unit {0}) E tt))) tt))
    form_s (ForArray target o ty cs ss n body) =
        go (e.value_s k P r r' L o) (λ array. loops (λ E hE i. array_s E (at E hE) (runs_at E hE) target array (take_s E (at E hE) (runs_at E hE) ss n) (runs E (at E hE) (runs_at E hE) body) i) 0)
    form_s (ForIterable target o ty cs ss n body) =
        go (e.value_s k P r r' L o) (λ v. go (e.virtuals k P r r' L P.known.iterating.iterator v []) (λ iterator.
        loops (λ E hE i. iterator_s E (at E hE) (runs_at E hE) target iterator (take_s E (at E hE) (runs_at E hE) ss n) (runs E (at E hE) (runs_at E hE) body)) tt))
    form_s (Switch target o cases ss) =
        go (e.value_s k P r r' L o) (λ v. go (h.somes Erased (Unit {0}) (Unit {0}) k (whole_of v)) (λ n. go (from_s k L SR (stmt_list ss) _) (λ c. give_s _)))
    form_s (Return value) = go (e.values_s k P r r' L value) (λ vs. give_s _)
    form_s (Break target) = give_s _
    form_s (Continue target) = give_s _
    form_s (Throw o) = go (e.value_s k P r r' L o) (λ v. go (e.address_s k P r r' L v) (λ a. h.throws Erased (Unit {0}) (Unit {0}) k a))
    form_s (Try body cs last copies) = finally_s k L SR (try_s k L SR body cs) (stmt_list last)
    form_s (Construct m args phase thrown is_raw) = go (e.values_s k P r r' L args) (λ vs. go (h.looks Erased (Unit {0}) (Unit {0}) k _) (λ o. go (e.directs k P r r' L m o vs) (λ _. give_s _)))
    form_s (Initialise f value) = go (e.value_s k P r r' L value) (λ v. go (initialise_s k L SR f v) (λ _. give_s _))

    pub stmt_s : (t : Stmt) → Here (stmt_act P r run k t) (stmt_act P r' run' k' t)
    stmt_s (stmt place form) = form_s form
