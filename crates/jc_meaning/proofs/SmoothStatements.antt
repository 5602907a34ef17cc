-- Statements are smooth in their units where their parts are.
use Rattle.std.proofs.Common.{◌≡◌, ℕ, suc, ◌≤◌, List, [], ◌∷◌, ◌⊎◌, inl, inr, sym, subst, arith}
use Rattle.std.specs.Prelude.{pos, Bool, true, false, Option, Some, None, drop, ◌==◌, if◌then◌else◌}
use Rattle.jc_rules.specs.declared.rule.Place.{Place}
use Rattle.jc_types.specs.declared.form.Ty.{Ty}
use Rattle.jc_types.specs.declared.ids.FieldId.{FieldId}
use Rattle.jc_types.specs.declared.erased.Erased.{Erased}
use Rattle.jc_running.specs.declared.value.Value.{Value}
use Rattle.jc_running.specs.declared.value.Value.TheVariants.{Whole, Long, Address, Null}
use Rattle.jc_running.specs.declared.value.Completion.{Completion}
use Rattle.jc_running.specs.declared.value.Completion.TheVariants.{Normal, Broke, Continued, Returned}
use Rattle.jc_running.specs.declared.value.Turn.{Turn}
use Rattle.jc_running.specs.Outcomes.{give, throw, bind, turns}
use Rattle.jc_running.proofs.Smooth.{Smooth, smooth_less, smooth_next, smooth_instead, smooth_turns, smooth_stop}
use Rattle.jc_heaps.specs.States.{shown_of}
use Rattle.jc_heaps.specs.Numbers.{whole_of}
use Rattle.jc_heaps.specs.Layout.{is_static}
use Rattle.jc_heaps.proofs.Plain.{seq, both, soft}
use Rattle.jc_heaps.proofs.SmoothHeaps as h
use Rattle.jc_typed.specs.declared.lists.Capture.{Capture}
use Rattle.jc_typed.specs.declared.program.TypedProgram.{TypedProgram}
use Rattle.jc_typed.specs.Trees.{Step, Declared, NoDeclared, MoreDeclared, Stmt, stmt, StmtForm, Empty, Block, Locals, Effect, If, Labelled, While, Do, For, ForArray, ForIterable, Switch, Return, Break, Continue, Throw, Try, Construct, Initialise, Arms, NoArms, MoreArms, Catches, NoCatches, MoreCatches}
use Rattle.jc_meaning.specs.declared.frame.Frame.{Frame}
use Rattle.jc_meaning.specs.declared.frame.Read.{Read}
use Rattle.jc_meaning.specs.Kept.{TypedState, TypedRun, typed_keeping}
use Rattle.jc_meaning.specs.Programs.{stmt_list}
use Rattle.jc_meaning.specs.Expressions.{Inner}
use Rattle.jc_meaning.specs.Statements.{run_all, set_first, declare, if_any, after_body, while_turn, do_turn, take_element, is_before, array_turn, iterator_turn, run_from, is_any_of, caught, try, finally, initialise, form_act, stmt_act}
use Rattle.jc_meaning.proofs.SmoothExpressions as e
use Rattle.jc_meaning.proofs.SmoothExpressions.{Levels}

-- what is smooth up to a bound is so up to a smaller one
lower : (D E : ℕ) → E ≤ D → (r r' : Inner) → Levels D r r' → Levels E r r'
lower D E hE r r' L = record {
  exprs = λ x. smooth_less TypedState shown_of D 1 E 1 _ _ hE (omega arith) (L.exprs x);
  bodies = λ m. smooth_less TypedState shown_of D 1 E 1 _ _ hE (omega arith) (L.bodies m);
  readies = λ k. smooth_less TypedState shown_of D 0 E 0 _ _ hE (omega arith) (L.readies k);
}

module _ (P : TypedProgram) (r r' : Inner) (run run' : Stmt → TypedRun Completion) (k k' : ℕ) where
  -- up to a bound
  module _ (D : ℕ) (L : Levels D r r') (SR : (t : Stmt) → Smooth TypedState shown_of D 1 (run t) (run' t)) where
    abbrev Steady : {A : Type 0} → TypedRun A → TypedRun A → Type 0
    Steady m m' = Smooth TypedState shown_of D 0 m m'

    andso : {A B : Type 0} {m m' : TypedRun A} {f f' : A → TypedRun B} → Steady m m' → ((a : A) → Steady (f a) (f' a)) → Steady (bind m f) (bind m' f')
    andso sm sf = seq TypedState shown_of D sm sf

    gives : {A : Type 0} (a : A) → Steady (give a) (give a)
    gives a = h.gives Ty Frame (List Read) D a

    runs : (t : Stmt) → Steady (run t) (run' t)
    runs t = soft TypedState shown_of D (SR t)

    pub all_s : (ss : List Stmt) → Steady (run_all P r run k ss) (run_all P r' run' k' ss)
    all_s [] = gives Normal
    all_s (s ∷ ss) = andso (runs s) (smooth_next TypedState shown_of D _ _ (all_s ss))

    set_first_s : (n : ℕ) (vs : List Value) → Steady (set_first P r run k n vs) (set_first P r' run' k' n vs)
    set_first_s n [] = gives tt
    set_first_s n (v ∷ vs) = h.sets_local Ty Frame (List Read) D n v

    declare_s : (ds : Declared) → Steady (declare P r run k ds) (declare P r' run' k' ds)
    declare_s NoDeclared = gives tt
    declare_s (MoreDeclared before place n value) = andso (declare_s before) (λ _. andso (e.values_s D P r r' L value) (set_first_s n))

    if_any_s : (arms : Arms) {m m' : TypedRun Completion} → Steady m m' → Steady (if_any P r run k arms m) (if_any P r' run' k' arms m')
    if_any_s NoArms sm = sm
    if_any_s (MoreArms before test x) sm = if_any_s before (andso (e.value_s D P r r' L test) (λ v. e.if_s D P r r' L v (runs x) sm))

    if_then : {A : Type 0} (b : Bool) {m m' n n' : TypedRun A} → Steady m m' → Steady n n' → Steady (if b then m else n) (if b then m' else n')
    if_then true sm sn = sm
    if_then false sm sn = sn

    after_s : {I : Type 0} (own : ℕ) (c : Completion) {m m' : TypedRun (Turn I)} → Steady m m' → Steady (after_body P r run k own c m) (after_body P r' run' k' own c m')
    after_s own Normal sm = sm
    after_s own (Broke t) sm = if_then (t == own) (gives _) (gives _)
    after_s own (Continued t) sm = if_then (t == own) sm (gives _)
    after_s own (Returned v) sm = gives _

    while_s : (own : ℕ) {t t' : TypedRun Value} {b b' : TypedRun Completion} {u u' : TypedRun (Unit {0})} → Steady t t' → Steady b b' → Steady u u' → Steady (while_turn P r run k own t b u) (while_turn P r' run' k' own t' b' u')
    while_s own st sb su = andso st (λ v. e.if_s D P r r' L v (andso sb (λ c. after_s own c (andso su (λ _. gives _)))) (gives _))

    do_s : (own : ℕ) {b b' : TypedRun Completion} {t t' : TypedRun Value} → Steady b b' → Steady t t' → Steady (do_turn P r run k own b t) (do_turn P r' run' k' own b' t')
    do_s own sb st = andso sb (λ c. after_s own c (andso st (λ v. e.if_s D P r r' L v (gives _) (gives _))))

    take_s : (place : Place) (ty : Ty) (cs : List Capture) (ss : List Step) (n : ℕ) (v : Value) → Steady (take_element P r run k place ty cs ss n v) (take_element P r' run' k' place ty cs ss n v)
    take_s place ty cs ss n v = andso (e.capture_s D P r r' L v cs) (λ _. andso (e.note_s D P r r' L place ty v) (λ w. andso (e.stepping D P r r' L ss w) (λ x. h.sets_local Ty Frame (List Read) D n x)))

    before_s : (i : ℕ) (v : Value) → Steady (is_before P r run k i v) (is_before P r' run' k' i v)
    before_s i (Whole n) = gives _
    before_s i (Long n) = h.wrongs Ty Frame (List Read) D
    before_s i (Address a) = h.wrongs Ty Frame (List Read) D
    before_s i Null = h.wrongs Ty Frame (List Read) D

    array_s : (own : ℕ) (array : Value) {take take' : Value → TypedRun (Unit {0})} {b b' : TypedRun Completion} → ((v : Value) → Steady (take v) (take' v)) → Steady b b' → (i : ℕ) → Steady (array_turn P r run k own array take b i) (array_turn P r' run' k' own array take' b' i)
    array_s own array st sb i =
        andso (e.length_s D P r r' L array) (λ n. andso (before_s i n) (λ more. e.choose_s D P r r' L more
        (andso (e.get_element_s D P r r' L array (Whole (pos i))) (λ v. andso (st v) (λ _. andso sb (λ c. after_s own c (gives _)))))
        (gives _)))

    iterator_s : (own : ℕ) (iterator : Value) {take take' : Value → TypedRun (Unit {0})} {b b' : TypedRun Completion} → ((v : Value) → Steady (take v) (take' v)) → Steady b b' → Steady (iterator_turn P r run k own iterator take b) (iterator_turn P r' run' k' own iterator take' b')
    iterator_s own iterator st sb =
        andso (e.virtuals D P r r' L P.known.iterating.has_next iterator [] []) (λ more. e.if_s D P r r' L more
        (andso (e.virtuals D P r r' L P.known.iterating.next iterator [] []) (λ v. andso (st v) (λ _. andso sb (λ c. after_s own c (gives _)))))
        (gives _))

    from_s : (ss : List Stmt) (o : Option ℕ) → Steady (run_from P r run k ss o) (run_from P r' run' k' ss o)
    from_s ss None = gives _
    from_s ss (Some n) = all_s (drop n ss)

    caught_s : (cs : Catches) (a : ℕ) (x : Erased) {m m' : TypedRun Completion} → Steady m m' → Steady (caught P r run k cs a x m) (caught P r' run' k' cs a x m')
    caught_s NoCatches a x sm = sm
    caught_s (MoreCatches before place n types body) a x sm =
        caught_s before a x (if_then (is_any_of P r run k x types) (andso (h.sets_local Ty Frame (List Read) D n (Address a)) (λ _. runs body)) sm)

    throws : {A : Type 0} (a : ℕ) → Steady {A = A} (throw a) (throw a)
    throws a = h.throws Ty Frame (List Read) D a

    try_s : (body : Stmt) (cs : Catches) → Steady (try P r run k body cs) (try P r' run' k' body cs)
    try_s body cs = both TypedState shown_of D (runs body) gives (λ a. andso (h.objects Ty Frame (List Read) D a) (λ o. caught_s cs a ((typed_keeping P.table).erased o.kept) (throws a)))

    finally_s : {m m' : TypedRun Completion} → Steady m m' → (ss : List Stmt) → Steady (finally P r run k m ss) (finally P r' run' k' m' ss)
    finally_s sm [] = sm
    finally_s sm (s ∷ ss) = both TypedState shown_of D sm
        (λ c. andso (all_s (s ∷ ss)) (smooth_instead TypedState shown_of D _ _ (gives c)))
        (λ a. andso (all_s (s ∷ ss)) (smooth_instead TypedState shown_of D _ _ (throws a)))

    initialise_s : (f : FieldId) (v : Value) → Steady (initialise P r run k f v) (initialise P r' run' k' f v)
    initialise_s f v = if_then (is_static P.table f) (e.set_static_s D P r r' L f v) (andso (h.looks Ty Frame (List Read) D _) (λ o. e.set_field_s D P r r' L f o v))

  -- loops, whose turns may be one more, or none at all
  module _ (kk : (k' ≡ suc k) ⊎ ((k ≡ 0) × (k' ≡ 0))) (L : Levels k r r') (SR : (t : Stmt) → Smooth TypedState shown_of k 1 (run t) (run' t)) where
    at : (E : ℕ) → E ≤ k → Levels E r r'
    at E hE = lower k E hE r r' L

    runs_at : (E : ℕ) → E ≤ k → (t : Stmt) → Smooth TypedState shown_of E 1 (run t) (run' t)
    runs_at E hE t = smooth_less TypedState shown_of k 1 E 1 _ _ hE (omega arith) (SR t)

    abbrev Here : {A : Type 0} → TypedRun A → TypedRun A → Type 0
    Here m m' = Smooth TypedState shown_of k 0 m m'

    go : {A B : Type 0} {m m' : TypedRun A} {f f' : A → TypedRun B} → Here m m' → ((a : A) → Here (f a) (f' a)) → Here (bind m f) (bind m' f')
    go sm sf = seq TypedState shown_of k sm sf

    give_s : {A : Type 0} (a : A) → Here (give a) (give a)
    give_s a = h.gives Ty Frame (List Read) k a

    loops_by : {I : Type 0} (turn turn' : I → TypedRun (Turn I)) → ((E : ℕ) → E ≤ k → (i : I) → Smooth TypedState shown_of E 0 (turn i) (turn' i)) → (i : I) → (k' ≡ suc k) ⊎ ((k ≡ 0) × (k' ≡ 0)) → Here (turns k turn i) (turns k' turn' i)
    loops_by turn turn' st i (inl more) = subst (λ n. Here (turns k turn i) (turns n turn' i)) (sym more) (smooth_turns TypedState shown_of k turn turn' st i)
    loops_by turn turn' st i (inr none) =
        subst (λ n. Here (turns k turn i) (turns n turn' i)) (sym none.1)
        (subst (λ n. Smooth TypedState shown_of k 0 (turns n turn i) (turns 0 turn' i)) (sym none.0) (smooth_stop TypedState shown_of k 0))

    loops : {I : Type 0} {turn turn' : I → TypedRun (Turn I)} → ((E : ℕ) → E ≤ k → (i : I) → Smooth TypedState shown_of E 0 (turn i) (turn' i)) → (i : I) → Here (turns k turn i) (turns k' turn' i)
    loops {turn = turn} {turn' = turn'} st i = loops_by turn turn' st i kk

    form_s : (place : Place) (f : StmtForm) → Here (form_act P r run k place f) (form_act P r' run' k' place f)
    form_s place Empty = give_s _
    form_s place (Block ss) = all_s k L SR (stmt_list ss)
    form_s place (Locals ds) = go (declare_s k L SR ds) (λ _. give_s _)
    form_s place (Effect o) = go (e.value_s k P r r' L o) (λ _. give_s _)
    form_s place (If arms other) = if_any_s k L SR arms (all_s k L SR (stmt_list other))
    form_s place (Labelled target body) = go (runs k L SR body) (λ c. give_s _)
    form_s place (While target test body) = loops (λ E hE i. while_s E (at E hE) (runs_at E hE) target (e.value_s E P r r' (at E hE) test) (runs E (at E hE) (runs_at E hE) body) (h.gives Ty Frame (List Read) E tt)) tt
    form_s place (Do target body test) = loops (λ E hE i. do_s E (at E hE) (runs_at E hE) target (runs E (at E hE) (runs_at E hE) body) (e.value_s E P r r' (at E hE) test)) tt
    form_s place (For target ds before test update body) =
        go (declare_s k L SR ds) (λ _. go (e.values_s k P r r' L before) (λ _.
        loops (λ E hE i. while_s E (at E hE) (runs_at E hE) target
        (seq TypedState shown_of E (e.values_s E P r r' (at E hE) test) (λ vs. h.gives Ty Frame (List Read) E _))
        (runs E (at E hE) (runs_at E hE) body)
        (seq TypedState shown_of E (e.values_s E P r r' (at E hE) update) (λ vs. h.gives Ty Frame (List Read) E tt))) tt))
    form_s place (ForArray target o ty cs ss n body) =
        go (e.value_s k P r r' L o) (λ array. loops (λ E hE i. array_s E (at E hE) (runs_at E hE) target array (take_s E (at E hE) (runs_at E hE) place ty cs ss n) (runs E (at E hE) (runs_at E hE) body) i) 0)
    form_s place (ForIterable target o ty cs ss n body) =
        go (e.value_s k P r r' L o) (λ v. go (e.virtuals k P r r' L P.known.iterating.iterator v [] []) (λ iterator.
        loops (λ E hE i. iterator_s E (at E hE) (runs_at E hE) target iterator (take_s E (at E hE) (runs_at E hE) place ty cs ss n) (runs E (at E hE) (runs_at E hE) body)) tt))
    form_s place (Switch target o cases ss) =
        go (e.value_s k P r r' L o) (λ v. go (h.somes Ty Frame (List Read) k (whole_of v)) (λ n. go (from_s k L SR (stmt_list ss) _) (λ c. give_s _)))
    form_s place (Return value) = go (e.values_s k P r r' L value) (λ vs. give_s _)
    form_s place (Break target) = give_s _
    form_s place (Continue target) = give_s _
    form_s place (Throw o) = go (e.value_s k P r r' L o) (λ v. go (e.address_s k P r r' L v) (λ a. h.throws Ty Frame (List Read) k a))
    form_s place (Try body cs last copies) = finally_s k L SR (try_s k L SR body cs) (stmt_list last)
    form_s place (Construct m args phase thrown is_raw) = go (e.values_s k P r r' L args) (λ vs. go (h.looks Ty Frame (List Read) k _) (λ o. go (e.directs k P r r' L m o vs []) (λ _. give_s _)))
    form_s place (Initialise f value) = go (e.value_s k P r r' L value) (λ v. go (initialise_s k L SR f v) (λ _. give_s _))

    pub stmt_s : (t : Stmt) → Here (stmt_act P r run k t) (stmt_act P r' run' k' t)
    stmt_s (stmt place form) = form_s place form
