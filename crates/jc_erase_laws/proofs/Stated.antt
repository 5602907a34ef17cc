-- Statements are alike where their parts are.
use Rattle.std.proofs.Common.{◌≡◌, ℕ, zero, suc, List, [], ◌∷◌, map, drop, refl, sym, ap, ◌∙◌, subst, Option, Some, None}
use Rattle.std.specs.Prelude.{ℤ, pos, true, ◌==◌, if◌then◌else◌}
use Rattle.jc_rules.specs.declared.rule.Place.{Place}
use Rattle.jc_types.specs.declared.erased.Erased.{Erased}
use Rattle.jc_types.specs.declared.form.Ty.{Ty, out-Ty}
use Rattle.jc_types.specs.declared.ids.FieldId.{FieldId}
use Rattle.jc_types.specs.declared.table.Table.{Table}
use Rattle.jc_types.specs.Erasing.{erasure, own_base}
use Rattle.jc_running.specs.declared.value.Completion.{Completion}
use Rattle.jc_running.specs.declared.value.Completion.TheVariants.{Normal, Broke, Continued, Returned}
use Rattle.jc_running.specs.declared.value.Turn.{Turn}
use Rattle.jc_running.specs.declared.value.Value.{Value}
use Rattle.jc_running.specs.declared.value.Value.TheVariants.{Whole, Long, Address, Null}
use Rattle.jc_running.specs.Outcomes.{give, throw, bind, behind, next, instead, turns}
use Rattle.jc_heaps.specs.Classes.{is_of}
use Rattle.jc_heaps.specs.Layout.{is_static}
use Rattle.jc_heaps.specs.Numbers.{whole_of}
use Rattle.jc_heaps.specs.States.{set_local}
use Rattle.jc_heaps.proofs.Erases as erases
use Rattle.jc_typed.specs.declared.lists.Capture.{Capture}
use Rattle.jc_typed.specs.declared.program.TypedProgram.{TypedProgram}
use Rattle.jc_typed.specs.Trees.{Step, Case, Declared, NoDeclared, MoreDeclared, Stmt, stmt, StmtForm, Empty, Block, Locals, Effect, If, Labelled, While, Do, For, ForArray, ForIterable, Switch, Return, Break, Continue, Throw, Try, Construct, Initialise, Stmts, NoStmts, MoreStmts, Arms, NoArms, MoreArms, Catches, NoCatches, MoreCatches}
use Rattle.jc_meaning.specs.declared.frame.Frame.{Frame}
use Rattle.jc_meaning.specs.declared.frame.Read.{Read}
use Rattle.jc_meaning.specs.Expressions as te
use Rattle.jc_meaning.specs.Kept.{TypedRun}
use Rattle.jc_meaning.specs.Programs.{stmt_list, stmts_before}
use Rattle.jc_meaning.specs.Statements as t
use Rattle.jc_erased.specs.declared.program.ErasedProgram.{ErasedProgram}
use Rattle.jc_erased.specs.Expressions as ee
use Rattle.jc_erased.specs.Programs.{ErasedRun}
use Rattle.jc_erased.specs.Statements as e
use Rattle.jc_erased.specs.Steps as es
use Rattle.jc_erase_spec.proofs.Calls.{over}
use Rattle.jc_erase_spec.proofs.Keeps as k
use Rattle.jc_erase_trees.specs.Trees.{become_types, become_steps, become_declared, become_stmt, become_stmt_form, become_stmts, become_arms, become_catches}
use Rattle.jc_erase_trees.proofs.Erased as trees
use Rattle.jc_erase_laws.specs.Firm.{AreBases, FirmArms, FirmCatches, FirmDeclared, FirmEach, FirmStmt, FirmStmtForm, FirmStmts}
use Rattle.jc_erase_laws.proofs.Called.{Premises}
use Rattle.jc_erase_laws.proofs.Expressed as x
use Rattle.jc_erase_laws.proofs.Expressed.{Good, Levels}
use Rattle.jc_erase_laws.proofs.Made as made
use Rattle.jc_erase_laws.proofs.Types as types
use Rattle.jc_erase_laws.proofs.Types.{HasBase}

-- ---- lists of statements from the first one on
firm_before : (T : Table) (ss : Stmts) (more : List Stmt) → FirmStmts T ss → FirmEach T more → FirmEach T (stmts_before ss more)
firm_before T NoStmts more h hs = hs
firm_before T (MoreStmts before last) more h hs = firm_before T before (last ∷ more) h.0 (h.1, hs)

pub firm_list : (T : Table) (ss : Stmts) → FirmStmts T ss → FirmEach T (stmt_list ss)
firm_list T ss h = firm_before T ss [] h tt

firm_drop : (T : Table) (n : ℕ) (ss : List Stmt) → FirmEach T ss → FirmEach T (drop n ss)
firm_drop T zero ss h = h
firm_drop T (suc n) [] h = tt
firm_drop T (suc n) (s ∷ ss) h = firm_drop T n ss h.1

drop_becomes : (g : Ty → Ty) (n : ℕ) (ss : List Stmt) → drop n (map (become_stmt g) ss) ≡ map (become_stmt g) (drop n ss)
drop_becomes g zero ss = refl
drop_becomes g (suc n) [] = refl
drop_becomes g (suc n) (s ∷ ss) = drop_becomes g n ss

module _ (P : TypedProgram) (F : ErasedProgram) (H : Premises P F) where
  abbrev T : Table
  T = P.table

  abbrev E : ErasedProgram
  E = over P F

  abbrev Alike : {A : Type 0} → TypedRun A → ErasedRun A → Type 0
  Alike m m' = k.Alike P.table m m'

  andso : {A B : Type 0} {m : TypedRun A} {m' : ErasedRun A} {f : A → TypedRun B} {f' : A → ErasedRun B} → Alike m m' → ((a : A) → Alike (f a) (f' a)) → Alike (bind m f) (bind m' f')
  andso em ef = k.andso P.table em ef

  gives : {A : Type 0} (a : A) → Alike (give a) (give a)
  gives a = k.gives P.table a

  module _ (r : te.Inner) (r' : ee.Inner) (L : Levels P r r') (g : Ty → Ty) (G : Good g) (run : Stmt → TypedRun Completion) (run' : Stmt → ErasedRun Completion)
      (S : (s : Stmt) → FirmStmt T s → Alike (run s) (run' (become_stmt g s))) (n : ℕ) where
    next_s : (c : Completion) {m : TypedRun Completion} {m' : ErasedRun Completion} → Alike m m' → Alike (next c m) (next c m')
    next_s Normal em = em
    next_s (Broke d) em = gives _
    next_s (Continued d) em = gives _
    next_s (Returned v) em = gives _

    instead_s : (c : Completion) {m : TypedRun Completion} {m' : ErasedRun Completion} → Alike m m' → Alike (instead c m) (instead c m')
    instead_s Normal em = em
    instead_s (Broke d) em = gives _
    instead_s (Continued d) em = gives _
    instead_s (Returned v) em = gives _

    pub all_s : (ss : List Stmt) → FirmEach T ss → Alike (t.run_all P r run n ss) (e.run_all E r' run' n (map (become_stmt g) ss))
    all_s [] h = gives Normal
    all_s (s ∷ ss) h = andso (S s h.0) (λ c. next_s c (all_s ss h.1))

    -- a list of statements as a tree holds it
    by_list : {A : Type 0} (ss : Stmts) {m : TypedRun A} (f : List Stmt → ErasedRun A) → Alike m (f (map (become_stmt g) (stmt_list ss))) → Alike m (f (stmt_list (become_stmts g ss)))
    by_list ss {m = m} f em = subst (λ xs. Alike m (f xs)) (sym (trees.list_becomes g ss)) em

    block_s : (ss : Stmts) → FirmStmts T ss → Alike (t.run_all P r run n (stmt_list ss)) (e.run_all E r' run' n (stmt_list (become_stmts g ss)))
    block_s ss h = by_list ss (e.run_all E r' run' n) (all_s (stmt_list ss) (firm_list T ss h))

    set_first_s : (i : ℕ) (vs : List Value) → Alike (t.set_first P r run n i vs) (e.set_first E r' run' n i vs)
    set_first_s i [] = gives tt
    set_first_s i (v ∷ vs) = made.sets_local T i v

    declare_s : (ds : Declared) → FirmDeclared T ds → Alike (t.declare P r run n ds) (e.declare E r' run' n (become_declared g ds))
    declare_s NoDeclared h = gives tt
    declare_s (MoreDeclared before place i value) h = andso (declare_s before h.0) (λ _. andso (x.values_s P F H r r' L g G value h.1) (set_first_s i))

    if_any_s : (arms : Arms) → FirmArms T arms → {m : TypedRun Completion} {m' : ErasedRun Completion} → Alike m m' → Alike (t.if_any P r run n arms m) (e.if_any E r' run' n (become_arms g arms) m')
    if_any_s NoArms h em = em
    if_any_s (MoreArms before test taken) h em =
        if_any_s before h.0 (andso (x.value_s P F H r r' L g G test h.1) (λ v. x.if_s P F H r r' L g G v (S taken h.2) em))

    after_s : {I : Type 0} (own : ℕ) (c : Completion) {m : TypedRun (Turn I)} {m' : ErasedRun (Turn I)} → Alike m m' → Alike (t.after_body P r run n own c m) (e.after_body E r' run' n own c m')
    after_s own Normal em = em
    after_s own (Broke d) em = made.if_alike T (d == own) (gives _) (gives _)
    after_s own (Continued d) em = made.if_alike T (d == own) em (gives _)
    after_s own (Returned v) em = gives _

    while_s : (own : ℕ) {m : TypedRun Value} {m' : ErasedRun Value} {b : TypedRun Completion} {b' : ErasedRun Completion} {u : TypedRun (Unit {0})} {u' : ErasedRun (Unit {0})} →
        Alike m m' → Alike b b' → Alike u u' → Alike (t.while_turn P r run n own m b u) (e.while_turn E r' run' n own m' b' u')
    while_s own em eb eu = andso em (λ v. x.if_s P F H r r' L g G v (andso eb (λ c. after_s own c (andso eu (λ _. gives _)))) (gives _))

    do_s : (own : ℕ) {b : TypedRun Completion} {b' : ErasedRun Completion} {m : TypedRun Value} {m' : ErasedRun Value} → Alike b b' → Alike m m' → Alike (t.do_turn P r run n own b m) (e.do_turn E r' run' n own b' m')
    do_s own eb em = andso eb (λ c. after_s own c (andso em (λ v. x.if_s P F H r r' L g G v (gives _) (gives _))))

    turns_s : {I : Type 0} {turn : I → TypedRun (Turn I)} {turn' : I → ErasedRun (Turn I)} → ((i : I) → Alike (turn i) (turn' i)) → (i : I) → Alike (turns n turn i) (turns n turn' i)
    turns_s {turn = turn} {turn' = turn'} et i = record { same = erases.erases_turns Ty Frame (List Read) (erasure T []) n turn turn' (λ i. (et i).same) i }

    take_s : (place : Place) (ty : Ty) (cs : List Capture) (ss : List Step) (i : ℕ) (v : Value) → Alike (t.take_element P r run n place ty cs ss i v) (e.take_element E r' run' n (become_steps g ss) i v)
    take_s place ty cs ss i v =
        x.first_silent P F H tt (x.capture_s P F H r r' L g G v cs) (λ _.
        x.noted_first P F H r r' L g G place ty v {f' = λ w. bind (es.steps E r'.body r'.ready (become_steps g ss) w) (set_local i)} (λ w. andso (x.stepping P F H r r' L g G ss w) (made.sets_local T i)))

    is_before_s : (i : ℕ) (v : Value) → Alike (t.is_before P r run n i v) (e.is_before E r' run' n i v)
    is_before_s i (Whole m) = gives _
    is_before_s i (Long m) = k.wrongs T
    is_before_s i (Address a) = k.wrongs T
    is_before_s i Null = k.wrongs T

    array_s : (own : ℕ) (array : Value) {take : Value → TypedRun (Unit {0})} {take' : Value → ErasedRun (Unit {0})} {b : TypedRun Completion} {b' : ErasedRun Completion} →
        ((v : Value) → Alike (take v) (take' v)) → Alike b b' → (i : ℕ) → Alike (t.array_turn P r run n own array take b i) (e.array_turn E r' run' n own array take' b' i)
    array_s own array et eb i =
        andso (x.length_s P F H r r' L g G array) (λ m. andso (is_before_s i m) (λ more. x.choose_s P F H r r' L g G more
        (andso (x.get_element_s P F H r r' L g G array (Whole (pos i))) (λ v. andso (et v) (λ _. andso eb (λ c. after_s own c (gives _)))))
        (gives _)))

    iterator_s : (own : ℕ) (iterator : Value) {take : Value → TypedRun (Unit {0})} {take' : Value → ErasedRun (Unit {0})} {b : TypedRun Completion} {b' : ErasedRun Completion} →
        ((v : Value) → Alike (take v) (take' v)) → Alike b b' → Alike (t.iterator_turn P r run n own iterator take b) (e.iterator_turn E r' run' n own iterator take' b')
    iterator_s own iterator et eb =
        andso (x.virtuals P F H r r' L g G P.known.iterating.has_next iterator [] []) (λ more. x.if_s P F H r r' L g G more
        (andso (x.virtuals P F H r r' L g G P.known.iterating.next iterator [] []) (λ v. andso (et v) (λ _. andso eb (λ c. after_s own c (gives _)))))
        (gives _))

    -- labels of a `switch` are looked up alike
    key_same : (i : ℤ) (key : Option ℤ) → t.is_key P r run n i key ≡ e.is_key E r' run' n i key
    key_same i (Some key) = refl
    key_same i None = refl

    labelled_same : (i : ℤ) (cases : List Case) → t.labelled P r run n i cases ≡ e.labelled E r' run' n i cases
    labelled_same i [] = refl
    labelled_same i (y ∷ cases) = rw (key_same i y.key, labelled_same i cases) refl

    is_default_same : (key : Option ℤ) → t.is_default P r run n key ≡ e.is_default E r' run' n key
    is_default_same (Some key) = refl
    is_default_same None = refl

    default_same : (cases : List Case) → t.default_in P r run n cases ≡ e.default_in E r' run' n cases
    default_same [] = refl
    default_same (y ∷ cases) = rw (is_default_same y.key, default_same cases) refl

    or_same : (o p : Option ℕ) → t.or_else P r run n o p ≡ e.or_else E r' run' n o p
    or_same (Some i) p = refl
    or_same None p = refl

    from_s : (ss : List Stmt) → FirmEach T ss → (o : Option ℕ) → Alike (t.run_from P r run n ss o) (e.run_from E r' run' n (map (become_stmt g) ss) o)
    from_s ss h None = gives _
    from_s ss h (Some i) =
        subst (λ xs. Alike (t.run_from P r run n ss (Some i)) (e.run_all E r' run' n xs)) (sym (drop_becomes g i ss)) (all_s (drop i ss) (firm_drop T i ss h))

    switched_s : (cases : List Case) (ss : List Stmt) → FirmEach T ss → (i : ℤ) → Alike (t.switched P r run n cases ss i) (e.switched E r' run' n cases (map (become_stmt g) ss) i)
    switched_s cases ss h i =
        let typed = t.or_else P r run n (t.labelled P r run n i cases) (t.default_in P r run n cases) in
        let same : typed ≡ e.or_else E r' run' n (e.labelled E r' run' n i cases) (e.default_in E r' run' n cases) =
        or_same (t.labelled P r run n i cases) (t.default_in P r run n cases)
        ∙ ap (λ o. e.or_else E r' run' n o (t.default_in P r run n cases)) (labelled_same i cases)
        ∙ ap (e.or_else E r' run' n (e.labelled E r' run' n i cases)) (default_same cases) in
        subst (λ o. Alike (t.run_from P r run n ss typed) (e.run_from E r' run' n (map (become_stmt g) ss) o)) same (from_s ss h typed)

    value_or_same : (vs : List Value) → t.value_or_null P r run n vs ≡ e.value_or_null E r' run' n vs
    value_or_same [] = refl
    value_or_same (v ∷ vs) = refl

    true_or_same : (vs : List Value) → t.true_or P r run n vs ≡ e.true_or E r' run' n vs
    true_or_same [] = refl
    true_or_same (v ∷ vs) = refl

    -- the alternatives of a clause erase to themselves
    base_same : (y : Ty) → HasBase (own_base (out-Ty y)) y → erasure T [] (g y) ≡ erasure T [] y
    base_same y h = types.erasure_base T [] (own_base (out-Ty y)) (g y) (G.bases (own_base (out-Ty y)) y h) ∙ sym (types.erasure_base T [] (own_base (out-Ty y)) y h)

    any_of_same : (c : Erased) (ts : List Ty) → AreBases ts → t.is_any_of P r run n c ts ≡ e.is_any_of E r' run' n c (become_types g ts)
    any_of_same c [] h = refl
    any_of_same c (y ∷ ts) h =
        ap (λ z. if is_of T c z then true else t.is_any_of P r run n c ts) (sym (base_same y (record { layer = h.0; base = refl })))
        ∙ ap (λ b. if is_of T c (erasure T [] (g y)) then true else b) (any_of_same c ts h.1)

    caught_s : (cs : Catches) → FirmCatches T cs → (a : ℕ) (c : Erased) {m : TypedRun Completion} {m' : ErasedRun Completion} → Alike m m' → Alike (t.caught P r run n cs a c m) (e.caught E r' run' n (become_catches g cs) a c m')
    caught_s NoCatches h a c em = em
    caught_s (MoreCatches before place i types body) h a c {m = m} {m' = m'} em =
        caught_s before h.0 a c
        (subst (λ b. Alike (if t.is_any_of P r run n c types then behind (set_local i (Address a)) (run body) else m) (if b then behind (set_local i (Address a)) (run' (become_stmt g body)) else m')) (any_of_same c types h.1)
        (made.if_alike T (t.is_any_of P r run n c types) (andso (made.sets_local T i (Address a)) (λ _. S body h.2)) em))

    throws : {A : Type 0} (a : ℕ) → Alike {A = A} (throw a) (throw a)
    throws a = k.throws T a

    try_s : (body : Stmt) (cs : Catches) → FirmStmt T body → FirmCatches T cs → Alike (t.try P r run n body cs) (e.try E r' run' n (become_stmt g body) (become_catches g cs))
    try_s body cs h hs = made.both T (S body h) gives (λ a. k.objects T a (λ o. caught_s cs hs a (erasure T [] o.kept) (throws a)))

    finally_s : {m : TypedRun Completion} {m' : ErasedRun Completion} → Alike m m' → (ss : List Stmt) → FirmEach T ss → Alike (t.finally P r run n m ss) (e.finally E r' run' n m' (map (become_stmt g) ss))
    finally_s em [] h = em
    finally_s em (s ∷ ss) h =
        made.both T em (λ c. andso (all_s (s ∷ ss) h) (λ d. instead_s d (gives c)))
        (λ a. andso (all_s (s ∷ ss) h) (λ d. instead_s d (throws a)))

    initialise_s : (f : FieldId) (v : Value) → Alike (t.initialise P r run n f v) (e.initialise E r' run' n f v)
    initialise_s f v = made.if_alike T (is_static T f) (x.set_static_s P F H r r' L g G f v) (andso (made.locals T 0) (λ o. x.set_field_s P F H r r' L g G f o v))

    normally_s : {A : Type 0} {m : TypedRun A} {m' : ErasedRun A} → Alike m m' → Alike (t.normally P r run n m) (e.normally E r' run' n m')
    normally_s em = andso em (λ _. gives _)

    form_s : (place : Place) (f : StmtForm) → FirmStmtForm T f → Alike (t.form_act P r run n place f) (e.form_act E r' run' n (become_stmt_form g f))
    form_s place Empty h = gives _
    form_s place (Block ss) h = block_s ss h
    form_s place (Locals ds) h = normally_s (declare_s ds h)
    form_s place (Effect o) h = normally_s (x.value_s P F H r r' L g G o h)
    form_s place (If arms other) h = if_any_s arms h.0 (block_s other h.1)
    form_s place (Labelled target body) h = andso (S body h) (λ c. gives _)
    form_s place (While target test body) h = turns_s (λ i. while_s target (x.value_s P F H r r' L g G test h.0) (S body h.1) (gives tt)) tt
    form_s place (Do target body test) h = turns_s (λ i. do_s target (S body h.0) (x.value_s P F H r r' L g G test h.1)) tt
    form_s place (For target ds before test update body) h =
        andso (declare_s ds h.0) (λ _. andso (x.values_s P F H r r' L g G before h.1) (λ _.
        turns_s (λ i. while_s target
        (andso (x.values_s P F H r r' L g G test h.2) (λ vs. subst (λ v. Alike (give (t.true_or P r run n vs)) (give v)) (true_or_same vs) (gives _)))
        (S body h.4)
        (andso (x.values_s P F H r r' L g G update h.3) (λ vs. gives tt))) tt))
    form_s place (ForArray target o ty cs ss i body) h =
        andso (x.value_s P F H r r' L g G o h.0) (λ array. turns_s (array_s target array (take_s place ty cs ss i) (S body h.1)) 0)
    form_s place (ForIterable target o ty cs ss i body) h =
        andso (x.value_s P F H r r' L g G o h.0) (λ v. andso (x.virtuals P F H r r' L g G P.known.iterating.iterator v [] []) (λ iterator.
        turns_s (λ _. iterator_s target iterator (take_s place ty cs ss i) (S body h.1)) tt))
    form_s place (Switch target o cases ss) h =
        andso (x.value_s P F H r r' L g G o h.0) (λ v. andso (made.somes T (whole_of v)) (λ i. andso
        (by_list ss (λ xs. e.switched E r' run' n cases xs i) (switched_s cases (stmt_list ss) (firm_list T ss h.1) i)) (λ c. gives _)))
    form_s place (Return value) h =
        andso (x.values_s P F H r r' L g G value h) (λ vs. subst (λ v. Alike (give (Returned (t.value_or_null P r run n vs))) (give (Returned v))) (value_or_same vs) (gives _))
    form_s place (Break target) h = gives _
    form_s place (Continue target) h = gives _
    form_s place (Throw o) h = andso (x.value_s P F H r r' L g G o h) (λ v. andso (k.addresses T P.known v) (λ a. throws a))
    form_s place (Try body cs last copies) h =
        by_list last (e.finally E r' run' n (e.try E r' run' n (become_stmt g body) (become_catches g cs))) (finally_s (try_s body cs h.0 h.1) (stmt_list last) (firm_list T last h.2))
    form_s place (Construct m args phase thrown is_raw) h =
        andso (x.values_s P F H r r' L g G args h) (λ vs. andso (made.locals T 0) (λ o. normally_s (x.directs P F H r r' L g G m o vs [])))
    form_s place (Initialise f value) h = andso (x.value_s P F H r r' L g G value h) (λ v. normally_s (initialise_s f v))

    pub stmt_s : (s : Stmt) → FirmStmt T s → Alike (t.stmt_act P r run n s) (e.stmt_act E r' run' n (become_stmt g s))
    stmt_s (stmt place form) h = form_s place form h
