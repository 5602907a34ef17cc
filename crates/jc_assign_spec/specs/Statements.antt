-- Definite assignment of one variable through statements (JLS 16.2).
use Rattle.std.specs.Prelude.{ℕ, Bool, true, false, not, ◌&&◌, ◌||◌, List, [], ◌∷◌, ◌++◌, if◌then◌else◌}
use Rattle.jc_rules.specs.declared.rule.Place.{Place}
use Rattle.jc_types.specs.declared.ids.FieldId.{FieldId}
use Rattle.jc_types.specs.declared.form.Ty.{Ty}
use Rattle.jc_typed.specs.Trees.{Case, Operand, Operands, NoOperands, MoreOperands, Declared, NoDeclared, MoreDeclared, Stmt, stmt, StmtForm, Empty, Block, Locals, Effect, If, Labelled, While, Do, For, ForArray, ForIterable, Switch, Return, Break, Continue, Throw, Try, Construct, Initialise, Stmts, NoStmts, MoreStmts, Arms, NoArms, MoreArms, Catches, NoCatches, MoreCatches}
use Rattle.jc_flow_spec.specs.Statements.{has_default, is_labelled, stmt_count}
use Rattle.jc_assign_spec.specs.declared.marks.Mark.{Mark}
use Rattle.jc_assign_spec.specs.declared.marks.Jump.TheVariants as jump
use Rattle.jc_assign_spec.specs.declared.marks.Exit.{Exit}
use Rattle.jc_assign_spec.specs.declared.marks.Variable.{Variable as Tracked}
use Rattle.jc_assign_spec.specs.Marks.{Known, Split, free, fresh, gone, meet, met, over, declared, given, with_now, with_exits, jumps, landed, cut, alike}
use Rattle.jc_assign_spec.specs.Expressions.{operand_known, operands_known, operand_split, is_local, is_own, named_used}

-- V is a local variable that is declared here
abbrev pub declared_if : Bool → Bool → Known → Known
declared_if true has_value s = declared has_value s
declared_if false has_value s = s

-- V gets a value without an assignment
abbrev pub given_if : Bool → Bool → Known → Known
given_if true fixed s = given fixed s
given_if false fixed s = s

-- several alternatives
abbrev pub are_several : List Ty → Bool
are_several [] = false
are_several (t ∷ []) = false
are_several (t ∷ u ∷ more) = true

-- there is an initialiser
abbrev pub has_value : Operands → Bool
has_value NoOperands = false
has_value (MoreOperands before last) = true

-- a loop's entry: V is unassigned at the begin of a turn, or isn't. The jumps and the broken rules inside of a loop are told apart
abbrev pub opened : Bool → Known → Known
opened u s = record { now = record { set = s.now.set; unset = u }; wrote = s.wrote; fixed = s.fixed; exits = []; broken = [] }

-- behind a loop, which was begun in a state
abbrev pub inside : Known → Known → Known
inside s r = record { now = r.now; wrote = r.wrote; fixed = r.fixed; exits = s.exits ++ r.exits; broken = s.broken ++ r.broken }

-- V is unassigned at the begin of each turn exactly where it is so before the loop, and at the end of a turn when that is assumed
-- (JLS 16.2.10 to 16.2.12)
abbrev pub turns_begin : Mark → Mark → Bool
turns_begin before back = before.unset && back.unset

-- a part whose jumps are told apart
abbrev pub unjumped : Known → Known
unjumped s = with_exits [] s

abbrev pub rejoined : List Exit → Known → Known
rejoined outer s = with_exits (outer ++ s.exits) s

-- V before a `catch` or `finally` behind a part: assigned as before it, unassigned if so before it and the part doesn't assign it
-- (JLS 16.2.15)
abbrev pub entry_of : Mark → Bool → Mark
entry_of m wrote = record { set = m.set; unset = m.unset && not wrote }

-- a part whose assignments are told apart
abbrev pub unwritten : Known → Known
unwritten s = record { now = s.now; wrote = false; fixed = s.fixed; exits = s.exits; broken = s.broken }

abbrev pub also_wrote : Bool → Known → Known
also_wrote before s = record { now = s.now; wrote = before || s.wrote; fixed = s.fixed; exits = s.exits; broken = s.broken }

-- jumps that go through a block behind `finally`, which ends with this mark
abbrev pub exits_over : Mark → List Exit → List Exit
exits_over last [] = []
exits_over last (x ∷ xs) = record { jump = x.jump; mark = over last x.mark } ∷ exits_over last xs

-- behind `finally`: the state before its block, and behind it
abbrev pub passed : List Exit → Known → Known → Known
passed outer b l = with_now (over l.now b.now) (with_exits (outer ++ exits_over l.now b.exits ++ l.exits) l)

-- a list of statements declares V itself
abbrev pub is_declared_in : Tracked → Declared → Bool
is_declared_in var NoDeclared = false
is_declared_in var (MoreDeclared before place n value) = is_local n var || is_declared_in var before

abbrev pub form_declares : Tracked → StmtForm → Bool
form_declares var (Locals ds) = is_declared_in var ds
form_declares var _ = false

abbrev pub stmt_declares : Tracked → Stmt → Bool
stmt_declares var (stmt place form) = form_declares var form

abbrev pub declares : Tracked → Stmts → Bool
declares var NoStmts = false
declares var (MoreStmts before last) = declares var before || stmt_declares var last

-- V at the labels of a switch: a variable of the block itself is unassigned there (JLS 16.2.9)
abbrev pub label_mark : Tracked → Stmts → Mark → Mark
label_mark var ss m = if declares var ss then fresh else m

-- the locals that labels name are used where control comes to the labels
abbrev pub labels_used : Tracked → List Case → Known → Known
labels_used var [] s = s
labels_used var (c ∷ cs) s = labels_used var cs (named_used var c.named s)

-- at a statement of a switch block: where it bears a label, control comes from the selector too
abbrev pub at_label : Mark → Bool → Known → Known
at_label entry labelled s = if labelled then met entry s else s

-- behind a switch: by falling out of it, and from the selector without `default` or to a last label without statements
abbrev pub behind_switch : Mark → Bool → Known → Known
behind_switch entry passes s = if passes then met entry s else s

module _ (var : Tracked) (is_final : Bool) (foreign : Bool → FieldId → Bool) where
  abbrev known_of : Operand → Known → Known
  known_of o s = operand_known var is_final foreign o s

  abbrev knowns_of : Operands → Known → Known
  knowns_of os s = operands_known var is_final foreign os s

  abbrev split_of : Operand → Known → Split
  split_of o s = operand_split var is_final foreign o s

  -- declared variables, from the first one on
  abbrev pub declared_known : Declared → Known → Known
  declared_known NoDeclared s = s
  declared_known (MoreDeclared before place n value) s = declared_if (is_local n var) (has_value value) (knowns_of value (declared_known before s))

  -- the test of a `for`; none always holds
  abbrev pub test_of : Operands → Known → Split
  test_of NoOperands s = record { yes = s; no = free }
  test_of (MoreOperands before test) s = split_of test s

  -- one turn of `while` and `for`: behind it, and at its end
  pub record Turn : Type 0 where
    pub after : Known
    pub back : Mark

  abbrev pub turn_end : Mark → ℕ → (Known → Known) → Known → Turn
  turn_end falses t update b = record { after = landed (jump.Break t) (with_now falses (update (landed (jump.Continue t) b))); back = (update (landed (jump.Continue t) b)).now }

  abbrev pub turn_from : ℕ → (Known → Known) → (Known → Known) → Split → Turn
  turn_from t body update r = turn_end r.no t update (body r.yes)

  abbrev pub loop_of : ℕ → (Known → Split) → (Known → Known) → (Known → Known) → Known → Known
  loop_of t test body update s =
      inside s (turn_from t body update (test (opened (turns_begin s.now (turn_from t body update (test (opened true s))).back) s))).after

  -- one turn of `do` (JLS 16.2.11)
  abbrev pub do_end : ℕ → Split → Turn
  do_end t r = record { after = landed (jump.Break t) (with_now r.no r.yes); back = r.yes.now }

  abbrev pub do_turn : ℕ → (Known → Known) → (Known → Split) → Known → Turn
  do_turn t body test s = do_end t (test (landed (jump.Continue t) (body s)))

  abbrev pub do_of : ℕ → (Known → Known) → (Known → Split) → Known → Known
  do_of t body test s = inside s (do_turn t body test (opened (turns_begin s.now (do_turn t body test (opened true s)).back) s)).after

  -- an enhanced `for` (JLS 16.2.12): its test has no value, and its variable is assigned at each turn
  abbrev pub each_of : ℕ → ℕ → (Known → Known) → Known → Known
  each_of t n body s = loop_of t alike (λ b. body (given_if (is_local n var) false b)) (λ u. u) s

  -- the arms of an `if` from the first one on: `trues` holds behind the earlier branches, and the state where all tests so far failed
  pub record Arm : Type 0 where
    pub trues : Mark
    pub falses : Known

  abbrev pub arm_end : Mark → Mark → Known → Arm
  arm_end trues falses b = record { trues = meet trues b.now; falses = with_now falses b }

  abbrev pub arm_more : Mark → (Known → Known) → Split → Arm
  arm_more trues body r = arm_end trues r.no (body r.yes)

  abbrev pub arms_more : (Known → Split) → (Known → Known) → Arm → Arm
  arms_more test body a = arm_more a.trues body (test a.falses)

  abbrev pub arms_end : (Known → Known) → Arm → Known
  arms_end other a = met a.trues (other a.falses)

  -- a clause: V holds there as before the clauses (JLS 16.2.15)
  abbrev pub clause_of : Mark → ℕ → Bool → (Known → Known) → Known → Known
  clause_of entry n several block s = met s.now (block (given_if (is_local n var) several (with_now entry s)))

  -- the block behind `finally`; `m` is what held before the `try`, and the exits are those of before it
  abbrev pub finally_end : Bool → List Exit → Known → Known → Known
  finally_end wrote outer b l = also_wrote wrote (passed outer b l)

  abbrev pub finally_from : Mark → Bool → List Exit → (Known → Known) → Known → Known
  finally_from m wrote outer last b = finally_end (wrote || b.wrote) outer b (last (with_exits [] (unwritten (with_now (entry_of m b.wrote) b))))

  abbrev pub clauses_from : Mark → (Mark → Known → Known) → Known → Known
  clauses_from m clauses b = clauses (entry_of m b.wrote) b

  -- a switch from its selector on: the locals that its labels name are used there
  abbrev pub switch_end : ℕ → Mark → Bool → Known → Known
  switch_end t entry passes s = landed (jump.Break t) (behind_switch entry passes s)

  abbrev pub switch_from : ℕ → List Case → Stmts → (Mark → Known → Known) → Known → Known
  switch_from t cases ss labelled s =
      switch_end t s.now (not (has_default cases) || is_labelled cases (stmt_count ss)) (labelled (label_mark var ss s.now) (with_now free (labels_used var cases (with_now (label_mark var ss s.now) s))))

  abbrev pub switch_apart : ℕ → List Case → Stmts → (Mark → Known → Known) → Known → Known
  switch_apart t cases ss labelled s = rejoined s.exits (switch_from t cases ss labelled (unjumped s))

  -- a field's initialiser assigns it
  abbrev pub initialised : Bool → Known → Known
  initialised true s = with_now gone s
  initialised false s = s

  -- what behind a `try` without `finally` was written and left
  abbrev pub closed : Bool → List Exit → Known → Known
  closed wrote outer b = also_wrote wrote (with_exits (outer ++ b.exits) b)

  abbrev mutual
    pub stmt_known : Stmt → Known → Known
    stmt_known (stmt p form) s = stmt_form_known p form s

    -- by the form of the statement
    pub stmt_form_known : Place → StmtForm → Known → Known
    stmt_form_known p Empty s = s
    stmt_form_known p (Block ss) s = stmts_known ss s
    stmt_form_known p (Locals ds) s = declared_known ds s
    stmt_form_known p (Effect of_it) s = known_of of_it s
    stmt_form_known p (If arms other) s = arms_end (stmts_known other) (arms_known arms s)
    stmt_form_known p (Labelled t body) s = rejoined s.exits (landed (jump.Break t) (stmt_known body (unjumped s)))
    stmt_form_known p (While t test body) s = loop_of t (split_of test) (stmt_known body) (λ u. u) s
    stmt_form_known p (Do t body test) s = do_of t (stmt_known body) (split_of test) s
    stmt_form_known p (For t ds before test update body) s = loop_of t (test_of test) (stmt_known body) (knowns_of update) (knowns_of before (declared_known ds s))
    stmt_form_known p (ForArray t of_it ty captures steps n body) s = each_of t n (stmt_known body) (known_of of_it s)
    stmt_form_known p (ForIterable t of_it ty captures steps n body) s = each_of t n (stmt_known body) (known_of of_it s)
    stmt_form_known p (Switch t of_it cases ss) s = switch_apart t cases ss (λ m. labelled_known m cases ss) (known_of of_it s)
    stmt_form_known p (Return value) s = jumps jump.Return (knowns_of value s)
    stmt_form_known p (Break t) s = jumps (jump.Break t) s
    stmt_form_known p (Continue t) s = jumps (jump.Continue t) s
    stmt_form_known p (Throw of_it) s = cut (known_of of_it s)
    stmt_form_known p (Try body catches last copies) s =
        finally_known s.now s.wrote s.exits last (clauses_from s.now (λ m. catches_known m catches) (stmt_known body (with_exits [] (unwritten s))))
    stmt_form_known p (Construct m args phase thrown is_raw) s = knowns_of args s
    stmt_form_known p (Initialise f value) s = initialised (is_own true f var) (known_of value s)

    pub stmts_known : Stmts → Known → Known
    stmts_known NoStmts s = s
    stmts_known (MoreStmts before last) s = stmt_known last (stmts_known before s)

    pub labelled_known : Mark → List Case → Stmts → Known → Known
    labelled_known entry cases NoStmts s = s
    labelled_known entry cases (MoreStmts before last) s = stmt_known last (at_label entry (is_labelled cases (stmt_count before)) (labelled_known entry cases before s))

    pub arms_known : Arms → Known → Arm
    arms_known NoArms s = record { trues = free; falses = s }
    arms_known (MoreArms before test taken) s = arms_more (split_of test) (stmt_known taken) (arms_known before s)

    pub catches_known : Mark → Catches → Known → Known
    catches_known entry NoCatches s = s
    catches_known entry (MoreCatches before place n types body) s = clause_of entry n (are_several types) (stmt_known body) (catches_known entry before s)

    pub finally_known : Mark → Bool → List Exit → Stmts → Known → Known
    finally_known m wrote outer NoStmts b = closed wrote outer b
    finally_known m wrote outer (MoreStmts before last) b = finally_from m wrote outer (λ l. stmt_known last (stmts_known before l)) b
