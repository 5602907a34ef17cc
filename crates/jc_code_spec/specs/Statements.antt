-- The code of erased statements, one line a form (JLS 14). Nothing is on the stack before one and behind one. What a finally block guards leaves it by a copy of that block, which stands
-- behind the region that it guards: so no copy splits the range of a handler.
use Rattle.std.specs.Prelude.{ℕ, suc, ◌+◌, ◌==◌, ℤ, int_lt, Bool, true, false, List, [], ◌∷◌, ◌++◌, take, Option, Some, None, if◌then◌else◌}
use Rattle.jc_types.specs.declared.erased.Erased.{Erased}
use Rattle.jc_types.specs.declared.form.Primitive.TheVariants.{Int}
use Rattle.jc_types.specs.declared.form.Ty.{Ty}
use Rattle.jc_types.specs.declared.ids.FieldId.{FieldId}
use Rattle.jc_heaps.specs.Classes.{element_of, methods_class}
use Rattle.jc_heaps.specs.Layout.{is_static}
use Rattle.jc_typed.specs.declared.expressions.CallKind.TheVariants.{Virtual}
use Rattle.jc_typed.specs.Trees.{Case, Operand, Operands, NoOperands, MoreOperands, Declared, NoDeclared, MoreDeclared, Stmt, stmt, StmtForm, Empty, Block, Locals, Effect, If, Labelled, While, Do, For, ForArray, ForIterable, Switch, Return, Break, Continue, Throw, Try, Construct, Initialise, Stmts, NoStmts, MoreStmts, Arms, NoArms, MoreArms, Catches, NoCatches, MoreCatches}
use Rattle.jc_right.specs.Going.{prim, throwable}
use Rattle.jc_right.specs.Values.{declared_type, erased, local_type, operand_type}
use Rattle.jc_types.specs.Accessors.{result_of}
use Rattle.jc_code_spec.specs.Expressions.{Setting, dropped_code, is_void, jump, load_local, mark, operand_code, operands_code, pop_unless, steps_code, store_local, table}
use Rattle.jc_code_spec.specs.Pieces.{Choice, Code, Coder, Exit, Goal, Mark, Of, Select, ToLabel, ToReturn, Unmade, ◌>>◌, hide, label, leaves_by, piece, row, skip}
use Rattle.jc_code_spec.specs.Simple.{OfInt, all_units, alone, array_length, call, call_special, get_element, give_back, load, push_one, push_zero, put_field, put_static, store}

-- where `break` and `continue` of a statement go, and inside of how many `try`s with a finally block that stands
pub record Target : Type 0 where
  pub name : ℕ
  pub breaks : ℕ
  pub continues : ℕ
  pub depth : ℕ

-- the statements round one that may be named, the innermost first
pub record Round : Type 0 where
  pub setting : Setting
  pub targets : List Target

-- ---- labels at which the stack is empty; behind what doesn't complete there stands one, so that dead code has a frame too

abbrev pub here : Round → ℕ → Coder
here R l = mark R.setting [] l

abbrev pub dead : Round → Coder
dead R = label (λ l. here R l)

-- ---- hidden variables stand behind the method's own

abbrev pub all_locals : Setting → ℕ
all_locals C = all_units C.scene.locals

abbrev pub hidden_slot : Setting → Code → ℕ → ℕ
hidden_slot C c h = all_locals C + all_units (take h c.hidden)

abbrev pub load_hidden : Setting → Erased → ℕ → Coder
load_hidden C e h c = load e (hidden_slot C c h) c

abbrev pub store_hidden : Setting → Erased → ℕ → Coder
store_hidden C e h c = store e (hidden_slot C c h) c

-- ---- jumps out of statements

-- by a label of its own, where the copy of the innermost finally block will stand
abbrev pub leave : Goal → Coder
leave g = label (λ l. jump 0xa7 l >> leaves_by (record { label = l; goal = g }))

abbrev pub give_hidden : Setting → Option Erased → Option ℕ → Coder
give_hidden C (Some e) (Some h) = load_hidden C e h >> give_back (Some e)
give_hidden C e h = give_back None

-- where no finally block is left on the way, the jump or the return itself
abbrev pub go_to : Setting → Goal → Coder
go_to C (ToLabel l depth) = if depth == C.depth then jump 0xa7 l else leave (ToLabel l depth)
go_to C (ToReturn h) = if C.depth == 0 then give_hidden C C.scene.result h else leave (ToReturn h)

-- the statement that a jump names
abbrev pub break_goal : ℕ → List Target → Goal
break_goal name [] = ToReturn None
break_goal name (t ∷ ts) = if t.name == name then ToLabel t.breaks t.depth else break_goal name ts

abbrev pub continue_goal : ℕ → List Target → Goal
continue_goal name [] = ToReturn None
continue_goal name (t ∷ ts) = if t.name == name then ToLabel t.continues t.depth else continue_goal name ts

-- inside of a statement that may be named
abbrev pub within : Round → ℕ → ℕ → ℕ → Round
within R name breaks continues =
    record R { targets = record { name = name; breaks = breaks; continues = continues; depth = R.setting.depth } ∷ R.targets }

-- .. and inside of a `try` with a finally block
abbrev pub guarded : Round → Round
guarded R = record R { setting = record R.setting { depth = suc R.setting.depth } }

-- the value of a `return` waits in a hidden variable where it leaves a finally block
abbrev pub return_value : Setting → Option Erased → Coder
return_value C None = go_to C (ToReturn None)
return_value C (Some e) = if C.depth == 0 then give_back (Some e) else hide e (λ h. store_hidden C e h >> leave (ToReturn (Some h)))

-- ---- variables and effects

abbrev pub effect : Setting → Operand → Coder
effect C o = operand_code C [] o >> pop_unless (is_void (table C) o) (operand_type C.scene o)

abbrev pub set_first : Setting → ℕ → Operands → Coder
set_first C n NoOperands = skip
set_first C n (MoreOperands before last) = operand_code C [] last >> store_local C n

abbrev pub declared_code : Setting → Declared → Coder
declared_code C NoDeclared = skip
declared_code C (MoreDeclared before place n value) = declared_code C before >> set_first C n value

-- a test goes to a label where it doesn't hold; one that isn't written always holds
abbrev pub unless_true : Setting → ℕ → Operand → Coder
unless_true C to test = operand_code C [] test >> jump 0x99 to

abbrev pub test_if_any : Setting → ℕ → Operands → Coder
test_if_any C to NoOperands = skip
test_if_any C to (MoreOperands before last) = unless_true C to last

-- an initialiser sets a static field, or one of this object
abbrev pub initialised : Setting → Bool → FieldId → Operand → Coder
initialised C true f value = operand_code C [] value >> put_static (table C) f
initialised C false f value = load_local C 0 >> operand_code C (Of (local_type C.scene 0) ∷ []) value >> put_field (table C) f

-- ---- `switch` (JLS 14.11): labels for each number of statements behind which one stands

-- a label for each case; the last one tells where no key is met and there is no `default`
abbrev pub labelled : List Case → List ℕ → (List ℕ → Coder) → Coder
labelled [] ls f = f ls
labelled (c ∷ cs) ls f = label (λ l. labelled cs (ls ++ l ∷ []) f)

-- in the order of their keys, as lookupswitch wants them (JVMS 6.5); `default` has none
abbrev pub put_in : Choice → List Choice → List Choice
put_in c [] = c ∷ []
put_in c (d ∷ ds) = if int_lt d.key c.key then d ∷ put_in c ds else c ∷ d ∷ ds

abbrev pub put_key : Option ℤ → ℕ → List Choice → List Choice
put_key None to more = more
put_key (Some n) to more = put_in (record { key = n; to = to }) more

abbrev pub choices : List Case → List ℕ → List Choice
choices (c ∷ cs) (l ∷ ls) = put_key c.key l (choices cs ls)
choices cs ls = []

abbrev pub default_to : Option ℤ → ℕ → ℕ → ℕ
default_to None to more = to
default_to (Some n) to more = more

abbrev pub otherwise : List Case → List ℕ → ℕ → ℕ
otherwise (c ∷ cs) (l ∷ ls) end = default_to c.key l (otherwise cs ls end)
otherwise cs ls end = end

-- the labels behind so many statements
abbrev pub marks_at : Round → ℕ → List Case → List ℕ → Coder
marks_at R n (c ∷ cs) (l ∷ ls) = (if c.skips == n then here R l else skip) >> marks_at R n cs ls
marks_at R n cs ls = skip

abbrev pub stmt_count : Stmts → ℕ
stmt_count NoStmts = 0
stmt_count (MoreStmts before last) = suc (stmt_count before)

-- ---- `try` (JLS 14.20)

-- rows for each alternative of a catch clause
abbrev pub rows_of : Setting → ℕ → ℕ → ℕ → List Ty → Coder
rows_of C from to at [] = skip
rows_of C from to at (t ∷ ts) =
    row (record { from = from; to = to; at = at; class = Some (methods_class (erased C.scene t)) }) >> rows_of C from to at ts

-- Copies of a finally block stand behind its region, one for each jump that leaves it, in the order of these, and then the jump goes on
abbrev pub copies : Round → Coder → List Exit → Coder
copies R block [] = skip
copies R block (e ∷ es) = here R e.label >> block >> go_to R.setting e.goal >> copies R block es

-- the jumps that leave a region are collected by themselves
abbrev pub collecting : Coder → (List Exit → Coder) → Coder
collecting inner then_exits c =
    let d = inner (record c { exits = [] }) in
    then_exits d.exits (record d { exits = c.exits })

-- a whole exception is kept in a hidden variable while the block runs, and thrown again
abbrev pub rethrowing : Round → ℕ → Coder → Coder
rethrowing R at block =
    let e = throwable (table R.setting) in
    hide e (λ h. piece (Mark at (Of e ∷ []) R.setting.is_made) >> store_hidden R.setting e h >> block >> load_hidden R.setting e h >> alone 0xbf)

-- The region with its catch clauses and the finally block: behind it stand the handler for all exceptions, the copies for the jumps that leave it, and the copy for its normal end
abbrev pub finished : Round → Coder → (ℕ → Coder) → Coder
finished R block region =
    label (λ from. label (λ to. label (λ all. label (λ end.
    here R from
    >> collecting (region end >> here R to >> row (record { from = from; to = to; at = all; class = None })) (λ exits.
    rethrowing R all block >> copies R block exits >> here R end >> block)))))

-- a region and its catch clauses; what completes normally goes to the end
abbrev pub tried : Round → Coder → (ℕ → ℕ → ℕ → Coder) → ℕ → Coder
tried R body clauses end =
    label (λ from. label (λ to. here R from >> body >> jump 0xa7 end >> here R to >> clauses from to end))

abbrev mutual
  pub stmt_code : Round → Stmt → Coder
  stmt_code R (stmt place form) = stmt_form_code R form

  pub stmt_form_code : Round → StmtForm → Coder
  stmt_form_code R Empty = skip
  stmt_form_code R (Block ss) = stmts_code R ss
  stmt_form_code R (Locals ds) = declared_code R.setting ds
  stmt_form_code R (Effect of_it) = effect R.setting of_it
  stmt_form_code R (If arms other) = label (λ end. arms_code R end arms >> stmts_code R other >> here R end)
  stmt_form_code R (Labelled target body) = label (λ end. stmt_code (within R target end end) body >> here R end)
  stmt_form_code R (While target test body) =
      label (λ again. label (λ end.
      here R again >> unless_true R.setting end test >> stmt_code (within R target end again) body >> jump 0xa7 again >> here R end))
  stmt_form_code R (Do target body test) =
      label (λ top. label (λ again. label (λ end.
      here R top >> stmt_code (within R target end again) body >> here R again >> operand_code R.setting [] test >> jump 0x9a top >> here R end)))
  stmt_form_code R (For target ds before test update body) =
      label (λ top. label (λ again. label (λ end.
      declared_code R.setting ds >> dropped_code R.setting [] before >> here R top >> test_if_any R.setting end test
      >> stmt_code (within R target end again) body >> here R again >> dropped_code R.setting [] update >> jump 0xa7 top >> here R end)))
  stmt_form_code R (ForArray target of_it ty captures ss n body) =
      let e = operand_type R.setting.scene of_it in
      label (λ top. label (λ again. label (λ end.
      hide e (λ array. hide (prim Int) (λ at.
      operand_code R.setting [] of_it >> store_hidden R.setting e array >> push_zero >> store_hidden R.setting (prim Int) at >> here R top
      >> load_hidden R.setting (prim Int) at >> load_hidden R.setting e array >> array_length >> jump 0xa2 end
      >> load_hidden R.setting e array >> load_hidden R.setting (prim Int) at >> get_element (element_of e)
      >> steps_code R.setting (element_of e) ss >> store_local R.setting n
      >> stmt_code (within R target end again) body >> here R again
      >> load_hidden R.setting (prim Int) at >> push_one OfInt >> alone 0x60 >> store_hidden R.setting (prim Int) at >> jump 0xa7 top >> here R end)))))
  stmt_form_code R (ForIterable target of_it ty captures ss n body) =
      let i = R.setting.scene.known.iterating in
      let e = declared_type R.setting.scene (result_of (table R.setting) i.iterator) in
      let f = declared_type R.setting.scene (result_of (table R.setting) i.next) in
      label (λ again. label (λ end.
      hide e (λ iterator.
      operand_code R.setting [] of_it >> call R.setting.program Virtual i.iterator >> store_hidden R.setting e iterator >> here R again
      >> load_hidden R.setting e iterator >> call R.setting.program Virtual i.has_next >> jump 0x99 end
      >> load_hidden R.setting e iterator >> call R.setting.program Virtual i.next >> steps_code R.setting f ss >> store_local R.setting n
      >> stmt_code (within R target end again) body >> jump 0xa7 again >> here R end)))
  stmt_form_code R (Switch target of_it cases ss) =
      label (λ end. labelled cases [] (λ ls.
      operand_code R.setting [] of_it >> piece (Select (otherwise cases ls end) (choices cases ls)) >> dead R
      >> groups_code (within R target end end) cases ls ss >> marks_at R (stmt_count ss) cases ls >> here R end))
  stmt_form_code R (Return value) = operands_code R.setting [] value >> return_value R.setting R.setting.scene.result >> dead R
  stmt_form_code R (Break target) = go_to R.setting (break_goal target R.targets) >> dead R
  stmt_form_code R (Continue target) = go_to R.setting (continue_goal target R.targets) >> dead R
  stmt_form_code R (Throw of_it) = operand_code R.setting [] of_it >> alone 0xbf >> dead R
  stmt_form_code R (Try body catches NoStmts copied) =
      label (λ end. tried R (stmt_code R body) (λ from to out. catches_code R from to out catches) end >> here R end)
  stmt_form_code R (Try body catches (MoreStmts before last) copied) =
      finished R (stmts_code R before >> stmt_code R last)
      (tried (guarded R) (stmt_code (guarded R) body) (λ from to out. catches_code (guarded R) from to out catches))
  stmt_form_code R (Construct m args phase thrown is_raw) =
      load_local R.setting 0 >> operands_code (record R.setting { is_made = false }) (Unmade ∷ []) args >> call_special R.setting.program m
  stmt_form_code R (Initialise f value) = initialised R.setting (is_static (table R.setting) f) f value

  pub stmts_code : Round → Stmts → Coder
  stmts_code R NoStmts = skip
  stmts_code R (MoreStmts before last) = stmts_code R before >> stmt_code R last

  -- the statements of a `switch`, each behind the labels that stand before it
  pub groups_code : Round → List Case → List ℕ → Stmts → Coder
  groups_code R cases ls NoStmts = skip
  groups_code R cases ls (MoreStmts before last) = groups_code R cases ls before >> marks_at R (stmt_count before) cases ls >> stmt_code R last

  -- the arms of an `if`, each behind the tests before it; what is done goes to the end
  pub arms_code : Round → ℕ → Arms → Coder
  arms_code R end NoArms = skip
  arms_code R end (MoreArms before test body) =
      arms_code R end before
      >> label (λ fails. unless_true R.setting fails test >> stmt_code R body >> jump 0xa7 end >> here R fails)

  -- the clauses of a region, the first one first, with their rows
  pub catches_code : Round → ℕ → ℕ → ℕ → Catches → Coder
  catches_code R from to end NoCatches = skip
  catches_code R from to end (MoreCatches before place n types body) =
      catches_code R from to end before
      >> label (λ at. rows_of R.setting from to at types >> piece (Mark at (Of (local_type R.setting.scene n) ∷ []) R.setting.is_made)
      >> store_local R.setting n >> stmt_code R body >> jump 0xa7 end >> dead R)
