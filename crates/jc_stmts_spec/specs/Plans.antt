-- A body as a flat list, in the order of the source: which locals come into scope and leave it, which expressions are asked and what for, and the rules that are
-- broken whatever the types are (JLS 6.3, 14). No type is asked for it.
use Rattle.std.specs.Prelude.{ℕ, ◌||◌, Bool, true, false, List, [], ◌∷◌, ◌++◌, map, Option, Some, None, is_none, if◌then◌else◌}
use Rattle.std.specs.Str.{bytes_eq}
use Rattle.jc_tree.specs.declared.expression.Expr.{Expr}
use Rattle.jc_tree.specs.declared.expression.Init.{Init}
use Rattle.jc_tree.specs.declared.name.Ident.{Ident}
use Rattle.jc_tree.specs.declared.statement.Clause.{Clause, Clause-F, fold-Clause}
use Rattle.jc_tree.specs.declared.statement.ClauseHead.{ClauseHead}
use Rattle.jc_tree.specs.declared.statement.ClauseHead.TheVariants as head
use Rattle.jc_tree.specs.declared.statement.ForHead.{ForHead}
use Rattle.jc_tree.specs.declared.statement.ForHead.TheVariants as for_head
use Rattle.jc_tree.specs.declared.statement.ForInit.{ForInit}
use Rattle.jc_tree.specs.declared.statement.ForInit.TheVariants as for_init
use Rattle.jc_tree.specs.declared.statement.LocalVars.{LocalVars}
use Rattle.jc_tree.specs.declared.statement.ModifierWord.TheVariants as word_of
use Rattle.jc_tree.specs.declared.statement.Stmt.{Stmt, Stmt-F, fold-Stmt}
use Rattle.jc_tree.specs.declared.statement.Var.{Var}
use Rattle.jc_tree.specs.declared.types.ClassTree.{ClassTree}
use Rattle.jc_tree.specs.declared.types.TypeTree.{TypeTree}
use Rattle.jc_declares.specs.Words.{says}

-- ---- the list

-- what an expression is wanted for: its effect alone, a truth, the result of the method, a value that goes nowhere, the selector of a `switch`, or what is thrown
-- by the statement at an offset
pub data Want : Type 0 where
  Effect : Want
  Truth : Want
  Result : Want
  Nowhere : Want
  Selector : Want
  Thrown : ℕ → Want

-- `Fill` is the initialiser of the local that was declared last. `Each` is what an enhanced `for` goes over, with the type of its variable. `Caught` are the
-- types of a catch clause at an offset, and `Parameter` its variable. `Fault` is a rule that is broken at an offset
pub data Item : Type 0 where
  Enter : Item
  Leave : Item
  Declare : (name : Ident) (ty : TypeTree) (dims : ℕ) (is_final : Bool) → Item
  Fill : Init → Item
  Ask : Expr → Want → Item
  Label : (at : ℕ) → Expr → Item
  Each : Expr → (ty : TypeTree) (dims : ℕ) → Item
  Caught : (at : ℕ) (first : ClassTree) (more : List ClassTree) → Item
  Parameter : (name : Ident) (is_final : Bool) → Item
  Fault : (rule at : ℕ) → Item

-- ---- jumps (JLS 14.7, 14.15 to 14.17)

-- a statement round a place to which a jump can go, by the offset of its first token, which is its number: no two such statements of a method begin at one token.
-- A label has the loop that it stands before, if that is one itself
pub data Round : Type 0 where
  OfLoop : ℕ → Round
  OfSwitch : ℕ → Round
  OfLabel : ℕ → List ℕ → Option ℕ → Round

-- what a `return` may give: there is none in an initialiser (JLS 8.6, 8.7), and no value in a constructor or a method that is `void`
pub data Returns : Type 0 where
  Never : Returns
  NoValue : Returns
  AValue : Returns

-- the statements round a place, the innermost first
pub record Jumps : Type 0 where
  pub round : List Round
  pub returns : Returns

abbrev pub inside : Round → Jumps → Jumps
inside r j = record { round = r ∷ j.round; returns = j.returns }

-- where `break` goes: the innermost loop or `switch`
abbrev pub broken : List Round → Option ℕ
broken [] = None
broken (OfLoop n ∷ rs) = Some n
broken (OfSwitch n ∷ rs) = Some n
broken (OfLabel n l loop ∷ rs) = broken rs

-- where `continue` goes: the innermost loop
abbrev pub continued : List Round → Option ℕ
continued [] = None
continued (OfLoop n ∷ rs) = Some n
continued (OfSwitch n ∷ rs) = continued rs
continued (OfLabel n l loop ∷ rs) = continued rs

-- where they go by a label: `break` to the statement that has it, `continue` to the loop behind it
abbrev pub broken_by : List ℕ → List Round → Option ℕ
broken_by l [] = None
broken_by l (OfLoop n ∷ rs) = broken_by l rs
broken_by l (OfSwitch n ∷ rs) = broken_by l rs
broken_by l (OfLabel n m loop ∷ rs) = if bytes_eq l m then Some n else broken_by l rs

abbrev pub continued_by : List ℕ → List Round → Option ℕ
continued_by l [] = None
continued_by l (OfLoop n ∷ rs) = continued_by l rs
continued_by l (OfSwitch n ∷ rs) = continued_by l rs
continued_by l (OfLabel n m loop ∷ rs) = if bytes_eq l m then loop else continued_by l rs

abbrev pub break_target : Option Ident → Jumps → Option ℕ
break_target None j = broken j.round
break_target (Some l) j = broken_by l.text j.round

abbrev pub continue_target : Option Ident → Jumps → Option ℕ
continue_target None j = continued j.round
continue_target (Some l) j = continued_by l.text j.round

-- 615 at the statement
abbrev pub jump_items : ℕ → Option ℕ → List Item
jump_items at (Some n) = []
jump_items at None = Fault 615 at ∷ []

-- 615 at a label that stands inside of a statement with the same label
abbrev pub label_items : Ident → Jumps → List Item
label_items l j = if is_none (broken_by l.text j.round) then [] else Fault 615 l.at ∷ []

-- 619: a `return` of an initialiser, one with a value that isn't wanted, and one without a value that is
abbrev pub return_items : ℕ → Returns → Option Expr → List Item
return_items at NoValue None = []
return_items at AValue (Some e) = Ask e Result ∷ []
return_items at r (Some e) = Fault 619 at ∷ Ask e Nowhere ∷ []
return_items at r None = Fault 619 at ∷ []

-- ---- parts of statements

abbrev pub flat : List (List Item) → List Item
flat [] = []
flat (xs ∷ xss) = xs ++ flat xss

abbrev pub asks : Want → List Expr → List Item
asks w es = map (λ e. Ask e w) es

abbrev pub ask_if : Want → Option Expr → List Item
ask_if w None = []
ask_if w (Some e) = Ask e w ∷ []

abbrev pub filled : Option Init → List Item
filled None = []
filled (Some i) = Fill i ∷ []

-- a local is in scope in its own initialiser (JLS 6.3)
abbrev pub of_var : Bool → TypeTree → Var → List Item
of_var is_final t v = Declare v.name t v.dims is_final ∷ filled v.init

abbrev pub of_locals : LocalVars → List Item
of_locals ls = flat (map (of_var (says word_of.Final ls.modifiers) ls.ty) (ls.first ∷ ls.more))

abbrev pub of_init : ForInit → List Item
of_init (for_init.Local ls) = of_locals ls
of_init (for_init.Effects es) = asks Effect es

-- ---- statements

-- what is made of a statement: its items by where jumps go, and the loop that it is
pub record Planned : Type 0 where
  pub items : Jumps → List Item
  pub loop : Option ℕ

abbrev pub no_loop : (Jumps → List Item) → Planned
no_loop f = record { items = f; loop = None }

abbrev pub a_loop : ℕ → (Jumps → List Item) → Planned
a_loop at f = record { items = λ j. f (inside (OfLoop at) j); loop = Some at }

abbrev pub in_turn : List Planned → Jumps → List Item
in_turn [] j = []
in_turn (p ∷ ps) j = p.items j ++ in_turn ps j

abbrev pub enclosed : List Item → List Item
enclosed items = Enter ∷ items ++ Leave ∷ []

-- in a `switch` a second `default` breaks 614
abbrev pub is_default : ClauseHead → Bool
is_default head.Default = true
is_default _ = false

abbrev pub default_items : ℕ → Bool → List Item
default_items at false = []
default_items at true = Fault 614 at ∷ []

abbrev pub is_some_more : List ClassTree → Bool
is_some_more [] = false
is_some_more (t ∷ ts) = true

-- what stands at the head of a clause, where it is told whether a `default` stood before it; a parameter of several types is final (JLS 14.20)
abbrev pub head_items : ℕ → Bool → ClauseHead → List Item
head_items at had (head.If e) = Ask e Truth ∷ []
head_items at had (head.Case e) = Label at e ∷ []
head_items at had head.Default = default_items at had
head_items at had (head.Catch modifiers first more name) = Caught at first more ∷ Parameter name (says word_of.Final modifiers || is_some_more more) ∷ []
head_items at had head.Finally = []

-- an arm of an `if`, a group of a `switch`, a catch clause or a finally block
pub record Group : Type 0 where
  pub at : ℕ
  pub head : ClauseHead
  pub items : List Planned

abbrev pub arm_items : List Group → Jumps → List Item
arm_items [] j = []
arm_items (g ∷ gs) j = head_items g.at false g.head ++ in_turn g.items j ++ arm_items gs j

-- the locals of a group are in scope in the groups behind it
abbrev pub group_items : Bool → List Group → Jumps → List Item
group_items had [] j = []
group_items had (g ∷ gs) j = head_items g.at had g.head ++ in_turn g.items j ++ group_items (had || is_default g.head) gs j

abbrev pub clause_items : List Group → Jumps → List Item
clause_items [] j = []
clause_items (g ∷ gs) j = enclosed (head_items g.at false g.head ++ in_turn g.items j) ++ clause_items gs j

abbrev pub clause_step : Clause-F (Unit {0}) Planned Group (Unit {0}) → Group
clause_step c = record { at = c.at; head = c.head; items = c.items }

-- `for` (JLS 14.14): the scope of what its head declares ends with it; an enhanced one's variable is not in scope in what it goes over
abbrev pub for_items : ForHead → Planned → Jumps → List Item
for_items (for_head.Basic init test update) body j =
    enclosed (of_init init ++ ask_if Truth test ++ asks Effect update ++ body.items j)
for_items (for_head.Enhanced modifiers ty name dims iterable) body j =
    enclosed (Each iterable ty dims ∷ Declare name ty dims (says word_of.Final modifiers) ∷ body.items j)

-- what has a label is no loop itself: by a second label before it `continue` goes nowhere (JLS 14.16)
abbrev pub labelled : Ident → Planned → Planned
labelled l body = no_loop (λ j. label_items l j ++ body.items (inside (OfLabel l.at l.text body.loop) j))

abbrev pub stmt_step : Stmt-F (Unit {0}) Planned Group (Unit {0}) → Planned
stmt_step (Stmt-F.Local it) = no_loop (λ j. of_locals it)
stmt_step (Stmt-F.Declared it) = no_loop (λ j. [])
stmt_step (Stmt-F.Block at items) = no_loop (λ j. enclosed (in_turn items j))
stmt_step (Stmt-F.Empty at) = no_loop (λ j. [])
stmt_step (Stmt-F.Effect it) = no_loop (λ j. Ask it Effect ∷ [])
stmt_step (Stmt-F.Labeled label body) = labelled label body
stmt_step (Stmt-F.If arms otherwise) = no_loop (λ j. arm_items arms j ++ in_turn otherwise j)
stmt_step (Stmt-F.While at test body) = a_loop at (λ j. Ask test Truth ∷ body.items j)
stmt_step (Stmt-F.Do at body test) = a_loop at (λ j. body.items j ++ Ask test Truth ∷ [])
stmt_step (Stmt-F.For at head body) = a_loop at (for_items head body)
stmt_step (Stmt-F.Switch at selector groups) =
    no_loop (λ j. enclosed (Ask selector Selector ∷ group_items false groups (inside (OfSwitch at) j)))
stmt_step (Stmt-F.Return at value) = no_loop (λ j. return_items at j.returns value)
stmt_step (Stmt-F.Break at label) = no_loop (λ j. jump_items at (break_target label j))
stmt_step (Stmt-F.Continue at label) = no_loop (λ j. jump_items at (continue_target label j))
stmt_step (Stmt-F.Throw at value) = no_loop (λ j. Ask value (Thrown at) ∷ [])
stmt_step (Stmt-F.Try at resources items clauses) = no_loop (λ j. enclosed (in_turn items j) ++ clause_items clauses j)
stmt_step (Stmt-F.ThisCall at actuals) = no_loop (λ j. [])
stmt_step (Stmt-F.SuperCall at actuals) = no_loop (λ j. [])

unfoldable pub planned : Stmt → Planned
planned s = fold-Stmt (Unit {0}) Planned Group (Unit {0}) (λ m. tt) stmt_step clause_step (λ d. tt) s

unfoldable pub planned_clause : Clause → Group
planned_clause c = fold-Clause (Unit {0}) Planned Group (Unit {0}) (λ m. tt) stmt_step clause_step (λ d. tt) c

-- the items of statements that follow one another
unfoldable pub plan : Jumps → List Stmt → List Item
plan j ss = in_turn (map planned ss) j
