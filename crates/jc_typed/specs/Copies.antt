-- How often the block behind `finally` stands in the code of its `try`: once behind each way out (JLS 14.20.2). These are the normal
-- end, an exception, and each jump in the block and the catch clauses that goes to a statement outside of them, or returns.
use Rattle.std.specs.Prelude.{◌≡◌, ℕ, ◌+◌, ◌*◌, ◌==◌, ◌||◌, Bool, false, List, [], ◌∷◌, if◌then◌else◌}
use Rattle.jc_typed.specs.Bulk.{capped}
use Rattle.jc_typed.specs.Trees.{Stmt, stmt, StmtForm, Empty, Block, Locals, Effect, If, Labelled, While, Do, For, ForArray, ForIterable, Switch, Return, Break, Continue, Throw, Try, Construct, Initialise, Stmts, NoStmts, MoreStmts, Arms, NoArms, MoreArms, Catches, NoCatches, MoreCatches}

-- whether a statement, by its number, is one of a list
abbrev pub is_among : ℕ → List ℕ → Bool
is_among t [] = false
is_among t (u ∷ us) = (t == u) || is_among t us

-- a jump to a statement leaves unless that statement is inside
abbrev pub leaving : List ℕ → ℕ → ℕ
leaving inside t = if is_among t inside then 0 else 1

-- The jumps that leave a statement; `inside` are the statements round them that a jump can go to without leaving. A jump in a finally
-- block counts as often as this block stands in the code
abbrev mutual
  pub exits_of_stmt : List ℕ → Stmt → ℕ
  exits_of_stmt inside (stmt place form) = exits_of inside form

  -- a jump by its target; each `return` leaves
  pub exits_of : List ℕ → StmtForm → ℕ
  exits_of inside Empty = 0
  exits_of inside (Block ss) = exits_of_stmts inside ss
  exits_of inside (Locals variables) = 0
  exits_of inside (Effect of_it) = 0
  exits_of inside (If arms other) = exits_of_arms inside arms + exits_of_stmts inside other
  exits_of inside (Labelled target body) = exits_of_stmt (target ∷ inside) body
  exits_of inside (While target test body) = exits_of_stmt (target ∷ inside) body
  exits_of inside (Do target body test) = exits_of_stmt (target ∷ inside) body
  exits_of inside (For target variables before test update body) = exits_of_stmt (target ∷ inside) body
  exits_of inside (ForArray target of_it ty captures steps local body) = exits_of_stmt (target ∷ inside) body
  exits_of inside (ForIterable target of_it ty captures steps local body) = exits_of_stmt (target ∷ inside) body
  exits_of inside (Switch target of_it cases ss) = exits_of_stmts (target ∷ inside) ss
  exits_of inside (Return value) = 1
  exits_of inside (Break target) = leaving inside target
  exits_of inside (Continue target) = leaving inside target
  exits_of inside (Throw of_it) = 0
  exits_of inside (Try body catches last copies) = exits_of_stmt inside body + exits_of_catches inside catches + copies * exits_of_stmts inside last
  exits_of inside (Construct constructor args phase thrown is_raw) = 0
  exits_of inside (Initialise field value) = 0

  -- lists of statements, arms of an `if` and catch clauses: the jumps of all of them
  pub exits_of_stmts : List ℕ → Stmts → ℕ
  exits_of_stmts inside NoStmts = 0
  exits_of_stmts inside (MoreStmts before last) = exits_of_stmts inside before + exits_of_stmt inside last

  pub exits_of_arms : List ℕ → Arms → ℕ
  exits_of_arms inside NoArms = 0
  exits_of_arms inside (MoreArms before test taken) = exits_of_arms inside before + exits_of_stmt inside taken

  pub exits_of_catches : List ℕ → Catches → ℕ
  exits_of_catches inside NoCatches = 0
  exits_of_catches inside (MoreCatches before place local types body) = exits_of_catches inside before + exits_of_stmt inside body

-- how often the finally block of a `try` stands in the code
abbrev pub copies_of : Stmt → Catches → ℕ
copies_of body catches = 2 + exits_of_stmt [] body + exits_of_catches [] catches

-- each `try` of a statement says how often its finally block stands in the code, up to the greatest number of 64 bits
abbrev mutual
  pub CopiesRight : Stmt → Type 0
  CopiesRight (stmt place form) = FormCopiesRight form

  -- by the form of the statement; only a `try` says a number
  pub FormCopiesRight : StmtForm → Type 0
  FormCopiesRight Empty = Unit {0}
  FormCopiesRight (Block ss) = AllCopiesRight ss
  FormCopiesRight (Locals variables) = Unit {0}
  FormCopiesRight (Effect of_it) = Unit {0}
  FormCopiesRight (If arms other) = ArmCopiesRight arms × AllCopiesRight other
  FormCopiesRight (Labelled target body) = CopiesRight body
  FormCopiesRight (While target test body) = CopiesRight body
  FormCopiesRight (Do target body test) = CopiesRight body
  FormCopiesRight (For target variables before test update body) = CopiesRight body
  FormCopiesRight (ForArray target of_it ty captures steps local body) = CopiesRight body
  FormCopiesRight (ForIterable target of_it ty captures steps local body) = CopiesRight body
  FormCopiesRight (Switch target of_it cases ss) = AllCopiesRight ss
  FormCopiesRight (Return value) = Unit {0}
  FormCopiesRight (Break target) = Unit {0}
  FormCopiesRight (Continue target) = Unit {0}
  FormCopiesRight (Throw of_it) = Unit {0}
  FormCopiesRight (Try body catches last copies) = CopiesRight body × ClauseCopiesRight catches × AllCopiesRight last × (copies ≡ capped (copies_of body catches))
  FormCopiesRight (Construct constructor args phase thrown is_raw) = Unit {0}
  FormCopiesRight (Initialise field value) = Unit {0}

  -- each statement of a list, of the arms of an `if`, and of the blocks of catch clauses
  pub AllCopiesRight : Stmts → Type 0
  AllCopiesRight NoStmts = Unit {0}
  AllCopiesRight (MoreStmts before last) = AllCopiesRight before × CopiesRight last

  pub ArmCopiesRight : Arms → Type 0
  ArmCopiesRight NoArms = Unit {0}
  ArmCopiesRight (MoreArms before test taken) = ArmCopiesRight before × CopiesRight taken

  pub ClauseCopiesRight : Catches → Type 0
  ClauseCopiesRight NoCatches = Unit {0}
  ClauseCopiesRight (MoreCatches before place local types body) = ClauseCopiesRight before × CopiesRight body
