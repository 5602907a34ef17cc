-- A small program that has an erasure, over any table and any known classes.
use Rattle.std.specs.Prelude.{◌≡◌, false, [], ◌∷◌, Some}
use Rattle.jc_types.specs.declared.form.Ty.{Ty}
use Rattle.jc_types.specs.declared.form.Ty.TheVariants.{Class, NullTy}
use Rattle.jc_types.specs.declared.form.Arg.TheVariants.{Exact}
use Rattle.jc_types.specs.declared.ids.ClassId.{ClassId}
use Rattle.jc_types.specs.declared.table.Table.{Table}
use Rattle.jc_typed.specs.declared.program.Known.{Known}
use Rattle.jc_typed.specs.declared.program.TypedProgram.{TypedProgram}
use Rattle.jc_typed.specs.Parts.{nowhere}
use Rattle.jc_typed.specs.Trees.{Up, Expr, expr, Operand, operand, Null, NoOperands, MoreOperands, NoDeclared, MoreDeclared, Stmt, stmt, Block, Locals, NoStmts, MoreStmts}
use Rattle.jc_meaning.specs.Programs.{body_of, locals_of}
use Rattle.jc_erased.specs.declared.program.ErasedProgram.{ErasedProgram}
use Rattle.jc_erase_spec.specs.Meeting.{IsErasureOf}

-- a class type with one argument, as `Box<String>`
abbrev pub boxed : ClassId → ClassId → Ty
boxed c k = Class c (Exact (Class k []) ∷ [])

-- `null`, taken up to this type
abbrev pub null_expr : Ty → Expr
null_expr t = expr nowhere t [] Null

abbrev pub null_as : Ty → Ty → Operand
null_as null_type t = operand nowhere (null_expr null_type) (Up t false ∷ [])

-- `{ Box<String> b = null; }`, where b is variable number 0
abbrev pub declares : Ty → Ty → Stmt
declares null_type t = stmt nowhere (Locals (MoreDeclared NoDeclared nowhere 0 (MoreOperands NoOperands (null_as null_type t))))

abbrev pub small_body : Ty → Ty → Stmt
small_body null_type t = stmt nowhere (Block (MoreStmts NoStmts (declares null_type t)))

-- a program whose first method has this body and this variable, and its erasure
pub record HasSmallErasure (T : Table) (known : Known) (c k : ClassId) : Type 0 where
  pub program : TypedProgram
  pub erased : ErasedProgram
  pub table : program.table ≡ T
  pub is_known : program.known ≡ known
  pub body : body_of program (record { 0 = 0 }) ≡ Some (small_body NullTy (boxed c k) ∷ [])
  pub locals : locals_of program (record { 0 = 0 }) ≡ boxed c k ∷ []
  pub meets : IsErasureOf program erased
