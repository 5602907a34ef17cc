-- The captured variables that a type names, and those of an expression that its type may name (JLS 5.1.10).
use Rattle.std.specs.Prelude.{ℕ, ◌+◌, ◌||◌, ◌&&◌, ◌==◌, not, nat_lt, Bool, true, false, List, [], ◌∷◌, length, Option, Some, None}
use Rattle.jc_types.specs.declared.environment.Bounds.{Bounds}
use Rattle.jc_types.specs.declared.form.Ty.{Ty, Ty-F, out-Ty, fold-Ty}
use Rattle.jc_types.specs.declared.form.Arg.{Arg-F}
use Rattle.jc_types.specs.declared.ids.ClassId.{ClassId}
use Rattle.jc_types.specs.Reifying.{all_true}
use Rattle.jc_judge.specs.Kinds.{Layer}
use Rattle.jc_typed.specs.Trees.{Expr, NoExpr, expr, Operand, NoOperand, operand, Form, Field, Element, Conditional, Assign, Compound, Change, Call, New, ArrayOf, Cast, Variable, FieldVariable, ElementVariable, Operands, NoOperands, MoreOperands}
use Rattle.jc_exprs_exports.specs.Captured.{count_form, count_operand, count_operands, count_variable}

-- captured variables, by their numbers
abbrev pub Numbers : Type 0
Numbers = ℕ → Bool

-- none of them
abbrev pub nobody : Numbers
nobody c = false

-- an argument and a type whose parts are judged already: `?` names none
abbrev pub arg_speaks_at : Arg-F Bool Bool → Bool
arg_speaks_at (Arg-F.Exact b) = b
arg_speaks_at Arg-F.Any = true
arg_speaks_at (Arg-F.Extends b) = b
arg_speaks_at (Arg-F.Super b) = b

abbrev pub speaks_at : Numbers → Ty-F Bool Bool → Bool
speaks_at live (Ty-F.Class id args) = all_true args
speaks_at live (Ty-F.Array b n) = b
speaks_at live (Ty-F.Captured c) = live c.0
speaks_at live (Ty-F.Meet parts) = all_true parts
speaks_at live _ = true

-- all captured variables that a type names, at any depth, are among these
unfoldable pub speaks : Numbers → Ty → Bool
speaks live t = fold-Ty Bool Bool arg_speaks_at (speaks_at live) t

abbrev pub all_speak : Numbers → List Ty → Bool
all_speak live [] = true
all_speak live (t ∷ ts) = speaks live t && all_speak live ts

abbrev pub lower_speaks : Numbers → Option Ty → Bool
lower_speaks live None = true
lower_speaks live (Some t) = speaks live t

-- .. and all that these bounds name
abbrev pub bounds_speak : Numbers → List Bounds → Bool
bounds_speak live [] = true
bounds_speak live (b ∷ bs) = all_speak live b.uppers && lower_speaks live b.lower && bounds_speak live bs

-- a primitive type, or the class String
abbrev pub is_plain_at : ClassId → Layer → Bool
is_plain_at string (Ty-F.Prim p) = true
is_plain_at string (Ty-F.Class k args) = k.0 == string.0
is_plain_at string _ = false

-- so many variables from a number on
abbrev pub next_ones : ℕ → ℕ → Numbers
next_ones n count c = not (nat_lt c n) && nat_lt c (n + count)

-- The live ones of an expression, where n captured variables are there before it: its own and those of its operands. An expression of primitive type or of String has none, and so none come
-- from an operand of `&&` and `||` that isn't evaluated. A conditional's are those of both its branches
abbrev mutual
  pub live_expr : ClassId → ℕ → Expr → Numbers
  live_expr string n NoExpr c = false
  live_expr string n (expr place ty captures form) c =
      not (is_plain_at string (out-Ty ty)) && (next_ones (n + count_form form) (length captures) c || live_form string n form c)

  pub live_operand : ClassId → ℕ → Operand → Numbers
  live_operand string n NoOperand c = false
  live_operand string n (operand place of_it ss) c = live_expr string n of_it c

  -- those of the parts of a form
  pub live_form : ClassId → ℕ → Form → Numbers
  live_form string n (Field of_it f) c = live_operand string n of_it c
  live_form string n (Element array index) c = live_operand string n array c
  live_form string n (Conditional test first second from up_to) c =
      live_operand string (n + count_operand test) first c || live_operand string (n + count_operand test + count_operand first) second c
  live_form string n (Assign variable value store) c = live_variable string n variable c || live_operand string (n + count_variable variable) value c
  live_form string n (Compound variable joint left right into) c = live_variable string n variable c
  live_form string n (Change variable op from into is_prefix) c = live_variable string n variable c
  live_form string n (Call kind receiver m types args phase thrown is_raw) c = live_operands string n receiver c || live_operands string (n + count_operands receiver) args c
  live_form string n (New m args phase thrown is_raw) c = live_operands string n args c
  live_form string n (ArrayOf elements) c = live_operands string n elements c
  live_form string n (Cast of_it to ss is_below) c = live_operand string n of_it c
  live_form string n _ c = false

  pub live_variable : ClassId → ℕ → Variable → Numbers
  live_variable string n (FieldVariable place of_it f is_raw) c = live_operand string n of_it c
  live_variable string n (ElementVariable place array index) c = live_operand string n array c
  live_variable string n _ c = false

  pub live_operands : ClassId → ℕ → Operands → Numbers
  live_operands string n NoOperands c = false
  live_operands string n (MoreOperands before last) c = live_operands string n before c || live_operand string (n + count_operands before) last c
