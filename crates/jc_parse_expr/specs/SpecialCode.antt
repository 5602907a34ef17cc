-- Class literals and outer `this` by what stands behind their names.
use Rattle.std.specs.Prelude.{◌+◌, List}
use Rattle.jc_lexer.specs.declared.token.Sign.TheVariants as sign_of
use Rattle.jc_tree.specs.declared.name.Ident.{Ident}
use Rattle.jc_tree.specs.declared.types.BaseTree.TheVariants as base_of
use Rattle.jc_tree.specs.declared.expression.Expr.{Expr}
use Rattle.jc_tree.specs.declared.expression.Expr.TheVariants as expr_of
use Rattle.jc_reading.specs.Kinds.{sign_code}
use Rattle.jc_reading.specs.Reading.{Run, This, That, as_new, in_turn, of_kind, an_ident_at, behind_it}
use Rattle.jc_expr_laws.specs.StartReading.{ClassDims, DotKey, SpecialTail, bare_class, literal_type}
use Rattle.jc_parse_expr.specs.declared.parts.NamesTail.{NamesTail}
use Rattle.jc_parse_expr.specs.declared.parts.NamesTail.TheVariants as tail_is

-- that something stands there, and not what
abbrev pub forgetting : {A : Type 0} → A → Unit {0}
forgetting a = tt

-- "." Id
abbrev pub dot_name_run : Run Ident
dot_name_run = as_new behind_it (in_turn (of_kind (sign_code sign_of.Dot)) an_ident_at)

-- the brackets before `.class`, the first pair counted with the others
abbrev pub dims_tail : ClassDims → NamesTail
dims_tail p = tail_is.Class (p.1.0 + 1)

-- `.this`, or `.class` without brackets
abbrev pub key_tail : DotKey → NamesTail
key_tail (u, This v) = tail_is.This
key_tail (u, That v) = tail_is.Class 0

-- either of them
abbrev pub tail_of : SpecialTail → NamesTail
tail_of (This p) = dims_tail p
tail_of (That p) = key_tail p

-- an outer `this` (JLS 15.8.4), or a class literal of the named class with so many pairs of brackets (JLS 15.8.2)
abbrev pub of_tail : Ident → List Ident → NamesTail → Expr
of_tail first more (tail_is.Class dims) = literal_type (base_of.Class (bare_class first more)) dims
of_tail first more tail_is.This = expr_of.OuterThis first more
