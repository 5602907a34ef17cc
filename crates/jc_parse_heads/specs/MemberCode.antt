-- Members, as the code reads them: what stands before a body or a semicolon, and then that.
use Rattle.jc_parse_nodes.specs.Nodes.{typed_shape}
use Rattle.std.specs.Prelude.{ℕ, List, [], ◌∷◌, Option, Some, None}
use Rattle.jc_lexer.specs.declared.token.Key.TheVariants as key_of
use Rattle.jc_lexer.specs.declared.token.Sign.TheVariants as sign_of
use Rattle.jc_lexer.specs.declared.token.Token.{Token}
use Rattle.jc_tree.specs.declared.name.Ident.{Ident}
use Rattle.jc_tree.specs.declared.types.ClassTree.{ClassTree}
use Rattle.jc_tree.specs.declared.types.TypeTree.{TypeTree}
use Rattle.jc_tree.specs.declared.statement.Formal.{Formal}
use Rattle.jc_tree.specs.declared.statement.Member.{Member}
use Rattle.jc_tree.specs.declared.statement.Member.TheVariants as member_of
use Rattle.jc_tree.specs.declared.statement.MethodHead.{MethodHead}
use Rattle.jc_tree.specs.declared.statement.ResultType.TheVariants as result_of
use Rattle.jc_tree.specs.declared.statement.Stmt.{Stmt}
use Rattle.jc_tree.specs.declared.statement.TypeParams.{TypeParams}
use Rattle.jc_reading.specs.Kinds.{key_code, sign_code, word_code}
use Rattle.jc_reading.specs.Reading.{Read, Found, Stopped, Run, Either, This, That, an_ident_at, any_number, as_new, at_kind, becoming, before_it, commas_run, either, in_turn, noting, of_kind, perhaps}
use Rattle.jc_reading.specs.Further.{by_second, either_one, roomy_second}
use Rattle.jc_parse_type.specs.TypeReading.{class_run, type_run}
use Rattle.jc_part_laws.specs.PartReading.{formal_run, formals_run, keyed_run, params_of_run}
use Rattle.jc_expr_laws.specs.ExprReading.{exprs}
use Rattle.jc_unit_laws.specs.UnitReading.{Braces, braced_run, or_others, semicolon_run}
use Rattle.jc_unit_laws.specs.MemberReading.{Actuals, FieldTail, constructor_items, constructor_items_run, field_tail_run, item_run, levels, or_no_actuals, paren_codes, super_run}
use Rattle.jc_unit_laws.specs.UnitReading.{expr_in_run, or_no_init}
use Rattle.jc_reading.specs.Reading.{behind_it}
use Rattle.std.specs.Prelude.{map}
use Rattle.jc_tree.specs.declared.expression.Expr.{Expr}
use Rattle.jc_tree.specs.declared.statement.Var.{Var}
use Rattle.jc_parse_parts.specs.Parts.{more_vars_run}
use Rattle.jc_parse_heads.specs.UnitCode.{listed}
use Rattle.jc_parse_nodes.specs.declared.heads.CodeHead.{CodeHead}
use Rattle.jc_parse_nodes.specs.declared.heads.MemberHead.{MemberHead}
use Rattle.jc_parse_nodes.specs.declared.heads.MemberHead.TheVariants as head_of
use Rattle.jc_parse_nodes.specs.declared.heads.Shape.{Shape}
use Rattle.jc_parse_nodes.specs.declared.heads.Shape.TheVariants as shape_of
use Rattle.jc_parse_nodes.specs.declared.heads.FieldsTail.{FieldsTail}
use Rattle.jc_parse_nodes.specs.declared.heads.Named.{Named}
use Rattle.jc_parse_nodes.specs.declared.heads.NamedTail.{NamedTail}
use Rattle.jc_parse_nodes.specs.declared.heads.NamedTail.TheVariants as tail_of
use Rattle.jc_parse_nodes.specs.declared.heads.Signature.{Signature}

-- what ends a method

-- a block or a semicolon (JLS 8.4.7)
abbrev pub MethodEnd : Type 0
MethodEnd = Either (Braces Stmt) (Unit {0})

abbrev pub method_end : MethodHead → MethodEnd → Member
method_end head (This braces) = member_of.Method head braces.1.0
method_end head (That u) = member_of.Bare head

-- a left brace, and then the right one, or a first statement, others and the right one (JLS 8.8.7)
abbrev pub ConstructorEnd : Type 0
ConstructorEnd = Unit {0} × Either (Unit {0}) (Stmt × (List Stmt × Unit {0}))

abbrev pub constructor_end : MethodHead → ConstructorEnd → Member
constructor_end head p = member_of.Method head (constructor_items p.1)

-- the reads of both
abbrev pub method_end_run : ℕ → Run MethodEnd
method_end_run h = either (sign_code sign_of.LeftBrace ∷ []) (braced_run (levels exprs h).item) semicolon_run

abbrev pub constructor_end_run : ℕ → Run ConstructorEnd
constructor_end_run h = in_turn (of_kind (sign_code sign_of.LeftBrace)) (constructor_items_run exprs h (levels exprs h))

-- a member of its head and of what is read behind it
abbrev pub finish : ℕ → Read MemberHead → Read Member
finish h (Found (head_of.Method head) r l) = noting l (becoming (method_end head) (method_end_run h r))
finish h (Found (head_of.Constructor head) r l) = noting l (becoming (constructor_end head) (constructor_end_run h r))
finish h (Found (head_of.Fields vars) r l) = Found (member_of.Fields vars) r l
finish h (Stopped l) = Stopped l

-- the same behind a head that was read, with so many tokens left from its reach on
abbrev pub finish_from : ℕ → MemberHead → List Token → ℕ → Read Member
finish_from h a r l = finish h (Found a r l)

-- heads

-- formal parameters and what is thrown (JLS 8.4.1, 8.4.6); and below, with the name before them
abbrev pub signature_made : (List Formal × List ClassTree) → Signature
signature_made p = record { formals = p.0; throws = p.1 }

unfoldable pub signature_run : ℕ → Run Signature
signature_run h = as_new signature_made (in_turn (formals_run (formal_run exprs h)) (keyed_run key_of.Throws (class_run h)))

abbrev pub named_made : (Ident × Signature) → Named
named_made p = record { name = p.0; signature = p.1 }

unfoldable pub named_signature_run : ℕ → Run Named
named_signature_run h = as_new named_made (in_turn an_ident_at (signature_run h))

-- a method by its result, which is void or a type, and its name and signature
abbrev pub void_shape : (ℕ × Named) → Shape
void_shape p = shape_of.Method (result_of.Void p.0) p.1

abbrev pub method_shape : (TypeTree × Named) → Shape
method_shape p = shape_of.Method (result_of.Type p.0) p.1

-- what stands behind the name of a first field: brackets, an initialiser or none, and further variables (JLS 8.3)
abbrev pub fields_tail_made : FieldTail → FieldsTail
fields_tail_made (dims, (init, (more, u))) = record { dims = dims; init = or_no_init init; more = map behind_it more }

unfoldable pub fields_run : ℕ → Run FieldsTail
fields_run h = as_new fields_tail_made (field_tail_run exprs h (levels exprs h))

-- behind a type: a name, and then a signature where a left parenthesis stands there, or else what fields have
abbrev pub tail_made : (Ident × Either Signature FieldsTail) → NamedTail
tail_made (name, This signature) = tail_of.Method (record { name = name; signature = signature })
tail_made (name, That tail) = tail_of.Fields name tail

unfoldable pub named_tail_run : ℕ → Run NamedTail
named_tail_run h = as_new tail_made (in_turn an_ident_at (either paren_codes (signature_run h) (fields_run h)))

-- a method with void, a constructor, a method with a type, and a method or fields behind a type
unfoldable pub void_shape_run : ℕ → Run Shape
void_shape_run h = as_new void_shape (in_turn (at_kind (key_code key_of.Void)) (named_signature_run h))

unfoldable pub constructor_shape_run : ℕ → Run Shape
constructor_shape_run h = as_new shape_of.Constructor (named_signature_run h)

unfoldable pub method_shape_run : ℕ → Run Shape
method_shape_run h = as_new method_shape (in_turn (type_run h) (named_signature_run h))

unfoldable pub typed_shape_run : ℕ → Run Shape
typed_shape_run h = as_new typed_shape (in_turn (type_run h) (named_tail_run h))

-- behind type parameters there are no fields; and below, without those, there are. A name before a parenthesis begins a constructor
unfoldable pub generic_shape_run : ℕ → Run Shape
generic_shape_run h = or_others (key_code key_of.Void ∷ []) (void_shape_run h) (as_new either_one (roomy_second h word_code paren_codes (constructor_shape_run h) (method_shape_run h)))

unfoldable pub named_shape_run : ℕ → Run Shape
named_shape_run h = or_others (key_code key_of.Void ∷ []) (void_shape_run h) (as_new either_one (roomy_second h word_code paren_codes (constructor_shape_run h) (typed_shape_run h)))

-- what was read behind type parameters, or without any
abbrev pub generic_head : (TypeParams × Shape) → CodeHead
generic_head p = record { params = Some p.0; shape = p.1 }

abbrev pub plain_head : Shape → CodeHead
plain_head shape = record { params = None; shape = shape }

-- type parameters stand there where `<` does
unfoldable pub code_head_run : ℕ → Run CodeHead
code_head_run h = or_others (sign_code sign_of.Less ∷ []) (as_new generic_head (in_turn (params_of_run (class_run h)) (generic_shape_run h))) (as_new plain_head (named_shape_run h))

-- variables behind a first one, and a semicolon
unfoldable pub ended_more_run : ℕ → Run (List Var)
ended_more_run h = as_new before_it (in_turn (more_vars_run h) semicolon_run)

-- a head with type parameters, and one without them, each alone
unfoldable pub generic_head_run : ℕ → Run CodeHead
generic_head_run h = as_new generic_head (in_turn (params_of_run (class_run h)) (generic_shape_run h))

unfoldable pub plain_head_run : ℕ → Run CodeHead
plain_head_run h = as_new plain_head (named_shape_run h)

-- the statements of a block, or None where a semicolon stands
abbrev pub method_items : MethodEnd → Option (List Stmt)
method_items (This braces) = Some braces.1.0
method_items (That u) = None

unfoldable pub method_items_run : ℕ → Run (Option (List Stmt))
method_items_run h = as_new method_items (method_end_run h)

abbrev pub no_items : Unit {0} → Option (List Stmt)
no_items u = None

unfoldable pub no_items_run : Run (Option (List Stmt))
no_items_run = as_new no_items semicolon_run

-- the statements of the body of a constructor
abbrev pub constructor_list : ConstructorEnd → List Stmt
constructor_list p = constructor_items p.1

-- the statements of a constructor, without the left brace
unfoldable pub first_items_run : ℕ → Run (List Stmt)
first_items_run h = as_new constructor_items (constructor_items_run exprs h (levels exprs h))

-- with the left brace
unfoldable pub constructor_list_run : ℕ → Run (List Stmt)
constructor_list_run h = as_new behind_it (in_turn (of_kind (sign_code sign_of.LeftBrace)) (first_items_run h))

-- none, up to the right brace
abbrev pub no_statements : Unit {0} → List Stmt
no_statements u = []

unfoldable pub no_statements_run : Run (List Stmt)
no_statements_run = as_new no_statements (of_kind (sign_code sign_of.RightBrace))

-- statements of which the first one may be a call of another constructor
unfoldable pub first_row_run : ℕ → Run (List Stmt)
first_row_run h = as_new listed (in_turn (levels exprs h).first (any_number (levels exprs h).item))

unfoldable pub first_ended_run : ℕ → Run (List Stmt)
first_ended_run h = as_new before_it (in_turn (first_row_run h) (of_kind (sign_code sign_of.RightBrace)))

-- a call of another constructor, or an item
unfoldable pub super_or_item_run : ℕ → Run Stmt
super_or_item_run h = as_new either_one (by_second (key_code key_of.Super) paren_codes (super_run exprs h (levels exprs h)) (item_run exprs h (levels exprs h)))

-- actual arguments

-- expressions or none; below between parentheses; and then with a semicolon behind those (JLS 15.12, 8.8.7.1)
unfoldable pub some_exprs_run : ℕ → Run (List Expr)
some_exprs_run h = as_new or_no_actuals (perhaps (commas_run (expr_in_run exprs h)))

abbrev pub actual_list : Actuals → List Expr
actual_list p = or_no_actuals p.1.0

abbrev pub between : (Unit {0} × (List Expr × Unit {0})) → List Expr
between p = p.1.0

unfoldable pub actual_list_run : ℕ → Run (List Expr)
actual_list_run h = as_new between (in_turn (of_kind (sign_code sign_of.LeftParen)) (in_turn (some_exprs_run h) (of_kind (sign_code sign_of.RightParen))))

unfoldable pub ended_actuals_run : ℕ → Run (List Expr)
ended_actuals_run h = as_new before_it (in_turn (actual_list_run h) semicolon_run)
