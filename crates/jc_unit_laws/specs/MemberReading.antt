-- How members, declarations and files are read (JLS 7, 8, 9), and statements at each height.
use Rattle.std.specs.Prelude.{ℕ, zero, suc, Bool, true, false, cond, List, [], ◌∷◌, map, length, Option, Some, None, nat_le}
use Rattle.jc_lexer.specs.declared.token.Key.TheVariants as key_of
use Rattle.jc_lexer.specs.declared.token.Sign.TheVariants as sign_of
use Rattle.jc_tree.specs.declared.name.Ident.{Ident}
use Rattle.jc_tree.specs.declared.types.ClassTree.{ClassTree}
use Rattle.jc_tree.specs.declared.types.TypeTree.{TypeTree}
use Rattle.jc_tree.specs.declared.expression.Expr.{Expr}
use Rattle.jc_tree.specs.declared.expression.Init.{Init}
use Rattle.jc_tree.specs.declared.statement.Formal.{Formal}
use Rattle.jc_tree.specs.declared.statement.Import.{Import}
use Rattle.jc_tree.specs.declared.statement.Member.{Member}
use Rattle.jc_tree.specs.declared.statement.Member.TheVariants as member_of
use Rattle.jc_tree.specs.declared.statement.MethodHead.{MethodHead}
use Rattle.jc_tree.specs.declared.statement.Modifier.{Modifier}
use Rattle.jc_tree.specs.declared.statement.Package.{Package}
use Rattle.jc_tree.specs.declared.statement.ResultType.{ResultType}
use Rattle.jc_tree.specs.declared.statement.ResultType.TheVariants as result_of
use Rattle.jc_tree.specs.declared.statement.SourceFile.{SourceFile}
use Rattle.jc_tree.specs.declared.statement.Stmt.{Stmt}
use Rattle.jc_tree.specs.declared.statement.Stmt.TheVariants as stmt_of
use Rattle.jc_tree.specs.declared.statement.TopLevel.{TopLevel}
use Rattle.jc_tree.specs.declared.statement.TopLevel.TheVariants as top_of
use Rattle.jc_tree.specs.declared.statement.TypeParams.{TypeParams}
use Rattle.jc_tree.specs.declared.statement.Var.{Var}
use Rattle.jc_tree.specs.Heights.{most, modifier_height}
use Rattle.jc_reading.specs.Kinds.{sign_code, key_code, word_code}
use Rattle.jc_reading.specs.Reading.{Stopped, Run, as_new, in_turn, perhaps, any_number, each_behind, Either, This, That, either, behind_it, commas_run, of_kind, at_kind, an_ident_at}
use Rattle.jc_parse_type.specs.TypeReading.{dims_run, type_run, class_run}
use Rattle.jc_reading.specs.Further.{with_room, by_second, by_value, roomy_second, either_one}
use Rattle.jc_part_laws.specs.PartReading.{Exprs, head_rest_run, modifier_word_codes, modifiers_run, more_names_run, formal_run, formals_run, keyed_run, params_of_run, var_run}
use Rattle.jc_unit_laws.specs.UnitReading.{Braces, braced_run, PlacedBraces, braced_at_run, semicolon_run, DeclarationRest, declaration_made, Level, Variables, variables_run, moded_made, or_no_init, or_others, if_codes, statement_codes, if_run, simple_run, body_run, other_run, case_item_run, word_run}

-- the formals of a method, the classes behind `throws`, and its body or a semicolon (JLS 8.4)
abbrev pub MethodTail : Type 0
MethodTail = List Formal × (List ClassTree × Either (Braces Stmt) (Unit {0}))

-- the formals of a constructor, the classes behind `throws`, and its statements, of which the first one may be a call of another (JLS 8.8)
abbrev pub ConstructorTail : Type 0
ConstructorTail = List Formal × (List ClassTree × (Unit {0} × Either (Unit {0}) (Stmt × (List Stmt × Unit {0}))))

-- Dims ["=" Init] {"," Var} ";", behind the type and the first name (JLS 8.3)
abbrev pub FieldTail : Type 0
FieldTail = ℕ × (Option (Unit {0} × Init) × (List (Unit {0} × Var) × Unit {0}))

-- "void" Id MethodTail, with the place of the keyword
abbrev pub VoidMethod : Type 0
VoidMethod = ℕ × (Ident × MethodTail)

-- a name, which isn't compared with that of the class here, and what stands behind it
abbrev pub Constructor : Type 0
Constructor = Ident × ConstructorTail

-- type parameters, and a method without a value, a constructor or a method of a type
abbrev pub GenericRest : Type 0
GenericRest = TypeParams × Either VoidMethod (Either Constructor (TypeTree × (Ident × MethodTail)))

-- the same without type parameters, where fields may stand too
abbrev pub NamedRest : Type 0
NamedRest = Either VoidMethod (Either Constructor (TypeTree × (Ident × Either MethodTail FieldTail)))

-- a member behind its modifiers: a declaration of a type, or one with type parameters or without
abbrev pub MemberRest : Type 0
MemberRest = Either DeclarationRest (Either GenericRest NamedRest)

-- the head of a method, and of a constructor where the result is None
abbrev pub method_head : List Modifier → Option TypeParams → Option ResultType → Ident → List Formal → List ClassTree → MethodHead
method_head modifiers params result name formals throws = record { modifiers = modifiers; params = params; result = result; name = name; formals = formals; throws = throws }

-- a method with its body, or one without where a semicolon stands (JLS 8.4.7)
abbrev pub method_made : List Modifier → Option TypeParams → ResultType → Ident → MethodTail → Member
method_made modifiers params result name (formals, (throws, This braces)) = member_of.Method (method_head modifiers params (Some result) name formals throws) braces.1.0
method_made modifiers params result name (formals, (throws, That u)) = member_of.Bare (method_head modifiers params (Some result) name formals throws)

-- the statements between the braces of a constructor, of which there may be none
abbrev pub constructor_items : Either (Unit {0}) (Stmt × (List Stmt × Unit {0})) → List Stmt
constructor_items (This u) = []
constructor_items (That p) = p.0 ∷ p.1.0

-- a constructor is a method without a result
abbrev pub constructor_made : List Modifier → Option TypeParams → Constructor → Member
constructor_made modifiers params (name, (formals, (throws, (u, items)))) = member_of.Method (method_head modifiers params None name formals throws) (constructor_items items)

-- the fields of one type: the first one and those behind commas
abbrev pub fields_made : List Modifier → TypeTree → Ident → FieldTail → Member
fields_made modifiers ty name (dims, (init, (more, u))) =
    member_of.Fields (record { modifiers = modifiers; ty = ty; first = record { name = name; dims = dims; init = or_no_init init }; more = map behind_it more })

-- a member of its modifiers and of what stands behind them
abbrev pub member_made : List Modifier → MemberRest → Member
member_made modifiers (This rest) = member_of.Nested (declaration_made modifiers rest)
member_made modifiers (That (This (params, This (at, (name, tail))))) = method_made modifiers (Some params) (result_of.Void at) name tail
member_made modifiers (That (This (params, That (This p)))) = constructor_made modifiers (Some params) p
member_made modifiers (That (This (params, That (That (ty, (name, tail)))))) = method_made modifiers (Some params) (result_of.Type ty) name tail
member_made modifiers (That (That (This (at, (name, tail))))) = method_made modifiers None (result_of.Void at) name tail
member_made modifiers (That (That (That (This p)))) = constructor_made modifiers None p
member_made modifiers (That (That (That (That (ty, (name, This tail)))))) = method_made modifiers None (result_of.Type ty) name tail
member_made modifiers (That (That (That (That (ty, (name, That tail)))))) = fields_made modifiers ty name tail

abbrev pub moded_member : (List Modifier × MemberRest) → Member
moded_member p = member_made p.0 p.1

-- initialisers: an instance initialiser stands at its brace, a static one at its keyword (JLS 8.6, 8.7)
abbrev pub instance_made : PlacedBraces Stmt → Member
instance_made p = member_of.Initialiser p.0 false p.1.0

abbrev pub static_made : (ℕ × Braces Stmt) → Member
static_made p = member_of.Initialiser p.0 true p.1.1.0

-- "(" [Expr {"," Expr}] ")"
abbrev pub Actuals : Type 0
Actuals = Unit {0} × (Option (List Expr) × Unit {0})

abbrev pub or_no_actuals : Option (List Expr) → List Expr
or_no_actuals None = []
or_no_actuals (Some actuals) = actuals

-- calls of another constructor, at the place of their keyword (JLS 8.8.7.1)
abbrev pub this_made : (ℕ × (Actuals × Unit {0})) → Stmt
this_made p = stmt_of.ThisCall p.0 (or_no_actuals p.1.0.1.0)

abbrev pub super_made : (ℕ × (Actuals × Unit {0})) → Stmt
super_made p = stmt_of.SuperCall p.0 (or_no_actuals p.1.0.1.0)

-- the codes of what begins formals or actual arguments, and of what begins a declaration of a type
abbrev pub paren_codes : List ℕ
paren_codes = sign_code sign_of.LeftParen ∷ []

abbrev pub rest_codes : List ℕ
rest_codes = key_code key_of.Class ∷ key_code key_of.Interface ∷ sign_code sign_of.At ∷ []

-- a declaration in a member of height h has modifiers of less
abbrev pub is_low : ℕ → List Modifier → Bool
is_low h modifiers = nat_le (suc (most (map modifier_height modifiers))) h

module _ (x : Exprs) (h : ℕ) (l : Level) where
  -- an actual argument needs room for a height
  unfoldable pub actuals_run : Run Actuals
  actuals_run = in_turn (of_kind (sign_code sign_of.LeftParen)) (in_turn (perhaps (commas_run (with_room h (x.expr h)))) (of_kind (sign_code sign_of.RightParen)))

  -- "this" Actuals ";", or the same with "super"
  unfoldable pub this_run : Run Stmt
  this_run = as_new this_made (in_turn (at_kind (key_code key_of.This)) (in_turn actuals_run semicolon_run))

  unfoldable pub super_run : Run Stmt
  super_run = as_new super_made (in_turn (at_kind (key_code key_of.Super)) (in_turn actuals_run semicolon_run))

  -- the statements of a constructor
  unfoldable pub constructor_items_run : Run (Either (Unit {0}) (Stmt × (List Stmt × Unit {0})))
  constructor_items_run = either (sign_code sign_of.RightBrace ∷ []) (of_kind (sign_code sign_of.RightBrace)) (in_turn l.first (in_turn (any_number l.item) (of_kind (sign_code sign_of.RightBrace))))

  -- formals, ["throws" ClassT {"," ClassT}], and a body or a semicolon; a constructor has no semicolon
  unfoldable pub method_tail_run : Run MethodTail
  method_tail_run = in_turn (formals_run (formal_run x h)) (in_turn (keyed_run key_of.Throws (class_run h)) (either (sign_code sign_of.LeftBrace ∷ []) (braced_run l.item) semicolon_run))

  unfoldable pub constructor_run : Run Constructor
  constructor_run = in_turn an_ident_at (in_turn (formals_run (formal_run x h)) (in_turn (keyed_run key_of.Throws (class_run h)) (in_turn (of_kind (sign_code sign_of.LeftBrace)) constructor_items_run)))

  -- an initialiser needs room for a height
  unfoldable pub field_tail_run : Run FieldTail
  field_tail_run = in_turn dims_run (in_turn (perhaps (with_room h (in_turn (of_kind (sign_code sign_of.Assign)) (x.init h)))) (in_turn (each_behind sign_of.Comma (var_run x h)) semicolon_run))

  -- a method that has no value
  unfoldable pub void_method_run : Run VoidMethod
  void_method_run = in_turn (at_kind (key_code key_of.Void)) (in_turn an_ident_at method_tail_run)

  -- behind type parameters
  unfoldable pub generic_run : Run GenericRest
  generic_run = in_turn (params_of_run (class_run h)) (either (key_code key_of.Void ∷ []) void_method_run (roomy_second h word_code paren_codes constructor_run (in_turn (type_run h) (in_turn an_ident_at method_tail_run))))

  -- without them: behind type and name a parenthesis begins a method, and anything else belongs to fields
  unfoldable pub named_run : Run NamedRest
  named_run = either (key_code key_of.Void ∷ []) void_method_run (roomy_second h word_code paren_codes constructor_run (in_turn (type_run h) (in_turn an_ident_at (either paren_codes method_tail_run field_tail_run))))

  -- type parameters stand there where a `<` does
  abbrev pub code_rest_run : Run (Either GenericRest NamedRest)
  code_rest_run = either (sign_code sign_of.Less ∷ []) generic_run named_run

  -- behind the modifiers of a member
  abbrev pub member_rest_run : List Modifier → Run MemberRest
  member_rest_run modifiers ts = cond (is_low h modifiers) (either rest_codes l.rest code_rest_run ts) (as_new That code_rest_run ts)

  -- modifiers and what they belong to, a semicolon, or an initialiser (JLS 8.1.6, 9.1.4)
  unfoldable pub moded_member_run : Run Member
  moded_member_run = as_new moded_member (by_value (modifiers_run x h) member_rest_run)

  unfoldable pub member_run : Run Member
  member_run =
      or_others (sign_code sign_of.Semicolon ∷ []) (as_new member_of.Semicolon (at_kind (sign_code sign_of.Semicolon))) (or_others (sign_code sign_of.LeftBrace ∷ []) (as_new instance_made (braced_at_run l.item))
      (as_new either_one (by_second (key_code key_of.Static) (sign_code sign_of.LeftBrace ∷ []) (as_new static_made (in_turn (at_kind (key_code key_of.Static)) (braced_run l.item))) moded_member_run)))

  -- a declaration behind its modifiers
  unfoldable pub rest_run : Run DeclarationRest
  rest_run = in_turn (head_rest_run (class_run h)) (braced_run member_run)

  -- behind the modifiers of a statement: with none there, a declaration of a type
  abbrev pub item_rest_run : List Modifier → Run (Either DeclarationRest (TypeTree × Variables))
  item_rest_run [] = as_new This rest_run
  item_rest_run (m ∷ modifiers) = either rest_codes rest_run (in_turn (type_run h) (variables_run x h))

  -- modifiers, and the declaration of a type or the variables that they belong to
  unfoldable pub moded_item_run : Run Stmt
  moded_item_run = as_new moded_made (by_value (modifiers_run x h) item_rest_run)

  -- a statement or a declaration in a block
  unfoldable pub item_run : Run Stmt
  item_run = or_others if_codes (if_run x h l) (or_others statement_codes (simple_run x h l) (or_others (key_code key_of.Class ∷ key_code key_of.Interface ∷ sign_code sign_of.At ∷ modifier_word_codes) moded_item_run (word_run x h l)))

  -- first in a constructor
  unfoldable pub first_run : Run Stmt
  first_run = as_new either_one (by_second (key_code key_of.This) paren_codes this_run (as_new either_one (by_second (key_code key_of.Super) paren_codes super_run item_run)))

  -- all of a height more
  abbrev pub next_level : Level
  next_level = record { body = body_run x h l; other = other_run x h l; item = item_run; case_item = case_item_run x h l; first = first_run; rest = rest_run }

-- of height 0: nothing is read
abbrev pub no_run : {A : Type 0} → Run A
no_run ts = Stopped (length ts)

abbrev pub no_level : Level
no_level = record { body = no_run; other = no_run; item = no_run; case_item = no_run; first = no_run; rest = no_run }

-- statements and declarations of at most a height
unfoldable pub levels : Exprs → ℕ → Level
levels x zero = no_level
levels x (suc h) = next_level x h (levels x h)

-- files

-- "package" Id {"." Id} ";", at the place of the keyword (JLS 7.4.1)
abbrev pub package_made : (ℕ × (Ident × (List Ident × Unit {0}))) → Package
package_made p = record { at = p.0; first = p.1.0; more = p.1.1.0 }

unfoldable pub package_run : Run Package
package_run = as_new package_made (in_turn (at_kind (key_code key_of.Package)) (in_turn an_ident_at (in_turn more_names_run semicolon_run)))

-- whether what may be left out stands there, and which of two things was read
abbrev pub is_there : {A : Type 0} → Option A → Bool
is_there None = false
is_there (Some a) = true

abbrev pub is_this : {A B : Type 0} → Either A B → Bool
is_this (This a) = true
is_this (That b) = false

-- "import" ["static"] Id {"." Id} ["." "*"] ";", at the place of the first keyword (JLS 7.5)
abbrev pub import_made : (ℕ × (Option (Unit {0}) × (Ident × (List Ident × Either (Unit {0} × (Unit {0} × Unit {0})) (Unit {0}))))) → Import
import_made p = record { at = p.0; is_static = is_there p.1.0; first = p.1.1.0; more = p.1.1.1.0; on_demand = is_this p.1.1.1.1 }

unfoldable pub import_run : Run Import
import_run =
    as_new import_made (in_turn (at_kind (key_code key_of.Import)) (in_turn (perhaps (of_kind (key_code key_of.Static))) (in_turn an_ident_at (in_turn more_names_run
    (either (sign_code sign_of.Dot ∷ []) (in_turn (of_kind (sign_code sign_of.Dot)) (in_turn (of_kind (sign_code sign_of.Star)) semicolon_run)) semicolon_run)))))

-- a declaration of a type with its modifiers (JLS 7.6)
abbrev pub declared_made : (List Modifier × DeclarationRest) → TopLevel
declared_made p = top_of.Declaration (declaration_made p.0 p.1)

-- a declaration of at most a height, or a semicolon
unfoldable pub top_run : Exprs → ℕ → Run TopLevel
top_run x zero = as_new top_of.Semicolon (at_kind (sign_code sign_of.Semicolon))
top_run x (suc h) = or_others (sign_code sign_of.Semicolon ∷ []) (as_new top_of.Semicolon (at_kind (sign_code sign_of.Semicolon))) (as_new declared_made (in_turn (modifiers_run x h) (rest_run x h (levels x h))))

-- a source file of its package, None where it names none, its imports and its types (JLS 7.3)
abbrev pub file_made : (Option Package × (List Import × List TopLevel)) → SourceFile
file_made p = record { «package» = p.0; imports = p.1.0; types = p.1.1 }

-- a source file whose declarations have at most a height
unfoldable pub file_run : Exprs → ℕ → Run SourceFile
file_run x h = as_new file_made (in_turn (perhaps package_run) (in_turn (any_number import_run) (any_number (top_run x h))))
