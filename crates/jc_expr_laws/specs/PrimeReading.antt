-- How literals, lists of actual arguments, array initialisers, creations and primaries are read (JLS 10.6, 15.8 to 15.14).
use Rattle.std.specs.Prelude.{ℕ, zero, suc, Bool, true, false, cond, nat_le, List, [], ◌∷◌, map, length, Option, Some, None}
use Rattle.jc_lexer.specs.declared.token.Key.{Key}
use Rattle.jc_lexer.specs.declared.token.Key.TheVariants as key_of
use Rattle.jc_lexer.specs.declared.token.Sign.TheVariants as sign_of
use Rattle.jc_lexer.specs.declared.token.Token.{Token}
use Rattle.jc_lexer.specs.declared.token.TokenKind.{TokenKind}
use Rattle.jc_lexer.specs.declared.token.TokenKind.TheVariants as kind_of
use Rattle.jc_tree.specs.declared.name.Ident.{Ident}
use Rattle.jc_tree.specs.declared.types.BaseTree.{BaseTree}
use Rattle.jc_tree.specs.declared.types.BaseTree.TheVariants as base_of
use Rattle.jc_tree.specs.declared.types.ClassTree.{ClassTree}
use Rattle.jc_tree.specs.declared.types.PrimitiveWord.{PrimitiveWord}
use Rattle.jc_tree.specs.declared.types.TypeArg.{TypeArg}
use Rattle.jc_tree.specs.declared.expression.Literal.{Literal}
use Rattle.jc_tree.specs.declared.expression.Literal.TheVariants as literal_of
use Rattle.jc_tree.specs.declared.expression.Creation.{Creation}
use Rattle.jc_tree.specs.declared.expression.Creation.TheVariants as creation_of
use Rattle.jc_tree.specs.declared.expression.Expr.{Expr}
use Rattle.jc_tree.specs.declared.expression.Expr.TheVariants as expr_of
use Rattle.jc_tree.specs.declared.expression.Init.{Init}
use Rattle.jc_tree.specs.declared.expression.Init.TheVariants as init_of
use Rattle.jc_tree.specs.declared.expression.ArrayInit.{ArrayInit, roll-ArrayInit}
use Rattle.jc_tree.specs.declared.expression.Skip.{Skip, roll-Skip}
use Rattle.jc_tree.specs.declared.expression.SkipPart.{SkipPart}
use Rattle.jc_tree.specs.declared.expression.SkipPart.TheVariants as skip_part_of
use Rattle.jc_tree.specs.Heights.{expr_height}
use Rattle.jc_grammar.specs.Shapes.{is_brace, ends_bare, expr_shape}
use Rattle.jc_reading.specs.Kinds.{sign_code, key_code}
use Rattle.jc_reading.specs.Reading.{Stopped, Run, as_new, in_turn, perhaps, any_number, each_behind, Either, This, That, either, picking, commas_run, of_kind, at_kind, an_ident_at}
use Rattle.jc_parse_type.specs.TypeReading.{dims_run, type_run, class_run, arg_run, word_run, primitive_codes, at_its_place}
use Rattle.jc_reading.specs.Further.{with_room, by_value}
use Rattle.jc_part_laws.specs.PartReading.{row_run}

-- literals

-- `true`, `false` and `null`, and None for all other keywords (JLS 15.8.1)
abbrev pub literal_of_key : Key → Option Literal
literal_of_key key_of.True = Some (literal_of.Boolean true)
literal_of_key key_of.False = Some (literal_of.Boolean false)
literal_of_key key_of.Null = Some literal_of.Null
literal_of_key _ = None

-- a token that is a literal, and None for all others
abbrev pub literal_of_kind : TokenKind → Option Literal
literal_of_kind (kind_of.Number value long decimal) = Some (literal_of.Number value long decimal)
literal_of_kind (kind_of.CharLit unit) = Some (literal_of.Char unit)
literal_of_kind (kind_of.StringLit units) = Some (literal_of.String units)
literal_of_kind (kind_of.Key k) = literal_of_key k
literal_of_kind _ = None

-- a literal at the place of its token
abbrev pub picks_literal : Token → Option (ℕ × Literal)
picks_literal t = at_its_place t.from (literal_of_kind t.kind)

-- the codes of the tokens that are literals
abbrev pub literal_codes : List ℕ
literal_codes = 1 ∷ 2 ∷ 3 ∷ key_code key_of.True ∷ key_code key_of.False ∷ key_code key_of.Null ∷ []

-- "(" [Expr {"," Expr}] ")"

-- a list that may be left out
abbrev pub or_empty : {A : Type 0} → Option (List A) → List A
or_empty None = []
or_empty (Some list) = list

-- the actual arguments between the parentheses, of which there may be none (JLS 15.12)
abbrev pub actuals_made : (Unit {0} × (Option (List Expr) × Unit {0})) → List Expr
actuals_made p = or_empty p.1.0

unfoldable pub actuals_run : Run Expr → Run (List Expr)
actuals_run expr = as_new actuals_made (in_turn (of_kind (sign_code sign_of.LeftParen)) (in_turn (perhaps (commas_run expr)) (of_kind (sign_code sign_of.RightParen))))

-- what stands between braces and is skipped: of height at most h

-- a token that is no brace
abbrev pub picks_skipped : Token → Option TokenKind
picks_skipped t = cond (is_brace t.kind) None (Some t.kind)

-- a part: braces with what stands between them, or one token
abbrev pub skip_part_made : Either Skip TokenKind → SkipPart
skip_part_made (This skip) = skip_part_of.Inner skip
skip_part_made (That kind) = skip_part_of.Token kind

-- the parts between two braces
abbrev pub skip_made : (Unit {0} × (List SkipPart × Unit {0})) → Skip
skip_made p = roll-Skip (record { parts = p.1.0 })

unfoldable pub skip_run : ℕ → Run Skip
skip_run zero ts = Stopped (length ts)
skip_run (suc h) ts = as_new skip_made (in_turn (of_kind (sign_code sign_of.LeftBrace)) (in_turn (any_number (as_new skip_part_made (either (sign_code sign_of.LeftBrace ∷ []) (skip_run h) (picking picks_skipped)))) (of_kind (sign_code sign_of.RightBrace)))) ts

-- "{" [Init {"," Init}] [","] "}", where the parts are read so

-- an initialiser is an array initialiser where a brace stands first, and else an expression (JLS 8.3)
abbrev pub init_made : Either ArrayInit Expr → Init
init_made (This array) = init_of.Nested array
init_made (That expr) = init_of.Value expr

unfoldable pub init_run : Run Expr → Run ArrayInit → Run Init
init_run expr array = as_new init_made (either (sign_code sign_of.LeftBrace ∷ []) array expr)

-- at the place of its first brace, with whether a comma stands before the last one (JLS 10.6)
abbrev pub array_made : (ℕ × (List Init × Bool)) → ArrayInit
array_made p = roll-ArrayInit (record { at = p.0; inits = p.1.0; trailing = p.1.1 })

unfoldable pub array_run : Run Init → Run ArrayInit
array_run init = as_new array_made (in_turn (at_kind (sign_code sign_of.LeftBrace)) (row_run sign_of.Comma sign_of.RightBrace init))

-- what stands behind `new`

-- "[" "]" dims ArrayInit, or "[" Expr "]" {"[" Expr "]"} dims
abbrev pub Initial : Type 0
Initial = Unit {0} × (ℕ × ArrayInit)

-- the first length, the others and the count of the empty brackets behind them
abbrev pub Lengths : Type 0
Lengths = Expr × (Unit {0} × (List (Unit {0} × (Expr × Unit {0})) × ℕ))

-- what stands behind the element type: an initialiser behind empty brackets, or lengths (JLS 15.10)
abbrev pub ArrayTail : Type 0
ArrayTail = Unit {0} × Either Initial Lengths

-- the lengths behind the first one
abbrev pub lengths_run : Run Expr → Run (List (Unit {0} × (Expr × Unit {0})))
lengths_run expr = each_behind sign_of.LeftBracket (in_turn expr (of_kind (sign_code sign_of.RightBracket)))

-- an array's brackets, which need room for a height; with `]` behind the first `[` an initialiser follows
abbrev pub array_tail_run : ℕ → Run Expr → Run ArrayInit → Run ArrayTail
array_tail_run h expr array =
    with_room h (in_turn (of_kind (sign_code sign_of.LeftBracket)) (either (sign_code sign_of.RightBracket ∷ [])
    (in_turn (of_kind (sign_code sign_of.RightBracket)) (in_turn dims_run array))
    (in_turn expr (in_turn (of_kind (sign_code sign_of.RightBracket)) (in_turn (lengths_run expr) dims_run)))))

-- ["<" ">"] Actuals [Skip], the brackets only behind a class without arguments
abbrev pub ObjectTail : Type 0
ObjectTail = Bool × (List Expr × List Skip)

-- what may be left out: whether it stands there, and as a list of at most one
abbrev pub is_there : {A : Type 0} → Option A → Bool
is_there None = false
is_there (Some a) = true

abbrev pub at_most_one : {A : Type 0} → Option A → List A
at_most_one None = []
at_most_one (Some a) = a ∷ []

-- whether `<` `>` stand there (JLS 15.9)
abbrev pub diamond_run : Run Bool
diamond_run = as_new is_there (perhaps (in_turn (of_kind (sign_code sign_of.Less)) (of_kind (sign_code sign_of.Greater))))

-- the body of an anonymous class, skipped, or none (JLS 15.9.5)
abbrev pub body_run : ℕ → Run (List Skip)
body_run h = as_new at_most_one (perhaps (skip_run h))

-- actual arguments and a body
abbrev pub object_run : ℕ → Run Expr → Run (List Expr × List Skip)
object_run h expr = in_turn (actuals_run expr) (body_run h)

-- behind a class with arguments of its own
abbrev pub no_diamond : (List Expr × List Skip) → ObjectTail
no_diamond p = (false, p)

-- the brackets are read where told to be
abbrev pub object_tail_run : ℕ → Run Expr → Bool → Run ObjectTail
object_tail_run h expr true = in_turn diamond_run (object_run h expr)
object_tail_run h expr false = as_new no_diamond (object_run h expr)

-- behind a class: an array's brackets where a `[` stands, and else an object's arguments
abbrev pub ClassTail : Type 0
ClassTail = Either ArrayTail ObjectTail

abbrev pub class_tail_run : ℕ → Run Expr → Run ArrayInit → ClassTree → Run ClassTail
class_tail_run h expr array class = either (sign_code sign_of.LeftBracket ∷ []) (array_tail_run h expr array) (object_tail_run h expr (ends_bare class))

-- the creation of an element type or a class and of what stands behind it
abbrev pub array_creation : BaseTree → ArrayTail → Creation
array_creation element (u, This p) = creation_of.Initialised element p.1.0 p.1.1
array_creation element (u, That p) = creation_of.Sized element p.0 (map (λ (q : Unit {0} × (Expr × Unit {0})). q.1.0) p.1.1.0) p.1.1.1

abbrev pub class_creation : ClassTree → ClassTail → Creation
class_creation class (This tail) = array_creation (base_of.Class class) tail
class_creation class (That p) = creation_of.Object class p.0 p.1.0 p.1.1

abbrev pub creation_made : Either ((ℕ × PrimitiveWord) × ArrayTail) (ClassTree × ClassTail) → Creation
creation_made (This p) = array_creation (base_of.Primitive p.0.0 p.0.1) p.1
creation_made (That p) = class_creation p.0 p.1

-- a creation of height at most h
unfoldable pub creation_run : ℕ → Run Expr → Run ArrayInit → Run Creation
creation_run h expr array =
    as_new creation_made (either primitive_codes (with_room h (in_turn word_run (array_tail_run h expr array))) (by_value (class_run h) (class_tail_run h expr array)))

-- behind a point: [Args] Id Actuals, or Id [Actuals]
abbrev pub SomeArgs : Type 0
SomeArgs = Unit {0} × (List TypeArg × Unit {0})

abbrev pub Member : Type 0
Member = Either (SomeArgs × (Ident × List Expr)) (Ident × Option (List Expr))

-- type arguments between `<` and `>`
abbrev pub some_args_run : ℕ → Run SomeArgs
some_args_run h = in_turn (of_kind (sign_code sign_of.Less)) (in_turn (commas_run (arg_run h (type_run h))) (of_kind (sign_code sign_of.Greater)))

-- a name, with None where no actual arguments stand behind it
abbrev pub named_run : Run Expr → Run (Ident × Option (List Expr))
named_run expr = in_turn an_ident_at (perhaps (actuals_run expr))

-- by whether a `<` stands first; behind type arguments actual arguments must stand (JLS 15.12)
abbrev pub member_run : ℕ → Run Expr → Run Member
member_run h expr = either (sign_code sign_of.Less ∷ []) (in_turn (some_args_run h) (in_turn an_ident_at (actuals_run expr))) (named_run expr)

-- a selector: "[" Expr "]", "." "new" Creation, or "." and a member
abbrev pub Indexed : Type 0
Indexed = Unit {0} × (Expr × Unit {0})

abbrev pub Dotted : Type 0
Dotted = Unit {0} × Either (Unit {0} × Creation) Member

abbrev pub Selector : Type 0
Selector = Either Indexed Dotted

-- an index needs room for a height (JLS 15.13)
abbrev pub indexed_run : ℕ → Run Expr → Run Indexed
indexed_run h expr = with_room h (in_turn (of_kind (sign_code sign_of.LeftBracket)) (in_turn expr (of_kind (sign_code sign_of.RightBracket))))

-- behind a point: `new`, or else a member
abbrev pub dotted_run : ℕ → Run Expr → Run ArrayInit → Run Dotted
dotted_run h expr array =
    in_turn (of_kind (sign_code sign_of.Dot)) (either (key_code key_of.New ∷ []) (in_turn (of_kind (key_code key_of.New)) (creation_run h expr array)) (member_run h expr))

-- with room for a value that is selected from, and behind an array with lengths or not
abbrev pub selector_run : ℕ → Run Expr → Run ArrayInit → Bool → Bool → Run Selector
selector_run h expr array true false = either (sign_code sign_of.LeftBracket ∷ []) (indexed_run h expr) (dotted_run h expr array)
selector_run h expr array true true = as_new That (dotted_run h expr array)
selector_run h expr array false sized = λ ts. Stopped (length ts)

-- a value with the selector behind it: an index, an inner creation, a call or a field (JLS 15.9, 15.11 to 15.13)
abbrev pub selected : Expr → Selector → Expr
selected v (This p) = expr_of.Index v p.1.0
selected v (That (u, This p)) = expr_of.InnerNew v p.1
selected v (That (u, That (This p))) = expr_of.Call v p.0.1.0 p.1.0 p.1.1
selected v (That (u, That (That (name, None)))) = expr_of.Field v name
selected v (That (u, That (That (name, Some list)))) = expr_of.Call v [] name list

-- the selectors behind a value of height at most one more than h
abbrev pub selectors_run : ℕ → Run Expr → Run ArrayInit → Expr → Run Selector
selectors_run h expr array v = selector_run h expr array (nat_le (expr_height v) h) (expr_shape v).sized
