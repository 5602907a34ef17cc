-- Primaries and creations by the parts of which the code makes them.
use Rattle.std.specs.Prelude.{◌≡◌, ℕ, max, Bool, cond, List, [], ◌∷◌, map, length, Option, Some, None, Result, Ok, Err}
use Rattle.jc_lexer.specs.declared.token.Key.TheVariants as key_of
use Rattle.jc_lexer.specs.declared.token.Sign.TheVariants as sign_of
use Rattle.jc_lexer.specs.declared.token.Token.{Token}
use Rattle.jc_lexer.specs.declared.token.TokenKind.{TokenKind}
use Rattle.jc_tree.specs.declared.name.Ident.{Ident}
use Rattle.jc_tree.specs.declared.types.BaseTree.{BaseTree}
use Rattle.jc_tree.specs.declared.types.ClassTree.{ClassTree}
use Rattle.jc_tree.specs.declared.types.PrimitiveWord.{PrimitiveWord}
use Rattle.jc_tree.specs.declared.types.TypeArg.{TypeArg}
use Rattle.jc_tree.specs.declared.expression.ArrayInit.{ArrayInit}
use Rattle.jc_tree.specs.declared.expression.Creation.{Creation}
use Rattle.jc_tree.specs.declared.expression.Creation.TheVariants as creation_of
use Rattle.jc_tree.specs.declared.expression.Expr.{Expr}
use Rattle.jc_tree.specs.declared.expression.Expr.TheVariants as expr_of
use Rattle.jc_tree.specs.declared.expression.Init.{Init}
use Rattle.jc_tree.specs.declared.expression.Literal.{Literal}
use Rattle.jc_tree.specs.declared.expression.Skip.{Skip}
use Rattle.jc_tree.specs.declared.expression.SkipPart.{SkipPart}
use Rattle.jc_tree.specs.declared.expression.SkipPart.TheVariants as skip_part_of
use Rattle.jc_tree.specs.Heights.{capped, most, arg_height, creation_height, expr_height, init_height, skip_height, skip_part_height}
use Rattle.jc_grammar.specs.Shapes.{is_brace}
use Rattle.jc_reading.specs.declared.reading.Found.{Found}
use Rattle.jc_reading.specs.declared.reading.Halt.{Halt}
use Rattle.jc_reading.specs.Giving.{Halts}
use Rattle.jc_reading.specs.Reading as reading
use Rattle.jc_reading.specs.Kinds.{sign_code, key_code}
use Rattle.jc_reading.specs.Reading.{Read, Run, noting, becoming, as_new, This, That, Either, either, perhaps, picking, in_turn, of_kind, an_ident_at, commas_run}
use Rattle.jc_reading.specs.Growing.{grown, steps}
use Rattle.jc_part_laws.specs.PartReading.{more_names_run, row_run}
use Rattle.jc_parse_type.specs.TypeReading.{dims_run}
use Rattle.jc_expr_laws.specs.ExprReading.{readers}
use Rattle.jc_expr_laws.specs.PrimeReading.{Member, Selector, selectors_run, SomeArgs, Dotted, Lengths, array_creation, creation_run, member_run, lengths_run, init_run, or_empty, skip_part_made, skip_run, picks_skipped}
use Rattle.jc_expr_laws.specs.StartReading.{Keyed, Parens, plain_made, DotClass, SpecialTail, ClassDims, DotKey, NamesSpecial, special_made, class_dims_run, dot_key_run}
use Rattle.jc_expr_laws.specs.PostReading.{changed, ops_run}
use Rattle.jc_parse_expr.specs.declared.measured.Measured.{Measured}
use Rattle.jc_parse_expr.specs.declared.parts.MemberTree.{MemberTree}
use Rattle.jc_parse_expr.specs.declared.parts.MemberTree.TheVariants as member_of
use Rattle.jc_parse_expr.specs.declared.parts.SelectorTree.{SelectorTree}
use Rattle.jc_parse_expr.specs.declared.parts.SelectorTree.TheVariants as selector_of
use Rattle.jc_parse_expr.specs.declared.parts.Row.{Row}

-- how expressions, array initialisers and the postfix level are read, of height at most h

abbrev pub expr_in : ℕ → Run Expr
expr_in h = (readers h).levels.expr

abbrev pub array_in : ℕ → Run ArrayInit
array_in h = (readers h).array

abbrev pub post_in : ℕ → Run Expr
post_in h = (readers h).post

-- a tree has its height with it
abbrev pub IsMeasured : {A : Type 0} → (A → ℕ) → Measured A → Type 0
IsMeasured height m = m.height ≡ capped (height m.tree)

-- what is read, with its height
abbrev pub Reads : {A : Type 0} → (A → ℕ) → Found (Measured A) → Read A → Type 0
Reads height f read = (read ≡ reading.Found f.value.tree f.rest.now f.left) × IsMeasured height f.value

-- what is read with its height, or the reason why nothing is
abbrev pub Measures : {A : Type 0} → (A → ℕ) → Result (Found (Measured A)) Halt → Read A → Type 0
Measures height (Ok f) read = Reads height f read
Measures height (Err halt) read = Halts halt read

-- the greatest height of what stands in a list

abbrev pub exprs_height : List Expr → ℕ
exprs_height list = most (map expr_height list)

abbrev pub inits_height : List Init → ℕ
inits_height list = most (map init_height list)

abbrev pub skips_height : List Skip → ℕ
skips_height list = most (map skip_height list)

abbrev pub args_height : List TypeArg → ℕ
args_height list = most (map arg_height list)

abbrev pub skip_parts_height : List SkipPart → ℕ
skip_parts_height list = most (map skip_part_height list)

-- what is skipped

-- a brace is no token of its own there, and begins what is skipped inside
abbrev pub skipped_kind : TokenKind → Option TokenKind
skipped_kind kind = cond (is_brace kind) None (Some kind)

abbrev pub skipped_token : TokenKind → SkipPart
skipped_token kind = skip_part_of.Token kind

abbrev pub skip_item_run : ℕ → Run SkipPart
skip_item_run h = as_new skip_part_made (either (sign_code sign_of.LeftBrace ∷ []) (skip_run h) (picking picks_skipped))

-- members

-- a name is a field where no actual arguments stand behind it, and else a call
abbrev pub named_tree : (Ident × Option (List Expr)) → MemberTree
named_tree (name, None) = member_of.Field name
named_tree (name, Some list) = member_of.Call [] name list

abbrev pub member_tree : Member → MemberTree
member_tree (This p) = member_of.Call p.0.1.0 p.1.0 p.1.1
member_tree (That p) = named_tree p

-- a name has height 0, and a call that of the highest of its arguments
abbrev pub member_height : MemberTree → ℕ
member_height (member_of.Field name) = 0
member_height (member_of.Call type_args name actuals) = max (args_height type_args) (exprs_height actuals)

-- a call of its type arguments and of what stands behind them
abbrev pub called_tree : List TypeArg → (Ident × List Expr) → MemberTree
called_tree type_args p = member_of.Call type_args p.0 p.1

abbrev pub some_args_list : SomeArgs → List TypeArg
some_args_list p = p.1.0

-- a member as a start, and behind `super`

-- a start that is a member has no type arguments: those of a call are dropped
abbrev pub started : MemberTree → Expr
started (member_of.Field name) = expr_of.Name name
started (member_of.Call type_args name actuals) = expr_of.Invoke name actuals

-- a member behind `super`, at the place of the keyword
abbrev pub of_super : ℕ → MemberTree → Expr
of_super at (member_of.Field name) = expr_of.SuperField at name
of_super at (member_of.Call type_args name actuals) = expr_of.SuperCall at type_args name actuals

-- selectors

-- an index, or what stands behind a point: an inner creation or a member
abbrev pub index_tree : (Expr × Unit {0}) → SelectorTree
index_tree p = selector_of.Index p.0

abbrev pub dotted_tree : Either (Unit {0} × Creation) Member → SelectorTree
dotted_tree (This p) = selector_of.New p.1
dotted_tree (That m) = selector_of.Member (member_tree m)

abbrev pub dotted_inside : ℕ → Run Expr → Run ArrayInit → Run (Either (Unit {0} × Creation) Member)
dotted_inside h expr array = either (key_code key_of.New ∷ []) (in_turn (of_kind (key_code key_of.New)) (creation_run h expr array)) (member_run h expr)

abbrev pub pointed_tree : Dotted → SelectorTree
pointed_tree p = dotted_tree p.1

abbrev pub selector_tree : Selector → SelectorTree
selector_tree (This p) = index_tree p.1
selector_tree (That p) = pointed_tree p

-- a selector is as high as the part in it
abbrev pub selector_height : SelectorTree → ℕ
selector_height (selector_of.Index index) = expr_height index
selector_height (selector_of.New creation) = creation_height creation
selector_height (selector_of.Member member) = member_height member

-- a value with a selector behind it
abbrev pub of_member : Expr → MemberTree → Expr
of_member v (member_of.Field name) = expr_of.Field v name
of_member v (member_of.Call type_args name actuals) = expr_of.Call v type_args name actuals

abbrev pub of_selector : Expr → SelectorTree → Expr
of_selector v (selector_of.Index index) = expr_of.Index v index
of_selector v (selector_of.New creation) = expr_of.InnerNew v creation
of_selector v (selector_of.Member member) = of_member v member

-- the next selector behind the value v
abbrev pub selector_at : ℕ → Expr → Run SelectorTree
selector_at h v = as_new selector_tree (selectors_run h (expr_in h) (array_in h) v)

-- what the parts behind a value make of it, where so many tokens were left from the reach on
abbrev pub grown_on : {P : Type 0} → (Expr → P → Expr) → (Expr → Run P) → Expr → List Token → ℕ → Read Expr
grown_on make part v ts reach = noting reach (becoming (grown make v) (steps (length ts) make part v ts))

-- the same with selectors, and with postfix operators
abbrev pub selected_on : ℕ → Expr → List Token → ℕ → Read Expr
selected_on h = grown_on of_selector (selector_at h)

abbrev pub changed_on : ℕ → Expr → List Token → ℕ → Read Expr
changed_on h = grown_on changed (ops_run h)

-- class literals and outer `this`

-- of a primitive type, at the place of its keyword
abbrev pub word_class_made : ℕ → PrimitiveWord → (ℕ × DotClass) → Expr
word_class_made at word p = special_made (This ((at, word), p))

-- of names and what stands behind them
abbrev pub special_tail_made : Ident → List Ident → SpecialTail → Expr
special_tail_made first more tail = special_made (That (first, (more, tail)))

abbrev pub class_dims_made : Ident → List Ident → ClassDims → Expr
class_dims_made first more p = special_tail_made first more (This p)

abbrev pub dot_key_made : Ident → List Ident → DotKey → Expr
dot_key_made first more p = special_tail_made first more (That p)

-- brackets and `.class` where a `[` stands first, and else a point and a keyword
abbrev pub special_tail_run : ℕ → Run SpecialTail
special_tail_run h = either (sign_code sign_of.LeftBracket ∷ []) (class_dims_run h) (dot_key_run h)

-- of names and all that stands behind them, read at once
abbrev pub names_special_made : NamesSpecial → Expr
names_special_made p = special_made (That p)

abbrev pub names_special_run : ℕ → Run NamesSpecial
names_special_run h = in_turn an_ident_at (in_turn more_names_run (special_tail_run h))

-- starts

-- the expressions of the starts, by what was read of each
abbrev pub literal_made : (ℕ × Literal) → Expr
literal_made p = expr_of.Literal p.0 p.1

abbrev pub keyed_made : Keyed → Expr
keyed_made k = plain_made (That (That (That k)))

abbrev pub named_made : (Ident × Option (List Expr)) → Expr
named_made p = plain_made (This p)

abbrev pub parens_made : Parens → Expr
parens_made p = expr_of.Paren p.0 p.1.0

abbrev pub void_made : ℕ → DotClass → Expr
void_made at p = expr_of.VoidLiteral at

abbrev pub super_made : ℕ → (Unit {0} × Member) → Expr
super_made at p = of_super at (member_tree p.1)

-- creations, behind their class or word

-- an array of an element type, with an initialiser or with lengths
abbrev pub initial_made : BaseTree → (ℕ × ArrayInit) → Creation
initial_made element p = creation_of.Initialised element p.0 p.1

abbrev pub sized_made : BaseTree → Lengths → Creation
sized_made element p = array_creation element (tt, That p)

-- a length between brackets
abbrev pub length_of : (Unit {0} × (Expr × Unit {0})) → Expr
length_of p = p.1.0

abbrev pub length_run : Run Expr → Run Expr
length_run expr = as_new length_of (in_turn (of_kind (sign_code sign_of.LeftBracket)) (in_turn expr (of_kind (sign_code sign_of.RightBracket))))

-- the first length behind its bracket, the others, and the empty brackets
abbrev pub sized_run : Run Expr → Run Lengths
sized_run expr = in_turn expr (in_turn (of_kind (sign_code sign_of.RightBracket)) (in_turn (lengths_run expr) dims_run))

-- an object of a class, with whether `<>` stands behind the class
abbrev pub object_made : ClassTree → Bool → (List Expr × List Skip) → Creation
object_made class diamond p = creation_of.Object class diamond p.0 p.1

-- lists

-- expressions between commas, of which there may be none
abbrev pub some_exprs_run : Run Expr → Run (List Expr)
some_exprs_run expr = as_new or_empty (perhaps (commas_run expr))

-- an initialiser of height at most h
abbrev pub init_in : ℕ → Run Init
init_in h = init_run (expr_in h) (array_in h)

-- initialisers up to the closing brace, and whether a comma stands before it
abbrev pub init_row_run : Run Init → Run (List Init × Bool)
init_row_run init = row_run sign_of.Comma sign_of.RightBrace init

abbrev pub empty_row_tree : Bool → Row
empty_row_tree trailing = record { inits = []; trailing = trailing }

abbrev pub row_tree : (List Init × Bool) → Row
row_tree p = record { inits = p.0; trailing = p.1 }

abbrev pub row_height : Row → ℕ
row_height row = inits_height row.inits
