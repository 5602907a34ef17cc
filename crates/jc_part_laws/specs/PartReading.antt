-- How the parts of units are read: names, annotations, modifiers, type parameters, formals, variables and heads (JLS 7, 8, 9).
use Rattle.std.specs.Prelude.{ℕ, zero, suc, Bool, true, false, List, [], ◌∷◌, map, length, Option, Some, None}
use Rattle.jc_lexer.specs.declared.token.Key.{Key}
use Rattle.jc_lexer.specs.declared.token.Key.TheVariants as key_of
use Rattle.jc_lexer.specs.declared.token.Sign.{Sign}
use Rattle.jc_lexer.specs.declared.token.Sign.TheVariants as sign_of
use Rattle.jc_lexer.specs.declared.token.Token.{Token}
use Rattle.jc_lexer.specs.declared.token.TokenKind.{TokenKind}
use Rattle.jc_lexer.specs.declared.token.TokenKind.TheVariants as kind_of
use Rattle.jc_tree.specs.declared.name.Ident.{Ident}
use Rattle.jc_tree.specs.declared.types.ClassTree.{ClassTree}
use Rattle.jc_tree.specs.declared.types.TypeTree.{TypeTree}
use Rattle.jc_tree.specs.declared.expression.Expr.{Expr}
use Rattle.jc_tree.specs.declared.expression.Init.{Init}
use Rattle.jc_tree.specs.declared.statement.Annotation.{Annotation}
use Rattle.jc_tree.specs.declared.statement.AnnotationValue.{AnnotationValue}
use Rattle.jc_tree.specs.declared.statement.AnnotationValue.TheVariants as value_of
use Rattle.jc_tree.specs.declared.statement.DeclarationHead.{DeclarationHead}
use Rattle.jc_tree.specs.declared.statement.DeclarationHead.TheVariants as head_of
use Rattle.jc_tree.specs.declared.statement.Formal.{Formal}
use Rattle.jc_tree.specs.declared.statement.Modifier.{Modifier}
use Rattle.jc_tree.specs.declared.statement.Modifier.TheVariants as modifier_of
use Rattle.jc_tree.specs.declared.statement.ModifierWord.{ModifierWord}
use Rattle.jc_tree.specs.declared.statement.ModifierWord.TheVariants as word_of
use Rattle.jc_tree.specs.declared.statement.Pair.{Pair}
use Rattle.jc_tree.specs.declared.statement.TypeParam.{TypeParam}
use Rattle.jc_tree.specs.declared.statement.TypeParams.{TypeParams}
use Rattle.jc_tree.specs.declared.statement.Var.{Var}
use Rattle.jc_reading.specs.Kinds.{sign_code, key_code}
use Rattle.jc_reading.specs.Reading.{Stopped, Run, found, as_new, in_turn, perhaps, any_number, each_behind, Either, This, That, either, picking, behind_it, commas_run, of_kind, at_kind, an_ident_at}
use Rattle.jc_parse_type.specs.TypeReading.{dims_run, type_run, at_its_place}
use Rattle.jc_reading.specs.Further.{with_room, followed, preferring}

-- how expressions are read at each height
pub record Exprs : Type 0 where
  pub expr : ℕ → Run Expr
  pub conditional : ℕ → Run Expr
  pub effect : ℕ → Run Expr
  pub init : ℕ → Run Init

-- {"." Id}
unfoldable pub more_names_run : Run (List Ident)
more_names_run = as_new (map behind_it) (each_behind sign_of.Dot an_ident_at)

-- the list behind a keyword, empty where nothing of it is read
abbrev pub or_nothing : {A : Type 0} → Option (Unit {0} × List A) → List A
or_nothing None = []
or_nothing (Some p) = p.1

-- [keyword ClassT {"," ClassT}]
unfoldable pub keyed_run : Key → Run ClassTree → Run (List ClassTree)
keyed_run k class = as_new or_nothing (perhaps (in_turn (of_kind (key_code k)) (commas_run class)))

-- ["extends" ClassT {"&" ClassT}]
abbrev pub bounds_made : Option (Unit {0} × (ClassTree × List (Unit {0} × ClassTree))) → List ClassTree
bounds_made None = []
bounds_made (Some p) = p.1.0 ∷ map behind_it p.1.1

-- a type parameter without `extends` has no bounds (JLS 4.4)
unfoldable pub bounds_run : Run ClassTree → Run (List ClassTree)
bounds_run class = as_new bounds_made (perhaps (in_turn (of_kind (key_code key_of.Extends)) (in_turn class (each_behind sign_of.And class))))

-- a type parameter of its name and its bounds
abbrev pub param_made : (Ident × List ClassTree) → TypeParam
param_made p = record { name = p.0; bounds = p.1 }

-- Param
unfoldable pub param_run : Run ClassTree → Run TypeParam
param_run class = as_new param_made (in_turn an_ident_at (bounds_run class))

-- the type parameters between `<` and `>`, none where the brackets are left out
abbrev pub or_no_params : Option (Unit {0} × (List TypeParam × Unit {0})) → List TypeParam
or_no_params None = []
or_no_params (Some p) = p.1.0

-- [Params]
unfoldable pub params_run : Run ClassTree → Run (List TypeParam)
params_run class = as_new or_no_params (perhaps (in_turn (of_kind (sign_code sign_of.Less)) (in_turn (commas_run (param_run class)) (of_kind (sign_code sign_of.Greater)))))

-- at least one type parameter, at the place of the `<` before it
abbrev pub params_made : (ℕ × ((TypeParam × List (Unit {0} × TypeParam)) × Unit {0})) → TypeParams
params_made p = record { at = p.0; first = p.1.0.0; more = map behind_it p.1.0.1 }

-- Params, with their place
unfoldable pub params_of_run : Run ClassTree → Run TypeParams
params_of_run class = as_new params_made (in_turn (at_kind (sign_code sign_of.Less)) (in_turn (in_turn (param_run class) (each_behind sign_of.Comma (param_run class))) (of_kind (sign_code sign_of.Greater))))

-- the end of a list, where the sign between its parts may stand once more
abbrev pub which : {A B : Type 0} → Either A B → Bool
which (This a) = true
which (That b) = false

-- `between` and `end`, which is true, or `end` alone, which is false
abbrev pub closing_run : Sign → Sign → Run Bool
closing_run between end = as_new which (either (sign_code between ∷ []) (in_turn (of_kind (sign_code between)) (of_kind (sign_code end))) (of_kind (sign_code end)))

-- what stands behind the first part of a list: further parts, each behind `between`, and the end
abbrev pub rows_tail_run : {A : Type 0} → Sign → Sign → Run A → Run (List (Unit {0} × A) × Bool)
rows_tail_run between end run = in_turn (each_behind between run) (closing_run between end)

-- [A {"," A}] [","] and the end
abbrev pub row_made : {A : Type 0} → Either Bool (A × (List (Unit {0} × A) × Bool)) → List A × Bool
row_made (This trailing) = ([], trailing)
row_made (That p) = (p.0 ∷ map behind_it p.1.0, p.1.1)

-- no parts where `between` or `end` stands first, and else at least one; true where `between` stands right before the end
abbrev pub row_run : {A : Type 0} → Sign → Sign → Run A → Run (List A × Bool)
row_run between end run = as_new row_made (either (sign_code between ∷ sign_code end ∷ []) (closing_run between end) (in_turn run (rows_tail_run between end run)))

-- an element value: values in braces, at the place of the first brace, or an expression (JLS 9.7.1)
abbrev pub value_made : Either (ℕ × (List AnnotationValue × Bool)) Expr → AnnotationValue
value_made (This p) = value_of.List p.0 p.1.0 p.1.1
value_made (That e) = value_of.Value e

module _ (x : Exprs) where
  -- Value, of height at most h
  unfoldable pub value_run : ℕ → Run AnnotationValue
  value_run zero ts = Stopped (length ts)
  value_run (suc h) ts = as_new value_made (either (sign_code sign_of.LeftBrace ∷ []) (in_turn (at_kind (sign_code sign_of.LeftBrace)) (row_run sign_of.Comma sign_of.RightBrace (value_run h))) (x.conditional (suc h))) ts

  -- [Id "="] Value
  abbrev pub pair_made : Either (Ident × (Unit {0} × AnnotationValue)) AnnotationValue → Pair
  pair_made (This p) = record { name = Some p.0; value = p.1.1 }
  pair_made (That value) = record { name = None; value = value }

  -- nothing is read with room for no height; a value alone is read only where no name with `=` and a value can be read
  unfoldable pub pair_run : ℕ → Run Pair
  pair_run h = with_room h (as_new pair_made (preferring (in_turn an_ident_at (in_turn (of_kind (sign_code sign_of.Assign)) (value_run h))) (value_run h)))

  -- "(" [Pair {"," Pair}] ")", where nothing between the parentheses is no pair
  abbrev pub pairs_made : (Unit {0} × (Option (List Pair) × Unit {0})) → List Pair
  pairs_made (u, (None, v)) = []
  pairs_made (u, (Some pairs, v)) = pairs

  unfoldable pub pairs_run : ℕ → Run (List Pair)
  pairs_run h = as_new pairs_made (in_turn (of_kind (sign_code sign_of.LeftParen)) (in_turn (perhaps (commas_run (pair_run h))) (of_kind (sign_code sign_of.RightParen))))

  -- "@" Id {"." Id} [Pairs], at the place of the sign; without parentheses its pairs are None (JLS 9.7)
  abbrev pub annotation_made : (ℕ × (Ident × (List Ident × Option (List Pair)))) → Annotation
  annotation_made p = record { at = p.0; first = p.1.0; more = p.1.1.0; pairs = p.1.1.1 }

  unfoldable pub annotation_run : ℕ → Run Annotation
  annotation_run h = as_new annotation_made (in_turn (at_kind (sign_code sign_of.At)) (in_turn an_ident_at (in_turn more_names_run (perhaps (pairs_run h)))))

-- the modifier that a keyword is, None where it is none; `strictfp` and `synchronized` are none (JLS 8.1.1, 8.3.1, 8.4.3)
abbrev pub modifier_word_of : Key → Option ModifierWord
modifier_word_of key_of.Public = Some word_of.Public
modifier_word_of key_of.Protected = Some word_of.Protected
modifier_word_of key_of.Private = Some word_of.Private
modifier_word_of key_of.Static = Some word_of.Static
modifier_word_of key_of.Abstract = Some word_of.Abstract
modifier_word_of key_of.Final = Some word_of.Final
modifier_word_of key_of.Native = Some word_of.Native
modifier_word_of key_of.Volatile = Some word_of.Volatile
modifier_word_of key_of.Transient = Some word_of.Transient
modifier_word_of _ = None

-- the same of a token, with its place; what is no keyword is no modifier
abbrev pub modifier_word_of_kind : TokenKind → Option ModifierWord
modifier_word_of_kind (kind_of.Key k) = modifier_word_of k
modifier_word_of_kind _ = None

abbrev pub picks_modifier : Token → Option (ℕ × ModifierWord)
picks_modifier t = at_its_place t.from (modifier_word_of_kind t.kind)

-- the codes of the keywords that are modifiers
abbrev pub modifier_word_codes : List ℕ
modifier_word_codes =
    key_code key_of.Public ∷ key_code key_of.Protected ∷ key_code key_of.Private ∷ key_code key_of.Static ∷ key_code key_of.Abstract ∷ key_code key_of.Final ∷ key_code key_of.Native
    ∷ key_code key_of.Volatile ∷ key_code key_of.Transient ∷ []

-- an annotation, or a modifier's keyword at its place
abbrev pub modifier_made : Either Annotation (ℕ × ModifierWord) → Modifier
modifier_made (This a) = modifier_of.Annotation a
modifier_made (That p) = modifier_of.Word p.0 p.1

-- Mods Type ["..."] Id Dims, of variable arity where the dots stand there (JLS 8.4.1)
abbrev pub formal_made : (List Modifier × (TypeTree × (Option (Unit {0}) × (Ident × ℕ)))) → Formal
formal_made (modifiers, (ty, (None, (name, dims)))) = record { modifiers = modifiers; ty = ty; variable_arity = false; name = name; dims = dims }
formal_made (modifiers, (ty, (Some u, (name, dims)))) = record { modifiers = modifiers; ty = ty; variable_arity = true; name = name; dims = dims }

-- a formal behind which no further one stands
abbrev pub is_variable : Formal → Bool
is_variable f = f.variable_arity

-- a formal behind a comma and those behind it, or none
abbrev pub or_no_formals : Option (Unit {0} × (Formal × List Formal)) → List Formal
or_no_formals None = []
or_no_formals (Some p) = p.1.0 ∷ p.1.1

-- further formals, with room for n of them
unfoldable pub formals_tail_run : ℕ → Run Formal → Run (List Formal)
formals_tail_run zero formal ts = found [] ts
formals_tail_run (suc n) formal ts = as_new or_no_formals (perhaps (in_turn (of_kind (sign_code sign_of.Comma)) (followed is_variable [] formal (formals_tail_run n formal)))) ts

-- the formals between the parentheses, of which there may be none
abbrev pub formals_made : (Unit {0} × (Option (Formal × List Formal) × Unit {0})) → List Formal
formals_made (u, (None, v)) = []
formals_made (u, (Some p, v)) = p.0 ∷ p.1

-- Formals: "..." stands at the last one alone
unfoldable pub formals_run : Run Formal → Run (List Formal)
formals_run formal = as_new formals_made (in_turn (of_kind (sign_code sign_of.LeftParen)) (in_turn (perhaps (followed is_variable [] formal (λ ts. formals_tail_run (length ts) formal ts))) (of_kind (sign_code sign_of.RightParen))))

-- Id Dims ["=" Init], where no initialiser is None (JLS 8.3)
abbrev pub var_made : (Ident × (ℕ × Option (Unit {0} × Init))) → Var
var_made (name, (dims, None)) = record { name = name; dims = dims; init = None }
var_made (name, (dims, Some p)) = record { name = name; dims = dims; init = Some p.1 }

module _ (x : Exprs) where
  -- an annotation or a word
  unfoldable pub modifier_run : ℕ → Run Modifier
  modifier_run h = as_new modifier_made (either (sign_code sign_of.At ∷ []) (annotation_run x h) (picking picks_modifier))

  -- Mods
  abbrev pub modifiers_run : ℕ → Run (List Modifier)
  modifiers_run h = any_number (modifier_run h)

  -- Formal
  unfoldable pub formal_run : ℕ → Run Formal
  formal_run h = with_room h (as_new formal_made (in_turn (modifiers_run h) (in_turn (type_run h) (in_turn (perhaps (of_kind (sign_code sign_of.Ellipsis))) (in_turn an_ident_at dims_run)))))

  -- Var
  unfoldable pub var_run : ℕ → Run Var
  var_run h = as_new var_made (in_turn an_ident_at (in_turn dims_run (perhaps (with_room h (in_turn (of_kind (sign_code sign_of.Assign)) (x.init h))))))

  -- Var {"," Var}
  abbrev pub vars_run : ℕ → Run (Var × List (Unit {0} × Var))
  vars_run h = in_turn (var_run h) (each_behind sign_of.Comma (var_run h))

-- a head behind its modifiers
-- of a class: its place, its name, its type parameters, the class it extends and the interfaces it implements (JLS 8.1)
abbrev pub ClassHead : Type 0
ClassHead = ℕ × (Ident × (List TypeParam × (Option (Unit {0} × ClassTree) × List ClassTree)))

-- of an interface: its place, its name, its type parameters and the interfaces it extends (JLS 9.1)
abbrev pub InterfaceHead : Type 0
InterfaceHead = ℕ × (Ident × (List TypeParam × List ClassTree))

-- of an annotation type: the place of its `@`, its `interface` and its name (JLS 9.6)
abbrev pub AnnotationHead : Type 0
AnnotationHead = ℕ × (Unit {0} × Ident)

-- one of the three
abbrev pub HeadRest : Type 0
HeadRest = Either ClassHead (Either InterfaceHead AnnotationHead)

-- the class behind `extends`, None where it is left out
abbrev pub or_no_class : Option (Unit {0} × ClassTree) → Option ClassTree
or_no_class None = None
or_no_class (Some p) = Some p.1

-- the head of a declaration, of its modifiers and of what stands behind them
abbrev pub head_made : List Modifier → HeadRest → DeclarationHead
head_made modifiers (This p) = head_of.Class modifiers p.0 p.1.0 p.1.1.0 (or_no_class p.1.1.1.0) p.1.1.1.1
head_made modifiers (That (This p)) = head_of.Interface modifiers p.0 p.1.0 p.1.1.0 p.1.1.1
head_made modifiers (That (That p)) = head_of.Annotation modifiers p.0 p.1.1

-- how the three heads are read: behind `class`, behind `interface`, and else as that of an annotation type
unfoldable pub class_head_run : Run ClassTree → Run ClassHead
class_head_run class = in_turn (at_kind (key_code key_of.Class)) (in_turn an_ident_at (in_turn (params_run class) (in_turn (perhaps (in_turn (of_kind (key_code key_of.Extends)) class)) (keyed_run key_of.Implements class))))

unfoldable pub interface_head_run : Run ClassTree → Run InterfaceHead
interface_head_run class = in_turn (at_kind (key_code key_of.Interface)) (in_turn an_ident_at (in_turn (params_run class) (keyed_run key_of.Extends class)))

unfoldable pub annotation_head_run : Run AnnotationHead
annotation_head_run = in_turn (at_kind (sign_code sign_of.At)) (in_turn (of_kind (key_code key_of.Interface)) an_ident_at)

unfoldable pub head_rest_run : Run ClassTree → Run HeadRest
head_rest_run class = either (key_code key_of.Class ∷ []) (class_head_run class) (either (key_code key_of.Interface ∷ []) (interface_head_run class) annotation_head_run)
