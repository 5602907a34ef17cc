-- The tokens of annotations, modifiers and the heads of declarations and statements (JLS 8, 9, 14).
use Rattle.std.specs.Prelude.{List, [], ◌∷◌, map, Option, Some, None}
use Rattle.jc_lexer.specs.declared.token.Key.{Key}
use Rattle.jc_lexer.specs.declared.token.Key.TheVariants as key_of
use Rattle.jc_lexer.specs.declared.token.Sign.TheVariants as sign_of
use Rattle.jc_tree.specs.declared.name.Ident.{Ident}
use Rattle.jc_tree.specs.declared.types.ClassTree.{ClassTree}
use Rattle.jc_tree.specs.declared.expression.Init.{Init}
use Rattle.jc_tree.specs.declared.statement.Annotation.{Annotation}
use Rattle.jc_tree.specs.declared.statement.AnnotationValue.{AnnotationValue, AnnotationValue-F, fold-AnnotationValue}
use Rattle.jc_tree.specs.declared.statement.DeclarationHead.{DeclarationHead}
use Rattle.jc_tree.specs.declared.statement.DeclarationHead.TheVariants as head_of
use Rattle.jc_tree.specs.declared.statement.ForHead.{ForHead}
use Rattle.jc_tree.specs.declared.statement.ForHead.TheVariants as for_of
use Rattle.jc_tree.specs.declared.statement.ForInit.{ForInit}
use Rattle.jc_tree.specs.declared.statement.ForInit.TheVariants as init_of
use Rattle.jc_tree.specs.declared.statement.Formal.{Formal}
use Rattle.jc_tree.specs.declared.statement.LocalVars.{LocalVars}
use Rattle.jc_tree.specs.declared.statement.MethodHead.{MethodHead}
use Rattle.jc_tree.specs.declared.statement.Modifier.{Modifier}
use Rattle.jc_tree.specs.declared.statement.Modifier.TheVariants as modifier_of
use Rattle.jc_tree.specs.declared.statement.ModifierWord.{ModifierWord}
use Rattle.jc_tree.specs.declared.statement.ModifierWord.TheVariants as word_of
use Rattle.jc_tree.specs.declared.statement.Pair.{Pair}
use Rattle.jc_tree.specs.declared.statement.Resource.{Resource}
use Rattle.jc_tree.specs.declared.statement.Resources.{Resources}
use Rattle.jc_tree.specs.declared.statement.ResultType.{ResultType}
use Rattle.jc_tree.specs.declared.statement.ResultType.TheVariants as result_of
use Rattle.jc_tree.specs.declared.statement.TypeParam.{TypeParam}
use Rattle.jc_tree.specs.declared.statement.TypeParams.{TypeParams}
use Rattle.jc_tree.specs.declared.statement.Var.{Var}
use Rattle.jc_grammar.specs.Told.{Spelled, sign, sign_at, key, key_at, ident, each, commas, after_commas, names_after, brackets}
use Rattle.jc_grammar.specs.Types.{type_tokens, class_tokens, angled}
use Rattle.jc_grammar.specs.Expressions.{expr_tokens, init_tokens, if_there}

-- nothing, or what is there
abbrev pub if_some : {X : Type 0} → (X → Spelled) → Option X → Spelled
if_some spell None r = r
if_some spell (Some x) r = spell x r

-- nothing, or a keyword and a list with commas
abbrev pub keyed_list : Key → List Spelled → Spelled
keyed_list k [] r = r
keyed_list k (s ∷ spelled) r = key k ∷ commas (s ∷ spelled) r

-- each behind a sign
abbrev pub after_ands : List ClassTree → Spelled
after_ands [] r = r
after_ands (c ∷ classes) r = sign sign_of.And ∷ class_tokens c (after_ands classes r)

abbrev pub after_bars : List ClassTree → Spelled
after_bars [] r = r
after_bars (c ∷ classes) r = sign sign_of.Or ∷ class_tokens c (after_bars classes r)

-- Value = Cond | "{" [Value {"," Value}] [","] "}"
abbrev pub value_told : AnnotationValue-F Spelled → Spelled
value_told (AnnotationValue-F.Value expr) r = expr_tokens expr r
value_told (AnnotationValue-F.List at values trailing) r =
    sign_at sign_of.LeftBrace at ∷ commas values (if_there trailing sign_of.Comma (sign sign_of.RightBrace ∷ r))

-- the fold of it
unfoldable pub value_tokens : AnnotationValue → Spelled
value_tokens value = fold-AnnotationValue Spelled value_told value

-- a name and `=`, or nothing where a pair has no name
abbrev pub named : Option Ident → Spelled
named None r = r
named (Some name) r = ident name ∷ sign sign_of.Assign ∷ r

-- Pair = [Id "="] Value
abbrev pub pair_tokens : Pair → Spelled
pair_tokens pair r = named pair.name (value_tokens pair.value r)

-- pairs between parentheses, of which there may be none
abbrev pub pairs_tokens : List Pair → Spelled
pairs_tokens pairs r = sign sign_of.LeftParen ∷ commas (map pair_tokens pairs) (sign sign_of.RightParen ∷ r)

-- Anno = "@" Name ["(" [Pair {"," Pair}] ")"]
abbrev pub annotation_tokens : Annotation → Spelled
annotation_tokens a r = sign_at sign_of.At a.at ∷ ident a.first ∷ names_after a.more (if_some pairs_tokens a.pairs r)

-- the keyword of a modifier (JLS 8.1.1, 8.3.1, 8.4.3)
abbrev pub modifier_key : ModifierWord → Key
modifier_key word_of.Public = key_of.Public
modifier_key word_of.Protected = key_of.Protected
modifier_key word_of.Private = key_of.Private
modifier_key word_of.Static = key_of.Static
modifier_key word_of.Abstract = key_of.Abstract
modifier_key word_of.Final = key_of.Final
modifier_key word_of.Native = key_of.Native
modifier_key word_of.Volatile = key_of.Volatile
modifier_key word_of.Transient = key_of.Transient

-- an annotation or a keyword, and such modifiers in the order of the source
abbrev pub modifier_tokens : Modifier → Spelled
modifier_tokens (modifier_of.Annotation a) r = annotation_tokens a r
modifier_tokens (modifier_of.Word at word) r = key_at (modifier_key word) at ∷ r

abbrev pub modifiers_tokens : List Modifier → Spelled
modifiers_tokens modifiers r = each (map modifier_tokens modifiers) r

-- the bounds of a type parameter behind `extends`, with `&` between them, or nothing where there are none (JLS 4.4)
abbrev pub bounds_tokens : List ClassTree → Spelled
bounds_tokens [] r = r
bounds_tokens (c ∷ classes) r = key key_of.Extends ∷ class_tokens c (after_ands classes r)

-- Param = Id ["extends" ClassT {"&" ClassT}]
abbrev pub param_tokens : TypeParam → Spelled
param_tokens param r = ident param.name ∷ bounds_tokens param.bounds r

-- Params = "<" Param {"," Param} ">"
abbrev pub params_tokens : List TypeParam → Spelled
params_tokens params r = angled (map param_tokens params) r

-- the same where the tree has the offset of the first bracket
abbrev pub params_of_tokens : TypeParams → Spelled
params_of_tokens p r = sign_at sign_of.Less p.at ∷ param_tokens p.first (after_commas (map param_tokens p.more) (sign sign_of.Greater ∷ r))

-- Formal = Mods Type ["..."] Id Dims
abbrev pub formal_tokens : Formal → Spelled
formal_tokens f r =
    modifiers_tokens f.modifiers (type_tokens f.ty (if_there f.variable_arity sign_of.Ellipsis (ident f.name ∷ brackets f.dims r)))

-- `=` and an initialiser
abbrev pub initialised : Init → Spelled
initialised init r = sign sign_of.Assign ∷ init_tokens init r

-- Var = Id Dims ["=" Init]
abbrev pub var_tokens : Var → Spelled
var_tokens v r = ident v.name ∷ brackets v.dims (if_some initialised v.init r)

-- Mods Type Var {"," Var}
abbrev pub local_tokens : LocalVars → Spelled
local_tokens l r = modifiers_tokens l.modifiers (type_tokens l.ty (var_tokens l.first (after_commas (map var_tokens l.more) r)))

-- "void" | Type
abbrev pub result_tokens : ResultType → Spelled
result_tokens (result_of.Void at) r = key_at key_of.Void at ∷ r
result_tokens (result_of.Type ty) r = type_tokens ty r

-- "extends" ClassT
abbrev pub extended : ClassTree → Spelled
extended class r = key key_of.Extends ∷ class_tokens class r

-- Mods ("class" Id [Params] ["extends" ClassT] ["implements" ClassTs] | "interface" Id [Params] ["extends" ClassTs] | "@" "interface" Id)
abbrev pub head_tokens : DeclarationHead → Spelled
head_tokens (head_of.Class modifiers at name params extends implements) r =
    modifiers_tokens modifiers (key_at key_of.Class at ∷ ident name ∷ params_tokens params (if_some extended extends (keyed_list key_of.Implements (map class_tokens implements) r)))
head_tokens (head_of.Interface modifiers at name params extends) r =
    modifiers_tokens modifiers (key_at key_of.Interface at ∷ ident name ∷ params_tokens params (keyed_list key_of.Extends (map class_tokens extends) r))
head_tokens (head_of.Annotation modifiers at name) r =
    modifiers_tokens modifiers (sign_at sign_of.At at ∷ key key_of.Interface ∷ ident name ∷ r)

-- Mods [Params] [Type | "void"] Id Formals [Throws]
abbrev pub method_tokens : MethodHead → Spelled
method_tokens m r =
    modifiers_tokens m.modifiers (if_some params_of_tokens m.params (if_some result_tokens m.result
    (ident m.name ∷ sign sign_of.LeftParen ∷ commas (map formal_tokens m.formals) (sign sign_of.RightParen ∷ keyed_list key_of.Throws (map class_tokens m.throws) r))))

-- Mods Type Vars | [Effects]
abbrev pub for_init_tokens : ForInit → Spelled
for_init_tokens (init_of.Local vars) r = local_tokens vars r
for_init_tokens (init_of.Effects effects) r = commas (map expr_tokens effects) r

-- [Mods Type Vars | Effects] ";" [Expr] ";" [Effects], or Mods Type Id Dims ":" Expr
abbrev pub for_tokens : ForHead → Spelled
for_tokens (for_of.Basic init test update) r =
    for_init_tokens init (sign sign_of.Semicolon ∷ if_some expr_tokens test (sign sign_of.Semicolon ∷ commas (map expr_tokens update) r))
for_tokens (for_of.Enhanced modifiers ty name dims iterable) r =
    modifiers_tokens modifiers (type_tokens ty (ident name ∷ brackets dims (sign sign_of.Colon ∷ expr_tokens iterable r)))

-- Mods Type Id "=" Expr
abbrev pub resource_tokens : Resource → Spelled
resource_tokens s r = modifiers_tokens s.modifiers (type_tokens s.ty (ident s.name ∷ sign sign_of.Assign ∷ expr_tokens s.value r))

-- each behind `;`
abbrev pub after_semicolons : List Resource → Spelled
after_semicolons [] r = r
after_semicolons (s ∷ resources) r = sign sign_of.Semicolon ∷ resource_tokens s (after_semicolons resources r)

-- "(" Resource {";" Resource} [";"] ")" (JLS 14.20.3)
abbrev pub resources_tokens : Resources → Spelled
resources_tokens s r =
    sign sign_of.LeftParen ∷ resource_tokens s.first (after_semicolons s.more (if_there s.trailing sign_of.Semicolon (sign sign_of.RightParen ∷ r)))
