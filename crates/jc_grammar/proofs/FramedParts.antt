-- Annotations, modifiers and heads put their tokens before those that follow.
use Rattle.std.proofs.Common.{subst}
use Rattle.std.specs.Prelude.{[], ◌∷◌, List, None, Option, Some}
use Rattle.jc_lexer.specs.declared.token.Key.TheVariants as key_of
use Rattle.jc_lexer.specs.declared.token.Sign.TheVariants as sign_of
use Rattle.jc_tree.specs.declared.expression.Init.{Init}
use Rattle.jc_tree.specs.declared.name.Ident.{Ident}
use Rattle.jc_tree.specs.declared.statement.Annotation.{Annotation}
use Rattle.jc_tree.specs.declared.statement.AnnotationValue.{AnnotationValue, AnnotationValue-F, fold-roll-AnnotationValue, ind-AnnotationValue, map-AnnotationValue, roll-AnnotationValue}
use Rattle.jc_tree.specs.declared.statement.DeclarationHead.{DeclarationHead}
use Rattle.jc_tree.specs.declared.statement.DeclarationHead.TheVariants as anDeclarationHead
use Rattle.jc_tree.specs.declared.statement.ForHead.{ForHead}
use Rattle.jc_tree.specs.declared.statement.ForHead.TheVariants as anForHead
use Rattle.jc_tree.specs.declared.statement.ForInit.{ForInit}
use Rattle.jc_tree.specs.declared.statement.ForInit.TheVariants as anForInit
use Rattle.jc_tree.specs.declared.statement.Formal.{Formal}
use Rattle.jc_tree.specs.declared.statement.LocalVars.{LocalVars}
use Rattle.jc_tree.specs.declared.statement.MethodHead.{MethodHead}
use Rattle.jc_tree.specs.declared.statement.Modifier.{Modifier}
use Rattle.jc_tree.specs.declared.statement.Modifier.TheVariants as anModifier
use Rattle.jc_tree.specs.declared.statement.Pair.{Pair}
use Rattle.jc_tree.specs.declared.statement.Resource.{Resource}
use Rattle.jc_tree.specs.declared.statement.Resources.{Resources}
use Rattle.jc_tree.specs.declared.statement.ResultType.{ResultType}
use Rattle.jc_tree.specs.declared.statement.ResultType.TheVariants as anResultType
use Rattle.jc_tree.specs.declared.statement.TypeParam.{TypeParam}
use Rattle.jc_tree.specs.declared.statement.TypeParams.{TypeParams}
use Rattle.jc_tree.specs.declared.statement.Var.{Var}
use Rattle.jc_tree.specs.declared.types.ClassTree.{ClassTree}
use Rattle.jc_grammar.proofs.Framed.{Frames, after_commas_frames, all_frame, all_given, angled_frames, brackets_frame, commas_frames, each_frames, frames_along, if_some_frames, if_there_frames, keyed_list_frames, names_frame, nothing, seq, token}
use Rattle.jc_grammar.proofs.FramedExpressions.{expr_frames, init_frames}
use Rattle.jc_grammar.proofs.FramedTypes.{class_frames, type_frames}
use Rattle.jc_grammar.specs.Expressions.{expr_tokens}
use Rattle.jc_grammar.specs.Parts.{after_ands, after_bars, after_semicolons, annotation_tokens, bounds_tokens, extended, for_init_tokens, for_tokens, formal_tokens, head_tokens, initialised, local_tokens, method_tokens, modifier_key, modifier_tokens, modifiers_tokens, named, pair_tokens, pairs_tokens, param_tokens, params_of_tokens, params_tokens, resource_tokens, resources_tokens, result_tokens, value_tokens, value_told, var_tokens}
use Rattle.jc_grammar.specs.Told.{Spelled, ident, key, key_at, sign, sign_at}
use Rattle.jc_grammar.specs.Types.{class_tokens}

abbrev SomeAnnotationValue : Type 0
SomeAnnotationValue = (x : AnnotationValue) × Frames (value_tokens x)

abbrev plain_value : AnnotationValue-F SomeAnnotationValue → AnnotationValue-F AnnotationValue
plain_value y = map-AnnotationValue SomeAnnotationValue AnnotationValue (λ z. z.0) y

value_layer : (y : AnnotationValue-F SomeAnnotationValue) → Frames (value_told (map-AnnotationValue AnnotationValue Spelled value_tokens (plain_value y)))
value_layer (AnnotationValue-F.Value expr) = expr_frames expr
value_layer (AnnotationValue-F.List at values trailing) = seq (token (sign_at sign_of.LeftBrace at)) (seq (commas_frames (all_given value_tokens values)) (seq (if_there_frames trailing sign_of.Comma) (token (sign sign_of.RightBrace))))

value_rolled : (y : AnnotationValue-F SomeAnnotationValue) → Frames (value_tokens (roll-AnnotationValue (plain_value y)))
unfolding value_tokens
value_rolled y = frames_along (fold-roll-AnnotationValue Spelled value_told (plain_value y)) (value_layer y)

pub value_frames : (x : AnnotationValue) → Frames (value_tokens x)
value_frames = ind-AnnotationValue (λ x. Frames (value_tokens x))
    (λ x y is. subst (λ (x : AnnotationValue-F AnnotationValue). Frames (value_tokens (roll-AnnotationValue x))) is (value_rolled y))

ands_frame : (classes : List ClassTree) → Frames (after_ands classes)
ands_frame [] = nothing
ands_frame (c ∷ classes) = seq (token (sign sign_of.And)) (seq (class_frames c) (ands_frame classes))

pub bars_frame : (classes : List ClassTree) → Frames (after_bars classes)
bars_frame [] = nothing
bars_frame (c ∷ classes) = seq (token (sign sign_of.Or)) (seq (class_frames c) (bars_frame classes))

named_frames : (name : Option Ident) → Frames (named name)
named_frames None = nothing
named_frames (Some name) = seq (token (ident name)) (token (sign sign_of.Assign))

pair_frames : (pair : Pair) → Frames (pair_tokens pair)
pair_frames pair = seq (named_frames pair.name) (value_frames pair.value)

pairs_frame : (pairs : List Pair) → Frames (pairs_tokens pairs)
pairs_frame pairs = seq (token (sign sign_of.LeftParen)) (seq (commas_frames (all_frame pair_tokens pair_frames pairs)) (token (sign sign_of.RightParen)))

annotation_frames : (a : Annotation) → Frames (annotation_tokens a)
annotation_frames a = seq (token (sign_at sign_of.At a.at)) (seq (token (ident a.first)) (seq (names_frame a.more) (if_some_frames pairs_tokens pairs_frame a.pairs)))

modifier_frames : (modifier : Modifier) → Frames (modifier_tokens modifier)
modifier_frames (anModifier.Annotation a) = annotation_frames a
modifier_frames (anModifier.Word at word) = token (key_at (modifier_key word) at)

pub modifiers_frame : (modifiers : List Modifier) → Frames (modifiers_tokens modifiers)
modifiers_frame modifiers = each_frames (all_frame modifier_tokens modifier_frames modifiers)

bounds_frame : (classes : List ClassTree) → Frames (bounds_tokens classes)
bounds_frame [] = nothing
bounds_frame (c ∷ classes) = seq (token (key key_of.Extends)) (seq (class_frames c) (ands_frame classes))

param_frames : (param : TypeParam) → Frames (param_tokens param)
param_frames param = seq (token (ident param.name)) (bounds_frame param.bounds)

params_frame : (params : List TypeParam) → Frames (params_tokens params)
params_frame params = angled_frames (all_frame param_tokens param_frames params)

params_of_frames : (p : TypeParams) → Frames (params_of_tokens p)
params_of_frames p = seq (token (sign_at sign_of.Less p.at)) (seq (param_frames p.first) (seq (after_commas_frames (all_frame param_tokens param_frames p.more)) (token (sign sign_of.Greater))))

formal_frames : (f : Formal) → Frames (formal_tokens f)
formal_frames f = seq (modifiers_frame f.modifiers) (seq (type_frames f.ty) (seq (if_there_frames f.variable_arity sign_of.Ellipsis) (seq (token (ident f.name)) (brackets_frame f.dims))))

initialised_frames : (init : Init) → Frames (initialised init)
initialised_frames init = seq (token (sign sign_of.Assign)) (init_frames init)

var_frames : (v : Var) → Frames (var_tokens v)
var_frames v = seq (token (ident v.name)) (seq (brackets_frame v.dims) (if_some_frames initialised initialised_frames v.init))

pub locals_frame : (l : LocalVars) → Frames (local_tokens l)
locals_frame l = seq (modifiers_frame l.modifiers) (seq (type_frames l.ty) (seq (var_frames l.first) (after_commas_frames (all_frame var_tokens var_frames l.more))))

result_frames : (result : ResultType) → Frames (result_tokens result)
result_frames (anResultType.Void at) = token (key_at key_of.Void at)
result_frames (anResultType.Type ty) = type_frames ty

extended_frames : (class : ClassTree) → Frames (extended class)
extended_frames class = seq (token (key key_of.Extends)) (class_frames class)

pub head_frames : (head : DeclarationHead) → Frames (head_tokens head)
head_frames (anDeclarationHead.Class modifiers at name params extends implements) = seq (modifiers_frame modifiers) (seq (token (key_at key_of.Class at)) (seq (token (ident name)) (seq (params_frame params) (seq (if_some_frames extended extended_frames extends) (keyed_list_frames key_of.Implements (all_frame class_tokens class_frames implements))))))
head_frames (anDeclarationHead.Interface modifiers at name params extends) = seq (modifiers_frame modifiers) (seq (token (key_at key_of.Interface at)) (seq (token (ident name)) (seq (params_frame params) (keyed_list_frames key_of.Extends (all_frame class_tokens class_frames extends)))))
head_frames (anDeclarationHead.Annotation modifiers at name) = seq (modifiers_frame modifiers) (seq (token (sign_at sign_of.At at)) (seq (token (key key_of.Interface)) (token (ident name))))

pub method_frames : (m : MethodHead) → Frames (method_tokens m)
method_frames m = seq (modifiers_frame m.modifiers) (seq (if_some_frames params_of_tokens params_of_frames m.params) (seq (if_some_frames result_tokens result_frames m.result) (seq (token (ident m.name)) (seq (token (sign sign_of.LeftParen)) (seq (commas_frames (all_frame formal_tokens formal_frames m.formals)) (seq (token (sign sign_of.RightParen)) (keyed_list_frames key_of.Throws (all_frame class_tokens class_frames m.throws))))))))

for_init_frames : (init : ForInit) → Frames (for_init_tokens init)
for_init_frames (anForInit.Local vars) = locals_frame vars
for_init_frames (anForInit.Effects effects) = commas_frames (all_frame expr_tokens expr_frames effects)

pub for_frames : (head : ForHead) → Frames (for_tokens head)
for_frames (anForHead.Basic init test update) = seq (for_init_frames init) (seq (token (sign sign_of.Semicolon)) (seq (if_some_frames expr_tokens expr_frames test) (seq (token (sign sign_of.Semicolon)) (commas_frames (all_frame expr_tokens expr_frames update)))))
for_frames (anForHead.Enhanced modifiers ty name dims iterable) = seq (modifiers_frame modifiers) (seq (type_frames ty) (seq (token (ident name)) (seq (brackets_frame dims) (seq (token (sign sign_of.Colon)) (expr_frames iterable)))))

resource_frames : (s : Resource) → Frames (resource_tokens s)
resource_frames s = seq (modifiers_frame s.modifiers) (seq (type_frames s.ty) (seq (token (ident s.name)) (seq (token (sign sign_of.Assign)) (expr_frames s.value))))

after_semicolons_frame : (resources : List Resource) → Frames (after_semicolons resources)
after_semicolons_frame [] = nothing
after_semicolons_frame (s ∷ resources) = seq (token (sign sign_of.Semicolon)) (seq (resource_frames s) (after_semicolons_frame resources))

pub resources_frame : (s : Resources) → Frames (resources_tokens s)
resources_frame s = seq (token (sign sign_of.LeftParen)) (seq (resource_frames s.first) (seq (after_semicolons_frame s.more) (seq (if_there_frames s.trailing sign_of.Semicolon) (token (sign sign_of.RightParen)))))
