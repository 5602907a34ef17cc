-- Offsets that stand in the tokens that a tree tells, in their order.
use Rattle.std.proofs.Common.{◌≡◌, ℕ, Bool, true, false, Option, Some, None, List, [], ◌∷◌, ◌++◌, map, refl, sym, ap, subst}
use Rattle.jc_lexer.specs.declared.token.Sign.TheVariants as sign_of
use Rattle.jc_lexer.specs.declared.token.Key.TheVariants as key_of
use Rattle.jc_tree.specs.declared.expression.Init.{Init}
use Rattle.jc_tree.specs.declared.statement.DeclarationHead.{DeclarationHead}
use Rattle.jc_tree.specs.declared.statement.DeclarationHead.TheVariants as head_of
use Rattle.jc_tree.specs.declared.statement.Formal.{Formal}
use Rattle.jc_tree.specs.declared.statement.LocalVars.{LocalVars}
use Rattle.jc_tree.specs.declared.statement.MethodHead.{MethodHead}
use Rattle.jc_tree.specs.declared.statement.Modifier.{Modifier}
use Rattle.jc_tree.specs.declared.statement.Modifier.TheVariants as modifier_of
use Rattle.jc_tree.specs.declared.statement.ResultType.{ResultType}
use Rattle.jc_tree.specs.declared.statement.ResultType.TheVariants as result_of
use Rattle.jc_tree.specs.declared.statement.TypeParam.{TypeParam}
use Rattle.jc_tree.specs.declared.statement.TypeParams.{TypeParams}
use Rattle.jc_tree.specs.declared.statement.Var.{Var}
use Rattle.jc_tree.specs.declared.types.BaseTree.{BaseTree, BaseTree-F, out-BaseTree, map-BaseTree}
use Rattle.jc_tree.specs.declared.types.ClassTree.{ClassTree, out-ClassTree}
use Rattle.jc_tree.specs.declared.types.TypeArg.{TypeArg}
use Rattle.jc_tree.specs.declared.types.TypePart.{TypePart}
use Rattle.jc_tree.specs.declared.types.TypeTree.{TypeTree}
use Rattle.jc_tree.specs.Offsets.{base_first, first_offset_of_base, first_offset_of_arg, first_offset_of_class, first_offset_of_part, first_offset_of_type, modifiers_first, params_first, result_first, first_offset_of_head, first_offset_of_method}
use Rattle.jc_tree.proofs.OffsetsOfTypes.{first_offset_of_base-out, first_offset_of_class-parts, first_offset_of_part-parts}
use Rattle.jc_grammar.specs.Told.{Told, Spelled, sign, ident, key, key_at, after_commas, commas, brackets}
use Rattle.jc_grammar.specs.Types.{base_told, base_tokens, arg_tokens, class_tokens, part_tokens, type_tokens}
use Rattle.jc_grammar.specs.Parts.{if_some, modifiers_tokens, after_ands, bounds_tokens, param_tokens, params_tokens, params_of_tokens, formal_tokens, initialised, var_tokens, local_tokens, result_tokens, extended, keyed_list, head_tokens, method_tokens}
use Rattle.jc_grammar.specs.Firsts.{BeginsAt}
use Rattle.jc_grammar.proofs.Framed.{Frames, nothing, token, seq, all_frame, commas_frames, keyed_list_frames, brackets_frame, if_there_frames, if_some_frames}
use Rattle.jc_grammar.proofs.FramedExpressions.{init_frames}
use Rattle.jc_grammar.proofs.FramedParts.{modifiers_frame, head_frames}
use Rattle.jc_grammar.proofs.FramedTypes.{class_frames, type_frames}
use Rattle.jc_grammar.proofs.TokensOfTypes.{base_tokens-out, class_tokens-parts, part_tokens-parts}
use Rattle.jc_declares.specs.Sites.{listed_params, params_of_head}
use Rattle.jc_grammar.proofs.Begun.{type_begins}

-- From these tokens those are reached, and on the way each of the offsets is that of a token: of a later one each, or, where several may stand at one, of a later
-- one or the same.
pub data Goes (weak : Bool) : List ℕ → List Told → List Told → Type 0 where
  here : (r : List Told) → Goes weak [] r r
  skip : (d : Told) (xs : List ℕ) (l r : List Told) → Goes weak xs l r → Goes weak xs (d ∷ l) r
  pick : (d : Told) (x : ℕ) (xs : List ℕ) (l r : List Told) → d.at ≡ Some x → Goes weak xs l r → Goes weak (x ∷ xs) (d ∷ l) r
  again : (d : Told) (x : ℕ) (xs : List ℕ) (l r : List Told) → weak ≡ true → d.at ≡ Some x → Goes weak xs (d ∷ l) r → Goes weak (x ∷ xs) (d ∷ l) r

pub both : (weak : Bool) (xs ys : List ℕ) (d e r : List Told) → Goes weak xs d e → Goes weak ys e r → Goes weak (xs ++ ys) d r
both weak _ ys _ _ r (here e) h = h
both weak _ ys _ e r (skip d xs l _ g) h = skip d (xs ++ ys) l r (both weak xs ys l e r g h)
both weak _ ys _ e r (pick d x xs l _ is g) h = pick d x (xs ++ ys) l r is (both weak xs ys l e r g h)
both weak _ ys _ e r (again d x xs l _ w is g) h = again d x (xs ++ ys) l r w is (both weak xs ys (d ∷ l) e r g h)

skips : (weak : Bool) (l r : List Told) → Goes weak [] (l ++ r) r
skips weak [] r = here r
skips weak (d ∷ l) r = skip d [] (l ++ r) r (skips weak l r)

from_front : (weak : Bool) (xs : List ℕ) (d e r : List Told) → d ≡ e → Goes weak xs e r → Goes weak xs d r
from_front weak xs d e r is g = subst (λ (l : List Told). Goes weak xs l r) (sym is) g

pub framed : (weak : Bool) (f : Spelled) → Frames f → (r : List Told) → Goes weak [] (f r) r
framed weak f h r = from_front weak [] (f r) (f [] ++ r) r (h.at [] r) (skips weak (f []) r)

first_of : (weak : Bool) (x : ℕ) (l r : List Told) → BeginsAt x l → Goes weak (x ∷ []) (l ++ r) r
first_of weak x [] r b = absurd b
first_of weak x (d ∷ l) r b = pick d x [] (l ++ r) r b (skips weak l r)

-- the offset of the first token
pub first_picked : (weak : Bool) (f : Spelled) → Frames f → (x : ℕ) → BeginsAt x (f []) → (r : List Told) → Goes weak (x ∷ []) (f r) r
first_picked weak f h x b r = from_front weak (x ∷ []) (f r) (f [] ++ r) r (h.at [] r) (first_of weak x (f []) r b)

-- once more the first token
pub again_first : (x : ℕ) (xs : List ℕ) (l r : List Told) → BeginsAt x l → Goes true xs l r → Goes true (x ∷ xs) l r
again_first x xs [] r b g = absurd b
again_first x xs (d ∷ l) r b g = again d x xs l r refl b g

-- ---- where types begin

along : (a b : ℕ) (s t : List Told) → a ≡ b → s ≡ t → BeginsAt b t → BeginsAt a s
along a b s t e f h = subst (λ (x : ℕ). BeginsAt x s) (sym e) (subst (λ (x : List Told). BeginsAt b x) (sym f) h)

at_rest : (f g : Spelled) (r : List Told) → f ≡ g → f r ≡ g r
at_rest f g r e = ap (λ (s : Spelled). s r) e

part_begins : (part : TypePart) (r : List Told) → BeginsAt (first_offset_of_part part) (part_tokens part r)
part_begins part r = along _ _ _ _ (first_offset_of_part-parts part) (part_tokens-parts part r) refl

class_begins : (class : ClassTree) (r : List Told) → BeginsAt (first_offset_of_class class) (class_tokens class r)
class_begins class r = along _ _ _ _ (first_offset_of_class-parts class) (class_tokens-parts class r) (part_begins (out-ClassTree class).first _)

base_layer : (l : BaseTree-F BaseTree TypeArg ClassTree TypePart TypeTree) (r : List Told) → BeginsAt (base_first (map-BaseTree BaseTree TypeArg ClassTree TypePart TypeTree ℕ ℕ ℕ ℕ ℕ first_offset_of_base first_offset_of_arg first_offset_of_class first_offset_of_part first_offset_of_type l)) (base_told (map-BaseTree BaseTree TypeArg ClassTree TypePart TypeTree Spelled Spelled Spelled Spelled Spelled base_tokens arg_tokens class_tokens part_tokens type_tokens l) r)
base_layer (BaseTree-F.Primitive at word) r = refl
base_layer (BaseTree-F.Class class) r = class_begins class r

base_begins : (base : BaseTree) (r : List Told) → BeginsAt (first_offset_of_base base) (base_tokens base r)
base_begins base r = along _ _ _ _ (first_offset_of_base-out base) (at_rest _ _ r (base_tokens-out base)) (base_layer (out-BaseTree base) r)

-- ---- where heads begin

modifiers_begin : (ms : List Modifier) (next : ℕ) (l : List Told) → BeginsAt next l → BeginsAt (modifiers_first ms next) (modifiers_tokens ms l)
modifiers_begin [] next l h = h
modifiers_begin (modifier_of.Annotation a ∷ ms) next l h = refl
modifiers_begin (modifier_of.Word at word ∷ ms) next l h = refl

pub head_begins : (head : DeclarationHead) (r : List Told) → BeginsAt (first_offset_of_head head) (head_tokens head r)
head_begins (head_of.Class modifiers at name params extends implements) r = modifiers_begin modifiers at _ refl
head_begins (head_of.Interface modifiers at name params extends) r = modifiers_begin modifiers at _ refl
head_begins (head_of.Annotation modifiers at name) r = modifiers_begin modifiers at _ refl

params_begin : (params : Option TypeParams) (next : ℕ) (l : List Told) → BeginsAt next l → BeginsAt (params_first params next) (if_some params_of_tokens params l)
params_begin None next l h = h
params_begin (Some p) next l h = refl

result_begins : (result : Option ResultType) (next : ℕ) (l : List Told) → BeginsAt next l → BeginsAt (result_first result next) (if_some result_tokens result l)
result_begins None next l h = h
result_begins (Some (result_of.Void at)) next l h = refl
result_begins (Some (result_of.Type ty)) next l h = type_begins ty l

pub method_begins : (m : MethodHead) (r : List Told) → BeginsAt (first_offset_of_method m) (method_tokens m r)
method_begins m r = modifiers_begin m.modifiers _ _ (params_begin m.params _ _ (result_begins m.result _ _ refl))

-- ---- type parameters

ands_frame : (classes : List ClassTree) → Frames (after_ands classes)
ands_frame [] = nothing
ands_frame (c ∷ classes) = seq (token (sign sign_of.And)) (seq (class_frames c) (ands_frame classes))

bounds_frame : (classes : List ClassTree) → Frames (bounds_tokens classes)
bounds_frame [] = nothing
bounds_frame (c ∷ classes) = seq (token (key key_of.Extends)) (seq (class_frames c) (ands_frame classes))

abbrev pub param_offsets : List TypeParam → List ℕ
param_offsets ps = map (λ (p : TypeParam). p.name.at) ps

param_picked : (p : TypeParam) (r : List Told) → Goes false (p.name.at ∷ []) (param_tokens p r) r
param_picked p r = pick (ident p.name) p.name.at [] (bounds_tokens p.bounds r) r refl (framed false (bounds_tokens p.bounds) (bounds_frame p.bounds) r)

after_params : (ps : List TypeParam) (r : List Told) → Goes false (param_offsets ps) (after_commas (map param_tokens ps) r) r
after_params [] r = here r
after_params (p ∷ ps) r =
    skip (sign sign_of.Comma) (param_offsets (p ∷ ps)) _ r
    (both false (p.name.at ∷ []) (param_offsets ps) (param_tokens p (after_commas (map param_tokens ps) r)) (after_commas (map param_tokens ps) r) r (param_picked p (after_commas (map param_tokens ps) r)) (after_params ps r))

comma_params : (ps : List TypeParam) (r : List Told) → Goes false (param_offsets ps) (commas (map param_tokens ps) r) r
comma_params [] r = here r
comma_params (p ∷ ps) r =
    both false (p.name.at ∷ []) (param_offsets ps) (param_tokens p (after_commas (map param_tokens ps) r)) (after_commas (map param_tokens ps) r) r (param_picked p (after_commas (map param_tokens ps) r)) (after_params ps r)

-- and then tokens that tell none of the offsets
then_skip : (xs : List ℕ) (d e r : List Told) → Goes false xs d e → Goes false [] e r → Goes false xs d r
then_skip xs d e r g h = subst (λ (ys : List ℕ). Goes false ys d r) (nothing_more xs) (both false xs [] d e r g h)
  where
    nothing_more : (xs : List ℕ) → xs ++ [] ≡ xs
    nothing_more [] = refl
    nothing_more (x ∷ xs) = ap (λ ys. x ∷ ys) (nothing_more xs)

one_skip : (d : Told) (r : List Told) → Goes false [] (d ∷ r) r
one_skip d r = skip d [] r r (here r)

params_picked : (ps : List TypeParam) (r : List Told) → Goes false (param_offsets ps) (params_tokens ps r) r
params_picked [] r = here r
params_picked (p ∷ ps) r =
    skip (sign sign_of.Less) (param_offsets (p ∷ ps)) _ r
    (then_skip (param_offsets (p ∷ ps)) (commas (map param_tokens (p ∷ ps)) (sign sign_of.Greater ∷ r)) (sign sign_of.Greater ∷ r) r (comma_params (p ∷ ps) (sign sign_of.Greater ∷ r)) (one_skip (sign sign_of.Greater) r))

params_of_picked : (p : TypeParams) (r : List Told) → Goes false (param_offsets (p.first ∷ p.more)) (params_of_tokens p r) r
params_of_picked p r =
    let rest : List Told = after_commas (map param_tokens p.more) (sign sign_of.Greater ∷ r) in
    skip _ (param_offsets (p.first ∷ p.more)) _ r
    (both false (p.first.name.at ∷ []) (param_offsets p.more) (param_tokens p.first rest) rest r (param_picked p.first rest)
    (then_skip (param_offsets p.more) rest (sign sign_of.Greater ∷ r) r (after_params p.more (sign sign_of.Greater ∷ r)) (one_skip (sign sign_of.Greater) r)))

extended_frames : (class : ClassTree) → Frames (extended class)
extended_frames class = seq (token (key key_of.Extends)) (class_frames class)

-- tokens that tell none, and then others
skip_then : (xs : List ℕ) (f : Spelled) → Frames f → (e r : List Told) → Goes false xs e r → Goes false xs (f e) r
skip_then xs f h e r g = both false [] xs (f e) e r (framed false f h e) g

pub head_params_picked : (head : DeclarationHead) (r : List Told) → Goes false (param_offsets (params_of_head head)) (head_tokens head r) r
head_params_picked (head_of.Class modifiers at name params extends implements) r =
    let rest : List Told = if_some extended extends (keyed_list key_of.Implements (map class_tokens implements) r) in
    skip_then (param_offsets params) (modifiers_tokens modifiers) (modifiers_frame modifiers) (key_at key_of.Class at ∷ ident name ∷ params_tokens params rest) r
    (skip (key_at key_of.Class at) (param_offsets params) _ r
    (skip (ident name) (param_offsets params) _ r
    (then_skip (param_offsets params) (params_tokens params rest) rest r (params_picked params rest)
    (skip_then [] (if_some extended extends) (if_some_frames extended extended_frames extends) (keyed_list key_of.Implements (map class_tokens implements) r) r
    (framed false (keyed_list key_of.Implements (map class_tokens implements)) (keyed_list_frames key_of.Implements (all_frame class_tokens class_frames implements)) r)))))
head_params_picked (head_of.Interface modifiers at name params extends) r =
    let rest : List Told = keyed_list key_of.Extends (map class_tokens extends) r in
    skip_then (param_offsets params) (modifiers_tokens modifiers) (modifiers_frame modifiers) (key_at key_of.Interface at ∷ ident name ∷ params_tokens params rest) r
    (skip (key_at key_of.Interface at) (param_offsets params) _ r
    (skip (ident name) (param_offsets params) _ r
    (then_skip (param_offsets params) (params_tokens params rest) rest r (params_picked params rest)
    (framed false (keyed_list key_of.Extends (map class_tokens extends)) (keyed_list_frames key_of.Extends (all_frame class_tokens class_frames extends)) r))))
head_params_picked (head_of.Annotation modifiers at name) r =
    framed false (head_tokens (head_of.Annotation modifiers at name)) (head_frames (head_of.Annotation modifiers at name)) r

formal_frames : (f : Formal) → Frames (formal_tokens f)
formal_frames f = seq (modifiers_frame f.modifiers) (seq (type_frames f.ty) (seq (if_there_frames f.variable_arity sign_of.Ellipsis) (seq (token (ident f.name)) (brackets_frame f.dims))))

result_frames : (result : ResultType) → Frames (result_tokens result)
result_frames (result_of.Void at) = token (key_at key_of.Void at)
result_frames (result_of.Type ty) = type_frames ty

some_params_picked : (o : Option TypeParams) (r : List Told) → Goes false (param_offsets (listed_params o)) (if_some params_of_tokens o r) r
some_params_picked None r = here r
some_params_picked (Some p) r = params_of_picked p r

abbrev behind_params : MethodHead → Spelled
behind_params m r =
    if_some result_tokens m.result (ident m.name ∷ sign sign_of.LeftParen ∷ commas (map formal_tokens m.formals) (sign sign_of.RightParen ∷ keyed_list key_of.Throws (map class_tokens m.throws) r))

behind_params_frames : (m : MethodHead) → Frames (behind_params m)
behind_params_frames m =
    seq (if_some_frames result_tokens result_frames m.result) (seq (token (ident m.name)) (seq (token (sign sign_of.LeftParen)) (seq (commas_frames (all_frame formal_tokens formal_frames m.formals))
    (seq (token (sign sign_of.RightParen)) (keyed_list_frames key_of.Throws (all_frame class_tokens class_frames m.throws))))))

pub method_params_picked : (m : MethodHead) (r : List Told) → Goes false (param_offsets (listed_params m.params)) (method_tokens m r) r
method_params_picked m r =
    skip_then (param_offsets (listed_params m.params)) (modifiers_tokens m.modifiers) (modifiers_frame m.modifiers) (if_some params_of_tokens m.params (behind_params m r)) r
    (then_skip (param_offsets (listed_params m.params)) (if_some params_of_tokens m.params (behind_params m r)) (behind_params m r) r (some_params_picked m.params (behind_params m r))
    (framed false (behind_params m) (behind_params_frames m) r))

-- ---- fields

initialised_frames : (init : Init) → Frames (initialised init)
initialised_frames init = seq (token (sign sign_of.Assign)) (init_frames init)

abbrev pub var_offsets : List Var → List ℕ
var_offsets vs = map (λ (v : Var). v.name.at) vs

var_picked : (v : Var) (r : List Told) → Goes false (v.name.at ∷ []) (var_tokens v r) r
var_picked v r =
    pick (ident v.name) v.name.at [] _ r refl
    (framed false (λ r. brackets v.dims (if_some initialised v.init r)) (seq (brackets_frame v.dims) (if_some_frames initialised initialised_frames v.init)) r)

after_vars : (vs : List Var) (r : List Told) → Goes false (var_offsets vs) (after_commas (map var_tokens vs) r) r
after_vars [] r = here r
after_vars (v ∷ vs) r =
    skip (sign sign_of.Comma) (var_offsets (v ∷ vs)) _ r
    (both false (v.name.at ∷ []) (var_offsets vs) (var_tokens v (after_commas (map var_tokens vs) r)) (after_commas (map var_tokens vs) r) r (var_picked v (after_commas (map var_tokens vs) r)) (after_vars vs r))

pub locals_picked : (l : LocalVars) (r : List Told) → Goes false (var_offsets (l.first ∷ l.more)) (local_tokens l r) r
locals_picked l r =
    let rest : List Told = after_commas (map var_tokens l.more) r in
    skip_then (var_offsets (l.first ∷ l.more)) (modifiers_tokens l.modifiers) (modifiers_frame l.modifiers) (type_tokens l.ty (var_tokens l.first rest)) r
    (skip_then (var_offsets (l.first ∷ l.more)) (type_tokens l.ty) (type_frames l.ty) (var_tokens l.first rest) r
    (both false (l.first.name.at ∷ []) (var_offsets l.more) (var_tokens l.first rest) rest r (var_picked l.first rest) (after_vars l.more r)))
