-- The tokens of types by their parts.
use Rattle.std.proofs.Common.{ap, ◌∙◌}
use Rattle.std.specs.Prelude.{◌∷◌, ◌≡◌, List, map, ℕ}
use Rattle.jc_lexer.specs.declared.token.Key.TheVariants as key_of
use Rattle.jc_lexer.specs.declared.token.Sign.TheVariants as sign_of
use Rattle.jc_tree.specs.declared.name.Ident.{Ident}
use Rattle.jc_tree.specs.declared.types.BaseTree.{BaseTree, BaseTree-F, fold_out-BaseTree, map-BaseTree, out-BaseTree}
use Rattle.jc_tree.specs.declared.types.BaseTree.TheVariants as anBaseTree
use Rattle.jc_tree.specs.declared.types.ClassTree.{ClassTree, fold-roll-ClassTree, fold_out-ClassTree, map-ClassTree, out-ClassTree, roll-ClassTree}
use Rattle.jc_tree.specs.declared.types.PrimitiveWord.{PrimitiveWord}
use Rattle.jc_tree.specs.declared.types.TypeArg.{TypeArg, TypeArg-F, fold_out-TypeArg, map-TypeArg, out-TypeArg}
use Rattle.jc_tree.specs.declared.types.TypeArg.TheVariants as anTypeArg
use Rattle.jc_tree.specs.declared.types.TypePart.{TypePart, fold-roll-TypePart, fold_out-TypePart, map-TypePart, out-TypePart, roll-TypePart}
use Rattle.jc_tree.specs.declared.types.TypeTree.{TypeTree, fold-roll-TypeTree, fold_out-TypeTree, map-TypeTree, out-TypeTree, roll-TypeTree}
use Rattle.jc_grammar.specs.Told.{Spelled, Told, after_dots, brackets, ident, key, key_at, sign_at}
use Rattle.jc_grammar.specs.Types.{angled, arg_tokens, arg_told, base_tokens, base_told, class_tokens, class_told, part_tokens, part_told, primitive_key, type_tokens, type_told}

pub base_tokens-out : (node : BaseTree) → base_tokens node ≡ base_told (map-BaseTree BaseTree TypeArg ClassTree TypePart TypeTree Spelled Spelled Spelled Spelled Spelled base_tokens arg_tokens class_tokens part_tokens type_tokens (out-BaseTree node))
unfolding base_tokens arg_tokens class_tokens part_tokens type_tokens
base_tokens-out node = fold_out-BaseTree Spelled Spelled Spelled Spelled Spelled base_told arg_told class_told part_told type_told node

base_tokens-at : (node : BaseTree) (l : BaseTree-F BaseTree TypeArg ClassTree TypePart TypeTree) → out-BaseTree node ≡ l → (r : List Told) → base_tokens node r ≡ base_told (map-BaseTree BaseTree TypeArg ClassTree TypePart TypeTree Spelled Spelled Spelled Spelled Spelled base_tokens arg_tokens class_tokens part_tokens type_tokens l) r
base_tokens-at node l e r = ap (λ (f : Spelled). f r) (base_tokens-out node ∙ ap (λ (l : BaseTree-F BaseTree TypeArg ClassTree TypePart TypeTree). base_told (map-BaseTree BaseTree TypeArg ClassTree TypePart TypeTree Spelled Spelled Spelled Spelled Spelled base_tokens arg_tokens class_tokens part_tokens type_tokens l)) e)

pub base_tokens-Primitive : (at : ℕ) (word : PrimitiveWord) (r : List Told) → base_tokens (anBaseTree.Primitive at word) r ≡ key_at (primitive_key word) at ∷ r
base_tokens-Primitive at word = base_tokens-at (anBaseTree.Primitive at word) _ (anBaseTree.outs-Primitive at word)

pub base_tokens-Class : (class : ClassTree) (r : List Told) → base_tokens (anBaseTree.Class class) r ≡ class_tokens class r
base_tokens-Class class = base_tokens-at (anBaseTree.Class class) _ (anBaseTree.outs-Class class)

pub arg_tokens-out : (node : TypeArg) → arg_tokens node ≡ arg_told (map-TypeArg BaseTree TypeArg ClassTree TypePart TypeTree Spelled Spelled Spelled Spelled Spelled base_tokens arg_tokens class_tokens part_tokens type_tokens (out-TypeArg node))
unfolding base_tokens arg_tokens class_tokens part_tokens type_tokens
arg_tokens-out node = fold_out-TypeArg Spelled Spelled Spelled Spelled Spelled base_told arg_told class_told part_told type_told node

arg_tokens-at : (node : TypeArg) (l : TypeArg-F BaseTree TypeArg ClassTree TypePart TypeTree) → out-TypeArg node ≡ l → (r : List Told) → arg_tokens node r ≡ arg_told (map-TypeArg BaseTree TypeArg ClassTree TypePart TypeTree Spelled Spelled Spelled Spelled Spelled base_tokens arg_tokens class_tokens part_tokens type_tokens l) r
arg_tokens-at node l e r = ap (λ (f : Spelled). f r) (arg_tokens-out node ∙ ap (λ (l : TypeArg-F BaseTree TypeArg ClassTree TypePart TypeTree). arg_told (map-TypeArg BaseTree TypeArg ClassTree TypePart TypeTree Spelled Spelled Spelled Spelled Spelled base_tokens arg_tokens class_tokens part_tokens type_tokens l)) e)

pub arg_tokens-Exact : (ty : TypeTree) (r : List Told) → arg_tokens (anTypeArg.Exact ty) r ≡ type_tokens ty r
arg_tokens-Exact ty = arg_tokens-at (anTypeArg.Exact ty) _ (anTypeArg.outs-Exact ty)

pub arg_tokens-Any : (at : ℕ) (r : List Told) → arg_tokens (anTypeArg.Any at) r ≡ sign_at sign_of.Question at ∷ r
arg_tokens-Any at = arg_tokens-at (anTypeArg.Any at) _ (anTypeArg.outs-Any at)

pub arg_tokens-Extends : (at : ℕ) (bound : TypeTree) (r : List Told) → arg_tokens (anTypeArg.Extends at bound) r ≡ sign_at sign_of.Question at ∷ key key_of.Extends ∷ type_tokens bound r
arg_tokens-Extends at bound = arg_tokens-at (anTypeArg.Extends at bound) _ (anTypeArg.outs-Extends at bound)

pub arg_tokens-Super : (at : ℕ) (bound : TypeTree) (r : List Told) → arg_tokens (anTypeArg.Super at bound) r ≡ sign_at sign_of.Question at ∷ key key_of.Super ∷ type_tokens bound r
arg_tokens-Super at bound = arg_tokens-at (anTypeArg.Super at bound) _ (anTypeArg.outs-Super at bound)

pub class_tokens-out : (node : ClassTree) → class_tokens node ≡ class_told (map-ClassTree BaseTree TypeArg ClassTree TypePart TypeTree Spelled Spelled Spelled Spelled Spelled base_tokens arg_tokens class_tokens part_tokens type_tokens (out-ClassTree node))
unfolding base_tokens arg_tokens class_tokens part_tokens type_tokens
class_tokens-out node = fold_out-ClassTree Spelled Spelled Spelled Spelled Spelled base_told arg_told class_told part_told type_told node

pub class_tokens-parts : (node : ClassTree) (r : List Told) → class_tokens node r ≡ part_tokens (out-ClassTree node).first (after_dots (map part_tokens (out-ClassTree node).more) r)
class_tokens-parts node r = ap (λ (f : Spelled). f r) (class_tokens-out node)

pub class_tokens-made : (first : TypePart) (more : List TypePart) (r : List Told) → class_tokens (roll-ClassTree (record { first = first; more = more })) r ≡ part_tokens first (after_dots (map part_tokens more) r)
unfolding base_tokens arg_tokens class_tokens part_tokens type_tokens
class_tokens-made first more r = ap (λ (f : Spelled). f r) (fold-roll-ClassTree Spelled Spelled Spelled Spelled Spelled base_told arg_told class_told part_told type_told (record { first = first; more = more }))

pub part_tokens-out : (node : TypePart) → part_tokens node ≡ part_told (map-TypePart BaseTree TypeArg ClassTree TypePart TypeTree Spelled Spelled Spelled Spelled Spelled base_tokens arg_tokens class_tokens part_tokens type_tokens (out-TypePart node))
unfolding base_tokens arg_tokens class_tokens part_tokens type_tokens
part_tokens-out node = fold_out-TypePart Spelled Spelled Spelled Spelled Spelled base_told arg_told class_told part_told type_told node

pub part_tokens-parts : (node : TypePart) (r : List Told) → part_tokens node r ≡ ident (out-TypePart node).name ∷ angled (map arg_tokens (out-TypePart node).args) r
part_tokens-parts node r = ap (λ (f : Spelled). f r) (part_tokens-out node)

pub part_tokens-made : (name : Ident) (args : List TypeArg) (r : List Told) → part_tokens (roll-TypePart (record { name = name; args = args })) r ≡ ident name ∷ angled (map arg_tokens args) r
unfolding base_tokens arg_tokens class_tokens part_tokens type_tokens
part_tokens-made name args r = ap (λ (f : Spelled). f r) (fold-roll-TypePart Spelled Spelled Spelled Spelled Spelled base_told arg_told class_told part_told type_told (record { name = name; args = args }))

pub type_tokens-out : (node : TypeTree) → type_tokens node ≡ type_told (map-TypeTree BaseTree TypeArg ClassTree TypePart TypeTree Spelled Spelled Spelled Spelled Spelled base_tokens arg_tokens class_tokens part_tokens type_tokens (out-TypeTree node))
unfolding base_tokens arg_tokens class_tokens part_tokens type_tokens
type_tokens-out node = fold_out-TypeTree Spelled Spelled Spelled Spelled Spelled base_told arg_told class_told part_told type_told node

pub type_tokens-parts : (node : TypeTree) (r : List Told) → type_tokens node r ≡ base_tokens (out-TypeTree node).base (brackets (out-TypeTree node).dims r)
type_tokens-parts node r = ap (λ (f : Spelled). f r) (type_tokens-out node)

pub type_tokens-made : (base : BaseTree) (dims : ℕ) (r : List Told) → type_tokens (roll-TypeTree (record { base = base; dims = dims })) r ≡ base_tokens base (brackets dims r)
unfolding base_tokens arg_tokens class_tokens part_tokens type_tokens
type_tokens-made base dims r = ap (λ (f : Spelled). f r) (fold-roll-TypeTree Spelled Spelled Spelled Spelled Spelled base_told arg_told class_told part_told type_told (record { base = base; dims = dims }))
