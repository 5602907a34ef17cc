-- How the starts of primaries and whole primaries are read (JLS 15.8 to 15.14).
use Rattle.std.specs.Prelude.{ℕ, suc, List, [], ◌∷◌, map, Option, Some, None}
use Rattle.jc_lexer.specs.declared.token.Key.TheVariants as key_of
use Rattle.jc_lexer.specs.declared.token.Sign.TheVariants as sign_of
use Rattle.jc_tree.specs.declared.name.Ident.{Ident}
use Rattle.jc_tree.specs.declared.types.BaseTree.{BaseTree}
use Rattle.jc_tree.specs.declared.types.BaseTree.TheVariants as base_of
use Rattle.jc_tree.specs.declared.types.ClassTree.{ClassTree, roll-ClassTree}
use Rattle.jc_tree.specs.declared.types.TypePart.{TypePart, roll-TypePart}
use Rattle.jc_tree.specs.declared.types.TypeTree.{roll-TypeTree}
use Rattle.jc_tree.specs.declared.types.PrimitiveWord.{PrimitiveWord}
use Rattle.jc_tree.specs.declared.expression.Literal.{Literal}
use Rattle.jc_tree.specs.declared.expression.Creation.{Creation}
use Rattle.jc_tree.specs.declared.expression.Expr.{Expr}
use Rattle.jc_tree.specs.declared.expression.Expr.TheVariants as expr_of
use Rattle.jc_tree.specs.declared.expression.ArrayInit.{ArrayInit}
use Rattle.jc_reading.specs.Kinds.{sign_code, key_code, word_code}
use Rattle.jc_reading.specs.Reading.{Run, as_new, in_turn, Either, This, That, either, picking, of_kind, at_kind, an_ident_at}
use Rattle.jc_parse_type.specs.TypeReading.{dims_run, word_run, primitive_codes}
use Rattle.jc_reading.specs.Further.{with_room, preferring}
use Rattle.jc_part_laws.specs.PartReading.{more_names_run}
use Rattle.jc_reading.specs.Growing.{growing, grown}
use Rattle.jc_expr_laws.specs.PrimeReading.{picks_literal, literal_codes, creation_run, named_run, Member, member_run, Selector, selected, selectors_run}

-- "." "class"
abbrev pub DotClass : Type 0
DotClass = Unit {0} × Unit {0}

abbrev pub dot_class_run : Run DotClass
dot_class_run = in_turn (of_kind (sign_code sign_of.Dot)) (of_kind (key_code key_of.Class))

-- a literal, `this`, `super` and a member, a creation, `void.class`, or an expression in parentheses
abbrev pub Supers : Type 0
Supers = ℕ × (Unit {0} × Member)

abbrev pub Voids : Type 0
Voids = ℕ × DotClass

abbrev pub Parens : Type 0
Parens = ℕ × (Expr × Unit {0})

-- what begins with `super`, `new`, `void` or a parenthesis
abbrev pub Keyed : Type 0
Keyed = Either Supers (Either (ℕ × Creation) (Either Voids Parens))

-- a name with actual arguments or without, a literal, `this`, or what is keyed
abbrev pub Plain : Type 0
Plain = Either (Ident × Option (List Expr)) (Either (ℕ × Literal) (Either ℕ Keyed))

-- the expression of a start: a name alone may mean anything, and with arguments it is a call (JLS 15.12)
abbrev pub plain_made : Plain → Expr
plain_made (This (name, None)) = expr_of.Name name
plain_made (This (name, Some list)) = expr_of.Invoke name list
plain_made (That (This p)) = expr_of.Literal p.0 p.1
plain_made (That (That (This at))) = expr_of.This at
plain_made (That (That (That (This (at, (u, This p)))))) = expr_of.SuperCall at p.0.1.0 p.1.0 p.1.1
plain_made (That (That (That (This (at, (u, That (name, None))))))) = expr_of.SuperField at name
plain_made (That (That (That (This (at, (u, That (name, Some list))))))) = expr_of.SuperCall at [] name list
plain_made (That (That (That (That (This p))))) = expr_of.New p.0 p.1
plain_made (That (That (That (That (That (This p)))))) = expr_of.VoidLiteral p.0
plain_made (That (That (That (That (That (That p)))))) = expr_of.Paren p.0 p.1.0

-- an expression in parentheses needs room for a height (JLS 15.8.5)
abbrev pub parens_run : ℕ → Run Expr → Run Parens
parens_run h expr = with_room h (in_turn (at_kind (sign_code sign_of.LeftParen)) (in_turn expr (of_kind (sign_code sign_of.RightParen))))

-- by `super`, `new` or `void`, and where none of them stands an expression in parentheses
abbrev pub keyed_run : ℕ → Run Expr → Run ArrayInit → Run Keyed
keyed_run h expr array =
    either (key_code key_of.Super ∷ []) (in_turn (at_kind (key_code key_of.Super)) (in_turn (of_kind (sign_code sign_of.Dot)) (member_run h expr)))
    (either (key_code key_of.New ∷ []) (in_turn (at_kind (key_code key_of.New)) (creation_run h expr array))
    (either (key_code key_of.Void ∷ []) (in_turn (at_kind (key_code key_of.Void)) dot_class_run) (parens_run h expr)))

-- the start of a primary that is no class literal of a type and no outer `this`: of height at most one more than h
unfoldable pub plain_run : ℕ → Run Expr → Run ArrayInit → Run Expr
plain_run h expr array =
    as_new plain_made (either (word_code ∷ []) (named_run expr) (either literal_codes (picking picks_literal) (either (key_code key_of.This ∷ []) (at_kind (key_code key_of.This)) (keyed_run h expr array))))

-- a class literal of a type, or an outer `this`
-- "[" "]" Dims "." "class"
abbrev pub ClassDims : Type 0
ClassDims = (Unit {0} × Unit {0}) × (ℕ × DotClass)

-- "." "this", or "." "class"
abbrev pub DotKey : Type 0
DotKey = Unit {0} × Either (Unit {0}) (Unit {0})

-- what stands behind names
abbrev pub SpecialTail : Type 0
SpecialTail = Either ClassDims DotKey

-- a primitive type, Dims "." "class"
abbrev pub WordClass : Type 0
WordClass = (ℕ × PrimitiveWord) × (ℕ × DotClass)

-- names, and what stands behind them
abbrev pub NamesSpecial : Type 0
NamesSpecial = Ident × (List Ident × SpecialTail)

-- by whether a primitive type stands first
abbrev pub Special : Type 0
Special = Either WordClass NamesSpecial

-- a name as a type without arguments
abbrev pub bare_part : Ident → TypePart
bare_part name = roll-TypePart (record { name = name; args = [] })

-- names as a class type without arguments
abbrev pub bare_class : Ident → List Ident → ClassTree
bare_class first more = roll-ClassTree (record { first = bare_part first; more = map bare_part more })

-- the class literal of a type with so many pairs of brackets (JLS 15.8.2)
abbrev pub literal_type : BaseTree → ℕ → Expr
literal_type base dims = expr_of.ClassLiteral (roll-TypeTree (record { base = base; dims = dims }))

-- the first brackets behind names count as one pair more; without brackets there is none
abbrev pub special_made : Special → Expr
special_made (This (w, (dims, p))) = literal_type (base_of.Primitive w.0 w.1) dims
special_made (That (first, (more, This (b, (dims, p))))) = literal_type (base_of.Class (bare_class first more)) (suc dims)
special_made (That (first, (more, That (u, This v)))) = expr_of.OuterThis first more
special_made (That (first, (more, That (u, That v)))) = literal_type (base_of.Class (bare_class first more)) 0

-- at least one pair of brackets, which need room for a height
abbrev pub class_dims_run : ℕ → Run ClassDims
class_dims_run h = with_room h (in_turn (in_turn (of_kind (sign_code sign_of.LeftBracket)) (of_kind (sign_code sign_of.RightBracket))) (in_turn dims_run dot_class_run))

-- of height 0 it is `this` alone (JLS 15.8.4)
abbrev pub dot_key_run : ℕ → Run DotKey
dot_key_run h = in_turn (of_kind (sign_code sign_of.Dot)) (either (key_code key_of.This ∷ []) (of_kind (key_code key_of.This)) (with_room h (of_kind (key_code key_of.Class))))

-- of height at most one more than h
unfoldable pub special_run : ℕ → Run Expr
special_run h =
    as_new special_made (either primitive_codes (with_room h (in_turn word_run (in_turn dims_run dot_class_run)))
    (in_turn an_ident_at (in_turn more_names_run (either (sign_code sign_of.LeftBracket ∷ []) (class_dims_run h) (dot_key_run h)))))

-- a primary of height at most one more than h: class literals and outer `this` with their selectors come first
abbrev pub grown_of : (Expr × List Selector) → Expr
grown_of g = grown selected g.0 g.1

-- the value that the selectors make, whichever start was read
abbrev pub which_grown : Either (Expr × List Selector) (Expr × List Selector) → Expr
which_grown (This g) = grown_of g
which_grown (That g) = grown_of g

-- a start and any number of selectors behind it
abbrev pub selecting_run : ℕ → Run Expr → Run ArrayInit → Run Expr → Run (Expr × List Selector)
selecting_run h expr array first = growing first selected (selectors_run h expr array)

-- a plain start is tried only where no special one can be read
unfoldable pub prime_run : ℕ → Run Expr → Run ArrayInit → Run Expr
prime_run h expr array = as_new which_grown (preferring (selecting_run h expr array (special_run h)) (selecting_run h expr array (plain_run h expr array)))
