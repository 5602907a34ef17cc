-- How types are read (JLS 4).
use Rattle.std.specs.Prelude.{ℕ, zero, suc, List, [], ◌∷◌, map, length, Option, Some, None}
use Rattle.jc_lexer.specs.declared.token.Key.{Key}
use Rattle.jc_lexer.specs.declared.token.Key.TheVariants as key_of
use Rattle.jc_lexer.specs.declared.token.Sign.TheVariants as sign_of
use Rattle.jc_lexer.specs.declared.token.Token.{Token}
use Rattle.jc_lexer.specs.declared.token.TokenKind.{TokenKind}
use Rattle.jc_lexer.specs.declared.token.TokenKind.TheVariants as kind_of
use Rattle.jc_tree.specs.declared.name.Ident.{Ident}
use Rattle.jc_tree.specs.declared.types.BaseTree.{BaseTree}
use Rattle.jc_tree.specs.declared.types.BaseTree.TheVariants as base_of
use Rattle.jc_tree.specs.declared.types.TypeArg.{TypeArg}
use Rattle.jc_tree.specs.declared.types.TypeArg.TheVariants as arg_of
use Rattle.jc_tree.specs.declared.types.ClassTree.{ClassTree, roll-ClassTree}
use Rattle.jc_tree.specs.declared.types.TypePart.{TypePart, roll-TypePart}
use Rattle.jc_tree.specs.declared.types.TypeTree.{TypeTree, roll-TypeTree}
use Rattle.jc_tree.specs.declared.types.PrimitiveWord.{PrimitiveWord}
use Rattle.jc_tree.specs.declared.types.PrimitiveWord.TheVariants as word_of
use Rattle.jc_reading.specs.Kinds.{sign_code, key_code}
use Rattle.jc_reading.specs.Reading.{Stopped, Run, as_new, in_turn, perhaps, any_number, Either, This, That, either, picking, behind_it, commas_run, of_kind, at_kind, an_ident_at}

-- {"[" "]"}
abbrev pub bracket_run : Run (Unit {0} × Unit {0})
bracket_run = in_turn (of_kind (sign_code sign_of.LeftBracket)) (of_kind (sign_code sign_of.RightBracket))

-- how many pairs of brackets stand there, which may be none
unfoldable pub dims_run : Run ℕ
dims_run = as_new length (any_number bracket_run)

-- the primitive type of a keyword (JLS 4.2); None for other keywords
abbrev pub word_of_key : Key → Option PrimitiveWord
word_of_key key_of.Boolean = Some word_of.Boolean
word_of_key key_of.Byte = Some word_of.Byte
word_of_key key_of.Short = Some word_of.Short
word_of_key key_of.Char = Some word_of.Char
word_of_key key_of.Int = Some word_of.Int
word_of_key key_of.Long = Some word_of.Long
word_of_key _ = None

-- a value with its offset; None stays None
abbrev pub at_its_place : {A : Type 0} → ℕ → Option A → Option (ℕ × A)
at_its_place at None = None
at_its_place at (Some a) = Some (at, a)

-- the primitive type that a token names, and the same with its offset; None for other tokens
abbrev pub word_of_kind : TokenKind → Option PrimitiveWord
word_of_kind (kind_of.Key k) = word_of_key k
word_of_kind _ = None

abbrev pub picks_word : Token → Option (ℕ × PrimitiveWord)
picks_word t = at_its_place t.from (word_of_kind t.kind)

-- the numbers of the keywords of primitive types
abbrev pub primitive_codes : List ℕ
primitive_codes = key_code key_of.Boolean ∷ key_code key_of.Byte ∷ key_code key_of.Short ∷ key_code key_of.Char ∷ key_code key_of.Int ∷ key_code key_of.Long ∷ []

-- a keyword of a primitive type, with its offset
abbrev pub word_run : Run (ℕ × PrimitiveWord)
word_run = picking picks_word

-- "?" [("extends" | "super") Type]
abbrev pub Bound : Type 0
Bound = Option (Either (Unit {0} × TypeTree) (Unit {0} × TypeTree))

-- a bound by the keyword at its front, or nothing
abbrev pub bound_run : Run TypeTree → Run Bound
bound_run type_run = perhaps (either (key_code key_of.Extends ∷ []) (in_turn (of_kind (key_code key_of.Extends)) type_run) (in_turn (of_kind (key_code key_of.Super)) type_run))

-- an argument: a wildcard by the offset of `?` and its bound, if any, or a type
abbrev pub wildcard : (ℕ × Bound) → TypeArg
wildcard (at, None) = arg_of.Any at
wildcard (at, Some (This p)) = arg_of.Extends at p.1
wildcard (at, Some (That p)) = arg_of.Super at p.1

abbrev pub arg_made : Either (ℕ × Bound) TypeTree → TypeArg
arg_made (This p) = wildcard p
arg_made (That ty) = arg_of.Exact ty

-- Type, or a wildcard; where there is no room for a type, a wildcard without a bound
unfoldable pub arg_run : ℕ → Run TypeTree → Run TypeArg
arg_run zero type_run = as_new arg_of.Any (at_kind (sign_code sign_of.Question))
arg_run (suc h) type_run = as_new arg_made (either (sign_code sign_of.Question ∷ []) (in_turn (at_kind (sign_code sign_of.Question)) (bound_run type_run)) type_run)

-- what stands between the brackets; without brackets nothing
abbrev pub or_none : {A : Type 0} → Option (Unit {0} × (List A × Unit {0})) → List A
or_none None = []
or_none (Some p) = p.1.0

-- arguments between angle brackets
unfoldable pub args_run : Run TypeArg → Run (List TypeArg)
args_run arg = as_new or_none (perhaps (in_turn (of_kind (sign_code sign_of.Less)) (in_turn (commas_run arg) (of_kind (sign_code sign_of.Greater)))))

-- Id [Args]
abbrev pub part_made : (Ident × List TypeArg) → TypePart
part_made p = roll-TypePart (record { name = p.0; args = p.1 })

unfoldable pub part_run : Run (List TypeArg) → Run TypePart
part_run args = as_new part_made (in_turn an_ident_at args)

-- Id [Args] {"." Id [Args]}
abbrev pub class_made : (TypePart × List (Unit {0} × TypePart)) → ClassTree
class_made p = roll-ClassTree (record { first = p.0; more = map behind_it p.1 })

unfoldable pub class_run_of : Run TypePart → Run ClassTree
class_run_of part = as_new class_made (in_turn part (any_number (in_turn (of_kind (sign_code sign_of.Dot)) part)))

-- Prim | ClassT
abbrev pub base_made : Either (ℕ × PrimitiveWord) ClassTree → BaseTree
base_made (This p) = base_of.Primitive p.0 p.1
base_made (That class) = base_of.Class class

unfoldable pub base_run_of : Run ClassTree → Run BaseTree
base_run_of class = as_new base_made (either primitive_codes word_run class)

-- (Prim | ClassT) {"[" "]"}
abbrev pub type_made : (BaseTree × ℕ) → TypeTree
type_made p = roll-TypeTree (record { base = p.0; dims = p.1 })

unfoldable pub type_run_of : Run BaseTree → Run TypeTree
type_run_of base = as_new type_made (in_turn base dims_run)

-- a class type of height at most h, where types of height at most h are read
abbrev pub class_over : ℕ → Run TypeTree → Run ClassTree
class_over h type_run = class_run_of (part_run (args_run (arg_run h type_run)))

-- the longest type of height at most h
unfoldable pub type_run : ℕ → Run TypeTree
type_run zero ts = Stopped (length ts)
type_run (suc h) ts = type_run_of (base_run_of (class_over h (type_run h))) ts

-- a class type, and a class or primitive type without brackets, where types in it of height at most h are read
abbrev pub class_run : ℕ → Run ClassTree
class_run h = class_over h (type_run h)

abbrev pub base_run : ℕ → Run BaseTree
base_run h = base_run_of (class_run h)
