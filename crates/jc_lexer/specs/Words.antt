-- Identifiers (JLS 3.8) and keywords (JLS 3.9).
use Rattle.std.specs.Prelude.{ℕ, List, [], ◌∷◌, codes, Option, Some, None, if◌then◌else◌}
use Rattle.std.specs.Str.{bytes_eq}
use Rattle.jc_lexer.specs.declared.keyword.TheConstants.{KEYS}
use Rattle.jc_lexer.specs.declared.token.Key.{Key}
use Rattle.jc_lexer.specs.declared.token.Key.TheVariants.{Abstract, Assert, Boolean, Break, Byte, Case, Catch, Char, Class, Const, Continue, Default, Do, Double, Else, Enum, Extends, Final, Finally, Float, For, Goto, If, Implements, Import, Instanceof, Int, Interface, Long, Native, New, Package, Private, Protected, Public, Return, Short, Static, Strictfp, Super, Switch, Synchronized, This, Throw, Throws, Transient, Try, Void, Volatile, While, True, False, Null}
use Rattle.jc_lexer.specs.declared.token.TokenKind.{TokenKind}
use Rattle.jc_lexer.specs.declared.token.TokenKind.TheVariants.{Word, Key as Keyed}

-- how a keyword is spelled
-- `true`, `false` and `null`, which are literals in JLS 3.10.3 and 3.10.7, are among them
abbrev pub spelling : Key → List ℕ
spelling Abstract = codes "abstract"
spelling Assert = codes "assert"
spelling Boolean = codes "boolean"
spelling Break = codes "break"
spelling Byte = codes "byte"
spelling Case = codes "case"
spelling Catch = codes "catch"
spelling Char = codes "char"
spelling Class = codes "class"
spelling Const = codes "const"
spelling Continue = codes "continue"
spelling Default = codes "default"
spelling Do = codes "do"
spelling Double = codes "double"
spelling Else = codes "else"
spelling Enum = codes "enum"
spelling Extends = codes "extends"
spelling Final = codes "final"
spelling Finally = codes "finally"
spelling Float = codes "float"
spelling For = codes "for"
spelling Goto = codes "goto"
spelling If = codes "if"
spelling Implements = codes "implements"
spelling Import = codes "import"
spelling Instanceof = codes "instanceof"
spelling Int = codes "int"
spelling Interface = codes "interface"
spelling Long = codes "long"
spelling Native = codes "native"
spelling New = codes "new"
spelling Package = codes "package"
spelling Private = codes "private"
spelling Protected = codes "protected"
spelling Public = codes "public"
spelling Return = codes "return"
spelling Short = codes "short"
spelling Static = codes "static"
spelling Strictfp = codes "strictfp"
spelling Super = codes "super"
spelling Switch = codes "switch"
spelling Synchronized = codes "synchronized"
spelling This = codes "this"
spelling Throw = codes "throw"
spelling Throws = codes "throws"
spelling Transient = codes "transient"
spelling Try = codes "try"
spelling Void = codes "void"
spelling Volatile = codes "volatile"
spelling While = codes "while"
spelling True = codes "true"
spelling False = codes "false"
spelling Null = codes "null"

-- the keyword of a list that a text spells
abbrev pub key_in : List Key → List ℕ → Option Key
key_in [] text = None
key_in (k ∷ keys) text = if bytes_eq (spelling k) text then Some k else key_in keys text

-- the keyword that a text spells, or where it spells none the text as an identifier
abbrev pub word_or_key : List ℕ → Option Key → TokenKind
word_or_key text None = Word text
word_or_key text (Some key) = Keyed key

-- a keyword, or else an identifier
unfoldable pub word_kind : List ℕ → TokenKind
word_kind text = word_or_key text (key_in KEYS text)
