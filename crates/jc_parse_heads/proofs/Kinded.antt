-- What stands at the front is of the codes that it is to be of.
use Rattle.std.proofs.Common.{◌≡◌, ◌==◌, ◌∷◌, [], true, false, refl, ◌∙◌, List, length}
use Rattle.std.proofs.lemmas.Bool.{cond-true, cond-false}
use Rattle.jc_lexer.specs.declared.token.Token.{Token}
use Rattle.jc_reading.specs.Reading.{Read, noting}
use Rattle.jc_reading.specs.Further.{past}
use Rattle.jc_lexer.specs.declared.token.Key.TheVariants as key_of
use Rattle.jc_lexer.specs.declared.token.Sign.TheVariants as sign_of
use Rattle.jc_lexer.specs.declared.token.TokenKind.{TokenKind}
use Rattle.jc_lexer.specs.declared.token.TokenKind.TheVariants as kind_of
use Rattle.jc_reading.specs.Kinds.{is_in, kind_code, word_code}
use Rattle.jc_unit_laws.specs.MemberReading.{rest_codes}
use Rattle.jc_unit_laws.specs.UnitReading.{statement_codes}
use Rattle.jc_parse_heads.specs.Beginnings.{begins_declaration, begins_modifier, begins_rest, begins_statement, begins_word, declaration_codes, modifier_codes}

pub begins_word_code : (k : TokenKind) → is_in (word_code ∷ []) (kind_code k) ≡ begins_word k
begins_word_code (kind_of.Word text) = refl
begins_word_code (kind_of.Key key_of.Abstract) = refl
begins_word_code (kind_of.Sign sign_of.Dot) = refl
begins_word_code _ = refl

pub begins_statement_code : (k : TokenKind) → is_in statement_codes (kind_code k) ≡ begins_statement k
begins_statement_code (kind_of.Sign sign_of.LeftBrace) = refl
begins_statement_code (kind_of.Sign sign_of.Semicolon) = refl
begins_statement_code (kind_of.Key key_of.While) = refl
begins_statement_code (kind_of.Key key_of.Do) = refl
begins_statement_code (kind_of.Key key_of.For) = refl
begins_statement_code (kind_of.Key key_of.Switch) = refl
begins_statement_code (kind_of.Key key_of.Return) = refl
begins_statement_code (kind_of.Key key_of.Break) = refl
begins_statement_code (kind_of.Key key_of.Continue) = refl
begins_statement_code (kind_of.Key key_of.Throw) = refl
begins_statement_code (kind_of.Key key_of.Try) = refl
begins_statement_code _ = refl

pub begins_modifier_code : (k : TokenKind) → is_in modifier_codes (kind_code k) ≡ begins_modifier k
begins_modifier_code (kind_of.Sign sign_of.At) = refl
begins_modifier_code (kind_of.Key key_of.Public) = refl
begins_modifier_code (kind_of.Key key_of.Protected) = refl
begins_modifier_code (kind_of.Key key_of.Private) = refl
begins_modifier_code (kind_of.Key key_of.Static) = refl
begins_modifier_code (kind_of.Key key_of.Abstract) = refl
begins_modifier_code (kind_of.Key key_of.Final) = refl
begins_modifier_code (kind_of.Key key_of.Native) = refl
begins_modifier_code (kind_of.Key key_of.Volatile) = refl
begins_modifier_code (kind_of.Key key_of.Transient) = refl
begins_modifier_code _ = refl

pub begins_rest_code : (k : TokenKind) → is_in rest_codes (kind_code k) ≡ begins_rest k
begins_rest_code (kind_of.Key key_of.Class) = refl
begins_rest_code (kind_of.Key key_of.Interface) = refl
begins_rest_code (kind_of.Sign sign_of.At) = refl
begins_rest_code _ = refl

pub begins_declaration_code : (k : TokenKind) → is_in declaration_codes (kind_code k) ≡ begins_declaration k
begins_declaration_code (kind_of.Key key_of.Class) = refl
begins_declaration_code (kind_of.Key key_of.Interface) = refl
begins_declaration_code (kind_of.Sign sign_of.At) = refl
begins_declaration_code (kind_of.Key key_of.Public) = refl
begins_declaration_code (kind_of.Key key_of.Protected) = refl
begins_declaration_code (kind_of.Key key_of.Private) = refl
begins_declaration_code (kind_of.Key key_of.Static) = refl
begins_declaration_code (kind_of.Key key_of.Abstract) = refl
begins_declaration_code (kind_of.Key key_of.Final) = refl
begins_declaration_code (kind_of.Key key_of.Native) = refl
begins_declaration_code (kind_of.Key key_of.Volatile) = refl
begins_declaration_code (kind_of.Key key_of.Transient) = refl
begins_declaration_code _ = refl

word_is : (k : TokenKind) → (kind_code k == word_code) ≡ begins_word k
word_is (kind_of.Word text) = refl
word_is (kind_of.Key key_of.Abstract) = refl
word_is (kind_of.Sign sign_of.Dot) = refl
word_is _ = refl

pub past_word : {A : Type 0} (t : Token) (ts : List Token) (m : Read A) → begins_word t.kind ≡ true → past word_code (t ∷ ts) m ≡ noting (length ts) m
past_word t ts m e = cond-true (kind_code t.kind == word_code) (noting (length ts) m) m (word_is t.kind ∙ e)

pub past_other : {A : Type 0} (t : Token) (ts : List Token) (m : Read A) → begins_word t.kind ≡ false → past word_code (t ∷ ts) m ≡ m
past_other t ts m e = cond-false (kind_code t.kind == word_code) (noting (length ts) m) m (word_is t.kind ∙ e)
