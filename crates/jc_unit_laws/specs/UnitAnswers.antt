-- What the parser of source files answers (JLS 7.3).
use Rattle.std.specs.Prelude.{◌≡◌, ℕ, ◌+◌, ◌<◌, ◌≤◌, ◌⊎◌, Bool, List, [], length, take, Some, None}
use Rattle.jc_lexer.specs.declared.token.Token.{Token}
use Rattle.jc_rules.specs.declared.stop.Stop.{Stop}
use Rattle.jc_rules.specs.declared.stop.Stop.TheVariants as stop_of
use Rattle.jc_tree.specs.declared.fault.ParseFault.{ParseFault}
use Rattle.jc_tree.specs.declared.fault.ParseFault.TheVariants as fault_of
use Rattle.jc_tree.specs.declared.statement.SourceFile.{SourceFile}
use Rattle.jc_left_out.specs.LeftOut.{first_left_out_word, first_left_out_form, left_out_forms}
use Rattle.jc_grammar.specs.Spelling.{most_height, SpellsFile, BeginsFile, NoFileBegins}

-- the tokens are those of the file, all of them
abbrev pub FileStands : List Token → SourceFile → Type 0
FileStands tokens file = SpellsFile most_height tokens file

-- a file begins with the tokens before the place, and none with those up to and with the token there; the end of the tokens counts as a
-- last token
abbrev pub IsFilePlace : List Token → ℕ → Type 0
IsFilePlace tokens place =
    (place ≤ length tokens) × BeginsFile most_height (take place tokens) × (place < length tokens → NoFileBegins most_height (take (place + 1) tokens))

-- no file has these tokens, and the place is where that shows
abbrev pub NoFileStands : List Token → ℕ → Type 0
NoFileStands tokens place = IsFilePlace tokens place × ((file : SourceFile) → FileStands tokens file → ⊥)

-- a file of the language: with no word and no form that is left out
abbrev pub UnitStands : Bool → List Token → SourceFile → Type 0
UnitStands prelude tokens file = (first_left_out_word prelude tokens ≡ None) × FileStands tokens file × (left_out_forms file ≡ [])

-- the first word that is left out is the token `place`
abbrev pub WordStands : Bool → List Token → ℕ → ℕ → Type 0
WordStands prelude tokens rule place = (rule ≡ 201) × (first_left_out_word prelude tokens ≡ Some place)

-- no word is left out, the tokens are a file, and the first form that is left out stands at the token `place`
abbrev pub FormStands : Bool → List Token → ℕ → ℕ → Type 0
FormStands prelude tokens rule place = (rule ≡ 203) × (first_left_out_word prelude tokens ≡ None) × (file : SourceFile) × FileStands tokens file × (first_left_out_form tokens file ≡ Some place)

-- the first word that is left out; else a place where no file goes on; else the first form that is left out
abbrev pub NoUnitFault : Bool → List Token → ParseFault → Type 0
NoUnitFault prelude tokens (fault_of.Syntax place) = (first_left_out_word prelude tokens ≡ None) × NoFileStands tokens place
NoUnitFault prelude tokens (fault_of.LeftOut rule place) = WordStands prelude tokens rule place ⊎ FormStands prelude tokens rule place

-- a refusal tells a fault; where memory is wanting nothing is told of the tokens
abbrev pub NoUnitStands : Bool → List Token → Stop ParseFault → Type 0
NoUnitStands prelude tokens (stop_of.Refused fault) = NoUnitFault prelude tokens fault
NoUnitStands prelude tokens stop_of.WantOfMemory = Unit {0}

-- no file has all the tokens, and the fault names the place where that shows
abbrev pub NoWholeFault : List Token → ParseFault → Type 0
NoWholeFault tokens (fault_of.Syntax place) = NoFileStands tokens place
NoWholeFault tokens (fault_of.LeftOut rule place) = ⊥

-- a refusal tells a fault; where memory is wanting nothing is told of the tokens
abbrev pub NoWholeStands : List Token → Stop ParseFault → Type 0
NoWholeStands tokens (stop_of.Refused fault) = NoWholeFault tokens fault
NoWholeStands tokens stop_of.WantOfMemory = Unit {0}

-- no two files of at most 200 heights have the same tokens, and each list of tokens is that of one or has a place where that shows
pub record FilesAreTold : Type 0 where
  pub one_file : (tokens : List Token) (file other : SourceFile) → FileStands tokens file → FileStands tokens other → file ≡ other
  pub decided : (tokens : List Token) → ((file : SourceFile) × FileStands tokens file) ⊎ ((place : ℕ) × NoFileStands tokens place)
