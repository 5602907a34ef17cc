-- The units of the library: each text of the prelude is a source of its own (JLS 7.3). They all stand in file 0, one behind the other, and offsets count there.
use Rattle.std.specs.Prelude.{◌≡◌, ◌⊎◌, ℕ, ◌+◌, true, List, [], ◌∷◌, length, map, Ok, Err}
use Rattle.jc_rules.specs.declared.rule.Refusal.{Refusal}
use Rattle.jc_rules.specs.declared.stop.Stop.{Stop}
use Rattle.jc_rules.specs.declared.stop.Stop.TheVariants as stop_of
use Rattle.jc_lexer.specs.declared.fault.LexFault.{LexFault}
use Rattle.jc_lexer.specs.declared.token.Token.{Token}
use Rattle.jc_lexer.specs.Faults.{rule_of, place_of}
use Rattle.jc_lexer.specs.Lexing.{lexed}
use Rattle.jc_tree.specs.declared.fault.ParseFault.{ParseFault}
use Rattle.jc_tree.specs.declared.statement.SourceFile.{SourceFile}
use Rattle.jc_unit_laws.specs.UnitAnswers.{NoUnitFault, UnitStands}
use Rattle.jc_syntax.specs.Stage.{refusal, refusal_of}
use Rattle.jc_prelude.specs.Texts.{texts}
use Rattle.jc_declares.specs.declared.unit.SourceUnit.{SourceUnit}

-- a token behind so many bytes more
abbrev pub moved : ℕ → Token → Token
moved by t = record t { from = t.from + by; to = t.to + by }

-- the tokens of a text before which there are so many bytes
abbrev pub HasTokens : ℕ → List ℕ → List Token → Type 0
HasTokens before text tokens = (own : List Token) × (lexed text ≡ Ok own) × (tokens ≡ map (moved before) own)

-- its tree
abbrev pub HasTree : ℕ → List ℕ → SourceFile → Type 0
HasTree before text tree = (tokens : List Token) × HasTokens before text tokens × UnitStands true tokens tree

-- the rule that it breaks, if it is no unit
abbrev pub BreaksWords : ℕ → List ℕ → Refusal → Type 0
BreaksWords before text refused = (fault : LexFault) × (lexed text ≡ Err fault) × (refused ≡ refusal (rule_of fault) 0 (before + place_of fault))

-- it has tokens, and they are those of no unit; offsets count from the beginning of the whole library
abbrev pub BreaksTree : ℕ → List ℕ → Refusal → Type 0
BreaksTree before text refused =
    (tokens : List Token) × HasTokens before text tokens × (fault : ParseFault) × NoUnitFault true tokens fault × (refused ≡ refusal_of 0 tokens (before + length text) fault)

-- a text breaks a rule of words or one of the syntax
abbrev pub BreaksText : ℕ → List ℕ → Refusal → Type 0
BreaksText before text refused = BreaksWords before text refused ⊎ BreaksTree before text refused

-- ---- all texts

-- the units of these texts, before which there are so many bytes
abbrev pub AreUnitsOf : ℕ → List (List ℕ) → List SourceUnit → Type 0
AreUnitsOf before [] [] = Unit {0}
AreUnitsOf before [] (u ∷ units) = ⊥
AreUnitsOf before (text ∷ others) [] = ⊥
AreUnitsOf before (text ∷ others) (u ∷ units) = (u.file ≡ 0) × HasTree before text u.unit × AreUnitsOf (before + length text) others units

-- the first of them that is no unit breaks this rule
abbrev pub BreaksIn : ℕ → List (List ℕ) → Refusal → Type 0
BreaksIn before [] refused = ⊥
BreaksIn before (text ∷ others) refused =
    BreaksText before text refused ⊎ (((tree : SourceFile) × HasTree before text tree) × BreaksIn (before + length text) others refused)

-- the units of the library's own texts, and the rule that the first faulty one of these breaks
abbrev pub AreLibrary : List SourceUnit → Type 0
AreLibrary units = AreUnitsOf 0 texts units

abbrev pub BreaksLibrary : Refusal → Type 0
BreaksLibrary refused = BreaksIn 0 texts refused

-- ---- what stops a call

-- a refusal is a break: of a text's words, of a text, and of the library; want of memory says nothing of them
abbrev pub IsWordsStop : ℕ → List ℕ → Stop Refusal → Type 0
IsWordsStop before text (stop_of.Refused refused) = BreaksWords before text refused
IsWordsStop before text stop_of.WantOfMemory = Unit {0}

abbrev pub IsTextStop : ℕ → List ℕ → Stop Refusal → Type 0
IsTextStop before text (stop_of.Refused refused) = BreaksText before text refused
IsTextStop before text stop_of.WantOfMemory = Unit {0}

abbrev pub IsLibraryStop : Stop Refusal → Type 0
IsLibraryStop (stop_of.Refused refused) = BreaksLibrary refused
IsLibraryStop stop_of.WantOfMemory = Unit {0}
