-- The syntactic stage: the trees of all sources, or the rule of the syntax that the first faulty one breaks.
use Rattle.std.specs.Prelude.{◌≡◌, ℕ, ◌+◌, false, List, [], ◌∷◌, ◌++◌, length, slice_get, slice_index_or}
use Rattle.std.specs.declared.option.Option.{Option}
use Rattle.std.specs.declared.option.Option.TheVariants.{Some, None}
use Rattle.jc_rules.specs.declared.rule.Refusal.{Refusal}
use Rattle.jc_rules.specs.declared.stop.Stop.{Stop}
use Rattle.jc_rules.specs.declared.stop.Stop.TheVariants as stop_of
use Rattle.jc_lexer.specs.declared.token.Token.{Token}
use Rattle.jc_tree.specs.declared.fault.ParseFault.{ParseFault}
use Rattle.jc_tree.specs.declared.fault.ParseFault.TheVariants as fault_of
use Rattle.jc_tree.specs.declared.statement.SourceFile.{SourceFile}
use Rattle.jc_unit_laws.specs.UnitAnswers.{NoUnitFault, UnitStands}

-- the offset at which a token begins, and the size of the file where there is no token
abbrev pub from_of : ℕ → Option Token → ℕ
from_of size None = size
from_of size (Some token) = token.from

-- the offset of a token in a file of so many bytes; the end of the file counts as a last token
abbrev pub offset_of : List Token → ℕ → ℕ → ℕ
offset_of tokens size token = from_of size (slice_get tokens token)

-- a rule, broken at an offset of a file; its last number says nothing here
abbrev pub refusal : ℕ → ℕ → ℕ → Refusal
refusal rule file at = record { rule = rule; place = record { file = file; at = at }; have = 0 }

-- a fault of a file
abbrev pub refusal_of : ℕ → List Token → ℕ → ParseFault → Refusal
refusal_of file tokens size (fault_of.Syntax token) = refusal 202 file (offset_of tokens size token)
refusal_of file tokens size (fault_of.LeftOut rule token) = refusal rule file (offset_of tokens size token)

-- a file's tokens are those of no source file of the language, and the refusal says why and where
abbrev pub BreaksIn : ℕ → List Token → ℕ → Refusal → Type 0
BreaksIn file tokens size refused = (fault : ParseFault) × NoUnitFault false tokens fault × (refused ≡ refusal_of file tokens size fault)

-- a refusal says how the file breaks the syntax; want of memory says nothing of it
abbrev pub IsFileStop : ℕ → List Token → ℕ → Stop Refusal → Type 0
IsFileStop file tokens size (stop_of.Refused refused) = BreaksIn file tokens size refused
IsFileStop file tokens size stop_of.WantOfMemory = Unit {0}

-- each list of tokens is that of a source file
abbrev pub HaveUnits : List (List Token) → List SourceFile → Type 0
HaveUnits [] [] = Unit {0}
HaveUnits [] (unit ∷ units) = ⊥
HaveUnits (tokens ∷ lists) [] = ⊥
HaveUnits (tokens ∷ lists) (unit ∷ units) = UnitStands false tokens unit × HaveUnits lists units

-- a source breaks a rule of the syntax, and none before it does; the sources count from 1
pub record BreaksSyntax (texts : List (List ℕ)) (lists : List (List Token)) (refused : Refusal) : Type 0 where
  pub before : List (List Token)
  pub units : List SourceFile
  pub unbroken : HaveUnits before units
  pub tokens : List Token
  pub after : List (List Token)
  pub all : lists ≡ before ++ (tokens ∷ after)
  pub breaks : BreaksIn (length before + 1) tokens (length (slice_index_or texts (length before) [])) refused

-- a refusal is that of the first faulty source; want of memory says nothing of them
abbrev pub IsStageStop : List (List ℕ) → List (List Token) → Stop Refusal → Type 0
IsStageStop texts lists (stop_of.Refused refused) = BreaksSyntax texts lists refused
IsStageStop texts lists stop_of.WantOfMemory = Unit {0}

-- sources that break a rule of the syntax break it in one way, and have no trees
pub record SyntaxIsTold : Type 0 where
  pub one_break : (texts : List (List ℕ)) (lists : List (List Token)) (refused other : Refusal) → BreaksSyntax texts lists refused → BreaksSyntax texts lists other → refused ≡ other
  pub not_both : (texts : List (List ℕ)) (lists : List (List Token)) (units : List SourceFile) (refused : Refusal) → HaveUnits lists units → BreaksSyntax texts lists refused → ⊥
