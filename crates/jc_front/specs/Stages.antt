-- The stages that are built, one behind the other: what sources are that break no rule of them, and which break is named. A stage is entered where those before it
-- have no break.
use Rattle.std.specs.Prelude.{◌≡◌, ◌⊎◌, ℕ, ◌+◌, ◌<◌, List, [], ◌∷◌, ◌++◌, Ok, Err}
use Rattle.jc_rules.specs.declared.rule.Refusal.{Refusal}
use Rattle.jc_rules.specs.declared.stop.Stop.{Stop}
use Rattle.jc_rules.specs.declared.stop.Stop.TheVariants as stop_of
use Rattle.jc_lexer.specs.declared.token.Token.{Token}
use Rattle.jc_lexer.specs.Files.{lexed_files}
use Rattle.jc_tree.specs.declared.statement.SourceFile.{SourceFile}
use Rattle.jc_syntax.specs.Stage.{BreaksSyntax, HaveUnits}
use Rattle.jc_declares.specs.declared.unit.SourceUnit.{SourceUnit}
use Rattle.jc_front.specs.Library.{AreLibrary, BreaksLibrary}
use Rattle.jc_declares.specs.Sites.{sites_of}
use Rattle.jc_declares.specs.Breaks.{BreaksNames}
use Rattle.jc_names.specs.Stage.{IsNamed}
use Rattle.jc_headers.specs.Stages.{BreaksHeaders, IsUnbroken}
use Rattle.jc_clashes.specs.Stage.{HasNoClash, IsLeastClash}
use Rattle.jc_types.specs.Accessors.{class_count, supers_of, vars_of}
use Rattle.jc_types.specs.Breaks.{IsLeast}
use Rattle.jc_types.specs.declared.table.Table.{Table}
use Rattle.jc_front.specs.declared.reading.Sources.{Sources}

-- the tokens of the sources, which count from 1 (JLS 3)
abbrev pub HaveTokens : List (List ℕ) → List (List Token) → Type 0
HaveTokens texts lists = lexed_files 1 0 texts ≡ Ok lists

-- files with their numbers, counted from n
abbrev pub numbered_from : ℕ → List SourceFile → List SourceUnit
numbered_from n [] = []
numbered_from n (file ∷ files) = record { file = n; unit = file } ∷ numbered_from (n + 1) files

-- the units of a job (JLS 7.3): those of the library, in file 0, and then its sources
pub record HaveTrees (texts : List (List ℕ)) (lists : List (List Token)) (units : List SourceUnit) : Type 0 where
  pub tokens : HaveTokens texts lists
  pub files : List SourceFile
  pub trees : HaveUnits lists files
  pub library : List SourceUnit
  pub is_library : AreLibrary library
  pub all : units ≡ library ++ numbered_from 1 files

-- the first class is Object, which alone has no supertypes, and has no type parameters; and there are other classes (JLS 4.3.2, 8.1.4)
pub record BeginsWithObject (table : Table) : Type 0 where
  pub supers : supers_of table (record { 0 = 0 }) ≡ []
  pub parameters : vars_of table (record { 0 = 0 }) ≡ []
  pub others : 1 < class_count table

-- the table of what the units of a job declare, whose names break no rule; it begins with the library's Object
pub record HaveTable (texts : List (List ℕ)) (lists : List (List Token)) (units : List SourceUnit) (table : Table) : Type 0 where
  pub trees : HaveTrees texts lists units
  pub names : IsNamed units table
  pub object : BeginsWithObject table

-- sources that break no rule of a stage that is built, and what they are: their tokens, the trees of the library and of the sources, and the table of what these
-- declare, the types and headers of which break no rule, and which has no clash (JLS 4, 8, 9)
pub record AreSources (texts : List (List ℕ)) (sources : Sources) : Type 0 where
  pub declared : HaveTable texts sources.tokens sources.units sources.table
  pub headers : IsUnbroken sources.table
  pub clashes : HasNoClash sources.table

-- sources that break no rule of a stage that is built have these tokens
pub record AreRead (texts : List (List ℕ)) (lists : List (List Token)) : Type 0 where
  pub sources : Sources
  pub are_sources : AreSources texts sources
  pub tokens : sources.tokens ≡ lists

-- ---- the break that is named

-- The lexical stage is the first one. It goes through the sources in order: a source breaks rule 101 at its first byte where it and those
-- before it have too many bytes, or else the rule of its first fault.
abbrev pub BreaksWords : List (List ℕ) → Refusal → Type 0
BreaksWords texts refused = lexed_files 1 0 texts ≡ Err refused

-- the syntactic stage
abbrev pub BreaksTrees : List (List ℕ) → Refusal → Type 0
BreaksTrees texts refused = (lists : List (List Token)) × HaveTokens texts lists × BreaksSyntax texts lists refused

-- the stage of names: the least break by file, offset and number
abbrev pub IsNamesBreak : List SourceUnit → Refusal → Type 0
IsNamesBreak units refused = IsLeast (BreaksNames (sites_of units)) refused

-- the sources have trees, the names of which break a rule; named is the least break
abbrev pub BreaksOfNames : List (List ℕ) → Refusal → Type 0
BreaksOfNames texts refused = (lists : List (List Token)) × (units : List SourceUnit) × HaveTrees texts lists units × IsNamesBreak units refused

-- the stages of types and of headers: the least break of the first of them that has one
abbrev pub BreaksOfHeaders : List (List ℕ) → Refusal → Type 0
BreaksOfHeaders texts refused =
    (lists : List (List Token)) × (units : List SourceUnit) × (table : Table) × HaveTable texts lists units table × BreaksHeaders table refused

-- the stage of clashes, which stands behind these until bodies have stages: the least clash
abbrev pub BreaksOfClashes : List (List ℕ) → Refusal → Type 0
BreaksOfClashes texts refused =
    (lists : List (List Token)) × (units : List SourceUnit) × (table : Table) × HaveTable texts lists units table × IsUnbroken table × IsLeastClash table refused

-- the break of the first stage that has one; a library that were broken would be refused before all sources
abbrev pub Breaks : List (List ℕ) → Refusal → Type 0
Breaks texts refused =
    BreaksLibrary refused ⊎ (BreaksWords texts refused ⊎ (BreaksTrees texts refused ⊎ (BreaksOfNames texts refused ⊎ (BreaksOfHeaders texts refused ⊎ BreaksOfClashes texts refused))))

-- a refusal names that break; want of memory says nothing of the sources
abbrev pub IsBreak : List (List ℕ) → Stop Refusal → Type 0
IsBreak texts (stop_of.Refused refused) = Breaks texts refused
IsBreak texts stop_of.WantOfMemory = Unit {0}

-- ---- the stages behind the trees, of units alone

-- units that break no rule of the stages behind the trees, with the table of what they declare
pub record AreUnbroken (units : List SourceUnit) (table : Table) : Type 0 where
  pub names : IsNamed units table
  pub object : BeginsWithObject table
  pub headers : IsUnbroken table
  pub clashes : HasNoClash table

-- what stops units behind the trees is the break of all sources that have these trees
pub record StopsUnits (units : List SourceUnit) (stop : Stop Refusal) : Type 0 where
  pub breaks : (texts : List (List ℕ)) (lists : List (List Token)) → HaveTrees texts lists units → IsBreak texts stop
