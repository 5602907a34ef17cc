-- How the places of declarations stand to each other, by file and offset, and which sources they are of.
use Rattle.std.specs.Prelude.{◌≡◌, ◌<◌, ◌≤◌, ℕ, zero, suc, Bool, true, false, List, [], ◌∷◌, Some, slice_get}
use Rattle.jc_rules.specs.declared.rule.Place.{Place}
use Rattle.jc_lexer.specs.declared.token.Token.{Token}
use Rattle.jc_types.specs.declared.declarations.ClassDecl.{ClassDecl}
use Rattle.jc_types.specs.declared.declarations.FieldDecl.{FieldDecl}
use Rattle.jc_types.specs.declared.declarations.MethodDecl.{MethodDecl}
use Rattle.jc_types.specs.declared.declarations.VariableDecl.{VariableDecl}
use Rattle.jc_types.specs.declared.table.Table.{Table}
use Rattle.jc_declares.specs.declared.unit.SourceUnit.{SourceUnit}
use Rattle.jc_grammar.specs.Spelling.{AreTold}
use Rattle.jc_grammar.specs.Statements.{file_tokens}

-- ---- sources

-- each token ends before the next one begins (JLS 3.2)
abbrev pub Ascend : List Token → Type 0
Ascend [] = Unit {0}
Ascend (t ∷ []) = Unit {0}
Ascend (t ∷ next ∷ tokens) = (t.from < next.from) × Ascend (next ∷ tokens)

-- the unit is that of a source with these tokens
pub record IsRead (u : SourceUnit) : Type 0 where
  pub tokens : List Token
  pub told : AreTold false (file_tokens u.unit []) tokens
  pub ascend : Ascend tokens

abbrev pub next_file : ℕ → ℕ
next_file zero = zero
next_file (suc n) = suc (suc n)

-- The units of a job: those of the library in file 0, and then its sources, each in a file of its own
abbrev pub AreJob : ℕ → List SourceUnit → Type 0
AreJob least [] = Unit {0}
AreJob least (u ∷ units) = (least ≤ u.file) × (0 < u.file → IsRead u) × AreJob (next_file u.file) units

-- ---- places

-- the one comes before the other, or, where several declarations may stand at one place, not behind it
abbrev pub IsAhead : Bool → ℕ → ℕ → Type 0
IsAhead true a b = a ≤ b
IsAhead false a b = a < b

-- by file, and in a source by offset
pub record Comes (shared : Bool) (a b : Place) : Type 0 where
  pub file : a.file ≤ b.file
  pub offset : a.file ≡ b.file → 0 < a.file → IsAhead shared a.at b.at

abbrev pub AreInOrder : {X : Type 0} → Bool → (X → Place) → List X → Type 0
AreInOrder {X} shared place xs = (i j : ℕ) (x y : X) → i < j → slice_get xs i ≡ Some x → slice_get xs j ≡ Some y → Comes shared (place x) (place y)

-- Implied constructors and static initialisers stand at their class, and so several of them at one place
pub record IdsAscend (T : Table) : Type 0 where
  pub classes : AreInOrder false (λ (c : ClassDecl). c.place) T.classes
  pub methods : AreInOrder true (λ (m : MethodDecl). m.place) T.methods
  pub fields : AreInOrder false (λ (f : FieldDecl). f.place) T.fields
  pub variables : AreInOrder false (λ (v : VariableDecl). v.place) T.variables
