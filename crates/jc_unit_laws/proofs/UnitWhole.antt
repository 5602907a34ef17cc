-- What is read of all tokens tells whether they are those of a source file, of which one, and where not.
use Rattle.std.proofs.Common.{◌≡◌, ℕ, ◌-◌, List, [], ◌∷◌, length, refl, ◌⊎◌, inl, inr}
use Rattle.jc_lexer.specs.declared.token.Token.{Token}
use Rattle.jc_tree.specs.declared.statement.SourceFile.{SourceFile}
use Rattle.jc_reading.specs.Reading.{Read, Found, Stopped}
use Rattle.jc_expr_laws.specs.ExprReading.{exprs}
use Rattle.jc_expr_laws.proofs.ExprWhole.{expr_laws}
use Rattle.jc_unit_laws.specs.MemberReading.{file_run}
use Rattle.jc_unit_laws.specs.UnitAnswers.{FileStands, FilesAreTold, NoFileStands}
use Rattle.jc_unit_laws.proofs.UnitPlaces.{found_all, one_file, left_over, none_there}

pub file_found : (tokens : List Token) (file : SourceFile) (l : ℕ) → file_run exprs 199 tokens ≡ Found file [] l → FileStands tokens file
file_found tokens file l e = found_all exprs expr_laws tokens file l e

-- the grammar is unambiguous
pub only_file : (tokens : List Token) (file other : SourceFile) → FileStands tokens file → FileStands tokens other → file ≡ other
only_file tokens file other p q = one_file exprs expr_laws tokens file other p q

pub file_ends : (tokens : List Token) (file : SourceFile) (t : Token) (r : List Token) (l : ℕ) → file_run exprs 199 tokens ≡ Found file (t ∷ r) l → NoFileStands tokens (length tokens - l)
file_ends tokens file t r l e = left_over exprs expr_laws tokens file t r l e

pub no_file : (tokens : List Token) (l : ℕ) → file_run exprs 199 tokens ≡ Stopped l → NoFileStands tokens (length tokens - l)
no_file tokens l e = none_there exprs expr_laws tokens l e

by_read : (tokens : List Token) (read : Read SourceFile) → file_run exprs 199 tokens ≡ read → ((file : SourceFile) × FileStands tokens file) ⊎ ((place : ℕ) × NoFileStands tokens place)
by_read tokens (Found file [] l) e = inl (file, file_found tokens file l e)
by_read tokens (Found file (t ∷ r) l) e = inr (length tokens - l, file_ends tokens file t r l e)
by_read tokens (Stopped l) e = inr (length tokens - l, no_file tokens l e)

pub files_are_told : FilesAreTold
files_are_told = record { one_file = only_file; decided = λ tokens. by_read tokens (file_run exprs 199 tokens) refl }
