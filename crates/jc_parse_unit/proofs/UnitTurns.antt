-- What the steps of the parser of files answer.
use Rattle.std.proofs.Common.{◌≡◌, ℕ, ◌-◌, ◌<◌, ◌≤◌, Bool, List, [], ◌∷◌, length, Option, Some, None, refl, sym, subst, inl, inr, arith}
use Rattle.jc_lexer.specs.declared.token.Token.{Token}
use Rattle.jc_rules.specs.declared.stop.Stop.{Stop}
use Rattle.jc_rules.specs.declared.stop.Stop.TheVariants as stop_of
use Rattle.jc_tree.specs.declared.fault.ParseFault.{ParseFault}
use Rattle.jc_tree.specs.declared.fault.ParseFault.TheVariants as fault_of
use Rattle.jc_tree.specs.declared.statement.SourceFile.{SourceFile}
use Rattle.jc_left_out.specs.LeftOut.{earlier, first_left_out_word, first_left_out_form, left_out_forms, least_of, place_of}
use Rattle.jc_reading.specs.Reading.{Read, Found}
use Rattle.jc_reading.specs.Reach.{Within}
use Rattle.jc_expr_laws.specs.ExprReading.{exprs}
use Rattle.jc_expr_laws.proofs.ExprWhole.{expr_laws}
use Rattle.jc_unit_laws.specs.MemberReading.{file_run}
use Rattle.jc_unit_laws.specs.UnitAnswers.{FileStands, NoFileStands, NoUnitStands, NoWholeStands, UnitStands}
use Rattle.jc_unit_laws.proofs.Files.{file_laws}
use Rattle.jc_unit_laws.proofs.UnitWhole.{file_found, file_ends}

pub file_all : (tokens : List Token) (file : SourceFile) (r : List Token) (l : ℕ) → file_run exprs 199 tokens ≡ Found file r l → length r < 1 → FileStands tokens file
file_all tokens file [] l e lt = file_found tokens file l e
file_all tokens file (t ∷ r) l e lt = absurd (omega (arith, lt))

pub file_ended : (tokens : List Token) (file : SourceFile) (r : List Token) (l : ℕ) → file_run exprs 199 tokens ≡ Found file r l → 1 ≤ length r → NoFileStands tokens (length tokens - l)
file_ended tokens file [] l e le = absurd (omega (arith, le))
file_ended tokens file (t ∷ r) l e le = file_ends tokens file t r l e

pub reach_within : (tokens : List Token) (file : SourceFile) (r : List Token) (l : ℕ) → file_run exprs 199 tokens ≡ Found file r l → l ≤ length tokens
reach_within tokens file r l e = let w = subst (λ (v : Read SourceFile). Within (length tokens) v) e ((file_laws exprs 199 expr_laws).within tokens) in omega (arith, w.0, w.1)

pub word_stands : (prelude : Bool) (tokens : List Token) (place : ℕ) → first_left_out_word prelude tokens ≡ Some place → NoUnitStands prelude tokens (stop_of.Refused (fault_of.LeftOut 201 place))
word_stands prelude tokens place e = inl (refl, e)

pub form_stands : (prelude : Bool) (tokens : List Token) (file : SourceFile) (place : ℕ) → first_left_out_word prelude tokens ≡ None → FileStands tokens file → first_left_out_form tokens file ≡ Some place → NoUnitStands prelude tokens (stop_of.Refused (fault_of.LeftOut 203 place))
form_stands prelude tokens file place w f e = inr (refl, w, file, f, e)

pub whole_stops : (prelude : Bool) (tokens : List Token) (stop : Stop ParseFault) → first_left_out_word prelude tokens ≡ None → NoWholeStands tokens stop → NoUnitStands prelude tokens stop
whole_stops prelude tokens (stop_of.Refused (fault_of.Syntax place)) w n = (w, n)
whole_stops prelude tokens (stop_of.Refused (fault_of.LeftOut rule place)) w n = absurd n
whole_stops prelude tokens stop_of.WantOfMemory w n = tt

abbrev is_none : {A : Type 0} → Option A → Type 0
is_none None = Unit {0}
is_none (Some a) = ⊥

none_least : (list : List ℕ) → is_none (least_of list) → list ≡ []
none_least [] n = refl
none_least (m ∷ list) n = absurd (some_first (least_of list) n)
  where
    some_first : (rest : Option ℕ) → is_none (earlier (Some m) rest) → ⊥
    some_first None n = n
    some_first (Some k) n = n

none_placed : (tokens : List Token) (least : Option ℕ) → place_of tokens least ≡ None → is_none least
none_placed tokens None e = tt
none_placed tokens (Some at) e = subst (λ (o : Option ℕ). is_none o) (sym e) tt

pub unit_stands : (prelude : Bool) (tokens : List Token) (file : SourceFile) → first_left_out_word prelude tokens ≡ None → FileStands tokens file → first_left_out_form tokens file ≡ None → UnitStands prelude tokens file
unit_stands prelude tokens file w f e = (w, f, none_least (left_out_forms file) (none_placed tokens (least_of (left_out_forms file)) e))
