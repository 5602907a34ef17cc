-- Source files by places.
use Rattle.std.proofs.Common.{◌≡◌, ℕ, suc, ◌+◌, ◌-◌, ◌≤◌, true, false, List, [], ◌∷◌, ◌++◌, length, map, take, refl, sym, ap, ◌∙◌, subst, arith}
use Rattle.std.proofs.lemmas.List.{append-nil}
use Rattle.std.proofs.lemmas.Bool.{and_from, and_parts, leb-true, le-leb}
use Rattle.std.specs.Prelude.{nat_le}
use Rattle.jc_lexer.specs.declared.token.Token.{Token}
use Rattle.jc_tree.specs.declared.statement.SourceFile.{SourceFile}
use Rattle.jc_tree.specs.Heights.{most, source_height, top_height}
use Rattle.jc_grammar.specs.Spelling.{AreTold, SpellsFile}
use Rattle.jc_grammar.specs.Statements.{file_tokens}
use Rattle.jc_grammar.specs.Units.{is_file}
use Rattle.jc_reading.proofs.Coded.{formed}
use Rattle.jc_reading.proofs.Forms.{Form, Lawful, Stands}
use Rattle.jc_reading.proofs.Places.{told_front, takes_front, seen, nothing, bound, bounds, is_reach}
use Rattle.jc_reading.proofs.Steps.{IsFound, reach}
use Rattle.jc_reading.specs.Reading.{Read, Found, Stopped}
use Rattle.jc_part_laws.specs.PartReading.{Exprs}
use Rattle.jc_part_laws.proofs.ExprForms.{ExprLaws}
use Rattle.jc_unit_laws.specs.MemberReading.{file_run}
use Rattle.jc_unit_laws.specs.UnitAnswers.{FileStands, IsFilePlace, NoFileStands}
use Rattle.jc_unit_laws.proofs.Files.{file_coded, file_laws}

abbrev most_types : SourceFile → ℕ
most_types file = most (map top_height file.types)

-- a file of at most this height stands at the front, and others follow
abbrev At_front : ℕ → List Token → SourceFile → List Token → Type 0
At_front height tokens file rest = (source_height file ≤ height) × (is_file file ≡ true) × (front : List Token) × (tokens ≡ front ++ rest) × AreTold false (file_tokens file []) front

whole_front : (height : ℕ) (tokens : List Token) (file : SourceFile) → At_front height tokens file [] → SpellsFile height tokens file
whole_front height tokens file p = (p.0, p.1, subst (λ (l : List Token). AreTold false (file_tokens file []) l) (sym (p.3 ∙ append-nil p.2)) p.4)

front_whole : (height : ℕ) (tokens : List Token) (file : SourceFile) → SpellsFile height tokens file → At_front height tokens file []
front_whole height tokens file p = (p.0, p.1, tokens, sym (append-nil tokens), p.2)

module _ (x : Exprs) (lx : ExprLaws x) where
  abbrev top : ℕ
  top = 199

  abbrev form : Form SourceFile
  form = formed (file_coded x top)

  la : Lawful SourceFile form
  la = file_laws x top lx

  to_front : (ts : List Token) (file : SourceFile) (r : List Token) → Stands form ts file r → At_front 200 ts file r
  to_front ts file r s =
      let w = told_front false (file_tokens file []) ts r s.0 in
      let a = and_parts (nat_le (most_types file) top) (is_file file) s.1 in
      let le : most_types file ≤ top = leb-true (most_types file) top a.0 in
      (omega (arith, le), a.1, w.0, w.1, w.2)

  from_front : (ts : List Token) (file : SourceFile) (r : List Token) → At_front 200 ts file r → Stands form ts file r
  from_front ts file r p =
      let le : suc (most_types file) ≤ 200 = p.0 in
      (takes_front false (file_tokens file []) ts p.2 r p.3 p.4, and_from (nat_le (most_types file) top) (is_file file) (le-leb (most_types file) top (omega (arith, le))) p.1)

  -- what is found with nothing left has all the tokens
  pub found_all : (tokens : List Token) (file : SourceFile) (l : ℕ) → file_run x top tokens ≡ Found file [] l → FileStands tokens file
  found_all tokens file l e = whole_front 200 tokens file (seen SourceFile form la (At_front 200) to_front from_front tokens file [] l e)

  -- a file that has all the tokens is found
  pub all_found : (tokens : List Token) (file : SourceFile) → FileStands tokens file → IsFound file [] (file_run x top tokens)
  all_found tokens file p = la.exact tokens file [] (from_front tokens file [] (front_whole 200 tokens file p)) refl

  abbrev Some_at : List Token → ℕ → Type 0
  Some_at tokens n = (file : SourceFile) × (more : List Token) × At_front 200 (take n tokens ++ more) file []

  abbrev None_at : List Token → ℕ → Type 0
  None_at tokens n = (file : SourceFile) (more : List Token) → At_front 200 (take n tokens ++ more) file [] → ⊥

  begins_place : (tokens : List Token) (l : ℕ) → reach (file_run x top tokens) ≡ l → l ≤ length tokens → IsFilePlace tokens (length tokens - l)
  begins_place tokens l e le =
      let w = is_reach SourceFile form la (At_front 200) to_front from_front tokens tokens 0 (omega arith) refl l e le in
      let here : length tokens - l - 0 ≡ length tokens - l = omega arith in
      let next : length tokens - l + 1 - 0 ≡ length tokens - l + 1 = omega arith in
      let b : Some_at tokens (length tokens - l) = subst (λ n. Some_at tokens n) here w.2 in (
        w.1,
        (b.0, b.1, whole_front 200 (take (length tokens - l) tokens ++ b.1) b.0 b.2),
        λ lt file more p. subst (λ n. None_at tokens n) next (w.3 lt) file more (front_whole 200 (take (length tokens - l + 1) tokens ++ more) file p),
      )

  abbrev left_of : Read SourceFile → ℕ
  left_of (Found file r l) = length r
  left_of (Stopped l) = 0

  abbrev value_of : SourceFile → Read SourceFile → SourceFile
  value_of other (Found file r l) = file
  value_of other (Stopped l) = other

  -- no two files have the same tokens
  pub one_file : (tokens : List Token) (file other : SourceFile) → FileStands tokens file → FileStands tokens other → file ≡ other
  one_file tokens file other p q = let one = all_found tokens file p in let two = all_found tokens other q in ap (value_of file) (sym one.1 ∙ two.1)

  no_more : (r : List Token) → 0 ≡ suc (length r) → ⊥
  no_more r e = omega (arith, e)

  -- where something is left no file has all the tokens, and the reach is where that shows
  pub left_over : (tokens : List Token) (file : SourceFile) (t : Token) (r : List Token) (l : ℕ) → file_run x top tokens ≡ Found file (t ∷ r) l → NoFileStands tokens (length tokens - l)
  left_over tokens file t r l e =
      let b = bounds SourceFile form la (At_front 200) to_front from_front tokens file (t ∷ r) l e in (
        begins_place tokens l (ap reach e) (omega (arith, b.0, b.1)),
        λ other p. let whole = all_found tokens other p in no_more r (ap left_of (sym whole.1 ∙ e)),
      )

  pub none_there : (tokens : List Token) (l : ℕ) → file_run x top tokens ≡ Stopped l → NoFileStands tokens (length tokens - l)
  none_there tokens l e = (
    begins_place tokens l (ap reach e) (bound SourceFile form la (At_front 200) to_front from_front tokens l e),
    λ other p. nothing SourceFile form la (At_front 200) to_front from_front tokens l e other [] (front_whole 200 tokens other p),
  )
