-- Only one type has the same tokens: what is read of them is each of the two.
use Rattle.std.proofs.Common.{◌≡◌, ℕ, suc, ◌+◌, ◌≤◌, List, [], ◌++◌, drop, refl, sym, ap, ◌∙◌, arith}
use Rattle.std.proofs.lemmas.List.{append-nil, append_cancel_right}
use Rattle.jc_lexer.specs.declared.token.Token.{Token}
use Rattle.jc_tree.specs.declared.types.TypeTree.{TypeTree}
use Rattle.jc_grammar.specs.Spelling.{SpellsType}
use Rattle.jc_reading.proofs.Steps.{IsFound}
use Rattle.jc_reading.specs.Reading.{Read, Found, Stopped}
use Rattle.jc_parse_type.specs.TypeReading.{type_run}
use Rattle.jc_parse_type.proofs.TypeForms.{type_laws}
use Rattle.jc_parse_type.proofs.TypePlaces.{from_spelled}
use Rattle.jc_type_laws.specs.TypesDifferInTokens.{TypesDifferInTokens}

same_found : (m : Read TypeTree) (a b : TypeTree) (r : List Token) → IsFound a r m → IsFound b r m → b ≡ a
same_found m a b r f g = ap (value_of a) (sym g.1 ∙ f.1)
  where
    value_of : TypeTree → Read TypeTree → TypeTree
    value_of o (Found e r l) = e
    value_of o (Stopped l) = o

-- a type's tokens alone, in a greater height
front_of : (h k : ℕ) (ts : List Token) (ty : TypeTree) (r : List Token) → h ≤ k → SpellsType h ts ty r → (front : List Token) → ts ≡ front ++ r → SpellsType k front ty []
front_of h k ts ty r le p front e =
    let same : p.1 ≡ front = append_cancel_right p.1 front r (sym p.2 ∙ e) in
    (omega (arith, p.0, le), p.1, sym same ∙ sym (append-nil p.1), p.3)

one_type : (h k : ℕ) (ts : List Token) (a b : TypeTree) (r : List Token) → SpellsType h ts a r → SpellsType k ts b r → b ≡ a
one_type h k ts a b r p q =
    let n = suc (h + k) in
    let w = front_of h n ts a r (omega arith) p p.1 p.2 in
    let v = front_of k n ts b r (omega arith) q p.1 p.2 in
    same_found (type_run n p.1) a b [] ((type_laws (h + k)).exact p.1 a [] (from_spelled n p.1 a [] w) refl) ((type_laws (h + k)).exact p.1 b [] (from_spelled n p.1 b [] v) refl)

pub types_differ_in_tokens : TypesDifferInTokens
types_differ_in_tokens = record {
  one_type = one_type;
  one_type_at = λ tokens at ty other next p q. one_type 200 200 (drop at tokens) ty other (drop next tokens) p q;
}
