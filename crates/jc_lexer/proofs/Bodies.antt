-- The loop that reads a string literal, turn by turn.
use Rattle.std.proofs.Common.{◌≡◌, ℕ, zero, suc, ◌+◌, ◌-◌, ◌<◌, ◌≤◌, true, false, List, [], ◌∷◌, ◌++◌, length, drop, refl, sym, ap, ◌∙◌, arith, length-drop, append_assoc, subst}
use Rattle.std.specs.Prelude.{◌==◌}
use Rattle.std.proofs.lemmas.List.{append-nil}
use Rattle.jc_lexer.specs.declared.symbol.Symbol.{Symbol}
use Rattle.jc_lexer.specs.declared.literal.Flaw.{Flaw}
use Rattle.jc_lexer.specs.declared.literal.Element.{Element}
use Rattle.jc_lexer.specs.declared.literal.Element.TheVariants.{Unit as One, Pair, Flawed}
use Rattle.jc_lexer.specs.declared.literal.StringBody.{StringBody}
use Rattle.jc_lexer.specs.declared.literal.StringBody.TheVariants.{Closed, Broken}
use Rattle.jc_lexer.specs.Symbols.{code_at}
use Rattle.jc_lexer.specs.Literals.{element_at, string_from, string_after, string_body, with_units}

with_two : (a b : List ℕ) (m n : ℕ) (body : StringBody) → with_units a m (with_units b n body) ≡ with_units (a ++ b) (m + n) body
with_two a b m n (Closed units len) =
    ap (λ u. Closed u (m + (n + len))) (sym (append_assoc a b units)) ∙ ap (λ k. Closed ((a ++ b) ++ units) k) (let e : m + (n + len) ≡ m + n + len = omega arith in e)
with_two a b m n (Broken flaw) = refl

with_none : (body : StringBody) → with_units [] 0 body ≡ body
with_none (Closed units len) = ap (λ k. Closed units k) (let e : 0 + len ≡ len = omega arith in e)
with_none (Broken flaw) = refl

-- what a literal's body is as far as it is read, and then the body of the rest
pub record IsBodyTo (text : List Symbol) (units : List ℕ) (len : ℕ) (rest : List Symbol) : Type 0 where
  pub bound : ℕ
  pub enough : length rest < bound
  pub same : string_body text ≡ with_units units len (string_from bound rest)

body_turn : (n : ℕ) (rest : List Symbol) (e : Element) → length rest < n → (code_at rest 0 == 34) ≡ false → e ≡ element_at rest →
    (k : ℕ) × (n ≡ suc k) × (string_from n rest ≡ string_after (λ len. string_from k (drop len rest)) e)
unfolding string_from
body_turn zero rest e h q s = absurd (omega arith)
body_turn (suc k) rest e h q s = (k, refl, rw q (ap (string_after (λ len. string_from k (drop len rest))) (sym s)))

module _ (text : List Symbol) (units : List ℕ) (len : ℕ) (rest behind : List Symbol) (h : IsBodyTo text units len rest) (q : (code_at rest 0 == 34) ≡ false) where
  on : (e : Element) (more : List ℕ) (taken : ℕ) → e ≡ element_at rest → ((f : ℕ → StringBody) → string_after f e ≡ with_units more taken (f taken)) →
      0 < taken → taken ≤ length rest → behind ≡ drop taken rest → IsBodyTo text (units ++ more) (len + taken) behind
  on e more taken s turn some fits cut =
      let t = body_turn h.bound rest e h.enough q s in
      let shorter : length (drop taken rest) ≡ length rest - taken = length-drop taken rest in
      record {
        bound = t.0;
        enough = omega (arith, t.1, h.enough, shorter, ap length cut);
        same = h.same ∙ ap (with_units units len) (t.2 ∙ turn (λ n. string_from t.0 (drop n rest))) ∙ with_two units more len taken (string_from t.0 (drop taken rest))
            ∙ ap (λ l. with_units (units ++ more) (len + taken) (string_from t.0 l)) (sym cut);
      }

  pub unit_on : (unit taken : ℕ) (new : List ℕ) → One unit taken ≡ element_at rest → 0 < taken → taken ≤ length rest → behind ≡ drop taken rest →
      new ≡ units ++ (unit ∷ []) → IsBodyTo text new (len + taken) behind
  unit_on unit taken new s some fits cut grown =
      let P = λ (l : List ℕ). IsBodyTo text l (len + taken) behind in
      subst P (sym grown) (on (One unit taken) (unit ∷ []) taken s (λ f. refl) some fits cut)

  pub pair_on : (high low : ℕ) (some new : List ℕ) → Pair high low ≡ element_at rest → 1 ≤ length rest → behind ≡ drop 1 rest →
      some ≡ units ++ (high ∷ []) → new ≡ some ++ (low ∷ []) → IsBodyTo text new (len + 1) behind
  pair_on high low some new s fits cut first second =
      let P = λ (l : List ℕ). IsBodyTo text l (len + 1) behind in
      let e : new ≡ units ++ (high ∷ low ∷ []) = second ∙ ap (λ l. l ++ (low ∷ [])) first ∙ append_assoc units (high ∷ []) (low ∷ []) in
      subst P (sym e) (on (Pair high low) (high ∷ low ∷ []) 1 s (λ f. refl) (omega arith) fits cut)

  pub body_breaks : (flaw : Flaw) → Flawed flaw ≡ element_at rest → Broken flaw ≡ string_body text
  body_breaks flaw s =
      let t = body_turn h.bound rest (Flawed flaw) h.enough q s in
      sym (h.same ∙ ap (with_units units len) t.2)

body_closing : (n : ℕ) (rest : List Symbol) → length rest < n → (code_at rest 0 == 34) ≡ true → string_from n rest ≡ Closed [] 1
unfolding string_from
body_closing zero rest h q = absurd (omega arith)
body_closing (suc k) rest h q = rw q refl

pub body_closes : (text : List Symbol) (units : List ℕ) (len : ℕ) (rest : List Symbol) → IsBodyTo text units len rest → (code_at rest 0 == 34) ≡ true →
    Closed units (len + 1) ≡ string_body text
body_closes text units len rest h q =
    sym (h.same ∙ ap (with_units units len) (body_closing h.bound rest h.enough q) ∙ ap (λ u. Closed u (len + 1)) (append-nil units))
