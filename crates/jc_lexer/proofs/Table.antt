-- What holds of each sign of the table.
use Rattle.std.proofs.Common.{◌≡◌, ℕ, zero, suc, ◌<◌, ◌≤◌, Bool, true, false, List, [], ◌∷◌, Some, None, refl, sym, ap, ◌∙◌, arith, cond, subst}
use Rattle.std.specs.Prelude.{◌&&◌, ◌||◌, ◌==◌, not, nat_lt, nat_le, take, drop, Option, IfSome}
use Rattle.std.specs.List.{list_all}
use Rattle.std.proofs.lemmas.Bool.Decides.{nat_tests}
use Rattle.std.proofs.lemmas.Bool.{and_parts as both}
use Rattle.jc_lexer.specs.declared.signs.Spelling.{Spelling}
use Rattle.jc_lexer.specs.declared.signs.TheConstants.{SIGNS}
use Rattle.jc_lexer.specs.declared.symbol.Symbol.{Symbol}
use Rattle.jc_lexer.specs.Symbols.{code_at}
use Rattle.jc_lexer.specs.Signs.{begins, sign_in, EachBegins, IsLongest}

-- what passes for each sign of a list passes for the one that is found there
found_passes : (p : Spelling → Bool) (signs : List Spelling) (text : List Symbol) (s : Spelling) → list_all p signs ≡ true → Some s ≡ sign_in signs text → p s ≡ true
found_passes p [] text s h e = cc
found_passes p (d ∷ signs) text s h e =
    elim (begins d text) as (λ b. Some s ≡ cond b (Some d) (sign_in signs text) → p s ≡ true) [
      | true ↦ λ (i : Some s ≡ Some d). first i
      | false ↦ λ (i : Some s ≡ sign_in signs text). found_passes p signs text s rest i
    ] e
  where
    both : (a b : Bool) → (a && b) ≡ true → (a ≡ true) × (b ≡ true)
    both true b h = (refl, h)
    both false b h = cc

    first : Some s ≡ Some d → p s ≡ true
    first i = let e : s ≡ d = cc in ap p e ∙ (both (p d) (list_all p signs) h).0

    rest : list_all p signs ≡ true
    rest = (both (p d) (list_all p signs) h).1

pub sign_some : (text : List Symbol) (r : Option Spelling) → r ≡ sign_in SIGNS text → IfSome r (λ s. 0 < s.len)
sign_some text None e = tt
sign_some text (Some s) e =
    let h : nat_lt 0 s.len ≡ true = found_passes (λ d. nat_lt 0 d.len) SIGNS text s refl e in
    let l : 0 < s.len = grind (arith, nat_tests) in l

-- a sign isn't longer than the one before it, if both have one first character
abbrev no_longer : Spelling → Spelling → Bool
no_longer s d = not (d.first == s.first) || nat_le d.len s.len

-- no sign of a list is longer than those before it with its first character
abbrev descends : List Spelling → Bool
descends [] = true
descends (s ∷ signs) = list_all (no_longer s) signs && descends signs

-- a sign that a text begins with has the text's first character
first_is : (s : Spelling) (text : List Symbol) → begins s text ≡ true → code_at text 0 ≡ s.first
first_is s text h =
    let two : ((code_at text 0 == s.first) && (nat_lt s.len 2 || (code_at text 1 == s.second))) ≡ true = (both ((code_at text 0 == s.first) && (nat_lt s.len 2 || (code_at text 1 == s.second))) (nat_lt s.len 3 || (code_at text 2 == s.third)) h).0 in
    let one : (code_at text 0 == s.first) ≡ true = (both (code_at text 0 == s.first) (nat_lt s.len 2 || (code_at text 1 == s.second)) two).0 in
    grind (arith, nat_tests)

no_longer_than : (s d : Spelling) (text : List Symbol) → begins s text ≡ true → begins d text ≡ true → no_longer s d ≡ true → d.len ≤ s.len
no_longer_than s d text b e h =
    let same : (d.first == s.first) ≡ true = let i = first_is s text b in let j = first_is d text e in grind (arith, nat_tests) in
    let l : nat_le d.len s.len ≡ true = ap (λ (t : Bool). not t || nat_le d.len s.len) (sym same) ∙ h in
    grind (arith, nat_tests)

shorter : (s : Spelling) (signs : List Spelling) (text : List Symbol) → begins s text ≡ true → list_all (no_longer s) signs ≡ true → EachBegins signs text (λ d. d.len ≤ s.len)
shorter s [] text b h = tt
shorter s (d ∷ signs) text b h =
    let p = both (no_longer s d) (list_all (no_longer s) signs) h in
    (λ (e : begins d text ≡ true). no_longer_than s d text b e p.0, shorter s signs text b p.1)

none_begins : (signs : List Spelling) (text : List Symbol) → None ≡ sign_in signs text → EachBegins signs text (λ s. ⊥)
none_begins [] text e = tt
none_begins (d ∷ signs) text e = from (begins d text) refl e (none_begins signs text)
  where
    from : (b : Bool) → begins d text ≡ b → None ≡ cond b (Some d) (sign_in signs text) → (None ≡ sign_in signs text → EachBegins signs text (λ s. ⊥)) →
        (begins d text ≡ true → ⊥) × EachBegins signs text (λ s. ⊥)
    from true b i rest = cc
    from false b i rest = (λ (j : begins d text ≡ true). let k : false ≡ true = sym b ∙ j in cc, rest i)

found_longest : (signs : List Spelling) (text : List Symbol) (s : Spelling) → descends signs ≡ true → Some s ≡ sign_in signs text →
    (begins s text ≡ true) × EachBegins signs text (λ d. d.len ≤ s.len)
found_longest [] text s h e = cc
found_longest (d ∷ signs) text s h e = from (begins d text) refl e (found_longest signs text s)
  where
    parts : (list_all (no_longer d) signs ≡ true) × (descends signs ≡ true)
    parts = both (list_all (no_longer d) signs) (descends signs) h

    head : Some s ≡ Some d → begins d text ≡ true → (begins s text ≡ true) × ((begins d text ≡ true → d.len ≤ s.len) × EachBegins signs text (λ x. x.len ≤ s.len))
    head i b =
        let e : s ≡ d = cc in
        let P : Spelling → Type 0 = λ x. (begins x text ≡ true) × ((begins d text ≡ true → d.len ≤ x.len) × EachBegins signs text (λ y. y.len ≤ x.len)) in
        subst P (sym e) (b, (λ _. omega arith, shorter d signs text b parts.0))

    from : (b : Bool) → begins d text ≡ b → Some s ≡ cond b (Some d) (sign_in signs text) →
        (descends signs ≡ true → Some s ≡ sign_in signs text → (begins s text ≡ true) × EachBegins signs text (λ x. x.len ≤ s.len)) →
        (begins s text ≡ true) × ((begins d text ≡ true → d.len ≤ s.len) × EachBegins signs text (λ x. x.len ≤ s.len))
    from true b i rest = head i b
    from false b i rest =
        let r = rest parts.1 i in (r.0, (λ (j : begins d text ≡ true). let k : false ≡ true = sym b ∙ j in cc, r.1))

pub sign_longest : (text : List Symbol) (r : Option Spelling) → r ≡ sign_in SIGNS text → IsLongest text r
sign_longest text None e = none_begins SIGNS text e
sign_longest text (Some s) e = found_longest SIGNS text s refl e

-- signs with another first character are passed over
pub sign_in_behind : (n : ℕ) (signs : List Spelling) (text : List Symbol) (first : ℕ) → code_at text 0 ≡ first → list_all (λ (d : Spelling). not (d.first == first)) (take n signs) ≡ true →
    sign_in (drop n signs) text ≡ sign_in signs text
sign_in_behind zero signs text first c h = refl
sign_in_behind (suc n) [] text first c h = refl
sign_in_behind (suc n) (d ∷ signs) text first c h = sign_in_behind n signs text first c p.1 ∙ sym (ap (λ (b : Bool). cond b (Some d) (sign_in signs text)) (passed (begins d text) refl))
  where
    p : (not (d.first == first) ≡ true) × (list_all (λ (d : Spelling). not (d.first == first)) (take n signs) ≡ true)
    p = both (not (d.first == first)) (list_all (λ (d : Spelling). not (d.first == first)) (take n signs)) h

    passed : (b : Bool) → begins d text ≡ b → b ≡ false
    passed true e =
        let same : (d.first == first) ≡ true = let i = first_is d text e in grind (arith, nat_tests) in
        let other : not (d.first == first) ≡ true = p.0 in
        let k : false ≡ true = ap not (sym same) ∙ other in
        cc
    passed false e = refl
