-- Values that are found whatever follows.
use Rattle.std.proofs.Common.{◌≡◌, ℕ, Bool, true, false, List, [], Some, sym, ap, ◌∙◌, subst, ⊎_elim}
use Rattle.std.proofs.lemmas.Bool.{false≢true, cond-true, cond-false}
use Rattle.jc_lexer.specs.declared.token.Token.{Token}
use Rattle.jc_grammar.specs.Told.{Told}
use Rattle.jc_reading.specs.Kinds.{front_code, one_of}
use Rattle.jc_reading.specs.Reading.{Read, becoming, joined, perhaps_from, as_new, Either, This, That, Takes}
use Rattle.jc_reading.proofs.Steps.{IsFound, found_bind, found_becoming}
use Rattle.jc_reading.proofs.Forms.{Lawful, Stands}
use Rattle.jc_reading.proofs.Pairs.{cut}
use Rattle.jc_reading.proofs.Signs.{none_common, apart_sets, within_sets}
use Rattle.jc_reading.proofs.Coded.{Coded, formed, in_order, optional, one_or, Apart, made, Makes}

-- where the second part is found whatever follows
pub closed_order : (A B : Type 0) (ca : Coded A) (cb : Coded B) → Lawful A (formed ca) → Lawful B (formed cb) → cb.empties ≡ false → none_common cb.starts ca.goes ≡ true → (ts : List Token) (p : A × B) (r : List Token) → Stands (formed (in_order ca cb)) ts p r → ((m : List Token) → Stands (formed cb) m p.1 r → IsFound p.1 r (cb.run m)) → IsFound p r ((in_order ca cb).run ts)
closed_order A B ca cb la lb solid e ts p r s f =
    let w = cut A B (formed ca) (formed cb) la lb (λ us t. apart_sets cb.starts ca.goes e (front_code us) t) ts p r s in
    let begun : one_of cb.starts w.0 ≡ true = ⊎_elim (λ o. o.0) (λ o. absurd (false≢true (sym solid ∙ o.1))) (lb.opens w.0 p.1 r w.2) in
    found_bind p.0 w.0 p r (ca.run ts) (λ a q. becoming (joined a) (cb.run q)) (la.exact ts p.0 w.0 w.1 (apart_sets cb.starts ca.goes e (front_code w.0) begun)) (found_becoming (joined p.0) p.1 r (cb.run w.0) (f w.0 w.2))

pub closed_made : (A B : Type 0) (ca : Coded A) (make : A → B) (tell : B → List Told → List Told) (fits : B → Bool) → Makes A B ca make tell fits → (ts : List Token) (b : B) (r : List Token) → Stands (formed (made A B ca make tell fits)) ts b r → ((a : A) → make a ≡ b → Stands (formed ca) ts a r → IsFound a r (ca.run ts)) → IsFound b r (as_new make ca.run ts)
closed_made A B ca make tell fits h ts b r s f =
    let w = h.back b s.1 in
    let t : Stands (formed ca) ts w.0 r = (subst (λ (l : List Told). Takes false l ts r) (ap (λ (c : B). tell c []) (sym w.1) ∙ h.told w.0 [] w.2) s.0, w.2) in
    subst (λ (c : B). IsFound c r (as_new make ca.run ts)) w.1 (found_becoming make w.0 r (ca.run ts) (f w.0 w.1 t))

pub closed_optional : (A : Type 0) (ca : Coded A) (ts : List Token) (a : A) (r : List Token) → IsFound a r (ca.run ts) → IsFound (Some a) r ((optional ca).run ts)
closed_optional A ca ts a r f = (f.0, ap (perhaps_from ts) f.1)

pub closed_this : (A B : Type 0) (codes : List ℕ) (ca : Coded A) (cb : Coded B) → Lawful A (formed ca) → Apart A B codes ca cb → (ts : List Token) (a : A) (r : List Token) → Stands (formed ca) ts a r → IsFound a r (ca.run ts) → IsFound (This a) r ((one_or codes ca cb).run ts)
closed_this A B codes ca cb la d ts a r s f =
    let begun : one_of ca.starts ts ≡ true = ⊎_elim (λ o. o.0) (λ o. absurd (false≢true (sym d.solid ∙ o.1))) (la.opens ts a r s) in
    subst (λ (m : Read (Either A B)). IsFound (This a) r m) (sym (cond-true (one_of codes ts) (becoming This (ca.run ts)) (becoming That (cb.run ts)) (within_sets ca.starts codes d.this (front_code ts) begun))) (found_becoming This a r (ca.run ts) f)

pub closed_that : (A B : Type 0) (codes : List ℕ) (ca : Coded A) (cb : Coded B) → Lawful B (formed cb) → Apart A B codes ca cb → (ts : List Token) (b : B) (r : List Token) → Stands (formed cb) ts b r → IsFound b r (cb.run ts) → IsFound (That b) r ((one_or codes ca cb).run ts)
closed_that A B codes ca cb lb d ts b r s f =
    let begun : one_of cb.starts ts ≡ true = ⊎_elim (λ o. o.0) (λ o. absurd (false≢true (sym d.solid' ∙ o.1))) (lb.opens ts b r s) in
    subst (λ (m : Read (Either A B)). IsFound (That b) r m) (sym (cond-false (one_of codes ts) (becoming This (ca.run ts)) (becoming That (cb.run ts)) (apart_sets cb.starts codes d.that (front_code ts) begun))) (found_becoming That b r (cb.run ts) f)
