-- An operator and an operand behind it, tested by the operator's tokens and one that begins an operand.
use Rattle.std.proofs.Common.{◌≡◌, ℕ, Bool, true, false, List, refl, sym, ◌∙◌, ⊎_elim}
use Rattle.std.proofs.lemmas.Bool.{false≢true, cases_Bool}
use Rattle.std.specs.Prelude.{◌&&◌, ◌||◌}
use Rattle.jc_lexer.specs.declared.token.Token.{Token}
use Rattle.jc_reading.specs.Kinds.{one_of}
use Rattle.jc_reading.specs.Reading.{Read, Found, Stopped, noting, ◌>>=◌, becoming, joined}
use Rattle.jc_reading.proofs.Steps.{Good, Refuses}
use Rattle.jc_reading.proofs.Forms.{Form, Lawful, Stands}
use Rattle.jc_reading.proofs.Pairs.{pair, pair_laws, cut}
use Rattle.jc_reading.proofs.Retests.{retested, retested_laws}
use Rattle.jc_part_laws.proofs.ExprForms.{expr_codes}
use Rattle.jc_expr_laws.proofs.LevelTests.{acts}

module _ (A B : Type 0) (ops : List (List ℕ)) (fo : Form A) (fb : Form B) where
  abbrev Behind : Form (A × B)
  Behind = pair A B fo fb

  abbrev pub acting : Form (A × B)
  acting = retested (A × B) Behind (acts ops) fb.goes_on

  pub record Acting : Type 0 where
    pub solid : fo.empties ≡ false
    pub solid' : fb.empties ≡ false
    pub operand : (ts : List Token) → fb.starts ts ≡ true → one_of expr_codes ts ≡ true
    pub meet : (ts : List Token) → fb.starts ts ≡ true → fo.goes_on ts ≡ false
    -- where an operator stands before what begins an operand, the test says so
    pub seen : (ts : List Token) (a : A) (m : List Token) → Stands fo ts a m → one_of expr_codes m ≡ true → acts ops ts ≡ true

  module _ (la : Lawful A fo) (lb : Lawful B fb) (d : Acting) where
    behind_laws : Lawful (A × B) Behind
    behind_laws = pair_laws A B fo fb la lb d.meet

    begun : (m : List Token) (b : B) (r : List Token) → Stands fb m b r → fb.starts m ≡ true
    begun m b r s = ⊎_elim (λ o. o.0) (λ o. absurd (false≢true (sym d.solid' ∙ o.1))) (lb.opens m b r s)

    opens_acting : (ts : List Token) (p : A × B) (r : List Token) → Stands Behind ts p r → acts ops ts ≡ true
    opens_acting ts p r s =
        let w = cut A B fo fb la lb d.meet ts p r s in
        d.seen ts p.0 w.0 w.1 (d.operand w.0 (begun w.0 p.1 r w.2))

    refuses_next : (m : Read B) (a : A) (ts us : List Token) (l : ℕ) (e : Bool) → e ≡ false → Refuses e us m → Refuses false ts (noting l (becoming (joined a) m))
    refuses_next (Found b q k) a ts us l e q' h = absurd (false≢true (sym q' ∙ h.0))
    refuses_next (Stopped k) a ts us l e q' h = refl

    no_start : (q : List Token) → one_of expr_codes q ≡ false → fb.starts q ≡ false
    no_start q e = ⊎_elim (λ (t : fb.starts q ≡ true). absurd (false≢true (sym e ∙ d.operand q t))) (λ (f : fb.starts q ≡ false). f) (cases_Bool (fb.starts q))

    refuses_on : (ts : List Token) (m : Read A) → Good (Stands fo ts) m → acts ops ts ≡ false → Refuses false ts (m >>= (λ a q. becoming (joined a) (fb.run q)))
    refuses_on ts (Found a q l) g e =
        let none : one_of expr_codes q ≡ false =
        ⊎_elim (λ (t : one_of expr_codes q ≡ true). absurd (false≢true (sym e ∙ d.seen ts a q g t))) (λ (f : one_of expr_codes q ≡ false). f) (cases_Bool (one_of expr_codes q)) in
        refuses_next (fb.run q) a ts q l fb.empties d.solid' (lb.refuses q (no_start q none))
    refuses_on ts (Stopped l) g e = refl

    as_it_is : (b : Bool) (ts : List Token) (m : Read (A × B)) → b ≡ false → Refuses false ts m → Refuses b ts m
    as_it_is true ts m e h = absurd (false≢true (sym e))
    as_it_is false ts m e h = h

    alone : (b e c : Bool) → e ≡ false → (b || (e && c)) ≡ true → b ≡ true
    alone true e c q h = refl
    alone false true c q h = absurd (false≢true (sym q))
    alone false false c q h = h

    neither : (a b : Bool) → a ≡ false → (a && b) ≡ false
    neither true b e = absurd (false≢true (sym e))
    neither false b e = refl

    pub acting_laws : Lawful (A × B) acting
    acting_laws = retested_laws (A × B) Behind (acts ops) fb.goes_on behind_laws
        (record {
          opens = λ ts p r s lt. opens_acting ts p r s;
          refuses = λ ts e. as_it_is (fo.empties && fb.empties) ts (Behind.run ts) (neither fo.empties fb.empties d.solid) (refuses_on ts (fo.run ts) (la.sound ts) e);
          goes_too = λ ts e. alone (fb.goes_on ts) fb.empties (fo.goes_on ts) d.solid' e;
        })
