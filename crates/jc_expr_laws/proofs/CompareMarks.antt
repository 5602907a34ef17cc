-- Whether the tokens before a place end with a `>` that touches it, and what is told across such a place.
use Rattle.std.proofs.Common.{◌≡◌, ℕ, ◌<◌, ◌≤◌, Bool, false, List, [], ◌∷◌, ◌++◌, length, length-append, refl, sym, ap, ◌∙◌, subst, ⊎_elim, arith}
use Rattle.std.proofs.lemmas.Bool.{cond-true, cond-false, eq-eqb, ne_eqb, cases_lt}
use Rattle.std.specs.Prelude.{◌==◌}
use Rattle.jc_lexer.specs.declared.token.Token.{Token}
use Rattle.jc_grammar.specs.Told.{Told}
use Rattle.jc_reading.specs.Reading.{Takes}
use Rattle.jc_reading.proofs.Steps.{takes_length}
use Rattle.jc_expr_laws.specs.CompareReading.{is_touching, touched_before}

pub touched_here : (t : Token) (ts : List Token) (n : ℕ) → length ts ≡ n → touched_before (t ∷ ts) n ≡ is_touching t
touched_here t ts n e = cond-true (length ts == n) (is_touching t) (touched_before ts n) (eq-eqb (length ts) n e)

pub touched_later : (t : Token) (ts : List Token) (n : ℕ) → n < length ts → touched_before (t ∷ ts) n ≡ touched_before ts n
touched_later t ts n lt = cond-false (length ts == n) (is_touching t) (touched_before ts n) (ne_eqb (length ts) n (λ e. omega (arith, e, lt)))

-- tokens that are told one behind the other, where the first are some
pub cut_some : (b : Bool) (d : Told) (x e : List Told) (ts r : List Token) → Takes b ((d ∷ x) ++ e) ts r → (m : List Token) × Takes b (d ∷ x) ts m × Takes (touched_before ts (length m)) e m r
cut_some b d x e [] r h = absurd h
cut_some b d [] e (t ∷ ts) r h = (ts, (h.0, refl), subst (λ c. Takes c e ts r) (sym (touched_here t ts (length ts) refl)) h.1)
cut_some b d (f ∷ x) e (t ∷ ts) r h =
    let w = cut_some (is_touching t) f x e ts r h.1 in
    let n = takes_length (is_touching t) (f ∷ x) ts w.0 w.1 in
    (w.0, (h.0, w.1), subst (λ c. Takes c e w.0 r) (sym (touched_later t ts (length w.0) (omega (arith, n)))) w.2)

pub join_some : (b : Bool) (d : Told) (x e : List Told) (ts m r : List Token) → Takes b (d ∷ x) ts m → Takes (touched_before ts (length m)) e m r → Takes b ((d ∷ x) ++ e) ts r
join_some b d x e [] m r h k = absurd h
join_some b d [] e (t ∷ ts) m r h k =
    let j : Takes (is_touching t) e m r = subst (λ c. Takes c e m r) (touched_here t ts (length m) (ap length h.1)) k in
    (h.0, subst (λ (l : List Token). Takes (is_touching t) e l r) (sym h.1) j)
join_some b d (f ∷ x) e (t ∷ ts) m r h k =
    let n = takes_length (is_touching t) (f ∷ x) ts m h.1 in
    (h.0, join_some (is_touching t) f x e ts m r h.1 (subst (λ c. Takes c e m r) (touched_later t ts (length m) (omega (arith, n))) k))

pub cut_marked : (x e : List Told) (ts r : List Token) → (x ≡ [] → ⊥) → Takes false (x ++ e) ts r → (m : List Token) × Takes false x ts m × Takes (touched_before ts (length m)) e m r
cut_marked [] e ts r n h = absurd (n refl)
cut_marked (d ∷ x) e ts r n h = cut_some false d x e ts r h

pub join_marked : (x e : List Told) (ts m r : List Token) → (x ≡ [] → ⊥) → Takes false x ts m → Takes (touched_before ts (length m)) e m r → Takes false (x ++ e) ts r
join_marked [] e ts m r n h k = absurd (n refl)
join_marked (d ∷ x) e ts m r n h k = join_some false d x e ts m r h k

-- what follows doesn't matter
pub same_mark : (p q x y : List Token) → length q < length p → touched_before (p ++ x) (length (q ++ x)) ≡ touched_before (p ++ y) (length (q ++ y))
same_mark [] q x y lt = absurd (omega (arith, lt))
same_mark (t ∷ p) q x y lt =
    ⊎_elim
    (λ (l : length q < length p).
    touched_later t (p ++ x) (length (q ++ x)) (omega (arith, l, length-append p x, length-append q x)) ∙ same_mark p q x y l
    ∙ sym (touched_later t (p ++ y) (length (q ++ y)) (omega (arith, l, length-append p y, length-append q y))))
    (λ (l : length p ≤ length q).
    touched_here t (p ++ x) (length (q ++ x)) (omega (arith, l, lt, length-append p x, length-append q x))
    ∙ sym (touched_here t (p ++ y) (length (q ++ y)) (omega (arith, l, lt, length-append p y, length-append q y))))
    (cases_lt (length q) (length p))
