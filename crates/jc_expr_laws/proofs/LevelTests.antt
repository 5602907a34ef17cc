-- Tests of which operator stands at a place: the kinds of its tokens, and a token behind them that begins an operand.
use Rattle.std.proofs.Common.{◌≡◌, ℕ, Bool, true, false, cond, List, [], ◌∷◌, ◌++◌, refl, sym, ◌∙◌, subst, ⊎_elim}
use Rattle.std.proofs.lemmas.Bool.{false≢true, eqb-true, eq-eqb, or_left, or_right, or_cases, and_parts, cond-true}
use Rattle.std.specs.Prelude.{◌==◌, ◌&&◌, ◌||◌, not}
use Rattle.jc_rules.proofs.Truths.{not_false}
use Rattle.jc_lexer.specs.declared.token.Token.{Token}
use Rattle.jc_reading.specs.Kinds.{kind_code, is_in, front_code, one_of}
use Rattle.jc_reading.proofs.Signs.{none_common, apart_sets, all_in, within_sets}
use Rattle.jc_part_laws.proofs.ExprForms.{expr_codes}
use Rattle.jc_reading.proofs.Coded.{in_first as in_either, in_second as in_other}

-- the kinds of an operator's tokens stand there, and behind them begins an operand
abbrev pub matches : List ℕ → List Token → Bool
matches [] ts = one_of expr_codes ts
matches (c ∷ codes) [] = false
matches (c ∷ codes) (t ∷ ts) = (kind_code t.kind == c) && matches codes ts

-- one of the operators stands there
abbrev pub acts : List (List ℕ) → List Token → Bool
acts [] ts = false
acts (op ∷ ops) ts = matches op ts || acts ops ts

-- the two don't stand at the same place
abbrev pub clash : List ℕ → List ℕ → Bool
clash [] [] = false
clash [] (d ∷ ds) = not (is_in expr_codes d)
clash (c ∷ cs) [] = not (is_in expr_codes c)
clash (c ∷ cs) (d ∷ ds) = cond (c == d) (clash cs ds) true

abbrev pub clashes_with : List ℕ → List (List ℕ) → Bool
clashes_with op [] = true
clashes_with op (other ∷ others) = clash op other && clashes_with op others

abbrev pub clashes : List (List ℕ) → List (List ℕ) → Bool
clashes [] others = true
clashes (op ∷ ops) others = clashes_with op others && clashes ops others

not_so : (b : Bool) → (b ≡ true → ⊥) → b ≡ false
not_so true f = absurd (f refl)
not_so false f = refl

-- a token that begins no operand
no_operand : (c : ℕ) (codes : List ℕ) (ts : List Token) → not (is_in expr_codes c) ≡ true → matches (c ∷ codes) ts ≡ true → one_of expr_codes ts ≡ true → ⊥
no_operand c codes [] n m e = false≢true m
no_operand c codes (t ∷ ts) n m e =
    let k = eqb-true (kind_code t.kind) c (and_parts (kind_code t.kind == c) (matches codes ts) m).0 in
    false≢true (sym (not_false (is_in expr_codes c) n) ∙ subst (λ (j : ℕ). is_in expr_codes j ≡ true) k e)

clash_apart : (cs ds : List ℕ) (ts : List Token) → clash cs ds ≡ true → matches cs ts ≡ true → matches ds ts ≡ true → ⊥
clash_apart [] [] ts c m n = false≢true c
clash_apart [] (d ∷ ds) ts c m n = no_operand d ds ts c n m
clash_apart (c ∷ cs) [] ts e m n = no_operand c cs ts e m n
clash_apart (c ∷ cs) (d ∷ ds) [] e m n = false≢true m
clash_apart (c ∷ cs) (d ∷ ds) (t ∷ ts) e m n =
    let p = and_parts (kind_code t.kind == c) (matches cs ts) m in
    let q = and_parts (kind_code t.kind == d) (matches ds ts) n in
    let same : c ≡ d = sym (eqb-true (kind_code t.kind) c p.0) ∙ eqb-true (kind_code t.kind) d q.0 in
    clash_apart cs ds ts (sym (cond-true (c == d) (clash cs ds) true (eq-eqb c d same)) ∙ e) p.1 q.1

clash_all : (op : List ℕ) (others : List (List ℕ)) (ts : List Token) → clashes_with op others ≡ true → matches op ts ≡ true → acts others ts ≡ true → ⊥
clash_all op [] ts c m n = false≢true n
clash_all op (other ∷ others) ts c m n =
    let p = and_parts (clash op other) (clashes_with op others) c in
    ⊎_elim (λ (k : matches other ts ≡ true). clash_apart op other ts p.0 m k) (λ (k : acts others ts ≡ true). clash_all op others ts p.1 m k) (or_cases (matches other ts) (acts others ts) n)

both_act : (ops others : List (List ℕ)) (ts : List Token) → clashes ops others ≡ true → acts ops ts ≡ true → acts others ts ≡ true → ⊥
both_act [] others ts c m n = false≢true m
both_act (op ∷ ops) others ts c m n =
    let p = and_parts (clashes_with op others) (clashes ops others) c in
    ⊎_elim (λ (k : matches op ts ≡ true). clash_all op others ts p.0 k n) (λ (k : acts ops ts ≡ true). both_act ops others ts p.1 k n) (or_cases (matches op ts) (acts ops ts) m)

-- operators of which no two may stand at one place
pub acts_apart : (ops others : List (List ℕ)) (ts : List Token) → clashes ops others ≡ true → acts ops ts ≡ true → acts others ts ≡ false
acts_apart ops others ts c m = not_so (acts others ts) (λ n. both_act ops others ts c m n)

-- the first kinds of the operators
abbrev pub leads : List (List ℕ) → List ℕ
leads [] = []
leads ([] ∷ ops) = expr_codes ++ leads ops
leads ((c ∷ codes) ∷ ops) = c ∷ leads ops

front_of : (c : ℕ) (codes : List ℕ) (ts : List Token) → matches (c ∷ codes) ts ≡ true → (c == front_code ts) ≡ true
front_of c codes [] m = absurd (false≢true m)
front_of c codes (t ∷ ts) m = eq-eqb c (kind_code t.kind) (sym (eqb-true (kind_code t.kind) c (and_parts (kind_code t.kind == c) (matches codes ts) m).0))

pub acts_lead : (ops : List (List ℕ)) (ts : List Token) → acts ops ts ≡ true → one_of (leads ops) ts ≡ true
acts_lead [] ts m = absurd (false≢true m)
acts_lead ([] ∷ ops) ts m =
    ⊎_elim (λ (k : one_of expr_codes ts ≡ true). in_either expr_codes (leads ops) (front_code ts) k) (λ (k : acts ops ts ≡ true). in_other expr_codes (leads ops) (front_code ts) (acts_lead ops ts k)) (or_cases (one_of expr_codes ts) (acts ops ts) m)
acts_lead ((c ∷ codes) ∷ ops) ts m =
    ⊎_elim (λ (k : matches (c ∷ codes) ts ≡ true). or_left (c == front_code ts) (is_in (leads ops) (front_code ts)) (front_of c codes ts k))
    (λ (k : acts ops ts ≡ true). or_right (c == front_code ts) (is_in (leads ops) (front_code ts)) (acts_lead ops ts k)) (or_cases (matches (c ∷ codes) ts) (acts ops ts) m)

-- an operator none of whose first kinds is in a set
pub acts_out : (ops : List (List ℕ)) (codes : List ℕ) (ts : List Token) → none_common (leads ops) codes ≡ true → acts ops ts ≡ true → one_of codes ts ≡ false
acts_out ops codes ts e m = apart_sets (leads ops) codes e (front_code ts) (acts_lead ops ts m)

pub acts_in : (ops : List (List ℕ)) (codes : List ℕ) (ts : List Token) → all_in (leads ops) codes ≡ true → acts ops ts ≡ true → one_of codes ts ≡ true
acts_in ops codes ts e m = within_sets (leads ops) codes e (front_code ts) (acts_lead ops ts m)

-- further operators
pub acts_first : (ops others : List (List ℕ)) (ts : List Token) → acts ops ts ≡ true → acts (ops ++ others) ts ≡ true
acts_first [] others ts m = absurd (false≢true m)
acts_first (op ∷ ops) others ts m = ⊎_elim (λ (k : matches op ts ≡ true). or_left (matches op ts) (acts (ops ++ others) ts) k) (λ (k : acts ops ts ≡ true). or_right (matches op ts) (acts (ops ++ others) ts) (acts_first ops others ts k)) (or_cases (matches op ts) (acts ops ts) m)

pub acts_second : (ops others : List (List ℕ)) (ts : List Token) → acts others ts ≡ true → acts (ops ++ others) ts ≡ true
acts_second [] others ts m = m
acts_second (op ∷ ops) others ts m = or_right (matches op ts) (acts (ops ++ others) ts) (acts_second ops others ts m)
