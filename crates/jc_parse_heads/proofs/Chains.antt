-- How what is read of several parts goes together.
use Rattle.std.proofs.Common.{◌≡◌, ℕ, List, refl, sym, ap, ◌∙◌}
use Rattle.jc_lexer.specs.declared.token.Key.{Key}
use Rattle.jc_lexer.specs.declared.token.Sign.TheVariants as sign_of
use Rattle.jc_lexer.specs.declared.token.Token.{Token}
use Rattle.jc_reading.specs.Kinds.{key_code, sign_code}
use Rattle.jc_reading.specs.Reading.{Read, Found, Stopped, Run, becoming, as_new, in_turn, of_kind, at_kind, before_it}
use Rattle.jc_parse_heads.specs.HeadCode.{opened_run}
use Rattle.jc_parse_heads.proofs.Joinings.{first_made, grouped, second_made, split_behind, split_here, Splits}
use Rattle.jc_parse_expr.proofs.PairSteps.{remade}

-- both are made of others
pub both_made : {A B D G E : Type 0} (make : (A × B) → E) (fa : A → D) (fb : B → G) (node : (D × G) → E) (same : (a : A) (b : B) → make (a, b) ≡ node (fa a, fb b)) (m : Run A) (n : Run B) (ts : List Token) → as_new make (in_turn m n) ts ≡ as_new node (in_turn (as_new fa m) (as_new fb n)) ts
both_made {A = A} {B = B} {D = D} {E = E} make fa fb node same m n ts =
    let middle : (D × B) → E = λ p. node (p.0, fb p.1) in
    first_made make fa middle n same m ts ∙ second_made middle fb node (λ a b. refl) (as_new fa m) n ts

-- what stands behind a keyword and a left parenthesis
pub behind_opened : {A E : Type 0} (key : Key) (make : (ℕ × (Unit {0} × A)) → E) (node : (ℕ × A) → E) (same : (d : ℕ × Unit {0}) (a : A) → make (d.0, (d.1, a)) ≡ node (d.0, a)) (rest : Run A) (ts : List Token) → as_new make (in_turn (at_kind (key_code key)) (in_turn (of_kind (sign_code sign_of.LeftParen)) rest)) ts ≡ as_new node (in_turn (opened_run key) rest) ts
unfolding opened_run
behind_opened key make node same rest ts =
    grouped _ _ rest _ make before_it node (split_behind (at_kind (key_code key)) _ _ rest _ (split_here (of_kind (sign_code sign_of.LeftParen)) rest)) same ts

pub same_self : {A : Type 0} (m : Read A) → becoming (λ a. a) m ≡ m
same_self (Found a r l) = refl
same_self (Stopped l) = refl

-- two parts and what ends them
pub flat : {A B C E : Type 0} (make : ((A × B) × C) → E) (m : Run A) (n : Run B) (end : Run C) (ts : List Token) → as_new make (in_turn (in_turn m n) end) ts ≡ as_new (λ (p : A × (B × C)). make ((p.0, p.1.0), p.1.1)) (in_turn m (in_turn n end)) ts
unfolding Splits
flat {A = A} {B = B} {C = C} make m n end ts =
    sym (ap (becoming (λ (p : A × (B × C)). make ((p.0, p.1.0), p.1.1))) (split_behind m _ n end _ (split_here n end) ts)
    ∙ remade (λ (p : (A × B) × C). (p.0.0, (p.0.1, p.1))) (λ (p : A × (B × C)). make ((p.0, p.1.0), p.1.1)) make (in_turn (in_turn m n) end ts) (λ p. refl))

-- two parts and what ends them, which is read with the second one
pub ended_step : {A B C G E : Type 0} (make : ((A × B) × C) → E) (fb : (B × C) → G) (node : (A × G) → E) (same : (a : A) (b : B × C) → make ((a, b.0), b.1) ≡ node (a, fb b)) (m : Run A) (n : Run B) (end : Run C) (ts : List Token) → as_new make (in_turn (in_turn m n) end) ts ≡ as_new node (in_turn m (as_new fb (in_turn n end))) ts
ended_step {A = A} {B = B} {C = C} make fb node same m n end ts =
    flat make m n end ts ∙ second_made (λ (p : A × (B × C)). make ((p.0, p.1.0), p.1.1)) fb node same m (in_turn n end) ts
