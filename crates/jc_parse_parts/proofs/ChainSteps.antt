-- Readers one behind the other, of which the parts are known.
use Rattle.std.proofs.Common.{◌≡◌, ℕ, List, length, Result, Ok, Err, IfOk, ◌≤◌, sym, ap, ◌∙◌, arith}
use Rattle.jc_lexer.specs.declared.token.Token.{Token}
use Rattle.jc_reading.specs.declared.reading.Found as answer
use Rattle.jc_reading.specs.declared.reading.Halt.{Halt}
use Rattle.jc_reading.specs.Reading.{Read, Found, Stopped, Run, ◌>>=◌, becoming, joined, as_new, in_turn}
use Rattle.jc_parse_expr.proofs.MeasuredSteps.{twice}

pub then_stops : {A B C : Type 0} (f : (A × B) → C) (m : Run A) (n : Run B) (ts : List Token) (l : ℕ) → m ts ≡ Stopped l → as_new f (in_turn m n) ts ≡ Stopped l
then_stops {A = A} f m n ts l e = ap (λ (v : Read A). becoming f (v >>= (λ a q. becoming (joined a) (n q)))) e

-- the last one, of which a value is made

pub last_made : {A B C : Type 0} (f : A → C) (g : A → B) (k : B → C) (same : (a : A) → f a ≡ k (g a)) (m : Read A) (b : B) (r : List Token) (l : ℕ) → becoming g m ≡ Found b r l → becoming f m ≡ Found (k b) r l
last_made f g k same m b r l e = sym (twice k g f m (λ a. sym (same a))) ∙ ap (becoming k) e

pub last_stops : {A B C : Type 0} (f : A → C) (g : A → B) (m : Read A) (l : ℕ) → becoming g m ≡ Stopped l → becoming f m ≡ Stopped l
last_stops f g (Found a r j) l e = cc
last_stops f g (Stopped j) l e = let z : j ≡ l = cc in ap (λ i. Stopped i) z

-- what is left, by what is left further on

pub no_longer : {A : Type 0} (result : Result (answer.Found A) Halt) (n k : ℕ) → n ≤ k → IfOk result (λ f. length f.rest.now ≤ n) → IfOk result (λ f. length f.rest.now ≤ k)
no_longer (Ok f) n k e g = omega (arith, e, g)
no_longer (Err h) n k e g = tt
