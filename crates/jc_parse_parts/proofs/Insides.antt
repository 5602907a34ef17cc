-- No more tokens are left behind what is read.
use Rattle.std.proofs.Common.{◌≡◌, ℕ, ◌≤◌, Option, Some, None, List, length, Result, Ok, Err, IfOk, IfSome, MatchOption, Bor, arith}
use Rattle.jc_lexer.specs.declared.token.Token.{Token}
use Rattle.jc_reading.specs.declared.reading.Found as answer
use Rattle.jc_reading.specs.declared.reading.Halt.{Halt}
use Rattle.jc_reading.specs.Giving.{Gives}
use Rattle.jc_reading.specs.Reading.{Found, Stopped, Run, found, of_kind, at_kind}
use Rattle.jc_reading.specs.Reach.{Near}
use Rattle.jc_reading.proofs.Nears.{near_left, near_picking}

pub shorter_by : {A : Type 0} (run : Run A) (ts : List Token) (result : Result (answer.Found A) Halt) → Near run → Gives result (run ts) → IfOk result (λ f. length f.rest.now ≤ length ts)
shorter_by run ts (Ok f) w g = near_left run ts f.rest.now f.value f.left w g
shorter_by run ts (Err h) w g = tt

pub shorter_rest : (code : ℕ) (ts : List Token) (result : Option (Bor (List Token))) → MatchOption result (of_kind code ts ≡ Stopped (length ts)) (λ r. of_kind code ts ≡ found tt r.now) → IfSome result (λ r. length r.now ≤ length ts)
shorter_rest code ts (Some r) g = near_left (of_kind code) ts r.now tt (length r.now) (near_picking _) g
shorter_rest code ts None g = tt

pub shorter_place : (code : ℕ) (ts : List Token) (result : Option (ℕ × Bor (List Token))) → MatchOption result (at_kind code ts ≡ Stopped (length ts)) (λ x. at_kind code ts ≡ found x.0 x.1.now) → IfSome result (λ x. length x.1.now ≤ length ts)
shorter_place code ts (Some x) g = near_left (at_kind code) ts x.1.now x.0 (length x.1.now) (near_picking _) g
shorter_place code ts None g = tt
