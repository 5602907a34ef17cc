-- Runs, one step after the other.
use Rattle.std.proofs.Common.{◌≡◌, ◌≤◌, ◌+◌, ◌∙◌, ◌++◌, ◌∷◌, [], ℕ, zero, suc, List, length, drop, refl, sym, ap, arith}
use Rattle.std.specs.declared.option.Option.TheVariants.{Some, None}
use Rattle.jc_class_out.specs.declared.model.ClassModel.{ClassModel}
use Rattle.jc_jvm.specs.Calls.{Step, Moves, Asks, Shown, Quiet, Puts}
use Rattle.jc_jvm.specs.Runs.{Run, failed_checks, failing, rests, run_by, run_of, showing, taking}
use Rattle.jc_jvm.specs.Table.{step_of}
use Rattle.jc_jvm.specs.Thrown.{State, Over}
use Rattle.jc_jvm.specs.declared.world.Ending.{Ending}
use Rattle.jc_jvm_laws.specs.Joined.{joined}

run-zero : (classes : List ClassModel) (s : State) (input : List ℕ) → run_of classes 0 s input ≡ rests s
unfolding run_of
run-zero classes s input = refl

run-suc : (classes : List ClassModel) (n : ℕ) (s : State) (input : List ℕ) → run_of classes (suc n) s input ≡ failing (failed_checks classes s) (run_by (step_of classes s) input (run_of classes n))
unfolding run_of
run-suc classes n s input = refl

same-run : (o o' : List ℕ) (t t' f f' : ℕ) (s : State) → o ≡ o' → t ≡ t' → f ≡ f' → (let r : Run = record { output = o; taken = t; failed = f; after = s } in r) ≡ record { output = o'; taken = t'; failed = f'; after = s }
same-run o o' t t' f f' s eo et ef =
    ap (λ (x : List ℕ). let r : Run = record { output = x; taken = t; failed = f; after = s } in r) eo
    ∙ ap (λ (x : ℕ). let r : Run = record { output = o'; taken = x; failed = f; after = s } in r) et
    ∙ ap (λ (x : ℕ). let r : Run = record { output = o'; taken = t'; failed = x; after = s } in r) ef

-- behind a run of no step
rests-joined : (s : State) (r : Run) → r ≡ joined (rests s) r
rests-joined s r = same-run r.output ([] ++ r.output) r.taken (0 + r.taken) r.failed (0 + r.failed) r.after refl (omega arith) (omega arith)

failing-joined : (n : ℕ) (p q : Run) → failing n (joined p q) ≡ joined (failing n p) q
failing-joined n p q = same-run (p.output ++ q.output) (p.output ++ q.output) (p.taken + q.taken) (p.taken + q.taken) (n + (p.failed + q.failed)) (n + p.failed + q.failed) q.after refl refl (omega arith)

showing-joined : (shown : Shown) (p q : Run) → showing shown (joined p q) ≡ joined (showing shown p) q
showing-joined Quiet p q = refl
showing-joined (Puts byte) p q = refl

taking-joined : (p q : Run) → taking (joined p q) ≡ joined (taking p) q
taking-joined p q = same-run (p.output ++ q.output) (p.output ++ q.output) (p.taken + q.taken + 1) (p.taken + 1 + q.taken) (p.failed + q.failed) (p.failed + q.failed) q.after refl (omega arith) refl

-- what comes behind a run, on the rest of its input
abbrev behind : List ClassModel → ℕ → List ℕ → Run → Run
behind classes n input run = run_of classes n run.after (drop run.taken input)

abbrev further : List ClassModel → ℕ → ℕ → Type 0
further classes m n = (s : State) (input : List ℕ) → run_of classes (m + n) s input ≡ joined (run_of classes m s input) (behind classes n input (run_of classes m s input))

behind-shown : (classes : List ClassModel) (n : ℕ) (input : List ℕ) (shown : Shown) (run : Run) → behind classes n input run ≡ behind classes n input (showing shown run)
behind-shown classes n input Quiet run = refl
behind-shown classes n input (Puts byte) run = refl

dropped : (k byte : ℕ) (input : List ℕ) → drop k input ≡ drop (k + 1) (byte ∷ input)
dropped k byte input = ap (λ (j : ℕ). drop j (byte ∷ input)) (let one : suc k ≡ k + 1 = omega arith in one)

one-more : (classes : List ClassModel) (m n : ℕ) → further classes m n → (step : Step) (input : List ℕ) →
    run_by step input (run_of classes (m + n)) ≡ joined (run_by step input (run_of classes m)) (behind classes n input (run_by step input (run_of classes m)))
one-more classes m n h (Moves shown after) input =
    let first = run_of classes m after input in
    ap (λ (r : Run). showing shown r) (h after input) ∙ showing-joined shown first (behind classes n input first)
    ∙ ap (λ (r : Run). joined (showing shown first) r) (behind-shown classes n input shown first)
one-more classes m n h (Asks answered) [] = h (answered None) []
one-more classes m n h (Asks answered) (byte ∷ input) =
    let first = run_of classes m (answered (Some byte)) input in
    ap (λ (r : Run). taking r) (h (answered (Some byte)) input) ∙ taking-joined first (behind classes n input first)
    ∙ ap (λ (xs : List ℕ). joined (taking first) (run_of classes n first.after xs)) (dropped first.taken byte input)

pub run-joined : (classes : List ClassModel) (m n : ℕ) (s : State) (input : List ℕ) → run_of classes (m + n) s input ≡ joined (run_of classes m s input) (behind classes n input (run_of classes m s input))
run-joined classes zero n s input =
    ap (λ (k : ℕ). run_of classes k s input) (let none : 0 + n ≡ n = omega arith in none)
    ∙ rests-joined s (run_of classes n s input)
    ∙ ap (λ (r : Run). joined r (behind classes n input r)) (sym (run-zero classes s input))
run-joined classes (suc m) n s input =
    let first = run_by (step_of classes s) input (run_of classes m) in
    ap (λ (k : ℕ). run_of classes k s input) (let more : suc m + n ≡ suc (m + n) = omega arith in more)
    ∙ run-suc classes (m + n) s input
    ∙ ap (λ (r : Run). failing (failed_checks classes s) r) (one-more classes m n (run-joined classes m n) (step_of classes s) input)
    ∙ failing-joined (failed_checks classes s) first (behind classes n input first)
    ∙ ap (λ (r : Run). joined r (behind classes n input r)) (sym (run-suc classes m s input))

abbrev things : Run → ℕ
things run = length run.output + run.taken

things-by : (step : Step) (input : List ℕ) (rest : State → List ℕ → Run) → ((s : State) (is : List ℕ) → things (rest s is) ≡ 0) → things (run_by step input rest) ≤ 1
things-by (Moves Quiet after) input rest h = let none : things (rest after input) ≡ 0 = h after input in omega (arith, none)
things-by (Moves (Puts byte) after) input rest h = let none : things (rest after input) ≡ 0 = h after input in omega (arith, none)
things-by (Asks answered) [] rest h = let none : things (rest (answered None) []) ≡ 0 = h (answered None) [] in omega (arith, none)
things-by (Asks answered) (byte ∷ input) rest h = let none : things (rest (answered (Some byte)) input) ≡ 0 = h (answered (Some byte)) input in omega (arith, none)

pub one-thing : (classes : List ClassModel) (s : State) (input : List ℕ) → length (run_of classes 1 s input).output + (run_of classes 1 s input).taken ≤ 1
one-thing classes s input =
    let is : things (run_of classes 1 s input) ≡ things (run_by (step_of classes s) input (run_of classes 0)) = ap (λ (r : Run). things r) (run-suc classes 0 s input) in
    let small : things (run_by (step_of classes s) input (run_of classes 0)) ≤ 1 = things-by (step_of classes s) input (run_of classes 0) (λ x is. ap (λ (r : Run). things r) (run-zero classes x is)) in
    omega (arith, is, small)

pub run-over : (classes : List ClassModel) (n : ℕ) (ending : Ending) (input : List ℕ) → run_of classes n (Over ending) input ≡ rests (Over ending)
run-over classes zero ending input = run-zero classes (Over ending) input
run-over classes (suc n) ending input =
    let rest = run_of classes n (Over ending) input in
    run-suc classes n (Over ending) input
    ∙ same-run rest.output rest.output rest.taken rest.taken (0 + rest.failed) rest.failed rest.after refl refl (omega arith)
    ∙ run-over classes n ending input
