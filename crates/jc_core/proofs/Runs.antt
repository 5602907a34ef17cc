-- Runs, one step after the other.
use Rattle.std.proofs.Common.{◌≡◌, ◌+◌, ◌∙◌, ◌++◌, ◌∷◌, [], ℕ, zero, suc, List, drop, refl, sym, ap, subst, arith, true}
use Rattle.std.specs.Prelude.{is_some, slice_get}
use Rattle.std.proofs.lemmas.List.{append-nil}
use Rattle.std.specs.declared.option.Option.{Option}
use Rattle.std.specs.declared.option.Option.TheVariants.{Some, None}
use Rattle.jc_class_out.specs.declared.model.ClassModel.{ClassModel}
use Rattle.jc_jvm.specs.Calls.{Step, Moves, Asks, Quiet}
use Rattle.jc_jvm.specs.Runs.{Run, ending_of, failed_checks, failing, run_by, run_of, rests}
use Rattle.jc_jvm.specs.Table.{step_of}
use Rattle.jc_jvm.specs.Thrown.{State, Going, Over}
use Rattle.jc_jvm.specs.declared.world.Ending.{Ending}
use Rattle.jc_core.specs.Ran.{Told, told, ahead}
use Rattle.jc_core.specs.States.{step_told}
use Rattle.jc_core.specs.declared.machine.Stepped.{Stepped}

run-zero : (classes : List ClassModel) (s : State) (input : List ℕ) → run_of classes 0 s input ≡ rests s
unfolding run_of
run-zero classes s input = refl

run-suc : (classes : List ClassModel) (n : ℕ) (s : State) (input : List ℕ) → run_of classes (suc n) s input ≡ failing (failed_checks classes s) (run_by (step_of classes s) input (run_of classes n))
unfolding run_of
run-suc classes n s input = refl

-- a run whose first step is this one
pub told-suc : (classes : List ClassModel) (n m : ℕ) (s : State) (input : List ℕ) (step : Step) → m ≡ suc n → step_of classes s ≡ step → told (run_of classes m s input) ≡ told (run_by step input (run_of classes n))
told-suc classes n m s input step at is =
    ap (λ (k : ℕ). told (run_of classes k s input)) at ∙ ap (λ (r : Run). told r) (run-suc classes n s input)
    ∙ ap (λ (x : Step). told (run_by x input (run_of classes n))) is

told-same : (output output' : List ℕ) (taken taken' : ℕ) (after : State) → output ≡ output' → taken ≡ taken' → (let t : Told = record { output = output; taken = taken; after = after } in t) ≡ record { output = output'; taken = taken'; after = after }
told-same output output' taken taken' after o t =
    ap (λ (x : List ℕ). let r : Told = record { output = x; taken = taken; after = after } in r) o ∙ ap (λ (x : ℕ). let r : Told = record { output = output'; taken = x; after = after } in r) t

-- ---- a run that was seen so far, over steps up to one that is seen, which leave so many

beyond : (xs : List ℕ) (k : ℕ) → slice_get xs k ≡ None → drop k xs ≡ []
beyond [] zero e = refl
beyond [] (suc k) e = refl
beyond (x ∷ xs) zero e = cc
beyond (x ∷ xs) (suc k) e = beyond xs k e

there : (xs : List ℕ) (k x : ℕ) → slice_get xs k ≡ Some x → drop k xs ≡ x ∷ drop (k + 1) xs
there [] k x e = cc
there (y ∷ ys) zero x e = let same : y ≡ x = cc in ap (λ (z : ℕ). z ∷ ys) same
there (y ∷ ys) (suc k) x e = there ys k x e ∙ ap (λ (j : ℕ). x ∷ drop j (y ∷ ys)) (let one : suc (k + 1) ≡ suc k + 1 = omega arith in one)

-- the input's end is read
pub run_end : (classes : List ClassModel) (out input : List ℕ) (taken n m : ℕ) (s after : State) (asked : Option ℕ → State) (whole : Told) →
    told (run_of classes n s (drop taken input)) ≡ told (run_by (Asks asked) (drop taken input) (run_of classes m)) → slice_get input taken ≡ None → after ≡ asked None →
    ahead out taken (told (run_of classes n s (drop taken input))) ≡ whole → ahead out taken (told (run_of classes m after (drop taken input))) ≡ whole
run_end classes out input taken n m s after asked whole is none at so =
    ap (λ (xs : List ℕ). ahead out taken (told (run_of classes m after xs))) (beyond input taken none)
    ∙ ap (λ (x : State). ahead out taken (told (run_of classes m x []))) at
    ∙ ap (λ (xs : List ℕ). ahead out taken (told (run_by (Asks asked) xs (run_of classes m)))) (sym (beyond input taken none))
    ∙ ap (λ (t : Told). ahead out taken t) (sym is)
    ∙ so

-- a byte is read
pub run_read : (classes : List ClassModel) (out input : List ℕ) (taken n m byte : ℕ) (s after : State) (asked : Option ℕ → State) (whole : Told) →
    told (run_of classes n s (drop taken input)) ≡ told (run_by (Asks asked) (drop taken input) (run_of classes m)) → slice_get input taken ≡ Some byte → after ≡ asked (Some byte) →
    ahead out taken (told (run_of classes n s (drop taken input))) ≡ whole → ahead out (taken + 1) (told (run_of classes m after (drop (taken + 1) input))) ≡ whole
run_read classes out input taken n m byte s after asked whole is some at so =
    let more = drop (taken + 1) input in
    let rest = run_of classes m (asked (Some byte)) more in
    ap (λ (x : State). ahead out (taken + 1) (told (run_of classes m x more))) at
    ∙ told-same (out ++ rest.output) (out ++ rest.output) (taken + 1 + rest.taken) (taken + (rest.taken + 1)) rest.after refl (omega arith)
    ∙ ap (λ (xs : List ℕ). ahead out taken (told (run_by (Asks asked) xs (run_of classes m)))) (sym (there input taken byte some))
    ∙ ap (λ (t : Told). ahead out taken t) (sym is)
    ∙ so

over-told : (classes : List ClassModel) (n : ℕ) (ending : Ending) (input : List ℕ) → told (run_of classes n (Over ending) input) ≡ told (rests (Over ending))
over-told classes zero ending input = ap (λ (r : Run). told r) (run-zero classes (Over ending) input)
over-told classes (suc n) ending input = told-suc classes n (suc n) (Over ending) input (Moves Quiet (Over ending)) refl refl ∙ over-told classes n ending input

nothing-ahead : (out : List ℕ) (taken : ℕ) (s : State) → ahead out taken (told (rests s)) ≡ record { output = out; taken = taken; after = s }
nothing-ahead out taken s = told-same (out ++ []) out (taken + 0) taken s (append-nil out) (omega arith)

-- the machine is over
pub run_over : (classes : List ClassModel) (out input : List ℕ) (taken n : ℕ) (s : State) (ending : Ending) (whole : Told) → s ≡ Over ending →
    ahead out taken (told (run_of classes n s input)) ≡ whole → whole ≡ record { output = out; taken = taken; after = s }
run_over classes out input taken n s ending whole is so =
    sym so ∙ ap (λ (x : State). ahead out taken (told (run_of classes n x input))) is ∙ ap (λ (t : Told). ahead out taken t) (over-told classes n ending input)
    ∙ ap (λ (x : State). ahead out taken (told (rests x))) (sym is) ∙ nothing-ahead out taken s

-- all steps are taken
pub run_done : (classes : List ClassModel) (out input : List ℕ) (taken m : ℕ) (s : State) (whole : Told) → m ≡ 0 →
    ahead out taken (told (run_of classes m s input)) ≡ whole → whole ≡ record { output = out; taken = taken; after = s }
run_done classes out input taken m s whole none so =
    sym so ∙ ap (λ (k : ℕ). ahead out taken (told (run_of classes k s input))) none ∙ ap (λ (r : Run). ahead out taken (told r)) (run-zero classes s input) ∙ nothing-ahead out taken s

-- what is known by the classes as they were
pub told_by : (classes classes' : List ClassModel) (n m : ℕ) (s after : State) (last : Stepped) (input : List ℕ) → classes' ≡ classes →
    told (run_of classes' n s input) ≡ told (run_by (step_told classes' last after) input (run_of classes' m)) → told (run_of classes n s input) ≡ told (run_by (step_told classes last after) input (run_of classes m))
told_by classes classes' n m s after last input e is =
    let P : List ClassModel → Type 0 = λ cs. told (run_of cs n s input) ≡ told (run_by (step_told cs last after) input (run_of cs m)) in subst P e is

ends-by : (s : State) (ending : Option Ending) → ending_of s ≡ ending → is_some ending ≡ true → (e : Ending) × (s ≡ Over e)
ends-by (Going world now waiting) None e t = cc
ends-by (Going world now waiting) (Some x) e t = cc
ends-by (Over x) ending e t = (x, refl)

-- a machine that is over, at a run's end
pub run_ended : (classes : List ClassModel) (out input : List ℕ) (taken n : ℕ) (s : State) (ending : Option Ending) (whole : Told) → ending ≡ ending_of s → is_some ending ≡ true →
    ahead out taken (told (run_of classes n s input)) ≡ whole → whole ≡ record { output = out; taken = taken; after = s }
run_ended classes out input taken n s ending whole e t so =
    let over = ends-by s ending (sym e) t in
    run_over classes out input taken n s over.0 whole over.1 so
