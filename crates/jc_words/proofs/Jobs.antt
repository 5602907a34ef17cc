-- The lines of words, and their jobs and faults.
use Rattle.std.proofs.Common.{◌≡◌, ◌∙◌, ℕ, true, List, [], ◌∷◌, map, drop, sym, ap, subst, arith, inl, inr, Option, Some, None, Result, Ok, Err, IfOk, codes, string_bytes, unwrap_or, Global}
use Rattle.std.specs.Prelude.{String}
use Rattle.std.specs.List.{AllByRecursion}
use Rattle.std.specs.Str.{IsUtf8}
use Rattle.std.proofs.lemmas.Fmt.{decimal_injective}
use Rattle.std.proofs.lemmas.Str.{IsUtf8-had}
use Rattle.clap.specs.Walk.{rows_of, all_of, first_of}
use Rattle.clap.specs.Simple.{App, HasMatchesOf, is_simple, matches_of}
use Rattle.clap.specs.Faults.{fault_of, is_simple_and_free}
use Rattle.clap.specs.Kinds.{HasKind, IsAmong}
use Rattle.clap.specs.Words.{found_of, kind_of}
use Rattle.clap.specs.declared.error.Error.{Error}
use Rattle.clap.specs.declared.error.kind.ErrorKind.TheVariants.{OutOfMemory}
use Rattle.clap.specs.declared.parser.matches.ArgMatches.{ArgMatches}
use Rattle.clap.specs.declared.parser.matches.Found.{Found}
use Rattle.clap.proofs.WalkLemmas.{first_value-rows, raw_values-rows}
use Rattle.jc_rules.specs.declared.stop.Stop.{Stop}
use Rattle.jc_words.specs.declared.job.Job.{Job}
use Rattle.jc_words.specs.declared.values.Values.{Values}
use Rattle.jc_words.specs.declared.fault.UsageFault.{UsageFault}
use Rattle.jc_words.specs.declared.fault.UsageFault.TheVariants.{Line as LineFault, NoSource, Stray, Steps as StepsFault}
use Rattle.jc_words.specs.Line.{Out, Run, Steps, Line, IsLine}
use Rattle.jc_words.specs.Job.{JobOf, IsJob, FaultOf, IsFault, HasSteps, HasNoSteps, value_of}
use Rattle.jc_words.specs.Values.{HasValues, AreFound, AreValuesOf, HasNoLine}
use Rattle.jc_words.specs.Command.{command_app}
use Rattle.jc_words.proofs.Spelling.{spelled_cut}
use Rattle.jc_words.proofs.Uses.{command_simple, command_simple_and_free}
use Rattle.jc_words.proofs.Lines.{taken_line, line_taken}

-- ---- what clap answers

strings_are_text : (words : List (String Global)) → AllByRecursion IsUtf8 (map string_bytes words)
strings_are_text [] = tt
strings_are_text (word ∷ words) = (IsUtf8-had word.bytes.items word.ok, strings_are_text words)

behind_are_text : (words : List (String Global)) → AllByRecursion IsUtf8 (drop 1 (map string_bytes words))
behind_are_text [] = tt
behind_are_text (word ∷ words) = strings_are_text words

-- what clap found are the values of the words' line
values_found : (words : List (String Global)) (found : Found) (values : Values) → fault_of command_app (map string_bytes words) ≡ [] → rows_of found ≡ matches_of command_app (map string_bytes words) → AreFound found values → AreValuesOf (map string_bytes words) values
values_found words found values none rows are =
    let line = taken_line (map string_bytes words) (behind_are_text words) none in (
      line.0,
      line.1,
      record {
        out = are.out ∙ first_value-rows found (codes "out") ∙ ap (first_of (codes "out")) rows ∙ line.2.options Out;
        run = are.run ∙ first_value-rows found (codes "run") ∙ ap (first_of (codes "run")) rows ∙ line.2.options Run;
        steps = are.steps ∙ first_value-rows found (codes "steps") ∙ ap (first_of (codes "steps")) rows ∙ line.2.options Steps;
        words = are.words ∙ ap (λ (o : Option (List (List ℕ))). unwrap_or o []) (raw_values-rows found (codes "words") ∙ ap (all_of (codes "words")) rows) ∙ line.2.words;
      },
    )

module _ (words : List (String Global)) (app : App) (is : app ≡ command_app) where
  simple_and_free : is_simple_and_free app ≡ true
  simple_and_free = ap is_simple_and_free is ∙ command_simple_and_free

  -- what clap takes
  pub values_taken : (matches : ArgMatches) (values : Values) → (is_simple_and_free app ≡ true → fault_of app (map string_bytes words) ≡ []) → HasMatchesOf app (map string_bytes words) matches
      → AreFound (found_of matches) values → AreValuesOf (map string_bytes words) values
  values_taken matches values kinds has are =
      values_found words (found_of matches) values
      (ap (λ (a : App). fault_of a (map string_bytes words)) (sym is) ∙ kinds simple_and_free)
      ((has (ap is_simple is ∙ command_simple)).0 ∙ ap (λ (a : App). matches_of a (map string_bytes words)) is) are

  -- what clap refuses: the words have no line
  pub words_refused : (error : Error) → (is_simple_and_free app ≡ true → HasKind (fault_of app (map string_bytes words)) error) → (kind_of error ≡ OutOfMemory → ⊥) → HasNoLine (map string_bytes words)
  words_refused error kinds other line line_is = elim (kinds simple_and_free) [
    | inl memory ↦ other memory
    | inr among ↦
        let none : fault_of app (map string_bytes words) ≡ [] =
        ap (λ (a : App). fault_of a (map string_bytes words)) is ∙ line_taken (map string_bytes words) (behind_are_text words) line line_is in
        subst (IsAmong (kind_of error)) none among
  ]

-- ---- jobs

-- the fault of words with one
pub line_fault : (words : List (List ℕ)) (line : Line) (fault : UsageFault) → IsLine words line → FaultOf line fault → IsFault words fault
line_fault words line LineFault is f = absurd f
line_fault words line NoSource is f = (line, is, f)
line_fault words line Stray is f = (line, is, f)
line_fault words line StepsFault is f = (line, is, f)

-- words have at most one line
line_only : (words : List (List ℕ)) (a b : Line) → IsLine words a → IsLine words b → a ≡ b
line_only words a b is_a is_b =
    let found : Some a ≡ Some b = sym (spelled_cut (drop 1 words) a is_a.is_spelled) ∙ spelled_cut (drop 1 words) b is_b.is_spelled in cc

-- a line that has a fault makes no job
fault_no_job : (line : Line) (fault : UsageFault) (job : Job) → FaultOf line fault → JobOf line job → ⊥
fault_no_job line LineFault job f j = f
fault_no_job line NoSource job f j = j.whole.source f
fault_no_job line Stray job f j = f.stray (j.whole.no_stray f.no_run)
fault_no_job line StepsFault job f j = steps_clash (value_of Steps line) job.steps f.steps j.steps
  where
    steps_clash : (value : Option (List ℕ)) (steps : ℕ) → HasNoSteps value → HasSteps value steps → ⊥
    steps_clash None steps no_steps has = no_steps
    steps_clash (Some text) steps no_steps has = no_steps steps has

pub words_no_job : (words : List (List ℕ)) (line : Line) (fault : UsageFault) → IsLine words line → FaultOf line fault → (job : Job) → IsJob words job → ⊥
words_no_job words line fault is f job j = fault_no_job line fault job f (subst (λ (l : Line). JobOf l job) (line_only words j.0 line j.1 is) j.2)

job_same : (a b : Job) → a.out ≡ b.out → a.run ≡ b.run → a.steps ≡ b.steps → a.files ≡ b.files → a.arguments ≡ b.arguments → a ≡ b
job_same a b p q r s t = λ i. record { out = p i; run = q i; steps = r i; files = s i; arguments = t i }

steps_only : (value : Option (List ℕ)) (m n : ℕ) → HasSteps value m → HasSteps value n → m ≡ n
steps_only None m n a b = a ∙ sym b
steps_only (Some text) m n a b = decimal_injective m n (omega (arith, a.1)) (omega (arith, b.1)) (sym a.0 ∙ b.0)

-- a line makes at most one job
line_job_only : (line : Line) (a b : Job) → JobOf line a → JobOf line b → a ≡ b
line_job_only line a b p q = job_same a b (p.out ∙ sym q.out) (p.run ∙ sym q.run) (steps_only _ a.steps b.steps p.steps q.steps) (p.files ∙ sym q.files) (p.arguments ∙ sym q.arguments)

-- words whose line says these values make at most one job
pub values_job_only : (words : List (List ℕ)) (values : Values) (result : Result Job (Stop UsageFault)) → AreValuesOf words values → IfOk result (λ job. (line : Line) → HasValues line values → JobOf line job)
    → IfOk result (λ job. (other : Job) → IsJob words other → other ≡ job)
values_job_only words values (Ok job) are of = λ other j. line_job_only are.0 other job (subst (λ (l : Line). JobOf l other) (line_only words j.0 are.0 j.1 are.1) j.2) (of are.0 are.2)
values_job_only words values (Err e) are of = tt
