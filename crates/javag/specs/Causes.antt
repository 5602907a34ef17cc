-- When each outcome comes, and what a call leaves behind.
use Rattle.std.specs.Prelude.{◌≡◌, ◌≢◌, ◌⊎◌, ℕ, ◌+◌, List, [], ◌∷◌, ◌++◌, ⊤, codes}
use Rattle.std.specs.declared.option.Option.{Option}
use Rattle.std.specs.declared.option.Option.TheVariants.{Some, None}
use Rattle.jc_rules.specs.declared.rule.Refusal.{Refusal}
use Rattle.jc_class_out.specs.declared.model.ClassModel.{ClassModel}
use Rattle.jc_class_out.specs.Format.{IsClassFile}
use Rattle.jc_machine.specs.declared.machine.Ran.{Ran}
use Rattle.jc_machine.specs.declared.machine.Ran.TheVariants.{Ended as RanEnded, StepsReached as RanSteps, OutFault as RanOutFault, Threw as RanThrew, Exited as RanExited, KeysFault as RanKeysFault, Stuck as RanStuck}
use Rattle.jc_machine.specs.Runs.{Seen}
use Rattle.jc_lexer.specs.declared.token.Token.{Token}
use Rattle.jc_front.specs.Stages.{AreRead, Breaks}
use Rattle.jc_outside.specs.Told.{Files}
use Rattle.javag.specs.Objects.{Object, Unchanged, Puts, PutsPart, Failed, Closes, HaveTexts, IsUnread}
use Rattle.jc_small.specs.Small.{Program, IsProgram}
use Rattle.jc_small.specs.Same.{Compiled, run_from}
use Rattle.jc_words.specs.declared.job.Job.{Job}
use Rattle.jc_words.specs.declared.fault.UsageFault.{UsageFault}
use Rattle.jc_words.specs.Job.{IsJob, IsFault}
use Rattle.javag.specs.declared.outcome.Outcome.{Outcome}
use Rattle.javag.specs.declared.outcome.Outcome.TheVariants.{Done, Threw, Usage, Refused, StepsReached, WantOfMemory, ShelfFault, ClassFault, OutFault, KeysFault, ErrFault, NoMain, Exited}
use Rattle.javag.specs.Closing.{closing, usage_line, memory_line}

-- what a call is given, and what it leaves
pub record Call : Type 0 where
  pub words : List (List ℕ)
  pub files : Option Files
  pub shelf_before : ℕ
  pub shelf_after : ℕ
  pub classes : Object (List ℕ × List ℕ)
  pub out : Object ℕ
  pub err : Object ℕ

-- one source, whose tokens are this program, and no argument
pub record IsSmall (job : Job) (texts : List (List ℕ)) (program : Program) : Type 0 where
  pub tokens : List Token
  pub only : AreRead texts (tokens ∷ [])
  pub no_argument : job.arguments ≡ []
  pub is_program : IsProgram tokens program

-- the sources are one program, and this class is one of it
pub record IsClassOf (job : Job) (texts : List (List ℕ)) (class : ClassModel) : Type 0 where
  pub tokens : List Token
  pub only : AreRead texts (tokens ∷ [])
  pub no_argument : job.arguments ≡ []
  pub compiled : Compiled tokens class

-- the refusal of a form that is not built yet
abbrev pub not_built : Refusal
not_built = record { rule = 900; place = record { file = 1; at = 0 }; have = 0 }

-- no source breaks a rule of a stage that is built, and the job isn't small
pub record IsUnbuilt (job : Job) (texts : List (List ℕ)) : Type 0 where
  pub lists : List (List Token)
  pub unbroken : AreRead texts lists
  pub not_small : (program : Program) → IsSmall job texts program → ⊥

-- ---- class files

-- the class to run, if one is to run, is `Main`
abbrev pub NamesMain : Option (List ℕ) → Type 0
NamesMain None = ⊤
NamesMain (Some class) = class ≡ codes "Main"

-- The sources are a program, and its class file is one of a class that shows what the program shows.
pub record Compiles (job : Job) (texts : List (List ℕ)) : Type 0 where
  pub class : ClassModel
  pub is_class : IsClassOf job texts class
  pub main : NamesMain job.run
  pub bytes : List ℕ
  pub is_file : IsClassFile bytes class

-- a class file's name: the folder, a slash, the binary name with slashes for dots, and `.class`
abbrev pub class_pairs : Option (List ℕ) → List ℕ → List (List ℕ × List ℕ)
class_pairs None bytes = []
class_pairs (Some folder) bytes = (folder ++ codes "/Main.class", bytes) ∷ []

-- what the machine shows of the class within the job's steps
abbrev pub shown : {job : Job} {texts : List (List ℕ)} → Compiles job texts → Seen
shown {job = job} made = run_from made.class made.is_class.compiled.same.start job.steps

-- ---- outcomes of a job whose sources are read

-- what the work on a job leaves of the class files and of the output
pub record Work : Type 0 where
  pub classes : Object (List ℕ × List ℕ)
  pub out : Object ℕ

-- nothing was put yet
pub record Untouched (work : Work) : Type 0 where
  pub no_class : Unchanged work.classes
  pub no_output : Unchanged work.out

-- a source breaks a rule of a stage that is built, or the job is of a form that isn't built yet; nothing was put
pub record IsRefused (job : Job) (texts : List (List ℕ)) (work : Work) (refusal : Refusal) : Type 0 where
  pub cause : Breaks texts refusal ⊎ (IsUnbuilt job texts × (refusal ≡ not_built))
  pub untouched : Untouched work

-- a class is to run, and it isn't that of the program; nothing was put
pub record IsNoMain (job : Job) (texts : List (List ℕ)) (work : Work) : Type 0 where
  pub program : Program
  pub small : IsSmall job texts program
  pub class : List ℕ
  pub run : job.run ≡ Some class
  pub other : class ≢ codes "Main"
  pub untouched : Untouched work

-- the first class file couldn't be put, so that none is written; nothing ran
pub record IsClassFault (job : Job) (texts : List (List ℕ)) (work : Work) (written : ℕ) : Type 0 where
  pub made : Compiles job texts
  pub folder : List ℕ
  pub wanted : job.out ≡ Some folder
  pub first : written ≡ 0
  pub cause : Failed work.classes
  pub untouched : Untouched work

-- every class file was put, where there is a folder for them
pub record Wrote (job : Job) (texts : List (List ℕ)) (work : Work) : Type 0 where
  pub made : Compiles job texts
  pub put : Puts work.classes (class_pairs job.out made.bytes)

-- the class ran, without a fault, and the machine ended so within the job's steps
pub record RanTo (job : Job) (texts : List (List ℕ)) (work : Work) (ending : Ran) : Type 0 where
  pub wrote : Wrote job texts work
  pub class : List ℕ
  pub run : job.run ≡ Some class
  pub ends : (shown wrote.made).ending ≡ ending
  pub output : Puts work.out (shown wrote.made).output

-- nothing is to run
pub record RanNothing (job : Job) (texts : List (List ℕ)) (work : Work) : Type 0 where
  pub wrote : Wrote job texts work
  pub run : job.run ≡ None
  pub no_output : Unchanged work.out

-- the class files were put, the class ran, and out failed behind some first part of what the machine shows
pub record IsOutFault (job : Job) (texts : List (List ℕ)) (work : Work) : Type 0 where
  pub wrote : Wrote job texts work
  pub class : List ℕ
  pub run : job.run ≡ Some class
  pub cause : Failed work.out
  pub output : PutsPart work.out (shown wrote.made).output

-- out has a first part of what the machine shows
pub record RanPart (job : Job) (texts : List (List ℕ)) (work : Work) : Type 0 where
  pub wrote : Wrote job texts work
  pub output : PutsPart work.out (shown wrote.made).output

-- after want of memory nothing was put, or all class files were put, and out has a first part of what the machine shows
abbrev pub IsCutShort : Job → List (List ℕ) → Work → Type 0
IsCutShort job texts work = Untouched work ⊎ RanPart job texts work

-- when each outcome of a job comes; those that aren't built yet don't
abbrev pub Worked : Job → List (List ℕ) → Work → Outcome → Type 0
Worked job texts work Done = RanTo job texts work RanEnded ⊎ RanNothing job texts work
Worked job texts work (Refused refusal) = IsRefused job texts work refusal
Worked job texts work NoMain = IsNoMain job texts work
Worked job texts work (ClassFault written) = IsClassFault job texts work written
Worked job texts work StepsReached = RanTo job texts work RanSteps
Worked job texts work OutFault = IsOutFault job texts work
Worked job texts work WantOfMemory = IsCutShort job texts work
Worked job texts work (Usage fault) = ⊥
Worked job texts work (ShelfFault file) = ⊥
Worked job texts work (Threw class) = ⊥
Worked job texts work KeysFault = ⊥
Worked job texts work ErrFault = ⊥
Worked job texts work (Exited code) = ⊥

-- whether a run of the machine of small programs ends so; it has no other ending
abbrev pub HasOutcome : Ran → Type 0
HasOutcome RanEnded = ⊤
HasOutcome RanSteps = ⊤
HasOutcome RanOutFault = ⊤
HasOutcome (RanThrew class) = ⊥
HasOutcome (RanExited code) = ⊥
HasOutcome RanKeysFault = ⊥
HasOutcome RanStuck = ⊥

-- such a run's outcome; the one of a stuck machine is never asked for
abbrev pub outcome_of : Ran → Outcome
outcome_of RanEnded = Done
outcome_of RanSteps = StepsReached
outcome_of RanOutFault = OutFault
outcome_of (RanThrew class) = Threw class
outcome_of (RanExited code) = Exited code
outcome_of RanKeysFault = KeysFault
outcome_of RanStuck = Done

-- ---- outcomes of a call

-- what the call leaves of the class files and of the output
abbrev pub work_of : Call → Work
work_of call = record { classes = call.classes; out = call.out }

-- the words are no job, this is their first fault, nothing was put, and the last line tells the usage
pub record IsUsage (call : Call) (fault : UsageFault) : Type 0 where
  pub is_fault : IsFault call.words fault
  pub untouched : Untouched (work_of call)
  pub err : Closes call.err usage_line

-- one of the job's sources can't be read
pub record IsShelfFault (call : Call) (number : ℕ) : Type 0 where
  pub job : Job
  pub is_job : IsJob call.words job
  pub unread : IsUnread call.files job.files call.shelf_before call.shelf_after number
  pub untouched : Untouched (work_of call)
  pub err : Closes call.err (closing job [] (ShelfFault number))

-- the words are a job, its sources were read, and the work on them ended so
pub record IsWorked (call : Call) (outcome : Outcome) : Type 0 where
  pub job : Job
  pub is_job : IsJob call.words job
  pub texts : List (List ℕ)
  pub content : HaveTexts call.files job.files texts
  pub worked : Worked job texts (work_of call) outcome
  pub err : Closes call.err (closing job texts outcome)

-- Want of memory may come at any time, and its line may be missing. What was put before then stands: nothing, or what the
-- work on the job had put.
pub record IsShort (call : Call) : Type 0 where
  pub work : Untouched (work_of call)
      ⊎ ((job : Job) × (texts : List (List ℕ)) × IsJob call.words job × HaveTexts call.files job.files texts × RanPart job texts (work_of call))
  pub err : PutsPart call.err memory_line

-- the last line was put and the outcome stands, or memory ran out at it
abbrev pub ClosedAs : Job → List (List ℕ) → Object ℕ → Outcome → Outcome → Type 0
ClosedAs job texts err outcome result = ((result ≡ outcome) × Closes err (closing job texts outcome)) ⊎ ((result ≡ WantOfMemory) × PutsPart err memory_line)

-- the same of words that are no job
abbrev pub UsageClosed : Object ℕ → UsageFault → Outcome → Type 0
UsageClosed err fault result = ((result ≡ Usage fault) × Closes err usage_line) ⊎ ((result ≡ WantOfMemory) × PutsPart err memory_line)

-- when each outcome comes, and what the call leaves behind
abbrev pub Caused : Call → Outcome → Type 0
Caused call (Usage fault) = IsUsage call fault
Caused call (ShelfFault number) = IsShelfFault call number
Caused call WantOfMemory = IsShort call
Caused call outcome = IsWorked call outcome
