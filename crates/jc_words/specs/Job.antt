-- Which words are a job, and what is wrong with the others.
use Rattle.std.specs.Prelude.{◌≡◌, ◌≢◌, ℕ, ◌≤◌, Bool, true, false, List, [], ◌∷◌, codes, nat_eq, if◌then◌else◌}
use Rattle.std.specs.List.{filter, ends_with}
use Rattle.std.specs.Fmt.{decimal}
use Rattle.std.specs.declared.option.Option.{Option}
use Rattle.std.specs.declared.option.Option.TheVariants.{Some, None}
use Rattle.jc_words.specs.declared.job.Job.{Job}
use Rattle.jc_words.specs.declared.fault.UsageFault.{UsageFault}
use Rattle.jc_words.specs.declared.fault.UsageFault.TheVariants.{Line as LineFault, NoSource, Stray, Steps as StepsFault}
use Rattle.jc_words.specs.Line.{OptionName, Out, Run, Steps, Line, IsLine, values_of, positionals_of}

-- the first of some values, or None where there are none
abbrev pub head_of : List (List ℕ) → Option (List ℕ)
head_of [] = None
head_of (value ∷ values) = Some value

-- the value of an option, if it stands on the line
abbrev pub value_of : OptionName → Line → Option (List ℕ)
value_of option line = head_of (values_of option line.parts)

-- a positional word that ends in `.java` names a source; the others are the program's arguments
abbrev pub is_source : List ℕ → Bool
is_source word = ends_with nat_eq word (codes ".java")

-- the opposite of a truth value
abbrev pub not : Bool → Bool
not b = if b then false else true

-- the sources and the arguments of a line, each in the order in which they stand
abbrev pub sources_of : Line → List (List ℕ)
sources_of line = filter is_source (positionals_of line)

abbrev pub arguments_of : Line → List (List ℕ)
arguments_of line = filter (λ word. not (is_source word)) (positionals_of line)

-- the folder for class files: as it is named, or the current one where nothing is to run either
abbrev pub folder_of : Option (List ℕ) → Option (List ℕ) → Option (List ℕ)
folder_of (Some out) run = Some out
folder_of None (Some run) = None
folder_of None None = Some (codes ".")

-- the greatest number of steps, and the number where none is given
abbrev pub most_steps : ℕ
most_steps = 9223372036854775807

-- the number of steps of a line that gives none
abbrev pub usual_steps : ℕ
usual_steps = 1000000000

-- this text is the decimal number of steps
abbrev pub AreSteps : List ℕ → ℕ → Type 0
AreSteps text steps = (text ≡ decimal steps) × (steps ≤ most_steps)

-- the steps of a job: the number in the option's value, which must be in its shortest decimal form, or the usual one where there is no option
abbrev pub HasSteps : Option (List ℕ) → ℕ → Type 0
HasSteps None steps = steps ≡ usual_steps
HasSteps (Some text) steps = AreSteps text steps

-- there is an option for steps, and its value is no number of steps
abbrev pub HasNoSteps : Option (List ℕ) → Type 0
HasNoSteps None = ⊥
HasNoSteps (Some text) = (steps : ℕ) → AreSteps text steps → ⊥

-- the line has a source, and no argument for a program that isn't to run
pub record IsWhole (line : Line) : Type 0 where
  pub source : sources_of line ≢ []
  pub no_stray : value_of Run line ≡ None → arguments_of line ≡ []

-- the job of a line
pub record JobOf (line : Line) (job : Job) : Type 0 where
  pub whole : IsWhole line
  pub out : job.out ≡ folder_of (value_of Out line) (value_of Run line)
  pub run : job.run ≡ value_of Run line
  pub steps : HasSteps (value_of Steps line) job.steps
  pub files : job.files ≡ sources_of line
  pub arguments : job.arguments ≡ arguments_of line

-- a line with arguments for a program that isn't to run
pub record HasStray (line : Line) : Type 0 where
  pub source : sources_of line ≢ []
  pub no_run : value_of Run line ≡ None
  pub stray : arguments_of line ≢ []

-- a line whose steps are no number
pub record HasBadSteps (line : Line) : Type 0 where
  pub whole : IsWhole line
  pub steps : HasNoSteps (value_of Steps line)

-- the first fault of a line that makes no job
abbrev pub FaultOf : Line → UsageFault → Type 0
FaultOf line LineFault = ⊥
FaultOf line NoSource = sources_of line ≡ []
FaultOf line Stray = HasStray line
FaultOf line StepsFault = HasBadSteps line

-- these words are this job
abbrev pub IsJob : List (List ℕ) → Job → Type 0
IsJob words job = (line : Line) × IsLine words line × JobOf line job

-- the words have a line, and this is its fault
abbrev pub HasFault : List (List ℕ) → UsageFault → Type 0
HasFault words fault = (line : Line) × IsLine words line × FaultOf line fault

-- the first fault of words that are no job; the words that have no line at all break a rule on options
abbrev pub IsFault : List (List ℕ) → UsageFault → Type 0
IsFault words LineFault = (line : Line) → IsLine words line → ⊥
IsFault words NoSource = HasFault words NoSource
IsFault words Stray = HasFault words Stray
IsFault words StepsFault = HasFault words StepsFault
