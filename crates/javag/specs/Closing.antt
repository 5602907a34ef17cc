-- What a call leaves behind: its exit status, and its last line on the stream of errors.
use Rattle.std.specs.Prelude.{ℕ, ◌+◌, ◌-◌, ◌%◌, ◌^◌, min, List, [], ◌∷◌, ◌++◌, ◌==◌, if◌then◌else◌, codes, slice_get}
use Rattle.std.specs.Int.{w32, cast_unsigned}
use Rattle.std.specs.Fmt.{decimal}
use Rattle.std.specs.declared.option.Option.{Option}
use Rattle.std.specs.declared.option.Option.TheVariants.{Some, None}
use Rattle.jc_rules.specs.declared.rule.Refusal.{Refusal}
use Rattle.jc_rules.specs.declared.rule.Place.{Place}
use Rattle.jc_rules.specs.Rules.{text_at}
use Rattle.jc_rules.specs.Lines.{line_ends_by}
use Rattle.jc_words.specs.declared.job.Job.{Job}
use Rattle.javag.specs.declared.outcome.Outcome.{Outcome}
use Rattle.javag.specs.declared.outcome.Outcome.TheVariants.{Done, Threw, Usage, Refused, StepsReached, WantOfMemory, ShelfFault, ClassFault, OutFault, KeysFault, ErrFault, NoMain, Exited}

-- the exit status of each outcome; of an exit's code, which is an int, the low eight bits
abbrev pub status_of : Outcome → ℕ
status_of Done = 0
status_of (Threw class) = 1
status_of (Usage fault) = 2
status_of (Refused refusal) = 3
status_of StepsReached = 4
status_of WantOfMemory = 5
status_of (ShelfFault file) = 6
status_of (ClassFault written) = 7
status_of OutFault = 8
status_of KeysFault = 9
status_of ErrFault = 10
status_of NoMain = 11
status_of (Exited code) = cast_unsigned w32 code % 256

-- a line of text, with its end
abbrev pub line : List ℕ → List ℕ
line text = text ++ 10 ∷ []

-- the last lines of words that are no job, and of want of memory
abbrev pub usage_line : List ℕ
usage_line = line (codes "javag: usage: javag [--out DIR] [--run CLASS] [--steps N] FILE.java ... [ARGUMENT ...]")

abbrev pub memory_line : List ℕ
memory_line = line (codes "javag: out of memory")

-- a text that isn't there is empty
abbrev pub or_empty : Option (List ℕ) → List ℕ
or_empty None = []
or_empty (Some text) = text

-- the name or the text of the source of this number; the sources count from 1
abbrev pub nth : List (List ℕ) → ℕ → List ℕ
nth texts number = if number == 0 then [] else or_empty (slice_get texts (number - 1))

-- the name of a file, where file 0 is the library's texts
abbrev pub file_name : List (List ℕ) → ℕ → List ℕ
file_name names number = if number == 0 then codes "prelude" else nth names number

-- the number of the line that holds a place
abbrev pub line_number : List (List ℕ) → Place → ℕ
line_number texts place = min (line_ends_by (nth texts place.file) place.at + 1) (2 ^ 32 - 1)

-- NAME:LINE: error NUMBER: TEXT
abbrev pub refusal_line : List (List ℕ) → List (List ℕ) → Refusal → List ℕ
refusal_line names texts refusal =
    line (file_name names refusal.place.file ++ codes ":" ++ decimal (line_number texts refusal.place) ++ codes ": error " ++ decimal refusal.rule ++ codes ": " ++ text_at refusal.rule)

-- the last line of a job, by its outcome
abbrev pub closing : Job → List (List ℕ) → Outcome → List ℕ
closing job texts Done = []
closing job texts (Threw class) = line (codes "javag: threw " ++ class)
closing job texts (Usage fault) = usage_line
closing job texts (Refused refusal) = refusal_line job.files texts refusal
closing job texts StepsReached = line (codes "javag: stopped after " ++ decimal job.steps ++ codes " steps")
closing job texts WantOfMemory = memory_line
closing job texts (ShelfFault file) = line (codes "javag: cannot read " ++ nth job.files file)
closing job texts (ClassFault written) = line (codes "javag: cannot write after " ++ decimal written ++ codes " class files")
closing job texts OutFault = line (codes "javag: output failed")
closing job texts KeysFault = line (codes "javag: input failed")
closing job texts ErrFault = []
closing job texts NoMain = line (codes "javag: no main in " ++ or_empty job.run)
closing job texts (Exited code) = []
