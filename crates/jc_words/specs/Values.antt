-- What a line says to a job: the values of its options, and its positional words.
use Rattle.std.specs.Prelude.{◌≡◌, ℕ, List, [], codes, option_map, unwrap_or}
use Rattle.clap.specs.Words.{first_value, matched_of, raw_values}
use Rattle.clap.specs.declared.parser.matches.Found.{Found}
use Rattle.jc_words.specs.declared.values.Values.{Values}
use Rattle.jc_words.specs.Line.{Out, Run, Steps, Line, IsLine, positionals_of}
use Rattle.jc_words.specs.Job.{value_of}

-- these are the values and the positional words of the line
pub record HasValues (line : Line) (values : Values) : Type 0 where
  pub out : values.out ≡ value_of Out line
  pub run : values.run ≡ value_of Run line
  pub steps : values.steps ≡ value_of Steps line
  pub words : values.words ≡ positionals_of line

-- the words have a line, and these are its values
abbrev pub AreValuesOf : List (List ℕ) → Values → Type 0
AreValuesOf words values = (line : Line) × IsLine words line × HasValues line values

-- the words have no line
abbrev pub HasNoLine : List (List ℕ) → Type 0
HasNoLine words = (line : Line) → IsLine words line → ⊥

-- the positional words that clap found
abbrev pub words_found : Found → List (List ℕ)
words_found found = unwrap_or (option_map raw_values (matched_of found (codes "words"))) []

-- these are the values and the positional words that clap found
pub record AreFound (found : Found) (values : Values) : Type 0 where
  pub out : values.out ≡ first_value found (codes "out")
  pub run : values.run ≡ first_value found (codes "run")
  pub steps : values.steps ≡ first_value found (codes "steps")
  pub words : values.words ≡ words_found found
