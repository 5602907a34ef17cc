-- A command line: the program's name, then options with their values and positional words, then maybe `--` and more
-- positional words.
use Rattle.std.specs.Prelude.{◌≡◌, ◌≢◌, ℕ, ◌≤◌, Bool, true, false, ◌==◌, List, [], ◌∷◌, ◌++◌, length, drop, flat_map, codes}
use Rattle.std.specs.List.{AllByRecursion}
use Rattle.std.specs.declared.option.Option.{Option}
use Rattle.std.specs.declared.option.Option.TheVariants.{Some, None}

-- an option that takes a value
pub data OptionName : Type 0 where
  Out : OptionName
  Run : OptionName
  Steps : OptionName

-- an option with its value behind an equals sign, or in a word of its own, or one positional word
pub data Part : Type 0 where
  Joined : OptionName → List ℕ → Part
  Apart : OptionName → List ℕ → Part
  Positional : List ℕ → Part

-- what stands behind the program's name: the parts, and the words behind a `--`, if there is one
pub record Line : Type 0 where
  pub parts : List Part
  pub rest : Option (List (List ℕ))

-- a word that begins with a dash and has more characters: it is no value and no positional word
abbrev pub is_dashed : List ℕ → Bool
is_dashed [] = false
is_dashed (c ∷ []) = false
is_dashed (c ∷ d ∷ cs) = c == 45

-- the word of each option, without a value
abbrev pub option_word : OptionName → List ℕ
option_word Out = codes "--out"
option_word Run = codes "--run"
option_word Steps = codes "--steps"

-- how a part is spelled
abbrev pub part_words : Part → List (List ℕ)
part_words (Joined option value) = (option_word option ++ (61 ∷ value)) ∷ []
part_words (Apart option value) = option_word option ∷ value ∷ []
part_words (Positional word) = word ∷ []

-- a value isn't empty, and one that stands in a word of its own isn't dashed; neither is a positional word
abbrev pub IsPart : Part → Type 0
IsPart (Joined option value) = value ≢ []
IsPart (Apart option value) = (value ≢ []) × (is_dashed value ≡ false)
IsPart (Positional word) = is_dashed word ≡ false

-- how what stands behind the options is spelled
abbrev pub rest_words : Option (List (List ℕ)) → List (List ℕ)
rest_words None = []
rest_words (Some words) = codes "--" ∷ words

-- these words are this line
pub record IsSpelled (words : List (List ℕ)) (line : Line) : Type 0 where
  pub spelled : words ≡ flat_map part_words line.parts ++ rest_words line.rest
  pub parts : AllByRecursion IsPart line.parts

-- whether two options are the same
abbrev pub same_option : OptionName → OptionName → Bool
same_option Out Out = true
same_option Out Run = false
same_option Out Steps = false
same_option Run Out = false
same_option Run Run = true
same_option Run Steps = false
same_option Steps Out = false
same_option Steps Run = false
same_option Steps Steps = true

-- the value alone, or nothing
abbrev pub value_if : Bool → List ℕ → List (List ℕ)
value_if true value = value ∷ []
value_if false value = []

-- the values that a part gives an option
abbrev pub part_values : OptionName → Part → List (List ℕ)
part_values wanted (Joined option value) = value_if (same_option option wanted) value
part_values wanted (Apart option value) = value_if (same_option option wanted) value
part_values wanted (Positional word) = []

-- the values that an option has on a line, in order
abbrev pub values_of : OptionName → List Part → List (List ℕ)
values_of wanted parts = flat_map (part_values wanted) parts

-- the positional word of a part, if it is one
abbrev pub part_positionals : Part → List (List ℕ)
part_positionals (Joined option value) = []
part_positionals (Apart option value) = []
part_positionals (Positional word) = word ∷ []

-- the words behind `--`; each of them is positional, with a dash or without
abbrev pub words_in : Option (List (List ℕ)) → List (List ℕ)
words_in None = []
words_in (Some words) = words

-- the positional words that stand before `--`
abbrev pub parts_positionals : List Part → List (List ℕ)
parts_positionals parts = flat_map part_positionals parts

-- the positional words of a line, in order
abbrev pub positionals_of : Line → List (List ℕ)
positionals_of line = parts_positionals line.parts ++ words_in line.rest

-- the words behind the program's name are this line, and no option stands twice
pub record IsLine (words : List (List ℕ)) (line : Line) : Type 0 where
  pub is_spelled : IsSpelled (drop 1 words) line
  pub once : (option : OptionName) → length (values_of option line.parts) ≤ 1
