-- The line of words, cut from left to right.
use Rattle.std.specs.Prelude.{ℕ, Bool, true, false, List, [], ◌∷◌, ◌++◌, length, drop, codes, nat_eq, if◌then◌else◌}
use Rattle.std.specs.Str.{bytes_eq}
use Rattle.std.specs.List.{starts_with}
use Rattle.std.specs.declared.option.Option.{Option}
use Rattle.std.specs.declared.option.Option.TheVariants.{Some, None}
use Rattle.jc_words.specs.Line.{OptionName, Out, Run, Steps, Part, Joined, Apart, Positional, Line, is_dashed, option_word}

-- what a word is where an option or a positional word may stand: a positional word; `--`, behind which all words are positional; an
-- option whose value is the next word; an option with its value, after an equals sign; or what looks like an option, and javag has none like it
pub data Sort : Type 0 where
  PositionalWord : Sort
  End : Sort
  Opens : OptionName → Sort
  Holds : OptionName → Sort
  Unknown : Sort

-- what a word makes of the line so far: a part, which may be the value that was waited for; an option that waits for its value; the
-- end of the options; or nothing, as it breaks a rule on options
pub data Taken : Type 0 where
  Whole : Part → Taken
  Opened : OptionName → Taken
  Closed : Taken
  Wrong : Taken

-- the start of a word that holds its option's value: the option's name and `=`
abbrev pub equals_word : OptionName → List ℕ
equals_word option = option_word option ++ (61 ∷ [])

-- what a word is that is no option's name alone: one that holds an option's value, maybe an empty one, or an unknown one
abbrev pub joined_sort : List ℕ → Sort
joined_sort word =
    if starts_with nat_eq word (codes "--out=") then Holds Out else
    if starts_with nat_eq word (codes "--run=") then Holds Run else
    if starts_with nat_eq word (codes "--steps=") then Holds Steps else Unknown

-- what a word with a dash and more is
abbrev pub dashed_sort : List ℕ → Sort
dashed_sort word =
    if bytes_eq word (codes "--") then End else
    if bytes_eq word (codes "--out") then Opens Out else
    if bytes_eq word (codes "--run") then Opens Run else
    if bytes_eq word (codes "--steps") then Opens Steps else joined_sort word

-- what a word is where an option or a positional word may stand
abbrev pub sort_of : List ℕ → Sort
sort_of word = if is_dashed word then dashed_sort word else PositionalWord

-- an empty word is no value of an option
abbrev pub is_empty : List ℕ → Bool
is_empty [] = true
is_empty (c ∷ cs) = false

-- what stands behind the `=` of a word that holds its value
abbrev pub value_after : OptionName → List ℕ → List ℕ
value_after option word = drop (length (equals_word option)) word

-- what an option makes with the word behind it
abbrev pub with_next : OptionName → List ℕ → Taken
with_next option value = if is_empty value then Wrong else if is_dashed value then Wrong else Whole (Apart option value)

-- what an option makes with the value in its word
abbrev pub with_held : OptionName → List ℕ → Taken
with_held option value = if is_empty value then Wrong else Whole (Joined option value)

-- what a word of this sort makes where no option waits for its value
abbrev pub by_sort : Sort → List ℕ → Taken
by_sort PositionalWord word = Whole (Positional word)
by_sort End word = Closed
by_sort (Opens option) word = Opened option
by_sort (Holds option) word = with_held option (value_after option word)
by_sort Unknown word = Wrong

-- what a word makes, behind an option that waits for its value
abbrev pub taken : Option OptionName → List ℕ → Taken
taken (Some option) word = with_next option word
taken None word = by_sort (sort_of word) word

-- a line with these parts first
abbrev pub prepend : List Part → Option Line → Option Line
prepend parts None = None
prepend parts (Some line) = Some (record line { parts = parts ++ line.parts })

-- how the line goes on behind what a word made: `line` gives the line of the other words, by the option that waits; a wrong word has none
abbrev pub go_on : Taken → List (List ℕ) → (Option OptionName → Option Line) → Option Line
go_on (Whole part) words line = prepend (part ∷ []) (line None)
go_on (Opened option) words line = line (Some option)
go_on Closed words line = Some (record { parts = []; rest = Some words })
go_on Wrong words line = None

-- the line of no words; there is none while an option waits for its value
abbrev pub at_end : Option OptionName → Option Line
at_end None = Some (record { parts = []; rest = None })
at_end (Some option) = None

-- the line of these words, behind an option that waits for its value
unfoldable pub cut : Option OptionName → List (List ℕ) → Option Line
cut pending [] = at_end pending
cut pending (word ∷ words) = go_on (taken pending word) words (λ next. cut next words)
