-- javag's command as clap builds it, and what each part of a line does to the rows of clap's matches.
use Rattle.std.proofs.Common.{◌≡◌, ◌∙◌, ◌&&◌, ℕ, Bool, true, false, List, [], ◌∷◌, ◌++◌, refl, ap, ap₂, arith, length, lt-ltb, codes, Some}
use Rattle.std.specs.Prelude.{if◌then◌else◌}
use Rattle.std.specs.Str.{bytes_eq}
use Rattle.clap.specs.Walk.{Row, Rule, Text, all_of, has_row, used, reading_by, with_values}
use Rattle.clap.specs.Simple.{App, Shape, is_simple}
use Rattle.clap.specs.Faults.{use_fault, repeat_fault, is_simple_and_free}
use Rattle.clap.specs.Kinds.{Kinds, or_else}
use Rattle.clap.specs.declared.error.kind.ErrorKind.TheVariants.{ArgumentConflict, InvalidValue}
use Rattle.clap.specs.declared.builder.range.ValueRange.{ValueRange}
use Rattle.clap.specs.declared.builder.value_parser.ValueParser.TheVariants.{String as AnyText}
use Rattle.clap.specs.declared.parser.matches.ValueSource.TheVariants.{CommandLine}
use Rattle.jc_words.specs.Line.{OptionName, Out, Run, Steps, Part, Joined, Apart, Positional, same_option}
use Rattle.jc_words.specs.Command.{option_rule, words_rule, command_app}
use Rattle.jc_words.proofs.Rows.{seen, with_values-same, with_values-other, without-none, seen-none}

-- ---- the command as it is built

abbrev pub name_of : OptionName → Text
name_of Out = codes "out"
name_of Run = codes "run"
name_of Steps = codes "steps"

abbrev pub words_name : Text
words_name = codes "words"

abbrev pub one_value : ValueRange
one_value = record { start_inclusive = 1; end_inclusive = 1 }

abbrev pub full_option : OptionName → Rule
full_option o = record (option_rule (name_of o)) { range = Some one_value }

abbrev pub full_words : Rule
full_words = record words_rule { index = Some 1; range = Some one_value; parser = Some AnyText }

abbrev pub full_rules : List Rule
full_rules = full_option Out ∷ full_option Run ∷ full_option Steps ∷ full_words ∷ []

abbrev pub full_shape : Shape
full_shape = record command_app.top { rules = full_rules; disable_help_subcommand = true; is_built = true }

abbrev pub full_app : App
full_app = record { top = full_shape; subs = [] }

pub command_simple : is_simple command_app ≡ true
command_simple = refl

pub command_simple_and_free : is_simple_and_free command_app ≡ true
command_simple_and_free = refl

-- ---- kinds of faults

pub or_else-nil : (a : Kinds) → or_else a [] ≡ a
or_else-nil [] = refl
or_else-nil (k ∷ ks) = refl

pub or_else-assoc : (a b c : Kinds) → or_else (or_else a b) c ≡ or_else a (or_else b c)
or_else-assoc [] b c = refl
or_else-assoc (k ∷ ks) b c = refl

pub or_else-first : (a b : Kinds) → or_else a b ≡ [] → a ≡ []
or_else-first [] b e = refl
or_else-first (k ∷ ks) b e = e

pub or_else-rest : (a b : Kinds) → or_else a b ≡ [] → b ≡ []
or_else-rest [] b e = e
or_else-rest (k ∷ ks) b e = cc

-- ---- one part of a line

abbrev pub rule_of_part : Part → Rule
rule_of_part (Joined o value) = full_option o
rule_of_part (Apart o value) = full_option o
rule_of_part (Positional word) = full_words

abbrev pub text_of_part : Part → Text
text_of_part (Joined o value) = value
text_of_part (Apart o value) = value
text_of_part (Positional word) = word

-- the rows after the part, and the fault that it is
unfoldable pub used_by : List Row → Part → List Row
used_by rows part = used (rule_of_part part) (text_of_part part ∷ []) rows

unfoldable pub part_fault : List Row → Part → Kinds
part_fault rows part = use_fault false (rule_of_part part) (text_of_part part ∷ []) rows

-- the same of several parts
abbrev pub rows_by : List Row → List Part → List Row
rows_by rows [] = rows
rows_by rows (part ∷ parts) = rows_by (used_by rows part) parts

abbrev pub fault_by : List Row → List Part → Kinds
fault_by rows [] = []
fault_by rows (part ∷ parts) = or_else (part_fault rows part) (fault_by (used_by rows part) parts)

-- ---- an option

-- the fault of a value, by the tests: the option has a row already, and the value has characters
abbrev fault_when : Bool → Bool → Kinds
fault_when again some = or_else (if again && true then ArgumentConflict ∷ [] else []) (or_else (if some then [] else InvalidValue ∷ []) [])

-- an option that is taken has no row yet
pub taken_once : (o : OptionName) (value : Text) (rows : List Row) → part_fault rows (Joined o value) ≡ [] → has_row (name_of o) rows ≡ false
unfolding part_fault
taken_once o value rows e = go (has_row (name_of o) rows) refl (or_else-first (repeat_fault false (name_of o) rows) _ e)
  where
    go : (again : Bool) → has_row (name_of o) rows ≡ again → (if again && true then ArgumentConflict ∷ [] else []) ≡ [] → has_row (name_of o) rows ≡ false
    go true h e = cc
    go false h e = h

-- an empty value is a fault
pub empty_fault : (o : OptionName) (rows : List Row) → part_fault rows (Joined o []) ≡ [] → ⊥
unfolding part_fault
empty_fault o rows e =
    let none : InvalidValue ∷ [] ≡ [] = or_else-rest (repeat_fault false (name_of o) rows) (InvalidValue ∷ []) e in
    cc

-- an option without a row takes a value
pub takes_value : (o : OptionName) (c : ℕ) (cs : Text) (rows : List Row) → has_row (name_of o) rows ≡ false → part_fault rows (Joined o (c ∷ cs)) ≡ []
unfolding part_fault
takes_value o c cs rows e = ap₂ fault_when e (lt-ltb 0 (length (c ∷ cs)) (omega arith))

-- the option has the value, and all else is as before
pub option_rows : (o : OptionName) (value : Text) (rows : List Row) → has_row (name_of o) rows ≡ false → all_of (name_of o) (used_by rows (Joined o value)) ≡ Some (value ∷ [])
unfolding used_by
option_rows o value rows e =
    ap (λ (before : List Row). all_of (name_of o) (with_values (name_of o) (reading_by (full_option o)) CommandLine (value ∷ []) before)) (without-none (name_of o) rows e)
    ∙ with_values-same (name_of o) (reading_by (full_option o)) CommandLine (value ∷ []) rows
    ∙ ap (λ (values : List Text). Some (values ++ value ∷ [])) (seen-none (name_of o) rows e)

pub option_others : (o : OptionName) (value : Text) (rows : List Row) (id : Text) → has_row (name_of o) rows ≡ false → bytes_eq (name_of o) id ≡ false
    → all_of id (used_by rows (Joined o value)) ≡ all_of id rows
unfolding used_by
option_others o value rows id e d =
    ap (λ (before : List Row). all_of id (with_values (name_of o) (reading_by (full_option o)) CommandLine (value ∷ []) before)) (without-none (name_of o) rows e)
    ∙ with_values-other (name_of o) (reading_by (full_option o)) CommandLine (value ∷ []) id d rows

-- both forms of an option are one
pub apart_fault : (o : OptionName) (value : Text) (rows : List Row) → part_fault rows (Apart o value) ≡ part_fault rows (Joined o value)
unfolding part_fault
apart_fault o value rows = refl

pub apart_rows : (o : OptionName) (value : Text) (rows : List Row) → used_by rows (Apart o value) ≡ used_by rows (Joined o value)
unfolding used_by
apart_rows o value rows = refl

-- ---- a positional word

pub word_fault_none : (word : Text) (rows : List Row) → part_fault rows (Positional word) ≡ []
unfolding part_fault
word_fault_none word rows = refl

pub word_rows : (word : Text) (rows : List Row) → all_of words_name (used_by rows (Positional word)) ≡ Some (seen words_name rows ++ word ∷ [])
unfolding used_by
word_rows word rows = with_values-same words_name (reading_by full_words) CommandLine (word ∷ []) rows

pub word_others : (word : Text) (rows : List Row) (o : OptionName) → all_of (name_of o) (used_by rows (Positional word)) ≡ all_of (name_of o) rows
unfolding used_by
word_others word rows Out = with_values-other words_name (reading_by full_words) CommandLine (word ∷ []) (name_of Out) refl rows
word_others word rows Run = with_values-other words_name (reading_by full_words) CommandLine (word ∷ []) (name_of Run) refl rows
word_others word rows Steps = with_values-other words_name (reading_by full_words) CommandLine (word ∷ []) (name_of Steps) refl rows

-- ---- names

pub words_unlike : (o : OptionName) → bytes_eq (name_of o) words_name ≡ false
words_unlike Out = refl
words_unlike Run = refl
words_unlike Steps = refl

pub options_same : (a b : OptionName) → same_option a b ≡ true → a ≡ b
options_same Out Out e = refl
options_same Out Run e = cc
options_same Out Steps e = cc
options_same Run Out e = cc
options_same Run Run e = refl
options_same Run Steps e = cc
options_same Steps Out e = cc
options_same Steps Run e = cc
options_same Steps Steps e = refl

pub names_unlike : (a b : OptionName) → same_option a b ≡ false → bytes_eq (name_of a) (name_of b) ≡ false
names_unlike Out Out e = cc
names_unlike Out Run e = refl
names_unlike Out Steps e = refl
names_unlike Run Out e = refl
names_unlike Run Run e = cc
names_unlike Run Steps e = refl
names_unlike Steps Out e = refl
names_unlike Steps Run e = refl
names_unlike Steps Steps e = cc

pub option_same : (o : OptionName) → same_option o o ≡ true
option_same Out = refl
option_same Run = refl
option_same Steps = refl
