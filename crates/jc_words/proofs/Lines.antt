-- clap takes the words exactly where they have a line, and then its matches are what the line says.
use Rattle.std.proofs.Common.{◌≡◌, ◌∙◌, ◌||◌, ◌≤◌, ℕ, Bool, true, false, List, [], ◌∷◌, drop, length, refl, sym, ap, ap₂, subst, is_some, Option, Some, None}
use Rattle.std.specs.Prelude.{if◌then◌else◌, fold}
use Rattle.std.specs.List.{AllByRecursion}
use Rattle.std.specs.Str.{IsUtf8}
use Rattle.clap.specs.Walk.{Row, Rule, Text, default_rows, finished, first_of, has_row, idle, is_empty, nothing_held, reading_by, settled, walk, with_default}
use Rattle.clap.specs.Simple.{entered, matches_of}
use Rattle.clap.specs.Faults.{check_fault, default_fault, defaults_fault, entered_fault, fault_of, given_default_fault, settle_fault, walk_fault}
use Rattle.clap.specs.Kinds.{Kinds, or_else}
use Rattle.jc_words.specs.Line.{OptionName, Line, IsLine, words_in, values_of, positionals_of}
use Rattle.jc_words.specs.Job.{head_of, value_of}
use Rattle.jc_words.specs.Command.{command_app}
use Rattle.jc_words.proofs.Cut.{cut}
use Rattle.jc_words.proofs.Spelling.{cut_spelled, spelled_cut}
use Rattle.jc_words.proofs.Rows.{seen}
use Rattle.jc_words.proofs.Uses.{name_of, words_name, full_rules, full_shape, full_app, or_else-nil, rows_by, fault_by}
use Rattle.jc_words.proofs.Walks.{no_names, ahead, walk_end, fault_from, rows_from}
use Rattle.jc_words.proofs.Reading.{all_parts, Reads, reads}
use Rattle.jc_words.proofs.Parts.{HasRoom, told, told_words, no_fault, values_before, positionals_all, parts_have_text, first_seen}

-- ---- after the walk: no argument has a default, and nothing is required

no_default_fault : (rows : List Row) (a : Rule) → a.defaults ≡ [] → default_fault rows a ≡ []
no_default_fault rows a none = go (has_row a.id rows)
  where
    go : (has : Bool) → (if has || is_empty a.defaults then [] else given_default_fault a a.defaults) ≡ []
    go true = refl
    go false = rw none refl

no_default : (rows : List Row) (a : Rule) → a.defaults ≡ [] → with_default rows a ≡ rows
no_default rows a none = go (has_row a.id rows)
  where
    go : (has : Bool) → (if has then rows else default_rows a.id (reading_by a) a.defaults rows) ≡ rows
    go true = refl
    go false = ap (λ (values : List Text). default_rows a.id (reading_by a) values rows) none

abbrev HasNoDefault : Rule → Type 0
HasNoDefault a = a.defaults ≡ []

no_defaults : (rules : List Rule) (rows : List Row) → AllByRecursion HasNoDefault rules → (defaults_fault rows rules ≡ []) × (fold with_default rows rules ≡ rows)
unfolding defaults_fault
no_defaults [] rows all = (refl, refl)
no_defaults (a ∷ rules) rows all =
    let same = no_default rows a all.0 in
    let more = no_defaults rules rows all.1 in (
      ap₂ or_else (no_default_fault rows a all.0) (ap (λ (after : List Row). defaults_fault after rules) same ∙ more.0),
      ap (λ (after : List Row). fold with_default after rules) same ∙ more.1,
    )

full_defaults : AllByRecursion HasNoDefault full_rules
full_defaults = (refl, (refl, (refl, (refl, tt))))

-- there is no subcommand
not_entered : (stop : Option (Text × List Text)) → entered full_app stop ≡ None
not_entered None = refl
not_entered (Some p) = refl

no_entered_fault : (stop : Option (Text × List Text)) → entered_fault full_app stop ≡ []
no_entered_fault None = refl
no_entered_fault (Some p) = refl

fault_is : (words : List Text) → fault_of command_app words ≡ fault_from (ahead idle [] None) (drop 1 words)
fault_is words =
    let end = walk_end (ahead idle [] None) (drop 1 words) in
    let stop = (walk full_rules no_names nothing_held (drop 1 words)).stopped in
    let first = walk_fault full_shape no_names (ahead idle [] None) (drop 1 words) in
    let last = settle_fault full_rules false end in
    let rows = (settled full_rules end).rows in
    ap₂ (λ (below : Kinds) (has : Bool). or_else first (or_else below (or_else last (or_else (defaults_fault rows full_rules) (check_fault full_shape (finished full_rules end) has)))))
    (no_entered_fault stop) (ap (λ (o : Option (Text × List Row)). is_some o) (not_entered stop))
    ∙ ap (λ (defaults : Kinds). or_else first (or_else last (or_else defaults []))) (no_defaults full_rules rows full_defaults).0
    ∙ ap (or_else first) (or_else-nil last)

pub matches_is : (words : List Text) → matches_of command_app words ≡ rows_from (ahead idle [] None) (drop 1 words)
matches_is words = (no_defaults full_rules (rows_from (ahead idle [] None) (drop 1 words)) full_defaults).1

-- ---- the line

-- what clap's rows say is what the line says
pub record SaysLine (line : Line) (rows : List Row) : Type 0 where
  pub options : (o : OptionName) → first_of (name_of o) rows ≡ value_of o line
  pub words : seen words_name rows ≡ positionals_of line

abbrev HasLine : List (List ℕ) → List Row → Type 0
HasLine words rows = (line : Line) × IsLine words line × SaysLine line rows

line_found : (words : List Text) (cutting : Option Line) (fault : Kinds) (rows : List Row) → cut None (drop 1 words) ≡ cutting → Reads cutting [] [] fault rows → fault ≡ [] → HasLine words rows
line_found words None fault rows e r none = absurd (r none)
line_found words (Some line) fault rows e r none =
    let free : fault_by [] (all_parts line) ≡ [] = sym r.0 ∙ none in
    let before : (o : OptionName) → values_of o (all_parts line) ≡ values_of o line.parts = λ o. values_before o line.parts (words_in line.rest) in (
      line,
      record { is_spelled = cut_spelled None (drop 1 words) line e; once = λ o. subst (λ (values : List Text). length values ≤ 1) (before o) (told (all_parts line) [] free o).0.1 },
      record {
        options = λ o. ap (first_of (name_of o)) r.1 ∙ first_seen (name_of o) (rows_by [] (all_parts line)) ∙ ap head_of ((told (all_parts line) [] free o).1 ∙ before o);
        words = ap (seen words_name) r.1 ∙ told_words (all_parts line) [] free ∙ positionals_all line.parts (words_in line.rest);
      },
    )

-- words that clap takes have a line
pub taken_line : (words : List Text) → AllByRecursion IsUtf8 (drop 1 words) → fault_of command_app words ≡ [] → (line : Line) × IsLine words line × SaysLine line (matches_of command_app words)
taken_line words text none =
    line_found words (cut None (drop 1 words)) (fault_of command_app words) (matches_of command_app words) refl
    (subst (λ (k : Kinds). Reads (cut None (drop 1 words)) [] [] k (matches_of command_app words)) (sym (fault_is words))
    (subst (λ (rows : List Row). Reads (cut None (drop 1 words)) [] [] (fault_from (ahead idle [] None) (drop 1 words)) rows) (sym (matches_is words)) (reads (drop 1 words) text None false [] None))) none

-- words with a line are taken
pub line_taken : (words : List Text) → AllByRecursion IsUtf8 (drop 1 words) → (line : Line) → IsLine words line → fault_of command_app words ≡ []
line_taken words text line is =
    let cutting = spelled_cut (drop 1 words) line is.is_spelled in
    let r : Reads (Some line) [] [] (fault_from (ahead idle [] None) (drop 1 words)) (rows_from (ahead idle [] None) (drop 1 words)) =
    subst (λ (l : Option Line). Reads l [] [] (fault_from (ahead idle [] None) (drop 1 words)) (rows_from (ahead idle [] None) (drop 1 words))) cutting (reads (drop 1 words) text None false [] None) in
    let room : (o : OptionName) → HasRoom (name_of o) [] (values_of o (all_parts line)) = λ o.
    ((λ h. let no : false ≡ true = h in cc), subst (λ (values : List Text). length values ≤ 1) (sym (values_before o line.parts (words_in line.rest))) (is.once o)) in
    fault_is words ∙ r.0 ∙ no_fault (all_parts line) [] (parts_have_text line.parts (words_in line.rest) is.is_spelled.parts) room
