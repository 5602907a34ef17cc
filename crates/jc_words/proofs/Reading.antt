-- clap's walk over the words comes to what the line of the words comes to, part by part, and fails where the words have none.
use Rattle.std.proofs.Common.{◌≡◌, ◌∙◌, Bool, true, false, List, [], ◌∷◌, ◌++◌, map, refl, sym, ap, Option, Some, None}
use Rattle.std.specs.Prelude.{if◌then◌else◌}
use Rattle.std.specs.List.{AllByRecursion}
use Rattle.std.specs.Str.{IsUtf8}
use Rattle.clap.specs.Walk.{Row, Text, Waiting, Walk, idle, option, positional, walked}
use Rattle.clap.specs.Faults.{turn_fault}
use Rattle.clap.specs.Kinds.{Kinds, or_else}
use Rattle.clap.specs.declared.error.kind.ErrorKind.TheVariants.{InvalidValue}
use Rattle.jc_words.specs.Line.{OptionName, Part, Joined, Apart, Positional, Line, is_dashed, words_in}
use Rattle.jc_words.proofs.Cut.{Sort, PositionalWord, End, Opens, Holds, Unknown, Taken, Whole, Wrong, cut, by_sort, sort_of, with_next, with_held, value_after, equals_word, prepend, go_on}
use Rattle.jc_words.proofs.Sorts.{begins, holds_begins, opens_is, end_is, positional_is}
use Rattle.jc_words.proofs.Uses.{name_of, words_name, full_rules, full_shape, or_else-nil, or_else-assoc, or_else-first, or_else-rest, used_by, part_fault, rows_by, fault_by, empty_fault, apart_fault}
use Rattle.jc_words.proofs.Walks.{Pending, no_names, ahead, behind, settling, settled_at, fault_from, rows_from, ends, steps_on, turn_refuses, opens_turn, opens_walk, waits_fault, holds_turn, holds_walk, end_turn, end_walk, unknown_turn, value_turn, value_walk, value_fault, value_rows, open_for, word_turn, word_walk, behind_turn, behind_walk}

-- the parts of a line, and the words behind `--` as positional words
abbrev pub all_parts : Line → List Part
all_parts line = line.parts ++ map Positional (words_in line.rest)

-- a fault and rows are those of a line, behind a first fault and from these rows on; without a line there is a fault
abbrev pub Reads : Option Line → Kinds → List Row → Kinds → List Row → Type 0
Reads None first rows fault after = fault ≡ [] → ⊥
Reads (Some line) first rows fault after = (fault ≡ or_else first (fault_by rows (all_parts line))) × (after ≡ rows_by rows (all_parts line))

moved : (l : Option Line) (first : Kinds) (rows : List Row) (f g : Kinds) (a b : List Row) → f ≡ g → a ≡ b → Reads l first rows g b → Reads l first rows f a
moved None first rows f g a b e d r = λ n. r (sym e ∙ n)
moved (Some line) first rows f g a b e d r = (e ∙ r.0, d ∙ r.1)

-- a first fault before what has none
later : (l : Option Line) (first : Kinds) (rows : List Row) (fault : Kinds) (after : List Row) → Reads l [] rows fault after → Reads l first rows (or_else first fault) after
later None first rows fault after r = λ n. r (or_else-rest first fault n)
later (Some line) first rows fault after r = (ap (or_else first) r.0, r.1)

-- a part before the others
part_more : (l : Option Line) (part : Part) (first : Kinds) (rows : List Row) (fault : Kinds) (after : List Row)
    → Reads l (part_fault rows part) (used_by rows part) fault after → Reads (prepend (part ∷ []) l) first rows (or_else first fault) after
part_more None part first rows fault after r = λ n. r (or_else-rest first fault n)
part_more (Some line) part first rows fault after r = (ap (or_else first) r.0, r.1)

-- where the first fault is one, so is the whole
first_stays : (l : Option Line) (first : Kinds) (rows : List Row) (fault : Kinds) (after : List Row) → (first ≡ [] → ⊥) → Reads l first rows fault after → fault ≡ [] → ⊥
first_stays None first rows fault after f r = r
first_stays (Some line) first rows fault after f r = λ n. f (or_else-first first _ (sym r.0 ∙ n))

-- ---- behind `--`

pub behind_reads : (words : List Text) (waiting : Waiting) (rows : List Row) (pending : Pending)
    → (fault_from (behind waiting rows pending) words ≡ or_else (settling rows pending) (fault_by (settled_at rows pending) (map Positional words)))
    × (rows_from (behind waiting rows pending) words ≡ rows_by (settled_at rows pending) (map Positional words))
unfolding used_by part_fault
behind_reads [] waiting rows pending = (ends (behind waiting rows pending) ∙ sym (or_else-nil (settling rows pending)), refl)
behind_reads (word ∷ words) waiting rows pending =
    let more = behind_reads words positional (settled_at rows pending) (Some (words_name, word ∷ [])) in
    let step = steps_on (behind waiting rows pending) (behind positional (settled_at rows pending) (Some (words_name, word ∷ []))) word words (settling rows pending)
    (behind_turn waiting rows pending word) (behind_walk waiting rows pending word) in
    (step.0 ∙ ap (or_else (settling rows pending)) more.0, step.1 ∙ more.1)

-- ---- where the walk stands

-- with an option that waits for its value or without, and where a positional word may have been the last one
abbrev pub state : Option OptionName → Bool → List Row → Pending → Walk
state None b rows pending = ahead (open_for b) rows pending
state (Some o) b rows pending = ahead (option (name_of o)) rows (Some (name_of o, []))

abbrev pub first_fault : Option OptionName → List Row → Pending → Kinds
first_fault None rows pending = settling rows pending
first_fault (Some o) rows pending = []

abbrev pub first_rows : Option OptionName → List Row → Pending → List Row
first_rows None rows pending = settled_at rows pending
first_rows (Some o) rows pending = rows

abbrev pub Walks : List Text → Type 0
Walks words = (waits : Option OptionName) (b : Bool) (rows : List Row) (pending : Pending)
    → Reads (cut waits words) (first_fault waits rows pending) (first_rows waits rows pending) (fault_from (state waits b rows pending) words) (rows_from (state waits b rows pending) words)

-- ---- one word, where no option waits

abbrev NextWalks : Taken → Bool → List Row → Pending → Text → List Text → Type 0
NextWalks t b rows pending word words =
    Reads (go_on t words (λ next. cut next words)) (settling rows pending) (settled_at rows pending) (fault_from (ahead (open_for b) rows pending) (word ∷ words)) (rows_from (ahead (open_for b) rows pending) (word ∷ words))

word_walks : (word : Text) (words : List Text) → is_dashed word ≡ false → Walks words → (b : Bool) (rows : List Row) (pending : Pending) → NextWalks (Whole (Positional word)) b rows pending word words
unfolding used_by part_fault
word_walks word words d walks b rows pending =
    let step = steps_on (ahead (open_for b) rows pending) (ahead positional (settled_at rows pending) (Some (words_name, word ∷ []))) word words (settling rows pending)
    (word_turn b rows pending word d) (word_walk b rows pending word d) in
    moved (prepend (Positional word ∷ []) (cut None words)) (settling rows pending) (settled_at rows pending) _ _ _ _ step.0 step.1
    (part_more (cut None words) (Positional word) (settling rows pending) (settled_at rows pending) _ _ (walks None true (settled_at rows pending) (Some (words_name, word ∷ []))))

holds_walks : (o : OptionName) (value word : Text) (words : List Text) → word ≡ equals_word o ++ value → Walks words → (b : Bool) (rows : List Row) (pending : Pending) → NextWalks (with_held o value) b rows pending word words
holds_walks o value word words w walks b rows pending = go value refl
  where
    part : Part
    part = Joined o value

    after : List Row
    after = used_by (settled_at rows pending) (Joined o value)

    fault : Kinds
    fault = part_fault (settled_at rows pending) (Joined o value)

    step : (fault_from (ahead (open_for b) rows pending) (word ∷ words) ≡ or_else (or_else (settling rows pending) fault) (fault_from (ahead idle after None) words)) × (rows_from (ahead (open_for b) rows pending) (word ∷ words) ≡ rows_from (ahead idle after None) words)
    step = steps_on (ahead (open_for b) rows pending) (ahead idle after None) word words (or_else (settling rows pending) fault)
        (ap (turn_fault full_shape no_names (ahead (open_for b) rows pending)) w ∙ holds_turn o value (open_for b) rows pending)
        (ap (walked full_rules no_names (ahead (open_for b) rows pending)) w ∙ holds_walk o value (open_for b) rows pending)

    go : (v : Text) → value ≡ v → NextWalks (with_held o v) b rows pending word words
    go [] e = λ n.
        let none : part_fault (settled_at rows pending) (Joined o value) ≡ [] =
        or_else-rest (settling rows pending) fault (or_else-first (or_else (settling rows pending) fault) (fault_from (ahead idle after None) words) (sym step.0 ∙ n)) in
        empty_fault o (settled_at rows pending) (ap (λ (t : Text). part_fault (settled_at rows pending) (Joined o t)) (sym e) ∙ none)
    go (c ∷ cs) e =
        rw (← e)
        (moved (prepend (Joined o value ∷ []) (cut None words)) (settling rows pending) (settled_at rows pending) _ _ _ _
        (step.0 ∙ or_else-assoc (settling rows pending) fault (fault_from (ahead idle after None) words)) step.1
        (part_more (cut None words) (Joined o value) (settling rows pending) (settled_at rows pending) _ _
        (later (cut None words) fault after _ _ (walks None false after None))))

sorted_walks : (word : Text) (words : List Text) (s : Sort) → sort_of word ≡ s → IsUtf8 word → Walks words → (b : Bool) (rows : List Row) (pending : Pending) → NextWalks (by_sort s word) b rows pending word words
sorted_walks word words PositionalWord s text walks b rows pending = word_walks word words (positional_is word s) walks b rows pending
sorted_walks word words (Holds o) s text walks b rows pending =
    holds_walks o (value_after o word) word words (begins word (equals_word o) (holds_begins word o s)) walks b rows pending
sorted_walks word words (Opens o) s text walks b rows pending =
    let w = opens_is word o s in
    let step = steps_on (ahead (open_for b) rows pending) (ahead (option (name_of o)) (settled_at rows pending) (Some (name_of o, []))) word words (settling rows pending)
    (ap (turn_fault full_shape no_names (ahead (open_for b) rows pending)) w ∙ opens_turn o (open_for b) rows pending)
    (ap (walked full_rules no_names (ahead (open_for b) rows pending)) w ∙ opens_walk o (open_for b) rows pending) in
    moved (cut (Some o) words) (settling rows pending) (settled_at rows pending) _ _ _ _ step.0 step.1
    (later (cut (Some o) words) (settling rows pending) (settled_at rows pending) _ _ (walks (Some o) b (settled_at rows pending) pending))
sorted_walks word words End s text walks b rows pending =
    let w = end_is word s in
    let step = steps_on (ahead (open_for b) rows pending) (behind (open_for b) rows pending) word words []
    (ap (turn_fault full_shape no_names (ahead (open_for b) rows pending)) w ∙ end_turn (open_for b) rows pending)
    (ap (walked full_rules no_names (ahead (open_for b) rows pending)) w ∙ end_walk (open_for b) rows pending) in
    let rest = behind_reads words (open_for b) rows pending in
    (step.0 ∙ rest.0, step.1 ∙ rest.1)
sorted_walks word words Unknown s text walks b rows pending =
    turn_refuses (ahead (open_for b) rows pending) word words (unknown_turn (open_for b) rows pending word s text)

-- ---- one word, where an option waits

-- a dashed word is no value
dashed_fault : (o : OptionName) (word : Text) (words : List Text) (s : Sort) → sort_of word ≡ s → is_dashed word ≡ true → IsUtf8 word → (rows : List Row)
    → fault_from (ahead (option (name_of o)) rows (Some (name_of o, []))) (word ∷ words) ≡ [] → ⊥
dashed_fault o word words PositionalWord s d text rows = let no = positional_is word s in cc
dashed_fault o word words (Holds p) s d text rows =
    let w = begins word (equals_word p) (holds_begins word p s) in
    let turn = ap (turn_fault full_shape no_names (ahead (option (name_of o)) rows (Some (name_of o, [])))) w ∙ holds_turn p (value_after p word) (option (name_of o)) rows (Some (name_of o, [])) in
    turn_refuses (ahead (option (name_of o)) rows (Some (name_of o, []))) word words (λ n.
    let none = or_else-first (settling rows (Some (name_of o, []))) _ (sym turn ∙ n) in
    let no : InvalidValue ∷ [] ≡ [] = sym (waits_fault o rows) ∙ none in
    cc)
dashed_fault o word words (Opens p) s d text rows =
    let w = opens_is word p s in
    let turn = ap (turn_fault full_shape no_names (ahead (option (name_of o)) rows (Some (name_of o, [])))) w ∙ opens_turn p (option (name_of o)) rows (Some (name_of o, [])) in
    turn_refuses (ahead (option (name_of o)) rows (Some (name_of o, []))) word words (λ n.
    let no : InvalidValue ∷ [] ≡ [] = sym (waits_fault o rows) ∙ sym turn ∙ n in
    cc)
dashed_fault o word words End s d text rows =
    let w = end_is word s in
    let step = steps_on (ahead (option (name_of o)) rows (Some (name_of o, []))) (behind (option (name_of o)) rows (Some (name_of o, []))) word words []
    (ap (turn_fault full_shape no_names (ahead (option (name_of o)) rows (Some (name_of o, [])))) w ∙ end_turn (option (name_of o)) rows (Some (name_of o, [])))
    (ap (walked full_rules no_names (ahead (option (name_of o)) rows (Some (name_of o, [])))) w ∙ end_walk (option (name_of o)) rows (Some (name_of o, []))) in
    let rest = behind_reads words (option (name_of o)) rows (Some (name_of o, [])) in
    λ n.
    let none = or_else-first (settling rows (Some (name_of o, []))) _ (sym (step.0 ∙ rest.0) ∙ n) in
    let no : InvalidValue ∷ [] ≡ [] = sym (waits_fault o rows) ∙ none in
    cc
dashed_fault o word words Unknown s d text rows =
    turn_refuses (ahead (option (name_of o)) rows (Some (name_of o, []))) word words (unknown_turn (option (name_of o)) rows (Some (name_of o, [])) word s text)

abbrev ValueWalks : OptionName → Taken → List Row → Text → List Text → Type 0
ValueWalks o t rows word words =
    Reads (go_on t words (λ next. cut next words)) [] rows (fault_from (ahead (option (name_of o)) rows (Some (name_of o, []))) (word ∷ words)) (rows_from (ahead (option (name_of o)) rows (Some (name_of o, []))) (word ∷ words))

-- what a word that isn't dashed comes to
value_step : (o : OptionName) (word : Text) (words : List Text) → is_dashed word ≡ false → (rows : List Row)
    → (fault_from (ahead (option (name_of o)) rows (Some (name_of o, []))) (word ∷ words) ≡ fault_from (ahead idle rows (Some (name_of o, word ∷ []))) words)
    × (rows_from (ahead (option (name_of o)) rows (Some (name_of o, []))) (word ∷ words) ≡ rows_from (ahead idle rows (Some (name_of o, word ∷ []))) words)
value_step o word words d rows =
    steps_on (ahead (option (name_of o)) rows (Some (name_of o, []))) (ahead idle rows (Some (name_of o, word ∷ []))) word words [] (value_turn o rows word d) (value_walk o rows word d)

-- the rest of the words, behind the value of an option
value_rest : (o : OptionName) (word : Text) (words : List Text) → Walks words → (rows : List Row)
    → Reads (cut None words) (part_fault rows (Apart o word)) (used_by rows (Apart o word)) (fault_from (ahead idle rows (Some (name_of o, word ∷ []))) words) (rows_from (ahead idle rows (Some (name_of o, word ∷ []))) words)
value_rest o word words walks rows =
    rw (← value_fault o rows word, ← value_rows o rows word) (walks None false rows (Some (name_of o, word ∷ [])))

next_walks : (o : OptionName) (word : Text) (words : List Text) → IsUtf8 word → Walks words → (rows : List Row) → ValueWalks o (with_next o word) rows word words
next_walks o [] words text walks rows =
    let step = value_step o [] words refl rows in
    λ n. first_stays (cut None words) (part_fault rows (Apart o [])) (used_by rows (Apart o [])) _ _ (λ f. empty_fault o rows (sym (apart_fault o [] rows) ∙ f)) (value_rest o [] words walks rows) (sym step.0 ∙ n)
next_walks o (c ∷ cs) words text walks rows = go (is_dashed (c ∷ cs)) refl
  where
    go : (dashed : Bool) → is_dashed (c ∷ cs) ≡ dashed → ValueWalks o (if dashed then Wrong else Whole (Apart o (c ∷ cs))) rows (c ∷ cs) words
    go true d = dashed_fault o (c ∷ cs) words (sort_of (c ∷ cs)) refl d text rows
    go false d =
        let step = value_step o (c ∷ cs) words d rows in
        moved (prepend (Apart o (c ∷ cs) ∷ []) (cut None words)) [] rows _ _ _ _ step.0 step.1
        (part_more (cut None words) (Apart o (c ∷ cs)) [] rows _ _ (value_rest o (c ∷ cs) words walks rows))

-- ---- all words

pub reads : (words : List Text) → AllByRecursion IsUtf8 words → Walks words
unfolding cut
reads [] text None b rows pending = (ends (ahead (open_for b) rows pending) ∙ sym (or_else-nil (settling rows pending)), refl)
reads [] text (Some o) b rows pending = λ n.
    let no : InvalidValue ∷ [] ≡ [] = sym (waits_fault o rows) ∙ sym (ends (ahead (option (name_of o)) rows (Some (name_of o, [])))) ∙ n in
    cc
reads (word ∷ words) text None b rows pending = sorted_walks word words (sort_of word) refl text.0 (reads words text.1) b rows pending
reads (word ∷ words) text (Some o) b rows pending = next_walks o word words text.0 (reads words text.1) rows
