-- Where clap's walk over the words stands after one more word, and what fault the word is.
use Rattle.std.proofs.Common.{◌≡◌, ◌∙◌, ◌&&◌, Bool, true, false, List, [], ◌∷◌, ◌++◌, refl, sym, ap, ap₂, codes, Option, Some, None}
use Rattle.std.specs.Prelude.{if◌then◌else◌, fold}
use Rattle.std.specs.Option.{option_map_or}
use Rattle.std.specs.Str.{IsUtf8}
use Rattle.clap.specs.Lexer.{long_of}
use Rattle.clap.specs.Walk.{Held, Names, Row, Step, Text, Waiting, Walk, idle, option, positional, trailing, after_step, is_pending, long_or_other, plain_word, pushed, settled, settled_rows, short_or_plain, subcommand_met, subcommand_or_other, walked}
use Rattle.clap.specs.Faults.{bundle_fault, flag_word_fault, other_fault, settle_fault, step_fault, turn_fault, walk_fault}
use Rattle.clap.specs.Kinds.{Kinds, or_else}
use Rattle.clap.specs.declared.error.kind.ErrorKind.TheVariants.{InvalidValue, UnknownArgument}
use Rattle.jc_words.specs.Line.{OptionName, Out, Run, Steps, Joined, Apart, is_dashed, option_word}
use Rattle.jc_words.proofs.Cut.{Unknown, sort_of, equals_word}
use Rattle.jc_words.proofs.Uses.{name_of, words_name, full_words, full_rules, full_shape, or_else-nil, or_else-assoc, or_else-first, used_by, part_fault}
use Rattle.jc_words.proofs.Words.{IsPlain, plain_word_is, refused}

abbrev pub no_names : Names
no_names = []

abbrev pub Pending : Type 0
Pending = Option (Text × List Text)

abbrev pub holding : List Row → Pending → Held
holding rows pending = record { rows = rows; pending = pending; skip = 0 }

-- before `--` and behind it
abbrev pub ahead : Waiting → List Row → Pending → Walk
ahead waiting rows pending = record { held = holding rows pending; waiting = waiting; position = 1; is_trailing = false; stopped = None }

abbrev pub behind : Waiting → List Row → Pending → Walk
behind waiting rows pending = record { held = holding rows pending; waiting = waiting; position = 1; is_trailing = true; stopped = None }

-- the fault of what is pending, and the rows once it is used
abbrev pub settling : List Row → Pending → Kinds
settling rows pending = settle_fault full_rules false (holding rows pending)

abbrev pub settled_at : List Row → Pending → List Row
settled_at rows pending = settled_rows full_rules pending rows

abbrev pub walk_end : Walk → List Text → Held
walk_end w words = (fold (walked full_rules no_names) w words).held

-- the fault of the words from a place of the walk on, and the rows at their end
abbrev pub fault_from : Walk → List Text → Kinds
fault_from w words = or_else (walk_fault full_shape no_names w words) (settle_fault full_rules false (walk_end w words))

abbrev pub rows_from : Walk → List Text → List Row
rows_from w words = (settled full_rules (walk_end w words)).rows

fault_step : (w : Walk) (word : Text) (words : List Text) → fault_from w (word ∷ words) ≡ or_else (turn_fault full_shape no_names w word) (fault_from (walked full_rules no_names w word) words)
unfolding walk_fault
fault_step w word words =
    or_else-assoc (turn_fault full_shape no_names w word) (walk_fault full_shape no_names (walked full_rules no_names w word) words)
    (settle_fault full_rules false (walk_end (walked full_rules no_names w word) words))

-- no more words
pub ends : (w : Walk) → fault_from w [] ≡ settle_fault full_rules false w.held
unfolding walk_fault
ends w = refl

-- a word whose fault and step are known
pub steps_on : (w after : Walk) (word : Text) (words : List Text) (turn : Kinds) → turn_fault full_shape no_names w word ≡ turn → walked full_rules no_names w word ≡ after
    → (fault_from w (word ∷ words) ≡ or_else turn (fault_from after words)) × (rows_from w (word ∷ words) ≡ rows_from after words)
steps_on w after word words turn t s = (
  fault_step w word words ∙ ap₂ (λ (k : Kinds) (v : Walk). or_else k (fault_from v words)) t s,
  ap (λ (v : Walk). rows_from v words) s,
)

-- a word that is refused at once
pub turn_refuses : (w : Walk) (word : Text) (words : List Text) → (turn_fault full_shape no_names w word ≡ [] → ⊥) → fault_from w (word ∷ words) ≡ [] → ⊥
turn_refuses w word words refuses e =
    refuses (or_else-first (turn_fault full_shape no_names w word) (fault_from (walked full_rules no_names w word) words) (sym (fault_step w word words) ∙ e))

-- ---- the command has no subcommand

no_subcommand : (waiting : Waiting) (word : Text) → subcommand_met no_names waiting word ≡ None
no_subcommand idle word = refl
no_subcommand (option id) word = refl
no_subcommand positional word = refl

abbrev met : Waiting → List Row → Pending → Text → Held × Step
met waiting rows pending word = subcommand_or_other full_rules None waiting 1 word (holding rows pending)

turn_is : (waiting : Waiting) (rows : List Row) (pending : Pending) (word : Text)
    → turn_fault full_shape no_names (ahead waiting rows pending) word ≡ or_else (other_fault full_shape None word (holding rows pending)) (step_fault full_shape 1 (met waiting rows pending word).0 (met waiting rows pending word).1)
turn_is waiting rows pending word =
    ap (λ (found : Option Text). or_else (other_fault full_shape found word (holding rows pending))
    (step_fault full_shape 1 (subcommand_or_other full_rules found waiting 1 word (holding rows pending)).0 (subcommand_or_other full_rules found waiting 1 word (holding rows pending)).1))
    (no_subcommand waiting word)

walked_is : (waiting : Waiting) (rows : List Row) (pending : Pending) (word : Text)
    → walked full_rules no_names (ahead waiting rows pending) word ≡ after_step full_rules word (ahead waiting rows pending) (met waiting rows pending word).0 (met waiting rows pending word).1
unfolding walked
walked_is waiting rows pending word =
    ap (λ (found : Option Text). after_step full_rules word (ahead waiting rows pending) (subcommand_or_other full_rules found waiting 1 word (holding rows pending)).0
    (subcommand_or_other full_rules found waiting 1 word (holding rows pending)).1) (no_subcommand waiting word)

-- ---- an option that waits for its value

pub opens_turn : (o : OptionName) (waiting : Waiting) (rows : List Row) (pending : Pending) → turn_fault full_shape no_names (ahead waiting rows pending) (option_word o) ≡ settling rows pending
opens_turn Out waiting rows pending = turn_is waiting rows pending (option_word Out) ∙ or_else-nil (settling rows pending)
opens_turn Run waiting rows pending = turn_is waiting rows pending (option_word Run) ∙ or_else-nil (settling rows pending)
opens_turn Steps waiting rows pending = turn_is waiting rows pending (option_word Steps) ∙ or_else-nil (settling rows pending)

pub opens_walk : (o : OptionName) (waiting : Waiting) (rows : List Row) (pending : Pending)
    → walked full_rules no_names (ahead waiting rows pending) (option_word o) ≡ ahead (option (name_of o)) (settled_at rows pending) (Some (name_of o, []))
opens_walk Out waiting rows pending = walked_is waiting rows pending (option_word Out)
opens_walk Run waiting rows pending = walked_is waiting rows pending (option_word Run)
opens_walk Steps waiting rows pending = walked_is waiting rows pending (option_word Steps)

-- what waits without a value is a fault
pub waits_fault : (o : OptionName) (rows : List Row) → settling rows (Some (name_of o, [])) ≡ InvalidValue ∷ []
waits_fault Out rows = refl
waits_fault Run rows = refl
waits_fault Steps rows = refl

-- ---- an option with its value

pub holds_turn : (o : OptionName) (value : Text) (waiting : Waiting) (rows : List Row) (pending : Pending)
    → turn_fault full_shape no_names (ahead waiting rows pending) (equals_word o ++ value) ≡ or_else (settling rows pending) (part_fault (settled_at rows pending) (Joined o value))
unfolding part_fault
holds_turn Out value waiting rows pending = turn_is waiting rows pending (equals_word Out ++ value) ∙ or_else-nil _
holds_turn Run value waiting rows pending = turn_is waiting rows pending (equals_word Run ++ value) ∙ or_else-nil _
holds_turn Steps value waiting rows pending = turn_is waiting rows pending (equals_word Steps ++ value) ∙ or_else-nil _

pub holds_walk : (o : OptionName) (value : Text) (waiting : Waiting) (rows : List Row) (pending : Pending)
    → walked full_rules no_names (ahead waiting rows pending) (equals_word o ++ value) ≡ ahead idle (used_by (settled_at rows pending) (Joined o value)) None
unfolding used_by
holds_walk Out value waiting rows pending = walked_is waiting rows pending (equals_word Out ++ value)
holds_walk Run value waiting rows pending = walked_is waiting rows pending (equals_word Run ++ value)
holds_walk Steps value waiting rows pending = walked_is waiting rows pending (equals_word Steps ++ value)

-- ---- `--`

pub end_turn : (waiting : Waiting) (rows : List Row) (pending : Pending) → turn_fault full_shape no_names (ahead waiting rows pending) (codes "--") ≡ []
end_turn waiting rows pending = turn_is waiting rows pending (codes "--")

pub end_walk : (waiting : Waiting) (rows : List Row) (pending : Pending) → walked full_rules no_names (ahead waiting rows pending) (codes "--") ≡ behind waiting rows pending
end_walk waiting rows pending = walked_is waiting rows pending (codes "--")

-- ---- an unknown word

pub unknown_turn : (waiting : Waiting) (rows : List Row) (pending : Pending) (word : Text) → sort_of word ≡ Unknown → IsUtf8 word
    → turn_fault full_shape no_names (ahead waiting rows pending) word ≡ [] → ⊥
unknown_turn waiting rows pending word u text e =
    let fault = refused word (holding rows pending) refl u text in
    let none = or_else-first (other_fault full_shape None word (holding rows pending)) _ (sym (turn_is waiting rows pending word) ∙ e) in
    let no : UnknownArgument ∷ [] ≡ [] = sym fault ∙ none in
    cc

-- ---- a word that is no flag

plain_met : (waiting : Waiting) (rows : List Row) (pending : Pending) (word : Text) → IsPlain word → met waiting rows pending word ≡ plain_word full_rules waiting word (holding rows pending)
plain_met waiting rows pending word p =
    ap (λ (is_end : Bool). if is_end then (holding rows pending, trailing 1) else long_or_other full_rules waiting word (long_of word) (holding rows pending)) p.not_end
    ∙ ap (λ (long : Option (Text × Option Text)). long_or_other full_rules waiting word long (holding rows pending)) p.not_long
    ∙ ap (λ (flags : Option Text). short_or_plain full_rules waiting word flags (holding rows pending)) p.not_short

plain_fault : (h : Held) (word : Text) → IsPlain word → other_fault full_shape None word h ≡ []
plain_fault h word p =
    ap (λ (is_end : Bool). if is_end then [] else flag_word_fault full_rules false (long_of word) word h) p.not_end
    ∙ ap (λ (long : Option (Text × Option Text)). flag_word_fault full_rules false long word h) p.not_long
    ∙ ap (λ (short : Option Text). option_map_or (λ flags. bundle_fault full_rules false flags h) short []) p.not_short

plain_turn : (waiting : Waiting) (rows : List Row) (pending : Pending) (word : Text) → IsPlain word
    → turn_fault full_shape no_names (ahead waiting rows pending) word ≡ step_fault full_shape 1 (plain_word full_rules waiting word (holding rows pending)).0 (plain_word full_rules waiting word (holding rows pending)).1
plain_turn waiting rows pending word p =
    turn_is waiting rows pending word
    ∙ ap₂ (λ (k : Kinds) (m : Held × Step). or_else k (step_fault full_shape 1 m.0 m.1)) (plain_fault (holding rows pending) word p) (plain_met waiting rows pending word p)

plain_walk : (waiting : Waiting) (rows : List Row) (pending : Pending) (word : Text) → IsPlain word
    → walked full_rules no_names (ahead waiting rows pending) word
    ≡ after_step full_rules word (ahead waiting rows pending) (plain_word full_rules waiting word (holding rows pending)).0 (plain_word full_rules waiting word (holding rows pending)).1
plain_walk waiting rows pending word p =
    walked_is waiting rows pending word
    ∙ ap (λ (m : Held × Step). after_step full_rules word (ahead waiting rows pending) m.0 m.1) (plain_met waiting rows pending word p)

-- the value of an option
pub value_turn : (o : OptionName) (rows : List Row) (word : Text) → is_dashed word ≡ false → turn_fault full_shape no_names (ahead (option (name_of o)) rows (Some (name_of o, []))) word ≡ []
value_turn Out rows word d = plain_turn (option (name_of Out)) rows (Some (name_of Out, [])) word (plain_word_is word d)
value_turn Run rows word d = plain_turn (option (name_of Run)) rows (Some (name_of Run, [])) word (plain_word_is word d)
value_turn Steps rows word d = plain_turn (option (name_of Steps)) rows (Some (name_of Steps, [])) word (plain_word_is word d)

pub value_walk : (o : OptionName) (rows : List Row) (word : Text) → is_dashed word ≡ false
    → walked full_rules no_names (ahead (option (name_of o)) rows (Some (name_of o, []))) word ≡ ahead idle rows (Some (name_of o, word ∷ []))
value_walk Out rows word d = plain_walk (option (name_of Out)) rows (Some (name_of Out, [])) word (plain_word_is word d)
value_walk Run rows word d = plain_walk (option (name_of Run)) rows (Some (name_of Run, [])) word (plain_word_is word d)
value_walk Steps rows word d = plain_walk (option (name_of Steps)) rows (Some (name_of Steps, [])) word (plain_word_is word d)

pub value_fault : (o : OptionName) (rows : List Row) (word : Text) → settling rows (Some (name_of o, word ∷ [])) ≡ part_fault rows (Apart o word)
unfolding part_fault
value_fault Out rows word = refl
value_fault Run rows word = refl
value_fault Steps rows word = refl

pub value_rows : (o : OptionName) (rows : List Row) (word : Text) → settled_at rows (Some (name_of o, word ∷ [])) ≡ used_by rows (Apart o word)
unfolding used_by
value_rows Out rows word = refl
value_rows Run rows word = refl
value_rows Steps rows word = refl

-- ---- a positional word

one_at_a_time : {X : Type 0} (b : Bool) (x y : X) → (if b && false then x else y) ≡ y
one_at_a_time true x y = refl
one_at_a_time false x y = refl

-- where a positional word may stand
abbrev pub open_for : Bool → Waiting
open_for b = if b then positional else idle

pub word_turn : (b : Bool) (rows : List Row) (pending : Pending) (word : Text) → is_dashed word ≡ false → turn_fault full_shape no_names (ahead (open_for b) rows pending) word ≡ settling rows pending
word_turn true rows pending word d =
    plain_turn positional rows pending word (plain_word_is word d) ∙ one_at_a_time (is_pending full_words pending) [] (settling rows pending)
word_turn false rows pending word d =
    plain_turn idle rows pending word (plain_word_is word d) ∙ one_at_a_time (is_pending full_words pending) [] (settling rows pending)

-- the walk after a positional word
abbrev with_word : Bool → Text → Held → Walk
with_word is_trailing word h = record { held = pushed words_name word h; waiting = positional; position = 1; is_trailing = is_trailing; stopped = None }

pub word_walk : (b : Bool) (rows : List Row) (pending : Pending) (word : Text) → is_dashed word ≡ false
    → walked full_rules no_names (ahead (open_for b) rows pending) word ≡ ahead positional (settled_at rows pending) (Some (words_name, word ∷ []))
word_walk true rows pending word d =
    plain_walk positional rows pending word (plain_word_is word d)
    ∙ ap (with_word false word) (one_at_a_time (is_pending full_words pending) (holding rows pending) (settled full_rules (holding rows pending)))
word_walk false rows pending word d =
    plain_walk idle rows pending word (plain_word_is word d)
    ∙ ap (with_word false word) (one_at_a_time (is_pending full_words pending) (holding rows pending) (settled full_rules (holding rows pending)))

pub behind_turn : (waiting : Waiting) (rows : List Row) (pending : Pending) (word : Text) → turn_fault full_shape no_names (behind waiting rows pending) word ≡ settling rows pending
behind_turn waiting rows pending word = one_at_a_time (is_pending full_words pending) [] (settling rows pending)

pub behind_walk : (waiting : Waiting) (rows : List Row) (pending : Pending) (word : Text)
    → walked full_rules no_names (behind waiting rows pending) word ≡ behind positional (settled_at rows pending) (Some (words_name, word ∷ []))
unfolding walked
behind_walk waiting rows pending word =
    ap (with_word true word) (one_at_a_time (is_pending full_words pending) (holding rows pending) (settled full_rules (holding rows pending)))
