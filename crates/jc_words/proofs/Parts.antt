-- The parts of a line are no fault of clap's where each option stands once and has a value, and then its rows have what the parts say.
use Rattle.std.proofs.Common.{◌≡◌, ◌≢◌, ◌∙◌, ◌≤◌, Bool, true, false, List, [], ◌∷◌, ◌++◌, map, length, refl, sym, ap, subst, arith, append-nil, append_assoc, is_some, Option, Some, None}
use Rattle.std.specs.Prelude.{find, option_map, option_and_then, slice_get, unwrap_or}
use Rattle.std.specs.List.{AllByRecursion}
use Rattle.std.specs.Str.{bytes_eq}
use Rattle.clap.specs.Walk.{Row, Text, all_of, first_of, has_row}
use Rattle.jc_words.specs.Line.{OptionName, Part, Joined, Apart, Positional, IsPart, same_option, value_if, part_values, values_of, part_positionals, parts_positionals}
use Rattle.jc_words.specs.Job.{head_of}
use Rattle.jc_words.proofs.Rows.{seen, has_row-all, seen-none}
use Rattle.jc_words.proofs.Uses.{name_of, words_name, or_else-first, or_else-rest, used_by, part_fault, rows_by, fault_by, taken_once, takes_value, option_rows, option_others, apart_fault, apart_rows, word_fault_none, word_rows, word_others, words_unlike, options_same, names_unlike, option_same}
use Rattle.clap.specs.Kinds.{or_else}

-- an id has room for these values: none where it has a row already, and at most one
abbrev pub HasRoom : Text → List Row → List Text → Type 0
HasRoom id rows values = (has_row id rows ≡ true → values ≡ []) × (length values ≤ 1)

-- and in the end it has them, behind those that it had
abbrev pub IsTold : Text → List Row → List Text → List Text → Type 0
IsTold id rows values final = HasRoom id rows values × (final ≡ seen id rows ++ values)

seen_same : (id : Text) (rows after : List Row) → all_of id after ≡ all_of id rows → seen id after ≡ seen id rows
seen_same id rows after a = ap (λ (o : Option (List Text)). unwrap_or o []) a

has_same : (id : Text) (rows after : List Row) → all_of id after ≡ all_of id rows → has_row id after ≡ has_row id rows
has_same id rows after a = has_row-all id after ∙ ap (λ (o : Option (List Text)). is_some o) a ∙ sym (has_row-all id rows)

has_now : (id : Text) (values : List Text) (after : List Row) → all_of id after ≡ Some values → has_row id after ≡ true
has_now id values after a = has_row-all id after ∙ ap (λ (o : Option (List Text)). is_some o) a

-- an id whose rows stay
told_other : (id : Text) (values : List Text) (rows after : List Row) (final : List Text) → all_of id after ≡ all_of id rows → IsTold id after values final → IsTold id rows values final
told_other id values rows after final a t =
    (((λ h. t.0.0 (has_same id rows after a ∙ h)), t.0.1), t.1 ∙ ap (λ (before : List Text). before ++ values) (seen_same id rows after a))

-- an id that has one value now
told_own : (id value : Text) (values : List Text) (rows after : List Row) (final : List Text) → has_row id rows ≡ false → all_of id after ≡ Some (value ∷ []) → IsTold id after values final → IsTold id rows (value ∷ values) final
told_own id value values rows after final none a t =
    let rest : values ≡ [] = t.0.0 (has_now id (value ∷ []) after a) in
    let one : length (value ∷ values) ≤ 1 = omega (arith, ap length rest) in
    let all : final ≡ seen id rows ++ (value ∷ values) =
    t.1 ∙ ap (λ (o : Option (List Text)). unwrap_or o [] ++ values) a ∙ ap (λ (before : List Text). before ++ (value ∷ values)) (sym (seen-none id rows none)) in
    (((λ h. let no : true ≡ false = sym h ∙ none in cc), one), all)

-- an option with its value before the other parts
told_option : (p : OptionName) (value : Text) (rows : List Row) → part_fault rows (Joined p value) ≡ [] → (o : OptionName) (values final : List Text)
    → IsTold (name_of o) (used_by rows (Joined p value)) values final → IsTold (name_of o) rows (value_if (same_option p o) value ++ values) final
told_option p value rows e o values final t = go (same_option p o) refl
  where
    none : has_row (name_of p) rows ≡ false
    none = taken_once p value rows e

    go : (same : Bool) → same_option p o ≡ same → IsTold (name_of o) rows (value_if same value ++ values) final
    go true s =
        let is : p ≡ o = options_same p o s in
        told_own (name_of o) value values rows (used_by rows (Joined p value)) final (subst (λ (q : OptionName). has_row (name_of q) rows ≡ false) is none)
        (subst (λ (q : OptionName). all_of (name_of q) (used_by rows (Joined p value)) ≡ Some (value ∷ [])) is (option_rows p value rows none)) t
    go false s = told_other (name_of o) values rows (used_by rows (Joined p value)) final (option_others p value rows (name_of o) none (names_unlike p o s)) t

-- parts without a fault: each option at most once, and the rows have its value
pub told : (parts : List Part) (rows : List Row) → fault_by rows parts ≡ [] → (o : OptionName) → IsTold (name_of o) rows (values_of o parts) (seen (name_of o) (rows_by rows parts))
told [] rows e o = (((λ h. refl), omega arith), sym (append-nil (seen (name_of o) rows)))
told (Joined p value ∷ parts) rows e o =
    told_option p value rows (or_else-first (part_fault rows (Joined p value)) _ e) o (values_of o parts) _
    (told parts (used_by rows (Joined p value)) (or_else-rest (part_fault rows (Joined p value)) _ e) o)
told (Apart p value ∷ parts) rows e o =
    let first : part_fault rows (Joined p value) ≡ [] = sym (apart_fault p value rows) ∙ or_else-first (part_fault rows (Apart p value)) _ e in
    told_option p value rows first o (values_of o parts) _
    (subst (λ (after : List Row). IsTold (name_of o) after (values_of o parts) (seen (name_of o) (rows_by (used_by rows (Apart p value)) parts))) (apart_rows p value rows)
    (told parts (used_by rows (Apart p value)) (or_else-rest (part_fault rows (Apart p value)) _ e) o))
told (Positional word ∷ parts) rows e o =
    told_other (name_of o) (values_of o parts) rows (used_by rows (Positional word)) _ (word_others word rows o)
    (told parts (used_by rows (Positional word)) (or_else-rest (part_fault rows (Positional word)) _ e) o)

-- and the positional words
option_words : (p : OptionName) (value : Text) (rows : List Row) → part_fault rows (Joined p value) ≡ [] → seen words_name (used_by rows (Joined p value)) ≡ seen words_name rows
option_words p value rows e =
    seen_same words_name rows (used_by rows (Joined p value)) (option_others p value rows words_name (taken_once p value rows e) (words_unlike p))

pub told_words : (parts : List Part) (rows : List Row) → fault_by rows parts ≡ [] → seen words_name (rows_by rows parts) ≡ seen words_name rows ++ parts_positionals parts
told_words [] rows e = sym (append-nil (seen words_name rows))
told_words (Joined p value ∷ parts) rows e =
    told_words parts (used_by rows (Joined p value)) (or_else-rest (part_fault rows (Joined p value)) _ e)
    ∙ ap (λ (before : List Text). before ++ parts_positionals parts) (option_words p value rows (or_else-first (part_fault rows (Joined p value)) _ e))
told_words (Apart p value ∷ parts) rows e =
    told_words parts (used_by rows (Apart p value)) (or_else-rest (part_fault rows (Apart p value)) _ e)
    ∙ ap (λ (before : List Text). before ++ parts_positionals parts)
    (ap (seen words_name) (apart_rows p value rows) ∙ option_words p value rows (sym (apart_fault p value rows) ∙ or_else-first (part_fault rows (Apart p value)) _ e))
told_words (Positional word ∷ parts) rows e =
    told_words parts (used_by rows (Positional word)) (or_else-rest (part_fault rows (Positional word)) _ e)
    ∙ ap (λ (o : Option (List Text)). unwrap_or o [] ++ parts_positionals parts) (word_rows word rows)
    ∙ append_assoc (seen words_name rows) (word ∷ []) (parts_positionals parts)

-- ---- where each option stands once

-- no value is empty
abbrev pub HasText : Part → Type 0
HasText (Joined o value) = value ≢ []
HasText (Apart o value) = value ≢ []
HasText (Positional word) = Unit {0}

option_fits : (p : OptionName) (value : Text) (values : List Text) (rows : List Row) → value ≢ [] → HasRoom (name_of p) rows (value_if (same_option p p) value ++ values) → (part_fault rows (Joined p value) ≡ []) × (has_row (name_of p) rows ≡ false) × (values ≡ [])
option_fits p [] values rows some room = absurd (some refl)
option_fits p (c ∷ cs) values rows some room = go (has_row (name_of p) rows) refl (rw option_same at room)
  where
    go : (has : Bool) → has_row (name_of p) rows ≡ has → HasRoom (name_of p) rows ((c ∷ cs) ∷ values) → (part_fault rows (Joined p (c ∷ cs)) ≡ []) × (has_row (name_of p) rows ≡ false) × (values ≡ [])
    go true h room = let no : (c ∷ cs) ∷ values ≡ [] = room.0 h in cc
    go false h room = (takes_value p c cs rows h, h, nothing values room.1)
      where
        nothing : (values : List Text) → length ((c ∷ cs) ∷ values) ≤ 1 → values ≡ []
        nothing [] few = refl
        nothing (v ∷ vs) few = absurd (omega arith)

-- what room the others have behind an option
room_behind : (p : OptionName) (value : Text) (values : List Text) (rows : List Row) (o : OptionName) → has_row (name_of p) rows ≡ false → (same_option p o ≡ true → values ≡ [])
    → HasRoom (name_of o) rows (value_if (same_option p o) value ++ values) → HasRoom (name_of o) (used_by rows (Joined p value)) values
room_behind p value values rows o none last room = go (same_option p o) refl room
  where
    go : (same : Bool) → same_option p o ≡ same → HasRoom (name_of o) rows (value_if same value ++ values) → HasRoom (name_of o) (used_by rows (Joined p value)) values
    go true s room = let empty : values ≡ [] = last s in ((λ h. empty), omega (arith, ap length empty))
    go false s room =
        let same = has_same (name_of o) rows (used_by rows (Joined p value)) (option_others p value rows (name_of o) none (names_unlike p o s)) in
        ((λ h. room.0 (sym same ∙ h)), room.1)

pub no_fault : (parts : List Part) (rows : List Row) → AllByRecursion HasText parts → ((o : OptionName) → HasRoom (name_of o) rows (values_of o parts)) → fault_by rows parts ≡ []
no_fault [] rows all room = refl
no_fault (Joined p value ∷ parts) rows all room =
    let fits = option_fits p value (values_of p parts) rows all.0 (room p) in
    let last : (o : OptionName) → same_option p o ≡ true → values_of o parts ≡ [] = λ o s. subst (λ (q : OptionName). values_of q parts ≡ []) (options_same p o s) fits.2 in
    let more = no_fault parts (used_by rows (Joined p value)) all.1 (λ o. room_behind p value (values_of o parts) rows o fits.1 (last o) (room o)) in
    ap (λ k. or_else k (fault_by (used_by rows (Joined p value)) parts)) fits.0 ∙ more
no_fault (Apart p value ∷ parts) rows all room =
    let fits = option_fits p value (values_of p parts) rows all.0 (room p) in
    let last : (o : OptionName) → same_option p o ≡ true → values_of o parts ≡ [] = λ o s. subst (λ (q : OptionName). values_of q parts ≡ []) (options_same p o s) fits.2 in
    let more = no_fault parts (used_by rows (Apart p value)) all.1
    (λ o. subst (λ (after : List Row). HasRoom (name_of o) after (values_of o parts)) (sym (apart_rows p value rows)) (room_behind p value (values_of o parts) rows o fits.1 (last o) (room o))) in
    ap (λ k. or_else k (fault_by (used_by rows (Apart p value)) parts)) (apart_fault p value rows ∙ fits.0) ∙ more
no_fault (Positional word ∷ parts) rows all room =
    let more = no_fault parts (used_by rows (Positional word)) all.1
    (λ o. ((λ h. (room o).0 (sym (has_same (name_of o) rows (used_by rows (Positional word)) (word_others word rows o)) ∙ h)), (room o).1)) in
    ap (λ k. or_else k (fault_by (used_by rows (Positional word)) parts)) (word_fault_none word rows) ∙ more

-- ---- the words behind `--`

no_values : (o : OptionName) (words : List Text) → values_of o (map Positional words) ≡ []
no_values o [] = refl
no_values o (word ∷ words) = no_values o words

pub values_before : (o : OptionName) (parts : List Part) (words : List Text) → values_of o (parts ++ map Positional words) ≡ values_of o parts
values_before o [] words = no_values o words
values_before o (part ∷ parts) words = ap (λ (values : List Text). part_values o part ++ values) (values_before o parts words)

all_positional : (words : List Text) → parts_positionals (map Positional words) ≡ words
all_positional [] = refl
all_positional (word ∷ words) = ap (λ (ws : List Text). word ∷ ws) (all_positional words)

pub positionals_all : (parts : List Part) (words : List Text) → parts_positionals (parts ++ map Positional words) ≡ parts_positionals parts ++ words
positionals_all [] words = all_positional words
positionals_all (part ∷ parts) words =
    ap (λ (ws : List Text). part_positionals part ++ ws) (positionals_all parts words) ∙ sym (append_assoc (part_positionals part) (parts_positionals parts) words)

words_have_text : (words : List Text) → AllByRecursion HasText (map Positional words)
words_have_text [] = tt
words_have_text (word ∷ words) = (tt, words_have_text words)

pub parts_have_text : (parts : List Part) (words : List Text) → AllByRecursion IsPart parts → AllByRecursion HasText (parts ++ map Positional words)
parts_have_text [] words all = words_have_text words
parts_have_text (Joined o value ∷ parts) words all = (all.0, parts_have_text parts words all.1)
parts_have_text (Apart o value ∷ parts) words all = (all.0.0, parts_have_text parts words all.1)
parts_have_text (Positional word ∷ parts) words all = (tt, parts_have_text parts words all.1)

-- ---- the first value

pub first_seen : (id : Text) (rows : List Row) → first_of id rows ≡ head_of (seen id rows)
first_seen id rows = go (find (λ r. bytes_eq r.id id) rows)
  where
    first : (values : List Text) → slice_get values 0 ≡ head_of values
    first [] = refl
    first (v ∷ vs) = refl

    go : (o : Option Row) → option_and_then (λ (r : Row). slice_get r.values 0) o ≡ head_of (unwrap_or (option_map (λ (r : Row). r.values) o) [])
    go None = refl
    go (Some r) = first r.values
