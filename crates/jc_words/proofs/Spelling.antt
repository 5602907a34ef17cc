-- What is cut from words is the line that they spell, and no other.
use Rattle.std.proofs.Common.{◌≡◌, ◌≢◌, ℕ, Bool, true, false, List, [], ◌∷◌, ◌++◌, refl, sym, ap, ◌∙◌, subst, append_assoc, codes, Option, Some, None}
use Rattle.std.specs.Prelude.{flat_map}
use Rattle.std.specs.List.{AllByRecursion}
use Rattle.jc_words.specs.Line.{OptionName, Out, Run, Steps, Part, Joined, Apart, Positional, Line, is_dashed, option_word, part_words, IsPart, rest_words, IsSpelled}
use Rattle.jc_words.proofs.Cut.{Sort, PositionalWord, End, Opens, Holds, Unknown, Taken, Whole, Opened, Closed, Wrong, cut, taken, by_sort, sort_of, with_next, with_held, value_after, equals_word, prepend, go_on}
use Rattle.jc_words.proofs.Sorts.{begins, holds_begins, opens_is, end_is, positional_is}

-- the word of an option that waits for its value
abbrev pub pending_words : Option OptionName → List (List ℕ)
pending_words None = []
pending_words (Some o) = option_word o ∷ []

abbrev MakesPart : Option OptionName → List ℕ → Part → Type 0
MakesPart pending word part = (pending_words pending ++ word ∷ [] ≡ part_words part) × IsPart part

next_is : (o : OptionName) (word : List ℕ) (dashed : Bool) → is_dashed word ≡ dashed → (part : Part) → with_next o word ≡ Whole part → MakesPart (Some o) word part
next_is o [] dashed d part e = cc
next_is o (c ∷ cs) true d part e = let no : Wrong ≡ Whole part = rw d at e in cc
next_is o (c ∷ cs) false d part e =
    let is : Whole (Apart o (c ∷ cs)) ≡ Whole part = rw d at e in
    let same : Apart o (c ∷ cs) ≡ part = cc in
    subst (MakesPart (Some o) (c ∷ cs)) same (refl, ((λ f. cc), d))

joined_words : (o : OptionName) (value : List ℕ) → equals_word o ++ value ≡ option_word o ++ (61 ∷ value)
joined_words Out value = refl
joined_words Run value = refl
joined_words Steps value = refl

held_is : (o : OptionName) (word value : List ℕ) → word ≡ equals_word o ++ value → (part : Part) → with_held o value ≡ Whole part → MakesPart None word part
held_is o word [] b part e = cc
held_is o word (c ∷ cs) b part e =
    let same : Joined o (c ∷ cs) ≡ part = cc in
    subst (MakesPart None word) same (ap (λ (w : List ℕ). w ∷ []) (b ∙ joined_words o (c ∷ cs)), λ f. cc)

sorted_is : (word : List ℕ) (s : Sort) → sort_of word ≡ s → (part : Part) → by_sort s word ≡ Whole part → MakesPart None word part
sorted_is word PositionalWord s part e = let same : Positional word ≡ part = cc in subst (MakesPart None word) same (refl, positional_is word s)
sorted_is word (Holds o) s part e = held_is o word (value_after o word) (begins word (equals_word o) (holds_begins word o s)) part e
sorted_is word End s part e = cc
sorted_is word (Opens o) s part e = cc
sorted_is word Unknown s part e = cc

whole_is : (pending : Option OptionName) (word : List ℕ) (part : Part) → taken pending word ≡ Whole part → MakesPart pending word part
whole_is (Some o) word part e = next_is o word (is_dashed word) refl part e
whole_is None word part e = sorted_is word (sort_of word) refl part e

-- a value, if it is one, makes a part
abbrev IsOwn : Taken → Type 0
IsOwn Wrong = Unit {0}
IsOwn (Whole part) = Unit {0}
IsOwn (Opened o) = ⊥
IsOwn Closed = ⊥

next_own : (o : OptionName) (word : List ℕ) (dashed : Bool) → is_dashed word ≡ dashed → IsOwn (with_next o word)
next_own o [] dashed d = tt
next_own o (c ∷ cs) true d = rw d tt
next_own o (c ∷ cs) false d = rw d tt

held_own : (o : OptionName) (value : List ℕ) → IsOwn (with_held o value)
held_own o [] = tt
held_own o (c ∷ cs) = tt

-- what a word says where it makes no part
abbrev Leaves : Option OptionName → List ℕ → Taken → Type 0
Leaves pending word (Opened o) = (pending ≡ None) × (word ≡ option_word o)
Leaves pending word Closed = (pending ≡ None) × (word ≡ codes "--")
Leaves pending word Wrong = Unit {0}
Leaves pending word (Whole part) = Unit {0}

own_leaves : (pending : Option OptionName) (word : List ℕ) (t : Taken) → IsOwn t → Leaves pending word t
own_leaves pending word Wrong own = tt
own_leaves pending word (Whole part) own = tt
own_leaves pending word (Opened o) own = absurd own
own_leaves pending word Closed own = absurd own

sorted_leaves : (word : List ℕ) (s : Sort) → sort_of word ≡ s → Leaves None word (by_sort s word)
sorted_leaves word PositionalWord s = tt
sorted_leaves word End s = (refl, end_is word s)
sorted_leaves word (Opens o) s = (refl, opens_is word o s)
sorted_leaves word (Holds o) s = own_leaves None word _ (held_own o (value_after o word))
sorted_leaves word Unknown s = tt

leaves : (pending : Option OptionName) (word : List ℕ) → Leaves pending word (taken pending word)
leaves (Some o) word = own_leaves (Some o) word _ (next_own o word (is_dashed word) refl)
leaves None word = sorted_leaves word (sort_of word) refl

-- a line whose first part is cut off
with_part : (part : Part) (words rest : List (List ℕ)) (cutting : Option Line) (line : Line) → words ≡ part_words part ++ rest → IsPart part → prepend (part ∷ []) cutting ≡ Some line → ((l : Line) → cutting ≡ Some l → IsSpelled rest l) → IsSpelled words line
with_part part words rest None line w is e more = cc
with_part part words rest (Some l) line w is e more =
    let tail = more l refl in
    let same : record { parts = part ∷ l.parts; rest = l.rest } ≡ line = cc in
    subst (IsSpelled words) same (record {
      spelled = w ∙ ap (λ (ws : List (List ℕ)). part_words part ++ ws) tail.spelled ∙ sym (append_assoc (part_words part) (flat_map part_words l.parts) (rest_words l.rest));
      parts = (is, tail.parts);
    })

-- the line behind a word
word_spelled : (pending : Option OptionName) (word : List ℕ) (words : List (List ℕ)) (line : Line) (t : Taken) → taken pending word ≡ t → go_on t words (λ next. cut next words) ≡ Some line
    → ((next : Option OptionName) (l : Line) → cut next words ≡ Some l → IsSpelled (pending_words next ++ words) l) → IsSpelled (pending_words pending ++ (word ∷ words)) line
word_spelled pending word words line (Whole part) t e more =
    let makes = whole_is pending word part t in
    with_part part (pending_words pending ++ (word ∷ words)) words (cut None words) line
    (sym (append_assoc (pending_words pending) (word ∷ []) words) ∙ ap (λ (ws : List (List ℕ)). ws ++ words) makes.0) makes.1 e (more None)
word_spelled pending word words line (Opened o) t e more =
    let leave = subst (Leaves pending word) t (leaves pending word) in
    rw (leave.0, leave.1) (more (Some o) line e)
word_spelled pending word words line Closed t e more =
    let leave = subst (Leaves pending word) t (leaves pending word) in
    let same : record { parts = []; rest = Some words } ≡ line = cc in
    rw (leave.0, leave.1) (subst (IsSpelled (codes "--" ∷ words)) same (record { spelled = refl; parts = tt }))
word_spelled pending word words line Wrong t e more = cc

-- what is cut is spelled
pub cut_spelled : (pending : Option OptionName) (words : List (List ℕ)) (line : Line) → cut pending words ≡ Some line → IsSpelled (pending_words pending ++ words) line
unfolding cut
cut_spelled None [] line e = let same : record { parts = []; rest = None } ≡ line = cc in subst (IsSpelled []) same (record { spelled = refl; parts = tt })
cut_spelled (Some o) [] line e = cc
cut_spelled pending (word ∷ words) line e = word_spelled pending word words line (taken pending word) refl e (λ next l. cut_spelled next words l)

pub option_sort : (o : OptionName) → sort_of (option_word o) ≡ Opens o
option_sort Out = refl
option_sort Run = refl
option_sort Steps = refl

pub joined_sorts : (o : OptionName) (value : List ℕ) → sort_of (option_word o ++ (61 ∷ value)) ≡ Holds o
joined_sorts Out value = refl
joined_sorts Run value = refl
joined_sorts Steps value = refl

value_behind : (o : OptionName) (value : List ℕ) → value_after o (option_word o ++ (61 ∷ value)) ≡ value
value_behind Out value = refl
value_behind Run value = refl
value_behind Steps value = refl

held_value : (o : OptionName) (value : List ℕ) → value ≢ [] → with_held o value ≡ Whole (Joined o value)
held_value o [] some = absurd (some refl)
held_value o (c ∷ cs) some = refl

next_value : (o : OptionName) (value : List ℕ) → value ≢ [] → is_dashed value ≡ false → with_next o value ≡ Whole (Apart o value)
next_value o [] some d = absurd (some refl)
next_value o (c ∷ cs) some d = rw d refl

-- the words of a part give that part
part_first : (part : Part) (rest : List (List ℕ)) (line : Line) → IsPart part → cut None rest ≡ Some line → cut None (part_words part ++ rest) ≡ Some (record { parts = part ∷ line.parts; rest = line.rest })
unfolding cut
part_first (Joined o value) rest line is e =
    let t : taken None (option_word o ++ (61 ∷ value)) ≡ Whole (Joined o value) =
    ap (λ (s : Sort). by_sort s (option_word o ++ (61 ∷ value))) (joined_sorts o value) ∙ ap (with_held o) (value_behind o value) ∙ held_value o value is in
    ap (λ (t : Taken). go_on t rest (λ next. cut next rest)) t ∙ ap (prepend (Joined o value ∷ [])) e
part_first (Apart o value) rest line is e =
    let t : taken None (option_word o) ≡ Opened o = ap (λ (s : Sort). by_sort s (option_word o)) (option_sort o) in
    ap (λ (t : Taken). go_on t (value ∷ rest) (λ next. cut next (value ∷ rest))) t ∙
    ap (λ (t : Taken). go_on t rest (λ next. cut next rest)) (next_value o value is.0 is.1) ∙ ap (prepend (Apart o value ∷ [])) e
part_first (Positional word) rest line is e =
    let t : taken None word ≡ Whole (Positional word) = rw is refl in
    ap (λ (t : Taken). go_on t rest (λ next. cut next rest)) t ∙ ap (prepend (Positional word ∷ [])) e

rest_cut : (rest : Option (List (List ℕ))) → cut None (rest_words rest) ≡ Some (record { parts = []; rest = rest })
unfolding cut
rest_cut None = refl
rest_cut (Some words) = refl

parts_cut : (parts : List Part) (rest : Option (List (List ℕ))) → AllByRecursion IsPart parts → cut None (flat_map part_words parts ++ rest_words rest) ≡ Some (record { parts = parts; rest = rest })
parts_cut [] rest all = rest_cut rest
parts_cut (part ∷ parts) rest all =
    ap (cut None) (append_assoc (part_words part) (flat_map part_words parts) (rest_words rest)) ∙
    part_first part (flat_map part_words parts ++ rest_words rest) (record { parts = parts; rest = rest }) all.0 (parts_cut parts rest all.1)

-- what is spelled is cut
pub spelled_cut : (words : List (List ℕ)) (line : Line) → IsSpelled words line → cut None words ≡ Some line
spelled_cut words line is = ap (cut None) is.spelled ∙ parts_cut line.parts line.rest is.parts
