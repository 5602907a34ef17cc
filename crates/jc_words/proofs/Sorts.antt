-- What the sort of a word says of it.
use Rattle.std.proofs.Common.{◌≡◌, ℕ, Bool, true, false, List, ◌++◌, length, drop, refl, subst, nat_eq, codes, if◌then◌else◌}
use Rattle.std.specs.List.{starts_with}
use Rattle.std.specs.Str.{bytes_eq}
use Rattle.std.proofs.lemmas.Slice.Eq.{starts_is, bytes_eq-Decides}
use Rattle.std.proofs.lemmas.Bool.Decides.{Decides-eqb}
use Rattle.jc_words.specs.Line.{OptionName, Out, Run, Steps, is_dashed, option_word}
use Rattle.jc_words.proofs.Cut.{Sort, PositionalWord, End, Opens, Holds, Unknown, sort_of, equals_word}

-- a word that begins with a text is that text and what stands behind it
pub begins : (word text : List ℕ) → starts_with nat_eq word text ≡ true → word ≡ text ++ drop (length text) word
begins word text e = (starts_is Decides-eqb word text (starts_with nat_eq word text) refl).0 e

-- the tests of a word's sort, one by one
chosen : Bool → Bool → Bool → Bool → Bool → Bool → Bool → Bool → Sort
chosen dashed end out run steps out_is run_is steps_is =
    if dashed then (if end then End else if out then Opens Out else if run then Opens Run else if steps then Opens Steps else if out_is then Holds Out else if run_is then Holds Run else if steps_is then Holds Steps else Unknown) else PositionalWord

abbrev picks : OptionName → Bool → Bool → Bool → Bool
picks Out out run steps = out
picks Run out run steps = run
picks Steps out run steps = steps

-- what a sort says of the tests
abbrev Says : Sort → Bool → Bool → Bool → Bool → Bool → Bool → Bool → Bool → Type 0
Says PositionalWord dashed end out run steps out_is run_is steps_is = dashed ≡ false
Says End dashed end out run steps out_is run_is steps_is = end ≡ true
Says (Opens o) dashed end out run steps out_is run_is steps_is = picks o out run steps ≡ true
Says (Holds o) dashed end out run steps out_is run_is steps_is = picks o out_is run_is steps_is ≡ true
Says Unknown dashed end out run steps out_is run_is steps_is = Unit {0}

chosen_says : (d a b c e f g h : Bool) → Says (chosen d a b c e f g h) d a b c e f g h
unfolding chosen
chosen_says false a b c e f g h = refl
chosen_says true true b c e f g h = refl
chosen_says true false true c e f g h = refl
chosen_says true false false true e f g h = refl
chosen_says true false false false true f g h = refl
chosen_says true false false false false true g h = refl
chosen_says true false false false false false true h = refl
chosen_says true false false false false false false true = refl
chosen_says true false false false false false false false = tt

-- what the sort of a word says of its tests
abbrev SaysOf : List ℕ → Sort → Type 0
SaysOf word s =
    Says s (is_dashed word) (bytes_eq word (codes "--")) (bytes_eq word (codes "--out")) (bytes_eq word (codes "--run")) (bytes_eq word (codes "--steps"))
    (starts_with nat_eq word (codes "--out=")) (starts_with nat_eq word (codes "--run=")) (starts_with nat_eq word (codes "--steps="))

sort_says : (word : List ℕ) (s : Sort) → sort_of word ≡ s → SaysOf word s
unfolding chosen
sort_says word s e =
    subst (SaysOf word) e
    (chosen_says (is_dashed word) (bytes_eq word (codes "--")) (bytes_eq word (codes "--out")) (bytes_eq word (codes "--run")) (bytes_eq word (codes "--steps"))
    (starts_with nat_eq word (codes "--out=")) (starts_with nat_eq word (codes "--run=")) (starts_with nat_eq word (codes "--steps=")))

-- a word that holds a value begins with its option and an equals sign
pub holds_begins : (word : List ℕ) (o : OptionName) → sort_of word ≡ Holds o → starts_with nat_eq word (equals_word o) ≡ true
holds_begins word Out e = sort_says word (Holds Out) e
holds_begins word Run e = sort_says word (Holds Run) e
holds_begins word Steps e = sort_says word (Holds Steps) e

-- a word that opens an option is its name
pub opens_is : (word : List ℕ) (o : OptionName) → sort_of word ≡ Opens o → word ≡ option_word o
opens_is word Out e = (bytes_eq-Decides word (codes "--out")).0 (sort_says word (Opens Out) e)
opens_is word Run e = (bytes_eq-Decides word (codes "--run")).0 (sort_says word (Opens Run) e)
opens_is word Steps e = (bytes_eq-Decides word (codes "--steps")).0 (sort_says word (Opens Steps) e)

pub end_is : (word : List ℕ) → sort_of word ≡ End → word ≡ codes "--"
end_is word e = (bytes_eq-Decides word (codes "--")).0 (sort_says word End e)

pub positional_is : (word : List ℕ) → sort_of word ≡ PositionalWord → is_dashed word ≡ false
positional_is word e = sort_says word PositionalWord e
