-- What clap makes of one word, by its sort.
use Rattle.std.proofs.Common.{◌≡◌, ◌∙◌, ◌<◌, ◌≤◌, ℕ, Bool, true, false, [], ◌∷◌, ◌++◌, refl, sym, ap, ap₂, length, get_or, codes, ◌⊎◌, Option, Some, None, inl, inr}
use Rattle.std.specs.Prelude.{◌==◌, if◌then◌else◌, slice_get}
use Rattle.std.specs.Option.{option_map_or}
use Rattle.std.specs.List.{before_first, after_first, position_or_len}
use Rattle.std.specs.Str.{IsUtf8, bytes_eq, chars, encode_utf8_all}
use Rattle.std.specs.Char.{encode_utf8}
use Rattle.std.proofs.lemmas.Bool.{cases_lt}
use Rattle.std.proofs.lemmas.Bool.Decides.{Decides-eqb}
use Rattle.std.proofs.lemmas.List.{take_all}
use Rattle.std.proofs.lemmas.List.Sums.{passes_at_first, split_at_first}
use Rattle.std.proofs.lemmas.Slice.Eq.{bytes_eq-Decides}
use Rattle.std.proofs.lemmas.Str.{encodes-chars}
use Rattle.clap.specs.Lexer.{long_of, short_of}
use Rattle.clap.specs.Walk.{Text, Held, arg_by_long}
use Rattle.clap.specs.Faults.{flag_word_fault, flags_fault, bundle_fault, bundle_step_fault, other_fault}
use Rattle.clap.specs.declared.error.kind.ErrorKind.TheVariants.{UnknownArgument}
use Rattle.jc_words.specs.Line.{OptionName, Out, Run, Steps, is_dashed, option_word}
use Rattle.jc_words.proofs.Cut.{PositionalWord, Opens, Holds, Unknown, sort_of}
use Rattle.jc_words.proofs.Spelling.{option_sort, joined_sorts}
use Rattle.jc_words.proofs.Uses.{name_of, full_rules, full_shape}

-- ---- a word that isn't dashed is no flag

pub record IsPlain (word : Text) : Type 0 where
  pub not_end : bytes_eq word (codes "--") ≡ false
  pub not_long : long_of word ≡ None
  pub not_short : short_of word ≡ None

pub plain_word_is : (word : Text) → is_dashed word ≡ false → IsPlain word
plain_word_is [] e = record { not_end = refl; not_long = refl; not_short = refl }
plain_word_is (c ∷ []) e = go (c == 45) refl
  where
    go : (dash : Bool) → (c == 45) ≡ dash → IsPlain (c ∷ [])
    go true d = record { not_end = rw d refl; not_long = rw d refl; not_short = rw d refl }
    go false d = record { not_end = rw d refl; not_long = rw d refl; not_short = rw d refl }
plain_word_is (c ∷ d ∷ cs) e = record { not_end = rw e refl; not_long = rw e refl; not_short = rw e refl }

-- ---- a word that is dashed and unknown is refused

-- the first character of what stands behind one dash
text_first : (d : ℕ) (cs : Text) → IsUtf8 (45 ∷ d ∷ cs) → (x : ℕ) × (slice_get (chars (d ∷ cs)) 0 ≡ Some x)
unfolding chars encode_utf8
text_first d cs u = go (chars (d ∷ cs)) refl
  where
    go : (text : Text) → chars (d ∷ cs) ≡ text → (x : ℕ) × (slice_get (chars (d ∷ cs)) 0 ≡ Some x)
    go [] e =
        let short : 45 ∷ [] ≡ 45 ∷ d ∷ cs = ap (λ (text : Text). encode_utf8_all (45 ∷ text)) (sym e) ∙ encodes-chars (45 ∷ d ∷ cs) u in
        cc
    go (x ∷ xs) e = (x, ap (λ (text : Text). slice_get text 0) e)

-- one dash
short_refused : (d : ℕ) (cs : Text) (h : Held) → h.skip ≡ 0 → (d == 45) ≡ false → IsUtf8 (45 ∷ d ∷ cs) → other_fault full_shape None (45 ∷ d ∷ cs) h ≡ UnknownArgument ∷ []
unfolding flags_fault
short_refused d cs h none e u =
    let not_end : bytes_eq (45 ∷ d ∷ cs) (codes "--") ≡ false = rw e refl in
    let not_long : long_of (45 ∷ d ∷ cs) ≡ None = rw e refl in
    let flags : short_of (45 ∷ d ∷ cs) ≡ Some (d ∷ cs) = rw e refl in
    let first = text_first d cs u in
    ap (λ (is_end : Bool). if is_end then [] else flag_word_fault full_rules false (long_of (45 ∷ d ∷ cs)) (45 ∷ d ∷ cs) h) not_end
    ∙ ap (λ (long : Option (Text × Option Text)). flag_word_fault full_rules false long (45 ∷ d ∷ cs) h) not_long
    ∙ ap (λ (short : Option Text). option_map_or (λ text. bundle_fault full_rules false text h) short []) flags
    ∙ ap₂ (λ (x : Option ℕ) (skip : ℕ). bundle_step_fault full_rules false x (d ∷ cs) skip (record h { skip = 0 }) (flags_fault full_rules false (length cs))) first.1 none

abbrev is_equals : ℕ → Bool
is_equals c = c == 61

dashes : (o : OptionName) (rest : Text) → option_word o ++ rest ≡ 45 ∷ 45 ∷ (name_of o ++ rest)
dashes Out rest = refl
dashes Run rest = refl
dashes Steps rest = refl

bare_dashes : (o : OptionName) → option_word o ≡ 45 ∷ 45 ∷ name_of o
bare_dashes Out = refl
bare_dashes Run = refl
bare_dashes Steps = refl

-- what stands before the first equals sign is no option's name, where the word is unknown
unnamed : (o : OptionName) (x : ℕ) (xs : Text) → sort_of (45 ∷ 45 ∷ x ∷ xs) ≡ Unknown → bytes_eq (name_of o) (before_first is_equals (x ∷ xs)) ≡ false
unnamed o x xs u = go (bytes_eq (name_of o) (before_first is_equals (x ∷ xs))) refl (cases_lt (position_or_len is_equals (x ∷ xs)) (length (x ∷ xs)))
  where
    go : (named : Bool) → bytes_eq (name_of o) (before_first is_equals (x ∷ xs)) ≡ named → (position_or_len is_equals (x ∷ xs) < length (x ∷ xs)) ⊎ (length (x ∷ xs) ≤ position_or_len is_equals (x ∷ xs))
        → bytes_eq (name_of o) (before_first is_equals (x ∷ xs)) ≡ false
    go false e place = e
    go true e (inl inside) =
        let name : name_of o ≡ before_first is_equals (x ∷ xs) = (bytes_eq-Decides (name_of o) (before_first is_equals (x ∷ xs))).0 e in
        let sign : get_or (x ∷ xs) (position_or_len is_equals (x ∷ xs)) 0 ≡ 61 = (Decides-eqb _ 61).0 (passes_at_first is_equals (x ∷ xs) 0 inside) in
        let split = split_at_first is_equals (x ∷ xs) 0 inside in
        let rest = after_first is_equals (x ∷ xs) in
        let text : x ∷ xs ≡ name_of o ++ (61 ∷ rest) = split ∙ ap (λ (c : ℕ). before_first is_equals (x ∷ xs) ++ (c ∷ rest)) sign ∙ ap (λ (t : Text). t ++ (61 ∷ rest)) (sym name) in
        let word : 45 ∷ 45 ∷ x ∷ xs ≡ option_word o ++ (61 ∷ rest) = ap (λ (t : Text). 45 ∷ 45 ∷ t) text ∙ sym (dashes o (61 ∷ rest)) in
        let known : Unknown ≡ Holds o = sym u ∙ ap sort_of word ∙ joined_sorts o rest in
        cc
    go true e (inr past) =
        let name : name_of o ≡ before_first is_equals (x ∷ xs) = (bytes_eq-Decides (name_of o) (before_first is_equals (x ∷ xs))).0 e in
        let text : x ∷ xs ≡ name_of o = sym (take_all (position_or_len is_equals (x ∷ xs)) (x ∷ xs) past) ∙ sym name in
        let word : 45 ∷ 45 ∷ x ∷ xs ≡ option_word o = ap (λ (t : Text). 45 ∷ 45 ∷ t) text ∙ sym (bare_dashes o) in
        let known : Unknown ≡ Opens o = sym u ∙ ap sort_of word ∙ option_sort o in
        cc

no_argument : (name : Text) → bytes_eq (codes "out") name ≡ false → bytes_eq (codes "run") name ≡ false → bytes_eq (codes "steps") name ≡ false → arg_by_long full_rules name ≡ None
no_argument name out run steps = rw (out, run, steps) refl

-- two dashes and more
long_refused : (x : ℕ) (xs : Text) (h : Held) → sort_of (45 ∷ 45 ∷ x ∷ xs) ≡ Unknown → other_fault full_shape None (45 ∷ 45 ∷ x ∷ xs) h ≡ UnknownArgument ∷ []
long_refused x xs h u =
    let none = no_argument (before_first is_equals (x ∷ xs)) (unnamed Out x xs u) (unnamed Run x xs u) (unnamed Steps x xs u) in
    rw none refl

dashed_refused : (d : ℕ) (cs : Text) (h : Held) → h.skip ≡ 0 → sort_of (45 ∷ d ∷ cs) ≡ Unknown → IsUtf8 (45 ∷ d ∷ cs) → other_fault full_shape None (45 ∷ d ∷ cs) h ≡ UnknownArgument ∷ []
dashed_refused d cs h none u text = go (d == 45) refl cs u text
  where
    go : (dash : Bool) → (d == 45) ≡ dash → (cs : Text) → sort_of (45 ∷ d ∷ cs) ≡ Unknown → IsUtf8 (45 ∷ d ∷ cs) → other_fault full_shape None (45 ∷ d ∷ cs) h ≡ UnknownArgument ∷ []
    go false e cs u text = short_refused d cs h none e text
    go true e [] u text =
        let is : d ≡ 45 = (Decides-eqb d 45).0 e in
        let end : sort_of (45 ∷ 45 ∷ []) ≡ Unknown = rw is at u in
        cc
    go true e (x ∷ xs) u text =
        let is : d ≡ 45 = (Decides-eqb d 45).0 e in
        rw is (long_refused x xs h (rw is at u))

pub refused : (word : Text) (h : Held) → h.skip ≡ 0 → sort_of word ≡ Unknown → IsUtf8 word → other_fault full_shape None word h ≡ UnknownArgument ∷ []
refused [] h none u text = cc
refused (c ∷ []) h none u text = cc
refused (c ∷ d ∷ cs) h none u text = go (c == 45) refl
  where
    go : (dash : Bool) → (c == 45) ≡ dash → other_fault full_shape None (c ∷ d ∷ cs) h ≡ UnknownArgument ∷ []
    go true e =
        let is : c ≡ 45 = (Decides-eqb c 45).0 e in
        rw is (dashed_refused d cs h none (rw is at u) (rw is at text))
    go false e = let plain : PositionalWord ≡ Unknown = rw e at u in cc
