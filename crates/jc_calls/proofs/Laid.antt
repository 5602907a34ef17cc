-- Arguments as locals, and arguments by their sorts.
use Rattle.std.proofs.Common.{◌≡◌, ◌≢◌, ◌<◌, ◌+◌, ℕ, Bool, true, false, List, [], ◌∷◌, ◌++◌, take, drop, length, reverse, get_or, refl, sym, ap, ◌∙◌, arith, if◌then◌else◌}
use Rattle.std.proofs.lemmas.List.{take_more, length-reverse, length-take}
use Rattle.std.specs.declared.option.Option.{Option}
use Rattle.std.specs.declared.option.Option.TheVariants.{Some, None}
use Rattle.jc_rules.proofs.Truths.{and_second}
use Rattle.jc_jvm.specs.Calls.{all_of_sorts, arguments_of}
use Rattle.jc_jvm.specs.Frames.{laid_out}
use Rattle.jc_jvm.specs.Types.{is_of_sort}
use Rattle.jc_jvm.specs.declared.operands.Sort.{Sort}
use Rattle.jc_jvm.specs.declared.value.Value.{Value}
use Rattle.jc_jvm.specs.declared.value.Value.TheVariants.{Whole, Long, Address, NullValue}

laid_out-append : (vs ws : List Value) → laid_out (vs ++ ws) ≡ laid_out vs ++ laid_out ws
laid_out-append [] ws = refl
laid_out-append (Whole n ∷ vs) ws = ap (λ (ls : List (Option Value)). Some (Whole n) ∷ ls) (laid_out-append vs ws)
laid_out-append (Long n ∷ vs) ws = ap (λ (ls : List (Option Value)). Some (Long n) ∷ None ∷ ls) (laid_out-append vs ws)
laid_out-append (Address at ∷ vs) ws = ap (λ (ls : List (Option Value)). Some (Address at) ∷ ls) (laid_out-append vs ws)
laid_out-append (NullValue ∷ vs) ws = ap (λ (ls : List (Option Value)). Some NullValue ∷ ls) (laid_out-append vs ws)

-- one argument more
pub laid_out_more : (vs : List Value) (i : ℕ) (d : Value) → i < length vs → laid_out (take (i + 1) vs) ≡ laid_out (take i vs) ++ laid_out (get_or vs i d ∷ [])
laid_out_more vs i d h = ap laid_out (take_more vs i d h) ∙ laid_out-append (take i vs) (get_or vs i d ∷ [])

-- values of these sorts are as many as the sorts
pub all_of_sorts_long : (ss : List Sort) (vs : List Value) → all_of_sorts ss vs ≡ true → length ss ≡ length vs
all_of_sorts_long [] [] e = refl
all_of_sorts_long [] (v ∷ vs) e = cc
all_of_sorts_long (s ∷ ss) [] e = cc
all_of_sorts_long (s ∷ ss) (v ∷ vs) e =
    let rest : length ss ≡ length vs = all_of_sorts_long ss vs (and_second (is_of_sort s v) (all_of_sorts ss vs) e) in omega arith

arguments_by : (sorts : List Sort) (values : List Value) (b : Bool) → all_of_sorts sorts (reverse (take (length sorts) values)) ≡ b →
    arguments_of sorts values ≡ (if b then Some (reverse (take (length sorts) values), drop (length sorts) values) else None)
arguments_by sorts values b e = ap (λ (t : Bool). if t then Some (reverse (take (length sorts) values), drop (length sorts) values) else None) e

few_by : (sorts : List Sort) (values : List Value) (b : Bool) → all_of_sorts sorts (reverse (take (length sorts) values)) ≡ b → length values < length sorts → arguments_of sorts values ≡ None
few_by sorts values true e h =
    let long : length sorts ≡ length (reverse (take (length sorts) values)) = all_of_sorts_long sorts (reverse (take (length sorts) values)) e in
    absurd (omega (arith, length-reverse (take (length sorts) values), length-take (length sorts) values))
few_by sorts values false e h = arguments_by sorts values false e

-- there are no arguments where there are too few values
pub too_few : (sorts : List Sort) (values : List Value) → length values < length sorts → arguments_of sorts values ≡ None
too_few sorts values h = few_by sorts values (all_of_sorts sorts (reverse (take (length sorts) values))) refl h

-- the arguments are there where their sorts are right
pub arguments_are : (sorts : List Sort) (values found rest : List Value) → found ≡ reverse (take (length sorts) values) → rest ≡ drop (length sorts) values → all_of_sorts sorts found ≡ true → arguments_of sorts values ≡ Some (found, rest)
arguments_are sorts values found rest is left right =
    arguments_by sorts values true (ap (λ (vs : List Value). all_of_sorts sorts vs) (sym is) ∙ right) ∙ cc

pub arguments_are_not : (sorts : List Sort) (values found : List Value) → found ≡ reverse (take (length sorts) values) → all_of_sorts sorts found ≡ false → arguments_of sorts values ≡ None
arguments_are_not sorts values found is wrong = arguments_by sorts values false (ap (λ (vs : List Value). all_of_sorts sorts vs) (sym is) ∙ wrong)

not_long_by : (ss : List Sort) (vs : List Value) (b : Bool) → all_of_sorts ss vs ≡ b → length ss ≢ length vs → false ≡ all_of_sorts ss vs
not_long_by ss vs true e h = absurd (h (all_of_sorts_long ss vs e))
not_long_by ss vs false e h = sym e

-- values that are fewer or more than the sorts aren't of these sorts
pub not_long : (ss : List Sort) (vs : List Value) → length ss ≢ length vs → false ≡ all_of_sorts ss vs
not_long ss vs h = not_long_by ss vs (all_of_sorts ss vs) refl h
