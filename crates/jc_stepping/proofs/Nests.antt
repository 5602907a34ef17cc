-- The lengths of multianewarray, from the top and from the bottom.
use Rattle.std.proofs.Common.{◌≡◌, ◌≤◌, ◌<◌, ◌∙◌, [], ◌∷◌, ◌++◌, ℕ, zero, suc, Bool, true, false, ◌&&◌, List, ap, arith, length, refl, reverse, sym, take, if◌then◌else◌}
use Rattle.std.proofs.lemmas.List.{reverse-append}
use Rattle.std.specs.List.{list_all}
use Rattle.std.specs.Option.{option_map}
use Rattle.std.specs.Prelude.{ℤ, pos, negsuc, is_some}
use Rattle.std.specs.declared.option.Option.{Option}
use Rattle.std.specs.declared.option.Option.TheVariants.{Some, None}
use Rattle.jc_rules.proofs.Truths.{and_all, and_assoc}
use Rattle.jc_jvm.specs.Frames.{Fails, throws}
use Rattle.jc_jvm.specs.Objects.{lengths_on, naturals, nest_by, nest_made}
use Rattle.jc_jvm.specs.declared.frame.Frame.{Frame}
use Rattle.jc_jvm.specs.declared.value.Shape.{Shape}
use Rattle.jc_jvm.specs.declared.value.Value.{Value}
use Rattle.jc_jvm.specs.declared.value.Value.TheVariants.{Whole, Long, Address, NullValue}
use Rattle.jc_jvm.specs.declared.world.Fault.TheVariants.{NegativeArraySize}
use Rattle.jc_jvm.specs.declared.world.World.{World}
use Rattle.jc_stepping.specs.Lengths.{is_length, is_natural_length}
use Rattle.jc_stepping.specs.Makes.{is_natural, naturals_among}

-- ---- from the top

abbrev pub kind : ℕ → List Value → Option Bool
kind zero values = Some true
kind (suc n) (Whole m ∷ rest) = option_map (λ (b : Bool). is_natural m && b) (kind n rest)
kind (suc n) _ = None

mapped : (n : ℕ) (o : Option (List ℕ)) → is_some (option_map (λ (more : List ℕ). n ∷ more) o) ≡ is_some o
mapped n (Some more) = refl
mapped n None = refl

with_one : (m : ℤ) (found : List ℤ) → is_some (naturals (m ∷ found)) ≡ (is_natural m && is_some (naturals found))
with_one (pos n) found = mapped n (naturals found)
with_one (negsuc n) found = refl

turned : (a b c : Bool) → (a && (b && c)) ≡ ((b && a) && c)
turned true true c = refl
turned true false c = refl
turned false true c = refl
turned false false c = refl

joined : (m : ℤ) (found : List ℤ) (k : Option Bool) →
    option_map (λ (b : Bool). b && is_some (naturals (m ∷ found))) k ≡ option_map (λ (b : Bool). b && is_some (naturals found)) (option_map (λ (b : Bool). is_natural m && b) k)
joined m found (Some b) = ap (λ (c : Bool). Some (b && c)) (with_one m found) ∙ ap (λ (c : Bool). Some c) (turned b (is_natural m) (is_some (naturals found)))
joined m found None = refl

among_kind : (n : ℕ) (found : List ℤ) (values : List Value) → naturals_among (lengths_on n found values) ≡ option_map (λ (b : Bool). b && is_some (naturals found)) (kind n values)
among_kind zero found values = refl
among_kind (suc n) found [] = refl
among_kind (suc n) found (Whole m ∷ rest) = among_kind n (m ∷ found) rest ∙ joined m found (kind n rest)
among_kind (suc n) found (Long m ∷ rest) = refl
among_kind (suc n) found (Address at ∷ rest) = refl
among_kind (suc n) found (NullValue ∷ rest) = refl

same_kind : (k : Option Bool) → option_map (λ (b : Bool). b && true) k ≡ k
same_kind (Some b) = ap (λ (c : Bool). Some c) (and_all b)
same_kind None = refl

among_is : (n : ℕ) (values : List Value) → naturals_among (lengths_on n [] values) ≡ kind n values
among_is n values = among_kind n [] values ∙ same_kind (kind n values)

-- ---- all of them

abbrev pub kind_of : Bool → Bool → Option Bool
kind_of lengths natural = if lengths then Some natural else None

grown : (m : ℤ) (a b : Bool) → option_map (λ (c : Bool). is_natural m && c) (kind_of a b) ≡ kind_of a (is_natural m && b)
grown m true b = refl
grown m false b = refl

kind_all : (n : ℕ) (values : List Value) → n ≤ length values → kind n values ≡ kind_of (list_all is_length (take n values)) (list_all is_natural_length (take n values))
kind_all zero values h = refl
kind_all (suc n) [] h = absurd (omega arith)
kind_all (suc n) (Whole m ∷ rest) h =
    ap (λ (k : Option Bool). option_map (λ (c : Bool). is_natural m && c) k) (kind_all n rest (omega arith)) ∙ grown m (list_all is_length (take n rest)) (list_all is_natural_length (take n rest))
kind_all (suc n) (Long m ∷ rest) h = refl
kind_all (suc n) (Address at ∷ rest) h = refl
kind_all (suc n) (NullValue ∷ rest) h = refl

kind_few : (n : ℕ) (values : List Value) → length values < n → kind n values ≡ None
kind_few zero values h = absurd (omega arith)
kind_few (suc n) [] h = refl
kind_few (suc n) (Whole m ∷ rest) h = ap (λ (k : Option Bool). option_map (λ (c : Bool). is_natural m && c) k) (kind_few n rest (omega arith))
kind_few (suc n) (Long m ∷ rest) h = refl
kind_few (suc n) (Address at ∷ rest) h = refl
kind_few (suc n) (NullValue ∷ rest) h = refl

-- ---- from the bottom

all_append : (p : Value → Bool) (xs ys : List Value) → list_all p (xs ++ ys) ≡ (list_all p xs && list_all p ys)
all_append p [] ys = refl
all_append p (x ∷ xs) ys = ap (λ (b : Bool). p x && b) (all_append p xs ys) ∙ sym (and_assoc (p x) (list_all p xs) (list_all p ys))

swapped : (a b : Bool) → (a && (b && true)) ≡ (b && a)
swapped true true = refl
swapped true false = refl
swapped false true = refl
swapped false false = refl

all_reverse : (p : Value → Bool) (xs : List Value) → list_all p (reverse xs) ≡ list_all p xs
all_reverse p [] = refl
all_reverse p (x ∷ xs) =
    ap (λ (vs : List Value). list_all p vs) (reverse-append (x ∷ []) xs)
    ∙ all_append p (reverse xs) (x ∷ [])
    ∙ swapped (list_all p (reverse xs)) (p x)
    ∙ ap (λ (b : Bool). p x && b) (all_reverse p xs)

bottom_up : (n : ℕ) (values top : List Value) → n ≤ length values → top ≡ reverse (take n values) →
    naturals_among (lengths_on n [] values) ≡ kind_of (list_all is_length top) (list_all is_natural_length top)
bottom_up n values top h is =
    among_is n values
    ∙ kind_all n values h
    ∙ ap (λ (b : Bool). kind_of b (list_all is_natural_length (take n values))) (sym (all_reverse is_length (take n values)))
    ∙ ap (λ (b : Bool). kind_of (list_all is_length (reverse (take n values))) b) (sym (all_reverse is_natural_length (take n values)))
    ∙ ap (λ (vs : List Value). kind_of (list_all is_length vs) (list_all is_natural_length vs)) (sym is)

-- where so many lengths are there
pub nest_there : (n : ℕ) (values top : List Value) → n ≤ length values → top ≡ reverse (take n values) → list_all is_length top ≡ true →
    Some (list_all is_natural_length top) ≡ naturals_among (lengths_on n [] values)
nest_there n values top h is all = sym (bottom_up n values top h is ∙ ap (λ (b : Bool). kind_of b (list_all is_natural_length top)) all)

pub nest_not_there : (n : ℕ) (values top : List Value) → n ≤ length values → top ≡ reverse (take n values) → list_all is_length top ≡ false → None ≡ naturals_among (lengths_on n [] values)
nest_not_there n values top h is all = sym (bottom_up n values top h is ∙ ap (λ (b : Bool). kind_of b (list_all is_natural_length top)) all)

pub nest_few : (n : ℕ) (values : List Value) → length values < n → None ≡ naturals_among (lengths_on n [] values)
nest_few n values h = sym (among_is n values ∙ kind_few n values h)

pub ruleset nest_rules = (nest_there, nest_not_there, nest_few)

-- ---- the instruction

negative_by : (of : Shape) (world : World) (next : ℕ) (now : Frame) (rest : List Value) (o : Option (List ℕ)) → Some (is_some o) ≡ Some false → nest_made of world next now rest o ≡ (world, throws NegativeArraySize now)
negative_by of world next now rest (Some lengths) e = cc
negative_by of world next now rest None e = refl

-- where one is negative
pub nest_negative : (of : Shape) (world : World) (next : ℕ) (now : Frame) (o : Option (List ℤ × List Value)) → naturals_among o ≡ Some false → nest_by of world next now o ≡ (world, throws NegativeArraySize now)
nest_negative of world next now (Some found) e = negative_by of world next now found.1 (naturals found.0) e
nest_negative of world next now None e = cc

-- where one is missing
pub nest_fails : (of : Shape) (world : World) (next : ℕ) (now : Frame) (o : Option (List ℤ × List Value)) → naturals_among o ≡ None → nest_by of world next now o ≡ (world, Fails)
nest_fails of world next now (Some found) e = cc
nest_fails of world next now None e = refl

pub ruleset made_rules = (nest_negative, nest_fails)
