-- Numbers of names and descriptors, as loops add them, and selection by them.
use Rattle.std.proofs.Common.{◌≡◌, ◌∙◌, ◌+◌, ◌-◌, ◌<◌, ◌++◌, ◌∷◌, ◌&&◌, ◌==◌, [], ℕ, zero, suc, Bool, true, false, cond, List, length, map, take, get_or, position, slice_get, append_assoc, length-append, refl, sym, ap, subst, arith, if◌then◌else◌}
use Rattle.std.proofs.lemmas.Bool.Decides.{nat_tests}
use Rattle.std.proofs.lemmas.Iterator.Adapters.{position_from-zero}
use Rattle.std.proofs.lemmas.List.{append-nil, length-map, length-take-le, take_more}
use Rattle.std.proofs.lemmas.List.Quantifiers.{position-Some}
use Rattle.std.proofs.lemmas.Option.{slice_get-map}
use Rattle.std.proofs.lemmas.Slice.Eq.{bytes_eq-Decides}
use Rattle.std.specs.List.{position_from}
use Rattle.std.specs.Option.{option_map}
use Rattle.std.specs.Str.{bytes_eq}
use Rattle.std.specs.declared.option.Option.{Option}
use Rattle.std.specs.declared.option.Option.TheVariants.{Some, None}
use Rattle.jc_rules.proofs.Truths.{and_assoc}
use Rattle.jc_class_out.specs.declared.model.ClassModel.{ClassModel}
use Rattle.jc_class_out.specs.declared.model.MethodModel.{MethodModel}
use Rattle.jc_jvm.specs.Classes.{is_method, is_selectable, line_of, line_on, method_among, methods_of, or_else, selected, super_of}
use Rattle.jc_jvm.specs.Numbered.{numbered}
use Rattle.jc_heap.proofs.Closed.{parent_nowhere, parent_there}
use Rattle.jc_heap.proofs.FieldLayouts.{line_on-none, line_on-zero, line_on-suc}
use Rattle.jc_heap.proofs.Numbering.{position-push}
use Rattle.jc_heap.specs.Named.{NamesMore}
use Rattle.jc_heap.specs.Signatures.{AreSignatures, SignaturesMore, all_methods, all_numbers, joined, number_of, numbers_in, selected_as, signature_of}
use Rattle.jc_heap.specs.Supers.{all_parents, parent_in}
use Rattle.jc_selecting.proofs.Lines.{found_none, found_zero, found_suc}
use Rattle.jc_selecting.specs.Found as found

-- ---- one text for both

same_joined : (a b d e : List ℕ) → bytes_eq (joined a d) (joined b e) ≡ (bytes_eq a b && bytes_eq d e)
same_joined [] [] d e = refl
same_joined [] (v ∷ b) d e = refl
same_joined (u ∷ a) [] d e = refl
same_joined (u ∷ a) (v ∷ b) d e = ap (λ (t : Bool). (u == v) && t) (same_joined a b d e) ∙ sym (and_assoc (u == v) (bytes_eq a b) (bytes_eq d e))

-- a text more is a name and a descriptor more
pub joined_more : (before after : List (List ℕ × ℕ)) (text name descriptor : List ℕ) (number : ℕ) → text ≡ joined name descriptor → NamesMore before after text number → SignaturesMore before after name descriptor number
joined_more before after text name descriptor number is more = λ n d.
    more (joined n d)
    ∙ ap (λ (t : List ℕ). or_else (numbered (joined n d) before) (cond (bytes_eq t (joined n d)) (Some number) None)) is
    ∙ ap (λ (b : Bool). or_else (numbered (joined n d) before) (cond b (Some number) None)) (same_joined name n descriptor d)

-- ---- methods one after the other

pub signatures_none : (numbers : List (List ℕ × ℕ)) → numbers ≡ [] → AreSignatures [] numbers
signatures_none numbers none = λ n d. ap (λ (es : List (List ℕ × ℕ)). numbered (joined n d) es) none

-- one method more
pub signatures_one : (methods : List MethodModel) (method : MethodModel) (before after : List (List ℕ × ℕ)) (number : ℕ) → number ≡ length methods → AreSignatures methods before → SignaturesMore before after method.name method.descriptor number → AreSignatures (methods ++ method ∷ []) after
signatures_one methods method before after number is so more = λ n d.
    more n d
    ∙ ap (λ (o : Option ℕ). or_else o (cond (is_method n d method) (Some number) None)) (so n d)
    ∙ ap (λ (k : ℕ). or_else (position (is_method n d) methods) (cond (is_method n d method) (Some k) None)) is
    ∙ sym (position-push (is_method n d) methods method)

-- one method of a class more, behind those of the classes before
pub signatures_step : (methods before : List MethodModel) (i from next : ℕ) (method : MethodModel) (now after : List (List ℕ × ℕ)) (name descriptor : List ℕ) → i < length methods → next ≡ from + i → from ≡ length before →
    method ≡ get_or methods i method → name ≡ method.name → descriptor ≡ method.descriptor → AreSignatures (before ++ take i methods) now → SignaturesMore now after name descriptor next → AreSignatures (before ++ take (i + 1) methods) after
signatures_step methods before i from next method now after name descriptor inside is start at named typed so more =
    let long : length (before ++ take i methods) ≡ length before + i = length-append before (take i methods) ∙ ap (λ (n : ℕ). length before + n) (length-take-le i methods (omega (arith, inside))) in
    let added : SignaturesMore now after method.name method.descriptor next =
    subst (λ (n : List ℕ). SignaturesMore now after n method.descriptor next) named (subst (λ (d : List ℕ). SignaturesMore now after name d next) typed more) in
    subst (λ (ms : List MethodModel). AreSignatures ms after)
    (append_assoc before (take i methods) (method ∷ []) ∙ ap (λ (ms : List MethodModel). before ++ ms) (ap (λ (m : MethodModel). take i methods ++ m ∷ []) at ∙ sym (take_more methods i method inside)))
    (signatures_one (before ++ take i methods) method now after next (omega (arith, is, start, long)) so added)

flat_more : (ms : List ClassModel) (c : ClassModel) → all_methods (ms ++ c ∷ []) ≡ all_methods ms ++ c.methods
flat_more [] c = append-nil c.methods
flat_more (m ∷ ms) c = ap (λ (rest : List MethodModel). m.methods ++ rest) (flat_more ms c) ∙ sym (append_assoc m.methods (all_methods ms) c.methods)

-- the methods of one class more
pub methods_more : (classes : List ClassModel) (i : ℕ) (d : ClassModel) → i < length classes → all_methods (take (i + 1) classes) ≡ all_methods (take i classes) ++ (get_or classes i d).methods
methods_more classes i d inside = ap all_methods (take_more classes i d inside) ∙ flat_more (take i classes) (get_or classes i d)

-- one class more
pub class_added : (classes : List ClassModel) (i : ℕ) (class : ClassModel) (methods : List MethodModel) (from next : ℕ) (now after : List (List ℕ × ℕ)) → i < length classes → class ≡ get_or classes i class → methods ≡ class.methods →
    from ≡ length (all_methods (take i classes)) → AreSignatures (all_methods (take i classes)) now → next ≡ from + length methods →
    ((before : List MethodModel) → from ≡ length before → AreSignatures before now → AreSignatures (before ++ methods) after) →
    (next ≡ length (all_methods (take (i + 1) classes))) × AreSignatures (all_methods (take (i + 1) classes)) after
class_added classes i class methods from next now after inside at is start so further more =
    let whole : all_methods (take i classes) ++ methods ≡ all_methods (take (i + 1) classes) =
    ap (λ (ms : List MethodModel). all_methods (take i classes) ++ ms) (is ∙ ap (λ (c : ClassModel). c.methods) at) ∙ sym (methods_more classes i class inside) in (
      further ∙ ap (λ (n : ℕ). n + length methods) start ∙ sym (length-append (all_methods (take i classes)) methods) ∙ ap (λ (ms : List MethodModel). length ms) whole,
      subst (λ (ms : List MethodModel). AreSignatures ms after) whole (more (all_methods (take i classes)) start so),
    )

-- ---- selection by number is selection by name and descriptor

position_by : {A : Type 0} (p q : A → Bool) (i : ℕ) (xs : List A) → ((x : A) → p x ≡ q x) → position_from p i xs ≡ position_from q i xs
position_by p q i [] same = refl
position_by p q i (x ∷ xs) same = ap (λ (b : Bool). cond b (Some i) (position_from p (i + 1) xs)) (same x) ∙ ap (λ (o : Option ℕ). cond (q x) (Some i) o) (position_by p q (i + 1) xs same)

position_same : {A : Type 0} (p q : A → Bool) (xs : List A) → ((x : A) → p x ≡ q x) → position p xs ≡ position q xs
position_same p q xs same = position_from-zero p xs ∙ position_by p q 0 xs same ∙ sym (position_from-zero q xs)

position_map : {A B : Type 0} (p : B → Bool) (f : A → B) (i : ℕ) (xs : List A) → position_from p i (map f xs) ≡ position_from (λ (x : A). p (f x)) i xs
position_map p f i [] = refl
position_map p f i (x ∷ xs) = ap (λ (o : Option ℕ). cond (p (f x)) (Some i) o) (position_map p f (i + 1) xs)

position_mapped : {A B : Type 0} (p : B → Bool) (f : A → B) (xs : List A) → position p (map f xs) ≡ position (λ (x : A). p (f x)) xs
position_mapped {A = A} p f xs = position_from-zero p (map f xs) ∙ position_map p f 0 xs ∙ sym (position_from-zero (λ (x : A). p (f x)) xs)

among_same : (classes : List ClassModel) (p q : MethodModel → Bool) (ks : List ℕ) → ((m : MethodModel) → p m ≡ q m) → method_among classes p ks ≡ method_among classes q ks
among_same classes p q [] same = refl
among_same classes p q (k ∷ ks) same =
    ap (λ (o : Option ℕ). or_else (option_map (λ (i : ℕ). (k, i)) o) (method_among classes p ks)) (position_same p q (methods_of classes k) same)
    ∙ ap (λ (o : Option (ℕ × ℕ)). or_else (option_map (λ (i : ℕ). (k, i)) (position q (methods_of classes k))) o) (among_same classes p q ks same)

-- names and descriptors that are the same
method_is : (name descriptor : List ℕ) (m : MethodModel) → is_method name descriptor m ≡ true → (m.name ≡ name) × (m.descriptor ≡ descriptor)
method_is name descriptor m e = by (bytes_eq m.name name) (bytes_eq m.descriptor descriptor) refl refl e
  where
    by : (a b : Bool) → bytes_eq m.name name ≡ a → bytes_eq m.descriptor descriptor ≡ b → (a && b) ≡ true → (m.name ≡ name) × (m.descriptor ≡ descriptor)
    by true true p q t = ((bytes_eq-Decides m.name name).0 p, (bytes_eq-Decides m.descriptor descriptor).0 q)
    by true false p q t = cc
    by false b p q t = cc

number_true : (s : ℕ) (o : Option ℕ) → found.is_number s o ≡ true → o ≡ Some s
number_true s (Some n) e = let same : n ≡ s = grind (arith, nat_tests) in ap (λ (k : ℕ). let t : Option ℕ = Some k in t) same
number_true s None e = cc

number_same : (s : ℕ) (o : Option ℕ) → o ≡ Some s → found.is_number s o ≡ true
number_same s o e = ap (λ (t : Option ℕ). found.is_number s t) e ∙ (let same : (s == s) ≡ true = grind (arith, nat_tests) in same)

-- methods of one number have one name and one descriptor
same_signature : (classes : List ClassModel) (name descriptor other kind : List ℕ) (s : ℕ) (d : MethodModel) → signature_of classes name descriptor ≡ Some s → signature_of classes other kind ≡ Some s → (name ≡ other) × (descriptor ≡ kind)
same_signature classes name descriptor other kind s d e f =
    let a = method_is name descriptor (get_or (all_methods classes) s d) (position-Some (is_method name descriptor) (all_methods classes) s d e).1 in
    let b = method_is other kind (get_or (all_methods classes) s d) (position-Some (is_method other kind) (all_methods classes) s d f).1 in
    (sym a.0 ∙ b.0, sym a.1 ∙ b.1)

is_itself : (m : MethodModel) → is_method m.name m.descriptor m ≡ true
is_itself m = ap (λ (b : Bool). b && bytes_eq m.descriptor m.descriptor) ((bytes_eq-Decides m.name m.name).1 refl) ∙ (bytes_eq-Decides m.descriptor m.descriptor).1 refl

tests_same : (classes : List ClassModel) (name descriptor : List ℕ) (s : ℕ) → signature_of classes name descriptor ≡ Some s → (m : MethodModel) → is_method name descriptor m ≡ found.is_number s (signature_of classes m.name m.descriptor)
tests_same classes name descriptor s e m = by (is_method name descriptor m) (found.is_number s (signature_of classes m.name m.descriptor)) refl refl
  where
    has : is_method name descriptor m ≡ true → found.is_number s (signature_of classes m.name m.descriptor) ≡ true
    has t =
        let is = method_is name descriptor m t in
        number_same s (signature_of classes m.name m.descriptor) (ap (λ (n : List ℕ). signature_of classes n m.descriptor) is.0 ∙ ap (λ (d : List ℕ). signature_of classes name d) is.1 ∙ e)

    had : found.is_number s (signature_of classes m.name m.descriptor) ≡ true → is_method name descriptor m ≡ true
    had t =
        let is = same_signature classes name descriptor m.name m.descriptor s m e (number_true s (signature_of classes m.name m.descriptor) t) in
        ap (λ (n : List ℕ). is_method n descriptor m) is.0 ∙ ap (λ (d : List ℕ). is_method m.name d m) is.1 ∙ is_itself m

    by : (a b : Bool) → is_method name descriptor m ≡ a → found.is_number s (signature_of classes m.name m.descriptor) ≡ b → is_method name descriptor m ≡ found.is_number s (signature_of classes m.name m.descriptor)
    by true b p q = p ∙ sym (has p)
    by false true p q = absurd (let t : is_method name descriptor m ≡ true = had q in cc)
    by false false p q = p ∙ sym q

-- ---- where no method has the name and the descriptor

moved_by : (b : Bool) (i j : ℕ) (x y : Option ℕ) → cond b (Some i) x ≡ None → (x ≡ None → y ≡ None) → cond b (Some j) y ≡ None
moved_by true i j x y e f = cc
moved_by false i j x y e f = f e

-- whatever the number of the first one
moved : {A : Type 0} (p : A → Bool) (i j : ℕ) (xs : List A) → position_from p i xs ≡ None → position_from p j xs ≡ None
moved p i j [] e = refl
moved p i j (x ∷ xs) e = moved_by (p x) i j (position_from p (i + 1) xs) (position_from p (j + 1) xs) e (λ f. moved p (i + 1) (j + 1) xs f)

parts_by : (b : Bool) (i : ℕ) (x y z : Option ℕ) → cond b (Some i) x ≡ None → (x ≡ None → (y ≡ None) × (z ≡ None)) → (cond b (Some i) y ≡ None) × (z ≡ None)
parts_by true i x y z e f = cc
parts_by false i x y z e f = f e

in_parts : {A : Type 0} (p : A → Bool) (i : ℕ) (xs ys : List A) → position_from p i (xs ++ ys) ≡ None → (position_from p i xs ≡ None) × (position_from p i ys ≡ None)
in_parts p i [] ys e = (refl, e)
in_parts p i (x ∷ xs) ys e = parts_by (p x) i (position_from p (i + 1) (xs ++ ys)) (position_from p (i + 1) xs) (position_from p i ys) e
    (λ f. let h = in_parts p (i + 1) xs ys f in (h.0, moved p (i + 1) i ys h.1))

in_class : (p : MethodModel → Bool) (classes : List ClassModel) (k : ℕ) → position_from p 0 (all_methods classes) ≡ None → position_from p 0 (methods_of classes k) ≡ None
in_class p [] k e = refl
in_class p (c ∷ cs) zero e = (in_parts p 0 c.methods (all_methods cs) e).0
in_class p (c ∷ cs) (suc k) e = in_class p cs k (in_parts p 0 c.methods (all_methods cs) e).1

narrower_by : (b c : Bool) (i : ℕ) (x y : Option ℕ) → cond b (Some i) x ≡ None → (x ≡ None → y ≡ None) → cond (b && c) (Some i) y ≡ None
narrower_by true c i x y e f = cc
narrower_by false c i x y e f = f e

narrower : {A : Type 0} (p q : A → Bool) (i : ℕ) (xs : List A) → position_from p i xs ≡ None → position_from (λ (x : A). p x && q x) i xs ≡ None
narrower p q i [] e = refl
narrower p q i (x ∷ xs) e = narrower_by (p x) (q x) i (position_from p (i + 1) xs) (position_from (λ y. p y && q y) (i + 1) xs) e (λ f. narrower p q (i + 1) xs f)

among_none : (classes : List ClassModel) (p : MethodModel → Bool) (ks : List ℕ) → ((k : ℕ) → position p (methods_of classes k) ≡ None) → method_among classes p ks ≡ None
among_none classes p [] none = refl
among_none classes p (k ∷ ks) none =
    ap (λ (o : Option ℕ). or_else (option_map (λ (i : ℕ). (k, i)) o) (method_among classes p ks)) (none k) ∙ among_none classes p ks none

selected_none : (classes : List ClassModel) (name descriptor : List ℕ) (k : ℕ) → signature_of classes name descriptor ≡ None → selected classes name descriptor k ≡ None
selected_none classes name descriptor k e =
    among_none classes (λ (m : MethodModel). is_method name descriptor m && is_selectable m) (line_of classes k)
    (λ j.
    position_from-zero (λ (m : MethodModel). is_method name descriptor m && is_selectable m) (methods_of classes j)
    ∙ narrower (is_method name descriptor) is_selectable 0 (methods_of classes j) (in_class (is_method name descriptor) classes j (sym (position_from-zero (is_method name descriptor) (all_methods classes)) ∙ e)))

-- what a name and a descriptor select, their number selects
pub selected_by_number : (classes : List ClassModel) (name descriptor : List ℕ) (k : ℕ) → selected classes name descriptor k ≡ selected_as classes (signature_of classes name descriptor) k
selected_by_number classes name descriptor k = by (signature_of classes name descriptor) refl
  where
    by : (o : Option ℕ) → signature_of classes name descriptor ≡ o → selected classes name descriptor k ≡ selected_as classes o k
    by (Some s) e =
        among_same classes (λ (m : MethodModel). is_method name descriptor m && is_selectable m) (λ (m : MethodModel). found.is_number s (signature_of classes m.name m.descriptor) && is_selectable m) (line_of classes k)
        (λ m. ap (λ (b : Bool). b && is_selectable m) (tests_same classes name descriptor s e m))
    by None e = selected_none classes name descriptor k e

-- ---- selection along the numbers of classes and methods

same_or : {A : Type 0} (x y : Option A) → found.or_else x y ≡ or_else x y
same_or (Some x) y = refl
same_or None y = refl

parent_is : (classes : List ClassModel) (k : ℕ) → found.parent_of (all_parents classes) k ≡ super_of classes k
parent_is classes k = by (slice_get (all_parents classes) k) refl
  where
    by : (o : Option (Option ℕ)) → slice_get (all_parents classes) k ≡ o → (elim o [ Some parent ↦ parent | None ↦ None ]) ≡ super_of classes k
    by (Some p) e = parent_there classes k p e
    by None e = parent_nowhere classes k e

numbers_by : (classes : List ClassModel) (o : Option ClassModel) → (elim (option_map (numbers_in classes) o) [ Some row ↦ row | None ↦ [] ]) ≡ map (number_of classes) (elim o [ Some c ↦ c.methods | None ↦ [] ])
numbers_by classes (Some c) = refl
numbers_by classes None = refl

numbers_are : (classes : List ClassModel) (k : ℕ) → found.own_of (all_numbers classes) k ≡ map (number_of classes) (methods_of classes k)
unfolding all_numbers
numbers_are classes k = ap (λ (o : Option (List (Option ℕ))). let row : List (Option ℕ) = elim o [ Some row ↦ row | None ↦ [] ] in row) (slice_get-map (numbers_in classes) classes k) ∙ numbers_by classes (slice_get classes k)

and_true : (b : Bool) → b ≡ (b && true)
and_true true = refl
and_true false = refl

and_false : (b : Bool) → false ≡ (b && false)
and_false true = refl
and_false false = refl

number_test : (s : ℕ) (o : Option ℕ) (b : Bool) → found.is_number s (if b then o else None) ≡ (found.is_number s o && b)
number_test s o true = and_true (found.is_number s o)
number_test s o false = and_false (found.is_number s o)

own_is : (classes : List ClassModel) (s k : ℕ) → found.own_found k (found.own_of (all_numbers classes) k) s ≡ option_map (λ (i : ℕ). (k, i)) (position (λ (m : MethodModel). found.is_number s (signature_of classes m.name m.descriptor) && is_selectable m) (methods_of classes k))
own_is classes s k =
    ap (λ (row : List (Option ℕ)). found.own_found k row s) (numbers_are classes k)
    ∙ ap (λ (o : Option ℕ). option_map (λ (i : ℕ). (k, i)) o)
    (position_mapped (found.is_number s) (number_of classes) (methods_of classes k)
    ∙ position_same (λ (m : MethodModel). found.is_number s (number_of classes m)) (λ (m : MethodModel). found.is_number s (signature_of classes m.name m.descriptor) && is_selectable m) (methods_of classes k)
    (λ m. number_test s (signature_of classes m.name m.descriptor) (is_selectable m)))

abbrev pub among_numbers : List ClassModel → ℕ → List ℕ → Option (ℕ × ℕ)
among_numbers classes s ks = method_among classes (λ (m : MethodModel). found.is_number s (signature_of classes m.name m.descriptor) && is_selectable m) ks

found_is : (classes : List ClassModel) (s n : ℕ) (here : Option ℕ) → found.found_on (all_parents classes) (all_numbers classes) s n here ≡ among_numbers classes s (line_on classes n here)
found_is classes s n None = found_none (all_parents classes) (all_numbers classes) s n ∙ sym (ap (among_numbers classes s) (line_on-none classes n))
found_is classes s zero (Some k) = found_zero (all_parents classes) (all_numbers classes) s (Some k) ∙ sym (ap (among_numbers classes s) (line_on-zero classes (Some k)))
found_is classes s (suc n) (Some k) =
    found_suc (all_parents classes) (all_numbers classes) s n k
    ∙ same_or (found.own_found k (found.own_of (all_numbers classes) k) s) (found.found_on (all_parents classes) (all_numbers classes) s n (found.parent_of (all_parents classes) k))
    ∙ ap (λ (o : Option (ℕ × ℕ)). or_else o (found.found_on (all_parents classes) (all_numbers classes) s n (found.parent_of (all_parents classes) k))) (own_is classes s k)
    ∙ ap (λ (o : Option (ℕ × ℕ)). or_else (option_map (λ (i : ℕ). (k, i)) (position (λ (m : MethodModel). found.is_number s (signature_of classes m.name m.descriptor) && is_selectable m) (methods_of classes k))) o)
    (ap (λ (here : Option ℕ). found.found_on (all_parents classes) (all_numbers classes) s n here) (parent_is classes k) ∙ found_is classes s n (super_of classes k))
    ∙ sym (ap (among_numbers classes s) (line_on-suc classes n k))

parents_count : (classes : List ClassModel) → length (all_parents classes) ≡ length classes
unfolding all_parents
parents_count classes = length-map classes (parent_in classes)

-- what is found by number is what is selected
pub found_selected : (classes : List ClassModel) (s k : ℕ) → found.found_on (all_parents classes) (all_numbers classes) s (length (all_parents classes)) (Some k) ≡ selected_as classes (Some s) k
found_selected classes s k = found_is classes s (length (all_parents classes)) (Some k) ∙ ap (λ (n : ℕ). among_numbers classes s (line_on classes n (Some k))) (parents_count classes)

-- the same where the numbers are kept
pub selected_number : (classes : List ClassModel) (selecting : List (Option ℕ) × List (List (Option ℕ))) (s k : ℕ) → selecting ≡ (all_parents classes, all_numbers classes) →
    found.found_on selecting.0 selecting.1 s (length selecting.0) (Some k) ≡ selected_as classes (Some s) k
selected_number classes selecting s k is =
    ap (λ (p : List (Option ℕ) × List (List (Option ℕ))). found.found_on p.0 p.1 s (length p.0) (Some k)) is ∙ found_selected classes s k

pub ruleset select_rules = (selected_number)
