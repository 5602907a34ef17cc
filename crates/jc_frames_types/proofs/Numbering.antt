-- Numbers of classes by their names, as a loop adds them.
use Rattle.std.proofs.Common.{◌≡◌, ◌∙◌, ◌+◌, ◌<◌, ◌≤◌, ◌++◌, ◌∷◌, [], ℕ, Bool, true, false, cond, List, length, take, get_or, position, refl, sym, ap, arith}
use Rattle.std.proofs.lemmas.Iterator.Adapters.{position_from-zero}
use Rattle.std.proofs.lemmas.List.{length-take-le, take_all, take_more}
use Rattle.std.proofs.lemmas.Slice.Eq.{bytes_eq-Decides}
use Rattle.std.specs.List.{position_from}
use Rattle.std.specs.Str.{bytes_eq}
use Rattle.std.specs.declared.option.Option.{Option}
use Rattle.std.specs.declared.option.Option.TheVariants.{Some, None}
use Rattle.jc_class_out.specs.declared.model.ClassModel.{ClassModel}
use Rattle.jc_jvm.specs.Classes.{class_named, or_else}
use Rattle.jc_jvm.specs.Numbered.{numbered}
use Rattle.jc_frames_types.specs.Indexed.{AreNumbers, NamesMore}

-- ---- names

or_none : {A : Type 0} (o : Option A) → or_else o None ≡ o
or_none (Some x) = refl
or_none None = refl

or_some : {A : Type 0} (o p : Option A) (x : A) → o ≡ Some x → o ≡ or_else o p
or_some (Some y) p x e = refl
or_some None p x e = cc

-- a name that has a number keeps it
pub names_kept : (numbers : List (List ℕ × ℕ)) (name : List ℕ) (number n : ℕ) → numbered name numbers ≡ Some n → NamesMore numbers numbers name number
names_kept numbers name number n has = λ wanted. by wanted (bytes_eq name wanted) refl
  where
    by : (wanted : List ℕ) (b : Bool) → bytes_eq name wanted ≡ b → numbered wanted numbers ≡ or_else (numbered wanted numbers) (cond b (Some number) None)
    by wanted true e =
        let same : name ≡ wanted = (bytes_eq-Decides name wanted).0 e in
        or_some (numbered wanted numbers) (Some number) n (ap (λ (w : List ℕ). numbered w numbers) (sym same) ∙ has)
    by wanted false e = sym (or_none (numbered wanted numbers))

numbered-push : (numbers : List (List ℕ × ℕ)) (name : List ℕ) (number : ℕ) (wanted : List ℕ) →
    numbered wanted (numbers ++ (name, number) ∷ []) ≡ or_else (numbered wanted numbers) (cond (bytes_eq name wanted) (Some number) None)
numbered-push [] name number wanted = refl
numbered-push (e ∷ es) name number wanted = by (bytes_eq e.0 wanted) (numbered-push es name number wanted)
  where
    by : (b : Bool) → numbered wanted (es ++ (name, number) ∷ []) ≡ or_else (numbered wanted es) (cond (bytes_eq name wanted) (Some number) None) →
        cond b (Some e.1) (numbered wanted (es ++ (name, number) ∷ [])) ≡ or_else (cond b (Some e.1) (numbered wanted es)) (cond (bytes_eq name wanted) (Some number) None)
    by true more = refl
    by false more = more

-- one that has none gets one
pub names_added : (before after : List (List ℕ × ℕ)) (name given : List ℕ) (number : ℕ) → given ≡ name → after ≡ before ++ (given, number) ∷ [] → NamesMore before after name number
names_added before after name given number same grown = λ wanted.
    ap (λ (es : List (List ℕ × ℕ)). numbered wanted es) grown
    ∙ ap (λ (n : List ℕ). numbered wanted (before ++ (n, number) ∷ [])) same
    ∙ numbered-push before name number wanted

pub ruleset name_rules = (names_kept, names_added)

-- ---- classes

position_from-push : {A : Type 0} (p : A → Bool) (i : ℕ) (xs : List A) (x : A) → position_from p i (xs ++ x ∷ []) ≡ or_else (position_from p i xs) (cond (p x) (Some (i + length xs)) None)
position_from-push p i [] x = ap (λ (n : ℕ). cond (p x) (Some n) None) (let e : i ≡ i + 0 = omega arith in e)
position_from-push p i (y ∷ ys) x = by (p y) (position_from-push p (i + 1) ys x)
  where
    by : (b : Bool) → position_from p (i + 1) (ys ++ x ∷ []) ≡ or_else (position_from p (i + 1) ys) (cond (p x) (Some (i + 1 + length ys)) None) →
        cond b (Some i) (position_from p (i + 1) (ys ++ x ∷ [])) ≡ or_else (cond b (Some i) (position_from p (i + 1) ys)) (cond (p x) (Some (i + length (y ∷ ys))) None)
    by true more = refl
    by false more = more ∙ ap (λ (n : ℕ). or_else (position_from p (i + 1) ys) (cond (p x) (Some n) None)) (let e : i + 1 + length ys ≡ i + length (y ∷ ys) = omega arith in e)

pub position-push : {A : Type 0} (p : A → Bool) (xs : List A) (x : A) → position p (xs ++ x ∷ []) ≡ or_else (position p xs) (cond (p x) (Some (length xs)) None)
position-push p xs x =
    position_from-zero p (xs ++ x ∷ [])
    ∙ position_from-push p 0 xs x
    ∙ ap (λ (n : ℕ). or_else (position_from p 0 xs) (cond (p x) (Some n) None)) (let e : 0 + length xs ≡ length xs = omega arith in e)
    ∙ ap (λ (o : Option ℕ). or_else o (cond (p x) (Some (length xs)) None)) (sym (position_from-zero p xs))

-- before the first class
pub numbers_none : (classes : List ClassModel) (numbers : List (List ℕ × ℕ)) → numbers ≡ [] → AreNumbers (take 0 classes) numbers
numbers_none classes numbers none = λ wanted. ap (λ (es : List (List ℕ × ℕ)). numbered wanted es) none

-- one class more
pub numbers_one : (classes : List ClassModel) (i : ℕ) (d : ClassModel) (before after : List (List ℕ × ℕ)) (name : List ℕ) → i < length classes → name ≡ (get_or classes i d).name →
    AreNumbers (take i classes) before → NamesMore before after name i → AreNumbers (take (i + 1) classes) after
numbers_one classes i d before after name inside is so more = λ wanted.
    let here : List ClassModel = take i classes in
    let class : ClassModel = get_or classes i d in
    more wanted
    ∙ ap (λ (o : Option ℕ). or_else o (cond (bytes_eq name wanted) (Some i) None)) (so wanted)
    ∙ ap (λ (n : List ℕ). or_else (class_named here wanted) (cond (bytes_eq n wanted) (Some i) None)) is
    ∙ ap (λ (k : ℕ). or_else (class_named here wanted) (cond (bytes_eq class.name wanted) (Some k) None)) (sym (length-take-le i classes (omega (arith, inside))))
    ∙ sym (position-push (λ (c : ClassModel). bytes_eq c.name wanted) here class)
    ∙ ap (λ (cs : List ClassModel). class_named cs wanted) (sym (take_more classes i d inside))

-- behind the last one
pub numbers_all : (classes : List ClassModel) (i : ℕ) (numbers : List (List ℕ × ℕ)) → length classes ≤ i → AreNumbers (take i classes) numbers → AreNumbers classes numbers
numbers_all classes i numbers past so = λ wanted. so wanted ∙ ap (λ (cs : List ClassModel). class_named cs wanted) (take_all i classes past)

pub ruleset first_numbers = (numbers_none)

-- the number of a name
pub number_of : (classes : List ClassModel) (numbers : List (List ℕ × ℕ)) (name : List ℕ) → AreNumbers classes numbers → numbered name numbers ≡ class_named classes name
number_of classes numbers name so = so name

pub ruleset number_is = (number_of)
