-- Turns of a search for a field.
use Rattle.std.proofs.Common.{◌≡◌, ◌<◌, ◌≤◌, ◌+◌, ◌-◌, ◌∙◌, ◌++◌, ◌∷◌, [], ℕ, zero, suc, List, get_or, position, replicate, reverse, refl, sym, ap, subst, arith}
use Rattle.std.proofs.lemmas.List.{reverse-append}
use Rattle.std.specs.Option.{option_map}
use Rattle.std.specs.declared.option.Option.{Option}
use Rattle.std.specs.declared.option.Option.TheVariants.{Some, None}
use Rattle.jc_class_out.specs.declared.model.ClassModel.{ClassModel}
use Rattle.jc_jvm.specs.Classes.{field_on, fields_of, first_some, interfaces_of, is_field, listed, or_else, super_of}
use Rattle.jc_lookups.proofs.FieldLines.{field_none, no_own_field, or_else-assoc, or_else-none, own_field}
use Rattle.jc_lookups.specs.Searched.{AllSay, Says, Stands, Turn, found_above, task_finds, tasks_find}
use Rattle.jc_lookups.specs.declared.seeking.Task.{Task}
use Rattle.jc_lookups.specs.declared.seeking.Task.TheVariants.{Visit, Climb}

-- ---- fewer steps find no more

or_none-left : {A : Type 0} (o p : Option A) → or_else o p ≡ None → o ≡ None
or_none-left (Some x) p e = cc
or_none-left None p e = refl

or_none-right : {A : Type 0} (o p : Option A) → or_else o p ≡ None → p ≡ None
or_none-right (Some x) p e = cc
or_none-right None p e = e

or_none-both : {A : Type 0} (o p : Option A) → o ≡ None → p ≡ None → or_else o p ≡ None
or_none-both (Some x) p e f = cc
or_none-both None p e f = f

first_none : {A : Type 0} (f g : ℕ → Option A) (ks : List ℕ) → ((k : ℕ) → f k ≡ None → g k ≡ None) → first_some f ks ≡ None → first_some g ks ≡ None
first_none f g [] fewer e = refl
first_none f g (k ∷ ks) fewer e =
    or_none-both (g k) (first_some g ks) (fewer k (or_none-left (f k) (first_some f ks) e)) (first_none f g ks fewer (or_none-right (f k) (first_some f ks) e))

field_on-by : (classes : List ClassModel) (name descriptor : List ℕ) (n k : ℕ) →
    field_on classes name descriptor (suc n) k ≡ or_else (option_map (λ (i : ℕ). (k, i)) (position (is_field name descriptor) (fields_of classes k))) (first_some (field_on classes name descriptor n) (interfaces_of classes k ++ listed (super_of classes k)))
unfolding field_on
field_on-by classes name descriptor n k = refl

fewer_steps : (classes : List ClassModel) (name descriptor : List ℕ) (n m k : ℕ) → n ≤ m → field_on classes name descriptor m k ≡ None → field_on classes name descriptor n k ≡ None
fewer_steps classes name descriptor zero m k h e = field_none classes name descriptor k
fewer_steps classes name descriptor (suc n) zero k h e = absurd (omega arith)
fewer_steps classes name descriptor (suc n) (suc m) k h e =
    let own : Option (ℕ × ℕ) = option_map (λ (i : ℕ). (k, i)) (position (is_field name descriptor) (fields_of classes k)) in
    let ks : List ℕ = interfaces_of classes k ++ listed (super_of classes k) in
    let f : ℕ → Option (ℕ × ℕ) = field_on classes name descriptor m in
    let g : ℕ → Option (ℕ × ℕ) = field_on classes name descriptor n in
    let below : n ≤ m = omega (arith, h) in
    let all : or_else own (first_some f ks) ≡ None = sym (field_on-by classes name descriptor m k) ∙ e in
    field_on-by classes name descriptor n k
    ∙ or_none-both own (first_some g ks) (or_none-left own (first_some f ks) all)
    (first_none f g ks (λ x none. fewer_steps classes name descriptor n m x below none) (or_none-right own (first_some f ks) all))

-- ---- turns

AllSay-by : (classes : List ClassModel) (name descriptor : List ℕ) (before after : Option (ℕ × ℕ)) (ts : List Task) → before ≡ after → AllSay classes name descriptor before ts → AllSay classes name descriptor after ts
AllSay-by classes name descriptor before after ts e say = subst (λ (o : Option (ℕ × ℕ)). AllSay classes name descriptor o ts) e say

-- one task that finds what another one says takes its place
replaced : (classes : List ClassModel) (name descriptor known : List ℕ) (t u : Task) (ts : List Task) (answer : Option (ℕ × ℕ)) →
    task_finds classes name descriptor t ≡ task_finds classes name descriptor u → Says classes name descriptor None u →
    Stands classes name descriptor known (t ∷ ts) answer → Stands classes name descriptor known (u ∷ ts) answer
replaced classes name descriptor known t u ts answer same says stands = record {
  without = stands.without;
  say = (says, AllSay-by classes name descriptor (task_finds classes name descriptor t) (task_finds classes name descriptor u) ts same stands.say.1);
  find = ap (λ (o : Option (ℕ × ℕ)). or_else o (tasks_find classes name descriptor ts)) (sym same) ∙ stands.find;
}

-- two tasks take the place of one
split : (classes : List ClassModel) (name descriptor known : List ℕ) (t u v : Task) (ts : List Task) (answer : Option (ℕ × ℕ)) →
    task_finds classes name descriptor t ≡ or_else (task_finds classes name descriptor u) (task_finds classes name descriptor v) →
    Says classes name descriptor None u → Says classes name descriptor (task_finds classes name descriptor u) v →
    Stands classes name descriptor known (t ∷ ts) answer → Stands classes name descriptor known (u ∷ v ∷ ts) answer
split classes name descriptor known t u v ts answer same first second stands = record {
  without = stands.without;
  say = (first, (second, AllSay-by classes name descriptor (task_finds classes name descriptor t) (or_else (task_finds classes name descriptor u) (task_finds classes name descriptor v)) ts same stands.say.1));
  find =
      sym (or_else-assoc (task_finds classes name descriptor u) (task_finds classes name descriptor v) (tasks_find classes name descriptor ts))
      ∙ ap (λ (o : Option (ℕ × ℕ)). or_else o (tasks_find classes name descriptor ts)) (sym same) ∙ stands.find;
}

-- a class that is known not to have the field
pub visit_known : (classes : List ClassModel) (name descriptor known : List ℕ) (steps class : ℕ) (ts left : List Task) → steps ≤ get_or known class 0 → left ≡ ts → Turn classes name descriptor known (Visit steps class ∷ ts) known left None
visit_known classes name descriptor known steps class ts left few same = λ answer stands.
    let none : field_on classes name descriptor steps class ≡ None = fewer_steps classes name descriptor steps (get_or known class 0) class few (stands.without class) in
    subst (λ (l : List Task). Stands classes name descriptor known l answer) (sym same) (record {
      without = stands.without;
      say = AllSay-by classes name descriptor (field_on classes name descriptor steps class) None ts none stands.say.1;
      find = ap (λ (o : Option (ℕ × ℕ)). or_else o (tasks_find classes name descriptor ts)) (sym none) ∙ stands.find;
    })

-- one that declares it
pub visit_found : (classes : List ClassModel) (name descriptor known after : List ℕ) (steps class place : ℕ) (ts left : List Task) → 0 < steps → position (is_field name descriptor) (fields_of classes class) ≡ Some place →
    Turn classes name descriptor known (Visit steps class ∷ ts) after left (Some (class, place))
visit_found classes name descriptor known after steps class place ts left some has = λ answer stands.
    sym stands.find ∙ ap (λ (o : Option (ℕ × ℕ)). or_else o (tasks_find classes name descriptor ts)) (sym (own_field classes name descriptor steps class place some has))

-- one that doesn't
pub visit_above : (classes : List ClassModel) (name descriptor known : List ℕ) (steps class : ℕ) (ts left : List Task) → 0 < steps → position (is_field name descriptor) (fields_of classes class) ≡ None →
    left ≡ Climb steps class 0 ∷ ts → Turn classes name descriptor known (Visit steps class ∷ ts) known left None
visit_above classes name descriptor known steps class ts left some none same = λ answer stands.
    let above : field_on classes name descriptor steps class ≡ found_above classes name descriptor steps class 0 = no_own_field classes name descriptor steps class some none in
    subst (λ (l : List Task). Stands classes name descriptor known l answer) (sym same)
    (replaced classes name descriptor known (Visit steps class) (Climb steps class 0) ts answer above (λ _. above) stands)

-- ---- the whole search

zeros_at : (n k : ℕ) → get_or (replicate n zero) k zero ≡ zero
zeros_at zero k = refl
zeros_at (suc n) zero = refl
zeros_at (suc n) (suc k) = zeros_at n k

-- the task that was pushed last is next
pub pushed_one : {A : Type 0} (xs ys : List A) (x : A) → ys ≡ xs ++ x ∷ [] → reverse ys ≡ x ∷ reverse xs
pushed_one {A = A} xs ys x e = ap (λ (l : List A). reverse l) e ∙ reverse-append xs (x ∷ [])

-- before its first turn
pub search_begins : (classes : List ClassModel) (name descriptor known : List ℕ) (count steps class : ℕ) (tasks : List Task) → known ≡ replicate count 0 → tasks ≡ Visit steps class ∷ [] →
    Stands classes name descriptor known (reverse tasks) (field_on classes name descriptor steps class)
search_begins classes name descriptor known count steps class tasks zeros is =
    subst (λ (l : List Task). Stands classes name descriptor known l (field_on classes name descriptor steps class)) (sym (ap (λ (l : List Task). reverse l) is)) (record {
      without = λ k. ap (λ (ks : List ℕ). field_on classes name descriptor (get_or ks k 0) k) zeros ∙ ap (λ (n : ℕ). field_on classes name descriptor n k) (zeros_at count k) ∙ field_none classes name descriptor k;
      say = (tt, tt);
      find = or_else-none (field_on classes name descriptor steps class);
    })

-- one turn more
pub search_turns : (classes : List ClassModel) (name descriptor known : List ℕ) (tasks rest : List Task) (t : Task) (after : List ℕ) (left : List Task) (answer found : Option (ℕ × ℕ)) →
    tasks ≡ rest ++ t ∷ [] → Turn classes name descriptor known (t ∷ reverse rest) after (reverse left) found → Stands classes name descriptor known (reverse tasks) answer →
    (found ≡ None → Stands classes name descriptor after (reverse left) answer) × ((place : ℕ × ℕ) → found ≡ Some place → answer ≡ Some place)
search_turns classes name descriptor known tasks rest t after left answer None is turn stands =
    (λ _. turn answer (subst (λ (l : List Task). Stands classes name descriptor known l answer) (pushed_one rest tasks t is) stands), λ place e. cc)
search_turns classes name descriptor known tasks rest t after left answer (Some found) is turn stands =
    (λ e. cc, λ place e. turn answer (subst (λ (l : List Task). Stands classes name descriptor known l answer) (pushed_one rest tasks t is) stands) ∙ e)
