-- What is found first of a name is what no earlier one has.
use Rattle.std.proofs.Common.{◌≡◌, ◌+◌, ℕ, zero, suc, Bool, true, false, List, [], ◌∷◌, ◌++◌, take, Option, Some, None, slice_get, zero-add, refl, sym, ap, subst, ◌∙◌, arith}
use Rattle.std.specs.Prelude.{cond, not, ◌&&◌, ◌||◌, ◌==◌, if◌then◌else◌}
use Rattle.std.specs.Str.{bytes_eq}
use Rattle.std.proofs.lemmas.Bool.Decides.{nat_tests}
use Rattle.jc_rules.proofs.Truths.{own_bytes, self_equal}
use Rattle.jc_types.specs.Names.{named}
use Rattle.jc_types.specs.declared.declarations.Owner.{Owner}
use Rattle.jc_types.specs.declared.declarations.Owner.TheVariants as owner
use Rattle.jc_declares.specs.declared.heads.ClassHead.{ClassHead}
use Rattle.jc_declares.specs.declared.heads.FieldHead.{FieldHead}
use Rattle.jc_declares.specs.declared.heads.Heads.{Heads}
use Rattle.jc_declares.specs.declared.heads.UnitHead.{UnitHead}
use Rattle.jc_declares.specs.declared.heads.VariableHead.{VariableHead}
use Rattle.jc_declares.specs.Heads.{Named, named_classes, named_variables, is_inside, is_top, is_of_package, declared_of, types_of_package, same_owner, imports_of, imports_in}
use Rattle.jc_declares.specs.Looking.{is_number, singles}
use Rattle.jc_declares.specs.HeadBreaks.{some_in, some_before, same_round, same_package, same_place, other_single}
use Rattle.jc_name_index.specs.Spaces.{picked, noted_all, space_named}
use Rattle.jc_name_index.proofs.SpacesNoted.{all_named}
use Rattle.jc_name_rules.specs.declared.singles.Singles.{Singles}
use Rattle.jc_name_rules.specs.Numbers.{as_field, owner_named}
use Rattle.jc_name_rules.specs.Singles.{AreSingles, AreOfUnits, AllSingles, other_in}
use Rattle.jc_name_rules.proofs.Singled.{other_single_told}

-- those of a list that pass, with their names, counted from i
unfoldable pub marked : {X : Type 0} → (X → Bool) → (X → List ℕ) → ℕ → List X → Named
marked test name i [] = []
marked test name i (x ∷ xs) = cond (test x) ((name x, i) ∷ []) [] ++ marked test name (suc i) xs

number_self : (i : ℕ) → (i == i + 0) ≡ true
number_self i = grind (arith, nat_tests)

number_later : (i k : ℕ) → (i == i + suc k) ≡ false
number_later i k = grind (arith, nat_tests)

number_next : (i k : ℕ) → suc i + k ≡ i + suc k
number_next i k = omega arith

here : (t b : Bool) (n m : List ℕ) (i : ℕ) (rest : Named) → t ≡ true → bytes_eq n m ≡ b → b ≡ true → named n (cond t ((m, i) ∷ []) [] ++ rest) ≡ Some i
here t b n m i rest et eb e =
    ap (λ x. named n (cond x ((m, i) ∷ []) [] ++ rest)) et ∙ ap (λ (x : Bool). if x then Some i else named n rest) (eb ∙ e)

past : (t b : Bool) (n m : List ℕ) (i : ℕ) (rest : Named) → bytes_eq n m ≡ b → t && b ≡ false → named n (cond t ((m, i) ∷ []) [] ++ rest) ≡ named n rest
past true b n m i rest eb e = ap (λ (x : Bool). if x then Some i else named n rest) (eb ∙ e)
past false b n m i rest eb e = refl

module _ {X : Type 0} (test : X → Bool) (name : X → List ℕ) (n : List ℕ) (P : X → Bool) (same : (x : X) → P x ≡ (test x && bytes_eq n (name x))) where
  step : (i k : ℕ) (x : X) (xs : List X) (b : Bool) → (test x && bytes_eq n (name x)) ≡ b
      → is_number (named n (marked test name (suc i) xs)) (suc i + k) ≡ not (some_in P (take k xs))
      → is_number (named n (marked test name i (x ∷ xs))) (i + suc k) ≡ not (some_in P (x ∷ take k xs))
  unfolding marked
  step i k x xs true e h =
      ap (λ o. is_number o (i + suc k)) (here (test x) (bytes_eq n (name x)) n (name x) i (marked test name (suc i) xs) (left (test x) (bytes_eq n (name x)) e) refl (right (test x) (bytes_eq n (name x)) e))
      ∙ number_later i k
      ∙ sym (ap (λ b. not (b || some_in P (take k xs))) (same x ∙ e))
    where
      left : (a b : Bool) → a && b ≡ true → a ≡ true
      left true b e = refl
      left false b e = e

      right : (a b : Bool) → a && b ≡ true → b ≡ true
      right true b e = e
      right false b e = absurd (cc)
  step i k x xs false e h =
      ap (λ o. is_number o (i + suc k)) (past (test x) (bytes_eq n (name x)) n (name x) i (marked test name (suc i) xs) refl e)
      ∙ ap (λ j. is_number (named n (marked test name (suc i) xs)) j) (sym (number_next i k))
      ∙ h
      ∙ sym (ap (λ b. not (b || some_in P (take k xs))) (same x ∙ e))

  pub first_of : (i k : ℕ) (xs : List X) (x : X) → slice_get xs k ≡ Some x → test x ≡ true → bytes_eq n (name x) ≡ true → is_number (named n (marked test name i xs)) (i + k) ≡ not (some_before P k xs)
  unfolding marked
  first_of i k [] x e t b = absurd (cc)
  first_of i zero (y ∷ ys) x e t b =
      let s : y ≡ x = (cc) in
      ap (λ o. is_number o (i + 0)) (here (test y) (bytes_eq n (name y)) n (name y) i (marked test name (suc i) ys) (ap test s ∙ t) refl (ap (λ z. bytes_eq n (name z)) s ∙ b)) ∙ number_self i
  first_of i (suc k) (y ∷ ys) x e t b = step i k y ys (test y && bytes_eq n (name y)) refl (first_of (suc i) k ys x e t b)

double : (b c : Bool) → not b ≡ c → b ≡ not c
double true c e = ap not e
double false c e = ap not e

-- ---- types

classes_marked : (test : ClassHead → Bool) (i : ℕ) (cs : List ClassHead) → named_classes test i cs ≡ marked test (λ (c : ClassHead). c.name) i cs
unfolding marked
classes_marked test i [] = refl
classes_marked test i (c ∷ cs) = ap (λ (l : Named). cond (test c) ((c.name, i) ∷ []) [] ++ l) (classes_marked test (suc i) cs)

first_class : (H : Heads) (test : ClassHead → Bool) (P : ClassHead → Bool) (k : ℕ) (s : ClassHead) → slice_get H.classes k ≡ Some s → test s ≡ true
    → ((d : ClassHead) → P d ≡ (test d && bytes_eq s.name d.name)) → not (is_number (named s.name (named_classes test 0 H.classes)) k) ≡ some_before P k H.classes
first_class H test P k s e t same =
    ap (λ (l : Named). not (is_number (named s.name l) k)) (classes_marked test 0 H.classes)
    ∙ ap (λ j. not (is_number (named s.name (marked test (λ (c : ClassHead). c.name) 0 H.classes)) j)) (sym (zero-add k))
    ∙ sym (double (some_before P k H.classes) (is_number (named s.name (marked test (λ (c : ClassHead). c.name) 0 H.classes)) (0 + k)) (sym (first_of test (λ (c : ClassHead). c.name) s.name P same 0 k H.classes s e t (own_bytes s.name))))

inside_same : (r ds : List ℕ) (o : ℕ) (x : Bool) → slice_get r 0 ≡ Some o → same_round r ds && (not (is_top r) || x) ≡ is_inside o ds
inside_same [] ds o x e = absurd (cc)
inside_same (c ∷ r) [] o x e = refl
inside_same (c ∷ r) (d ∷ ds) o x e =
    let same : c ≡ o = (cc) in
    and_true (c == d) ∙ ap (λ y. y == d) same
  where
    and_true : (b : Bool) → b && true ≡ b
    and_true true = refl
    and_true false = refl

inside_self : (r : List ℕ) (o : ℕ) → slice_get r 0 ≡ Some o → is_inside o r ≡ true
inside_self [] o e = absurd (cc)
inside_self (c ∷ r) o e = let same : c ≡ o = (cc) in ap (λ y. o == y) same ∙ number_self_eq o
  where
    number_self_eq : (i : ℕ) → (i == i) ≡ true
    number_self_eq i = grind (arith, nat_tests)

-- a member type
pub repeated_member : (H : Heads) (k o : ℕ) (s : ClassHead) → slice_get H.classes k ≡ Some s → slice_get s.round 0 ≡ Some o
    → not (is_number (named s.name (declared_of H o)) k) ≡ some_before (λ (d : ClassHead). same_place H s d && bytes_eq s.name d.name) k H.classes
repeated_member H k o s e r =
    first_class H (λ (d : ClassHead). is_inside o d.round) (λ (d : ClassHead). same_place H s d && bytes_eq s.name d.name) k s e (inside_self s.round o r)
    (λ d. ap (λ b. b && bytes_eq s.name d.name) (inside_same s.round d.round o (same_package (slice_get H.units s.unit) (slice_get H.units d.unit)) r))

top_same : (r ds : List ℕ) (a v : Option UnitHead) (u : UnitHead) → slice_get r 0 ≡ None → a ≡ Some u → same_round r ds && (not (is_top r) || same_package a v) ≡ is_top ds && is_of_package v u.«package»
top_same (c ∷ r) ds a v u e f = absurd (cc)
top_same [] [] a v u e f = ap (λ x. same_package x v) f
top_same [] (d ∷ ds) a v u e f = refl

top_self : (r : List ℕ) (a : Option UnitHead) (u : UnitHead) → slice_get r 0 ≡ None → a ≡ Some u → is_top r && is_of_package a u.«package» ≡ true
top_self (c ∷ r) a u e f = absurd (cc)
top_self [] a u e f = ap (λ x. is_of_package x u.«package») f ∙ own_bytes u.«package»

-- a type of a package
pub repeated_top : (H : Heads) (k : ℕ) (s : ClassHead) (u : UnitHead) → slice_get H.classes k ≡ Some s → slice_get s.round 0 ≡ None → slice_get H.units s.unit ≡ Some u
    → not (is_number (named s.name (types_of_package H u.«package»)) k) ≡ some_before (λ (d : ClassHead). same_place H s d && bytes_eq s.name d.name) k H.classes
repeated_top H k s u e r f =
    first_class H (λ (d : ClassHead). is_top d.round && is_of_package (slice_get H.units d.unit) u.«package») (λ (d : ClassHead). same_place H s d && bytes_eq s.name d.name) k s e
    (top_self s.round (slice_get H.units s.unit) u r f)
    (λ d. ap (λ b. b && bytes_eq s.name d.name) (top_same s.round d.round (slice_get H.units s.unit) (slice_get H.units d.unit) u r f))

-- a type of no unit
all_no : {X : Type 0} (P : X → Bool) (xs : List X) → ((x : X) → P x ≡ false) → some_in P xs ≡ false
all_no P [] h = refl
all_no P (x ∷ xs) h = ap (λ b. b || some_in P xs) (h x) ∙ all_no P xs h

none_at : (r ds : List ℕ) (a v : Option UnitHead) (y : Bool) → slice_get r 0 ≡ None → a ≡ None → ((same_round r ds && (not (is_top r) || same_package a v)) && y) ≡ false
none_at (c ∷ r) ds a v y e f = absurd (cc)
none_at [] [] a v y e f = ap (λ x. same_package x v && y) f
none_at [] (d ∷ ds) a v y e f = refl

pub repeated_none : (H : Heads) (k : ℕ) (s : ClassHead) → slice_get s.round 0 ≡ None → slice_get H.units s.unit ≡ None
    → false ≡ some_before (λ (d : ClassHead). same_place H s d && bytes_eq s.name d.name) k H.classes
repeated_none H k s r f =
    sym (all_no (λ (d : ClassHead). same_place H s d && bytes_eq s.name d.name) (take k H.classes) (λ d. none_at s.round d.round (slice_get H.units s.unit) (slice_get H.units d.unit) (bytes_eq s.name d.name) r f))

-- ---- fields

picked_marked : (q i : ℕ) (fs : List FieldHead) → picked as_field q i fs ≡ marked (λ (f : FieldHead). q == f.class) (λ (f : FieldHead). f.name) i fs
unfolding marked
picked_marked q i [] = refl
picked_marked q i (f ∷ fs) = ap (λ (l : Named). cond (q == f.class) ((f.name, i) ∷ []) [] ++ l) (picked_marked q (suc i) fs)

pub field_first : (H : Heads) (k : ℕ) (f : FieldHead) → slice_get H.fields k ≡ Some f
    → is_number (space_named (noted_all as_field 0 H.fields []) f.class f.name) k ≡ not (some_before (λ (g : FieldHead). (f.class == g.class) && bytes_eq f.name g.name) k H.fields)
field_first H k f e =
    ap (λ o. is_number o k) (all_named as_field H.fields 0 [] f.class f.name ∙ ap (λ (l : Named). named f.name l) (picked_marked f.class 0 H.fields))
    ∙ ap (λ j. is_number (named f.name (marked (λ (g : FieldHead). f.class == g.class) (λ (g : FieldHead). g.name) 0 H.fields)) j) (sym (zero-add k))
    ∙ first_of (λ (g : FieldHead). f.class == g.class) (λ (g : FieldHead). g.name) f.name (λ (g : FieldHead). (f.class == g.class) && bytes_eq f.name g.name) (λ g. refl) 0 k H.fields f e (self_equal f.class) (own_bytes f.name)

-- ---- type parameters

variables_marked : (o : Owner) (i : ℕ) (vs : List VariableHead) → named_variables o i vs ≡ marked (λ (v : VariableHead). same_owner o v.owner) (λ (v : VariableHead). v.name) i vs
unfolding marked
variables_marked o i [] = refl
variables_marked o i (v ∷ vs) = ap (λ (l : Named). cond (same_owner o v.owner) ((v.name, i) ∷ []) [] ++ l) (variables_marked o (suc i) vs)

owner_self : (o : Owner) → same_owner o o ≡ true
owner_self (owner.Class c) = self_equal c.0
owner_self (owner.Method m) = self_equal m.0

by_owner : (H : Heads) (o : Owner) (n : List ℕ) → owner_named H o n ≡ named n (named_variables o 0 H.variables)
by_owner H (owner.Class c) n = refl
by_owner H (owner.Method m) n = refl

pub variable_first : (H : Heads) (k : ℕ) (v : VariableHead) → slice_get H.variables k ≡ Some v
    → is_number (owner_named H v.owner v.name) k ≡ not (some_before (λ (w : VariableHead). same_owner v.owner w.owner && bytes_eq v.name w.name) k H.variables)
variable_first H k v e =
    ap (λ o. is_number o k) (by_owner H v.owner v.name ∙ ap (λ (l : Named). named v.name l) (variables_marked v.owner 0 H.variables))
    ∙ ap (λ j. is_number (named v.name (marked (λ (w : VariableHead). same_owner v.owner w.owner) (λ (w : VariableHead). w.name) 0 H.variables)) j) (sym (zero-add k))
    ∙ first_of (λ (w : VariableHead). same_owner v.owner w.owner) (λ (w : VariableHead). w.name) v.name (λ (w : VariableHead). same_owner v.owner w.owner && bytes_eq v.name w.name) (λ w. refl) 0 k H.variables v e (owner_self v.owner) (own_bytes v.name)

-- ---- single imports of a unit

of_unit : (H : Heads) (us : List UnitHead) (ss : List Singles) (k : ℕ) (s : Singles) → AreOfUnits H us ss → slice_get ss k ≡ Some s → AreSingles (singles H (imports_in (slice_get us k))) s
of_unit H [] [] k s a e = absurd (cc)
of_unit H [] (t ∷ ss) k s a e = absurd a
of_unit H (u ∷ us) [] k s a e = absurd a
of_unit H (u ∷ us) (t ∷ ss) zero s a e = let same : t ≡ s = (cc) in subst (λ (x : Singles). AreSingles (singles H u.imports) x) same a.0
of_unit H (u ∷ us) (t ∷ ss) (suc k) s a e = of_unit H us ss k s a.1 e

of_no_unit : (H : Heads) (us : List UnitHead) (ss : List Singles) (k : ℕ) → AreOfUnits H us ss → slice_get ss k ≡ None → slice_get us k ≡ None
of_no_unit H [] ss k a e = refl
of_no_unit H (u ∷ us) [] k a e = absurd a
of_no_unit H (u ∷ us) (t ∷ ss) zero a e = absurd (cc)
of_no_unit H (u ∷ us) (t ∷ ss) (suc k) a e = of_no_unit H us ss k a.1 e

pub imported_some : (H : Heads) (ss : List Singles) (u c : ℕ) (n : List ℕ) (s : Singles) (r : Bool) → AllSingles H ss → slice_get ss u ≡ Some s
    → ((es : Named) → AreSingles es s → r ≡ other_in n c es) → r ≡ other_single H n c (imports_of H u)
imported_some H ss u c n s r a e h = h (singles H (imports_of H u)) (of_unit H H.units ss u s a.each e) ∙ sym (other_single_told H n c (imports_of H u))

pub imported_none : (H : Heads) (ss : List Singles) (u c : ℕ) (n : List ℕ) → AllSingles H ss → slice_get ss u ≡ None → false ≡ other_single H n c (imports_of H u)
imported_none H ss u c n a e = ap (λ o. other_single H n c (imports_in o)) (sym (of_no_unit H H.units ss u a.each e))

pub ruleset class_told = (repeated_member, repeated_top, repeated_none)

pub ruleset field_told = (field_first)

pub ruleset variable_told = (variable_first)

pub ruleset imported_told = (imported_some, imported_none)
