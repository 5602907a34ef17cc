-- The declared supertypes of a class whose names break no rule: each is Object, or a class type with its places, and speaks of the class's own parameters alone.
use Rattle.std.proofs.Common.{◌≡◌, ◌≢◌, ◌⊎◌, inl, inr, ◌==◌, ◌<◌, ◌+◌, ◌||◌, ℕ, zero, suc, Bool, true, false, not, Some, None, List, [], ◌∷◌, ◌++◌, map, length, slice_get, arith, refl, sym, ap, subst, ◌∙◌}
use Rattle.std.specs.Prelude.{cond}
use Rattle.std.proofs.lemmas.Bool.Decides.{nat_tests}
use Rattle.std.proofs.lemmas.Option.{slice_get_within}
use Rattle.jc_rules.specs.declared.rule.Refusal.{Refusal}
use Rattle.jc_tree.specs.declared.types.ClassTree.{ClassTree, out-ClassTree}
use Rattle.jc_tree.specs.Offsets.{first_offset_of_head}
use Rattle.jc_types.specs.declared.declarations.ClassDecl.{ClassDecl}
use Rattle.jc_types.specs.declared.declarations.TypePlaces.{TypePlaces}
use Rattle.jc_types.specs.declared.declarations.Written.{Written}
use Rattle.jc_types.specs.declared.form.Arg.{Arg}
use Rattle.jc_types.specs.declared.form.Ty.{Ty, Ty-F, out-Ty}
use Rattle.jc_types.specs.declared.form.Ty.TheVariants.{Class, Raw, outs-Class, outs-Raw}
use Rattle.jc_types.specs.declared.ids.ClassId.{ClassId}
use Rattle.jc_types.specs.declared.ids.VarId.{VarId}
use Rattle.jc_types.specs.declared.table.Table.{Table}
use Rattle.jc_types.specs.Accessors.{class_count, supers_in, supers_of, vars_in, vars_of}
use Rattle.jc_types.specs.Inside.{inside}
use Rattle.jc_judge.specs.Kinds.{class_at, class_of}
use Rattle.jc_judge.specs.Supers.{IsIn}
use Rattle.jc_header_rules.specs.Checked.{IsAmong, IsOver}
use Rattle.jc_declares.specs.declared.heads.ClassHead.{ClassHead}
use Rattle.jc_declares.specs.declared.heads.Heads.{Heads}
use Rattle.jc_declares.specs.declared.unit.SourceUnit.{SourceUnit}
use Rattle.jc_declares.specs.Breaks.{BreaksNames, class_trees_broken, site_breaks}
use Rattle.jc_declares.specs.HeadBreaks.{broken_at, class_breaks, head_breaks, interface_breaks, interface_fits, is_nameable, of_each, super_breaks, superclass_breaks, superclass_fits, twice_class, twice_field, twice_variable, unit_breaks, unless}
use Rattle.jc_declares.specs.Heads.{Named, heads_of, class_head, class_variables, owner_of, path_of_class, superclass_trees, interface_trees}
use Rattle.jc_declares.specs.Knowing.{known, meant_in_head, passed_all}
use Rattle.jc_declares.specs.Looking.{Knowledge, Look, AClass, AVariable, all_accessible, head_asker, in_head, is_own, look_up}
use Rattle.jc_declares.specs.Making.{class_decl, implied_object, numbered, numbers, object, or_object, place_at, super_list, table_of, variable_ids, written_class, written_classes}
use Rattle.jc_declares.specs.Readings.{head_reading}
use Rattle.jc_declares.specs.Sites.{ClassSite, Sites, sites_of}
use Rattle.jc_declares.specs.Writing.{Broken, Reading, Wrote, WrotePart, class_type, class_wrote, early_args, if_accessible, is_empty, last_args, meaning_broken, meant_type, name_broken, name_of_part, part_broken, wrote_class, wrote_part}
use Rattle.jc_table_laws.specs.Supertypes.{IsClassType}
use Rattle.jc_table_laws.proofs.AllInside.{counted, mapped}
use Rattle.jc_table_laws.proofs.Edges.{declared_at, head_at}
use Rattle.jc_table_laws.proofs.Fitting.{Each, each_joined}
use Rattle.jc_table_laws.proofs.Meant.{name_told, names_told, written_meant, wrote_class-parts}
use Rattle.jc_table_laws.proofs.PlacesFit.{ClassRead, ClassUnbroken, at_place, class_read, classes_unbroken, head_tree_zips, listed, none_of_each}
use Rattle.jc_table_laws.proofs.PlacesZip.{left_empty, right_empty}
use Rattle.jc_table_laws.proofs.Ranges.{LookIn, in_head_in, known_in, look_up_in}
use Rattle.jc_table_laws.proofs.Scoped.{class_tree_scoped, object_over, unbroken_own}
use Rattle.jc_table_laws.proofs.Variables.{OfSomeClass, in_head_owned}
use Rattle.jc_table_laws.proofs.Chains.{made_at as numbered_from}

-- ---- lists

pub numbered_at : {X Y : Type 0} (f : ℕ → X → Y) (xs : List X) (n : ℕ) (x : X) → slice_get xs n ≡ Some x → slice_get (numbered f 0 xs) n ≡ Some (f n x)
numbered_at f xs n x e = numbered_from f 0 xs n x e ∙ ap (λ (k : ℕ). Some (f k x)) (let g : 0 + n ≡ n = omega arith in g)

among_mapped : {X Y : Type 0} (f : X → Y) (x : X) (xs : List X) → IsAmong x xs → IsAmong (f x) (map f xs)
among_mapped f x [] m = absurd m
among_mapped f x (y ∷ ys) (inl e) = inl (ap f e)
among_mapped f x (y ∷ ys) (inr m) = inr (among_mapped f x ys m)

each_type : (P : Ty → Type 0) (ws : List Written) → Each (λ (w : Written). P w.ty) ws → (t : Ty) → IsIn t (map (λ (w : Written). w.ty) ws) → P t
each_type P [] a t m = absurd m
each_type P (w ∷ ws) a t (inl e) = subst P (sym e) a.0
each_type P (w ∷ ws) a t (inr m) = each_type P ws a.1 t m

abbrev Pair : (Ty → TypePlaces → Type 0) → List TypePlaces → ℕ → Ty → Type 0
Pair P places n t = (p : TypePlaces) × (slice_get places n ≡ Some p) × P t p

each_pair : (P : Ty → TypePlaces → Type 0) (ws : List Written) → Each (λ (w : Written). P w.ty w.places) ws → (n : ℕ) (t : Ty) → slice_get (map (λ (w : Written). w.ty) ws) n ≡ Some t
    → Pair P (map (λ (w : Written). w.places) ws) n t
each_pair P [] a zero t e = absurd (let z : ⊥ = cc in z)
each_pair P [] a (suc n) t e = absurd (let z : ⊥ = cc in z)
each_pair P (w ∷ ws) a zero t e = (w.places, refl, subst (λ (u : Ty). P u w.places) (let g : w.ty ≡ t = cc in g) a.0)
each_pair P (w ∷ ws) a (suc n) t e = each_pair P ws a.1 n t e

same_some : {X : Type 0} (x y : X) → Some x ≡ Some y → x ≡ y
same_some x y e = cc

each_as : {X : Type 0} (P Q : X → Type 0) (xs : List X) → ((x : X) → P x → Q x) → Each P xs → Each Q xs
each_as P Q [] f a = tt
each_as P Q (x ∷ xs) f a = (f x a.0, each_as P Q xs f a.1)

-- ---- truth values

when_true : (a b : Bool) → (not a || b) ≡ true → a ≡ true → b ≡ true
when_true true b e f = e
when_true false b e f = cc

not_both : (b : Bool) → b ≡ true → not b ≡ true → ⊥
not_both true e f = cc
not_both false e f = cc

kept_unless : (b : Bool) (rule file at : ℕ) → unless b (broken_at rule file at) ≡ [] → b ≡ true
kept_unless true rule file at e = refl
kept_unless false rule file at e = cc

nameable_there : (b : Bool) (broken : List Broken) (at : ℕ) → if_accessible b broken at ≡ [] → (b ≡ true) × (broken ≡ [])
nameable_there true broken at e = (refl, e)
nameable_there false broken at e = absurd (let z : ⊥ = cc in z)

-- ---- types of classes

class_is : (c : ℕ) (args : List Arg) → class_of (Class (record { 0 = c }) args) ≡ Some (record { 0 = c })
unfolding class_of
class_is c args = ap class_at (outs-Class (record { 0 = c }) args)

raw_is : (c : ℕ) → class_of (Raw (record { 0 = c })) ≡ Some (record { 0 = c })
unfolding class_of
raw_is c = ap class_at (outs-Raw (record { 0 = c }))

not_raw : (i j : ClassId) (args : List Arg) → Class i args ≡ Raw j → ⊥
not_raw i j args e = let f : Ty-F.Class i args ≡ Ty-F.Raw j = sym (outs-Class i args) ∙ ap out-Ty e ∙ outs-Raw j in cc

some_names : (es : Named) → is_empty es ≡ false → variable_ids es ≡ [] → ⊥
some_names [] e f = cc
some_names (x ∷ es) e f = cc

module _ (units : List SourceUnit) where
  abbrev S : Sites
  S = sites_of units

  abbrev H : Heads
  H = heads_of S

  abbrev K : Knowledge
  K = known H

  abbrev T : Table
  T = table_of S

  -- ---- classes of the table

  class_places : class_count T ≡ length S.classes
  class_places = counted (class_decl H K) 0 S.classes

  of_table : (c : ℕ) → c < length H.classes → c < class_count T
  of_table c l = subst (λ (n : ℕ). c < n) (mapped class_head S.classes ∙ sym class_places) l

  pub vars_are : (c : ℕ) (s : ClassSite) → slice_get S.classes c ≡ Some s → vars_of T (record { 0 = c }) ≡ variable_ids (class_variables H c)
  vars_are c s e = ap vars_in (numbered_at (class_decl H K) S.classes c s e)

  found_site : (ss : List ClassSite) (c : ℕ) → c < length ss → (s : ClassSite) × (slice_get ss c ≡ Some s)
  found_site [] c l = absurd (omega (arith, l))
  found_site (s ∷ ss) zero l = (s, refl)
  found_site (s ∷ ss) (suc c) l = found_site ss c (omega (arith, l))

  raw_has : (c : ℕ) → c < class_count T → is_empty (class_variables H c) ≡ false → vars_of T (record { 0 = c }) ≢ []
  raw_has c l e f =
      let site = found_site S.classes c (subst (λ (n : ℕ). c < n) class_places l) in
      some_names (class_variables H c) e (sym (vars_are c site.0 site.1) ∙ f)

  class_formed : (c : ℕ) (args : List Arg) → c < class_count T → IsClassType T (Class (record { 0 = c }) args)
  class_formed c args l = record {
    class = record { 0 = c };
    is = class_is c args;
    within = l;
    raw = λ e. absurd (not_raw (record { 0 = c }) (record { 0 = c }) args e);
  }

  bare_formed : (c : ℕ) → c < class_count T → (b : Bool) → is_empty (class_variables H c) ≡ b → IsClassType T (cond b (Class (record { 0 = c }) []) (Raw (record { 0 = c })))
  bare_formed c l true e = class_formed c [] l
  bare_formed c l false e = record { class = record { 0 = c }; is = raw_is c; within = l; raw = λ _. raw_has c l e }

  typed_formed : (c : ℕ) (args : List Arg) → c < class_count T → IsClassType T (class_type H c args)
  typed_formed c [] l = bare_formed c l (is_empty (class_variables H c)) refl
  typed_formed c (a ∷ args) l = class_formed c (a ∷ args) l

  meant_formed : (look : Look) (args : List Arg) → 0 < class_count T → LookIn H look → ((v : ℕ) → look ≡ Some (AVariable v ∷ []) → ⊥) → IsClassType T (meant_type H look args)
  meant_formed None args some l f = class_formed 0 [] some
  meant_formed (Some []) args some l f = class_formed 0 [] some
  meant_formed (Some (AClass c ∷ [])) args some l f = typed_formed c args (of_table c l.0)
  meant_formed (Some (AVariable v ∷ [])) args some l f = absurd (f v refl)
  meant_formed (Some (AClass c ∷ n ∷ ms)) args some l f = class_formed 0 [] some
  meant_formed (Some (AVariable v ∷ n ∷ ms)) args some l f = class_formed 0 [] some

  -- ---- one class

  module _ (unbroken : (b : Refusal) → BreaksNames (sites_of units) b → ⊥) (c : ℕ) (s : ClassSite) (at_c : slice_get S.classes c ≡ Some s) where
    abbrev r : Reading
    r = head_reading H K c

    -- the class's own parameters
    abbrev Own : VarId → Type 0
    Own v = IsAmong v (vars_of T (record { 0 = c }))

    some_class : 0 < class_count T
    some_class =
        let l : c < length S.classes = slice_get_within S.classes c s at_c in
        subst (λ (n : ℕ). 0 < n) (sym class_places) (omega (arith, l))

    owned_there : (d v : ℕ) → d ≡ c → IsAmong v (numbers (class_variables H d)) → Own (record { 0 = v })
    owned_there d v e m =
        subst (λ (vs : List VarId). IsAmong (record { 0 = v }) vs) (sym (vars_are c s at_c))
        (subst (λ (k : ℕ). IsAmong (record { 0 = v }) (variable_ids (class_variables H k))) e (among_mapped (λ (n : ℕ). record { 0 = n }) v (numbers (class_variables H d)) m))

    same_number : (a b : ℕ) → (a == b) ≡ true → b ≡ a
    same_number a b e = grind (arith, nat_tests)

    own_parameter : (v : ℕ) → OfSomeClass H v → is_own (owner_of H v) (Some c) ≡ true → Own (record { 0 = v })
    own_parameter v f e = owned_there f.class v (same_number c f.class (ap (λ o. is_own o (Some c)) (sym f.owned) ∙ e)) f.among

    -- ---- a name in the head of the class that breaks no rule

    abbrev Told : Bool → ℕ → List ℕ → List (List ℕ) → Type 0
    Told without at n ns =
        (all_accessible H (head_asker H c) (passed_all H K n ns (in_head H K c n)) ≡ true) × (meaning_broken H r (look_up H K (in_head H K c) n ns) without at ≡ [])

    record TreeTold (t : ClassTree) : Type 0 where
      without : Bool
      at : ℕ
      told : Told without at (path_of_class t).first (path_of_class t).more

    tree_told : (t : ClassTree) → (wrote_class H K r t).broken ≡ [] → TreeTold t
    tree_told t b =
        let p : WrotePart = wrote_part H K r (out-ClassTree t).first in
        let ps : List WrotePart = map (wrote_part H K r) (out-ClassTree t).more in
        let parts : (class_wrote H K r p ps).broken ≡ [] = ap (λ (w : Wrote). w.broken) (sym (wrote_class-parts H K r t)) ∙ b in
        let look : Look = look_up H K r.find (name_of_part p) (map name_of_part ps) in
        let without : Bool = is_empty (last_args p ps) in
        let accessible : Bool = all_accessible H r.asker (passed_all H K (name_of_part p) (map name_of_part ps) (r.find (name_of_part p))) in
        let named_unbroken : name_broken H K r p ps ≡ [] = left_empty (name_broken H K r p ps) (part_broken (p ∷ ps)) parts in
        let asked : if_accessible accessible (meaning_broken H r look without p.name.at) p.name.at ≡ [] =
        left_empty (if_accessible accessible (meaning_broken H r look without p.name.at) p.name.at) (early_args p ps) named_unbroken in
        record {
          without = without;
          at = p.name.at;
          told = subst (λ (ns : List (List ℕ)). Told without p.name.at (path_of_class t).first ns) (names_told H K r (out-ClassTree t).more)
              (subst (λ (n : List ℕ). Told without p.name.at n (map name_of_part ps)) (name_told H K r (out-ClassTree t).first)
              (nameable_there accessible (meaning_broken H r look without p.name.at) p.name.at asked));
        }

    -- where a kind of supertype is asked of what it means, which no own parameter has
    no_variable : (f : Look → Bool) → ((v : ℕ) → f (Some (AVariable v ∷ [])) ≡ not (is_own (owner_of H v) (Some c))) → (t : ClassTree) → TreeTold t
        → (not (is_nameable H K c (path_of_class t)) || f (meant_in_head H K c (path_of_class t))) ≡ true → (v : ℕ) → meant_in_head H K c (path_of_class t) ≡ Some (AVariable v ∷ []) → ⊥
    no_variable f g t told e v is =
        let fits : f (meant_in_head H K c (path_of_class t)) ≡ true = when_true (is_nameable H K c (path_of_class t)) (f (meant_in_head H K c (path_of_class t))) e told.told.0 in
        let own : is_own (owner_of H v) (Some c) ≡ true =
        unbroken_own (is_own (owner_of H v) (Some c)) told.without told.at (subst (λ (l : Look). meaning_broken H r l told.without told.at ≡ []) is told.told.1) in
        not_both (is_own (owner_of H v) (Some c)) own (sym (g v) ∙ ap f (sym is) ∙ fits)

    -- ---- its supertypes

    pub record Super (w : Written) : Type 0 where
      pub formed : IsClassType T w.ty
      pub over : IsOver Own w.ty
      pub placed : (w.ty ≡ object) ⊎ (length w.places.classes ≡ length (inside w.ty))

    tree_formed : (t : ClassTree) → ((v : ℕ) → meant_in_head H K c (path_of_class t) ≡ Some (AVariable v ∷ []) → ⊥) → IsClassType T (wrote_class H K r t).ty
    tree_formed t f =
        let told = written_meant H K r t in
        subst (IsClassType T) (sym told.1)
        (meant_formed (meant_in_head H K c (path_of_class t)) told.0 some_class
        (look_up_in H K (known_in H) (in_head H K c) (in_head_in H K (known_in H) c) (path_of_class t).first (path_of_class t).more) f)

    tree_super : (file : ℕ) (t : ClassTree) → (wrote_class H K r t).broken ≡ [] → ((v : ℕ) → meant_in_head H K c (path_of_class t) ≡ Some (AVariable v ∷ []) → ⊥) → Super (written_class H K file r t)
    tree_super file t b f = record {
      formed = tree_formed t f;
      over = class_tree_scoped Own H K r (in_head_owned H K c) own_parameter t b;
      placed = inr (mapped (λ (o : ℕ). place_at file o) (wrote_class H K r t).places ∙ head_tree_zips units unbroken c t b);
    }

    implied_super : (file at : ℕ) → Super (implied_object file at)
    implied_super file at = record { formed = class_formed 0 [] some_class; over = object_over Own; placed = inl refl }

    abbrev head : ClassHead
    head = class_head s

    superclass_supers : (file : ℕ) (ts : List ClassTree) → class_trees_broken H K r ts ≡ [] → superclass_breaks H K c head (map path_of_class ts) ≡ [] → Each Super (written_classes H K file r ts)
    superclass_supers file [] b k = tt
    superclass_supers file (t ∷ ts) b k =
        let here : (wrote_class H K r t).broken ≡ [] = left_empty (wrote_class H K r t).broken (class_trees_broken H K r ts) b in
        let fits : Bool = not (is_nameable H K c (path_of_class t)) || superclass_fits H c (meant_in_head H K c (path_of_class t)) in
        let asked : unless fits (broken_at 305 head.file (path_of_class t).at) ≡ [] =
        left_empty (unless fits (broken_at 305 head.file (path_of_class t).at)) (superclass_breaks H K c head (map path_of_class ts)) k in (
          tree_super file t here (no_variable (superclass_fits H c) (λ v. refl) t (tree_told t here) (kept_unless fits 305 head.file (path_of_class t).at asked)),
          superclass_supers file ts (right_empty (wrote_class H K r t).broken (class_trees_broken H K r ts) b)
              (right_empty (unless fits (broken_at 305 head.file (path_of_class t).at)) (superclass_breaks H K c head (map path_of_class ts)) k),
        )

    interface_supers : (file : ℕ) (ts : List ClassTree) → class_trees_broken H K r ts ≡ [] → interface_breaks H K c head (map path_of_class ts) ≡ [] → Each Super (written_classes H K file r ts)
    interface_supers file [] b k = tt
    interface_supers file (t ∷ ts) b k =
        let here : (wrote_class H K r t).broken ≡ [] = left_empty (wrote_class H K r t).broken (class_trees_broken H K r ts) b in
        let fits : Bool = not (is_nameable H K c (path_of_class t)) || interface_fits H c (meant_in_head H K c (path_of_class t)) in
        let asked : unless fits (broken_at 305 head.file (path_of_class t).at) ≡ [] =
        left_empty (unless fits (broken_at 305 head.file (path_of_class t).at)) (interface_breaks H K c head (map path_of_class ts)) k in (
          tree_super file t here (no_variable (interface_fits H c) (λ v. refl) t (tree_told t here) (kept_unless fits 305 head.file (path_of_class t).at asked)),
          interface_supers file ts (right_empty (wrote_class H K r t).broken (class_trees_broken H K r ts) b)
              (right_empty (unless fits (broken_at 305 head.file (path_of_class t).at)) (interface_breaks H K c head (map path_of_class ts)) k),
        )

    or_object_supers : (file at : ℕ) (ws : List Written) → Each Super ws → Each Super (or_object file at ws)
    or_object_supers file at [] a = (implied_super file at, tt)
    or_object_supers file at (w ∷ ws) a = a

    unless_object : (b : Bool) (ws : List Written) → Each Super ws → Each Super (cond b [] ws)
    unless_object true ws a = tt
    unless_object false ws a = a

    heads_unbroken : class_breaks H K c head ≡ []
    heads_unbroken =
        let a : List Refusal = of_each (unit_breaks H) 0 H.units in
        let b : List Refusal = of_each (class_breaks H K) 0 H.classes in
        let d : List Refusal = of_each (twice_field H) 0 H.fields in
        let g : List Refusal = of_each (twice_variable H) 0 H.variables in
        let all : a ++ b ++ d ++ g ≡ [] = left_empty (head_breaks H K) (site_breaks S H K) (listed units unbroken) in
        at_place (λ k x. class_breaks H K k x ≡ []) H.classes c head (head_at S.classes c s at_c)
        (none_of_each (class_breaks H K) 0 H.classes (right_empty a b (left_empty (a ++ b) d (left_empty (a ++ b ++ d) g all))))

    kinds_unbroken : super_breaks H K c head ≡ []
    kinds_unbroken = right_empty (twice_class H c head) (super_breaks H K c head) heads_unbroken

    pub all_supers : Each Super (super_list H K c s)
    all_supers =
        let read : ClassRead units unbroken c s = class_read units unbroken c s (at_place (ClassUnbroken units unbroken) S.classes c s at_c (classes_unbroken units unbroken)) in
        let first : List Written = or_object s.file (first_offset_of_head s.head) (written_classes H K s.file r (superclass_trees s.head)) in
        let a : List Refusal = superclass_breaks H K c head (map path_of_class (superclass_trees s.head)) in
        let b : List Refusal = interface_breaks H K c head (map path_of_class (interface_trees s.head)) in
        each_joined Super (cond (c == 0) [] first) (written_classes H K s.file r (interface_trees s.head))
        (unless_object (c == 0) first
        (or_object_supers s.file (first_offset_of_head s.head) (written_classes H K s.file r (superclass_trees s.head))
        (superclass_supers s.file (superclass_trees s.head) read.superclass (left_empty a b kinds_unbroken))))
        (interface_supers s.file (interface_trees s.head) read.interfaces (right_empty a b kinds_unbroken))

  -- ---- of any class

  module _ (unbroken : (b : Refusal) → BreaksNames (sites_of units) b → ⊥) where
    record Declared (id : ClassId) (t : Ty) : Type 0 where
      site : ClassSite
      at : slice_get S.classes id.0 ≡ Some site
      among : IsIn t (map (λ (w : Written). w.ty) (super_list H K id.0 site))

    declared : (id : ClassId) (t : Ty) → IsIn t (supers_of T id) → Declared id t
    declared id t m =
        let found = declared_at (class_decl H K) 0 S.classes id.0 t m in
        record {
          site = found.0;
          at = found.1;
          among = subst (λ (n : ℕ). IsIn t (supers_in (Some (class_decl H K n found.0)))) (let z : 0 + id.0 ≡ id.0 = omega arith in z) found.2;
        }

    pub supers_formed : (id : ClassId) (t : Ty) → IsIn t (supers_of T id) → IsClassType T t
    supers_formed id t m =
        let d : Declared id t = declared id t m in
        each_type (IsClassType T) (super_list H K id.0 d.site)
        (each_as (Super unbroken id.0 d.site d.at) (λ (w : Written). IsClassType T w.ty) (super_list H K id.0 d.site) (λ w f. f.formed) (all_supers unbroken id.0 d.site d.at)) t d.among

    pub supers_over : (id : ClassId) (t : Ty) → IsIn t (supers_of T id) → IsOver (λ v. IsAmong v (vars_of T id)) t
    supers_over id t m =
        let d : Declared id t = declared id t m in
        each_type (IsOver (λ v. IsAmong v (vars_of T id))) (super_list H K id.0 d.site)
        (each_as (Super unbroken id.0 d.site d.at) (λ (w : Written). IsOver (λ v. IsAmong v (vars_of T id)) w.ty) (super_list H K id.0 d.site) (λ w f. f.over) (all_supers unbroken id.0 d.site d.at)) t
        d.among

    abbrev IsPlaced : Ty → TypePlaces → Type 0
    IsPlaced t p = (t ≡ object) ⊎ (length p.classes ≡ length (inside t))

    pub supers_placed : (c n : ℕ) (class : ClassDecl) (t : Ty) → slice_get T.classes c ≡ Some class → slice_get class.supers.types n ≡ Some t
        → (p : TypePlaces) × (slice_get class.supers.places n ≡ Some p) × ((t ≡ object) ⊎ (length p.classes ≡ length (inside t)))
    supers_placed c n class t e f =
        let site = found_site S.classes c (subst (λ (k : ℕ). c < k) class_places (slice_get_within T.classes c class e)) in
        let is : class ≡ class_decl H K c site.0 = same_some class (class_decl H K c site.0) (sym e ∙ numbered_at (class_decl H K) S.classes c site.0 site.1) in
        let pair : Pair IsPlaced (class_decl H K c site.0).supers.places n t =
        each_pair IsPlaced (super_list H K c site.0)
        (each_as (Super unbroken c site.0 site.1) (λ (w : Written). IsPlaced w.ty w.places) (super_list H K c site.0) (λ w h. h.placed) (all_supers unbroken c site.0 site.1)) n t
        (subst (λ (d : ClassDecl). slice_get d.supers.types n ≡ Some t) is f) in
        (pair.0, subst (λ (d : ClassDecl). slice_get d.supers.places n ≡ Some pair.0) (sym is) pair.1, pair.2)
