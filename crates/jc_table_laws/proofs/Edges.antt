-- A supertype of a class is Object, or is needed by the class.
use Rattle.std.proofs.Common.{◌≡◌, ◌⊎◌, inl, inr, ◌==◌, ◌+◌, ℕ, zero, suc, Bool, true, false, ◌||◌, Option, Some, List, [], ◌∷◌, ◌++◌, map, slice_get, append_assoc, arith, refl, sym, ap, subst, ◌∙◌}
use Rattle.std.specs.Prelude.{cond}
use Rattle.std.proofs.lemmas.Bool.{or_right}
use Rattle.jc_tree.specs.declared.types.ClassTree.{ClassTree}
use Rattle.jc_tree.specs.Offsets.{first_offset_of_head}
use Rattle.jc_types.specs.declared.declarations.ClassDecl.{ClassDecl}
use Rattle.jc_types.specs.declared.declarations.Written.{Written}
use Rattle.jc_types.specs.declared.form.Ty.{Ty}
use Rattle.jc_types.specs.declared.form.Ty.TheVariants.{outs-Class}
use Rattle.jc_types.specs.declared.ids.ClassId.{ClassId}
use Rattle.jc_types.specs.Accessors.{supers_in}
use Rattle.jc_declares.specs.declared.heads.ClassHead.{ClassHead}
use Rattle.jc_declares.specs.declared.heads.Heads.{Heads}
use Rattle.jc_declares.specs.declared.heads.Path.{Path}
use Rattle.jc_declares.specs.Heads.{heads_of, class_head, path_of_class, superclass_trees, interface_trees, round_of, supers_in as head_supers}
use Rattle.jc_declares.specs.Knowing.{known, needs, passed_by, passed_by_all}
use Rattle.jc_declares.specs.Looking.{Knowledge, has}
use Rattle.jc_declares.specs.Making.{class_decl, or_object, written_classes, super_list, types, numbered as counted, table_of}
use Rattle.jc_declares.specs.Readings.{head_reading}
use Rattle.jc_declares.specs.Sites.{Sites, ClassSite}
use Rattle.jc_judge.specs.Kinds.{class_of, class_at}
use Rattle.jc_judge.specs.Supers.{IsIn, IsSuper, numbered}
use Rattle.jc_table_laws.proofs.Meant.{tree_passed}

-- ---- lists

or_more : (a p q : Bool) → (p ≡ true → q ≡ true) → (a || p) ≡ true → (a || q) ≡ true
or_more true p q f e = refl
or_more false p q f e = f e

has_left : (d : ℕ) (xs ys : List ℕ) → has d xs ≡ true → has d (xs ++ ys) ≡ true
has_left d [] ys e = cc
has_left d (x ∷ xs) ys e = or_more (d == x) (has d xs) (has d (xs ++ ys)) (has_left d xs ys) e

has_right : (d : ℕ) (xs ys : List ℕ) → has d ys ≡ true → has d (xs ++ ys) ≡ true
has_right d [] ys e = e
has_right d (x ∷ xs) ys e = or_right (d == x) (has d (xs ++ ys)) (has_right d xs ys e)

apart : {X : Type 0} (f : X → Ty) (t : Ty) (xs ys : List X) → IsIn t (map f (xs ++ ys)) → IsIn t (map f xs) ⊎ IsIn t (map f ys)
apart f t [] ys m = inr m
apart f t (x ∷ xs) ys (inl e) = inl (inl e)
apart f t (x ∷ xs) ys (inr m) = elim (apart f t xs ys m) [ inl l ↦ inl (inr l) | inr r ↦ inr r ]

-- ---- the supertypes that the head of a class writes

type_in : Written → Ty
type_in w = w.ty

module _ (H : Heads) (K : Knowledge) (c b : ℕ) where
  abbrev Named : List Path → Type 0
  Named ps = (b ≡ 0) ⊎ (has b (passed_by_all H K c ps) ≡ true)

  further : (p : Path) (ps : List Path) → Named ps → Named (p ∷ ps)
  further p ps (inl z) = inl z
  further p ps (inr e) = inr (has_right b (passed_by H K c p) (passed_by_all H K c ps) e)

  trees_named : (file : ℕ) (t : Ty) (trees : List ClassTree) → IsIn t (map (λ (w : Written). w.ty) (written_classes H K file (head_reading H K c) trees)) → class_of t ≡ Some (numbered b)
      → Named (map path_of_class trees)
  trees_named file t [] m e = absurd m
  trees_named file t (u ∷ us) (inl is) e =
      elim (tree_passed H K c b u (sym (ap class_of is) ∙ e)) [
        | inl z ↦ inl z
        | inr h ↦ inr (has_left b (passed_by H K c (path_of_class u)) (passed_by_all H K c (map path_of_class us)) h)
      ]
  trees_named file t (u ∷ us) (inr m) e = further (path_of_class u) (map path_of_class us) (trees_named file t us m e)

  object_is_first : (t : Ty) (at file : ℕ) → IsIn t (map (λ (w : Written). w.ty) (or_object file at [])) → class_of t ≡ Some (numbered b) → b ≡ 0
  unfolding class_of
  object_is_first t at file (inl is) e =
      let f : Some (numbered 0) ≡ Some (numbered b) = sym (ap class_at (outs-Class (numbered 0) [])) ∙ sym (ap class_of is) ∙ e in
      let g : numbered 0 ≡ numbered b = cc in
      sym (ap (λ (i : ClassId). i.0) g)
  object_is_first t at file (inr m) e = absurd m

  superclass_named : (file at : ℕ) (t : Ty) (trees : List ClassTree) → IsIn t (map (λ (w : Written). w.ty) (or_object file at (written_classes H K file (head_reading H K c) trees)))
      → class_of t ≡ Some (numbered b) → Named (map path_of_class trees)
  superclass_named file at t [] m e = inl (object_is_first t at file m e)
  superclass_named file at t (u ∷ us) m e = trees_named file t (u ∷ us) m e

  first_named : (is_object : Bool) (file at : ℕ) (t : Ty) (trees : List ClassTree)
      → IsIn t (map (λ (w : Written). w.ty) (cond is_object [] (or_object file at (written_classes H K file (head_reading H K c) trees)))) → class_of t ≡ Some (numbered b)
      → Named (map path_of_class trees)
  first_named true file at t trees m e = absurd m
  first_named false file at t trees m e = superclass_named file at t trees m e

  passed_joined : (ps qs : List Path) → passed_by_all H K c (ps ++ qs) ≡ passed_by_all H K c ps ++ passed_by_all H K c qs
  passed_joined [] qs = refl
  passed_joined (p ∷ ps) qs = ap (λ xs. passed_by H K c p ++ xs) (passed_joined ps qs) ∙ sym (append_assoc (passed_by H K c p) (passed_by_all H K c ps) (passed_by_all H K c qs))

  named_left : (ps qs : List Path) → Named ps → Named (ps ++ qs)
  named_left ps qs (inl z) = inl z
  named_left ps qs (inr e) = inr (ap (has b) (passed_joined ps qs) ∙ has_left b (passed_by_all H K c ps) (passed_by_all H K c qs) e)

  named_right : (ps qs : List Path) → Named qs → Named (ps ++ qs)
  named_right ps qs (inl z) = inl z
  named_right ps qs (inr e) = inr (ap (has b) (passed_joined ps qs) ∙ has_right b (passed_by_all H K c ps) (passed_by_all H K c qs) e)

  supers_named : (t : Ty) (s : ClassSite) → IsIn t (types (super_list H K c s)).types → class_of t ≡ Some (numbered b)
      → Named (map path_of_class (superclass_trees s.head) ++ map path_of_class (interface_trees s.head))
  supers_named t s m e =
      elim (apart (λ (w : Written). w.ty) t (cond (c == 0) [] (or_object s.file (first_offset_of_head s.head) (written_classes H K s.file (head_reading H K c) (superclass_trees s.head)))) _ m) [
        | inl l ↦ named_left _ (map path_of_class (interface_trees s.head)) (first_named (c == 0) s.file (first_offset_of_head s.head) t (superclass_trees s.head) l e)
        | inr r ↦ named_right (map path_of_class (superclass_trees s.head)) _ (trees_named s.file t (interface_trees s.head) r e)
      ]

  needed : (s : ClassSite) → slice_get H.classes c ≡ Some (class_head s) → Named (map path_of_class (superclass_trees s.head) ++ map path_of_class (interface_trees s.head))
      → (b ≡ 0) ⊎ (has b (needs H K c) ≡ true)
  needed s is (inl z) = inl z
  needed s is (inr e) = inr (has_right b (round_of H c) _ (ap (λ (o : Option ClassHead). has b (passed_by_all H K c (head_supers o))) is ∙ e))

-- ---- the classes of the table are those that are declared

pub declared_at : (f : ℕ → ClassSite → ClassDecl) (i : ℕ) (ss : List ClassSite) (a : ℕ) (t : Ty) → IsIn t (supers_in (slice_get (counted f i ss) a))
    → (s : ClassSite) × (slice_get ss a ≡ Some s) × IsIn t (supers_in (Some (f (i + a) s)))
declared_at f i [] zero t m = absurd m
declared_at f i [] (suc a) t m = absurd m
declared_at f i (s ∷ ss) zero t m = (s, refl, subst (λ (n : ℕ). IsIn t (supers_in (Some (f n s)))) (let e : i ≡ i + 0 = omega arith in e) m)
declared_at f i (s ∷ ss) (suc a) t m =
    let rest = declared_at f (suc i) ss a t m in
    (rest.0, rest.1, subst (λ (n : ℕ). IsIn t (supers_in (Some (f n rest.0)))) (let e : suc i + a ≡ i + suc a = omega arith in e) rest.2)

pub head_at : (ss : List ClassSite) (a : ℕ) (s : ClassSite) → slice_get ss a ≡ Some s → slice_get (map class_head ss) a ≡ Some (class_head s)
head_at [] zero s e = cc
head_at [] (suc a) s e = cc
head_at (x ∷ ss) zero s e = let f : x ≡ s = cc in ap (λ (y : ClassSite). Some (class_head y)) f
head_at (x ∷ ss) (suc a) s e = head_at ss a s e

-- a class with a supertype is declared
pub declared : (S : Sites) (a b : ℕ) → IsSuper (table_of S) a b → (s : ClassSite) × (slice_get (heads_of S).classes a ≡ Some (class_head s))
declared S a b e =
    let found = declared_at (class_decl (heads_of S) (known (heads_of S))) 0 S.classes a e.0 e.1 in
    (found.0, head_at S.classes a found.0 found.1)

pub edge : (S : Sites) (a b : ℕ) → IsSuper (table_of S) a b → (b ≡ 0) ⊎ (has b (needs (heads_of S) (known (heads_of S)) a) ≡ true)
edge S a b e =
    let H : Heads = heads_of S in let K : Knowledge = known H in
    let found = declared_at (class_decl H K) 0 S.classes a e.0 e.1 in
    let here : IsIn e.0 (supers_in (Some (class_decl H K a found.0))) =
    subst (λ (n : ℕ). IsIn e.0 (supers_in (Some (class_decl H K n found.0)))) (let z : 0 + a ≡ a = omega arith in z) found.2 in
    needed H K a b found.0 (head_at S.classes a found.0 found.1) (supers_named H K a b e.0 found.0 here e.2)
