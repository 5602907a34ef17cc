-- The type variables that names in the head of a class may mean are parameters of classes.
use Rattle.std.proofs.Common.{◌≡◌, ◌⊎◌, inl, inr, ◌+◌, ℕ, suc, Bool, true, false, Option, Some, None, List, [], ◌∷◌, ◌++◌, slice_get, if◌then◌else◌, arith, refl, sym, ap, subst, ◌∙◌}
use Rattle.std.specs.Prelude.{cond, codes}
use Rattle.std.specs.Str.{bytes_eq}
use Rattle.std.proofs.lemmas.Bool.Decides.{nat_tests}
use Rattle.jc_types.specs.declared.declarations.Owner.{Owner}
use Rattle.jc_types.specs.declared.declarations.Owner.TheVariants as owner
use Rattle.jc_types.specs.Names.{named}
use Rattle.jc_header_rules.specs.Checked.{IsAmong}
use Rattle.jc_declares.specs.declared.heads.Heads.{Heads}
use Rattle.jc_declares.specs.declared.heads.VariableHead.{VariableHead}
use Rattle.jc_declares.specs.Heads.{Named, named_variables, same_owner, class_variables, owner_in, owner_of, declared_of, types_of_unit, types_of_package, unit_of, unit_package, round_of, imports_of}
use Rattle.jc_declares.specs.Looking.{Knowledge, Look, Meaning, AClass, AVariable, Asker, singles, open_class, demanded, once, classes, one_class, one_variable, or_next, in_unit, all_named, inherits, in_class, in_classes, in_head, member, with_parts, or_longer, in_packages, or_package, look_up}
use Rattle.jc_declares.specs.Making.{numbers}

-- a variable of this number is a parameter of some class
pub record OfSomeClass (H : Heads) (v : ℕ) : Type 0 where
  pub class : ℕ
  pub owned : owner_of H v ≡ Some (owner.Class (record { 0 = class }))
  pub among : IsAmong v (numbers (class_variables H class))

-- ---- what is found in a list of names is of it

chosen : (b : Bool) (i v : ℕ) (o : Option ℕ) (is : List ℕ) → (o ≡ Some v → IsAmong v is) → (if b then Some i else o) ≡ Some v → IsAmong v (i ∷ is)
chosen true i v o is go e = inl (let g : v ≡ i = cc in g)
chosen false i v o is go e = inr (go e)

found_among : (n : List ℕ) (es : Named) (v : ℕ) → named n es ≡ Some v → IsAmong v (numbers es)
found_among n [] v f = absurd (let z : ⊥ = cc in z)
found_among n (e ∷ es) v f = chosen (bytes_eq n e.0) e.1 v (named n es) (numbers es) (found_among n es v) f

-- ---- each is owned by the class

same_class : (o : Owner) (c : ℕ) → same_owner (owner.Class (record { 0 = c })) o ≡ true → o ≡ owner.Class (record { 0 = c })
same_class (owner.Class d) c e = ap (λ (k : ℕ). owner.Class (record { 0 = k })) (let g : d.0 ≡ c = grind (arith, nat_tests) in g)
same_class (owner.Method m) c e = cc

owned_here : (H : Heads) (c i : ℕ) (x : VariableHead) → same_owner (owner.Class (record { 0 = c })) x.owner ≡ true → Some x ≡ slice_get H.variables (i + 0)
    → owner_of H i ≡ Some (owner.Class (record { 0 = c }))
owned_here H c i x b e =
    ap (λ (k : ℕ). owner_of H k) (let g : i ≡ i + 0 = omega arith in g) ∙ ap owner_in (sym e) ∙ ap (λ (o : Owner). Some o) (same_class x.owner c b)

entry_apart : (b : Bool) (n : List ℕ) (i v : ℕ) (rest : Named) → IsAmong v (numbers (cond b ((n, i) ∷ []) [] ++ rest)) → ((b ≡ true) × (v ≡ i)) ⊎ IsAmong v (numbers rest)
entry_apart true n i v rest (inl e) = inl (refl, e)
entry_apart true n i v rest (inr m) = inr m
entry_apart false n i v rest m = inr m

abbrev Continues : Heads → ℕ → List VariableHead → Type 0
Continues H i vs = (k : ℕ) → slice_get vs k ≡ slice_get H.variables (i + k)

behind : (H : Heads) (i : ℕ) (x : VariableHead) (vs : List VariableHead) → Continues H i (x ∷ vs) → Continues H (suc i) vs
behind H i x vs f k = subst (λ (n : ℕ). slice_get vs k ≡ slice_get H.variables n) (let g : i + suc k ≡ suc i + k = omega arith in g) (f (suc k))

owned_from : (H : Heads) (c i : ℕ) (vs : List VariableHead) → Continues H i vs → (v : ℕ) → IsAmong v (numbers (named_variables (owner.Class (record { 0 = c })) i vs))
    → owner_of H v ≡ Some (owner.Class (record { 0 = c }))
owned_from H c i [] f v m = absurd m
owned_from H c i (x ∷ vs) f v m =
    elim (entry_apart (same_owner (owner.Class (record { 0 = c })) x.owner) x.name i v (named_variables (owner.Class (record { 0 = c })) (suc i) vs) m) [
      | inl e ↦ subst (λ (k : ℕ). owner_of H k ≡ Some (owner.Class (record { 0 = c }))) (sym e.1) (owned_here H c i x e.0 (f 0))
      | inr n ↦ owned_from H c (suc i) vs (behind H i x vs f) v n
    ]

parameter : (H : Heads) (c v : ℕ) → IsAmong v (numbers (class_variables H c)) → OfSomeClass H v
parameter H c v m = record {
  class = c;
  owned = owned_from H c 0 H.variables (λ k. ap (λ (n : ℕ). slice_get H.variables n) (let g : k ≡ 0 + k = omega arith in g)) v m;
  among = m;
}

-- ---- what names mean

module _ (H : Heads) where
  abbrev MeaningOwned : Meaning → Type 0
  MeaningOwned (AClass c) = Unit {0}
  MeaningOwned (AVariable v) = OfSomeClass H v

  abbrev MeaningsOwned : List Meaning → Type 0
  MeaningsOwned [] = Unit {0}
  MeaningsOwned (m ∷ ms) = MeaningOwned m × MeaningsOwned ms

  abbrev pub LookOwned : Look → Type 0
  LookOwned None = Unit {0}
  LookOwned (Some ms) = MeaningsOwned ms

  next_owned : (ms : List Meaning) (rest : Look) → MeaningsOwned ms → LookOwned rest → LookOwned (or_next ms rest)
  next_owned [] rest a b = b
  next_owned (m ∷ ms) rest a b = a

  class_owned : (o : Option ℕ) → MeaningsOwned (one_class o)
  class_owned None = tt
  class_owned (Some c) = (tt, tt)

  classes_owned : (cs : List ℕ) → MeaningsOwned (classes cs)
  classes_owned [] = tt
  classes_owned (c ∷ cs) = (tt, classes_owned cs)

  variable_owned : (o : Option ℕ) → ((v : ℕ) → o ≡ Some v → OfSomeClass H v) → MeaningsOwned (one_variable o)
  variable_owned None f = tt
  variable_owned (Some v) f = (f v refl, tt)

  named_owned : (c : ℕ) (n : List ℕ) → MeaningsOwned (one_variable (named n (class_variables H c)))
  named_owned c n = variable_owned (named n (class_variables H c)) (λ v e. parameter H c v (found_among n (class_variables H c) v e))

  unit_owned : (u : ℕ) (n : List ℕ) → LookOwned (in_unit H u n)
  unit_owned u n =
      let asker : Asker = record { «package» = unit_package H u; top = None } in
      next_owned (one_class (named n (singles H (imports_of H u) ++ types_of_unit H u))) _ (class_owned (named n (singles H (imports_of H u) ++ types_of_unit H u)))
      (next_owned (one_class (named n (types_of_package H (unit_package H u)))) _ (class_owned (named n (types_of_package H (unit_package H u))))
      (classes_owned (once [] (demanded H asker n (imports_of H u) ++ open_class H asker (named n (types_of_package H (codes "java.lang")))))))

  inherits_owned : (n : List ℕ) (o : Option Named) (rest : Look) → LookOwned rest → LookOwned (inherits n o rest)
  inherits_owned n None rest b = tt
  inherits_owned n (Some es) rest b = next_owned (classes (all_named n es)) rest (classes_owned (all_named n es)) b

  module _ (K : Knowledge) where
    in_class_owned : (n : List ℕ) (c : ℕ) (rest : Look) → LookOwned rest → LookOwned (in_class H K n c rest)
    in_class_owned n c rest l =
        next_owned (one_class (named n (declared_of H c))) _ (class_owned (named n (declared_of H c)))
        (next_owned (one_variable (named n (class_variables H c))) _ (named_owned c n) (inherits_owned n (K c) rest l))

    in_classes_owned : (n : List ℕ) (u : ℕ) (cs : List ℕ) → LookOwned (in_classes H K n u cs)
    in_classes_owned n u [] = unit_owned u n
    in_classes_owned n u (c ∷ cs) = in_class_owned n c (in_classes H K n u cs) (in_classes_owned n u cs)

    pub in_head_owned : (c : ℕ) (n : List ℕ) → LookOwned (in_head H K c n)
    in_head_owned c n = next_owned (one_variable (named n (class_variables H c))) _ (named_owned c n) (in_classes_owned n (unit_of H c) (round_of H c))

    member_owned : (c : ℕ) (n : List ℕ) → LookOwned (member H K c n)
    member_owned c n = next_owned (one_class (named n (declared_of H c))) _ (class_owned (named n (declared_of H c))) (inherits_owned n (K c) (Some []) tt)

    parts_owned : (ps : List (List ℕ)) (o : Look) → LookOwned o → LookOwned (with_parts H K ps o)
    parts_owned [] None l = tt
    parts_owned [] (Some ms) l = l
    parts_owned (p ∷ ps) None l = tt
    parts_owned (p ∷ ps) (Some []) l = tt
    parts_owned (p ∷ ps) (Some (AClass c ∷ [])) l = parts_owned ps (member H K c p) (member_owned c p)
    parts_owned (p ∷ ps) (Some (AVariable v ∷ [])) l = tt
    parts_owned (p ∷ ps) (Some (AClass c ∷ n ∷ ms)) l = l
    parts_owned (p ∷ ps) (Some (AVariable v ∷ n ∷ ms)) l = l

    longer_owned : (ns : List (List ℕ)) (look : Look) (o : Option ℕ) → LookOwned look → LookOwned (or_longer (with_parts H K ns) look o)
    longer_owned ns look None l = l
    longer_owned ns look (Some c) l = parts_owned ns (Some (AClass c ∷ [])) (tt, tt)

    packages_owned : (p : List ℕ) (ns : List (List ℕ)) → LookOwned (in_packages H K p ns)
    packages_owned p [] = tt
    packages_owned p (n ∷ ns) =
        longer_owned ns (in_packages H K (p ++ codes "." ++ n) ns) (named n (types_of_package H p)) (packages_owned (p ++ codes "." ++ n) ns)

    or_packages_owned : (n : List ℕ) (ns : List (List ℕ)) (o : Look) → LookOwned o → LookOwned (or_package H K n ns o)
    or_packages_owned n ns None l = tt
    or_packages_owned n ns (Some []) l = packages_owned n ns
    or_packages_owned n ns (Some (m ∷ ms)) l = parts_owned ns (Some (m ∷ ms)) l

    pub look_up_owned : (find : List ℕ → Look) → ((n : List ℕ) → LookOwned (find n)) → (n : List ℕ) (ns : List (List ℕ)) → LookOwned (look_up H K find n ns)
    look_up_owned find f n ns = or_packages_owned n ns (find n) (f n)
