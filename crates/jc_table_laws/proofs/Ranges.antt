-- What names mean are places among the declared classes and type variables.
use Rattle.std.proofs.Common.{◌<◌, ◌≤◌, ◌+◌, ◌==◌, ◌||◌, ◌&&◌, ℕ, zero, suc, Bool, true, false, Option, Some, None, List, [], ◌∷◌, ◌++◌, length, slice_get, if◌then◌else◌, arith}
use Rattle.std.specs.Prelude.{cond, codes, not}
use Rattle.std.specs.Str.{bytes_eq}
use Rattle.jc_types.specs.declared.declarations.Owner.{Owner}
use Rattle.jc_types.specs.declared.declarations.Owner.TheVariants as owner
use Rattle.jc_types.specs.Names.{named}
use Rattle.jc_declares.specs.declared.heads.ClassHead.{ClassHead}
use Rattle.jc_declares.specs.declared.heads.Heads.{Heads}
use Rattle.jc_declares.specs.declared.heads.ImportHead.{ImportHead}
use Rattle.jc_declares.specs.declared.heads.VariableHead.{VariableHead}
use Rattle.jc_declares.specs.Heads.{Named, named_classes, named_variables, same_owner, is_inside, is_top, is_of_package, declared_of, types_of_unit, types_of_package, class_variables, method_variables, unit_of, unit_package, round_of, imports_of, supers_of}
use Rattle.jc_declares.specs.Looking.{Knowledge, Look, Meaning, AClass, AVariable, Asker, Found, InPackage, AtClass, Nowhere, is_accessible, type_or_package, class_or_nowhere, next_part, next_parts, imported, last_part, single_of, singles, open_class, demanded_by, demanded, has, once, classes, one_class, one_variable, or_next, in_unit, all_named, inherits, in_class, in_classes, in_body, in_head, member, with_parts, or_longer, in_packages, or_package, look_up}
use Rattle.jc_declares.specs.Knowing.{is_inheritable, is_some, has_class, inherited_of, with_inherited, or_unknown, inherited_from, all_known, if_all, settled_by, rounds, known, needs, written_supers}

-- the numbers of these names are below a count
abbrev pub AllIn : ℕ → Named → Type 0
AllIn n [] = Unit {0}
AllIn n (e ∷ es) = (e.1 < n) × AllIn n es

abbrev pub Below : ℕ → List ℕ → Type 0
Below n [] = Unit {0}
Below n (c ∷ cs) = (c < n) × Below n cs

all_joined : (n : ℕ) (xs ys : Named) → AllIn n xs → AllIn n ys → AllIn n (xs ++ ys)
all_joined n [] ys a b = b
all_joined n (x ∷ xs) ys a b = (a.0, all_joined n xs ys a.1 b)

below_joined : (n : ℕ) (xs ys : List ℕ) → Below n xs → Below n ys → Below n (xs ++ ys)
below_joined n [] ys a b = b
below_joined n (x ∷ xs) ys a b = (a.0, below_joined n xs ys a.1 b)

-- a number that is found, if one is
abbrev pub OneIn : ℕ → Option ℕ → Type 0
OneIn n None = Unit {0}
OneIn n (Some i) = i < n

chosen : (n : ℕ) (b : Bool) (i : ℕ) (o : Option ℕ) → i < n → OneIn n o → OneIn n (if b then Some i else o)
chosen n true i o l p = l
chosen n false i o l p = p

pub found_in : (n : ℕ) (name : List ℕ) (es : Named) → AllIn n es → OneIn n (named name es)
found_in n name [] a = tt
found_in n name (e ∷ es) a = chosen n (bytes_eq name e.0) e.1 (named name es) a.0 (found_in n name es a.1)

one_entry : (n : ℕ) (b : Bool) (name : List ℕ) (i : ℕ) → i < n → AllIn n (cond b ((name, i) ∷ []) [])
one_entry n true name i l = (l, tt)
one_entry n false name i l = tt

classes_counted : (n : ℕ) (test : ClassHead → Bool) (i : ℕ) (cs : List ClassHead) → i + length cs ≤ n → AllIn n (named_classes test i cs)
classes_counted n test i [] l = tt
classes_counted n test i (c ∷ cs) l =
    all_joined n (cond (test c) ((c.name, i) ∷ []) []) (named_classes test (suc i) cs) (one_entry n (test c) c.name i (omega arith)) (classes_counted n test (suc i) cs (omega arith))

variables_counted : (n : ℕ) (o : Owner) (i : ℕ) (vs : List VariableHead) → i + length vs ≤ n → AllIn n (named_variables o i vs)
variables_counted n o i [] l = tt
variables_counted n o i (v ∷ vs) l =
    all_joined n (cond (same_owner o v.owner) ((v.name, i) ∷ []) []) (named_variables o (suc i) vs) (one_entry n (same_owner o v.owner) v.name i (omega arith))
    (variables_counted n o (suc i) vs (omega arith))

module _ (H : Heads) where
  abbrev pub Classes : ℕ
  Classes = length H.classes

  abbrev pub Variables : ℕ
  Variables = length H.variables

  counted : (test : ClassHead → Bool) → AllIn (length H.classes) (named_classes test 0 H.classes)
  counted test = classes_counted (length H.classes) test 0 H.classes (omega arith)

  pub declared_in : (c : ℕ) → AllIn (length H.classes) (declared_of H c)
  declared_in c = counted (λ (d : ClassHead). is_inside c d.round)

  pub unit_types_in : (u : ℕ) → AllIn (length H.classes) (types_of_unit H u)
  unit_types_in u = counted (λ (c : ClassHead). is_top c.round && (u == c.unit))

  pub package_types_in : (p : List ℕ) → AllIn (length H.classes) (types_of_package H p)
  package_types_in p = counted (λ (c : ClassHead). is_top c.round && is_of_package (slice_get H.units c.unit) p)

  pub class_variables_in : (c : ℕ) → AllIn (length H.variables) (class_variables H c)
  class_variables_in c = variables_counted (length H.variables) (owner.Class (record { 0 = c })) 0 H.variables (omega arith)

  pub method_variables_in : (m : ℕ) → AllIn (length H.variables) (method_variables H m)
  method_variables_in m = variables_counted (length H.variables) (owner.Method (record { 0 = m })) 0 H.variables (omega arith)

  -- ---- canonical names

  abbrev pub FoundIn : Found → Type 0
  FoundIn (InPackage p) = Unit {0}
  FoundIn (AtClass c) = c < length H.classes
  FoundIn Nowhere = Unit {0}

  or_package_in : (o : Option ℕ) (p n : List ℕ) → OneIn (length H.classes) o → FoundIn (type_or_package o p n)
  or_package_in None p n l = tt
  or_package_in (Some c) p n l = l

  or_nowhere_in : (o : Option ℕ) → OneIn (length H.classes) o → FoundIn (class_or_nowhere o)
  or_nowhere_in None l = tt
  or_nowhere_in (Some c) l = l

  next_in : (f : Found) (n : List ℕ) → FoundIn (next_part H f n)
  next_in (InPackage p) n = or_package_in (named n (types_of_package H p)) p n (found_in (length H.classes) n (types_of_package H p) (package_types_in p))
  next_in (AtClass c) n = or_nowhere_in (named n (declared_of H c)) (found_in (length H.classes) n (declared_of H c) (declared_in c))
  next_in Nowhere n = tt

  all_next_in : (f : Found) (ns : List (List ℕ)) → FoundIn f → FoundIn (next_parts H f ns)
  all_next_in f [] l = l
  all_next_in f (n ∷ ns) l = all_next_in (next_part H f n) ns (next_in f n)

  pub imported_in : (i : ImportHead) → FoundIn (imported H i)
  imported_in i = all_next_in (InPackage i.path.first) i.path.more tt

  single_in : (i : ImportHead) (f : Found) → FoundIn f → AllIn (length H.classes) (single_of i f)
  single_in i (InPackage p) l = tt
  single_in i (AtClass c) l = unless i.on_demand
    where
      unless : (b : Bool) → AllIn (length H.classes) (cond b [] ((last_part i.path.first i.path.more, c) ∷ []))
      unless true = tt
      unless false = (l, tt)
  single_in i Nowhere l = tt

  pub singles_in : (is : List ImportHead) → AllIn (length H.classes) (singles H is)
  singles_in [] = tt
  singles_in (i ∷ is) = all_joined (length H.classes) (single_of i (imported H i)) (singles H is) (single_in i (imported H i) (imported_in i)) (singles_in is)

  open_in : (a : Asker) (o : Option ℕ) → OneIn (length H.classes) o → Below (length H.classes) (open_class H a o)
  open_in a None l = tt
  open_in a (Some c) l = if_open (is_accessible H a c)
    where
      if_open : (b : Bool) → Below (length H.classes) (cond b (c ∷ []) [])
      if_open true = (l, tt)
      if_open false = tt

  when : (b : Bool) (cs : List ℕ) → Below (length H.classes) cs → Below (length H.classes) (cond b cs [])
  when true cs l = l
  when false cs l = tt

  demanded_by_in : (a : Asker) (n : List ℕ) (i : ImportHead) (f : Found) → Below (length H.classes) (demanded_by H a n i f)
  demanded_by_in a n i (InPackage p) = when i.on_demand (open_class H a (named n (types_of_package H p))) (open_in a (named n (types_of_package H p)) (found_in (length H.classes) n (types_of_package H p) (package_types_in p)))
  demanded_by_in a n i (AtClass c) = when i.on_demand (open_class H a (named n (declared_of H c))) (open_in a (named n (declared_of H c)) (found_in (length H.classes) n (declared_of H c) (declared_in c)))
  demanded_by_in a n i Nowhere = tt

  demanded_in : (a : Asker) (n : List ℕ) (is : List ImportHead) → Below (length H.classes) (demanded H a n is)
  demanded_in a n [] = tt
  demanded_in a n (i ∷ is) = below_joined (length H.classes) (demanded_by H a n i (imported H i)) (demanded H a n is) (demanded_by_in a n i (imported H i)) (demanded_in a n is)

  with_one : (b : Bool) (found : List ℕ) (c : ℕ) → Below (length H.classes) found → c < length H.classes → Below (length H.classes) (cond b found (found ++ c ∷ []))
  with_one true found c a l = a
  with_one false found c a l = below_joined (length H.classes) found (c ∷ []) a (l, tt)

  once_in : (found cs : List ℕ) → Below (length H.classes) found → Below (length H.classes) cs → Below (length H.classes) (once found cs)
  once_in found [] a b = a
  once_in found (c ∷ cs) a b = once_in (cond (has c found) found (found ++ c ∷ [])) cs (with_one (has c found) found c a b.0) b.1

  -- ---- what names mean

  abbrev MeaningIn : Meaning → Type 0
  MeaningIn (AClass c) = c < length H.classes
  MeaningIn (AVariable v) = v < length H.variables

  abbrev MeaningsIn : List Meaning → Type 0
  MeaningsIn [] = Unit {0}
  MeaningsIn (m ∷ ms) = MeaningIn m × MeaningsIn ms

  abbrev pub LookIn : Look → Type 0
  LookIn None = Unit {0}
  LookIn (Some ms) = MeaningsIn ms

  next_or : (ms : List Meaning) (rest : Look) → MeaningsIn ms → LookIn rest → LookIn (or_next ms rest)
  next_or [] rest a b = b
  next_or (m ∷ ms) rest a b = a

  class_in : (o : Option ℕ) → OneIn (length H.classes) o → MeaningsIn (one_class o)
  class_in None l = tt
  class_in (Some c) l = (l, tt)

  variable_in : (o : Option ℕ) → OneIn (length H.variables) o → MeaningsIn (one_variable o)
  variable_in None l = tt
  variable_in (Some v) l = (l, tt)

  classes_in : (cs : List ℕ) → Below (length H.classes) cs → MeaningsIn (classes cs)
  classes_in [] l = tt
  classes_in (c ∷ cs) l = (l.0, classes_in cs l.1)

  named_class_in : (n : List ℕ) (es : Named) → AllIn (length H.classes) es → MeaningsIn (one_class (named n es))
  named_class_in n es a = class_in (named n es) (found_in (length H.classes) n es a)

  named_variable_in : (n : List ℕ) (es : Named) → AllIn (length H.variables) es → MeaningsIn (one_variable (named n es))
  named_variable_in n es a = variable_in (named n es) (found_in (length H.variables) n es a)

  pub unit_in : (u : ℕ) (n : List ℕ) → LookIn (in_unit H u n)
  unit_in u n =
      let asker : Asker = record { «package» = unit_package H u; top = None } in
      let lang : Option ℕ = named n (types_of_package H (codes "java.lang")) in
      next_or (one_class (named n (singles H (imports_of H u) ++ types_of_unit H u))) _
      (named_class_in n (singles H (imports_of H u) ++ types_of_unit H u) (all_joined (length H.classes) (singles H (imports_of H u)) (types_of_unit H u) (singles_in (imports_of H u)) (unit_types_in u)))
      (next_or (one_class (named n (types_of_package H (unit_package H u)))) _ (named_class_in n (types_of_package H (unit_package H u)) (package_types_in (unit_package H u)))
      (classes_in (once [] (demanded H asker n (imports_of H u) ++ open_class H asker lang))
      (once_in [] (demanded H asker n (imports_of H u) ++ open_class H asker lang) tt
      (below_joined (length H.classes) (demanded H asker n (imports_of H u)) (open_class H asker lang) (demanded_in asker n (imports_of H u))
      (open_in asker lang (found_in (length H.classes) n (types_of_package H (codes "java.lang")) (package_types_in (codes "java.lang"))))))))

  all_named_in : (n : List ℕ) (es : Named) → AllIn (length H.classes) es → Below (length H.classes) (all_named n es)
  all_named_in n [] a = tt
  all_named_in n (e ∷ es) a = below_joined (length H.classes) (cond (bytes_eq n e.0) (e.1 ∷ []) []) (all_named n es) (when (bytes_eq n e.0) (e.1 ∷ []) (a.0, tt)) (all_named_in n es a.1)

  abbrev pub SomeIn : Option Named → Type 0
  SomeIn None = Unit {0}
  SomeIn (Some es) = AllIn (length H.classes) es

  inherits_in : (n : List ℕ) (o : Option Named) (rest : Look) → SomeIn o → LookIn rest → LookIn (inherits n o rest)
  inherits_in n None rest a b = tt
  inherits_in n (Some es) rest a b = next_or (classes (all_named n es)) rest (classes_in (all_named n es) (all_named_in n es a)) b

  -- ---- where this is known of classes

  module _ (K : Knowledge) (known_in : (c : ℕ) → SomeIn (K c)) where
    in_class_in : (n : List ℕ) (c : ℕ) (rest : Look) → LookIn rest → LookIn (in_class H K n c rest)
    in_class_in n c rest l =
        next_or (one_class (named n (declared_of H c))) _ (named_class_in n (declared_of H c) (declared_in c))
        (next_or (one_variable (named n (class_variables H c))) _ (named_variable_in n (class_variables H c) (class_variables_in c)) (inherits_in n (K c) rest (known_in c) l))

    in_classes_in : (n : List ℕ) (u : ℕ) (cs : List ℕ) → LookIn (in_classes H K n u cs)
    in_classes_in n u [] = unit_in u n
    in_classes_in n u (c ∷ cs) = in_class_in n c (in_classes H K n u cs) (in_classes_in n u cs)

    pub in_body_in : (c : ℕ) (n : List ℕ) → LookIn (in_body H K c n)
    in_body_in c n = in_classes_in n (unit_of H c) (c ∷ round_of H c)

    pub in_head_in : (c : ℕ) (n : List ℕ) → LookIn (in_head H K c n)
    in_head_in c n = next_or (one_variable (named n (class_variables H c))) _ (named_variable_in n (class_variables H c) (class_variables_in c)) (in_classes_in n (unit_of H c) (round_of H c))

    pub in_method_in : (m c : ℕ) (n : List ℕ) → LookIn (or_next (one_variable (named n (method_variables H m))) (in_body H K c n))
    in_method_in m c n = next_or (one_variable (named n (method_variables H m))) _ (named_variable_in n (method_variables H m) (method_variables_in m)) (in_body_in c n)

    pub member_in : (c : ℕ) (n : List ℕ) → LookIn (member H K c n)
    member_in c n = next_or (one_class (named n (declared_of H c))) _ (named_class_in n (declared_of H c) (declared_in c)) (inherits_in n (K c) (Some []) (known_in c) tt)

    parts_in : (ps : List (List ℕ)) (o : Look) → LookIn o → LookIn (with_parts H K ps o)
    parts_in [] None l = tt
    parts_in [] (Some ms) l = l
    parts_in (p ∷ ps) None l = tt
    parts_in (p ∷ ps) (Some []) l = tt
    parts_in (p ∷ ps) (Some (AClass c ∷ [])) l = parts_in ps (member H K c p) (member_in c p)
    parts_in (p ∷ ps) (Some (AVariable v ∷ [])) l = tt
    parts_in (p ∷ ps) (Some (AClass c ∷ n ∷ ms)) l = l
    parts_in (p ∷ ps) (Some (AVariable v ∷ n ∷ ms)) l = l

    longer_in : (ns : List (List ℕ)) (look : Look) (o : Option ℕ) → OneIn (length H.classes) o → LookIn look → LookIn (or_longer (with_parts H K ns) look o)
    longer_in ns look None a l = l
    longer_in ns look (Some c) a l = parts_in ns (Some (AClass c ∷ [])) (a, tt)

    packages_in : (p : List ℕ) (ns : List (List ℕ)) → LookIn (in_packages H K p ns)
    packages_in p [] = tt
    packages_in p (n ∷ ns) =
        longer_in ns (in_packages H K (p ++ codes "." ++ n) ns) (named n (types_of_package H p)) (found_in (length H.classes) n (types_of_package H p) (package_types_in p)) (packages_in (p ++ codes "." ++ n) ns)

    or_packages_in : (n : List ℕ) (ns : List (List ℕ)) (o : Look) → LookIn o → LookIn (or_package H K n ns o)
    or_packages_in n ns None l = tt
    or_packages_in n ns (Some []) l = packages_in n ns
    or_packages_in n ns (Some (m ∷ ms)) l = parts_in ns (Some (m ∷ ms)) l

    pub look_up_in : (find : List ℕ → Look) → ((n : List ℕ) → LookIn (find n)) → (n : List ℕ) (ns : List (List ℕ)) → LookIn (look_up H K find n ns)
    look_up_in find f n ns = or_packages_in n ns (find n) (f n)

  -- ---- what is known

  with_entry : (b : Bool) (found : Named) (e : List ℕ × ℕ) → AllIn (length H.classes) found → e.1 < length H.classes → AllIn (length H.classes) (cond b found (found ++ e ∷ []))
  with_entry true found e a l = a
  with_entry false found e a l = all_joined (length H.classes) found (e ∷ []) a (l, tt)

  inherited_in : (c : ℕ) (found es : Named) → AllIn (length H.classes) found → AllIn (length H.classes) es → AllIn (length H.classes) (inherited_of H c found es)
  inherited_in c found [] a b = a
  inherited_in c found (e ∷ es) a b =
      let hidden : Bool = is_some (named e.0 (declared_of H c)) || has_class e.1 found || not (is_inheritable H c e.1) in
      inherited_in c (cond hidden found (found ++ e ∷ [])) es (with_entry hidden found e a b.0) b.1

  by_known : (K : Knowledge) (c s : ℕ) (ss : List ℕ) (found : Named) → AllIn (length H.classes) found → ((more : Named) → AllIn (length H.classes) more → SomeIn (inherited_from H K c ss more))
      → (o : Option Named) → SomeIn o → SomeIn (or_unknown (with_inherited H c s o found) (inherited_from H K c ss))
  by_known K c s ss found a go None l = tt
  by_known K c s ss found a go (Some es) l =
      go (inherited_of H c (inherited_of H c found (declared_of H s)) es) (inherited_in c (inherited_of H c found (declared_of H s)) es (inherited_in c found (declared_of H s) a (declared_in s)) l)

  from_supers_in : (K : Knowledge) → ((c : ℕ) → SomeIn (K c)) → (c : ℕ) (ss : List ℕ) (found : Named) → AllIn (length H.classes) found → SomeIn (inherited_from H K c ss found)
  from_supers_in K k c [] found a = a
  from_supers_in K k c (s ∷ ss) found a = by_known K c s ss found a (λ more m. from_supers_in K k c ss more m) (K s) (k s)

  settled_by_in : (K : Knowledge) → ((c : ℕ) → SomeIn (K c)) → (c : ℕ) (o : Option (List ℕ)) → SomeIn (settled_by H K c o)
  settled_by_in K k c None = tt
  settled_by_in K k c (Some ss) = from_supers_in K k c ss [] tt

  if_in : (b : Bool) (o : Option Named) → SomeIn o → SomeIn (if_all b o)
  if_in true o l = l
  if_in false o l = tt

  rounds_in : (n c : ℕ) → SomeIn (rounds H n c)
  rounds_in zero c = tt
  rounds_in (suc n) c =
      if_in (is_some (slice_get H.classes c) && all_known (rounds H n) (needs H (rounds H n) c)) (settled_by H (rounds H n) c (written_supers H (rounds H n) c (supers_of H c)))
      (settled_by_in (rounds H n) (rounds_in n) c (written_supers H (rounds H n) c (supers_of H c)))

  pub known_in : (c : ℕ) → SomeIn (known H c)
  unfolding known
  known_in c = rounds_in (length H.classes) c
