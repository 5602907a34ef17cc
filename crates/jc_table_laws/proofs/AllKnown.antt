-- Where no class needs itself, it is known of each class what it inherits: a class of which it isn't known needs another such class, and so on, and there are only so
-- many.
use Rattle.std.proofs.Common.{◌≡◌, ◌≢◌, ◌⊎◌, inl, inr, ◌<◌, ◌≤◌, ◌+◌, ◌-◌, ◌==◌, ◌||◌, ◌&&◌, ℕ, zero, suc, Bool, true, false, Option, Some, None, List, [], ◌∷◌, ◌++◌, length, slice_get, arith, refl, sym, ap, subst, ◌∙◌}
use Rattle.std.specs.Prelude.{cond, codes, nat_lt}
use Rattle.std.proofs.lemmas.Bool.Decides.{nat_tests}
use Rattle.jc_rules.proofs.Truths.{and_first, and_second, equal_numbers, self_equal as same}
use Rattle.jc_types.specs.Names.{named}
use Rattle.jc_declares.specs.declared.heads.Heads.{Heads}
use Rattle.jc_declares.specs.declared.heads.Path.{Path}
use Rattle.jc_declares.specs.Heads.{Named, declared_of, class_variables, types_of_package, types_of_unit, imports_of, unit_package, unit_of, round_of, supers_of}
use Rattle.jc_declares.specs.Looking.{Knowledge, Look, Meaning, AClass, AVariable, Asker, has, once, demanded, open_class, singles, classes, one_class, one_variable, or_next, in_unit, all_named, inherits, in_class, in_classes, in_head, member, with_parts, or_longer, in_packages, or_package}
use Rattle.jc_declares.specs.Knowing.{meant_in_head, meant_class, and_class, written_supers, is_some, inherited_of, with_inherited, or_unknown, inherited_from, passed, passed_or_longer, passed_in_packages, passed_all, passed_by, passed_by_all, needs, all_known, if_all, settled_by, settled, rounds, known, Needs, needed, further}
use Rattle.jc_settling.proofs.Rounds.{all_known as every_round}
use Rattle.jc_table_laws.proofs.Fitting.{Each, each_joined, IsBelow}
use Rattle.jc_table_laws.proofs.Ranges.{LookIn, OneIn, SomeIn, found_in, in_head_in, member_in, package_types_in, known_in}

-- ---- of n + 1 numbers below n two are the same

abbrev squeezed : ℕ → ℕ → ℕ
squeezed v x = cond (nat_lt v x) (x - 1) x

squeezed_above : (v x : ℕ) → v < x → squeezed v x ≡ x - 1
squeezed_above v x l = grind (arith, nat_tests)

squeezed_below : (v x : ℕ) → x ≤ v → squeezed v x ≡ x
squeezed_below v x l = grind (arith, nat_tests)

order : (a b : ℕ) → (a ≡ b) ⊎ ((a < b) ⊎ (b < a))
order a b = grind arith

small : (n v x : ℕ) → x ≢ v → v < suc n → x < suc n → squeezed v x < n
small n v x ne lv lx =
    elim (order x v) [
      | inl e ↦ absurd (ne e)
      | inr o ↦ elim o [
        | inl l ↦ omega (arith, squeezed_below v x (let k : x ≤ v = omega arith in k))
        | inr g ↦ omega (arith, squeezed_above v x g)
      ]
    ]

apart : (v x y : ℕ) → x ≢ v → y ≢ v → squeezed v x ≡ squeezed v y → x ≡ y
apart v x y nx ny e =
    elim (order x v) [
      | inl k ↦ absurd (nx k)
      | inr o ↦ elim (order y v) [
        | inl k ↦ absurd (ny k)
        | inr p ↦ elim o [
          | inl lx ↦ elim p [
            | inl ly ↦ omega (arith, e, squeezed_below v x (let k : x ≤ v = omega arith in k), squeezed_below v y (let k : y ≤ v = omega arith in k))
            | inr gy ↦ absurd (omega (arith, e, squeezed_below v x (let k : x ≤ v = omega arith in k), squeezed_above v y gy))
          ]
          | inr gx ↦ elim p [
            | inl ly ↦ absurd (omega (arith, e, squeezed_above v x gx, squeezed_below v y (let k : y ≤ v = omega arith in k)))
            | inr gy ↦ omega (arith, e, squeezed_above v x gx, squeezed_above v y gy)
          ]
        ]
      ]
    ]

-- one of the first k is v, or none is
first_is : (f : ℕ → ℕ) (v k : ℕ) → ((i : ℕ) × (i < k) × (f i ≡ v)) ⊎ ((i : ℕ) → i < k → f i ≢ v)
first_is f v zero = inr (λ i l e. absurd (omega (arith, l)))
first_is f v (suc k) = by (first_is f v k) (order (f k) v)
  where
    here : ((i : ℕ) → i < k → f i ≢ v) → f k ≢ v → (i : ℕ) → i < suc k → f i ≢ v
    here none differ i l e = by_place (let o : (i < k) ⊎ (i ≡ k) = grind (arith, l) in o)
      where
        by_place : (i < k) ⊎ (i ≡ k) → ⊥
        by_place (inl less) = none i less e
        by_place (inr is) = differ (sym (ap f is) ∙ e)

    differs : (a b : ℕ) → (a < b) ⊎ (b < a) → a ≢ b
    differs a b (inl l) e = omega (arith, l, e)
    differs a b (inr l) e = omega (arith, l, e)

    by : ((i : ℕ) × (i < k) × (f i ≡ v)) ⊎ ((i : ℕ) → i < k → f i ≢ v) → (f k ≡ v) ⊎ ((f k < v) ⊎ (v < f k)) → ((i : ℕ) × (i < suc k) × (f i ≡ v)) ⊎ ((i : ℕ) → i < suc k → f i ≢ v)
    by (inl found) o = inl (found.0, omega (arith, found.1), found.2)
    by (inr none) (inl e) = inl (k, omega arith, e)
    by (inr none) (inr o) = inr (here none (differs (f k) v o))

record Twice (n : ℕ) (f : ℕ → ℕ) : Type 0 where
  first : ℕ
  second : ℕ
  later : first < second
  within : second ≤ n
  same : f first ≡ f second

twice : (n : ℕ) (f : ℕ → ℕ) → ((k : ℕ) → k ≤ n → f k < n) → Twice n f
twice zero f b = absurd (omega (arith, b 0 (let z : 0 ≤ 0 = omega arith in z)))
twice (suc n) f b =
    by (first_is f (f (suc n)) (suc n))
    (λ none.
    twice n (λ k. squeezed (f (suc n)) (f k))
    (λ k l. small n (f (suc n)) (f k) (none k (omega (arith, l))) (b (suc n) (let z : suc n ≤ suc n = omega arith in z)) (b k (omega (arith, l)))))
  where
    unsqueezed : ((i : ℕ) → i < suc n → f i ≢ f (suc n)) → Twice n (λ k. squeezed (f (suc n)) (f k)) → Twice (suc n) f
    unsqueezed none t =
        record {
          first = t.first;
          second = t.second;
          later = t.later;
          within = omega (arith, t.within);
          same = apart (f (suc n)) (f t.first) (f t.second) (none t.first (omega (arith, t.later, t.within))) (none t.second (omega (arith, t.within))) t.same;
        }

    by : ((i : ℕ) × (i < suc n) × (f i ≡ f (suc n))) ⊎ ((i : ℕ) → i < suc n → f i ≢ f (suc n)) → (((i : ℕ) → i < suc n → f i ≢ f (suc n)) → Twice n (λ k. squeezed (f (suc n)) (f k))) → Twice (suc n) f
    by (inl found) rest = record { first = found.0; second = suc n; later = found.1; within = omega arith; same = found.2 }
    by (inr none) rest = unsqueezed none (rest none)

-- ---- lists of classes

below_one : (n d : ℕ) (cs : List ℕ) → has d cs ≡ true → Each (IsBelow n) cs → d < n
below_one n d [] e a = absurd (let z : ⊥ = cc in z)
below_one n d (c ∷ cs) e a = by (d == c) refl e (λ m. below_one n d cs m a.1)
  where
    by : (b : Bool) → (d == c) ≡ b → (b || has d cs) ≡ true → (has d cs ≡ true → d < n) → d < n
    by true s m rest = subst (λ (k : ℕ). k < n) (sym (equal_numbers d c s)) a.0
    by false s m rest = rest m

module _ (H : Heads) (K : Knowledge) where
  abbrev IsKnown : ℕ → Type 0
  IsKnown c = is_some (K c) ≡ true

  abbrev AllSome : List ℕ → Type 0
  AllSome cs = Each IsKnown cs

  each_some : (cs : List ℕ) → all_known K cs ≡ true → AllSome cs
  each_some [] e = tt
  each_some (c ∷ cs) e = (and_first (is_some (K c)) (all_known K cs) e, each_some cs (and_second (is_some (K c)) (all_known K cs) e))

  left_some : (xs ys : List ℕ) → AllSome (xs ++ ys) → AllSome xs
  left_some [] ys a = tt
  left_some (x ∷ xs) ys a = (a.0, left_some xs ys a.1)

  right_some : (xs ys : List ℕ) → AllSome (xs ++ ys) → AllSome ys
  right_some [] ys a = a
  right_some (x ∷ xs) ys a = right_some xs ys a.1

  -- one that isn't known
  unknown_one : (cs : List ℕ) → all_known K cs ≡ false → (d : ℕ) × (has d cs ≡ true) × (is_some (K d) ≡ false)
  unknown_one [] e = absurd (let z : ⊥ = cc in z)
  unknown_one (c ∷ cs) e = by (is_some (K c)) refl e (unknown_one cs)
    where
      later : (d : ℕ) × (has d cs ≡ true) × (is_some (K d) ≡ false) → (d : ℕ) × (has d (c ∷ cs) ≡ true) × (is_some (K d) ≡ false)
      later x = (x.0, ap (λ b. (x.0 == c) || b) x.1 ∙ or_true (x.0 == c), x.2)
        where
          or_true : (b : Bool) → (b || true) ≡ true
          or_true true = refl
          or_true false = refl

      by : (b : Bool) → is_some (K c) ≡ b → (b && all_known K cs) ≡ false → (all_known K cs ≡ false → (d : ℕ) × (has d cs ≡ true) × (is_some (K d) ≡ false))
          → (d : ℕ) × (has d (c ∷ cs) ≡ true) × (is_some (K d) ≡ false)
      by true s e rest = later (rest e)
      by false s e rest = (c, ap (λ b. b || has c cs) (same c), s)

  -- ---- looks that ask only classes of which it is known

  abbrev Sure : Look → Type 0
  Sure look = is_some look ≡ true

  pub sure_next : (ms : List Meaning) (rest : Look) → Sure rest → Sure (or_next ms rest)
  sure_next [] rest s = s
  sure_next (m ∷ ms) rest s = refl

  sure_inherits : (n : List ℕ) (o : Option Named) (rest : Look) → is_some o ≡ true → Sure rest → Sure (inherits n o rest)
  sure_inherits n None rest k s = k
  sure_inherits n (Some es) rest k s = sure_next (classes (all_named n es)) rest s

  pub sure_unit : (u : ℕ) (n : List ℕ) → Sure (in_unit H u n)
  sure_unit u n =
      let asker : Asker = record { «package» = unit_package H u; top = None } in
      let last : Look = Some (classes (once [] (demanded H asker n (imports_of H u) ++ open_class H asker (named n (types_of_package H (codes "java.lang")))))) in
      let own : List Meaning = one_class (named n (types_of_package H (unit_package H u))) in
      sure_next (one_class (named n (singles H (imports_of H u) ++ types_of_unit H u))) (or_next own last) (sure_next own last refl)

  sure_class : (n : List ℕ) (c : ℕ) (rest : Look) → IsKnown c → Sure rest → Sure (in_class H K n c rest)
  sure_class n c rest k s = sure_next (one_class (named n (declared_of H c))) _ (sure_next (one_variable (named n (class_variables H c))) _ (sure_inherits n (K c) rest k s))

  pub sure_classes : (n : List ℕ) (u : ℕ) (cs : List ℕ) → AllSome cs → Sure (in_classes H K n u cs)
  sure_classes n u [] a = sure_unit u n
  sure_classes n u (c ∷ cs) a = sure_class n c (in_classes H K n u cs) a.0 (sure_classes n u cs a.1)

  pub sure_head : (c : ℕ) (n : List ℕ) → AllSome (round_of H c) → Sure (in_head H K c n)
  sure_head c n a = sure_next (one_variable (named n (class_variables H c))) _ (sure_classes n (unit_of H c) (round_of H c) a)

  pub sure_member : (c : ℕ) (n : List ℕ) → IsKnown c → Sure (member H K c n)
  sure_member c n k = sure_next (one_class (named n (declared_of H c))) _ (sure_inherits n (K c) (Some []) k refl)

  -- something is meant, and if it is a class, it is known
  abbrev Good : Look → Type 0
  Good None = ⊥
  Good (Some ms) = AllSome (meant_class ms)

  nothing_meant : {X : Type 0} → false ≡ true → X
  nothing_meant e = cc

  good_parts : (ps : List (List ℕ)) (look : Look) → Sure look → AllSome (passed H K ps look) → Good (with_parts H K ps look)
  good_parts [] None s a = nothing_meant s
  good_parts [] (Some ms) s a = a
  good_parts (p ∷ ps) None s a = nothing_meant s
  good_parts (p ∷ ps) (Some []) s a = tt
  good_parts (p ∷ ps) (Some (AClass c ∷ [])) s a = good_parts ps (member H K c p) (sure_member c p a.0) a.1
  good_parts (p ∷ ps) (Some (AVariable v ∷ [])) s a = tt
  good_parts (p ∷ ps) (Some (AClass c ∷ n ∷ ms)) s a = tt
  good_parts (p ∷ ps) (Some (AVariable v ∷ n ∷ ms)) s a = tt

  good_longer : (ns : List (List ℕ)) (o : Option ℕ) (longer : Look) (more : List ℕ) → (AllSome more → Good longer) → AllSome (passed_or_longer (passed H K ns) more o) → Good (or_longer (with_parts H K ns) longer o)
  good_longer ns None longer more g a = g a
  good_longer ns (Some c) longer more g a = good_parts ns (Some (AClass c ∷ [])) refl a

  good_packages : (p : List ℕ) (ns : List (List ℕ)) → AllSome (passed_in_packages H K p ns) → Good (in_packages H K p ns)
  good_packages p [] a = tt
  good_packages p (n ∷ ns) a =
      good_longer ns (named n (types_of_package H p)) (in_packages H K (p ++ codes "." ++ n) ns) (passed_in_packages H K (p ++ codes "." ++ n) ns) (good_packages (p ++ codes "." ++ n) ns) a

  good_or_package : (n : List ℕ) (ps : List (List ℕ)) (look : Look) → Sure look → AllSome (passed_all H K n ps look) → Good (or_package H K n ps look)
  good_or_package n ps None s a = nothing_meant s
  good_or_package n ps (Some []) s a = good_packages n ps a
  good_or_package n ps (Some (m ∷ ms)) s a = good_parts ps (Some (m ∷ ms)) refl a

  record Supers (r : Option (List ℕ)) : Type 0 where
    all : List ℕ
    is : r ≡ Some all
    known : AllSome all

  more_supers : (look : Look) (r : Option (List ℕ)) → Good look → Supers r → Supers (and_class look r)
  more_supers None r g s = absurd g
  more_supers (Some ms) r g s =
      record { all = meant_class ms ++ s.all; is = ap (λ (o : Option (List ℕ)). and_class (Some ms) o) s.is; known = each_joined IsKnown (meant_class ms) s.all g s.known }

  supers_known : (c : ℕ) (ps : List Path) → AllSome (round_of H c) → AllSome (passed_by_all H K c ps) → Supers (written_supers H K c ps)
  supers_known c [] r a = record { all = []; is = refl; known = tt }
  supers_known c (p ∷ ps) r a =
      more_supers (meant_in_head H K c p) (written_supers H K c ps)
      (good_or_package p.first p.more (in_head H K c p.first) (sure_head c p.first r) (left_some (passed_by H K c p) (passed_by_all H K c ps) a))
      (supers_known c ps r (right_some (passed_by H K c p) (passed_by_all H K c ps) a))

  with_known : (c s : ℕ) (ss : List ℕ) (found : Named) (o : Option Named) → is_some o ≡ true → ((more : Named) → is_some (inherited_from H K c ss more) ≡ true) → is_some (or_unknown (with_inherited H c s o found) (inherited_from H K c ss)) ≡ true
  with_known c s ss found None k g = k
  with_known c s ss found (Some es) k g = g (inherited_of H c (inherited_of H c found (declared_of H s)) es)

  from_known : (c : ℕ) (ss : List ℕ) (found : Named) → AllSome ss → is_some (inherited_from H K c ss found) ≡ true
  from_known c [] found a = refl
  from_known c (s ∷ ss) found a = with_known c s ss found (K s) a.0 (λ more. from_known c ss more a.1)

  by_supers : (c : ℕ) (r : Option (List ℕ)) → Supers r → is_some (settled_by H K c r) ≡ true
  by_supers c r s = ap (λ (o : Option (List ℕ)). is_some (settled_by H K c o)) s.is ∙ from_known c s.all [] s.known

  if_both : (a b : Bool) (o : Option Named) → a ≡ true → b ≡ true → is_some o ≡ true → is_some (if_all (a && b) o) ≡ true
  if_both true true o e f k = k
  if_both true false o e f k = nothing_meant f
  if_both false b o e f k = nothing_meant e

  -- a class is settled where all that it needs is known
  settles : (c : ℕ) → is_some (slice_get H.classes c) ≡ true → all_known K (needs H K c) ≡ true → is_some (settled H K c) ≡ true
  settles c e a =
      let all : AllSome (needs H K c) = each_some (needs H K c) a in
      if_both (is_some (slice_get H.classes c)) (all_known K (needs H K c)) (settled_by H K c (written_supers H K c (supers_of H c))) e a
      (by_supers c (written_supers H K c (supers_of H c))
      (supers_known c (supers_of H c) (left_some (round_of H c) (passed_by_all H K c (supers_of H c)) all) (right_some (round_of H c) (passed_by_all H K c (supers_of H c)) all)))

-- ---- what is needed is declared

module _ (H : Heads) (K : Knowledge) (known_below : (c : ℕ) → SomeIn H (K c)) where
  abbrev Declared : List ℕ → Type 0
  Declared cs = Each (IsBelow (length H.classes)) cs

  meant_below : (ms : List Meaning) → LookIn H (Some ms) → Declared (meant_class ms)
  meant_below [] l = tt
  meant_below (AClass c ∷ []) l = (l.0, tt)
  meant_below (AVariable v ∷ []) l = tt
  meant_below (AClass c ∷ n ∷ ms) l = tt
  meant_below (AVariable v ∷ n ∷ ms) l = tt

  passed_below : (ps : List (List ℕ)) (look : Look) → LookIn H look → Declared (passed H K ps look)
  passed_below [] None l = tt
  passed_below [] (Some ms) l = meant_below ms l
  passed_below (p ∷ ps) None l = tt
  passed_below (p ∷ ps) (Some []) l = tt
  passed_below (p ∷ ps) (Some (AClass c ∷ [])) l = (l.0, passed_below ps (member H K c p) (member_in H K known_below c p))
  passed_below (p ∷ ps) (Some (AVariable v ∷ [])) l = tt
  passed_below (p ∷ ps) (Some (AClass c ∷ n ∷ ms)) l = tt
  passed_below (p ∷ ps) (Some (AVariable v ∷ n ∷ ms)) l = tt

  longer_below : (ns : List (List ℕ)) (o : Option ℕ) (more : List ℕ) → OneIn (length H.classes) o → Declared more → Declared (passed_or_longer (passed H K ns) more o)
  longer_below ns None more l a = a
  longer_below ns (Some c) more l a = passed_below ns (Some (AClass c ∷ [])) (l, tt)

  packages_below : (p : List ℕ) (ns : List (List ℕ)) → Declared (passed_in_packages H K p ns)
  packages_below p [] = tt
  packages_below p (n ∷ ns) =
      longer_below ns (named n (types_of_package H p)) (passed_in_packages H K (p ++ codes "." ++ n) ns) (found_in (length H.classes) n (types_of_package H p) (package_types_in H p)) (packages_below (p ++ codes "." ++ n) ns)

  all_below : (n : List ℕ) (ps : List (List ℕ)) (look : Look) → LookIn H look → Declared (passed_all H K n ps look)
  all_below n ps None l = tt
  all_below n ps (Some []) l = packages_below n ps
  all_below n ps (Some (m ∷ ms)) l = passed_below ps (Some (m ∷ ms)) l

  supers_below : (c : ℕ) (ps : List Path) → Declared (passed_by_all H K c ps)
  supers_below c [] = tt
  supers_below c (p ∷ ps) =
      each_joined (IsBelow (length H.classes)) (passed_by H K c p) (passed_by_all H K c ps) (all_below p.first p.more (in_head H K c p.first) (in_head_in H K known_below c p.first)) (supers_below c ps)

  needs_below : (c : ℕ) → Declared (round_of H c) → Declared (needs H K c)
  needs_below c r = each_joined (IsBelow (length H.classes)) (round_of H c) (passed_by_all H K c (supers_of H c)) r (supers_below c (supers_of H c))

-- ---- the whole

pub placed : {X : Type 0} (xs : List X) (n : ℕ) → n < length xs → is_some (slice_get xs n) ≡ true
placed [] n l = absurd (omega (arith, l))
placed (x ∷ xs) zero l = refl
placed (x ∷ xs) (suc n) l = placed xs n (omega (arith, l))

module _ (H : Heads) (rounds_below : (c : ℕ) → Each (IsBelow (length H.classes)) (round_of H c)) (acyclic : (c : ℕ) → c < length H.classes → Needs H c c → ⊥) where
  some_under : (o : Option Named) (p : Option Named) → ((x : Named) → o ≡ Some x → p ≡ Some x) → is_some o ≡ true → is_some p ≡ true
  some_under None p u e = nothing_told e
    where
      nothing_told : {X : Type 0} → false ≡ true → X
      nothing_told e = cc
  some_under (Some x) p u e = ap is_some (u x refl)

  closed : (c : ℕ) → is_some (settled H (known H) c) ≡ true → is_some (known H c) ≡ true
  unfolding known
  closed c e = some_under (settled H (rounds H (length H.classes)) c) (rounds H (length H.classes) c) (((every_round H (suc (length H.classes))).of c).at) e

  record Lost : Type 0 where
    class : ℕ
    declared : class < length H.classes
    unknown : is_some (known H class) ≡ false

  not_both : {X : Type 0} (b : Bool) → b ≡ true → b ≡ false → X
  not_both b e f = cc

  needs_unknown : (c : ℕ) → c < length H.classes → is_some (known H c) ≡ false → all_known (known H) (needs H (known H) c) ≡ false
  needs_unknown c l u = by (all_known (known H) (needs H (known H) c)) refl
    where
      by : (b : Bool) → all_known (known H) (needs H (known H) c) ≡ b → b ≡ false
      by false e = refl
      by true e = not_both (is_some (known H c)) (closed c (settles H (known H) c (placed H.classes c l) e)) u

  next_one : (x : Lost) → (d : ℕ) × (has d (needs H (known H) x.class) ≡ true) × (is_some (known H d) ≡ false)
  next_one x = unknown_one H (known H) (needs H (known H) x.class) (needs_unknown x.class x.declared x.unknown)

  next : Lost → Lost
  unfolding next_one
  next x =
      let d = next_one x in
      record {
        class = d.0;
        declared = below_one (length H.classes) d.0 (needs H (known H) x.class) d.1 (needs_below H (known H) (known_in H) x.class (rounds_below x.class));
        unknown = d.2;
      }

  step : (x : Lost) → has (next x).class (needs H (known H) x.class) ≡ true
  unfolding next
  step x = (next_one x).1

  path : Lost → ℕ → Lost
  path x zero = x
  path x (suc k) = next (path x k)

  abbrev ahead : ℕ → ℕ → ℕ
  ahead i zero = suc i
  ahead i (suc k) = suc (ahead i k)

  ahead_is : (i k : ℕ) → ahead i k ≡ i + k + 1
  ahead_is i zero = omega arith
  ahead_is i (suc k) = omega (arith, ahead_is i k)

  path_needs : (x : Lost) (i k : ℕ) → Needs H (path x i).class (path x (ahead i k)).class
  unfolding path
  path_needs x i zero = needed (path x (suc i)).class (step (path x i))
  path_needs x i (suc k) = further (path x (ahead i k)).class (path x (suc (ahead i k))).class (path_needs x i k) (step (path x (ahead i k)))

  found : Lost → ⊥
  found x =
      let t : Twice (length H.classes) (λ k. (path x k).class) = twice (length H.classes) (λ k. (path x k).class) (λ k l. (path x k).declared) in
      let g : ℕ = t.second - t.first - 1 in
      let e : ahead t.first g ≡ t.second = omega (arith, t.later, ahead_is t.first g) in
      let n : Needs H (path x t.first).class (path x t.second).class = subst (λ (k : ℕ). Needs H (path x t.first).class (path x k).class) e (path_needs x t.first g) in
      acyclic (path x t.first).class (path x t.first).declared (subst (λ (c : ℕ). Needs H (path x t.first).class c) (sym t.same) n)

  pub none_unknown : (c : ℕ) → c < length H.classes → is_some (known H c) ≡ true
  none_unknown c l = by (is_some (known H c)) refl
    where
      by : (b : Bool) → is_some (known H c) ≡ b → b ≡ true
      by true e = refl
      by false e = absurd (found (record { class = c; declared = l; unknown = e }))
