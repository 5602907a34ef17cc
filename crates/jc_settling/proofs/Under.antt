-- What is found by some knowledge is found by more.
use Rattle.std.proofs.Common.{◌≡◌, ℕ, ◌&&◌, Bool, true, false, Option, Some, None, List, [], ◌∷◌, ◌++◌, codes, slice_get, refl, sym, ap, subst, ◌∙◌}
use Rattle.jc_types.specs.Names.{named}
use Rattle.jc_declares.specs.declared.heads.Heads.{Heads}
use Rattle.jc_declares.specs.declared.heads.Path.{Path}
use Rattle.jc_declares.specs.Heads.{Named, types_of_package, round_of, supers_of}
use Rattle.jc_declares.specs.Looking.{Meaning, AClass, AVariable, Look, Knowledge}
use Rattle.jc_declares.specs.Looking
use Rattle.jc_declares.specs.Knowing

pub record Under {A : Type 0} (o p : Option A) : Type 0 where
  pub at : (x : A) → o ≡ Some x → p ≡ Some x

pub record More (K L : Knowledge) : Type 0 where
  pub of : (c : ℕ) → Under (K c) (L c)

pub same : {A : Type 0} (o : Option A) → Under o o
same o = record { at = λ x e. e }

pub none : {A : Type 0} (p : Option A) → Under None p
none p = record { at = λ x e. cc }

or_next : (ms : List Meaning) (o p : Look) → Under o p → Under (Looking.or_next ms o) (Looking.or_next ms p)
or_next [] o p u = u
or_next (m ∷ ms) o p u = same _

inherits : (n : List ℕ) (k l : Option Named) (o p : Look) → Under k l → Under o p → Under (Looking.inherits n k o) (Looking.inherits n l p)
inherits n None l o p v u = none _
inherits n (Some x) l o p v u = subst (λ l. Under (Looking.inherits n (Some x) o) (Looking.inherits n l p)) (sym (v.at x refl)) (or_next _ o p u)

and_class : (o p : Look) (k l : Option (List ℕ)) → Under o p → Under k l → Under (Knowing.and_class o k) (Knowing.and_class p l)
and_class None p k l u v = none _
and_class (Some ms) p None l u v = none _
and_class (Some ms) p (Some cs) l u v = record { at = λ x e. subst (λ p. Knowing.and_class p l ≡ Some x) (sym (u.at ms refl)) (subst (λ l. Knowing.and_class (Some ms) l ≡ Some x) (sym (v.at cs refl)) e) }

with_inherited : (H : Heads) (c s : ℕ) (k l : Option Named) (found : Named) → Under k l → Under (Knowing.with_inherited H c s k found) (Knowing.with_inherited H c s l found)
with_inherited H c s None l found u = none _
with_inherited H c s (Some es) l found u = subst (λ l. Under (Knowing.with_inherited H c s (Some es) found) (Knowing.with_inherited H c s l found)) (sym (u.at es refl)) (same _)

or_unknown : (o p : Option Named) (f g : Named → Option Named) → Under o p → ((x : Named) → Under (f x) (g x)) → Under (Knowing.or_unknown o f) (Knowing.or_unknown p g)
or_unknown None p f g u v = none _
or_unknown (Some x) p f g u v = subst (λ p. Under (Knowing.or_unknown (Some x) f) (Knowing.or_unknown p g)) (sym (u.at x refl)) (v x)

no_less : (a b : Option Named) → Under a b → Knowing.is_some a ≡ true → Knowing.is_some b ≡ true
no_less None b u e = cc
no_less (Some x) b u e = ap Knowing.is_some (u.at x refl)

if_all : {X : Type 0} (a b : Bool) (k l : Option X) → (a ≡ true → b ≡ true) → Under k l → Under (Knowing.if_all a k) (Knowing.if_all b l)
if_all false b k l f u = none _
if_all true b k l f u = subst (λ b. Under k (Knowing.if_all b l)) (sym (f refl)) u

both : (a b c d : Bool) → (a ≡ true → c ≡ true) → (b ≡ true → d ≡ true) → (a && b) ≡ true → (c && d) ≡ true
both true true c d f g e = ap (λ x. x && d) (f refl) ∙ g refl
both true false c d f g e = cc
both false b c d f g e = cc

module _ (H : Heads) (K L : Knowledge) (more : More K L) where
  in_class : (n : List ℕ) (c : ℕ) (o p : Look) → Under o p → Under (Looking.in_class H K n c o) (Looking.in_class H L n c p)
  in_class n c o p u = or_next _ _ _ (or_next _ _ _ (inherits n (K c) (L c) o p (more.of c) u))

  in_classes : (n : List ℕ) (u : ℕ) (cs : List ℕ) → Under (Looking.in_classes H K n u cs) (Looking.in_classes H L n u cs)
  in_classes n u [] = same _
  in_classes n u (c ∷ cs) = in_class n c _ _ (in_classes n u cs)

  pub in_head : (c : ℕ) (n : List ℕ) → Under (Looking.in_head H K c n) (Looking.in_head H L c n)
  in_head c n = or_next _ _ _ (in_classes n _ (round_of H c))

  pub in_body : (c : ℕ) (n : List ℕ) → Under (Looking.in_body H K c n) (Looking.in_body H L c n)
  in_body c n = in_classes n _ (c ∷ round_of H c)

  member : (c : ℕ) (n : List ℕ) → Under (Looking.member H K c n) (Looking.member H L c n)
  member c n = or_next _ _ _ (inherits n (K c) (L c) _ _ (more.of c) (same _))

  lifted : (ps : List (List ℕ)) → ((ms : List Meaning) → Under (Looking.with_parts H K ps (Some ms)) (Looking.with_parts H L ps (Some ms)))
      → (o p : Look) → Under o p → Under (Looking.with_parts H K ps o) (Looking.with_parts H L ps p)
  lifted ps f None p u = none _
  lifted ps f (Some ms) p u = subst (λ p. Under (Looking.with_parts H K ps (Some ms)) (Looking.with_parts H L ps p)) (sym (u.at ms refl)) (f ms)

  parts_of : (ps : List (List ℕ)) (ms : List Meaning) → Under (Looking.with_parts H K ps (Some ms)) (Looking.with_parts H L ps (Some ms))
  parts_of [] ms = same _
  parts_of (q ∷ ps) [] = same _
  parts_of (q ∷ ps) (AClass c ∷ []) = lifted ps (parts_of ps) _ _ (member c q)
  parts_of (q ∷ ps) (AVariable v ∷ []) = same _
  parts_of (q ∷ ps) (m ∷ n ∷ ms) = same _

  or_longer : (f g : Look → Look) (o p : Look) (c : Option ℕ) → ((x : Look) → Under (f x) (g x)) → Under o p → Under (Looking.or_longer f o c) (Looking.or_longer g p c)
  or_longer f g o p None v u = u
  or_longer f g o p (Some c) v u = v _

  with_parts_of : (ps : List (List ℕ)) (x : Look) → Under (Looking.with_parts H K ps x) (Looking.with_parts H L ps x)
  with_parts_of ps x = lifted ps (parts_of ps) x x (same x)

  in_packages : (p : List ℕ) (ns : List (List ℕ)) → Under (Looking.in_packages H K p ns) (Looking.in_packages H L p ns)
  in_packages p [] = same _
  in_packages p (n ∷ ns) = or_longer _ _ _ _ (named n (types_of_package H p)) (λ x. with_parts_of ns x) (in_packages (p ++ codes "." ++ n) ns)

  or_package_of : (n : List ℕ) (ps : List (List ℕ)) (ms : List Meaning) → Under (Looking.or_package H K n ps (Some ms)) (Looking.or_package H L n ps (Some ms))
  or_package_of n ps [] = in_packages n ps
  or_package_of n ps (m ∷ ms) = parts_of ps (m ∷ ms)

  or_package : (n : List ℕ) (ps : List (List ℕ)) (o p : Look) → Under o p → Under (Looking.or_package H K n ps o) (Looking.or_package H L n ps p)
  or_package n ps None p u = none _
  or_package n ps (Some ms) p u = subst (λ p. Under (Looking.or_package H K n ps (Some ms)) (Looking.or_package H L n ps p)) (sym (u.at ms refl)) (or_package_of n ps ms)

  meant_in_head : (c : ℕ) (path : Path) → Under (Knowing.meant_in_head H K c path) (Knowing.meant_in_head H L c path)
  meant_in_head c path = or_package path.first path.more _ _ (in_head c path.first)

  written_supers : (c : ℕ) (ts : List Path) → Under (Knowing.written_supers H K c ts) (Knowing.written_supers H L c ts)
  written_supers c [] = same _
  written_supers c (t ∷ ts) = and_class _ _ _ _ (meant_in_head c t) (written_supers c ts)

  inherited_from : (c : ℕ) (ss : List ℕ) (found : Named) → Under (Knowing.inherited_from H K c ss found) (Knowing.inherited_from H L c ss found)
  inherited_from c [] found = same _
  inherited_from c (s ∷ ss) found = or_unknown _ _ _ _ (with_inherited H c s (K s) (L s) found (more.of s)) (inherited_from c ss)

  all_known : (cs : List ℕ) → Knowing.all_known K cs ≡ true → Knowing.all_known L cs ≡ true
  all_known [] e = refl
  all_known (c ∷ cs) e = both _ _ _ _ (no_less (K c) (L c) (more.of c)) (all_known cs) e

  settled_by : (c : ℕ) (k l : Option (List ℕ)) → Under k l → Under (Knowing.settled_by H K c k) (Knowing.settled_by H L c l)
  settled_by c None l u = none _
  settled_by c (Some ss) l u = subst (λ l. Under (Knowing.settled_by H K c (Some ss)) (Knowing.settled_by H L c l)) (sym (u.at ss refl)) (inherited_from c ss [])

  -- ---- what names pass is the same over more knowledge, once they mean something

  pass_lift : (ps : List (List ℕ)) → ((ms rs : List Meaning) → Looking.with_parts H K ps (Some ms) ≡ Some rs → Knowing.passed H L ps (Some ms) ≡ Knowing.passed H K ps (Some ms))
      → (o p : Look) (rs : List Meaning) → Under o p → Looking.with_parts H K ps o ≡ Some rs → Knowing.passed H L ps p ≡ Knowing.passed H K ps o
  pass_lift ps f None p rs u e = cc
  pass_lift ps f (Some ms) p rs u e = ap (Knowing.passed H L ps) (u.at ms refl) ∙ f ms rs e

  pass_same : (ps : List (List ℕ)) (ms rs : List Meaning) → Looking.with_parts H K ps (Some ms) ≡ Some rs → Knowing.passed H L ps (Some ms) ≡ Knowing.passed H K ps (Some ms)
  pass_same [] ms rs e = refl
  pass_same (q ∷ ps) [] rs e = refl
  pass_same (q ∷ ps) (AClass c ∷ []) rs e = ap (λ xs. c ∷ xs) (pass_lift ps (pass_same ps) _ _ rs (member c q) e)
  pass_same (q ∷ ps) (AVariable v ∷ []) rs e = refl
  pass_same (q ∷ ps) (m ∷ n ∷ ms) rs e = refl

  package_by : (f g : Look → List ℕ) (xs ys : List ℕ) (o : Option ℕ) (h k : Look → Look) (l : Look) (rs : List Meaning)
      → ((c : ℕ) (rs : List Meaning) → h (Some (AClass c ∷ [])) ≡ Some rs → g (Some (AClass c ∷ [])) ≡ f (Some (AClass c ∷ []))) → ((rs : List Meaning) → l ≡ Some rs → ys ≡ xs)
      → Looking.or_longer h l o ≡ Some rs → Knowing.passed_or_longer g ys o ≡ Knowing.passed_or_longer f xs o
  package_by f g xs ys None h k l rs a b e = b rs e
  package_by f g xs ys (Some c) h k l rs a b e = a c rs e

  packages_same : (p : List ℕ) (ns : List (List ℕ)) (rs : List Meaning) → Looking.in_packages H K p ns ≡ Some rs → Knowing.passed_in_packages H L p ns ≡ Knowing.passed_in_packages H K p ns
  packages_same p [] rs e = refl
  packages_same p (n ∷ ns) rs e =
      package_by (Knowing.passed H K ns) (Knowing.passed H L ns) _ _ (named n (types_of_package H p)) (Looking.with_parts H K ns) (Looking.with_parts H K ns) (Looking.in_packages H K (p ++ codes "." ++ n) ns) rs
      (λ c qs g. pass_same ns (AClass c ∷ []) qs g) (λ qs g. packages_same (p ++ codes "." ++ n) ns qs g) e

  all_same : (n : List ℕ) (ps : List (List ℕ)) (ms rs : List Meaning) → Looking.or_package H K n ps (Some ms) ≡ Some rs → Knowing.passed_all H L n ps (Some ms) ≡ Knowing.passed_all H K n ps (Some ms)
  all_same n ps [] rs e = packages_same n ps rs e
  all_same n ps (m ∷ ms) rs e = pass_same ps (m ∷ ms) rs e

  all_lift : (n : List ℕ) (ps : List (List ℕ)) (o p : Look) (rs : List Meaning) → Under o p → Looking.or_package H K n ps o ≡ Some rs → Knowing.passed_all H L n ps p ≡ Knowing.passed_all H K n ps o
  all_lift n ps None p rs u e = cc
  all_lift n ps (Some ms) p rs u e = ap (Knowing.passed_all H L n ps) (u.at ms refl) ∙ all_same n ps ms rs e

  passed_same : (c : ℕ) (path : Path) (rs : List Meaning) → Knowing.meant_in_head H K c path ≡ Some rs → Knowing.passed_by H L c path ≡ Knowing.passed_by H K c path
  passed_same c path rs e = all_lift path.first path.more _ _ rs (in_head c path.first) e

  supers_same : (c : ℕ) (ts : List Path) (ss : List ℕ) → Knowing.written_supers H K c ts ≡ Some ss → Knowing.passed_by_all H L c ts ≡ Knowing.passed_by_all H K c ts
  supers_same c [] ss e = refl
  supers_same c (t ∷ ts) ss e = by_both (supers_same c ts) (Knowing.meant_in_head H K c t) (Knowing.written_supers H K c ts) refl refl e
    where
      by_both : ((ss : List ℕ) → Knowing.written_supers H K c ts ≡ Some ss → Knowing.passed_by_all H L c ts ≡ Knowing.passed_by_all H K c ts) → (o : Look) (k : Option (List ℕ)) → Knowing.meant_in_head H K c t ≡ o → Knowing.written_supers H K c ts ≡ k → Knowing.and_class o k ≡ Some ss
          → Knowing.passed_by_all H L c (t ∷ ts) ≡ Knowing.passed_by_all H K c (t ∷ ts)
      by_both f None k a b e = cc
      by_both f (Some rs) None a b e = cc
      by_both f (Some rs) (Some cs) a b e = ap (λ xs. xs ++ Knowing.passed_by_all H L c ts) (passed_same c t rs a) ∙ ap (λ xs. Knowing.passed_by H K c t ++ xs) (f cs b)

  -- what a class needs is the same over more knowledge, once its supertypes are found
  pub needs_same : (c : ℕ) (ss : List ℕ) → Knowing.written_supers H K c (supers_of H c) ≡ Some ss → Knowing.needs H L c ≡ Knowing.needs H K c
  needs_same c ss e = ap (λ xs. round_of H c ++ xs) (supers_same c (supers_of H c) ss e)

  never : (b : Bool) (p : Option Named) → Under (Knowing.if_all b None) p
  never true p = none p
  never false p = none p

  by_found : (c : ℕ) (o : Option (List ℕ)) → Knowing.written_supers H K c (supers_of H c) ≡ o
      → Under (Knowing.if_all (Knowing.is_some (slice_get H.classes c) && Knowing.all_known K (Knowing.needs H K c)) (Knowing.settled_by H K c o))
      (Knowing.if_all (Knowing.is_some (slice_get H.classes c) && Knowing.all_known L (Knowing.needs H L c)) (Knowing.settled_by H L c (Knowing.written_supers H L c (supers_of H c))))
  by_found c None f = never _ _
  by_found c (Some ss) f =
      if_all _ _ _ _ (both _ _ _ _ (λ e. e) (λ e. subst (λ ns. Knowing.all_known L ns ≡ true) (sym (needs_same c ss f)) (all_known (Knowing.needs H K c) e)))
      (settled_by c (Some ss) _ (subst (λ o. Under o (Knowing.written_supers H L c (supers_of H c))) f (written_supers c (supers_of H c))))

  pub settled : (c : ℕ) → Under (Knowing.settled H K c) (Knowing.settled H L c)
  settled c = by_found c (Knowing.written_supers H K c (supers_of H c)) refl
