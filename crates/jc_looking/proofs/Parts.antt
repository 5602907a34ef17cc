-- What is seen of names of several parts.
use Rattle.std.proofs.Common.{◌≡◌, ℕ, List, [], ◌∷◌, ◌++◌, Option, Some, None, refl, sym, ap, ◌∙◌}
use Rattle.std.specs.Prelude.{codes}
use Rattle.jc_types.specs.Names.{named}
use Rattle.jc_declares.specs.declared.heads.Heads.{Heads}
use Rattle.jc_declares.specs.Heads.{types_of_package}
use Rattle.jc_declares.specs.Looking.{Meaning, AClass, AVariable, Look, Knowledge, member, with_parts, in_packages, or_longer, or_package, look_up}
use Rattle.jc_declares.specs.Knowing.{meant_class, passed, passed_in_packages, passed_or_longer, passed_all}
use Rattle.jc_looking.specs.declared.scene.Sight.{Sight}
use Rattle.jc_looking.specs.declared.scene.Sight.TheVariants as sight
use Rattle.jc_looking.specs.Sights.{seen, sight_of, parts_seen, class_or_longer, packages_seen, name_seen, class_in, passed_seen, passed_or_longer_seen, passed_packages_seen, name_passed}

module _ (H : Heads) (K : Knowledge) where
  stays_nothing : (ps : List (List ℕ)) → parts_seen H K ps sight.Nothing ≡ sight.Nothing
  stays_nothing [] = refl
  stays_nothing (p ∷ ps) = stays_nothing ps

  stays_several : (ps : List (List ℕ)) → parts_seen H K ps sight.Several ≡ sight.Several
  stays_several [] = refl
  stays_several (p ∷ ps) = stays_several ps

  stays_asking : (ps : List (List ℕ)) → parts_seen H K ps sight.Asks ≡ sight.Asks
  stays_asking [] = refl
  stays_asking (p ∷ ps) = stays_asking ps

  asked : (ps : List (List ℕ)) → seen (with_parts H K ps None) ≡ parts_seen H K ps sight.Asks
  asked [] = refl
  asked (p ∷ ps) = sym (stays_asking ps)

  lifted : (ps : List (List ℕ)) → ((ms : List Meaning) → seen (with_parts H K ps (Some ms)) ≡ parts_seen H K ps (sight_of ms)) → (o : Look)
      → seen (with_parts H K ps o) ≡ parts_seen H K ps (seen o)
  lifted ps f None = asked ps
  lifted ps f (Some ms) = f ms

  parts : (ps : List (List ℕ)) (ms : List Meaning) → seen (with_parts H K ps (Some ms)) ≡ parts_seen H K ps (sight_of ms)
  parts [] ms = refl
  parts (p ∷ ps) [] = sym (stays_nothing ps)
  parts (p ∷ ps) (AClass c ∷ []) = lifted ps (parts ps) (member H K c p)
  parts (p ∷ ps) (AVariable v ∷ []) = sym (stays_nothing ps)
  parts (p ∷ ps) (m ∷ n ∷ ms) = sym (stays_several ps)

  packages_at : (p : List ℕ) (ns : List (List ℕ)) (longer : Look) (l : Sight) (o : Option ℕ) → seen longer ≡ l
      → seen (or_longer (with_parts H K ns) longer o) ≡ class_or_longer (λ c. parts_seen H K ns (sight.Class c)) l o
  packages_at p ns longer l None e = e
  packages_at p ns longer l (Some c) e = parts ns (AClass c ∷ [])

  packages : (ns : List (List ℕ)) (p : List ℕ) → seen (in_packages H K p ns) ≡ packages_seen H K p ns
  packages [] p = refl
  packages (n ∷ ns) p = packages_at p ns _ _ (named n (types_of_package H p)) (packages ns (p ++ codes "." ++ n))

  some_name : (n : List ℕ) (ps : List (List ℕ)) (m : Meaning) (ms : List Meaning) → parts_seen H K ps (sight_of (m ∷ ms)) ≡ name_seen H K n ps (sight_of (m ∷ ms))
  some_name n ps (AClass c) [] = refl
  some_name n ps (AVariable v) [] = refl
  some_name n ps m (l ∷ ms) = refl

  name_at : (n : List ℕ) (ps : List (List ℕ)) (o : Look) → seen (or_package H K n ps o) ≡ name_seen H K n ps (seen o)
  name_at n ps None = asked ps
  name_at n ps (Some []) = packages ps n
  name_at n ps (Some (m ∷ ms)) = parts ps (m ∷ ms) ∙ some_name n ps m ms

  pub look_up_seen : (find : List ℕ → Look) (n : List ℕ) (ps : List (List ℕ)) → seen (look_up H K find n ps) ≡ name_seen H K n ps (seen (find n))
  look_up_seen find n ps = name_at n ps (find n)

  -- ---- the classes that parts name

  one_seen : (ms : List Meaning) → meant_class ms ≡ class_in (sight_of ms)
  one_seen [] = refl
  one_seen (AClass c ∷ []) = refl
  one_seen (AVariable v ∷ []) = refl
  one_seen (AClass c ∷ n ∷ ms) = refl
  one_seen (AVariable v ∷ n ∷ ms) = refl

  nothing_passed : (ps : List (List ℕ)) → passed_seen H K ps sight.Nothing ≡ []
  nothing_passed [] = refl
  nothing_passed (p ∷ ps) = nothing_passed ps

  several_passed : (ps : List (List ℕ)) → passed_seen H K ps sight.Several ≡ []
  several_passed [] = refl
  several_passed (p ∷ ps) = several_passed ps

  asking_passed : (ps : List (List ℕ)) → passed_seen H K ps sight.Asks ≡ []
  asking_passed [] = refl
  asking_passed (p ∷ ps) = asking_passed ps

  passed_asked : (ps : List (List ℕ)) → passed H K ps None ≡ passed_seen H K ps sight.Asks
  passed_asked [] = refl
  passed_asked (p ∷ ps) = sym (asking_passed ps)

  passed_lifted : (ps : List (List ℕ)) → ((ms : List Meaning) → passed H K ps (Some ms) ≡ passed_seen H K ps (sight_of ms)) → (o : Look)
      → passed H K ps o ≡ passed_seen H K ps (seen o)
  passed_lifted ps f None = passed_asked ps
  passed_lifted ps f (Some ms) = f ms

  passed_parts : (ps : List (List ℕ)) (ms : List Meaning) → passed H K ps (Some ms) ≡ passed_seen H K ps (sight_of ms)
  passed_parts [] ms = one_seen ms
  passed_parts (p ∷ ps) [] = sym (nothing_passed ps)
  passed_parts (p ∷ ps) (AClass c ∷ []) = ap (λ xs. c ∷ xs) (passed_lifted ps (passed_parts ps) (member H K c p))
  passed_parts (p ∷ ps) (AVariable v ∷ []) = sym (nothing_passed ps)
  passed_parts (p ∷ ps) (m ∷ n ∷ ms) = sym (several_passed ps)

  passed_at : (ns : List (List ℕ)) (longer l : List ℕ) (o : Option ℕ) → longer ≡ l
      → passed_or_longer (passed H K ns) longer o ≡ passed_or_longer_seen (λ c. passed_seen H K ns (sight.Class c)) l o
  passed_at ns longer l None e = e
  passed_at ns longer l (Some c) e = passed_parts ns (AClass c ∷ [])

  passed_packages : (ns : List (List ℕ)) (p : List ℕ) → passed_in_packages H K p ns ≡ passed_packages_seen H K p ns
  passed_packages [] p = refl
  passed_packages (n ∷ ns) p = passed_at ns _ _ (named n (types_of_package H p)) (passed_packages ns (p ++ codes "." ++ n))

  some_passed : (n : List ℕ) (ps : List (List ℕ)) (m : Meaning) (ms : List Meaning) → passed_seen H K ps (sight_of (m ∷ ms)) ≡ name_passed H K n ps (sight_of (m ∷ ms))
  some_passed n ps (AClass c) [] = refl
  some_passed n ps (AVariable v) [] = refl
  some_passed n ps m (l ∷ ms) = refl

  pub passed_all_seen : (n : List ℕ) (ps : List (List ℕ)) (o : Look) → passed_all H K n ps o ≡ name_passed H K n ps (seen o)
  passed_all_seen n ps None = sym (asking_passed ps)
  passed_all_seen n ps (Some []) = passed_packages ps n
  passed_all_seen n ps (Some (m ∷ ms)) = passed_parts ps (m ∷ ms) ∙ some_passed n ps m ms
