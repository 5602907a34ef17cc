-- The index has the first class of each binary name.
use Rattle.std.proofs.Common.{◌≡◌, ℕ, suc, Bool, true, false, Option, Some, None, List, [], ◌∷◌, ◌++◌, map, if◌then◌else◌, add-one, refl, sym, ap, ◌∙◌}
use Rattle.std.specs.Prelude.{cond}
use Rattle.std.specs.Str.{bytes_eq}
use Rattle.std.proofs.lemmas.Slice.Eq.{bytes_eq-Decides}
use Rattle.jc_types.specs.Names.{named}
use Rattle.jc_types.specs.Tables.{first_named}
use Rattle.jc_declares.specs.declared.heads.Heads.{Heads}
use Rattle.jc_declares.specs.Heads.{Named, heads_of, class_head, binary_of}
use Rattle.jc_declares.specs.Knowing.{known, is_some}
use Rattle.jc_declares.specs.Looking.{Knowledge}
use Rattle.jc_declares.specs.Making.{class_decl, first_names, binaries_from, numbered, table_of}
use Rattle.jc_declares.specs.Sites.{Sites, ClassSite}

abbrev or_else : Option ℕ → Option ℕ → Option ℕ
or_else None o = o
or_else (Some i) o = Some i

choose : (b : Bool) (i : ℕ) (o p : Option ℕ) → or_else (if b then Some i else o) p ≡ (if b then Some i else or_else o p)
choose true i o p = refl
choose false i o p = refl

named_joined : (n : List ℕ) (xs ys : Named) → named n (xs ++ ys) ≡ or_else (named n xs) (named n ys)
named_joined n [] ys = refl
named_joined n (x ∷ xs) ys = ap (λ o. if bytes_eq n x.0 then Some x.1 else o) (named_joined n xs ys) ∙ sym (choose (bytes_eq n x.0) x.1 (named n xs) (named n ys))

else_assoc : (a b c : Option ℕ) → or_else (or_else a b) c ≡ or_else a (or_else b c)
else_assoc None b c = refl
else_assoc (Some i) b c = refl

one_named : (n : List ℕ) (e : List ℕ × ℕ) (es : Named) → or_else (named n (e ∷ [])) (named n es) ≡ named n (e ∷ es)
one_named n e es = choose (bytes_eq n e.0) e.1 None (named n es)

-- a name that is there is not asked for behind it
there : (n : List ℕ) (e : List ℕ × ℕ) (found es : Named) (o : Option ℕ) (b : Bool) → bytes_eq n e.0 ≡ b → (b ≡ true → n ≡ e.0) → named e.0 found ≡ o → is_some o ≡ true
    → or_else (named n found) (named n es) ≡ or_else (named n found) (if b then Some e.1 else named n es)
there n e found es o false is told at some = refl
there n e found es (Some i) true is told at some =
    let here : named n found ≡ Some i = ap (λ m. named m found) (told refl) ∙ at in
    ap (λ x. or_else x (named n es)) here ∙ sym (ap (λ x. or_else x (Some e.1)) here)
there n e found es None true is told at some = cc

added : (n : List ℕ) (e : List ℕ × ℕ) (found es : Named) (b : Bool) → is_some (named e.0 found) ≡ b
    → or_else (named n (cond b found (found ++ e ∷ []))) (named n es) ≡ or_else (named n found) (named n (e ∷ es))
added n e found es true some = there n e found es (named e.0 found) (bytes_eq n e.0) refl (bytes_eq-Decides n e.0).0 refl some
added n e found es false some =
    ap (λ o. or_else o (named n es)) (named_joined n found (e ∷ [])) ∙ else_assoc (named n found) (named n (e ∷ [])) (named n es) ∙ ap (or_else (named n found)) (one_named n e es)

firsts_named : (n : List ℕ) (found es : Named) → named n (first_names found es) ≡ or_else (named n found) (named n es)
firsts_named n found [] = none_behind (named n found)
  where
    none_behind : (o : Option ℕ) → o ≡ or_else o None
    none_behind None = refl
    none_behind (Some i) = refl
firsts_named n found (e ∷ es) =
    firsts_named n (cond (is_some (named e.0 found)) found (found ++ e ∷ [])) es ∙ added n e found es (is_some (named e.0 found)) refl

counted : (H : Heads) (K : Knowledge) (n : List ℕ) (i : ℕ) (ss : List ClassSite) → named n (binaries_from H i (map class_head ss)) ≡ first_named n i (numbered (class_decl H K) i ss)
counted H K n i [] = refl
counted H K n i (s ∷ ss) =
    ap (λ o. if bytes_eq n (binary_of H i) then Some i else o)
    (counted H K n (suc i) ss ∙ ap (λ k. first_named n k (numbered (class_decl H K) (suc i) ss)) (sym (add-one i)))

pub indexed : (S : Sites) (n : List ℕ) → named n (table_of S).index ≡ first_named n 0 (table_of S).classes
indexed S n = firsts_named n [] (binaries_from (heads_of S) 0 (heads_of S).classes) ∙ counted (heads_of S) (known (heads_of S)) n 0 S.classes
