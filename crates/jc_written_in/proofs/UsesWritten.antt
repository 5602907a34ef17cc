-- The types that bodies write, in the table.
use Rattle.std.proofs.Common.{◌≡◌, inl, inr, ◌||◌, ℕ, suc, List, [], ◌∷◌, ◌++◌, refl, sym, ap, subst}
use Rattle.jc_rules.specs.declared.rule.Refusal.{Refusal}
use Rattle.jc_tree.specs.declared.types.TypeTree.{TypeTree}
use Rattle.jc_types.specs.Breaks.{IsOf}
use Rattle.jc_types.specs.declared.scopes.Use.{Use}
use Rattle.jc_declares.specs.declared.heads.Heads.{Heads}
use Rattle.jc_declares.specs.Breaks.{BreaksNames, in_file, wrotes_broken, use_broken, use_site_breaks, local_modifier_breaks, site_breaks}
use Rattle.jc_declares.specs.HeadBreaks.{class_file, of_each, head_breaks}
use Rattle.jc_declares.specs.Heads.{heads_of, is_interface}
use Rattle.jc_declares.specs.Knowing.{known}
use Rattle.jc_declares.specs.Looking.{Knowledge}
use Rattle.jc_declares.specs.Making.{class_id, written_at, part_at, kind_of_part, table_of, use_decls, use_with}
use Rattle.jc_declares.specs.Readings.{reading_of, wrote_in_use, wrote_in_part}
use Rattle.jc_declares.specs.Sites.{OfType, Sites, UseSite, BodyPart}
use Rattle.jc_declares.specs.Writing.{Reading, Wrote, Broken}
use Rattle.jc_written_in.specs.Bodies.{IsAmong, spot_of, use_of}
use Rattle.jc_written_in.specs.Writings.{rules_in, wrote_in}

among_left : {X : Type 0} (x : X) (xs ys : List X) → IsAmong x xs → IsAmong x (xs ++ ys)
among_left x [] ys o = absurd o
among_left x (y ∷ xs) ys (inl e) = inl e
among_left x (y ∷ xs) ys (inr o) = inr (among_left x xs ys o)

among_right : {X : Type 0} (x : X) (xs ys : List X) → IsAmong x ys → IsAmong x (xs ++ ys)
among_right x [] ys o = o
among_right x (y ∷ xs) ys o = inr (among_right x xs ys o)

of_left : (b : Refusal) (xs ys : List Refusal) → IsOf b xs → IsOf b (xs ++ ys)
of_left b [] ys o = absurd o
of_left b (x ∷ xs) ys (inl e) = inl e
of_left b (x ∷ xs) ys (inr o) = inr (of_left b xs ys o)

of_right : (b : Refusal) (xs ys : List Refusal) → IsOf b ys → IsOf b (xs ++ ys)
of_right b [] ys o = o
of_right b (x ∷ xs) ys o = inr (of_right b xs ys o)

of_file_left : (b : Refusal) (file : ℕ) (xs ys : List Broken) → IsOf b (in_file file xs) → IsOf b (in_file file (xs ++ ys))
of_file_left b file [] ys o = absurd o
of_file_left b file (x ∷ xs) ys (inl e) = inl e
of_file_left b file (x ∷ xs) ys (inr o) = inr (of_file_left b file xs ys o)

module _ (H : Heads) (K : Knowledge) where
  -- the uses of a part
  abbrev shown : UseSite → BodyPart → List Wrote → List Use
  shown u p [] = []
  shown u p (w ∷ ws) =
      record {
        class = class_id u.class;
        scope = record { 0 = u.scope };
        ty = written_at (class_file H u.class) (part_at p) 0 w;
        kind = kind_of_part p;
      }
      ∷ shown u p ws

  shown_same : (u : UseSite) (ws : List Wrote) → shown u u.part ws ≡ use_with H u ws
  shown_same u [] = refl
  shown_same u (w ∷ ws) =
      let one : Use =
      record {
        class = class_id u.class;
        scope = record { 0 = u.scope };
        ty = written_at (class_file H u.class) (part_at u.part) 0 w;
        kind = kind_of_part u.part;
      } in
      ap (λ (rest : List Use). one ∷ rest) (shown_same u ws)

  -- how the types of a site are read
  abbrev read_at : UseSite → Reading
  read_at u = reading_of H K u.scope (u.is_static || is_interface H u.class)

  -- the use of a site is the first of those of its part
  use_in : (u : UseSite) (tree : TypeTree) → u.part ≡ OfType tree → IsAmong (use_of H K u tree) (use_with H u (wrote_in_use H K u))
  use_in u tree e =
      subst (λ (l : List Use). IsAmong (use_of H K u tree) l) (shown_same u (wrote_in_part H K (read_at u) u.part))
      (subst (λ (p : BodyPart). IsAmong (use_of H K u tree) (shown u p (wrote_in_part H K (read_at u) p))) (sym e) (inl refl))

  uses_in : (us : List UseSite) (u : UseSite) (tree : TypeTree) → IsAmong u us → u.part ≡ OfType tree → IsAmong (use_of H K u tree) (use_decls H K us)
  uses_in [] u tree o e = absurd o
  uses_in (v ∷ us) u tree (inl s) e =
      among_left (use_of H K u tree) (use_with H v (wrote_in_use H K v)) (use_decls H K us)
      (subst (λ (x : UseSite). IsAmong (use_of H K u tree) (use_with H x (wrote_in_use H K x))) s (use_in u tree e))
  uses_in (v ∷ us) u tree (inr o) e =
      among_right (use_of H K u tree) (use_with H v (wrote_in_use H K v)) (use_decls H K us) (uses_in us u tree o e)

  broken_in : (u : UseSite) (tree : TypeTree) → u.part ≡ OfType tree → (b : Refusal) → IsOf b (rules_in H K (spot_of H u) tree) → IsOf b (use_broken H K u)
  broken_in u tree e b o =
      subst (λ (p : BodyPart). IsOf b (in_file (class_file H u.class) (wrotes_broken (wrote_in_part H K (read_at u) p)))) (sym e)
      (of_file_left b (class_file H u.class) (wrote_in H K (spot_of H u) tree).broken [] o)

  site_in : (k : ℕ) (us : List UseSite) (u : UseSite) (tree : TypeTree) → IsAmong u us → u.part ≡ OfType tree → (b : Refusal) → IsOf b (rules_in H K (spot_of H u) tree) → IsOf b (of_each (use_site_breaks H K) k us)
  site_in k [] u tree a e b o = absurd a
  site_in k (v ∷ us) u tree (inl s) e b o =
      of_left b (use_site_breaks H K k v) (of_each (use_site_breaks H K) (suc k) us)
      (of_right b (local_modifier_breaks (class_file H v.class) v.part) (use_broken H K v)
      (subst (λ (x : UseSite). IsOf b (use_broken H K x)) s (broken_in u tree e b o)))
  site_in k (v ∷ us) u tree (inr a) e b o =
      of_right b (use_site_breaks H K k v) (of_each (use_site_breaks H K) (suc k) us) (site_in (suc k) us u tree a e b o)

pub all_written : (S : Sites) (u : UseSite) (tree : TypeTree) → IsAmong u S.uses → u.part ≡ OfType tree → IsAmong (use_of (heads_of S) (known (heads_of S)) u tree) (table_of S).uses
all_written S u tree a e = uses_in (heads_of S) (known (heads_of S)) S.uses u tree a e

pub none_broken : (S : Sites) → ((broken : Refusal) → BreaksNames S broken → ⊥) → (u : UseSite) (tree : TypeTree) → IsAmong u S.uses → u.part ≡ OfType tree → (broken : Refusal) → IsOf broken (rules_in (heads_of S) (known (heads_of S)) (spot_of (heads_of S) u) tree) → ⊥
none_broken S unbroken u tree a e b o =
    let H : Heads = heads_of S in
    let K : Knowledge = known (heads_of S) in
    unbroken b
    (inl
    (of_right b (head_breaks H K) (site_breaks S H K) (of_right b _ (of_each (use_site_breaks H K) 0 S.uses) (site_in H K 0 S.uses u tree a e b o))))
