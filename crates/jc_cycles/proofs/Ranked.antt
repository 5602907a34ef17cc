-- A class that is known doesn't need itself: what it needs was known sooner.
use Rattle.std.proofs.Common.{arith, ◌≡◌, ◌<◌, ℕ, zero, suc, ◌&&◌, Bool, true, false, Option, Some, None, List, [], ◌∷◌, length, slice_get, refl, sym, ap, subst}
use Rattle.std.specs.Prelude.{◌==◌, ◌||◌}
use Rattle.std.proofs.lemmas.Grind.{common_steps}
use Rattle.jc_rules.proofs.Truths.{and_second, and_first}
use Rattle.jc_declares.specs.declared.heads.Heads.{Heads}
use Rattle.jc_declares.specs.Heads.{Named, supers_of}
use Rattle.jc_declares.specs.Looking.{Knowledge, has}
use Rattle.jc_declares.specs.Knowing.{is_some, all_known, if_all, needs, written_supers, settled_by, settled, rounds, known, Needs, needed, further}
use Rattle.jc_settling.proofs.Under.{needs_same}
use Rattle.jc_settling.proofs.Rounds.{all_known as every_round}

record Opened (H : Heads) (K : Knowledge) (c : ℕ) : Type 0 where
  all : all_known K (needs H K c) ≡ true
  supers : List ℕ
  found : written_supers H K c (supers_of H c) ≡ Some supers

module _ (H : Heads) (K : Knowledge) (c : ℕ) (k : Named) where
  by_supers : (o : Option (List ℕ)) → written_supers H K c (supers_of H c) ≡ o → all_known K (needs H K c) ≡ true → settled_by H K c o ≡ Some k → Opened H K c
  by_supers None f r e = cc
  by_supers (Some ss) f r e = record { all = r; supers = ss; found = f }

  by_all : (b : Bool) → (is_some (slice_get H.classes c) && all_known K (needs H K c)) ≡ b → if_all b (settled_by H K c (written_supers H K c (supers_of H c))) ≡ Some k → Opened H K c
  by_all false r e = cc
  by_all true r e = by_supers (written_supers H K c (supers_of H c)) refl (and_second (is_some (slice_get H.classes c)) _ r) e

  opened : settled H K c ≡ Some k → Opened H K c
  opened e = by_all (is_some (slice_get H.classes c) && all_known K (needs H K c)) refl e

told : (o : Option Named) → is_some o ≡ true → (k : Named) × (o ≡ Some k)
told None e = cc
told (Some k) e = (k, refl)

each_known : (K : Knowledge) (cs : List ℕ) (d : ℕ) → all_known K cs ≡ true → has d cs ≡ true → is_some (K d) ≡ true
each_known K [] d e m = cc
each_known K (c ∷ cs) d e m = by (d == c) refl m (each_known K cs d (and_second _ _ e))
  where
    equal : (a b : ℕ) → (a == b) ≡ true → a ≡ b
    equal a b e = grind (arith, common_steps)

    by : (b : Bool) → (d == c) ≡ b → (b || has d cs) ≡ true → (has d cs ≡ true → is_some (K d) ≡ true) → is_some (K d) ≡ true
    by true s m f = subst (λ x. is_some (K x) ≡ true) (sym (equal d c s)) (and_first _ _ e)
    by false s m f = f m

module _ (H : Heads) where
  Sooner : ℕ → ℕ → Type 0
  Sooner n d = (m : ℕ) × (m < n) × (j : Named) × (rounds H m d ≡ Some j)

  need_sooner : (n c d : ℕ) (k : Named) → rounds H n c ≡ Some k → has d (needs H (known H) c) ≡ true → Sooner n d
  unfolding Sooner
  need_sooner zero c d k e m = cc
  need_sooner (suc n) c d k e m =
      let o = opened H (rounds H n) c k e in
      let same : needs H (known H) c ≡ needs H (rounds H n) c = needs_same H (rounds H n) (known H) (every_round H n) c o.supers o.found in
      let j = told (rounds H n d) (each_known (rounds H n) (needs H (rounds H n) c) d o.all (subst (λ (cs : List ℕ). has d cs ≡ true) same m)) in
      (n, omega arith, j.0, j.1)

  reach_sooner : (n c d : ℕ) (k : Named) → rounds H n c ≡ Some k → Needs H c d → Sooner n d
  unfolding Sooner
  reach_sooner n c d k e (needed b i) = need_sooner n c b k e i
  reach_sooner n c d k e (further b x r i) =
      let s = reach_sooner n c b k e r in
      let t = need_sooner s.0 b x s.2 s.3 i in
      (t.0, omega (arith, t.1, s.1), t.2, t.3)

  descend : (b n c : ℕ) (k : Named) → n < b → rounds H n c ≡ Some k → Needs H c c → ⊥
  unfolding Sooner
  descend zero n c k l e r = absurd (omega arith)
  descend (suc b) n c k l e r = let s = reach_sooner n c c k e r in descend b s.0 c s.2 (omega (arith, s.1)) s.3 r

  pub known_apart : (c : ℕ) → is_some (known H c) ≡ true → Needs H c c → ⊥
  unfolding known
  known_apart c e r = let k = told (known H c) e in descend (suc (length H.classes)) (length H.classes) c k.0 (omega arith) k.1 r

  some_is : (o : Option Named) (j : Named) → o ≡ Some j → is_some o ≡ true
  some_is o j e = ap is_some e

  -- what a known class needs is known
  pub known_needs : (c d : ℕ) → is_some (known H c) ≡ true → has d (needs H (known H) c) ≡ true → is_some (known H d) ≡ true
  unfolding Sooner known
  known_needs c d e m =
      let k = told (known H c) e in
      let s = need_sooner (length H.classes) c d k.0 k.1 m in
      some_is (known H d) s.2 (((every_round H s.0).of d).at s.2 s.3)
