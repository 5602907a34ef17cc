-- Loops that read parts, each told by the one before it and by whether that ends with a touching `>`, turn by turn.
use Rattle.std.proofs.Common.{◌≡◌, ℕ, zero, suc, ◌<◌, ◌≤◌, min, Bool, List, [], ◌∷◌, ◌++◌, map, length, append_assoc, append-nil, refl, sym, ap, ◌∙◌, arith}
use Rattle.jc_lexer.specs.declared.token.Token.{Token}
use Rattle.jc_reading.specs.Reading.{Read, Found, Stopped, Run, noting, becoming, as_new}
use Rattle.jc_reading.specs.Growing.{one_then}
use Rattle.jc_reading.proofs.Steps.{within_becoming, within_noting, within_more}
use Rattle.jc_reading.proofs.Turns.{noting_far}
use Rattle.jc_reading.specs.Reach.{Within, GoesAhead}
use Rattle.jc_reading.proofs.Nears.{ahead_near}
use Rattle.jc_expr_laws.specs.CompareReading.{touched_before, links, linked}

module _ {V P Q : Type 0} (f : P → Q) (make : V → P → V) (part : V → Bool → Run P) where
  -- what is read from here on, behind a list that is read already
  abbrev pub link_resume : List Q → ℕ → Read (List P) → Read (List Q)
  link_resume list left m = noting left (becoming (λ more. list ++ map f more) m)

  -- the loop stands before the tokens that are left, with room for as many turns
  abbrev pub LinkResumes : Read (List Q) → List Q → ℕ → V → Bool → List Token → Type 0
  LinkResumes whole list left v touched rest = (n : ℕ) × (length rest ≤ n) × (whole ≡ link_resume list left (links n make part v touched rest))

  link_noting : (list : List Q) (left l : ℕ) (p : P) (m : Read (List P)) → link_resume list left (noting l (becoming (λ more. p ∷ more) m)) ≡ link_resume (list ++ f p ∷ []) (min left l) m
  link_noting list left l p (Found more r k) =
      ap (λ (v : List Q). Found v r (min left (min l k))) (sym (append_assoc list (f p ∷ []) (map f more))) ∙ (let e : min left (min l k) ≡ min (min left l) k = omega arith in ap (λ j. Found ((list ++ f p ∷ []) ++ map f more) r j) e)
  link_noting list left l p (Stopped k) = let e : min left (min l k) ≡ min (min left l) k = omega arith in ap (λ j. Stopped j) e

  pub link_next : (whole : Read (List Q)) (list : List Q) (left : ℕ) (v : V) (touched : Bool) (rest q : List Token) (p : P) (l : ℕ) → LinkResumes whole list left v touched rest → part v touched rest ≡ Found p q l → length q < length rest → LinkResumes whole (list ++ f p ∷ []) (min left l) (make v p) (touched_before rest (length q)) q
  unfolding links
  link_next whole list left v touched rest q p l (zero, e, s) r lt = absurd (omega (arith, e, lt))
  link_next whole list left v touched rest q p l (suc n, e, s) r lt =
      (n, omega (arith, e, lt), s ∙ ap (λ (x : Read P). link_resume list left (one_then rest x (λ p q. links n make part (make v p) (touched_before rest (length q)) q))) r ∙ link_noting list left l p (links n make part (make v p) (touched_before rest (length q)) q))

  pub link_stop : (whole : Read (List Q)) (list : List Q) (left : ℕ) (v : V) (touched : Bool) (rest : List Token) (l : ℕ) → LinkResumes whole list left v touched rest → part v touched rest ≡ Stopped l → l ≤ length rest → whole ≡ Found list rest (min left l)
  unfolding links
  link_stop whole list left v touched rest l (zero, e, s) r w =
      let k : length rest ≡ l = omega (arith, e, w) in
      s ∙ ap (λ (x : List Q). Found x rest (min left (length rest))) (append-nil list) ∙ ap (λ j. Found list rest (min left j)) k
  link_stop whole list left v touched rest l (suc n, e, s) r w =
      s ∙ ap (λ (x : Read P). link_resume list left (one_then rest x (λ p q. links n make part (make v p) (touched_before rest (length q)) q))) r ∙ ap (λ (x : List Q). Found x rest (min left l)) (append-nil list)

  mapped_same : (m : Read (List P)) → becoming (map f) m ≡ becoming (λ more. [] ++ map f more) m
  mapped_same (Found a r l) = refl
  mapped_same (Stopped l) = refl

  module _ (steps : (v : V) (touched : Bool) → GoesAhead (part v touched)) where
    within_link : (n : ℕ) (v : V) (ts : List Token) (m : Read P) → Within (length ts) m → ((w : V) (b : Bool) (q : List Token) → Within (length q) (links n make part w b q)) → Within (length ts) (one_then ts m (λ p q. links n make part (make v p) (touched_before ts (length q)) q))
    within_link n v ts (Found p q l) w more =
        let k = links n make part (make v p) (touched_before ts (length q)) q in
        within_noting l (length ts) (becoming (λ list. p ∷ list) k) (within_more (length q) (length ts) _ w.1 (within_becoming (length q) (λ list. p ∷ list) k (more (make v p) (touched_before ts (length q)) q)))
    within_link n v ts (Stopped l) w more = (w, omega arith)

    within_links : (n : ℕ) (v : V) (touched : Bool) (ts : List Token) → Within (length ts) (links n make part v touched ts)
    unfolding links
    within_links zero v touched ts = (omega arith, omega arith)
    within_links (suc n) v touched ts = within_link n v ts (part v touched ts) (ahead_near (part v touched) (steps v touched) ts) (within_links n)

    pub link_first : (v : V) (touched : Bool) (ts : List Token) → LinkResumes (as_new (map f) (linked make part v touched) ts) [] (length ts) v touched ts
    link_first v touched ts =
        let m = links (length ts) make part v touched ts in
        (length ts, omega arith, mapped_same m ∙ noting_far (length ts) (becoming (λ more. [] ++ map f more) m) (within_becoming (length ts) (λ more. [] ++ map f more) m (within_links (length ts) v touched ts)))
