-- What is kept of single imports stays right with each further one.
use Rattle.std.proofs.Common.{◌≡◌, ℕ, Bool, true, false, List, [], ◌∷◌, ◌++◌, ◌<◌, ◌+◌, take, length, get_or, Option, Some, None, append_assoc, append-nil, refl, sym, ap, subst, ◌∙◌, arith}
use Rattle.std.specs.Prelude.{cond, not, ◌||◌, ◌&&◌, ◌==◌, if◌then◌else◌}
use Rattle.std.specs.Str.{bytes_eq}
use Rattle.std.proofs.lemmas.List.{take_more}
use Rattle.std.proofs.lemmas.Bool.Decides.{nat_tests}
use Rattle.jc_rules.proofs.Truths.{same_bytes, own_bytes}
use Rattle.jc_types.specs.Names.{named}
use Rattle.jc_declares.specs.declared.heads.Heads.{Heads}
use Rattle.jc_declares.specs.declared.heads.ImportHead.{ImportHead}
use Rattle.jc_declares.specs.Heads.{Named}
use Rattle.jc_declares.specs.Knowing.{is_some}
use Rattle.jc_declares.specs.HeadBreaks.{some_in, other_single, is_imported_twice}
use Rattle.jc_declares.specs.Looking.{Found, single_of, singles, imported}
use Rattle.jc_name_index.proofs.SpacesNoted.{or_next, named_joined, or_none as or_nothing}
use Rattle.jc_name_rules.specs.declared.singles.Singles.{Singles}
use Rattle.jc_name_rules.specs.Singles.{AreSingles, other_in, other_by, with_single, with_first_or, with_entries, is_twice_among}

pub some_in-append : {X : Type 0} (test : X → Bool) (xs ys : List X) → some_in test (xs ++ ys) ≡ some_in test xs || some_in test ys
some_in-append test [] ys = refl
some_in-append test (x ∷ xs) ys = ap (λ b. test x || b) (some_in-append test xs ys) ∙ or-assoc (test x) (some_in test xs) (some_in test ys)
  where
    or-assoc : (a b c : Bool) → a || (b || c) ≡ (a || b) || c
    or-assoc true b c = refl
    or-assoc false b c = refl

-- another single import among imports is another type among what they import
pub other_single_told : (H : Heads) (n : List ℕ) (c : ℕ) (is : List ImportHead) → other_single H n c is ≡ other_in n c (singles H is)
other_single_told H n c [] = refl
other_single_told H n c (i ∷ is) =
    ap (λ b. some_in (λ (e : List ℕ × ℕ). bytes_eq e.0 n && not (e.1 == c)) (single_of i (imported H i)) || b) (other_single_told H n c is)
    ∙ sym (some_in-append (λ (e : List ℕ × ℕ). bytes_eq e.0 n && not (e.1 == c)) (single_of i (imported H i)) (singles H is))

pub singles-append : (H : Heads) (is js : List ImportHead) → singles H (is ++ js) ≡ singles H is ++ singles H js
singles-append H [] js = refl
singles-append H (i ∷ is) js = ap (λ (es : Named). single_of i (imported H i) ++ es) (singles-append H is js) ∙ sym (append_assoc (single_of i (imported H i)) (singles H is) (singles H js))

bytes_turned : (m n : List ℕ) (b : Bool) → bytes_eq m n ≡ b → bytes_eq n m ≡ b
bytes_turned m n true e = subst (λ (k : List ℕ). bytes_eq n k ≡ true) (sym (same_bytes m n e)) (own_bytes n)
bytes_turned m n false e = turned (bytes_eq n m) refl
  where
    turned : (b : Bool) → bytes_eq n m ≡ b → bytes_eq n m ≡ false
    turned false f = f
    turned true f = absurd (contra (subst (λ (k : List ℕ). bytes_eq k n ≡ false) (sym (same_bytes n m f)) e))
      where
        contra : bytes_eq n n ≡ false → ⊥
        contra g = (cc (own_bytes n))

named_one : (b : Bool) (m n : List ℕ) (c : ℕ) → bytes_eq m n ≡ b → named m ((n, c) ∷ []) ≡ (if b then Some c else None)
named_one b m n c e = ap (λ (x : Bool). if x then Some c else None) e

-- a name behind others is found where it isn't among them
named_more : (m n : List ℕ) (c : ℕ) (xs : Named) (b : Bool) → bytes_eq m n ≡ b → named m (xs ++ (n, c) ∷ []) ≡ or_next (named m xs) (if b then Some c else None)
named_more m n c xs b e = named_joined m xs ((n, c) ∷ []) ∙ ap (or_next (named m xs)) (named_one b m n c e)

named_besides : (m n : List ℕ) (c : ℕ) (xs : Named) → bytes_eq m n ≡ false → named m (xs ++ (n, c) ∷ []) ≡ named m xs
named_besides m n c xs e = named_more m n c xs false e ∙ or_nothing (named m xs)

named_there : (m n : List ℕ) (c d : ℕ) (xs : Named) → named n xs ≡ Some d → (b : Bool) → bytes_eq m n ≡ b → named m (xs ++ (n, c) ∷ []) ≡ named m xs
named_there m n c d xs f false e = named_besides m n c xs e
named_there m n c d xs f true e =
    let g : named m xs ≡ Some d = ap (λ k. named k xs) (same_bytes m n e) ∙ f in
    named_more m n c xs true e ∙ ap (λ o. or_next o (Some c)) g ∙ sym g

module _ (es : Named) (s : Singles) (n : List ℕ) (c : ℕ) (h : AreSingles es s) where
  -- ---- first types

  firsts_kept : (m : List ℕ) (d : ℕ) (t : Bool) → named n s.firsts ≡ Some d → named m (cond t s (record s { several = s.several ++ (n, c) ∷ [] })).firsts ≡ named m (es ++ (n, c) ∷ [])
  firsts_kept m d true f = h.firsts m ∙ sym (named_there m n c d es (sym (h.firsts n) ∙ f) (bytes_eq m n) refl)
  firsts_kept m d false f = h.firsts m ∙ sym (named_there m n c d es (sym (h.firsts n) ∙ f) (bytes_eq m n) refl)

  firsts_step : (m : List ℕ) (o : Option ℕ) → named n s.firsts ≡ o → named m (with_first_or o n c s).firsts ≡ named m (es ++ (n, c) ∷ [])
  firsts_step m None f = named_joined m s.firsts ((n, c) ∷ []) ∙ ap (λ o. or_next o (named m ((n, c) ∷ []))) (h.firsts m) ∙ sym (named_joined m es ((n, c) ∷ []))
  firsts_step m (Some d) f = firsts_kept m d ((d == c) || is_some (named n s.several)) f

  -- ---- several types

  besides_kept : (m : List ℕ) (k : ℕ) (t : Bool) → bytes_eq m n ≡ false
      → other_by (named m (cond t s (record s { several = s.several ++ (n, c) ∷ [] })).firsts) (is_some (named m (cond t s (record s { several = s.several ++ (n, c) ∷ [] })).several)) k ≡ other_in m k es
  besides_kept m k true e = h.several m k
  besides_kept m k false e = ap (λ (o : Option ℕ). other_by (named m s.firsts) (is_some o) k) (named_besides m n c s.several e) ∙ h.several m k

  besides : (m : List ℕ) (k : ℕ) (o : Option ℕ) → bytes_eq m n ≡ false → other_by (named m (with_first_or o n c s).firsts) (is_some (named m (with_first_or o n c s).several)) k ≡ other_in m k es
  besides m k None e = ap (λ (o : Option ℕ). other_by o (is_some (named m s.several)) k) (named_besides m n c s.firsts e) ∙ h.several m k
  besides m k (Some d) e = besides_kept m k ((d == c) || is_some (named n s.several)) e

  there_kept : (k d : ℕ) (sv same : Bool) → named n s.firsts ≡ Some d → is_some (named n s.several) ≡ sv → (d == c) ≡ same
      → other_by (named n (cond (same || sv) s (record s { several = s.several ++ (n, c) ∷ [] })).firsts) (is_some (named n (cond (same || sv) s (record s { several = s.several ++ (n, c) ∷ [] })).several)) k
      ≡ other_in n k es || not (c == k)
  there_kept k d sv true f g e =
      ap (λ o. other_by o (is_some (named n s.several)) k) f ∙ ap (λ b. b || not (d == k)) g
      ∙ both_same sv d c k e
      ∙ ap (λ b. (b || not (d == k)) || not (c == k)) (sym g)
      ∙ ap (λ b. b || not (c == k)) (ap (λ o. other_by o (is_some (named n s.several)) k) (sym f) ∙ h.several n k)
    where
      both_same : (sv : Bool) (d c k : ℕ) → (d == c) ≡ true → sv || not (d == k) ≡ (sv || not (d == k)) || not (c == k)
      both_same true d c k e = refl
      both_same false d c k e = grind (arith, nat_tests)
  there_kept k d true false f g e =
      ap (λ o. other_by o (is_some (named n s.several)) k) f ∙ ap (λ b. b || not (d == k)) g
      ∙ ap (λ b. (b || not (d == k)) || not (c == k)) (sym g)
      ∙ ap (λ b. b || not (c == k)) (ap (λ o. other_by o (is_some (named n s.several)) k) (sym f) ∙ h.several n k)
  there_kept k d false false f g e =
      ap (λ o. other_by o (is_some (named n (s.several ++ (n, c) ∷ []))) k) f
      ∙ ap (λ b. b || not (d == k)) (now_several (named n s.several) g)
      ∙ not_both d c k e
      ∙ ap (λ b. (b || not (d == k)) || not (c == k)) (sym g)
      ∙ ap (λ b. b || not (c == k)) (ap (λ o. other_by o (is_some (named n s.several)) k) (sym f) ∙ h.several n k)
    where
      now_several : (o : Option ℕ) → is_some o ≡ false → is_some (named n (s.several ++ (n, c) ∷ [])) ≡ true
      now_several o g = ap is_some (named_more n n c s.several true (own_bytes n)) ∙ some_next (named n s.several)
        where
          some_next : (o : Option ℕ) → is_some (or_next o (Some c)) ≡ true
          some_next None = refl
          some_next (Some x) = refl

      not_both : (d c k : ℕ) → (d == c) ≡ false → true ≡ (false || not (d == k)) || not (c == k)
      not_both d c k e = grind (arith, nat_tests)

  there : (k : ℕ) (o : Option ℕ) → named n s.firsts ≡ o → other_by (named n (with_first_or o n c s).firsts) (is_some (named n (with_first_or o n c s).several)) k ≡ other_in n k es || not (c == k)
  there k None f =
      ap (λ o. other_by o (is_some (named n s.several)) k) (named_more n n c s.firsts true (own_bytes n) ∙ ap (λ o. or_next o (Some c)) f)
      ∙ ap (λ b. b || not (c == k)) (ap (λ o. other_by o (is_some (named n s.several)) k) (sym f) ∙ h.several n k)
  there k (Some d) f = there_kept k d (is_some (named n s.several)) (d == c) f refl refl

  or_false : (b : Bool) → b || false ≡ b
  or_false true = refl
  or_false false = refl

  several_step : (m : List ℕ) (k : ℕ) (b : Bool) → bytes_eq m n ≡ b → other_by (named m (with_single n c s).firsts) (is_some (named m (with_single n c s).several)) k ≡ other_in m k (es ++ (n, c) ∷ [])
  several_step m k false e =
      besides m k (named n s.firsts) e ∙ sym (or_false (other_in m k es))
      ∙ ap (λ b. other_in m k es || ((b && not (c == k)) || false)) (sym (bytes_turned m n false e))
      ∙ sym (some_in-append (λ (e : List ℕ × ℕ). bytes_eq e.0 m && not (e.1 == k)) es ((n, c) ∷ []))
  several_step m k true e =
      ap (λ j. other_by (named j (with_single n c s).firsts) (is_some (named j (with_single n c s).several)) k) (same_bytes m n e)
      ∙ there k (named n s.firsts) refl
      ∙ ap (λ j. other_in j k es || not (c == k)) (sym (same_bytes m n e))
      ∙ ap (λ b. other_in m k es || b) (sym (or_false (not (c == k))))
      ∙ ap (λ b. other_in m k es || ((b && not (c == k)) || false)) (sym (bytes_turned m n true e))
      ∙ sym (some_in-append (λ (e : List ℕ × ℕ). bytes_eq e.0 m && not (e.1 == k)) es ((n, c) ∷ []))

  pub single_step : AreSingles (es ++ (n, c) ∷ []) (with_single n c s)
  single_step = record { firsts = λ m. firsts_step m (named n s.firsts) refl; several = λ m k. several_step m k (bytes_eq m n) refl }

pub entries_step : (es fs : Named) (s : Singles) → AreSingles es s → AreSingles (es ++ fs) (with_entries fs s)
entries_step es [] s h = subst (λ (x : Named). AreSingles x s) (sym (append-nil es)) h
entries_step es (f ∷ fs) s h =
    subst (λ (x : Named). AreSingles x (with_entries (f ∷ fs) s)) (append_assoc es (f ∷ []) fs) (entries_step (es ++ f ∷ []) fs (with_single f.0 f.1 s) (single_step es s f.0 f.1 h))

pub with_entries-append : (xs ys : Named) (s : Singles) → with_entries (xs ++ ys) s ≡ with_entries ys (with_entries xs s)
with_entries-append [] ys s = refl
with_entries-append (x ∷ xs) ys s = with_entries-append xs ys (with_single x.0 x.1 s)

-- from none on
pub all_entries : (fs : Named) (s t : Singles) → AreSingles [] s → t ≡ with_entries fs s → AreSingles fs t
all_entries fs s t h e = subst (λ (x : Singles). AreSingles fs x) (sym e) (entries_step [] fs s h)

-- with one import more
pub one_more : (H : Heads) (is : List ImportHead) (i : ImportHead) (s t : Singles) → AreSingles (singles H is) s → t ≡ with_entries (single_of i (imported H i)) s → AreSingles (singles H (is ++ i ∷ [])) t
one_more H is i s t h e =
    subst (λ (x : Singles). AreSingles (singles H (is ++ i ∷ [])) x) (sym e)
    (subst (λ (x : Named). AreSingles x (with_entries (single_of i (imported H i)) s)) (sym (singles-append H is (i ∷ []) ∙ ap (λ (x : Named). singles H is ++ x) (append-nil (single_of i (imported H i)))))
    (entries_step (singles H is) (single_of i (imported H i)) s h))

some_in_same : {X : Type 0} (f g : X → Bool) (xs : List X) → ((x : X) → f x ≡ g x) → some_in f xs ≡ some_in g xs
some_in_same f g [] h = refl
some_in_same f g (x ∷ xs) h = ap (λ b. b || some_in f xs) (h x) ∙ ap (λ b. g x || b) (some_in_same f g xs h)

-- another type is imported before under the name of what an import imports
pub twice_same : (H : Heads) (is : List ImportHead) (k : ℕ) (i : ImportHead) (f : Found) → f ≡ imported H i → is_twice_among (singles H (take k is)) (single_of i f) ≡ is_imported_twice H is k i
twice_same H is k i f e =
    ap (λ (x : Found). is_twice_among (singles H (take k is)) (single_of i x)) e
    ∙ some_in_same (λ (e : List ℕ × ℕ). other_in e.0 e.1 (singles H (take k is))) (λ (e : List ℕ × ℕ). other_single H e.0 e.1 (take k is)) (single_of i (imported H i)) (λ e. sym (other_single_told H e.0 e.1 (take k is)))

-- with the import of a number
pub next_import : (H : Heads) (is : List ImportHead) (k : ℕ) (i : ImportHead) (f : Found) (s t : Singles) → k < length is → i ≡ get_or is k i → f ≡ imported H i → AreSingles (singles H (take k is)) s
    → t ≡ with_entries (single_of i f) s → AreSingles (singles H (take (k + 1) is)) t
next_import H is k i f s t within here e h made =
    subst (λ (l : List ImportHead). AreSingles (singles H l) t) (sym (take_more is k i within ∙ ap (λ (x : ImportHead). take k is ++ x ∷ []) (sym here)))
    (one_more H (take k is) i s t h (made ∙ ap (λ (x : Found). with_entries (single_of i x) s) e))

pub ruleset entries = (all_entries, with_entries-append)
