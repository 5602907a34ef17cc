-- Names in numbered groups.
use Rattle.std.proofs.Common.{◌≡◌, ◌≢◌, ◌⊎◌, inl, inr, ℕ, zero, suc, ◌+◌, ◌<◌, Bool, true, false, cond, Option, Some, None, List, [], ◌∷◌, ◌++◌, length, slice_get, slice_set, if◌then◌else◌, arith, refl, sym, ap, subst, ◌∙◌, append_assoc, length-append}
use Rattle.std.specs.Str.{bytes_eq}
use Rattle.jc_rules.proofs.Truths.{same_bytes, own_bytes, other_bytes}
use Rattle.jc_types.specs.declared.ids.MethodId.{MethodId}
use Rattle.jc_types.specs.declared.table.Table.{Table}
use Rattle.jc_types.specs.Names.{named}
use Rattle.jc_members.specs.Named.{IsNumbered, group_at, group_in, ids_in, if_named, named_from, pushed_at, pushed_in}

-- ---- groups

get_set : (gs : List (List MethodId)) (g : ℕ) (ids x : List MethodId) → slice_get gs g ≡ Some x → slice_get (slice_set gs g ids) g ≡ Some ids
get_set [] g ids x e = cc
get_set (y ∷ gs) zero ids x e = refl
get_set (y ∷ gs) (suc g) ids x e = get_set gs g ids x e

get_other : (gs : List (List MethodId)) (g h : ℕ) (ids : List MethodId) → h ≢ g → slice_get (slice_set gs g ids) h ≡ slice_get gs h
get_other [] g h ids ne = refl
get_other (y ∷ gs) zero zero ids ne = absurd (ne refl)
get_other (y ∷ gs) zero (suc h) ids ne = refl
get_other (y ∷ gs) (suc g) zero ids ne = refl
get_other (y ∷ gs) (suc g) (suc h) ids ne = get_other gs g h ids (λ e. ne (ap suc e))

get_below : (gs : List (List MethodId)) (g : ℕ) → g < length gs → (x : List MethodId) × (slice_get gs g ≡ Some x)
get_below [] g lt = absurd (omega arith)
get_below (y ∷ gs) zero lt = (y, refl)
get_below (y ∷ gs) (suc g) lt = get_below gs g (omega arith)

length_set : (gs : List (List MethodId)) (g : ℕ) (ids : List MethodId) → length (slice_set gs g ids) ≡ length gs
length_set [] g ids = refl
length_set (y ∷ gs) zero ids = refl
length_set (y ∷ gs) (suc g) ids = ap suc (length_set gs g ids)

pushed_length : (g : ℕ) (id : MethodId) (gs : List (List MethodId)) → length (pushed_at g id gs) ≡ length gs
pushed_length g id gs = by (slice_get gs g)
  where
    by : (o : Option (List MethodId)) → length (pushed_in g id gs o) ≡ length gs
    by None = refl
    by (Some ids) = length_set gs g (ids ++ id ∷ [])

pushed_own : (g : ℕ) (id : MethodId) (gs : List (List MethodId)) → g < length gs → group_in (slice_get (pushed_at g id gs) g) ≡ group_in (slice_get gs g) ++ id ∷ []
pushed_own g id gs lt =
    let p = get_below gs g lt in
    ap (λ o. group_in (slice_get (pushed_in g id gs o) g)) p.1 ∙ ap group_in (get_set gs g (p.0 ++ id ∷ []) p.0 p.1) ∙ ap (λ o. group_in o ++ id ∷ []) (sym p.1)

pushed_other : (g h : ℕ) (id : MethodId) (gs : List (List MethodId)) → h ≢ g → slice_get (pushed_at g id gs) h ≡ slice_get gs h
pushed_other g h id gs ne = by (slice_get gs g)
  where
    by : (o : Option (List MethodId)) → slice_get (pushed_in g id gs o) h ≡ slice_get gs h
    by None = refl
    by (Some ids) = get_other gs g h (ids ++ id ∷ []) ne

nothing_more : (xs : List MethodId) → xs ≡ xs ++ []
nothing_more [] = refl
nothing_more (x ∷ xs) = ap (λ ys. x ∷ ys) (nothing_more xs)

-- ---- a name that has a group

module _ (names : List (List ℕ × ℕ)) (groups : List (List MethodId)) (name : List ℕ) (id : MethodId) (g : ℕ) (is : named name names ≡ Some g) (numbers : IsNumbered names (length groups)) where
  pub found_numbered : (new : List (List MethodId)) → new ≡ pushed_at g id groups → IsNumbered names (length new)
  found_numbered new e = subst (λ gs. IsNumbered names (length gs)) (sym e) (subst (λ n. IsNumbered names n) (sym (pushed_length g id groups)) numbers)

  found_at : (q : List ℕ) (o : Option ℕ) (b : Bool) → named q names ≡ o → bytes_eq name q ≡ b → group_at (pushed_at g id groups) o ≡ group_at groups o ++ cond b (id ∷ []) []
  found_at q None true e f =
      let same : named name names ≡ named q names = ap (λ x. named x names) (same_bytes name q f) in cc
  found_at q None false e f = refl
  found_at q (Some h) true e f =
      let same : named name names ≡ named q names = ap (λ x. named x names) (same_bytes name q f) in
      let here : h ≡ g = cc in
      subst (λ h. group_in (slice_get (pushed_at g id groups) h) ≡ group_in (slice_get groups h) ++ id ∷ []) (sym here) (pushed_own g id groups (numbers.below name g is))
  found_at q (Some h) false e f =
      let other : h ≢ g = λ same. not_both (numbers.apart name q g is (e ∙ ap Some same)) f in
      ap group_in (pushed_other g h id groups other) ∙ nothing_more (group_in (slice_get groups h))
    where
      not_both : {b : Bool} → b ≡ true → b ≡ false → ⊥
      not_both p q = cc

  pub found_ids : (new : List (List MethodId)) → new ≡ pushed_at g id groups → (q : List ℕ) → ids_in names new q ≡ ids_in names groups q ++ cond (bytes_eq name q) (id ∷ []) []
  found_ids new e q = ap (λ gs. ids_in names gs q) e ∙ found_at q (named q names) (bytes_eq name q) refl refl

-- ---- a new name

module _ (names : List (List ℕ × ℕ)) (groups : List (List MethodId)) (name : List ℕ) (id : MethodId) (none : named name names ≡ None) (numbers : IsNumbered names (length groups)) where
  named_push : (q : List ℕ) (es : List (List ℕ × ℕ)) (g : ℕ) → named q es ≡ Some g → named q (es ++ (name, length groups) ∷ []) ≡ Some g
  named_push q [] g e = cc
  named_push q (x ∷ es) g e = by (bytes_eq q x.0) (λ f. named_push q es g f) e
    where
      by : (b : Bool) → (named q es ≡ Some g → named q (es ++ (name, length groups) ∷ []) ≡ Some g) → (if b then Some x.1 else named q es) ≡ Some g
          → (if b then Some x.1 else named q (es ++ (name, length groups) ∷ [])) ≡ Some g
      by true r f = f
      by false r f = r f

  named_new : (q : List ℕ) (es : List (List ℕ × ℕ)) → named q es ≡ None → named q (es ++ (name, length groups) ∷ []) ≡ (if bytes_eq q name then Some (length groups) else None)
  named_new q [] e = refl
  named_new q (x ∷ es) e = by (bytes_eq q x.0) (λ f. named_new q es f) e
    where
      by : (b : Bool) → (named q es ≡ None → named q (es ++ (name, length groups) ∷ []) ≡ (if bytes_eq q name then Some (length groups) else None)) → (if b then Some x.1 else named q es) ≡ None → (if b then Some x.1 else named q (es ++ (name, length groups) ∷ [])) ≡ (if bytes_eq q name then Some (length groups) else None)
      by true r f = cc
      by false r f = r f

  abbrev more : List (List ℕ × ℕ)
  more = names ++ (name, length groups) ∷ []

  get_old : (gs : List (List MethodId)) (x : List MethodId) (h : ℕ) → h < length gs → slice_get (gs ++ x ∷ []) h ≡ slice_get gs h
  get_old [] x h lt = absurd (omega arith)
  get_old (y ∷ gs) x zero lt = refl
  get_old (y ∷ gs) x (suc h) lt = get_old gs x h (omega arith)

  get_new : (gs : List (List MethodId)) (x : List MethodId) → slice_get (gs ++ x ∷ []) (length gs) ≡ Some x
  get_new [] x = refl
  get_new (y ∷ gs) x = get_new gs x

  new_at : (q : List ℕ) (o : Option ℕ) (b : Bool) → named q names ≡ o → bytes_eq name q ≡ b → group_at (groups ++ (id ∷ []) ∷ []) (named q more) ≡ group_at groups o ++ cond b (id ∷ []) []
  new_at q (Some h) true e f =
      let same : named name names ≡ named q names = ap (λ x. named x names) (same_bytes name q f) in cc
  new_at q (Some h) false e f =
      ap (group_at (groups ++ (id ∷ []) ∷ [])) (named_push q names h e) ∙ ap group_in (get_old groups (id ∷ []) h (numbers.below q h e)) ∙ nothing_more (group_in (slice_get groups h))
  new_at q None true e f =
      let own : bytes_eq q name ≡ true = subst (λ x. bytes_eq x name ≡ true) (same_bytes name q f) (own_bytes name) in
      ap (group_at (groups ++ (id ∷ []) ∷ [])) (named_new q names e ∙ ap (λ b. if b then Some (length groups) else None) own) ∙ ap group_in (get_new groups (id ∷ []))
  new_at q None false e f =
      ap (group_at (groups ++ (id ∷ []) ∷ [])) (named_new q names e ∙ ap (λ b. if b then Some (length groups) else None) (other_bytes name q f))

  pub new_ids : (after : List (List ℕ × ℕ)) (new : List (List MethodId)) → after ≡ more → new ≡ groups ++ (id ∷ []) ∷ [] → (q : List ℕ) → ids_in after new q ≡ ids_in names groups q ++ cond (bytes_eq name q) (id ∷ []) []
  new_ids after new e f q = ap (λ es. ids_in es new q) e ∙ ap (λ gs. ids_in more gs q) f ∙ new_at q (named q names) (bytes_eq name q) refl refl

  which : (q : List ℕ) (h : ℕ) → named q more ≡ Some h → (named q names ≡ Some h) ⊎ ((bytes_eq q name ≡ true) × (h ≡ length groups))
  which q h e = by (named q names) refl
    where
      by_name : (b : Bool) → bytes_eq q name ≡ b → (if b then Some (length groups) else None) ≡ Some h → (named q names ≡ Some h) ⊎ ((bytes_eq q name ≡ true) × (h ≡ length groups))
      by_name true f g = let same : h ≡ length groups = cc in inr (f, same)
      by_name false f g = cc

      by : (o : Option ℕ) → named q names ≡ o → (named q names ≡ Some h) ⊎ ((bytes_eq q name ≡ true) × (h ≡ length groups))
      by (Some x) f = inl (f ∙ sym (named_push q names x f) ∙ e)
      by None f = by_name (bytes_eq q name) refl (sym (named_new q names f) ∙ e)

  both_new : (q r : List ℕ) → bytes_eq q name ≡ true → bytes_eq r name ≡ true → bytes_eq q r ≡ true
  both_new q r e f = subst (λ x. bytes_eq q x ≡ true) (sym (same_bytes r name f)) e

  pub new_numbered : (after : List (List ℕ × ℕ)) (new : List (List MethodId)) → after ≡ more → new ≡ groups ++ (id ∷ []) ∷ [] → IsNumbered after (length new)
  new_numbered after new e f =
      subst (λ es. IsNumbered es (length new)) (sym e) (subst (λ n. IsNumbered more n) (sym count) (record { below = λ q g h. under q g (which q g h); apart = λ q r g h i. apart q r g (which q g h) (which r g i) }))
    where
      count : length new ≡ length groups + 1
      count = ap length f ∙ length-append groups ((id ∷ []) ∷ [])

      under : (q : List ℕ) (g : ℕ) → (named q names ≡ Some g) ⊎ ((bytes_eq q name ≡ true) × (g ≡ length groups)) → g < length groups + 1
      under q g (inl h) = let lt = numbers.below q g h in omega (arith, lt)
      under q g (inr h) = omega (arith, h.1)

      apart : (q r : List ℕ) (g : ℕ) → (named q names ≡ Some g) ⊎ ((bytes_eq q name ≡ true) × (g ≡ length groups)) → (named r names ≡ Some g) ⊎ ((bytes_eq r name ≡ true) × (g ≡ length groups)) → bytes_eq q r ≡ true
      apart q r g (inl h) (inl i) = numbers.apart q r g h i
      apart q r g (inl h) (inr i) = let lt = numbers.below q g h in absurd (omega (arith, lt, i.1))
      apart q r g (inr h) (inl i) = let lt = numbers.below r g i in absurd (omega (arith, lt, h.1))
      apart q r g (inr h) (inr i) = both_new q r h.0 i.0

pub ruleset numbering = (found_numbered, found_ids, new_ids, new_numbered)

-- ---- all methods

named_snoc : (T : Table) (q : List ℕ) (i n : ℕ) → named_from T q i n ++ if_named T q (i + n) ≡ named_from T q i (suc n)
named_snoc T q i zero = let e : i + 0 ≡ i = omega arith in ap (if_named T q) e ∙ nothing_more (if_named T q i)
named_snoc T q i (suc n) =
    let e : i + suc n ≡ suc i + n = omega arith in
    append_assoc (if_named T q i) (named_from T q (suc i) n) (if_named T q (i + suc n)) ∙ ap (λ k. if_named T q i ++ (named_from T q (suc i) n ++ if_named T q k)) e
    ∙ ap (λ xs. if_named T q i ++ xs) (named_snoc T q (suc i) n)

pub named_more : (T : Table) (q : List ℕ) (n m : ℕ) (ids : List MethodId) → m ≡ n + 1 → ids ≡ named_from T q 0 n ++ if_named T q n → ids ≡ named_from T q 0 m
named_more T q n m ids e f =
    let z : n ≡ 0 + n = omega arith in
    let s : suc n ≡ m = omega arith in
    f ∙ ap (λ k. named_from T q 0 n ++ if_named T q k) z ∙ named_snoc T q 0 n ∙ ap (named_from T q 0) s
