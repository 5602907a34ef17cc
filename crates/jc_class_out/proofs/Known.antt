-- Constants that are the same, and lists in which each stands once.
use Rattle.std.proofs.Common.{◌≡◌, ◌<◌, ℕ, suc, ◌+◌, ℤ, Bool, true, false, cond, List, [], ◌∷◌, ◌++◌, length, Option, Some, None, refl, sym, ap, subst, ◌∙◌, add-one, arith}
use Rattle.std.specs.Prelude.{◌&&◌, ◌||◌, not, slice_get, nat_lt}
use Rattle.std.specs.Cmp.{signed_Decides}
use Rattle.std.specs.List.{position, prefix_len}
use Rattle.std.specs.Ordering.{int_eq}
use Rattle.std.specs.Str.{bytes_eq}
use Rattle.std.proofs.lemmas.Bool.{lt-ltb, ltb-true, and_parts, true≢false}
use Rattle.jc_rules.proofs.Truths.{or_none, same_bytes, own_bytes, or_assoc, or_true}
use Rattle.jc_class_out.specs.Pool.{Known, KnownText, KnownWhole, KnownLong, KnownBehind, KnownClass, KnownLiteral, KnownField, KnownMethod, KnownInterface, KnownPair}
use Rattle.jc_class_out.specs.Spelling.{same_known, has, add, adds, number, number_if}

int_true : (a b : ℤ) → int_eq a b ≡ true → a ≡ b
int_true a b h = (signed_Decides a b).0 h

int_refl : (a : ℤ) → int_eq a a ≡ true
int_refl a = (signed_Decides a a).1 refl

pub same_refl : (k : Known) → same_known k k ≡ true
same_refl (KnownText a) = own_bytes a
same_refl (KnownWhole a) = int_refl a
same_refl (KnownLong a) = int_refl a
same_refl (KnownBehind a) = int_refl a
same_refl (KnownClass a) = own_bytes a
same_refl (KnownLiteral a) = own_bytes a
same_refl (KnownField c n d) = rw (own_bytes c, own_bytes n, own_bytes d) refl
same_refl (KnownMethod c n d) = rw (own_bytes c, own_bytes n, own_bytes d) refl
same_refl (KnownInterface c n d) = rw (own_bytes c, own_bytes n, own_bytes d) refl
same_refl (KnownPair n d) = rw (own_bytes n, own_bytes d) refl

three_true : (f : List ℕ → List ℕ → List ℕ → Known) (c n d e m b : List ℕ) → (bytes_eq c e && (bytes_eq n m && bytes_eq d b)) ≡ true → f c n d ≡ f e m b
three_true f c n d e m b h =
    let p = and_parts (bytes_eq c e) (bytes_eq n m && bytes_eq d b) h in
    let q = and_parts (bytes_eq n m) (bytes_eq d b) p.1 in
    rw (same_bytes c e p.0, same_bytes n m q.0, same_bytes d b q.1) refl

pub same_true : (a b : Known) → same_known a b ≡ true → a ≡ b
same_true (KnownText a) (KnownText b) h = ap KnownText (same_bytes a b h)
same_true (KnownWhole a) (KnownWhole b) h = ap KnownWhole (int_true a b h)
same_true (KnownLong a) (KnownLong b) h = ap KnownLong (int_true a b h)
same_true (KnownBehind a) (KnownBehind b) h = ap KnownBehind (int_true a b h)
same_true (KnownClass a) (KnownClass b) h = ap KnownClass (same_bytes a b h)
same_true (KnownLiteral a) (KnownLiteral b) h = ap KnownLiteral (same_bytes a b h)
same_true (KnownField c n d) (KnownField e m b) h = three_true KnownField c n d e m b h
same_true (KnownMethod c n d) (KnownMethod e m b) h = three_true KnownMethod c n d e m b h
same_true (KnownInterface c n d) (KnownInterface e m b) h = three_true KnownInterface c n d e m b h
same_true (KnownPair n d) (KnownPair m b) h =
    let p = and_parts (bytes_eq n m) (bytes_eq d b) h in
    rw (same_bytes n m p.0, same_bytes d b p.1) refl
same_true _ _ h = absurd cc

-- ---- tests on lists

pub has_append : (p q : List Known) (k : Known) → has (p ++ q) k ≡ (has p k || has q k)
unfolding has
has_append [] q k = refl
has_append (x ∷ p) q k = rw (has_append p q k) (sym (or_assoc (same_known k x) (has p k) (has q k)))

pub has_left : (p q : List Known) (k : Known) → has p k ≡ true → has (p ++ q) k ≡ true
has_left p q k h = has_append p q k ∙ rw h refl

pub has_right : (p q : List Known) (k : Known) → has q k ≡ true → has (p ++ q) k ≡ true
has_right p q k h = has_append p q k ∙ rw h (or_true (has p k))

pub has_first : (k : Known) (ks : List Known) → has (k ∷ ks) k ≡ true
unfolding has
has_first k ks = rw (same_refl k) refl

pub has_later : (x k : Known) (ks : List Known) → has ks k ≡ true → has (x ∷ ks) k ≡ true
unfolding has
has_later x k ks h = rw h (or_true (same_known k x))

no_self : (a b : Known) → b ≡ a → same_known a b ≡ false → ⊥
no_self a b e h = let s : same_known a a ≡ false = subst (λ (x : Known). same_known a x ≡ false) e h in absurd (true≢false (sym (same_refl a) ∙ s))

has_known : (p : List Known) (k x : Known) (c : Bool) → has p k ≡ true → same_known x k ≡ c → has p x ≡ (has p x || c)
has_known p k x false h s = sym (or_none (has p x))
has_known p k x true h s = let e : x ≡ k = same_true x k s in let t : has p x ≡ true = subst (λ (y : Known). has p y ≡ true) (sym e) h in rw t refl

has_one : (k x : Known) → has (k ∷ []) x ≡ same_known x k
unfolding has
has_one k x = or_none (same_known x k)

has_add_by : (p : List Known) (k x : Known) (b : Bool) → has p k ≡ b → has (cond b p (p ++ k ∷ [])) x ≡ (has p x || same_known x k)
has_add_by p k x true h = has_known p k x (same_known x k) h refl
has_add_by p k x false h = has_append p (k ∷ []) x ∙ ap (λ (b : Bool). has p x || b) (has_one k x)

-- what is there after a constant was added: what was there before, and it
pub has_add : (p : List Known) (k x : Known) → has (add p k) x ≡ (has p x || same_known x k)
has_add p k x = has_add_by p k x (has p k) refl

has_none : (x : Known) → has [] x ≡ false
unfolding has
has_none x = refl

has_cons : (k x : Known) (ks : List Known) → has (k ∷ ks) x ≡ (same_known x k || has ks x)
unfolding has
has_cons k x ks = refl

pub has_adds : (p us : List Known) (x : Known) → has (adds p us) x ≡ (has p x || has us x)
unfolding adds
has_adds p [] x = sym (ap (λ (b : Bool). has p x || b) (has_none x) ∙ or_none (has p x))
has_adds p (k ∷ ks) x = has_adds (add p k) ks x ∙ ap (λ (b : Bool). b || has ks x) (has_add p k x) ∙ or_assoc (has p x) (same_known x k) (has ks x) ∙ ap (λ (b : Bool). has p x || b) (sym (has_cons k x ks))

pub has_pool : (us : List Known) (k : Known) → has (adds [] us) k ≡ has us k
unfolding has
has_pool us k = has_adds [] us k

-- ---- the place of a constant

one_more : (n : ℕ) → 1 + n ≡ suc n
one_more n = omega arith

found_by : (k x : Known) (ks : List Known) (b : Bool) → same_known k x ≡ b
    → (has ks k ≡ true → (prefix_len (λ y. not (same_known k y)) ks < length ks) × (slice_get ks (prefix_len (λ y. not (same_known k y)) ks) ≡ Some k))
    → has (x ∷ ks) k ≡ true
    → (cond (not b) (1 + prefix_len (λ y. not (same_known k y)) ks) 0 < length (x ∷ ks)) × (slice_get (x ∷ ks) (cond (not b) (1 + prefix_len (λ y. not (same_known k y)) ks) 0) ≡ Some k)
unfolding has
found_by k x ks true e ih h = (omega arith, ap Some (sym (same_true k x e)))
found_by k x ks false e ih h =
    let t : has ks k ≡ true = subst (λ (b : Bool). (b || has ks k) ≡ true) e h in
    let r = ih t in
    (omega (arith, r.0), rw (one_more (prefix_len (λ y. not (same_known k y)) ks)) (r.1))

found : (ks : List Known) (k : Known) → has ks k ≡ true → (prefix_len (λ y. not (same_known k y)) ks < length ks) × (slice_get ks (prefix_len (λ y. not (same_known k y)) ks) ≡ Some k)
unfolding has
found [] k h = absurd cc
found (x ∷ ks) k h = found_by k x ks (same_known k x) refl (found ks k) h

-- its number, which is not 0, and its place
pub record IsAt (ks : List Known) (k : Known) (i : ℕ) : Type 0 where
  pub number_is : number ks k ≡ suc i
  pub below : i < length ks
  pub is : slice_get ks i ≡ Some k

pub at_place : (ks : List Known) (k : Known) → has ks k ≡ true → length ks < 65535 → (i : ℕ) × IsAt ks k i
unfolding number
at_place ks k h lt =
    let f = found ks k h in
    let i = prefix_len (λ y. not (same_known k y)) ks in
    let a = lt-ltb (prefix_len (λ y. not (same_known k y)) ks) (length ks) f.0 in
    let b = lt-ltb (prefix_len (λ y. not (same_known k y)) ks) 65535 (omega (arith, f.0)) in
    (prefix_len (λ y. not (same_known k y)) ks, record { number_is = rw (a, b, add-one (prefix_len (λ y. not (same_known k y)) ks)) refl; below = f.0; is = f.1 })

small_by : (i : ℕ) (b : Bool) → nat_lt i 65535 ≡ b → cond b (i + 1) 0 < 65536
small_by i true e = let l = ltb-true i 65535 e in omega (arith, l)
small_by i false e = omega arith

number_if_small : (o : Option ℕ) → number_if o < 65536
number_if_small None = omega arith
number_if_small (Some i) = small_by i (nat_lt i 65535) refl

pub number_small : (ks : List Known) (k : Known) → number ks k < 65536
unfolding number
number_small ks k = number_if_small (position (same_known k) ks)
