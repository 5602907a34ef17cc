-- What holds of all that a reading function reads.
use Rattle.std.proofs.Common.{◌≡◌, ◌<◌, ◌^◌, ℕ, zero, suc, ◌+◌, Bool, true, false, cond, List, [], ◌∷◌, length, take, drop, Option, Some, None, Result, Ok, Err, refl, ap, subst, arith}
use Rattle.std.specs.Prelude.{nat_lt}
use Rattle.std.specs.Int.{w16, w32, w64, from_be_bytes}
use Rattle.std.specs.List.{AllByRecursion}
use Rattle.jc_class_out.specs.declared.format.Flaw.{Flaw}
use Rattle.jc_class_out.specs.declared.format.Flaw.TheVariants as flaw
use Rattle.jc_class_out.specs.Reading.{◌>>=◌, or_flaw, wants, u8_at, number_at, many, listed}

pub record Good {A : Type 0} (P : A → Type 0) (r : Result A Flaw) : Type 0 where
  pub holds : (x : A) → r ≡ Ok x → P x

ok_is : {A : Type 0} (x y : A) (r s : Result A Flaw) → r ≡ Ok x → s ≡ Ok y → r ≡ s → x ≡ y
ok_is x y r s h g e = cc

err_not : {A : Type 0} (e : Flaw) (y : A) (r : Result A Flaw) → r ≡ Err e → r ≡ Ok y → ⊥
err_not e y r h g = cc

pub good_ok : {A : Type 0} (P : A → Type 0) (x : A) → P x → Good P (Ok x)
good_ok P x h = record { holds = λ y e. subst P (ok_is x y (Ok x) (Ok y) refl refl e) h }

pub good_err : {A : Type 0} (P : A → Type 0) (e : Flaw) → Good P (Err e)
good_err P e = record { holds = λ y h. absurd (err_not e y (Err e) refl h) }

pub good_bind : {A B : Type 0} (P : A → Type 0) (Q : B → Type 0) (r : Result A Flaw) (f : A → Result B Flaw) → Good P r → ((a : A) → P a → Good Q (f a)) → Good Q (r >>= f)
good_bind P Q (Ok x) f g h = h x (g.holds x refl)
good_bind P Q (Err e) f g h = good_err Q e

pub good_more : {A : Type 0} (P Q : A → Type 0) (r : Result A Flaw) → Good P r → ((x : A) → P x → Q x) → Good Q r
good_more P Q r g h = record { holds = λ x e. h x (g.holds x e) }

pub good_if : {A : Type 0} (P : A → Type 0) (b : Bool) (x y : Result A Flaw) → (b ≡ true → Good P x) → (b ≡ false → Good P y) → Good P (cond b x y)
good_if P true x y g h = g refl
good_if P false x y g h = h refl

pub good_wants : (b : Bool) (left : ℕ) → Good (λ (n : ℕ). b ≡ true) (wants b left)
good_wants true left = good_ok (λ (n : ℕ). true ≡ true) 0 refl
good_wants false left = good_err (λ (n : ℕ). false ≡ true) (flaw.Index left)

pub good_flaw : {A : Type 0} (o : Option A) (e : Flaw) → Good (λ (x : A). o ≡ Some x) (or_flaw o e)
good_flaw (Some x) e = good_ok (λ (y : _). Some x ≡ Some y) x refl
good_flaw None e = good_err (λ (y : _). None ≡ Some y) e

-- ---- bytes

abbrev pub Ranged : List ℕ → Type 0
Ranged bytes = AllByRecursion (λ (b : ℕ). b < 256) bytes

-- so many bytes were read, and are those of what was read
pub record Got {A : Type 0} (P : A → ℕ → Type 0) (bytes : List ℕ) (x : A × List ℕ) : Type 0 where
  pub n : ℕ
  pub of : P x.0 n
  pub took : length bytes ≡ n + length x.1
  pub ranged : Ranged x.1

pub ranged_drop : (n : ℕ) (bytes : List ℕ) → Ranged bytes → Ranged (drop n bytes)
ranged_drop zero bytes r = r
ranged_drop (suc n) [] r = tt
ranged_drop (suc n) (b ∷ bytes) r = ranged_drop n bytes r.1

abbrev pub Numbered : ℕ → ℕ → ℕ → ℕ → Type 0
Numbered limit size x n = (x < limit) × (n ≡ size)

pub u1_good : (bytes : List ℕ) → Ranged bytes → Good (Got (Numbered 256 1) bytes) (u8_at bytes)
u1_good [] r = good_err (Got (Numbered 256 1) []) flaw.Short
u1_good (b ∷ bytes) r = good_ok (Got (Numbered 256 1) (b ∷ bytes)) (b, bytes) (record { n = 1; of = (r.0, refl); took = omega arith; ranged = r.1 })

two_below : (a b : ℕ) (bytes : List ℕ) → a < 256 → b < 256 → from_be_bytes w16 (take 2 (a ∷ b ∷ bytes)) < 65536
two_below a b bytes h g = omega (arith, h, g)

pub u2_good : (bytes : List ℕ) → Ranged bytes → Good (Got (Numbered 65536 2) bytes) (number_at w16 bytes)
u2_good [] r = good_err (Got (Numbered 65536 2) []) flaw.Short
u2_good (a ∷ []) r = good_err (Got (Numbered 65536 2) (a ∷ [])) flaw.Short
u2_good (a ∷ b ∷ bytes) r =
    good_if (Got (Numbered 65536 2) (a ∷ b ∷ bytes)) (nat_lt (length (a ∷ b ∷ bytes)) 2) _ _ (λ h. good_err _ flaw.Short)
    (λ h. good_ok (Got (Numbered 65536 2) (a ∷ b ∷ bytes)) _ (record { n = 2; of = (two_below a b bytes r.0 r.1.0, refl); took = omega arith; ranged = r.1.1 }))

four_below : (a b c d : ℕ) (bytes : List ℕ) → a < 256 → b < 256 → c < 256 → d < 256 → from_be_bytes w32 (take 4 (a ∷ b ∷ c ∷ d ∷ bytes)) < 2 ^ 32
four_below a b c d bytes h g i j = omega (arith, h, g, i, j)

pub u4_good : (bytes : List ℕ) → Ranged bytes → Good (Got (Numbered (2 ^ 32) 4) bytes) (number_at w32 bytes)
u4_good [] r = good_err _ flaw.Short
u4_good (a ∷ []) r = good_err _ flaw.Short
u4_good (a ∷ b ∷ []) r = good_err _ flaw.Short
u4_good (a ∷ b ∷ c ∷ []) r = good_err _ flaw.Short
u4_good (a ∷ b ∷ c ∷ d ∷ bytes) r =
    good_if _ (nat_lt (length (a ∷ b ∷ c ∷ d ∷ bytes)) 4) _ _ (λ h. good_err _ flaw.Short)
    (λ h. good_ok (Got (Numbered (2 ^ 32) 4) (a ∷ b ∷ c ∷ d ∷ bytes)) _ (record { n = 4; of = (four_below a b c d bytes r.0 r.1.0 r.1.1.0 r.1.1.1.0, refl); took = omega arith; ranged = r.1.1.1.1 }))

eight_below : (a b c d e f g h : ℕ) (bytes : List ℕ) → a < 256 → b < 256 → c < 256 → d < 256 → e < 256 → f < 256 → g < 256 → h < 256 → from_be_bytes w64 (take 8 (a ∷ b ∷ c ∷ d ∷ e ∷ f ∷ g ∷ h ∷ bytes)) < 2 ^ 64
eight_below a b c d e f g h bytes p1 p2 p3 p4 p5 p6 p7 p8 = omega (arith, p1, p2, p3, p4, p5, p6, p7, p8)

pub u8_good : (bytes : List ℕ) → Ranged bytes → Good (Got (Numbered (2 ^ 64) 8) bytes) (number_at w64 bytes)
u8_good [] r = good_err _ flaw.Short
u8_good (a ∷ []) r = good_err _ flaw.Short
u8_good (a ∷ b ∷ []) r = good_err _ flaw.Short
u8_good (a ∷ b ∷ c ∷ []) r = good_err _ flaw.Short
u8_good (a ∷ b ∷ c ∷ d ∷ []) r = good_err _ flaw.Short
u8_good (a ∷ b ∷ c ∷ d ∷ e ∷ []) r = good_err _ flaw.Short
u8_good (a ∷ b ∷ c ∷ d ∷ e ∷ f ∷ []) r = good_err _ flaw.Short
u8_good (a ∷ b ∷ c ∷ d ∷ e ∷ f ∷ g ∷ []) r = good_err _ flaw.Short
u8_good (a ∷ b ∷ c ∷ d ∷ e ∷ f ∷ g ∷ h ∷ bytes) r =
    good_if _ (nat_lt (length (a ∷ b ∷ c ∷ d ∷ e ∷ f ∷ g ∷ h ∷ bytes)) 8) _ _ (λ q. good_err _ flaw.Short)
    (λ q. good_ok (Got (Numbered (2 ^ 64) 8) (a ∷ b ∷ c ∷ d ∷ e ∷ f ∷ g ∷ h ∷ bytes)) _
    (record { n = 8; of = (eight_below a b c d e f g h bytes r.0 r.1.0 r.1.1.0 r.1.1.1.0 r.1.1.1.1.0 r.1.1.1.1.1.0 r.1.1.1.1.1.1.0 r.1.1.1.1.1.1.1.0, refl); took = omega arith; ranged = r.1.1.1.1.1.1.1.1 }))

-- ---- one after the other

-- each of them holds, and so many bytes are theirs together
abbrev pub Each : {A : Type 0} → (A → ℕ → Type 0) → List A → ℕ → Type 0
Each P [] n = n ≡ 0
Each {A} P (x ∷ xs) n = (m : ℕ) × (k : ℕ) × P x m × Each P xs k × (n ≡ m + k)

-- so many of them
abbrev pub Counted : {A : Type 0} → ℕ → (A → ℕ → Type 0) → List A → ℕ → Type 0
Counted count P xs n = (length xs ≡ count) × Each P xs n

-- a function that reads what holds
abbrev pub Reads : {A : Type 0} → (A → ℕ → Type 0) → (List ℕ → Result (A × List ℕ) Flaw) → Type 0
Reads {A} P f = (bytes : List ℕ) → Ranged bytes → Good (Got P bytes) (f bytes)

pub many_good : {A : Type 0} (P : A → ℕ → Type 0) (f : List ℕ → Result (A × List ℕ) Flaw) → Reads P f → (count : ℕ) (bytes : List ℕ) → Ranged bytes → Good (Got (Counted count P) bytes) (many f count bytes)
unfolding many
many_good P f g zero bytes r = good_ok (Got (Counted 0 P) bytes) ([], bytes) (record { n = 0; of = (refl, refl); took = omega arith; ranged = r })
many_good P f g (suc count) bytes r =
    good_bind (Got P bytes) (Got (Counted (suc count) P) bytes) (f bytes) _ (g bytes r)
    (λ x px. good_bind (Got (Counted count P) x.1) (Got (Counted (suc count) P) bytes) (many f count x.1) _ (many_good P f g count x.1 px.ranged)
    (λ xs pxs. good_ok (Got (Counted (suc count) P) bytes) (x.0 ∷ xs.0, xs.1) (record {
      n = px.n + pxs.n;
      of = (ap (λ (k : ℕ). suc k) pxs.of.0, (px.n, pxs.n, px.of, pxs.of.1, refl));
      took = omega (arith, px.took, pxs.took);
      ranged = pxs.ranged;
    })))

-- a count of two bytes, and then so many
abbrev pub Listed : {A : Type 0} → (A → ℕ → Type 0) → List A → ℕ → Type 0
Listed P xs n = (length xs < 65536) × (k : ℕ) × Each P xs k × (n ≡ 2 + k)

pub listed_good : {A : Type 0} (P : A → ℕ → Type 0) (f : List ℕ → Result (A × List ℕ) Flaw) → Reads P f → Reads (Listed P) (listed f)
unfolding listed
listed_good P f g bytes r =
    good_bind (Got (Numbered 65536 2) bytes) (Got (Listed P) bytes) (number_at w16 bytes) _ (u2_good bytes r)
    (λ n pn. record {
      holds = λ x e. let m = (many_good P f g n.0 n.1 pn.ranged).holds x e in record {
        n = 2 + m.n;
        of = (omega (arith, m.of.0, pn.of.0), m.n, m.of.1, refl);
        took = omega (arith, pn.took, pn.of.1, m.took);
        ranged = m.ranged;
      };
    })

pub good_any : {A : Type 0} (r : Result A Flaw) → Good (λ (x : A). Unit {0}) r
good_any r = record { holds = λ x e. tt }
