-- What the steps of the code of creations read.
use Rattle.std.proofs.Common.{◌≡◌, ℕ, zero, suc, ◌<◌, min, Bool, true, false, List, [], ◌∷◌, map, length, refl, ap, ◌∙◌, arith}
use Rattle.std.proofs.lemmas.Bool.{cond-true, cond-false}
use Rattle.jc_lexer.specs.declared.token.Sign.TheVariants as sign_of
use Rattle.jc_lexer.specs.declared.token.Token.{Token}
use Rattle.jc_tree.specs.declared.types.BaseTree.{BaseTree}
use Rattle.jc_tree.specs.declared.types.BaseTree.TheVariants as base_of
use Rattle.jc_tree.specs.declared.types.ClassTree.{ClassTree}
use Rattle.jc_tree.specs.declared.types.PrimitiveWord.{PrimitiveWord}
use Rattle.jc_tree.specs.declared.expression.ArrayInit.{ArrayInit}
use Rattle.jc_tree.specs.declared.expression.Creation.TheVariants as creation_of
use Rattle.jc_tree.specs.declared.expression.Expr.{Expr}
use Rattle.jc_grammar.specs.Shapes.{ends_bare}
use Rattle.jc_reading.specs.Kinds.{sign_code, one_of}
use Rattle.jc_reading.specs.Reading.{Read, Found, Stopped, Run, found, noting, ◌>>=◌, becoming, joined, as_new, in_turn, of_kind, before_it, This, That, either}
use Rattle.jc_reading.specs.Further.{with_room, by_value}
use Rattle.jc_reading.specs.Reach.{Near}
use Rattle.jc_reading.proofs.Nears.{near_turn, near_either, near_kind}
use Rattle.jc_parse_type.specs.TypeReading.{dims_run, word_run, primitive_codes, class_run}
use Rattle.jc_expr_laws.specs.PrimeReading.{array_creation, array_tail_run, lengths_run, diamond_run, object_run, object_tail_run, no_diamond, class_creation, class_tail_run, creation_made, creation_run}
use Rattle.jc_parse_expr.specs.PrimeCode.{array_in, expr_in, initial_made, length_of, sized_made, sized_run, object_made}
use Rattle.jc_parse_expr.proofs.PrimeNears.{near_dims, near_lengths, near_array_tail}
use Rattle.jc_parse_expr.proofs.LevelNears.{near_expr, near_array_of}
use Rattle.jc_parse_expr.proofs.MeasuredSteps.{twice, then_made, value_made, mapped_made, behind_kind, near_noted}

-- an array with lengths

more_lengths : (element : BaseTree) (e : Expr) (m : Run Expr) (q r s : List Token) (more : List Expr) (d k j : ℕ) → as_new (map length_of) (lengths_run m) q ≡ Found more r k → dims_run r ≡ Found d s j
    → becoming (λ (b : List (Unit {0} × (Expr × Unit {0})) × ℕ). sized_made element (e, (tt, b))) (in_turn (lengths_run m) dims_run q) ≡ Found (creation_of.Sized element e more d) s (min k j)
more_lengths element e m q r s more d k j f g =
    mapped_made (λ (b : List (Unit {0} × (Expr × Unit {0})) × ℕ). sized_made element (e, (tt, b))) (map length_of) (λ (b : List Expr × ℕ). creation_of.Sized element e b.0 b.1) (λ list d. refl) (lengths_run m) dims_run q r more k f
    ∙ ap (λ (v : Read ℕ). noting k (becoming (λ (b : ℕ). creation_of.Sized element e more b) v)) g

closed_first : {B C : Type 0} (f : (Expr × (Unit {0} × B)) → C) (code : ℕ) (n : Run B) (v : Read Expr) (q : List Token) (a : Expr) (l : ℕ) → becoming before_it (v >>= (λ a q. becoming (joined a) (of_kind code q))) ≡ Found a q l
    → becoming f (v >>= (λ a q. becoming (joined a) (in_turn (of_kind code) n q))) ≡ noting l (becoming (λ (b : B). f (a, (tt, b))) (n q))
closed_first {B = B} f code n (Found b s k) q a l e = closed_sign f code n b s k (of_kind code s) q a l e
  where
    ends : {B C : Type 0} (f : (Expr × (Unit {0} × B)) → C) (b : Expr) (k j : ℕ) (m : Read B) → becoming f (noting k (becoming (joined b) (noting j (becoming (joined {A = Unit {0}} tt) m)))) ≡ noting (min k j) (becoming (λ (c : B). f (b, (tt, c))) m)
    ends f b k j (Found c r i) = let e : min k (min j i) ≡ min (min k j) i = omega arith in ap (λ x. Found (f (b, (tt, c))) r x) e
    ends f b k j (Stopped i) = let e : min k (min j i) ≡ min (min k j) i = omega arith in ap (λ x. Stopped x) e

    closed_sign : {B C : Type 0} (f : (Expr × (Unit {0} × B)) → C) (code : ℕ) (n : Run B) (b : Expr) (s : List Token) (k : ℕ) (w : Read (Unit {0})) (q : List Token) (a : Expr) (l : ℕ) → becoming before_it (noting k (becoming (joined b) w)) ≡ Found a q l
        → becoming f (noting k (becoming (joined b) (w >>= (λ (u : Unit {0}) r. becoming (joined u) (n r))))) ≡ noting l (becoming (λ (b : B). f (a, (tt, b))) (n q))
    closed_sign {B = B} f code n b s k (Found u r j) q a l e =
        let x : b ≡ a = cc in
        let y : r ≡ q = cc in
        let z : min k j ≡ l = cc in
        ends f b k j (n r) ∙ ap (λ (i : ℕ). noting i (becoming (λ (c : B). f (b, (tt, c))) (n r))) z ∙ ap (λ (t : List Token). noting l (becoming (λ (c : B). f (b, (tt, c))) (n t))) y
        ∙ ap (λ (d : Expr). noting l (becoming (λ (c : B). f (d, (tt, c))) (n q))) x
    closed_sign f code n b s k (Stopped j) q a l e = cc
closed_first f code n (Stopped k) q a l e = cc

closed_stops : {B C : Type 0} (f : (Expr × (Unit {0} × B)) → C) (code : ℕ) (n : Run B) (v : Read Expr) (l : ℕ) → becoming before_it (v >>= (λ a q. becoming (joined a) (of_kind code q))) ≡ Stopped l
    → becoming f (v >>= (λ a q. becoming (joined a) (in_turn (of_kind code) n q))) ≡ Stopped l
closed_stops f code n (Found b s k) l e = sign_stops f n b k (of_kind code s) l e
  where
    sign_stops : {B C : Type 0} (f : (Expr × (Unit {0} × B)) → C) (n : Run B) (b : Expr) (k : ℕ) (w : Read (Unit {0})) (l : ℕ) → becoming before_it (noting k (becoming (joined b) w)) ≡ Stopped l
        → becoming f (noting k (becoming (joined b) (w >>= (λ (u : Unit {0}) r. becoming (joined u) (n r))))) ≡ Stopped l
    sign_stops f n b k (Found u r j) l e = cc
    sign_stops f n b k (Stopped j) l e = let z : min k j ≡ l = cc in ap (λ i. Stopped i) z
closed_stops f code n (Stopped k) l e = let z : k ≡ l = cc in ap (λ i. Stopped i) z

pub sized_found : (element : BaseTree) (m : Run Expr) (ts q r s : List Token) (e : Expr) (more : List Expr) (d l k j : ℕ) → as_new before_it (in_turn m (of_kind (sign_code sign_of.RightBracket))) ts ≡ Found e q l → as_new (map length_of) (lengths_run m) q ≡ Found more r k
    → dims_run r ≡ Found d s j → as_new (sized_made element) (sized_run m) ts ≡ Found (creation_of.Sized element e more d) s (min l (min k j))
sized_found element m ts q r s e more d l k j f g i =
    closed_first (sized_made element) (sign_code sign_of.RightBracket) (in_turn (lengths_run m) dims_run) (m ts) q e l f ∙ ap (noting l) (more_lengths element e m q r s more d k j g i)

pub sized_stops : (element : BaseTree) (m : Run Expr) (ts : List Token) (l : ℕ) → as_new before_it (in_turn m (of_kind (sign_code sign_of.RightBracket))) ts ≡ Stopped l → as_new (sized_made element) (sized_run m) ts ≡ Stopped l
sized_stops element m ts l f = closed_stops (sized_made element) (sign_code sign_of.RightBracket) (in_turn (lengths_run m) dims_run) (m ts) l f

has_room : (h : ℕ) {B : Type 0} (m : Run B) (ts : List Token) → 0 < h → with_room h m ts ≡ m ts
unfolding with_room
has_room zero m ts e = absurd (omega (arith, e))
has_room (suc k) m ts e = refl

lacks_room : (h : ℕ) {B : Type 0} (m : Run B) (ts : List Token) → h ≡ 0 → with_room h m ts ≡ Stopped (length ts)
unfolding with_room
lacks_room zero m ts e = refl
lacks_room (suc k) m ts e = absurd (omega (arith, e))

-- behind an element type

module _ (h : ℕ) where
  abbrev E : Run Expr
  E = expr_in h

  abbrev A : Run ArrayInit
  A = array_in h

  near_sized : Near (sized_run E)
  near_sized =
      near_turn E _ (near_expr h) (near_turn (of_kind (sign_code sign_of.RightBracket)) _ (near_kind (sign_code sign_of.RightBracket))
      (near_turn (lengths_run E) dims_run (near_lengths h E A (near_expr h) (near_array_of h)) near_dims))

  near_initial : Near (in_turn (of_kind (sign_code sign_of.RightBracket)) (in_turn dims_run A))
  near_initial = near_turn (of_kind (sign_code sign_of.RightBracket)) _ (near_kind (sign_code sign_of.RightBracket)) (near_turn dims_run A near_dims (near_array_of h))

  pub room : {B : Type 0} (m : Run B) (ts : List Token) → 0 < h → with_room h m ts ≡ m ts
  room m ts e = has_room h m ts e

  pub no_room : {B : Type 0} (m : Run B) (ts : List Token) → h ≡ 0 → with_room h m ts ≡ Stopped (length ts)
  no_room m ts e = lacks_room h m ts e

  pub tail_initial : (element : BaseTree) (ts q r : List Token) → 0 < h → of_kind (sign_code sign_of.LeftBracket) ts ≡ found tt q → one_of (sign_code sign_of.RightBracket ∷ []) q ≡ true → of_kind (sign_code sign_of.RightBracket) q ≡ found tt r
      → as_new (array_creation element) (array_tail_run h E A) ts ≡ as_new (initial_made element) (in_turn dims_run A) r
  tail_initial element ts q r p e f g =
      ap (becoming (array_creation element)) (room _ ts p)
      ∙ behind_kind (array_creation element) (sign_code sign_of.LeftBracket) (either (sign_code sign_of.RightBracket ∷ []) (in_turn (of_kind (sign_code sign_of.RightBracket)) (in_turn dims_run A)) (sized_run E)) ts q
      (near_either (sign_code sign_of.RightBracket ∷ []) (in_turn (of_kind (sign_code sign_of.RightBracket)) (in_turn dims_run A)) (sized_run E) near_initial near_sized) e
      ∙ ap (becoming (λ x. array_creation element (tt, x))) (cond-true (one_of (sign_code sign_of.RightBracket ∷ []) q) _ _ f)
      ∙ twice (λ x. array_creation element (tt, x)) This (λ p. array_creation element (tt, This p)) (in_turn (of_kind (sign_code sign_of.RightBracket)) (in_turn dims_run A) q) (λ a. refl)
      ∙ behind_kind (λ p. array_creation element (tt, This p)) (sign_code sign_of.RightBracket) (in_turn dims_run A) q r (near_turn dims_run A near_dims (near_array_of h)) g

  pub tail_sized : (element : BaseTree) (ts q : List Token) → 0 < h → of_kind (sign_code sign_of.LeftBracket) ts ≡ found tt q → one_of (sign_code sign_of.RightBracket ∷ []) q ≡ false → as_new (array_creation element) (array_tail_run h E A) ts ≡ as_new (sized_made element) (sized_run E) q
  tail_sized element ts q p e f =
      ap (becoming (array_creation element)) (room _ ts p)
      ∙ behind_kind (array_creation element) (sign_code sign_of.LeftBracket) (either (sign_code sign_of.RightBracket ∷ []) (in_turn (of_kind (sign_code sign_of.RightBracket)) (in_turn dims_run A)) (sized_run E)) ts q
      (near_either (sign_code sign_of.RightBracket ∷ []) (in_turn (of_kind (sign_code sign_of.RightBracket)) (in_turn dims_run A)) (sized_run E) near_initial near_sized) e
      ∙ ap (becoming (λ x. array_creation element (tt, x))) (cond-false (one_of (sign_code sign_of.RightBracket ∷ []) q) _ _ f)
      ∙ twice (λ x. array_creation element (tt, x)) That (λ p. array_creation element (tt, That p)) (sized_run E q) (λ a. refl)

  pub tail_open : (element : BaseTree) (ts : List Token) → 0 < h → of_kind (sign_code sign_of.LeftBracket) ts ≡ Stopped (length ts) → as_new (array_creation element) (array_tail_run h E A) ts ≡ Stopped (length ts)
  tail_open element ts p e =
      ap (becoming (array_creation element)) (room _ ts p) ∙ ap (λ (v : Read (Unit {0})). becoming (array_creation element) (v >>= (λ (u : Unit {0}) q. becoming (joined u) (either (sign_code sign_of.RightBracket ∷ []) (in_turn (of_kind (sign_code sign_of.RightBracket)) (in_turn dims_run A)) (sized_run E) q)))) e

  pub tail_low : (element : BaseTree) (ts : List Token) → h ≡ 0 → as_new (array_creation element) (array_tail_run h E A) ts ≡ Stopped (length ts)
  tail_low element ts e = ap (becoming (array_creation element)) (no_room _ ts e)

  -- behind a class

  pub class_array : (class : ClassTree) (ts : List Token) → one_of (sign_code sign_of.LeftBracket ∷ []) ts ≡ true → as_new (class_creation class) (class_tail_run h E A class) ts ≡ as_new (array_creation (base_of.Class class)) (array_tail_run h E A) ts
  class_array class ts e =
      ap (becoming (class_creation class)) (cond-true (one_of (sign_code sign_of.LeftBracket ∷ []) ts) _ _ e) ∙ twice (class_creation class) This (array_creation (base_of.Class class)) (array_tail_run h E A ts) (λ a. refl)

  class_object : (class : ClassTree) (ts : List Token) → one_of (sign_code sign_of.LeftBracket ∷ []) ts ≡ false
      → as_new (class_creation class) (class_tail_run h E A class) ts ≡ becoming (λ p. class_creation class (That p)) (object_tail_run h E (ends_bare class) ts)
  class_object class ts e =
      ap (becoming (class_creation class)) (cond-false (one_of (sign_code sign_of.LeftBracket ∷ []) ts) _ _ e) ∙ twice (class_creation class) That (λ p. class_creation class (That p)) (object_tail_run h E (ends_bare class) ts) (λ a. refl)

  pub class_plain : (class : ClassTree) (ts : List Token) → one_of (sign_code sign_of.LeftBracket ∷ []) ts ≡ false → ends_bare class ≡ false → as_new (class_creation class) (class_tail_run h E A class) ts ≡ as_new (object_made class false) (object_run h E) ts
  class_plain class ts e f =
      class_object class ts e ∙ ap (λ (b : Bool). becoming (λ p. class_creation class (That p)) (object_tail_run h E b ts)) f
      ∙ twice (λ p. class_creation class (That p)) no_diamond (object_made class false) (object_run h E ts) (λ a. refl)

  pub class_diamond : (class : ClassTree) (ts q : List Token) (d : Bool) (l : ℕ) → one_of (sign_code sign_of.LeftBracket ∷ []) ts ≡ false → ends_bare class ≡ true → diamond_run ts ≡ Found d q l
      → as_new (class_creation class) (class_tail_run h E A class) ts ≡ noting l (as_new (object_made class d) (object_run h E) q)
  class_diamond class ts q d l e f g =
      class_object class ts e ∙ ap (λ (b : Bool). becoming (λ p. class_creation class (That p)) (object_tail_run h E b ts)) f
      ∙ then_made (λ p. class_creation class (That p)) diamond_run (object_run h E) ts q d l g

  -- whole creations

  pub creation_word : (ts q : List Token) (at : ℕ) (w : PrimitiveWord) → 0 < h → one_of primitive_codes ts ≡ true → word_run ts ≡ found (at, w) q → creation_run h E A ts ≡ as_new (array_creation (base_of.Primitive at w)) (array_tail_run h E A) q
  unfolding creation_run
  creation_word ts q at w p e f =
      ap (becoming creation_made) (cond-true (one_of primitive_codes ts) _ _ e ∙ ap (becoming This) (room _ ts p))
      ∙ twice creation_made This (λ x. array_creation (base_of.Primitive x.0.0 x.0.1) x.1) (in_turn word_run (array_tail_run h E A) ts) (λ a. refl)
      ∙ then_made (λ x. array_creation (base_of.Primitive x.0.0 x.0.1) x.1) word_run (array_tail_run h E A) ts q (at, w) (length q) f
      ∙ near_noted (array_creation (base_of.Primitive at w)) (length q) (array_tail_run h E A q) (near_array_tail h E A (near_expr h) (near_array_of h) q)

  pub creation_low : (ts : List Token) → h ≡ 0 → one_of primitive_codes ts ≡ true → creation_run h E A ts ≡ Stopped (length ts)
  unfolding creation_run
  creation_low ts p e = ap (becoming creation_made) (cond-true (one_of primitive_codes ts) _ _ e ∙ ap (becoming This) (no_room _ ts p))

  pub creation_class : (ts q : List Token) (class : ClassTree) (l : ℕ) → one_of primitive_codes ts ≡ false → class_run h ts ≡ Found class q l → creation_run h E A ts ≡ noting l (as_new (class_creation class) (class_tail_run h E A class) q)
  unfolding creation_run
  creation_class ts q class l e f =
      ap (becoming creation_made) (cond-false (one_of primitive_codes ts) _ _ e)
      ∙ twice creation_made That (λ x. class_creation x.0 x.1) (by_value (class_run h) (class_tail_run h E A) ts) (λ a. refl)
      ∙ value_made (λ x. class_creation x.0 x.1) (class_run h) (class_tail_run h E A) ts q class l f

  pub creation_stops : (ts : List Token) (l : ℕ) → one_of primitive_codes ts ≡ false → class_run h ts ≡ Stopped l → creation_run h E A ts ≡ Stopped l
  unfolding creation_run
  creation_stops ts l e f =
      ap (becoming creation_made) (cond-false (one_of primitive_codes ts) _ _ e)
      ∙ ap (λ (v : Read ClassTree). becoming creation_made (becoming That (v >>= (λ a q. becoming (joined a) (class_tail_run h E A a q))))) f
