-- Where a class literal or an outer `this` stands, no other primary is longer.
use Rattle.std.proofs.Common.{◌≡◌, ℕ, ◌≤◌, Bool, true, false, List, [], ◌∷◌, length, Option, Some, None, refl, sym, ◌∙◌, subst, ⊎_elim, ◌⊎◌, inl, inr, arith}
use Rattle.std.proofs.lemmas.Bool.{false≢true}
use Rattle.std.specs.Prelude.{nat_le}
use Rattle.jc_lexer.specs.declared.token.Key.TheVariants as key_of
use Rattle.jc_lexer.specs.declared.token.Sign.TheVariants as sign_of
use Rattle.jc_lexer.specs.declared.token.Token.{Token}
use Rattle.jc_lexer.specs.declared.token.TokenKind.{TokenKind}
use Rattle.jc_lexer.specs.declared.token.TokenKind.TheVariants as kind_of
use Rattle.jc_tree.specs.declared.name.Ident.{Ident}
use Rattle.jc_tree.specs.declared.expression.Creation.{Creation}
use Rattle.jc_tree.specs.declared.expression.ArrayInit.{ArrayInit}
use Rattle.jc_tree.specs.declared.expression.Expr.{Expr}
use Rattle.jc_tree.specs.Heights.{expr_height}
use Rattle.jc_grammar.specs.Told.{Told, ident, sign, key, names_after, brackets}
use Rattle.jc_grammar.specs.Shapes.{expr_shape}
use Rattle.jc_reading.specs.Kinds.{kind_code, sign_code, key_code, word_code, is_in, front_code, one_of}
use Rattle.jc_reading.specs.Reading.{Run, Either, This, That, Takes, rest_of}
use Rattle.jc_reading.proofs.Steps.{takes_length}
use Rattle.jc_reading.proofs.Forms.{Form, Lawful, Stands}
use Rattle.jc_reading.proofs.Pairs.{cut}
use Rattle.jc_reading.proofs.Signs.{a_sign, an_ident, apart_sets, within_sets, none_common, sign_laws, ident_laws}
use Rattle.jc_parse_type.specs.TypeReading.{primitive_codes}
use Rattle.jc_reading.proofs.Coded.{Coded, formed, optional, optional_laws, one_or}
use Rattle.jc_part_laws.proofs.ExprForms.{expr_codes}
use Rattle.jc_part_laws.proofs.PartForms.{sign_form, ident_form}
use Rattle.jc_reading.proofs.Prefers.{Prefer}
use Rattle.jc_expr_laws.specs.PrimeReading.{Selector, Dotted, Member, selected, selectors_run}
use Rattle.jc_expr_laws.specs.StartReading.{Special, SpecialTail, Plain}
use Rattle.jc_reading.proofs.Stepwise.{part, parts, cut_part}
use Rattle.jc_reading.proofs.Growing.{cut_first}
use Rattle.jc_expr_laws.proofs.PrimeSelectors.{Actuals, la, named, inner_new_laws, generic_laws, behind_dot, behind_dot_laws, dotted, indexed, index_second, part_form, sel_fits, sel_starts, selecting, prime_goes}
use Rattle.jc_expr_laws.proofs.PrimeStarts.{plain_of, Plains, plains_laws, LiteralOr, literal_or_laws}
use Rattle.jc_expr_laws.proofs.PrimeSpecials.{special_of, Specials, names_special, word_class, word_class_law, Tails}
use Rattle.jc_expr_laws.proofs.PrimeParts.{Sel_tell}
use Rattle.jc_expr_laws.proofs.PrimeForms.{plain_growing, special_growing, plain_grown, special_grown, Plain_first, Special_first}
use Rattle.jc_expr_laws.proofs.CreationRooms.{Below}
use Rattle.jc_expr_laws.proofs.CreationForms.{selector_codes}

clash : {A : Type 0} (xs ys : List ℕ) (ts : List Token) → none_common xs ys ≡ true → one_of xs ts ≡ true → one_of ys ts ≡ true → A
clash xs ys ts e f g = absurd (false≢true (sym (apart_sets xs ys e (front_code ts) f) ∙ g))

-- a token of a kind
of_kind_is : (codes : List ℕ) (k : Token) (ts : List Token) (j : TokenKind) → k.kind ≡ j → is_in codes (kind_code j) ≡ true → one_of codes (k ∷ ts) ≡ true
of_kind_is codes k ts j e f = subst (λ (i : TokenKind). is_in codes (kind_code i) ≡ true) (sym e) f

abbrev dot_codes : List ℕ
dot_codes = sign_code sign_of.Dot ∷ []

abbrev bracket : List ℕ
bracket = sign_code sign_of.LeftBracket ∷ []

abbrev ends : List ℕ
ends = key_code key_of.This ∷ key_code key_of.Class ∷ []

abbrev begun : List ℕ
begun = key_code key_of.New ∷ sign_code sign_of.Less ∷ word_code ∷ []

-- the tokens behind the names of a class literal or an outer `this`
abbrev tail_tell : SpecialTail → List Told → List Told
tail_tell (This (b, (dims, p))) r = sign sign_of.LeftBracket ∷ sign sign_of.RightBracket ∷ brackets dims (sign sign_of.Dot ∷ key key_of.Class ∷ r)
tail_tell (That (u, This v)) r = sign sign_of.Dot ∷ key key_of.This ∷ r
tail_tell (That (u, That v)) r = sign sign_of.Dot ∷ key key_of.Class ∷ r

abbrev Two : List ℕ → List ℕ → List Token → Type 0
Two xs ys ts = (one_of xs ts ≡ true) × (one_of ys (rest_of ts) ≡ true)

tail_second : (b : Bool) (t : SpecialTail) (ts m : List Token) → Takes b (tail_tell t []) ts m → Two bracket (sign_code sign_of.RightBracket ∷ []) ts ⊎ Two dot_codes ends ts
tail_second b (This (c, (dims, p))) [] m s = absurd s
tail_second b (This (c, (dims, p))) (k ∷ []) m s = absurd s.1
tail_second b (This (c, (dims, p))) (k ∷ j ∷ ts) m s = inl (of_kind_is bracket k (j ∷ ts) (kind_of.Sign sign_of.LeftBracket) s.0.0 refl, of_kind_is (sign_code sign_of.RightBracket ∷ []) j ts (kind_of.Sign sign_of.RightBracket) s.1.0.0 refl)
tail_second b (That (u, This v)) [] m s = absurd s
tail_second b (That (u, This v)) (k ∷ []) m s = absurd s.1
tail_second b (That (u, This v)) (k ∷ j ∷ ts) m s = inr (of_kind_is dot_codes k (j ∷ ts) (kind_of.Sign sign_of.Dot) s.0.0 refl, of_kind_is ends j ts (kind_of.Key key_of.This) s.1.0.0 refl)
tail_second b (That (u, That v)) [] m s = absurd s
tail_second b (That (u, That v)) (k ∷ []) m s = absurd s.1
tail_second b (That (u, That v)) (k ∷ j ∷ ts) m s = inr (of_kind_is dot_codes k (j ∷ ts) (kind_of.Sign sign_of.Dot) s.0.0 refl, of_kind_is ends j ts (kind_of.Key key_of.Class) s.1.0.0 refl)

-- a name behind a point, and the rest
name_second : (b : Bool) (i : Ident) (told : List Told) (ts m : List Token) → Takes b (sign sign_of.Dot ∷ ident i ∷ told) ts m → Two dot_codes (word_code ∷ []) ts × ((c : Bool) × Takes c told (rest_of (rest_of ts)) m)
name_second b i told [] m s = absurd s
name_second b i told (k ∷ []) m s = absurd s.1
name_second b i told (k ∷ j ∷ ts) m s = ((of_kind_is dot_codes k (j ∷ ts) (kind_of.Sign sign_of.Dot) s.0.0 refl, of_kind_is (word_code ∷ []) j ts (kind_of.Word i.text) s.1.0.0 refl), (_, s.1.1))

front_names : (b : Bool) (more : List Ident) (t : SpecialTail) (ts m : List Token) → Takes b (names_after more (tail_tell t [])) ts m → one_of selector_codes ts ≡ true
front_names b [] t ts m s = ⊎_elim (λ e. within_sets bracket selector_codes refl (front_code ts) e.0) (λ e. within_sets dot_codes selector_codes refl (front_code ts) e.0) (tail_second b t ts m s)
front_names b (i ∷ more) t ts m s = within_sets dot_codes selector_codes refl (front_code ts) (name_second b i (names_after more (tail_tell t [])) ts m s).0.0

module _ (h : ℕ) (expr : Run Expr) (array : Run ArrayInit) (below : Below h expr array) where
  abbrev Sel : Coded Dotted
  Sel = dotted h expr array below

  abbrev Parts : Expr → Form (List Selector)
  Parts v = parts Expr Selector selected (Sel_tell h expr array below) (sel_fits h expr array below) (selectors_run h expr array) (sel_starts h expr array below) (one_of prime_goes) v

  abbrev Part : Expr → Form Selector
  Part v = part Expr Selector selected (Sel_tell h expr array below) (sel_fits h expr array below) (selectors_run h expr array) (sel_starts h expr array below) (one_of prime_goes) v

  -- behind a point stands what it says
  dot_rest : (ts : List Token) (u : Unit {0}) (o : Either (Unit {0} × Creation) Member) (r : List Token) → Stands (formed Sel) ts (u, o) r → (one_of dot_codes ts ≡ true) × Stands (formed (behind_dot h expr array below)) (rest_of ts) o r
  dot_rest ts u o r s =
      let w = cut (Unit {0}) (Either (Unit {0} × Creation) Member) (formed (sign_form sign_of.Dot)) (formed (behind_dot h expr array below)) (sign_laws sign_of.Dot) (behind_dot_laws h expr array below) (λ us q. refl) ts (u, o) r s in (
        ⊎_elim (λ e. e.0) (λ e. absurd (false≢true e.1)) ((sign_laws sign_of.Dot).opens ts u w.0 w.1),
        subst (λ (l : List Token). Stands (formed (behind_dot h expr array below)) l o r) (rest_is ts w.0 w.1) w.2,
      )
    where
      rest_is : (ts m : List Token) → Stands (a_sign sign_of.Dot) ts u m → m ≡ rest_of ts
      rest_is [] m t = absurd t.0
      rest_is (k ∷ ts) m t = sym t.0.1

  -- what fits as a part is a selector
  as_selector : (room sized : Bool) (ts : List Token) (p : Selector) (r : List Token) → Stands (part_form h expr array below room sized) ts p r → Stands (formed (one_or bracket (indexed h expr array below) Sel)) ts p r
  as_selector true false ts p r s = s
  as_selector true true ts (This p) r s = absurd (false≢true s.1)
  as_selector true true ts (That d) r s = s
  as_selector false sized ts p r s = absurd (false≢true s.1)

  of_part : (v : Expr) (ts : List Token) (p : Selector) (r : List Token) → Stands (Part v) ts p r → Stands (formed (one_or bracket (indexed h expr array below) Sel)) ts p r
  of_part v ts p r s = as_selector (nat_le (expr_height v) h) (expr_shape v).sized ts p r s

  selector_second : (ts : List Token) (p : Selector) (r : List Token) → Stands (formed (one_or bracket (indexed h expr array below) Sel)) ts p r → Two bracket expr_codes ts ⊎ Two dot_codes begun ts
  selector_second ts (This p) r s = inl (index_second h expr array below ts p r s)
  selector_second ts (That (u, o)) r s =
      let w = dot_rest ts u o r s in
      inr (w.0, ⊎_elim (λ e. within_sets (behind_dot h expr array below).starts begun refl (front_code (rest_of ts)) e.0) (λ e. absurd (false≢true e.1)) ((behind_dot_laws h expr array below).opens (rest_of ts) o r w.1))

  no_part : (b : Bool) (t : SpecialTail) (ts m : List Token) (p : Selector) (r : List Token) → Takes b (tail_tell t []) ts m → Stands (formed (one_or bracket (indexed h expr array below) Sel)) ts p r → ⊥
  no_part b t ts m p r s k =
      ⊎_elim
      (λ e. ⊎_elim (λ f. clash (sign_code sign_of.RightBracket ∷ []) expr_codes (rest_of ts) refl e.1 f.1) (λ f. clash bracket dot_codes ts refl e.0 f.0) (selector_second ts p r k))
      (λ e. ⊎_elim (λ f. clash dot_codes bracket ts refl e.0 f.0) (λ f. clash ends begun (rest_of ts) refl e.1 f.1) (selector_second ts p r k))
      (tail_second b t ts m s)

  -- a name, and actual arguments or not
  named_rest : (ts : List Token) (name : Ident) (o : Option (List Expr)) (r : List Token) → Stands (formed (named h expr array below)) ts (name, o) r → Stands (formed (optional (Actuals h expr array below))) (rest_of ts) o r
  named_rest ts name o r s =
      let w = cut Ident (Option (List Expr)) (formed ident_form) (formed (optional (Actuals h expr array below))) ident_laws (optional_laws (List Expr) (Actuals h expr array below) (la h expr array below) refl) (λ us q. refl) ts (name, o) r s in
      subst (λ (l : List Token). Stands (formed (optional (Actuals h expr array below))) l o r) (rest_is ts w.0 w.1) w.2
    where
      rest_is : (ts m : List Token) → Stands an_ident ts name m → m ≡ rest_of ts
      rest_is [] m t = absurd t.0
      rest_is (k ∷ ts) m t = sym t.0.1

  actuals_front : (ts : List Token) (list : List Expr) (r : List Token) → Stands (formed (optional (Actuals h expr array below))) ts (Some list) r → one_of (sign_code sign_of.LeftParen ∷ []) ts ≡ true
  actuals_front ts list r s = ⊎_elim (λ e. e.0) (λ e. absurd (false≢true e.1)) ((la h expr array below).opens ts list r s)

  -- what follows a name in a name, where a class literal or an outer `this` stands
  On : List Token → List Token → Type 0
  On m r = (length m ≤ length r) × (one_of prime_goes r ≡ true)

  walk : (more : List Ident) (b : Bool) (t : SpecialTail) (ts m : List Token) (v : Expr) (list : List Selector) (r : List Token) → Takes b (names_after more (tail_tell t [])) ts m → Stands (Parts v) ts list r → On m r
  unfolding On
  walk more b t ts m v [] r s k = (
    subst (λ (l : List Token). length m ≤ length l) k.0 (omega (arith, takes_length b (names_after more (tail_tell t [])) ts m s)),
    subst (λ (l : List Token). one_of prime_goes l ≡ true) k.0 (within_sets selector_codes prime_goes refl (front_code ts) (front_names b more t ts m s)),
  )
  walk [] b t ts m v (p ∷ list) r s k =
      let c = cut_part Expr Selector selected (Sel_tell h expr array below) (sel_fits h expr array below) (selectors_run h expr array) (sel_starts h expr array below) (one_of prime_goes) (selecting h expr array below) v ts p list r k in
      absurd (no_part b t ts m p c.0 s (of_part v ts p c.0 c.1))
  walk (i ∷ more) b t ts m v (This p ∷ list) r s k =
      let c = cut_part Expr Selector selected (Sel_tell h expr array below) (sel_fits h expr array below) (selectors_run h expr array) (sel_starts h expr array below) (one_of prime_goes) (selecting h expr array below) v ts (This p) list r k in
      clash dot_codes bracket ts refl (name_second b i (names_after more (tail_tell t [])) ts m s).0.0 (index_second h expr array below ts p c.0 (of_part v ts (This p) c.0 c.1)).0
  walk (i ∷ more) b t ts m v (That (u, This p) ∷ list) r s k =
      let c = cut_part Expr Selector selected (Sel_tell h expr array below) (sel_fits h expr array below) (selectors_run h expr array) (sel_starts h expr array below) (one_of prime_goes) (selecting h expr array below) v ts (That (u, This p)) list r k in
      let d = dot_rest ts u (This p) c.0 (of_part v ts (That (u, This p)) c.0 c.1) in
      clash (word_code ∷ []) (key_code key_of.New ∷ []) (rest_of ts) refl (name_second b i (names_after more (tail_tell t [])) ts m s).0.1
      (⊎_elim (λ e. e.0) (λ e. absurd (false≢true e.1)) ((inner_new_laws h expr array below).opens (rest_of ts) p c.0 d.1))
  walk (i ∷ more) b t ts m v (That (u, That (This p)) ∷ list) r s k =
      let c = cut_part Expr Selector selected (Sel_tell h expr array below) (sel_fits h expr array below) (selectors_run h expr array) (sel_starts h expr array below) (one_of prime_goes) (selecting h expr array below) v ts (That (u, That (This p))) list r k in
      let d = dot_rest ts u (That (This p)) c.0 (of_part v ts (That (u, That (This p))) c.0 c.1) in
      clash (word_code ∷ []) (sign_code sign_of.Less ∷ []) (rest_of ts) refl (name_second b i (names_after more (tail_tell t [])) ts m s).0.1
      (⊎_elim (λ e. e.0) (λ e. absurd (false≢true e.1)) ((generic_laws h expr array below).opens (rest_of ts) p c.0 d.1))
  walk (i ∷ more) b t ts m v (That (u, That (That (name, Some l))) ∷ list) r s k =
      let c = cut_part Expr Selector selected (Sel_tell h expr array below) (sel_fits h expr array below) (selectors_run h expr array) (sel_starts h expr array below) (one_of prime_goes) (selecting h expr array below) v ts (That (u, That (That (name, Some l)))) list r k in
      let d = dot_rest ts u (That (That (name, Some l))) c.0 (of_part v ts (That (u, That (That (name, Some l)))) c.0 c.1) in
      let n = name_second b i (names_after more (tail_tell t [])) ts m s in
      clash selector_codes (sign_code sign_of.LeftParen ∷ []) (rest_of (rest_of ts)) refl (front_names n.1.0 more t (rest_of (rest_of ts)) m n.1.1) (actuals_front (rest_of (rest_of ts)) l c.0 (named_rest (rest_of ts) name (Some l) c.0 d.1))
  walk (i ∷ more) b t ts m v (That (u, That (That (name, None))) ∷ list) r s k =
      let c = cut_part Expr Selector selected (Sel_tell h expr array below) (sel_fits h expr array below) (selectors_run h expr array) (sel_starts h expr array below) (one_of prime_goes) (selecting h expr array below) v ts (That (u, That (That (name, None)))) list r k in
      let d = dot_rest ts u (That (That (name, None))) c.0 (of_part v ts (That (u, That (That (name, None)))) c.0 c.1) in
      let n = name_second b i (names_after more (tail_tell t [])) ts m s in
      let e : rest_of (rest_of ts) ≡ c.0 = (named_rest (rest_of ts) name None c.0 d.1).0 in
      walk more n.1.0 t (rest_of (rest_of ts)) m (selected v (That (u, That (That (name, None))))) list r n.1.1
      (subst (λ (l : List Token). Stands (Parts (selected v (That (u, That (That (name, None)))))) l list r) (sym e) c.2)

  told_tail : (t : SpecialTail) (r : List Told) → (Tails h).tell t r ≡ tail_tell t r
  told_tail (This (b, (dims, p))) r = refl
  told_tail (That (u, This v)) r = refl
  told_tail (That (u, That v)) r = refl

  first_rest : (b : Bool) (i : Ident) (told : List Told) (ts m : List Token) → Takes b (ident i ∷ told) ts m → (one_of (word_code ∷ []) ts ≡ true) × ((c : Bool) × Takes c told (rest_of ts) m)
  first_rest b i told [] m s = absurd s
  first_rest b i told (k ∷ ts) m s = (of_kind_is (word_code ∷ []) k ts (kind_of.Word i.text) s.0.0 refl, (_, s.1))

  -- names, and what else may stand there
  longer_names : (ts : List Token) (first : Ident) (more : List Ident) (t : SpecialTail) (m : List Token) (a : Plain) (e : Expr) (list : List Selector) (n r : List Token) → Stands (formed (names_special h)) ts (first, (more, t)) m → Stands (formed (Plains h expr array below)) ts a n → Stands (Parts e) n list r → On m r
  longer_names ts first more t m (This (name, None)) e list n r s k l =
      let f = first_rest false first (names_after more (tail_tell t [])) ts m (subst (λ (d : List Told). Takes false (ident first ∷ names_after more d) ts m) (told_tail t []) s.0) in
      let q : rest_of ts ≡ n = (named_rest ts name None n k).0 in
      walk more f.1.0 t (rest_of ts) m e list r f.1.1 (subst (λ (d : List Token). Stands (Parts e) d list r) (sym q) l)
  longer_names ts first more t m (This (name, Some args)) e list n r s k l =
      let f = first_rest false first (names_after more (tail_tell t [])) ts m (subst (λ (d : List Told). Takes false (ident first ∷ names_after more d) ts m) (told_tail t []) s.0) in
      clash selector_codes (sign_code sign_of.LeftParen ∷ []) (rest_of ts) refl (front_names f.1.0 more t (rest_of ts) m f.1.1) (actuals_front (rest_of ts) args n (named_rest ts name (Some args) n k))
  longer_names ts first more t m (That a) e list n r s k l =
      let f = first_rest false first (names_after more (tail_tell t [])) ts m (subst (λ (d : List Told). Takes false (ident first ∷ names_after more d) ts m) (told_tail t []) s.0) in
      clash (word_code ∷ []) (LiteralOr h expr array below).starts ts refl f.0 (⊎_elim (λ o. o.0) (λ o. absurd (false≢true o.1)) ((literal_or_laws h expr array below).opens ts a n k))

  longer_special : (ts : List Token) (s : Special) (m : List Token) (a : Plain) (e : Expr) (list : List Selector) (n r : List Token) → Stands (formed (Specials h)) ts s m → Stands (formed (Plains h expr array below)) ts a n → Stands (Parts e) n list r → On m r
  longer_special ts (This w) m a e list n r s k l =
      ⊎_elim
      (λ (lw : Lawful _ (formed (word_class h))). clash primitive_codes (Plains h expr array below).starts ts refl (⊎_elim (λ o. o.0) (λ o. absurd (false≢true o.1)) (lw.opens ts w m s))
      (⊎_elim (λ o. o.0) (λ o. absurd (false≢true o.1)) ((plains_laws h expr array below).opens ts a n k)))
      (λ v. absurd (false≢true (sym (v.never w) ∙ s.1))) (word_class_law h)
  longer_special ts (That (first, (more, t))) m a e list n r s k l = longer_names ts first more t m a e list n r s k l

  pub prefer_special : Prefer (Expr × List Selector) (Expr × List Selector) prime_goes (special_grown h expr array below) (plain_grown h expr array below)
  unfolding On
  prefer_special = record {
    solid = refl;
    solid' = refl;
    goes_first = λ r e. e;
    goes_second = λ r e. e;
    longer = longer;
  }
    where
      longer : (ts : List Token) (a : Expr × List Selector) (q : List Token) (b : Expr × List Selector) (r : List Token) → Stands (formed (special_grown h expr array below)) ts a q → Stands (formed (plain_grown h expr array below)) ts b r → (length q ≤ length r) × (one_of prime_goes r ≡ true)
      longer ts a q b r s k =
          let c = cut_first Expr Selector selected (Sel_tell h expr array below) (sel_fits h expr array below) (selectors_run h expr array) (sel_starts h expr array below) (one_of prime_goes) (formed (Special_first h expr array below)) (special_growing h expr array below) ts a q s in
          let d = cut_first Expr Selector selected (Sel_tell h expr array below) (sel_fits h expr array below) (selectors_run h expr array) (sel_starts h expr array below) (one_of prime_goes) (formed (Plain_first h expr array below)) (plain_growing h expr array below) ts b r k in
          let x = special_of h ts a.0 c.0 c.1 in
          let y = plain_of h expr array below ts b.0 d.0 d.1 in
          let o = longer_special ts x.0 c.0 y.0 b.0 b.1 d.0 r x.2 y.2 d.2 in
          (omega (arith, o.0, takes_length false ((Parts a.0).tell a.1 []) c.0 q c.2.0), o.1)
