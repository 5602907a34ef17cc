-- The forms of annotations and modifiers, and that they are read as they are to be.
use Rattle.std.proofs.Common.{◌≡◌, ℕ, zero, suc, ◌<◌, ◌≤◌, Bool, true, false, List, [], ◌∷◌, ◌++◌, map, length, length-append, Option, Some, None, refl, sym, ap, ◌∙◌, subst, ⊎_elim, inl, inr, arith}
use Rattle.std.proofs.lemmas.Bool.{false≢true, or_parts, and_left}
use Rattle.std.specs.Prelude.{◌&&◌, ◌==◌, nat_le}
use Rattle.std.specs.List.{list_all}
use Rattle.jc_lexer.specs.declared.token.Sign.TheVariants as sign_of
use Rattle.jc_lexer.specs.declared.token.Token.{Token}
use Rattle.jc_lexer.specs.declared.token.TokenKind.TheVariants as kind_of
use Rattle.jc_tree.specs.declared.name.Ident.{Ident}
use Rattle.jc_tree.specs.declared.expression.Expr.{Expr}
use Rattle.jc_tree.specs.declared.expression.Expr.TheVariants as expr_of
use Rattle.jc_tree.specs.declared.statement.AnnotationValue.{AnnotationValue, AnnotationValue-F, out-AnnotationValue, roll-AnnotationValue, roll-out-AnnotationValue, map-AnnotationValue}
use Rattle.jc_tree.specs.declared.statement.AnnotationValue.TheVariants as value_of
use Rattle.jc_tree.specs.declared.statement.Pair.{Pair}
use Rattle.jc_tree.specs.Heights.{most, expr_height, value_height, value_step, pair_height}
use Rattle.jc_tree.proofs.HeightsOfExpressions.{expr_height-Name}
use Rattle.jc_tree.proofs.HeightsOfStatements.{value_height-out, value_height-Value, value_height-List}
use Rattle.jc_grammar.specs.Told.{Told}
use Rattle.jc_grammar.specs.Parts.{value_tokens, pair_tokens}
use Rattle.jc_grammar.specs.Shapes.{all_true}
use Rattle.jc_grammar.specs.Units.{is_value}
use Rattle.jc_grammar.proofs.ShapesOfExpressions.{expr_shape-Name}
use Rattle.jc_grammar.proofs.ShapesOfStatements.{is_value-Value, is_value-List}
use Rattle.jc_grammar.proofs.TokensOfExpressions.{expr_tokens-Name}
use Rattle.jc_grammar.proofs.TokensOfStatements.{value_tokens-Value, value_tokens-List}
use Rattle.jc_reading.specs.Kinds.{kind_code, sign_code, is_in, front_code, one_of}
use Rattle.jc_reading.specs.Reading.{Read, Either, This, That, Takes, rest_of}
use Rattle.jc_reading.proofs.Steps.{Goes, takes_front}
use Rattle.jc_reading.proofs.Forms.{Lawful, Stands}
use Rattle.jc_reading.proofs.Lists.{fits_all}
use Rattle.jc_reading.proofs.Signs.{sign_laws, sign_at_laws, ident_laws}
use Rattle.jc_reading.proofs.Rooms.{room_none, room_above, room_suc, room_max}
use Rattle.jc_part_laws.specs.PartReading.{Exprs, value_made, value_run, pair_made}
use Rattle.jc_part_laws.proofs.Bools.{swap_four}
use Rattle.jc_reading.proofs.Coded.{Coded, formed, in_order, in_order_laws, one_or, one_or_laws, made, Makes, made_laws, same_makes}
use Rattle.jc_part_laws.proofs.ExprForms.{ExprLaws, expr_codes, conditional_goes, conditional_coded, expr_tall}
use Rattle.jc_reading.proofs.Lowest.{Law}
use Rattle.jc_part_laws.proofs.PartForms.{sign_form, sign_at_form, ident_form}
use Rattle.jc_reading.proofs.Prefers.{preferred, preferred_laws}
use Rattle.jc_part_laws.proofs.Rows.{row, row_laws}

-- heights and shapes of a list together
pub room_and : {A : Type 0} (height : A → ℕ) (shape : A → Bool) (h : ℕ) (list : List A) → (nat_le (most (map height list)) h && list_all shape list) ≡ fits_all (λ a. nat_le (height a) h && shape a) list
room_and height shape h [] = ap (λ b. b && true) (room_above h)
room_and height shape h (a ∷ list) =
    ap (λ b. b && (shape a && list_all shape list)) (room_max (height a) (most (map height list)) h)
    ∙ swap_four (nat_le (height a) h) (nat_le (most (map height list)) h) (shape a) (list_all shape list)
    ∙ ap (λ b. (nat_le (height a) h && shape a) && b) (room_and height shape h list)

pub all_mapped : {A : Type 0} (shape : A → Bool) (list : List A) → all_true (map shape list) ≡ list_all shape list
all_mapped shape [] = refl
all_mapped shape (a ∷ list) = ap (λ b. shape a && b) (all_mapped shape list)

module _ (x : Exprs) where
  abbrev pub value_codes : List ℕ
  value_codes = sign_code sign_of.LeftBrace ∷ expr_codes

  abbrev value_fits : ℕ → AnnotationValue → Bool
  value_fits h value = nat_le (value_height value) h && is_value value

  abbrev pub value_coded : ℕ → Coded AnnotationValue
  value_coded h = record { tell = value_tokens; fits = value_fits h; run = value_run x h; starts = value_codes; goes = conditional_goes; empties = false }

  value_low : (value : AnnotationValue) (l : AnnotationValue-F AnnotationValue) → out-AnnotationValue value ≡ l → nat_le (value_height value) 0 ≡ false
  value_low value (AnnotationValue-F.Value e) q = ap (λ n. nat_le n 0) (value_height-out value ∙ ap (λ (l : AnnotationValue-F AnnotationValue). value_step (map-AnnotationValue AnnotationValue ℕ value_height l)) q) ∙ expr_tall e
  value_low value (AnnotationValue-F.List at values trailing) q = ap (λ n. nat_le n 0) (value_height-out value ∙ ap (λ (l : AnnotationValue-F AnnotationValue). value_step (map-AnnotationValue AnnotationValue ℕ value_height l)) q) ∙ room_none _

  pub value_never : (value : AnnotationValue) → value_fits 0 value ≡ false
  value_never value = and_left (nat_le (value_height value) 0) (is_value value) (value_low value (out-AnnotationValue value) refl)

  module _ (h : ℕ) where
    abbrev ValueRow : Coded (List AnnotationValue × Bool)
    ValueRow = row sign_of.RightBrace refl AnnotationValue (value_coded h)

    abbrev Listing : Coded (ℕ × (List AnnotationValue × Bool))
    Listing = in_order (sign_at_form sign_of.LeftBrace) ValueRow

    abbrev Values : Coded (Either (ℕ × (List AnnotationValue × Bool)) Expr)
    Values = one_or (sign_code sign_of.LeftBrace ∷ []) Listing (conditional_coded x (suc h))

    told_value : (o : Either (ℕ × (List AnnotationValue × Bool)) Expr) (r : List Told) → value_tokens (value_made o) r ≡ Values.tell o r
    told_value (This (at, (values, trailing))) r = value_tokens-List at values trailing r
    told_value (That e) r = value_tokens-Value e r

    fit_value : (o : Either (ℕ × (List AnnotationValue × Bool)) Expr) → value_fits (suc h) (value_made o) ≡ Values.fits o
    fit_value (This (at, (values, trailing))) =
        ap (λ n. nat_le n (suc h) && is_value (value_of.List at values trailing)) (value_height-List at values trailing)
        ∙ ap (λ b. b && is_value (value_of.List at values trailing)) (room_suc (most (map value_height values)) h)
        ∙ ap (λ b. nat_le (most (map value_height values)) h && b) (is_value-List at values trailing ∙ all_mapped is_value values)
        ∙ room_and value_height is_value h values
    fit_value (That e) = ap (λ n. nat_le n (suc h) && is_value (value_of.Value e)) (value_height-Value e) ∙ ap (λ b. nat_le (expr_height e) (suc h) && b) (is_value-Value e)

    back_value : (value : AnnotationValue) (l : AnnotationValue-F AnnotationValue) → out-AnnotationValue value ≡ l → (o : Either (ℕ × (List AnnotationValue × Bool)) Expr) × (value_made o ≡ value)
    back_value value (AnnotationValue-F.Value e) q = (That e, sym (value_of.rolls-Value e) ∙ ap roll-AnnotationValue (sym q) ∙ roll-out-AnnotationValue value)
    back_value value (AnnotationValue-F.List at values trailing) q = (This (at, (values, trailing)), sym (value_of.rolls-List at values trailing) ∙ ap roll-AnnotationValue (sym q) ∙ roll-out-AnnotationValue value)

  value_next : ExprLaws x → (h : ℕ) → Law AnnotationValue (value_coded h) → Lawful AnnotationValue (formed (value_coded (suc h)))
  unfolding value_run
  value_next lx h l =
      made_laws (Either (ℕ × (List AnnotationValue × Bool)) Expr) AnnotationValue (Values h) value_made value_tokens (value_fits (suc h))
      (one_or_laws (ℕ × (List AnnotationValue × Bool)) Expr (sign_code sign_of.LeftBrace ∷ []) (Listing h) (conditional_coded x (suc h))
      (in_order_laws ℕ (List AnnotationValue × Bool) (sign_at_form sign_of.LeftBrace) (ValueRow h) (sign_at_laws sign_of.LeftBrace)
      (row_laws sign_of.RightBrace refl AnnotationValue (value_coded h) l (record { solid = refl; not_end = refl; stops = refl }) refl) refl)
      (lx.conditional h) (record { solid = refl; solid' = refl; this = refl; that = refl }))
      (same_makes (Either (ℕ × (List AnnotationValue × Bool)) Expr) AnnotationValue (Values h) value_made value_tokens (value_fits (suc h))
      (record { told = told_value h; fit = fit_value h; back = λ value. back_value h value (out-AnnotationValue value) refl }))

  pub value_law : ExprLaws x → (h : ℕ) → Law AnnotationValue (value_coded h)
  unfolding value_run
  value_law lx zero = inr (record { stops = λ ts. refl; never = value_never })
  value_law lx (suc h) = inl (value_next lx h (value_law lx h))

  pub value_laws : ExprLaws x → (h : ℕ) → Lawful AnnotationValue (formed (value_coded (suc h)))
  value_laws lx h = value_next lx h (value_law lx h)

  -- [Id "="] Value

  module _ (h : ℕ) where
    abbrev Named : Coded (Ident × (Unit {0} × AnnotationValue))
    Named = in_order ident_form (in_order (sign_form sign_of.Assign) (value_coded h))

    abbrev Pairs : Coded (Either (Ident × (Unit {0} × AnnotationValue)) AnnotationValue)
    Pairs = preferred (Ident × (Unit {0} × AnnotationValue)) AnnotationValue (sign_code sign_of.Assign ∷ conditional_goes) Named (value_coded h)

    abbrev pub pair_fits : Pair → Bool
    pair_fits pair = nat_le (pair_height pair) h && is_value pair.value

    abbrev pub Paired : Coded Pair
    Paired = made (Either (Ident × (Unit {0} × AnnotationValue)) AnnotationValue) Pair Pairs (pair_made x) pair_tokens pair_fits

    told_pair : (o : Either (Ident × (Unit {0} × AnnotationValue)) AnnotationValue) (r : List Told) → pair_tokens (pair_made x o) r ≡ Pairs.tell o r
    told_pair (This p) r = refl
    told_pair (That value) r = refl

    fit_pair : (o : Either (Ident × (Unit {0} × AnnotationValue)) AnnotationValue) → pair_fits (pair_made x o) ≡ Pairs.fits o
    fit_pair (This p) = refl
    fit_pair (That value) = refl

    back_named : (name : Option Ident) (value : AnnotationValue) → (o : Either (Ident × (Unit {0} × AnnotationValue)) AnnotationValue) × (pair_made x o ≡ record { name = name; value = value })
    back_named None value = (That value, refl)
    back_named (Some name) value = (This (name, (tt, value)), refl)

    pair_makes : Makes (Either (Ident × (Unit {0} × AnnotationValue)) AnnotationValue) Pair Pairs (pair_made x) pair_tokens pair_fits
    pair_makes = same_makes (Either (Ident × (Unit {0} × AnnotationValue)) AnnotationValue) Pair Pairs (pair_made x) pair_tokens pair_fits (record { told = told_pair; fit = fit_pair; back = λ p. back_named p.name p.value })

  -- a word alone is a value
  stands_word : (h : ℕ) (t : Token) (i : Ident) (r : List Token) → t.kind ≡ kind_of.Word i.text → t.from ≡ i.at → Stands (formed (value_coded (suc h))) (t ∷ r) (value_of.Value (expr_of.Name i)) r
  stands_word h t i r k e = (
    subst (λ (l : List Told). Takes false l (t ∷ r) r) (sym (value_tokens-Value (expr_of.Name i) [] ∙ expr_tokens-Name i [])) ((k, e, λ q. absurd (false≢true q), λ q. absurd (false≢true q)), refl),
    ap (λ n. nat_le n (suc h) && is_value (value_of.Value (expr_of.Name i))) (value_height-Value (expr_of.Name i) ∙ expr_height-Name i)
        ∙ ap (λ b. b && is_value (value_of.Value (expr_of.Name i))) (room_suc 0 h ∙ room_above h)
        ∙ is_value-Value (expr_of.Name i) ∙ ap (λ s. s.good && nat_le 1 s.level) (expr_shape-Name i),
  )

  -- what is left behind one token
  same_rest : (front r us : List Token) (t : Token) → (t ∷ us) ≡ front ++ r → length r ≡ length us → us ≡ r
  same_rest [] r us t e l = absurd (omega (arith, ap length e, l))
  same_rest (f ∷ []) r us t e l = ap rest_of e
  same_rest (f ∷ g ∷ front) r us t e l = absurd (omega (arith, ap length e, length-append front r, l))

  module _ (lx : ExprLaws x) (h : ℕ) where
    lv : Lawful AnnotationValue (formed (value_coded (suc h)))
    lv = value_laws lx h

    named_laws : Lawful (Ident × (Unit {0} × AnnotationValue)) (formed (Named (suc h)))
    named_laws = in_order_laws Ident (Unit {0} × AnnotationValue) ident_form (in_order (sign_form sign_of.Assign) (value_coded (suc h))) ident_laws (in_order_laws (Unit {0}) AnnotationValue (sign_form sign_of.Assign) (value_coded (suc h)) (sign_laws sign_of.Assign) lv refl) refl

    longer : (ts : List Token) (a : Ident × (Unit {0} × AnnotationValue)) (q : List Token) (b : AnnotationValue) (r : List Token) → Stands (formed (Named (suc h))) ts a q → Stands (formed (value_coded (suc h))) ts b r → (length q ≤ length r) × (one_of (sign_code sign_of.Assign ∷ conditional_goes) r ≡ true)
    longer [] a q b r s t = absurd s.0
    longer (k ∷ []) a q b r s t = absurd s.0.1
    longer (k ∷ m ∷ ts) a q b r s t =
        let name = stands_word h k a.0 (m ∷ ts) s.0.0.0 s.0.0.1 in
        let assign : kind_code m.kind ≡ sign_code sign_of.Assign = ap kind_code s.0.1.0.0 in
        let ends : one_of conditional_goes (m ∷ ts) ≡ false = ap (λ n. is_in conditional_goes n) assign in
        let exactly = lv.exact (k ∷ m ∷ ts) (value_of.Value (expr_of.Name a.0)) (m ∷ ts) name ends in
        let most_left : length (m ∷ ts) ≤ length r = subst (λ (v : Read AnnotationValue). Goes (length r) v) exactly.1 (lv.longest (k ∷ m ∷ ts) b r t) in
        let some_taken : length r < length (k ∷ m ∷ ts) = ⊎_elim (λ o. o.1) (λ o. absurd (false≢true o.1)) (lv.opens (k ∷ m ∷ ts) b r t) in
        let f = takes_front false (value_tokens b []) (k ∷ m ∷ ts) r t.0 in
        let rest : (m ∷ ts) ≡ r = same_rest f.0 r (m ∷ ts) k f.1 (omega (arith, most_left, some_taken)) in
        let named_taken : length q < length (k ∷ m ∷ ts) = ⊎_elim (λ o. o.1) (λ o. absurd (false≢true o.1)) (named_laws.opens (k ∷ m ∷ ts) a q s) in
        (omega (arith, most_left, named_taken), subst (λ (l : List Token). one_of (sign_code sign_of.Assign ∷ conditional_goes) l ≡ true) rest (ap (λ n. is_in (sign_code sign_of.Assign ∷ conditional_goes) n) assign))

    pub pairs_laws : Lawful Pair (formed (Paired (suc h)))
    pairs_laws =
        made_laws (Either (Ident × (Unit {0} × AnnotationValue)) AnnotationValue) Pair (Pairs (suc h)) (pair_made x) pair_tokens (pair_fits (suc h))
        (preferred_laws (Ident × (Unit {0} × AnnotationValue)) AnnotationValue (sign_code sign_of.Assign ∷ conditional_goes) (Named (suc h)) (value_coded (suc h)) named_laws lv
        (record { solid = refl; solid' = refl; goes_first = λ r e. later r e; goes_second = λ r e. later r e; longer = longer }))
        (pair_makes (suc h))
      where
        later : (r : List Token) → one_of (sign_code sign_of.Assign ∷ conditional_goes) r ≡ false → one_of conditional_goes r ≡ false
        later r e = (or_parts (sign_code sign_of.Assign == front_code r) (one_of conditional_goes r) e).1
