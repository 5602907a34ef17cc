-- The form of primaries with postfix operators, and that they are read as they are to be.
use Rattle.std.proofs.Common.{◌≡◌, ℕ, zero, suc, ◌≤◌, Bool, true, false, List, [], ◌∷◌, Some, refl, sym, ap, ◌∙◌, subst, ⊎_elim, arith}
use Rattle.std.proofs.Math.Bool.{and-true}
use Rattle.std.proofs.lemmas.Bool.{false≢true, and_parts, and_from, leb-true, le-leb}
use Rattle.std.specs.Prelude.{◌&&◌, nat_le}
use Rattle.jc_lexer.specs.declared.token.Sign.{Sign}
use Rattle.jc_lexer.specs.declared.token.Sign.TheVariants as sign_of
use Rattle.jc_lexer.specs.declared.token.Token.{Token}
use Rattle.jc_lexer.specs.declared.token.TokenKind.{TokenKind}
use Rattle.jc_lexer.specs.declared.token.TokenKind.TheVariants as kind_of
use Rattle.jc_tree.specs.declared.expression.ArrayInit.{ArrayInit}
use Rattle.jc_tree.specs.declared.expression.PostfixOp.{PostfixOp}
use Rattle.jc_tree.specs.declared.expression.PostfixOp.TheVariants as postfix_of
use Rattle.jc_tree.specs.declared.expression.Expr.{Expr, Expr-F, out-Expr, roll-Expr, roll-out-Expr}
use Rattle.jc_tree.specs.declared.expression.Expr.TheVariants as expr_of
use Rattle.jc_tree.specs.Heights.{expr_height}
use Rattle.jc_tree.proofs.HeightsOfExpressions.{expr_height-Postfix}
use Rattle.jc_grammar.specs.Told.{Told, sign}
use Rattle.jc_grammar.specs.Expressions.{expr_tokens, postfix_sign}
use Rattle.jc_grammar.specs.Shapes.{Shape, stands, prime_level, post_level, expr_shape}
use Rattle.jc_grammar.proofs.ShapesOfExpressions.{expr_shape-Postfix}
use Rattle.jc_grammar.proofs.TokensOfExpressions.{expr_tokens-Postfix}
use Rattle.jc_reading.specs.Kinds.{kind_code, sign_code, is_in, front_code, one_of}
use Rattle.jc_reading.specs.Reading.{Run}
use Rattle.jc_reading.proofs.Steps.{IsFound}
use Rattle.jc_reading.proofs.Forms.{Form, Lawful, Stands}
use Rattle.jc_reading.proofs.Kindly.{token, Picks, token_laws}
use Rattle.jc_reading.proofs.Lists.{tell_all}
use Rattle.jc_reading.proofs.Codes.{some_is, none_is}
use Rattle.jc_reading.proofs.Rooms.{room_suc}
use Rattle.jc_reading.proofs.Retests.{retested_laws}
use Rattle.jc_reading.proofs.Signs.{apart_sets}
use Rattle.jc_reading.proofs.Coded.{Coded, formed, coded, made_laws}
use Rattle.jc_part_laws.proofs.ExprForms.{expr_tall}
use Rattle.jc_reading.specs.Growing.{grown}
use Rattle.jc_expr_laws.specs.PostReading.{op_of_sign, op_of_kind, picks_op, op_run, changed, ops_run, changed_by, post_run}
use Rattle.jc_reading.proofs.Stepwise.{Steady, steady_from, steady_void, fits_from, Stepping}
use Rattle.jc_reading.proofs.Growing.{grows, Growing, growing_laws}
use Rattle.jc_expr_laws.proofs.PrimeSelectors.{prime_goes, outside}
use Rattle.jc_expr_laws.proofs.PrimeStarts.{prime_fits}
use Rattle.jc_expr_laws.proofs.PrimeWhole.{Layer, postfix_layer, prime_is_post, prime_coded, prime_laws, prime_of_kind}
use Rattle.jc_expr_laws.proofs.CreationRooms.{Below}

abbrev pub op_codes : List ℕ
op_codes = sign_code sign_of.Increment ∷ sign_code sign_of.Decrement ∷ []

from_sign : (s : Sign) (op : PostfixOp) → op_of_sign s ≡ Some op → kind_of.Sign s ≡ kind_of.Sign (postfix_sign op)
from_sign sign_of.Increment op e = ap (λ (o : PostfixOp). kind_of.Sign (postfix_sign o)) (some_is postfix_of.Increment op e)
from_sign sign_of.Decrement op e = ap (λ (o : PostfixOp). kind_of.Sign (postfix_sign o)) (some_is postfix_of.Decrement op e)
from_sign _ op e = absurd (none_is op e)

from_kind : (k : TokenKind) (op : PostfixOp) → op_of_kind k ≡ Some op → k ≡ kind_of.Sign (postfix_sign op)
from_kind (kind_of.Sign s) op e = from_sign s op e
from_kind (kind_of.Word t) op e = absurd (none_is op e)
from_kind (kind_of.Number v l d) op e = absurd (none_is op e)
from_kind (kind_of.CharLit u) op e = absurd (none_is op e)
from_kind (kind_of.StringLit u) op e = absurd (none_is op e)
from_kind (kind_of.Key k) op e = absurd (none_is op e)

to_kind : (op : PostfixOp) → op_of_kind (kind_of.Sign (postfix_sign op)) ≡ Some op
to_kind postfix_of.Increment = refl
to_kind postfix_of.Decrement = refl

op_coded : (op : PostfixOp) → is_in op_codes (sign_code (postfix_sign op)) ≡ true
op_coded postfix_of.Increment = refl
op_coded postfix_of.Decrement = refl

abbrev op_told : PostfixOp → Told
op_told op = sign (postfix_sign op)

op_picks : Picks PostfixOp op_codes picks_op op_told
op_picks = record {
  tells = λ t op e. (from_kind t.kind op e, tt, λ q. absurd (false≢true q), λ q. absurd (false≢true q));
  picks = λ t op i. ap op_of_kind i.0 ∙ to_kind op;
  coded = λ t op e. subst (λ k. is_in op_codes (kind_code k) ≡ true) (sym (from_kind t.kind op e)) (op_coded op);
  apart = λ op. refl;
  sample = record { kind = kind_of.Sign sign_of.Increment; from = 0; to = 0; touches = false };
  value = postfix_of.Increment;
  sampled = refl;
}

op_laws : Lawful PostfixOp (token PostfixOp op_codes picks_op op_told)
op_laws = token_laws PostfixOp op_codes picks_op op_told op_picks

-- what may go on in a primary with operators
abbrev pub post_goes : List ℕ
post_goes = sign_code sign_of.Increment ∷ sign_code sign_of.Decrement ∷ prime_goes

abbrev op_tell : PostfixOp → List Told → List Told
op_tell op r = op_told op ∷ r

abbrev op_fits : Bool → PostfixOp → Bool
op_fits true op = true
op_fits false op = false

abbrev op_starts : Bool → List Token → Bool
op_starts true ts = one_of op_codes ts
op_starts false ts = false

abbrev op_form : Bool → Form PostfixOp
op_form room = record { tell = op_tell; fits = op_fits room; run = op_run room; starts = op_starts room; goes_on = one_of post_goes; empties = false }

op_steady : (room : Bool) → Steady PostfixOp (op_form room)
op_steady true =
    steady_from PostfixOp (op_form true)
    (retested_laws PostfixOp (token PostfixOp op_codes picks_op op_told) (one_of op_codes) (one_of post_goes) op_laws
    (record { opens = λ ts a r s lt. ⊎_elim (λ o. o.0) (λ o. absurd (false≢true o.1)) (op_laws.opens ts a r s); refuses = op_laws.refuses; goes_too = λ ts e. absurd (false≢true e) })) refl
op_steady false = steady_void PostfixOp (op_form false) (λ ts. refl) (λ op. refl)

op_over : (room : Bool) (ts : List Token) → one_of post_goes ts ≡ false → op_starts room ts ≡ false
op_over true ts e = outside op_codes post_goes (front_code ts) refl e
op_over false ts e = refl

op_next : (room : Bool) (ts : List Token) (op : PostfixOp) (r : List Token) → Stands (op_form room) ts op r → IsFound op r (op_run room ts)
op_next true ts op r s = op_laws.exact ts op r s refl
op_next false ts op r s = absurd (false≢true s.1)

op_front : (room : Bool) (ts : List Token) (op : PostfixOp) (r : List Token) → Stands (op_form room) ts op r → one_of op_codes ts ≡ true
op_front true ts op r s = ((op_steady true).opens ts op r s).0
op_front false ts op r s = absurd (false≢true s.1)

fits_room : (room : Bool) (op : PostfixOp) → op_fits room op ≡ room
fits_room true op = refl
fits_room false op = refl

module _ (h : ℕ) (expr : Run Expr) (array : Run ArrayInit) (below : Below h expr array) where
  abbrev Fits : Expr → PostfixOp → Bool
  Fits v = op_fits (nat_le (expr_height v) h)

  abbrev Starts : Expr → List Token → Bool
  Starts v = op_starts (nat_le (expr_height v) h)

  changing : Stepping Expr PostfixOp changed op_tell Fits (ops_run h) Starts (one_of post_goes)
  changing = record {
    steady = λ v. op_steady (nat_le (expr_height v) h);
    over = λ v ts e. op_over (nat_le (expr_height v) h) ts e;
    next = λ v ts p m q r s t. op_next (nat_le (expr_height v) h) ts p m s;
  }

  abbrev Prime : Coded Expr
  Prime = prime_coded h expr array below

  post_growing : Growing Expr PostfixOp changed op_tell Fits (ops_run h) Starts (one_of post_goes) (formed Prime)
  post_growing = record {
    stepping = changing;
    lawful = prime_laws h expr array below;
    solid = refl;
    goes = λ ts e. outside prime_goes post_goes (front_code ts) refl e;
    next = λ ts v m p r s t. (prime_laws h expr array below).exact ts v m s (apart_sets op_codes prime_goes refl (front_code m) (op_front (nat_le (expr_height v) h) m p r t));
  }

  abbrev Grown : Coded (Expr × List PostfixOp)
  Grown = coded (grows Expr PostfixOp changed op_tell Fits (ops_run h) Starts (one_of post_goes) (formed Prime)) Prime.starts post_goes

  grown_laws : Lawful (Expr × List PostfixOp) (formed Grown)
  grown_laws = growing_laws Expr PostfixOp changed op_tell Fits (ops_run h) Starts (one_of post_goes) (formed Prime) post_growing

  abbrev From : Expr → List PostfixOp → Bool
  From v list = fits_from Expr PostfixOp changed op_tell Fits (ops_run h) Starts (one_of post_goes) v list

  -- an expression of the level of postfix operators, of height at most one more than h
  abbrev pub post_fits : Expr → Bool
  post_fits e = nat_le (expr_height e) (suc h) && stands post_level (expr_shape e)

  fits_changed : (v : Expr) (op : PostfixOp) → post_fits (changed v op) ≡ (nat_le (expr_height v) h && stands post_level (expr_shape v))
  fits_changed v op =
      ap (λ n. nat_le n (suc h) && stands post_level (expr_shape (changed v op))) (expr_height-Postfix v op)
      ∙ ap (λ b. b && stands post_level (expr_shape (changed v op))) (room_suc (expr_height v) h)
      ∙ ap (λ (s : Shape). nat_le (expr_height v) h && stands post_level s) (expr_shape-Postfix v op)
      ∙ ap (λ b. nat_le (expr_height v) h && b) (and-true (stands post_level (expr_shape v)))

  told_changed : (v : Expr) (list : List PostfixOp) (r : List Told) → expr_tokens (grown changed v list) r ≡ expr_tokens v (tell_all op_tell list r)
  told_changed v [] r = refl
  told_changed v (op ∷ list) r = told_changed (changed v op) list r ∙ expr_tokens-Postfix v op (tell_all op_tell list r)

  fits_grown : (v : Expr) (list : List PostfixOp) → post_fits v ≡ true → From v list ≡ true → post_fits (grown changed v list) ≡ true
  fits_grown v [] e g = e
  fits_grown v (op ∷ list) e g =
      let f = and_parts (Fits v op) (From (changed v op) list) g in
      let s = (and_parts (nat_le (expr_height v) (suc h)) (stands post_level (expr_shape v)) e).1 in
      fits_grown (changed v op) list (fits_changed v op ∙ and_from (nat_le (expr_height v) h) (stands post_level (expr_shape v)) (sym (fits_room (nat_le (expr_height v) h) op) ∙ f.0) s) f.1

  prime_post : (e : Expr) → prime_fits h e ≡ true → post_fits e ≡ true
  prime_post e g =
      let f = and_parts (nat_le (expr_height e) (suc h)) (stands prime_level (expr_shape e)) g in
      and_from (nat_le (expr_height e) (suc h)) (stands post_level (expr_shape e)) f.0 (prime_is_post (expr_shape e) f.1)

  -- what an operator changes
  record Changes (e : Expr) : Type 0 where
    of_it : Expr
    op : PostfixOp
    same : changed of_it op ≡ e

  changes : (e : Expr) (l : Layer) → out-Expr e ≡ l → postfix_layer l ≡ true → Changes e
  changes e (Expr-F.Postfix of_it op) q k = record { of_it = of_it; op = op; same = sym (expr_of.rolls-Postfix of_it op) ∙ ap roll-Expr (sym q) ∙ roll-out-Expr e }
  changes e _ q k = absurd (false≢true k)

  record Unwound (e : Expr) (acc : List PostfixOp) : Type 0 where
    start : Expr
    list : List PostfixOp
    same : grown changed start list ≡ grown changed e acc
    fits : prime_fits h start ≡ true
    rest : From start list ≡ true

  unwind : (n : ℕ) (e : Expr) (acc : List PostfixOp) → expr_height e ≤ n → post_fits e ≡ true → From e acc ≡ true → Unwound e acc
  unwind zero e acc le f g = absurd (false≢true (sym (expr_tall e) ∙ le-leb (expr_height e) 0 le))
  unwind (suc n) e acc le f g =
      let p = and_parts (nat_le (expr_height e) (suc h)) (stands post_level (expr_shape e)) f in
      ⊎_elim
      (λ k. record { start = e; list = acc; same = refl; fits = and_from (nat_le (expr_height e) (suc h)) (stands prime_level (expr_shape e)) p.0 k; rest = g })
      (λ k.
      let c = changes e (out-Expr e) refl k in
      let w = and_parts (nat_le (expr_height c.of_it) h) (stands post_level (expr_shape c.of_it)) (sym (fits_changed c.of_it c.op) ∙ ap post_fits c.same ∙ f) in
      let le1 : expr_height c.of_it ≤ h = leb-true (expr_height c.of_it) h w.0 in
      let k1 : expr_height e ≡ suc (expr_height c.of_it) = ap expr_height (sym c.same) ∙ expr_height-Postfix c.of_it c.op in
      let fit = and_from (nat_le (expr_height c.of_it) (suc h)) (stands post_level (expr_shape c.of_it)) (le-leb (expr_height c.of_it) (suc h) (omega (arith, le1))) w.1 in
      let t = and_from (Fits c.of_it c.op) (From (changed c.of_it c.op) acc) (fits_room (nat_le (expr_height c.of_it) h) c.op ∙ w.0) (subst (λ (d : Expr). From d acc ≡ true) (sym c.same) g) in
      let u = unwind n c.of_it (c.op ∷ acc) (omega (arith, k1, le)) fit t in
      record { start = u.start; list = u.list; same = u.same ∙ ap (λ (d : Expr). grown changed d acc) c.same; fits = u.fits; rest = u.rest })
      (prime_of_kind e p.1)

  -- a primary with postfix operators
  abbrev pub post_coded : Coded Expr
  post_coded = record { tell = expr_tokens; fits = post_fits; run = post_run h expr array; starts = Prime.starts; goes = post_goes; empties = false }

  pub post_laws : Lawful Expr (formed post_coded)
  unfolding post_run
  post_laws =
      made_laws (Expr × List PostfixOp) Expr Grown changed_by expr_tokens post_fits grown_laws
      (record {
        told = λ g r e. told_changed g.0 g.1 r;
        forth = λ g e. let f = and_parts (prime_fits h g.0) (From g.0 g.1) e in fits_grown g.0 g.1 (prime_post g.0 f.0) f.1;
        back = λ e g. let u = unwind (expr_height e) e [] (omega arith) g refl in
            ((u.start, u.list), u.same, and_from (prime_fits h u.start) (From u.start u.list) u.fits u.rest);
      })
