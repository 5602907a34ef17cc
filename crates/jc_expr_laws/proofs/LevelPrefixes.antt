-- Chains of prefix operators before what is none.
use Rattle.std.proofs.Common.{◌≡◌, ℕ, suc, Bool, true, false, List, [], ◌∷◌, ◌++◌, map, Option, Some, None, refl, sym, ap, ◌∙◌, subst}
use Rattle.std.proofs.lemmas.Bool.{false≢true, and_parts, and_from}
use Rattle.std.specs.Prelude.{◌&&◌, nat_le, not}
use Rattle.jc_lexer.specs.declared.token.Sign.{Sign}
use Rattle.jc_lexer.specs.declared.token.Sign.TheVariants as sign_of
use Rattle.jc_lexer.specs.declared.token.TokenKind.{TokenKind}
use Rattle.jc_lexer.specs.declared.token.TokenKind.TheVariants as kind_of
use Rattle.jc_tree.specs.declared.expression.ArrayInit.{ArrayInit}
use Rattle.jc_tree.specs.declared.expression.Creation.{Creation}
use Rattle.jc_tree.specs.declared.expression.Expr.{Expr, Expr-F, out-Expr, roll-Expr, roll-out-Expr, map-Expr}
use Rattle.jc_tree.specs.declared.expression.Expr.TheVariants as expr_of
use Rattle.jc_tree.specs.declared.expression.Init.{Init}
use Rattle.jc_tree.specs.declared.expression.Operand.{Operand}
use Rattle.jc_tree.specs.declared.expression.PrefixOp.{PrefixOp}
use Rattle.jc_tree.specs.declared.expression.PrefixSign.{PrefixSign}
use Rattle.jc_tree.specs.declared.expression.PrefixSign.TheVariants as prefix_of
use Rattle.jc_tree.specs.Heights.{expr_height}
use Rattle.jc_tree.proofs.HeightsOfExpressions.{expr_height-Prefix}
use Rattle.jc_grammar.specs.Told.{Told, sign_at}
use Rattle.jc_grammar.specs.Expressions.{expr_tokens, prefix_sign, prefix_tokens}
use Rattle.jc_grammar.specs.Shapes.{Shape, CreationShape, OperandShape, stands, expr_shape, creation_shape, operand_shape, is_init, is_array, expr_shape_step, chain_shape, prefix_level}
use Rattle.jc_grammar.proofs.ShapesOfExpressions.{expr_shape-out, expr_shape-Prefix}
use Rattle.jc_grammar.proofs.TokensOfExpressions.{expr_tokens-Prefix}
use Rattle.jc_reading.specs.Kinds.{kind_code, sign_code, is_in}
use Rattle.jc_reading.specs.Reading.{Run, Either, This, That, as_new}
use Rattle.jc_reading.proofs.Codes.{some_is, none_is}
use Rattle.jc_reading.proofs.Forms.{Form, Lawful}
use Rattle.jc_reading.proofs.Kindly.{token, token_laws}
use Rattle.jc_reading.proofs.Lists.{tell_all}
use Rattle.jc_reading.proofs.Rooms.{room_suc}
use Rattle.jc_reading.proofs.Signs.{sign_at_laws}
use Rattle.jc_reading.proofs.Coded.{Coded, formed, coded, in_order, in_order_laws, repeated, repeated_laws, one_or, one_or_laws, made_laws}
use Rattle.jc_part_laws.proofs.PartForms.{sign_at_form}
use Rattle.jc_part_laws.proofs.ExprForms.{bare_codes, plain_codes}
use Rattle.jc_expr_laws.specs.LevelReading.{prefix_of_sign, prefix_of_kind, prefix_placed, picks_prefix, prefix_op_run, plain_op, plain_op_run, prefix_made, prefix_codes, prefix_run}

-- what may go on in an expression of the postfix level
abbrev pub post_goes : List ℕ
post_goes = sign_code sign_of.Dot ∷ sign_code sign_of.LeftBracket ∷ sign_code sign_of.LeftParen ∷ sign_code sign_of.LeftBrace ∷ sign_code sign_of.Increment ∷ sign_code sign_of.Decrement ∷ []

-- what may go on in one that may be a cast's type in parentheses
abbrev pub bare_goes : List ℕ
bare_goes = post_goes ++ plain_codes

-- the operators

from_sign : (s : Sign) (p : PrefixSign) → prefix_of_sign s ≡ Some p → s ≡ prefix_sign p
from_sign sign_of.Plus p e = ap prefix_sign (some_is prefix_of.Plus p e)
from_sign sign_of.Minus p e = ap prefix_sign (some_is prefix_of.Minus p e)
from_sign sign_of.Increment p e = ap prefix_sign (some_is prefix_of.Increment p e)
from_sign sign_of.Decrement p e = ap prefix_sign (some_is prefix_of.Decrement p e)
from_sign sign_of.Not p e = ap prefix_sign (some_is prefix_of.Not p e)
from_sign sign_of.Tilde p e = ap prefix_sign (some_is prefix_of.Complement p e)
from_sign _ p e = absurd (none_is p e)

from_kind : (k : TokenKind) (p : PrefixSign) → prefix_of_kind k ≡ Some p → k ≡ kind_of.Sign (prefix_sign p)
from_kind (kind_of.Sign s) p e = ap (λ x. kind_of.Sign x) (from_sign s p e)
from_kind (kind_of.Word t) p e = absurd (none_is p e)
from_kind (kind_of.Number v l d) p e = absurd (none_is p e)
from_kind (kind_of.CharLit u) p e = absurd (none_is p e)
from_kind (kind_of.StringLit u) p e = absurd (none_is p e)
from_kind (kind_of.Key k) p e = absurd (none_is p e)

to_sign : (p : PrefixSign) → prefix_of_sign (prefix_sign p) ≡ Some p
to_sign prefix_of.Plus = refl
to_sign prefix_of.Minus = refl
to_sign prefix_of.Increment = refl
to_sign prefix_of.Decrement = refl
to_sign prefix_of.Not = refl
to_sign prefix_of.Complement = refl

from_place : (at : ℕ) (o : Option PrefixSign) (op : PrefixOp) → prefix_placed at o ≡ Some op → (at ≡ op.at) × (o ≡ Some op.sign)
from_place at None op e = absurd (none_is op e)
from_place at (Some s) op e = let w = some_is (record { at = at; sign = s }) op e in (ap (λ (q : PrefixOp). q.at) w, ap (λ (q : PrefixOp). Some q.sign) w)

sign_coded : (p : PrefixSign) → is_in prefix_codes (sign_code (prefix_sign p)) ≡ true
sign_coded prefix_of.Plus = refl
sign_coded prefix_of.Minus = refl
sign_coded prefix_of.Increment = refl
sign_coded prefix_of.Decrement = refl
sign_coded prefix_of.Not = refl
sign_coded prefix_of.Complement = refl

abbrev pub op_told : PrefixOp → Told
op_told op = sign_at (prefix_sign op.sign) op.at

abbrev AnOp : Form PrefixOp
AnOp = token PrefixOp prefix_codes picks_prefix op_told

pub an_op_laws : Lawful PrefixOp AnOp
an_op_laws = token_laws PrefixOp prefix_codes picks_prefix op_told
    (record {
      tells = λ t op e. let w = from_place t.from (prefix_of_kind t.kind) op e in (from_kind t.kind op.sign w.1, w.0, λ q. absurd (false≢true q), λ q. absurd (false≢true q));
      picks = λ t op i. ap (λ k. prefix_placed t.from (prefix_of_kind k)) i.0 ∙ ap (prefix_placed t.from) (to_sign op.sign) ∙ ap (λ n. Some (record { at = n; sign = op.sign })) i.1;
      coded = λ t op e. let w = from_place t.from (prefix_of_kind t.kind) op e in subst (λ k. is_in prefix_codes (kind_code k) ≡ true) (sym (from_kind t.kind op.sign w.1)) (sign_coded op.sign);
      apart = λ op. refl;
      sample = record { kind = kind_of.Sign sign_of.Not; from = 0; to = 0; touches = false };
      value = record { at = 0; sign = prefix_of.Not };
      sampled = refl;
    })

abbrev pub op_form : Coded PrefixOp
op_form = coded AnOp prefix_codes []

-- those that make an expression of a level
abbrev pub ops_of : ℕ → Run PrefixOp → List ℕ → Coded PrefixOp
ops_of level run starts = record { tell = λ op r. op_told op ∷ r; fits = λ op. nat_le level (prefix_level op.sign); run = run; starts = starts; goes = []; empties = false }

unary_sign : (s : PrefixSign) → nat_le 12 (prefix_level s) ≡ true
unary_sign prefix_of.Plus = refl
unary_sign prefix_of.Minus = refl
unary_sign prefix_of.Increment = refl
unary_sign prefix_of.Decrement = refl
unary_sign prefix_of.Not = refl
unary_sign prefix_of.Complement = refl

abbrev itself : PrefixOp → PrefixOp
itself op = op

pub any_op_laws : Lawful PrefixOp (formed (ops_of 12 (as_new itself prefix_op_run) prefix_codes))
any_op_laws = made_laws PrefixOp PrefixOp op_form itself (λ op r. op_told op ∷ r) (λ op. nat_le 12 (prefix_level op.sign)) an_op_laws
    (record { told = λ op r g. refl; forth = λ op g. unary_sign op.sign; back = λ op g. (op, refl, refl) })

abbrev PlainOp : Coded (Either ℕ ℕ)
PlainOp = one_or (sign_code sign_of.Not ∷ []) (sign_at_form sign_of.Not) (sign_at_form sign_of.Tilde)

pub plain_op_laws : Lawful PrefixOp (formed (ops_of 13 plain_op_run (sign_code sign_of.Not ∷ sign_code sign_of.Tilde ∷ [])))
unfolding plain_op_run
plain_op_laws = made_laws (Either ℕ ℕ) PrefixOp PlainOp plain_op (λ op r. op_told op ∷ r) (λ op. nat_le 13 (prefix_level op.sign))
    (one_or_laws ℕ ℕ (sign_code sign_of.Not ∷ []) (sign_at_form sign_of.Not) (sign_at_form sign_of.Tilde) (sign_at_laws sign_of.Not) (sign_at_laws sign_of.Tilde) (record { solid = refl; solid' = refl; this = refl; that = refl }))
    (record { told = told; forth = forth; back = λ op g. back op.sign op.at g })
  where
    told : (o : Either ℕ ℕ) (r : List Told) → PlainOp.fits o ≡ true → (op_told (plain_op o) ∷ r) ≡ PlainOp.tell o r
    told (This at) r g = refl
    told (That at) r g = refl

    forth : (o : Either ℕ ℕ) → PlainOp.fits o ≡ true → nat_le 13 (prefix_level (plain_op o).sign) ≡ true
    forth (This at) g = refl
    forth (That at) g = refl

    back : (s : PrefixSign) (at : ℕ) → nat_le 13 (prefix_level s) ≡ true → (o : Either ℕ ℕ) × (plain_op o ≡ record { at = at; sign = s }) × (PlainOp.fits o ≡ true)
    back prefix_of.Not at g = (This at, refl, refl)
    back prefix_of.Complement at g = (That at, refl, refl)
    back _ at g = absurd (false≢true g)

-- which expressions are chains of prefix operators

abbrev Layer : Type 0
Layer = Expr-F Creation Expr Init Operand ArrayInit

abbrev shaped : Layer → Shape
shaped l = expr_shape_step (map-Expr Creation Expr Init Operand ArrayInit CreationShape Shape Bool OperandShape Bool creation_shape expr_shape is_init operand_shape is_array l)

pub record IsPrefix (e : Expr) : Type 0 where
  pub first : PrefixOp
  pub more : List PrefixOp
  pub operand : Expr
  pub is_it : expr_of.Prefix first more operand ≡ e

chain_flag : (s : Shape) (os : List OperandShape) → (chain_shape s os).prefix ≡ false
chain_flag s [] = refl
chain_flag s (o ∷ os) = refl

prefix_layer : (e : Expr) (l : Layer) → out-Expr e ≡ l → (shaped l).prefix ≡ true → IsPrefix e
prefix_layer e (Expr-F.Prefix first more operand) q g = record { first = first; more = more; operand = operand; is_it = sym (expr_of.rolls-Prefix first more operand) ∙ ap roll-Expr (sym q) ∙ roll-out-Expr e }
prefix_layer e (Expr-F.Chain first rest) q g = absurd (false≢true (sym (chain_flag (expr_shape first) (map operand_shape rest)) ∙ g))
prefix_layer e _ q g = absurd (false≢true g)

pub prefix_only : (e : Expr) → (expr_shape e).prefix ≡ true → IsPrefix e
prefix_only e g = prefix_layer e (out-Expr e) refl (sym (ap (λ (s : Shape). s.prefix) (expr_shape-out e)) ∙ g)

-- Bare: no chain of prefix operators
abbrev pub bare_fits : ℕ → Expr → Bool
bare_fits h e = nat_le (expr_height e) h && (stands 13 (expr_shape e) && not (expr_shape e).prefix)

abbrev pub bare_coded : ℕ → Run Expr → Coded Expr
bare_coded h run = record { tell = expr_tokens; fits = bare_fits h; run = run; starts = bare_codes; goes = bare_goes; empties = false }

pub prefix_told : (ops : List PrefixOp) (r : List Told) → prefix_tokens ops r ≡ tell_all (λ op s. op_told op ∷ s) ops r
prefix_told [] r = refl
prefix_told (op ∷ ops) r = ap (λ (l : List Told). op_told op ∷ l) (prefix_told ops r)

pub all_ops : (ops : List PrefixOp) → (repeated op_form).fits ops ≡ true
all_ops [] = refl
all_ops (op ∷ ops) = all_ops ops

module _ (level h : ℕ) (first : Run PrefixOp) (starts : List ℕ) (lower : Run Expr) where
  abbrev Parts : Coded (PrefixOp × (List PrefixOp × Expr))
  Parts = in_order (ops_of level first starts) (in_order (repeated op_form) (bare_coded h lower))

  abbrev prefix_fits : Expr → Bool
  prefix_fits e = nat_le (expr_height e) (suc h) && (stands level (expr_shape e) && (expr_shape e).prefix)

  abbrev pub prefix_coded : Coded Expr
  prefix_coded = record { tell = expr_tokens; fits = prefix_fits; run = prefix_run first lower; starts = starts; goes = bare_goes; empties = false }

  forth : (p : PrefixOp × (List PrefixOp × Expr)) → Parts.fits p ≡ true → prefix_fits (prefix_made p) ≡ true
  forth (op, (ops, e)) g =
      let a = and_parts (nat_le level (prefix_level op.sign)) ((repeated op_form).fits ops && bare_fits h e) g in
      let b = and_parts ((repeated op_form).fits ops) (bare_fits h e) a.1 in
      let c = and_parts (nat_le (expr_height e) h) (stands 13 (expr_shape e) && not (expr_shape e).prefix) b.1 in
      and_from (nat_le (expr_height (expr_of.Prefix op ops e)) (suc h)) (stands level (expr_shape (expr_of.Prefix op ops e)) && (expr_shape (expr_of.Prefix op ops e)).prefix)
      (ap (λ (n : ℕ). nat_le n (suc h)) (expr_height-Prefix op ops e) ∙ room_suc (expr_height e) h ∙ c.0)
      (subst (λ (s : Shape). (stands level s && s.prefix) ≡ true) (sym (expr_shape-Prefix op ops e))
      (and_from ((stands 13 (expr_shape e) && not (expr_shape e).prefix) && nat_le level (prefix_level op.sign)) true (and_from (stands 13 (expr_shape e) && not (expr_shape e).prefix) (nat_le level (prefix_level op.sign)) c.1 a.0) refl))

  back_of : (e : Expr) → IsPrefix e → prefix_fits e ≡ true → (p : PrefixOp × (List PrefixOp × Expr)) × (prefix_made p ≡ e) × (Parts.fits p ≡ true)
  back_of e w g =
      let x = expr_of.Prefix w.first w.more w.operand in
      let f : prefix_fits x ≡ true = subst (λ (y : Expr). prefix_fits y ≡ true) (sym w.is_it) g in
      let a = and_parts (nat_le (expr_height x) (suc h)) (stands level (expr_shape x) && (expr_shape x).prefix) f in
      let k = subst (λ (s : Shape). (stands level s && s.prefix) ≡ true) (expr_shape-Prefix w.first w.more w.operand) a.1 in
      let b = and_parts ((stands 13 (expr_shape w.operand) && not (expr_shape w.operand).prefix) && nat_le level (prefix_level w.first.sign)) true k in
      let c = and_parts (stands 13 (expr_shape w.operand) && not (expr_shape w.operand).prefix) (nat_le level (prefix_level w.first.sign)) b.0 in
      let n : nat_le (expr_height w.operand) h ≡ true = sym (ap (λ (n : ℕ). nat_le n (suc h)) (expr_height-Prefix w.first w.more w.operand) ∙ room_suc (expr_height w.operand) h) ∙ a.0 in (
        (w.first, (w.more, w.operand)),
        w.is_it,
        and_from (nat_le level (prefix_level w.first.sign)) ((repeated op_form).fits w.more && bare_fits h w.operand) c.1
            (and_from ((repeated op_form).fits w.more) (bare_fits h w.operand) (all_ops w.more) (and_from (nat_le (expr_height w.operand) h) (stands 13 (expr_shape w.operand) && not (expr_shape w.operand).prefix) n c.0)),
      )

  flag : (e : Expr) → prefix_fits e ≡ true → (expr_shape e).prefix ≡ true
  flag e g = (and_parts (stands level (expr_shape e)) (expr_shape e).prefix (and_parts (nat_le (expr_height e) (suc h)) (stands level (expr_shape e) && (expr_shape e).prefix) g).1).1

  pub prefix_laws : Lawful PrefixOp (formed (ops_of level first starts)) → Lawful Expr (formed (bare_coded h lower)) → Lawful Expr (formed prefix_coded)
  prefix_laws lo lb = made_laws (PrefixOp × (List PrefixOp × Expr)) Expr Parts prefix_made expr_tokens prefix_fits
      (in_order_laws PrefixOp (List PrefixOp × Expr) (ops_of level first starts) (in_order (repeated op_form) (bare_coded h lower)) lo
      (in_order_laws (List PrefixOp) Expr (repeated op_form) (bare_coded h lower) (repeated_laws PrefixOp op_form an_op_laws refl refl) lb refl) refl)
      (record {
        told = λ p r g. expr_tokens-Prefix p.0 p.1.0 p.1.1 r ∙ ap (λ (l : List Told). op_told p.0 ∷ l) (prefix_told p.1.0 (expr_tokens p.1.1 r));
        forth = forth;
        back = λ e g. back_of e (prefix_only e (flag e g)) g;
      })
