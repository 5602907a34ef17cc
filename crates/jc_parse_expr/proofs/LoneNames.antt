-- A name that is a whole operand, as each level down to primaries reads it (JLS 15.14.1).
use Rattle.std.proofs.Common.{◌≡◌, ℕ, zero, suc, ◌-◌, ◌<◌, min, Bool, true, false, not, ◌==◌, ◌||◌, nat_le, map, List, [], ◌∷◌, length, None, refl, sym, ap, ◌∙◌, arith}
use Rattle.std.proofs.lemmas.Bool.{and_parts, cond-false, false≢true, or_parts}
use Rattle.jc_rules.proofs.Truths.{not_false}
use Rattle.jc_lexer.specs.declared.token.Sign.{Sign}
use Rattle.jc_lexer.specs.declared.token.Sign.TheVariants as sign_of
use Rattle.jc_lexer.specs.declared.token.Token.{Token}
use Rattle.jc_lexer.specs.declared.token.TokenKind.{TokenKind}
use Rattle.jc_lexer.specs.declared.token.TokenKind.TheVariants as kind_of
use Rattle.jc_tree.specs.declared.name.Ident.{Ident}
use Rattle.jc_tree.specs.declared.expression.Expr.{Expr}
use Rattle.jc_tree.specs.declared.expression.Expr.TheVariants as expr_of
use Rattle.jc_tree.specs.Heights.{expr_height}
use Rattle.jc_grammar.specs.Shapes.{expr_shape}
use Rattle.jc_reading.specs.Kinds.{front_code, is_in, kind_code, one_of, sign_code, word_code}
use Rattle.jc_reading.specs.Reading.{Read, Found, Stopped, found, becoming, as_new, in_turn, on_pick, of_kind, an_ident_at, ident_of_kind, behind_it, That}
use Rattle.jc_reading.proofs.Steps.{within_becoming}
use Rattle.jc_reading.proofs.Turns.{noting_far}
use Rattle.jc_parse_type.specs.TypeReading.{primitive_codes}
use Rattle.jc_part_laws.specs.PartReading.{more_names_run}
use Rattle.jc_expr_laws.specs.LevelReading.{prefix_codes}
use Rattle.jc_expr_laws.specs.PostReading.{changed, op_of_kind, op_of_sign, op_run, ops_run}
use Rattle.jc_expr_laws.specs.PrimeReading.{dotted_run, selector_run}
use Rattle.jc_expr_laws.specs.StartReading.{plain_run, prime_run, special_run}
use Rattle.jc_parse_expr.specs.BinaryLevels.{is_lone_name, is_name, levels_at, post_at, takes_more}
use Rattle.jc_parse_expr.specs.Measuring.{measured}
use Rattle.jc_parse_expr.specs.PrimeCode.{array_in, changed_on, expr_in, of_selector, pointed_tree, selected_on, selector_at, selector_tree, special_tail_run}
use Rattle.jc_parse_expr.specs.SpecialCode.{forgetting, tail_of}
use Rattle.jc_parse_expr.proofs.CastCode.{bare_low, bare_post, cast_first}
use Rattle.jc_parse_expr.proofs.Grows.{grows_first, grows_stop}
use Rattle.jc_parse_expr.proofs.JointCode.{started_alone}
use Rattle.jc_parse_expr.proofs.LevelNears.{near_readers}
use Rattle.jc_parse_expr.proofs.ListSteps.{actuals_shut}
use Rattle.jc_parse_expr.proofs.MeasuredSteps.{twice}
use Rattle.jc_parse_expr.proofs.MemberSteps.{plain_named, pointed_open}
use Rattle.jc_parse_expr.proofs.PairSteps.{pair_first}
use Rattle.jc_parse_expr.proofs.PrefixCode.{unary_bare}
use Rattle.jc_parse_expr.proofs.PrimeSteps.{post_made, prime_plain}
use Rattle.jc_parse_expr.proofs.Quiets.{any_quiet, kind_quiet, place_quiet}
use Rattle.jc_parse_expr.proofs.SpecialCodes.{key_open, names_stop, tail_key}
use Rattle.jc_parse_expr.proofs.SpecialSteps.{special_names}

-- the tokens

record Named (ts : List Token) : Type 0 where
  front : front_code ts ≡ 0
  name : Ident
  rest : List Token
  read : an_ident_at ts ≡ found name rest
  free : takes_more rest ≡ false

named_at : (t : Token) (q : List Token) (kind : TokenKind) → t.kind ≡ kind → is_name kind ≡ true → takes_more q ≡ false → Named (t ∷ q)
named_at t q (kind_of.Word text) e f g = record {
  front = ap kind_code e;
  name = record { at = t.from; text = text };
  rest = q;
  read = ap (λ (k : TokenKind). on_pick (ident_of_kind k t.from) q) e;
  free = g;
}
named_at t q _ e f g = absurd (false≢true f)

named : (ts : List Token) → is_lone_name ts ≡ true → Named ts
named [] e = absurd (false≢true e)
named (t ∷ q) e =
    let p = and_parts (is_name t.kind) (not (takes_more q)) e in
    named_at t q t.kind refl p.0 (not_false (takes_more q) p.1)

-- what does not stand behind the name

record Free (q : List Token) : Type 0 where
  paren : one_of (sign_code sign_of.LeftParen ∷ []) q ≡ false
  dot : one_of (sign_code sign_of.Dot ∷ []) q ≡ false
  bracket : one_of (sign_code sign_of.LeftBracket ∷ []) q ≡ false
  increment : one_of (sign_code sign_of.Increment ∷ []) q ≡ false
  decrement : one_of (sign_code sign_of.Decrement ∷ []) q ≡ false

free : (q : List Token) → takes_more q ≡ false → Free q
free q e =
    let paren = one_of (sign_code sign_of.LeftParen ∷ []) q in
    let dot = one_of (sign_code sign_of.Dot ∷ []) q in
    let bracket = one_of (sign_code sign_of.LeftBracket ∷ []) q in
    let increment = one_of (sign_code sign_of.Increment ∷ []) q in
    let a = or_parts (paren || dot || bracket || increment) (one_of (sign_code sign_of.Decrement ∷ []) q) e in
    let b = or_parts (paren || dot || bracket) increment a.0 in
    let c = or_parts (paren || dot) bracket b.0 in
    let d = or_parts paren dot c.0 in
    record { paren = d.0; dot = d.1; bracket = c.1; increment = b.1; decrement = a.1 }

-- postfix operators

sign_changes : (s : Sign) (q : List Token) → (sign_code sign_of.Increment == sign_code s) || false ≡ false → (sign_code sign_of.Decrement == sign_code s) || false ≡ false → op_of_sign s ≡ None
sign_changes sign_of.Increment q e f = absurd (false≢true (sym e))
sign_changes sign_of.Decrement q e f = absurd (false≢true (sym f))
sign_changes _ q e f = refl

kind_changes : (kind : TokenKind) (q : List Token) → (sign_code sign_of.Increment == kind_code kind) || false ≡ false → (sign_code sign_of.Decrement == kind_code kind) || false ≡ false → op_of_kind kind ≡ None
kind_changes (kind_of.Sign s) q e f = sign_changes s q e f
kind_changes _ q e f = refl

no_change : (room : Bool) (q : List Token) → Free q → op_run room q ≡ Stopped (length q)
no_change true [] w = refl
no_change true (t ∷ q) w = ap (λ o. on_pick o q) (kind_changes t.kind q w.increment w.decrement)
no_change false q w = refl

-- selectors

module _ (h : ℕ) where
  no_selector_by : (room sized : Bool) (q : List Token) → Free q → as_new selector_tree (selector_run h (expr_in h) (array_in h) room sized) q ≡ Stopped (length q)
  no_selector_by true true q w = twice selector_tree That pointed_tree (dotted_run h (expr_in h) (array_in h) q) (λ a. refl) ∙ pointed_open h q (kind_quiet (sign_code sign_of.Dot) q w.dot)
  no_selector_by true false q w =
      ap (becoming selector_tree) (cond-false (one_of (sign_code sign_of.LeftBracket ∷ []) q) _ _ w.bracket) ∙ twice selector_tree That pointed_tree (dotted_run h (expr_in h) (array_in h) q) (λ a. refl)
      ∙ pointed_open h q (kind_quiet (sign_code sign_of.Dot) q w.dot)
  no_selector_by false sized q w = refl

  no_selector : (v : Expr) (q : List Token) → Free q → selector_at h v q ≡ Stopped (length q)
  no_selector v q w = no_selector_by (nat_le (expr_height v) h) (expr_shape v).sized q w

  -- a primary

  no_names : (q : List Token) → Free q → more_names_run q ≡ found [] q
  unfolding more_names_run
  no_names q w = ap (becoming (map behind_it)) (any_quiet (in_turn (of_kind (sign_code sign_of.Dot)) an_ident_at) q (pair_first (of_kind (sign_code sign_of.Dot)) an_ident_at q (length q) (kind_quiet (sign_code sign_of.Dot) q w.dot)))

  no_tail : (q : List Token) → Free q → as_new tail_of (special_tail_run h) q ≡ Stopped (length q)
  no_tail q w = tail_key h q w.bracket ∙ key_open h q (kind_quiet (sign_code sign_of.Dot) q w.dot)

  no_special : (ts : List Token) (n : Named ts) → Free n.rest → special_run h ts ≡ Stopped (min (min (length n.rest) (length n.rest)) (length n.rest))
  no_special ts n w =
      special_names h ts (ap (is_in primitive_codes) n.front)
      ∙ names_stop h ts n.rest n.rest (length n.rest) (length n.rest) (ap (becoming forgetting) n.read) (ap (becoming forgetting) (no_names n.rest w)) (no_tail n.rest w)

  plain_alone : (ts : List Token) (n : Named ts) → Free n.rest → plain_run h (expr_in h) (array_in h) ts ≡ Found (expr_of.Name n.name) n.rest (min (length n.rest) (length n.rest))
  plain_alone ts n w =
      plain_named h ts (ap (is_in (word_code ∷ [])) n.front)
      ∙ started_alone h ts n.rest n.name (length n.rest) (length n.rest) n.read (actuals_shut (expr_in h) n.rest (kind_quiet (sign_code sign_of.LeftParen) n.rest w.paren))

  none_selected : (v : Expr) (q : List Token) (l : ℕ) → Free q → selected_on h v q l ≡ Found v q (min l (length q))
  none_selected v q l w = grows_stop of_selector (selector_at h) (selected_on h v q l) v l q (length q) (grows_first of_selector (selector_at h) v q l) (no_selector v q w) (omega arith)

  none_changed : (v : Expr) (q : List Token) (l : ℕ) → Free q → changed_on h v q l ≡ Found v q (min l (length q))
  none_changed v q l w = grows_stop changed (ops_run h) (changed_on h v q l) v l q (length q) (grows_first changed (ops_run h) v q l) (no_change (nat_le (expr_height v) h) q w) (omega arith)

  prime_alone : (ts : List Token) (n : Named ts) → Free n.rest → prime_run h (expr_in h) (array_in h) ts ≡ found (expr_of.Name n.name) n.rest
  prime_alone ts n w =
      let k = min (min (length n.rest) (length n.rest)) (length n.rest) in
      let l = min (length n.rest) (length n.rest) in
      let far : min (min k l) (length n.rest) ≡ length n.rest = omega arith in
      prime_plain h ts n.rest (expr_of.Name n.name) k l (no_special ts n w) (plain_alone ts n w) ∙ none_selected (expr_of.Name n.name) n.rest (min k l) w ∙ ap (λ j. Found (expr_of.Name n.name) n.rest j) far

-- each level

post_alone : (h : ℕ) (ts : List Token) (n : Named ts) → Free n.rest → 0 < h → becoming measured (post_at h ts) ≡ found (measured (expr_of.Name n.name)) n.rest
post_alone h ts n w p =
    let v = expr_of.Name n.name in
    let far : min (length n.rest) (length n.rest) ≡ length n.rest = omega arith in
    post_made h ts n.rest n.rest v (measured v) (length n.rest) (length n.rest) p (prime_alone (h - 1) ts n w) (none_changed (h - 1) v n.rest (length n.rest) w ∙ ap (λ j. Found v n.rest j) far) refl

pub bare_plain : (h : ℕ) (ts : List Token) → one_of (sign_code sign_of.LeftParen ∷ []) ts ≡ false → becoming measured ((levels_at h).bare ts) ≡ becoming measured (post_at h ts)
bare_plain zero ts e = ap (becoming measured) (bare_low 0 ts (omega arith))
bare_plain (suc zero) ts e = ap (becoming measured) (bare_low 1 ts (omega arith))
bare_plain (suc (suc k)) ts e =
    bare_post (suc (suc k)) k ts (length ts) refl (cast_first (suc (suc k) - 1) ts (place_quiet (sign_code sign_of.LeftParen) ts e))
    ∙ sym (noting_far (length ts) (becoming measured (post_at (suc (suc k)) ts)) (within_becoming (length ts) measured (post_at (suc (suc k)) ts) ((near_readers (suc (suc k))).post ts)))

unary_alone : (h : ℕ) (ts : List Token) (n : Named ts) → 0 < h → becoming measured ((levels_at h).unary ts) ≡ becoming measured (as_new expr_of.Name an_ident_at ts)
unary_alone h ts n p =
    ap (becoming measured) (unary_bare h ts (ap (is_in prefix_codes) n.front)) ∙ bare_plain h ts (ap (is_in (sign_code sign_of.LeftParen ∷ [])) n.front) ∙ post_alone h ts n (free n.rest n.free) p
    ∙ sym (ap (λ (m : Read Ident). becoming measured (becoming expr_of.Name m)) n.read)

pub unary_name : (h : ℕ) (ts : List Token) → 0 < h → is_lone_name ts ≡ true → becoming measured ((levels_at h).unary ts) ≡ becoming measured (as_new expr_of.Name an_ident_at ts)
unary_name h ts p e = unary_alone h ts (named ts e) p
