-- The levels of height 1: only expressions of the postfix level are as low.
use Rattle.std.proofs.Common.{◌≡◌, ℕ, ◌≤◌, Bool, true, false, List, ◌∷◌, refl, sym, ap, ◌∙◌, subst, arith}
use Rattle.std.proofs.Math.Path.{fun_ext}
use Rattle.std.proofs.lemmas.Bool.{false≢true, and_parts, and_from, or_left, leb-true, le-leb}
use Rattle.std.specs.Prelude.{◌&&◌, nat_le, not}
use Rattle.jc_rules.proofs.Truths.{as_true}
use Rattle.jc_lexer.specs.declared.token.Sign.TheVariants as sign_of
use Rattle.jc_lexer.specs.declared.token.Token.{Token}
use Rattle.jc_tree.specs.declared.expression.ArrayInit.{ArrayInit}
use Rattle.jc_tree.specs.declared.expression.Creation.{Creation}
use Rattle.jc_tree.specs.declared.expression.Expr.{Expr, Expr-F, out-Expr, map-Expr}
use Rattle.jc_tree.specs.declared.expression.Init.{Init}
use Rattle.jc_tree.specs.declared.expression.Operand.{Operand}
use Rattle.jc_tree.specs.Heights.{expr_step, creation_height, expr_height, init_height, operand_height, array_height}
use Rattle.jc_tree.proofs.HeightsOfExpressions.{expr_height-out}
use Rattle.jc_grammar.specs.Expressions.{expr_tokens}
use Rattle.jc_grammar.specs.Shapes.{Shape, CreationShape, OperandShape, stands, expr_shape, creation_shape, operand_shape, is_init, is_array, expr_shape_step}
use Rattle.jc_grammar.proofs.ShapesOfExpressions.{expr_shape-out}
use Rattle.jc_grammar.proofs.Stands.{stands_looser, stands_good}
use Rattle.jc_reading.specs.Kinds.{sign_code, front_code, one_of}
use Rattle.jc_reading.specs.Reading.{Run}
use Rattle.jc_reading.proofs.Forms.{Form, Lawful}
use Rattle.jc_reading.proofs.Signs.{all_in, within_sets}
use Rattle.jc_reading.proofs.Coded.{formed}
use Rattle.jc_part_laws.proofs.ExprForms.{expr_codes, bare_codes, plain_codes, whole_goes, expr_tall}
use Rattle.jc_expr_laws.specs.LevelReading.{Levels, next_levels, bare_run, plain_run, unary_run, chain_run, conditional_run, expr_run}
use Rattle.jc_expr_laws.proofs.LevelSpelled.{loosened_laws}
use Rattle.jc_expr_laws.proofs.LevelPrefixes.{post_goes, bare_goes, bare_fits}
use Rattle.jc_expr_laws.proofs.LevelCasts.{post_coded, post_flag}
use Rattle.jc_expr_laws.proofs.LevelChains.{may_go, at_level}
use Rattle.jc_expr_laws.proofs.LevelTower.{LevelLaws, times_tight, plus_tight, shift_tight, less_tight, equal_tight, and_tight, xor_tight, or_tight, and_also_tight, or_else_tight, compare_goes}

abbrev Layer : Type 0
Layer = Expr-F Creation Expr Init Operand ArrayInit

abbrev shaped : Layer → Shape
shaped l = expr_shape_step (map-Expr Creation Expr Init Operand ArrayInit CreationShape Shape Bool OperandShape Bool creation_shape expr_shape is_init operand_shape is_array l)

abbrev tall : Layer → ℕ
tall l = expr_step (map-Expr Creation Expr Init Operand ArrayInit ℕ ℕ ℕ ℕ ℕ creation_height expr_height init_height operand_height array_height l)

no_height : (e : Expr) → expr_height e ≤ 0 → ⊥
no_height e h = false≢true (sym (expr_tall e) ∙ le-leb (expr_height e) 0 h)

low_layer : (l : Layer) → tall l ≤ 1 → (shaped l).good ≡ true → stands 14 (shaped l) ≡ true
low_layer (Expr-F.Assign target op value) h g = absurd (no_height target (omega (arith, h)))
low_layer (Expr-F.Conditional test then_it else_it) h g = absurd (no_height test (omega (arith, h)))
low_layer (Expr-F.Chain first rest) h g = absurd (no_height first (omega (arith, h)))
low_layer (Expr-F.Prefix first more operand) h g = absurd (no_height operand (omega (arith, h)))
low_layer (Expr-F.Cast at ty operand) h g = absurd (no_height operand (omega (arith, h)))
low_layer l h g = and_from (shaped l).good true g refl

low_post : (e : Expr) → nat_le (expr_height e) 1 ≡ true → (expr_shape e).good ≡ true → stands 14 (expr_shape e) ≡ true
low_post e h g =
    subst (λ (z : Shape). stands 14 z ≡ true) (sym (expr_shape-out e))
    (low_layer (out-Expr e) (subst (λ (n : ℕ). n ≤ 1) (expr_height-out e) (leb-true (expr_height e) 1 h)) (sym (ap (λ (z : Shape). z.good) (expr_shape-out e)) ∙ g))

module _ (post : Run Expr) (lp : Lawful Expr (formed (post_coded 1 post))) where
  abbrev Post : Expr → Bool
  Post e = nat_le (expr_height e) 1 && stands 14 (expr_shape e)

  lowest : (fits : Expr → Bool) (starts goes : List Token → Bool) → ((e : Expr) → Post e ≡ true → fits e ≡ true) → ((e : Expr) → fits e ≡ true → Post e ≡ true) → ((ts : List Token) → one_of bare_codes ts ≡ true → starts ts ≡ true) → ((ts : List Token) → one_of post_goes ts ≡ true → goes ts ≡ true) →
      Lawful Expr (record { tell = expr_tokens; fits = fits; run = post; starts = starts; goes_on = goes; empties = false })
  lowest fits starts goes f g s t =
      let same : Post ≡ fits = fun_ext (λ e. as_true (Post e) (fits e) (f e) (g e)) in
      loosened_laws Expr (record { tell = expr_tokens; fits = fits; run = post; starts = one_of bare_codes; goes_on = one_of post_goes; empties = false }) starts goes
      (subst (λ (x : Expr → Bool). Lawful Expr (record { tell = expr_tokens; fits = x; run = post; starts = one_of bare_codes; goes_on = one_of post_goes; empties = false })) same lp) s t

  at_post : (level : ℕ) → level ≤ 14 → (e : Expr) → Post e ≡ true → (nat_le (expr_height e) 1 && stands level (expr_shape e)) ≡ true
  at_post level h e g =
      let a = and_parts (nat_le (expr_height e) 1) (stands 14 (expr_shape e)) g in
      and_from (nat_le (expr_height e) 1) (stands level (expr_shape e)) a.0 (stands_looser level 14 (expr_shape e) h a.1)

  to_post : (level : ℕ) (e : Expr) → (nat_le (expr_height e) 1 && stands level (expr_shape e)) ≡ true → Post e ≡ true
  to_post level e g =
      let a = and_parts (nat_le (expr_height e) 1) (stands level (expr_shape e)) g in
      and_from (nat_le (expr_height e) 1) (stands 14 (expr_shape e)) a.0 (low_post e a.0 (stands_good level (expr_shape e) a.1))

  inside : (xs ys : List ℕ) → all_in xs ys ≡ true → (ts : List Token) → one_of xs ts ≡ true → one_of ys ts ≡ true
  inside xs ys e ts t = within_sets xs ys e (front_code ts) t

  low_level : (level : ℕ) → level ≤ 14 → (codes : List ℕ) (ops : List (List ℕ)) → all_in post_goes codes ≡ true → Lawful Expr (at_level level 1 post codes ops)
  low_level level h codes ops e =
      lowest (λ x. nat_le (expr_height x) 1 && stands level (expr_shape x)) (one_of expr_codes) (may_go codes ops) (at_post level h) (to_post level) (inside bare_codes expr_codes refl)
      (λ ts t. or_left (one_of codes ts) _ (inside post_goes codes e ts t))

  bare_from : (e : Expr) → Post e ≡ true → bare_fits 1 e ≡ true
  bare_from e g =
      let a = and_parts (nat_le (expr_height e) 1) (stands 14 (expr_shape e)) g in
      and_from (nat_le (expr_height e) 1) (stands 13 (expr_shape e) && not (expr_shape e).prefix) a.0
      (and_from (stands 13 (expr_shape e)) (not (expr_shape e).prefix) (stands_looser 13 14 (expr_shape e) (omega arith) a.1) (ap not (post_flag e a.1)))

  bare_to : (e : Expr) → bare_fits 1 e ≡ true → Post e ≡ true
  bare_to e g =
      let a = and_parts (nat_le (expr_height e) 1) (stands 13 (expr_shape e) && not (expr_shape e).prefix) g in
      to_post 13 e (and_from (nat_le (expr_height e) 1) (stands 13 (expr_shape e)) a.0 (and_parts (stands 13 (expr_shape e)) (not (expr_shape e).prefix) a.1).0)

  module _ (compare : ℕ → Run Expr → Run Expr → Run Expr) (same : (first next : Run Expr) → first ≡ compare 0 first next) (low : Levels) where
    over : (form : Run Expr → Form Expr) → Lawful Expr (form post) → Lawful Expr (form (compare 0 post low.shift))
    over form la = subst (λ (m : Run Expr). Lawful Expr (form m)) (same post low.shift) la

    pub base_laws : LevelLaws 1 (next_levels compare 0 low post)
    unfolding next_levels bare_run plain_run unary_run chain_run conditional_run expr_run
    base_laws = record {
      bare = lowest (bare_fits 1) (one_of bare_codes) (one_of bare_goes) bare_from bare_to (λ ts t. t) (inside post_goes bare_goes refl);
      plain = lowest (λ e. nat_le (expr_height e) 1 && stands 13 (expr_shape e)) (one_of plain_codes) (one_of bare_goes) (at_post 13 (omega arith)) (to_post 13) (inside bare_codes plain_codes refl) (inside post_goes bare_goes refl);
      unary = lowest (λ e. nat_le (expr_height e) 1 && stands 12 (expr_shape e)) (one_of expr_codes) (one_of bare_goes) (at_post 12 (omega arith)) (to_post 12) (inside bare_codes expr_codes refl) (inside post_goes bare_goes refl);
      times = low_level 11 (omega arith) bare_goes times_tight refl;
      plus = low_level 10 (omega arith) bare_goes plus_tight refl;
      shift = low_level 9 (omega arith) bare_goes shift_tight refl;
      compared = over (λ m. at_level 8 1 m compare_goes less_tight) (low_level 8 (omega arith) compare_goes less_tight refl);
      equal = over (λ m. at_level 7 1 m compare_goes equal_tight) (low_level 7 (omega arith) compare_goes equal_tight refl);
      bit_and = over (λ m. at_level 6 1 m compare_goes and_tight) (low_level 6 (omega arith) compare_goes and_tight refl);
      bit_xor = over (λ m. at_level 5 1 m compare_goes xor_tight) (low_level 5 (omega arith) compare_goes xor_tight refl);
      bit_or = over (λ m. at_level 4 1 m compare_goes or_tight) (low_level 4 (omega arith) compare_goes or_tight refl);
      and_also = over (λ m. at_level 3 1 m compare_goes and_also_tight) (low_level 3 (omega arith) compare_goes and_also_tight refl);
      or_else = over (λ m. at_level 2 1 m compare_goes or_else_tight) (low_level 2 (omega arith) compare_goes or_else_tight refl);
      conditional = over (λ m. at_level 1 1 m (sign_code sign_of.Question ∷ compare_goes) or_else_tight) (low_level 1 (omega arith) (sign_code sign_of.Question ∷ compare_goes) or_else_tight refl);
      expr = over (λ m. record { tell = expr_tokens; fits = λ e. nat_le (expr_height e) 1 && stands 0 (expr_shape e); run = m; starts = one_of expr_codes; goes_on = one_of whole_goes; empties = false })
          (lowest (λ e. nat_le (expr_height e) 1 && stands 0 (expr_shape e)) (one_of expr_codes) (one_of whole_goes) (at_post 0 (omega arith)) (to_post 0) (inside bare_codes expr_codes refl) (inside post_goes whole_goes refl));
    }
