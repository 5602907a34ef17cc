-- Expressions are read as the grammar has them, at each height.
use Rattle.std.proofs.Common.{◌≡◌, ℕ, zero, suc, Bool, true, false, List, [], ◌∷◌, refl, sym, ap, ◌∙◌, subst, ⊎_elim, inl, arith}
use Rattle.std.proofs.lemmas.Bool.{false≢true, and_parts, and_from, le-leb, or_cases}
use Rattle.std.specs.Prelude.{◌&&◌, nat_le}
use Rattle.jc_lexer.specs.declared.token.Sign.TheVariants as sign_of
use Rattle.jc_lexer.specs.declared.token.Token.{Token}
use Rattle.jc_tree.specs.declared.types.TypeTree.{TypeTree}
use Rattle.jc_tree.specs.declared.expression.Expr.{Expr}
use Rattle.jc_tree.specs.declared.expression.Init.{Init}
use Rattle.jc_tree.specs.declared.expression.Init.TheVariants as init_of
use Rattle.jc_tree.specs.Heights.{expr_height, effect_height, init_height}
use Rattle.jc_tree.proofs.HeightsOfExpressions.{init_height-Value}
use Rattle.jc_grammar.specs.Told.{Told}
use Rattle.jc_grammar.specs.Expressions.{expr_tokens}
use Rattle.jc_grammar.specs.Shapes.{is_expr, is_effect, is_init}
use Rattle.jc_grammar.specs.Units.{is_statement_expr}
use Rattle.jc_grammar.proofs.FramedExpressions.{expr_frames}
use Rattle.jc_grammar.proofs.ShapesOfExpressions.{is_init-Value}
use Rattle.jc_reading.specs.Kinds.{sign_code, word_code, front_code, one_of}
use Rattle.jc_reading.specs.Reading.{Takes}
use Rattle.jc_reading.proofs.Steps.{takes_cut}
use Rattle.jc_reading.proofs.Forms.{Lawful, Stands}
use Rattle.jc_reading.proofs.Signs.{within_sets}
use Rattle.jc_reading.proofs.Coded.{formed}
use Rattle.jc_part_laws.proofs.PartForms.{type_coded}
use Rattle.jc_part_laws.proofs.ExprForms.{expr_codes, conditional_goes, ExprLaws, expr_coded, conditional_coded, effect_coded, init_coded, expr_tall}
use Rattle.jc_expr_laws.specs.ExprReading.{readers, exprs}
use Rattle.jc_expr_laws.proofs.CreationArrays.{init_law}
use Rattle.jc_expr_laws.proofs.CreationRooms.{has_value}
use Rattle.jc_expr_laws.proofs.LevelTests.{acts, acts_in}
use Rattle.jc_expr_laws.proofs.LevelSpelled.{loosened_laws}
use Rattle.jc_expr_laws.proofs.LevelChains.{may_go, at_level}
use Rattle.jc_expr_laws.proofs.LevelTower.{compare_goes, or_else_tight}
use Rattle.jc_expr_laws.proofs.LevelKnot.{all_laws}
use Rattle.jc_expr_laws.proofs.EffectLaws.{effect_laws}
use Rattle.jc_expr_laws.proofs.EffectOrType.{no_type_and_word}

pub whole_law : (h : ℕ) → Lawful Expr (formed (expr_coded exprs (suc h)))
whole_law h = (all_laws h).levels_law.expr

question_goes : (ts : List Token) → may_go (sign_code sign_of.Question ∷ compare_goes) or_else_tight ts ≡ true → one_of conditional_goes ts ≡ true
question_goes ts e =
    ⊎_elim
    (λ (t : one_of (sign_code sign_of.Question ∷ compare_goes) ts ≡ true). within_sets (sign_code sign_of.Question ∷ compare_goes) conditional_goes refl (front_code ts) t)
    (λ (t : acts or_else_tight ts ≡ true). acts_in or_else_tight conditional_goes ts refl t)
    (or_cases (one_of (sign_code sign_of.Question ∷ compare_goes) ts) (acts or_else_tight ts) e)

conditional_law : (h : ℕ) → Lawful Expr (formed (conditional_coded exprs (suc h)))
conditional_law h =
    loosened_laws Expr (at_level 1 (suc h) (readers (suc h)).levels.conditional (sign_code sign_of.Question ∷ compare_goes) or_else_tight) (one_of expr_codes) (one_of conditional_goes) (all_laws h).levels_law.conditional (λ ts e. e) question_goes

effect_law : (h : ℕ) → Lawful Expr (formed (effect_coded exprs (suc h)))
effect_law h =
    let r = readers (suc h) in
    let l = all_laws h in
    effect_laws h r.levels.bare r.post r.levels.expr (record { bare_laws = l.levels_law.bare; post_laws = l.post_law; any_laws = l.levels_law.expr })

init_fit : (h : ℕ) (e : Expr) → (nat_le (expr_height e) h && is_expr e) ≡ true → (nat_le (init_height (init_of.Value e)) h && is_init (init_of.Value e)) ≡ true
init_fit h e g = ap (λ (n : ℕ). nat_le n h && is_init (init_of.Value e)) (init_height-Value e) ∙ ap (λ (b : Bool). nat_le (expr_height e) h && b) (is_init-Value e) ∙ g

initial_law : (h : ℕ) → Lawful Init (formed (init_coded exprs (suc h)))
initial_law h =
    let r = readers (suc h) in
    let l = all_laws h in
    let w = whole_law h in
    has_value Init (init_coded exprs (suc h)) (init_law (suc h) r.levels.expr r.array (inl w) (inl l.array_law)) (init_of.Value w.least.value) (init_fit (suc h) w.least.value (w.least.spelled w.least.tokens).1)

-- where an expression begins
starts_at : (n : ℕ) (i : Expr) → expr_height i ≡ n → is_expr i ≡ true → (us m : List Token) → Takes false (expr_tokens i []) us m → one_of expr_codes us ≡ true
starts_at zero i e g us m t = absurd (false≢true (sym (expr_tall i) ∙ le-leb (expr_height i) 0 (omega (arith, e))))
starts_at (suc n) i e g us m t =
    ⊎_elim (λ o. o.0) (λ o. absurd (false≢true o.1))
    ((whole_law n).opens us i m (t, and_from (nat_le (expr_height i) (suc n)) (is_expr i) (le-leb (expr_height i) (suc n) (omega (arith, e))) g))

starts : (i : Expr) (r : List Told) (c : Bool) (us z : List Token) → is_expr i ≡ true → Takes c (expr_tokens i r) us z → one_of expr_codes us ≡ true
starts i r c us z g t =
    let v = takes_cut c [] (expr_tokens i r) us z t in
    let w = takes_cut false (expr_tokens i []) r v.0 z (subst (λ (l : List Told). Takes false l v.0 z) ((expr_frames i).at [] r) v.2) in
    subst (λ (l : List Token). one_of expr_codes l ≡ true) (sym v.1) (starts_at (expr_height i) i refl g v.0 w.0 w.1)

no_word : (h : ℕ) (ts : List Token) (e : Expr) (r : List Token) (ty : TypeTree) (q : List Token) → Stands (formed (effect_coded exprs (suc h))) ts e r → Stands (formed (type_coded (suc h))) ts ty q → one_of (word_code ∷ []) q ≡ true → ⊥
no_word h ts e r ty q s t w =
    let a = and_parts (is_expr e) (is_effect e) (and_parts (nat_le (effect_height e) (suc h)) (is_statement_expr e) s.1).1 in
    no_type_and_word starts ts q e r ty a.0 a.1 s.0 t.0 w

pub expr_laws : ExprLaws exprs
expr_laws = record { expr = whole_law; conditional = conditional_law; effect = effect_law; init = initial_law; effect_or_type = no_word }
