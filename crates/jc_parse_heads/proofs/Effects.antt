-- Effects and variables, as the code reads them.
use Rattle.std.proofs.Common.{◌≡◌, ℕ, Bool, true, false, cond, List, [], ◌∷◌, length, refl, sym, ap, ◌∙◌}
use Rattle.jc_lexer.specs.declared.token.Token.{Token}
use Rattle.jc_tree.specs.declared.expression.Expr.{Expr}
use Rattle.jc_tree.specs.declared.statement.Modifier.{Modifier}
use Rattle.jc_tree.specs.declared.statement.Stmt.{Stmt}
use Rattle.jc_tree.specs.declared.statement.Stmt.TheVariants as stmt_of
use Rattle.jc_tree.specs.declared.types.TypeTree.{TypeTree}
use Rattle.jc_reading.specs.Kinds.{one_of, word_code}
use Rattle.jc_reading.specs.Reading.{Read, Found, Stopped, Run, noting, becoming, as_new, in_turn, before_it, This, That}
use Rattle.jc_reading.specs.Further.{with_room, tried}
use Rattle.jc_parse_type.specs.TypeReading.{type_run}
use Rattle.jc_part_laws.specs.PartReading.{modifier_run, modifiers_run, vars_run}
use Rattle.jc_expr_laws.specs.ExprReading.{exprs}
use Rattle.jc_expr_laws.proofs.EffectEndings.{effect_and_semicolon}
use Rattle.jc_unit_laws.specs.UnitReading.{Variables, effect_made, local_made, local_or_effect, local_run, semicolon_run, variables_run}
use Rattle.jc_parse_parts.specs.Parts.{vars_tree}
use Rattle.jc_parse_nodes.specs.declared.trees.Vars.{Vars}
use Rattle.jc_parse_nodes.specs.declared.pieces.Typed.{Typed}
use Rattle.jc_parse_heads.specs.UnitCode.{ended_effect_run, ended_strict_run, ended_vars_run, listed, local_or_effect_run, roomy_modifiers_run, typed_made, typed_or_run, typed_run}
use Rattle.jc_parse_nodes.specs.Nodes.{bare_local, locals_of}
use Rattle.jc_parse_heads.proofs.Joinings.{first_made, grouped, noted_made, room_gone, room_there, second_made, second_same, split_behind, split_here, split_room}
use Rattle.jc_parse_expr.proofs.PairSteps.{remade}

pub ended_effect_is : (h : ℕ) (ts : List Token) → ended_effect_run h ts ≡ ended_strict_run h ts
unfolding ended_effect_run ended_strict_run
ended_effect_is h ts = ap (becoming effect_made) (effect_and_semicolon h ts)

abbrev vars_before : Variables → Vars
vars_before p = vars_tree p.0

vars_is : (h : ℕ) (q : List Token) → as_new vars_before (variables_run exprs h) q ≡ ended_vars_run h q
unfolding ended_vars_run
vars_is h q = first_made vars_before vars_tree before_it semicolon_run (λ a b. refl) (vars_run exprs h) q

abbrev pub typed_node : (TypeTree × Vars) → Typed
typed_node p = record { ty = p.0; first = p.1.first; more = p.1.more }

pub typed_is : (h : ℕ) (ts : List Token) → typed_run h ts ≡ as_new typed_node (in_turn (type_run h) (ended_vars_run h)) ts
unfolding typed_run
typed_is h ts = second_made typed_made vars_before typed_node (λ a b. refl) (type_run h) (variables_run exprs h) ts ∙ second_same typed_node (type_run h ts) (as_new vars_before (variables_run exprs h)) (ended_vars_run h) (vars_is h)

abbrev Effect : ℕ → Run (Expr × Unit {0})
Effect h = in_turn (exprs.effect h) semicolon_run

by_name : (h : ℕ) (ty : TypeTree) (r : List Token) (l : ℕ) (ts : List Token) (b : Bool) →
    becoming local_or_effect (cond b (noting l (becoming (λ c. This (ty, c)) (variables_run exprs h r))) (noting l (becoming That (Effect h ts)))) ≡ cond b (noting l (becoming (bare_local ty) (ended_vars_run h r))) (noting l (ended_effect_run h ts))
unfolding ended_effect_run
by_name h ty r l ts true =
    noted_made local_or_effect l (becoming (λ c. This (ty, c)) (variables_run exprs h r))
    ∙ ap (noting l)
    (remade (λ (c : Variables). This (ty, c)) local_or_effect (λ c. bare_local ty (vars_before c)) (variables_run exprs h r) (λ c. refl)
    ∙ sym (remade vars_before (bare_local ty) (λ c. bare_local ty (vars_before c)) (variables_run exprs h r) (λ c. refl))
    ∙ ap (becoming (bare_local ty)) (vars_is h r))
by_name h ty r l ts false = noted_made local_or_effect l (becoming That (Effect h ts)) ∙ ap (noting l) (remade That local_or_effect effect_made (Effect h ts) (λ c. refl))

pub local_or_found : (h : ℕ) (ts r : List Token) (ty : TypeTree) (l : ℕ) → type_run h ts ≡ Found ty r l → local_or_effect_run h ts ≡ typed_or_run h ty r l ts
unfolding local_or_effect_run
local_or_found h ts r ty l e = ap (λ (v : Read TypeTree). becoming local_or_effect (tried (word_code ∷ []) ts v (variables_run exprs h) (Effect h))) e ∙ by_name h ty r l ts (one_of (word_code ∷ []) r)

pub local_or_stops : (h : ℕ) (ts : List Token) (l : ℕ) → type_run h ts ≡ Stopped l → local_or_effect_run h ts ≡ noting l (ended_effect_run h ts)
unfolding local_or_effect_run ended_effect_run
local_or_stops h ts l e =
    ap (λ (v : Read TypeTree). becoming local_or_effect (tried (word_code ∷ []) ts v (variables_run exprs h) (Effect h))) e
    ∙ noted_made local_or_effect l (becoming That (Effect h ts)) ∙ ap (noting l) (remade That local_or_effect effect_made (Effect h ts) (λ c. refl))

abbrev pub local_node : (List Modifier × Typed) → Stmt
local_node p = stmt_of.Local (locals_of p.0 p.1)

pub local_is : (h : ℕ) (ts : List Token) → local_run exprs h ts ≡ as_new local_node (in_turn (roomy_modifiers_run h) (typed_run h)) ts
unfolding local_run roomy_modifiers_run typed_run
local_is h ts =
    let rest = in_turn (type_run h) (variables_run exprs h) in
    let middle : (List Modifier × (TypeTree × Variables)) → Stmt = λ p. local_node (p.0, typed_made p.1) in
    grouped _ _ rest _ local_made listed middle (split_room h _ _ rest _ (split_behind (modifier_run exprs h) _ _ rest _ (split_here (modifiers_run exprs h) rest))) (λ d c. refl) ts
    ∙ second_made middle typed_made local_node (λ a b. refl) (as_new listed (with_room h (in_turn (modifier_run exprs h) (modifiers_run exprs h)))) rest ts

pub modifiers_none : (h : ℕ) (ts : List Token) → h ≡ 0 → roomy_modifiers_run h ts ≡ Stopped (length ts)
unfolding roomy_modifiers_run
modifiers_none h ts e = ap (becoming listed) (room_gone h _ ts e)

pub modifiers_there : (h : ℕ) (ts : List Token) → (h ≡ 0 → ⊥) → roomy_modifiers_run h ts ≡ as_new listed (in_turn (modifier_run exprs h) (modifiers_run exprs h)) ts
unfolding roomy_modifiers_run
modifiers_there h ts n = ap (becoming listed) (room_there h _ ts n)
