-- Lengths of an array, one after another: what a loop over them has behind the next one.
use Rattle.std.proofs.Common.{◌≡◌, refl, ap, sym, ◌∙◌, ℕ, zero, suc, ◌-◌, ◌≤◌, ◌||◌, Bool, true, false, List, [], ◌∷◌, map, take, drop, length, get_or, arith}
use Rattle.jc_rules.specs.declared.rule.Refusal.{Refusal}
use Rattle.jc_types.specs.declared.environment.Bounds.{Bounds}
use Rattle.jc_types.specs.declared.form.Primitive.TheVariants.{Int}
use Rattle.jc_types.specs.declared.form.Ty.TheVariants.{Prim}
use Rattle.jc_types.specs.declared.table.Table.{Table}
use Rattle.jc_convert.specs.Converting.{invocation}
use Rattle.jc_typed.specs.declared.nodes.Node.{Node}
use Rattle.jc_typed.specs.Trees.{MoreOperands, Operand, Operands}
use Rattle.jc_exprs_nodes_spec.specs.Told.{Standing}
use Rattle.jc_exprs_nodes_spec.specs.Typeds.{Typed, converted, operands_of, type_of, unconverted}
use Rattle.jc_exprs_nodes.specs.Walks.{known}
use Rattle.jc_exprs_parts_spec.specs.Values.{length_breaks, lengths}
use Rattle.jc_exprs_values.specs.Noted.{is_broken, noted}
use Rattle.jc_exprs_values.proofs.Ruling.{broken_both, noted_both}

take_whole : (xs : List ℕ) (n : ℕ) → n ≡ length xs → take n xs ≡ xs
take_whole [] zero e = refl
take_whole [] (suc n) e = absurd (omega arith)
take_whole (x ∷ xs) zero e = absurd (omega arith)
take_whole (x ∷ xs) (suc n) e = ap (λ ys. x ∷ ys) (take_whole xs n (omega arith))

-- what a slice pattern leaves behind its first element
pub left_over : (xs : List ℕ) → 1 ≤ length xs → xs ≡ get_or xs 0 0 ∷ take (length xs - 1) (drop 1 xs)
left_over [] le = absurd (omega arith)
left_over (y ∷ ys) le = let n : length (y ∷ ys) - 1 ≡ length ys = omega arith in ap (λ zs. y ∷ zs) (sym (take_whole ys (length (y ∷ ys) - 1) n))

or_all : (a b c : Bool) → ((a || b) || c) ≡ (a || (b || c))
or_all true b c = refl
or_all false b c = refl

module _ (T : Table) where
  abbrev pub breaks_of : List Bounds → Typed → List Refusal
  breaks_of env t = unconverted 607 t.start (invocation T env (type_of t) (Prim Int))

  abbrev pub operand_for : List Bounds → Typed → Operand
  operand_for env t = converted T env t (invocation T env (type_of t) (Prim Int))

  module _ (env : List Bounds) (ns : List Node) where
    abbrev pub breaks_in : List ℕ → List Refusal
    breaks_in ats = length_breaks T env (map (known ns) ats)

    abbrev pub operands_in : List ℕ → Operands → Operands
    operands_in ats before = operands_of (lengths T env (map (known ns) ats)) before

    pub next_state : (rest more : List ℕ) (at : ℕ) (t : Typed) (e : List Bounds) (w v r : Standing) → rest ≡ at ∷ more → t ≡ known ns at → e ≡ env → noted w (breaks_of e t) ≡ v → noted w (breaks_in rest) ≡ r →
        noted v (breaks_in more) ≡ r
    next_state rest more at t e w v r er et ee n i =
        let here : noted w (breaks_of env (known ns at)) ≡ v = ap (λ (u : Typed). noted w (breaks_of env u)) (sym et) ∙ ap (λ (x : List Bounds). noted w (breaks_of x t)) (sym ee) ∙ n in
        ap (λ (q : Standing). noted q (breaks_in more)) (sym here)
        ∙ sym (noted_both w (breaks_of env (known ns at)) (breaks_in more))
        ∙ ap (λ (l : List ℕ). noted w (breaks_in l)) (sym er)
        ∙ i

    pub next_broken : (rest more : List ℕ) (at : ℕ) (t : Typed) (e : List Bounds) (b d x : Bool) → rest ≡ at ∷ more → t ≡ known ns at → e ≡ env → d ≡ (b || is_broken (breaks_of e t)) → (b || is_broken (breaks_in rest)) ≡ x →
        (d || is_broken (breaks_in more)) ≡ x
    next_broken rest more at t e b d x er et ee n i =
        let here : is_broken (breaks_of e t) ≡ is_broken (breaks_of env (known ns at)) = ap (λ (y : List Bounds). is_broken (breaks_of y t)) ee ∙ ap (λ (u : Typed). is_broken (breaks_of env u)) et in
        ap (λ (y : Bool). y || is_broken (breaks_in more)) (n ∙ ap (λ (y : Bool). b || y) here)
        ∙ or_all b (is_broken (breaks_of env (known ns at))) (is_broken (breaks_in more))
        ∙ ap (λ (y : Bool). b || y) (sym (broken_both (breaks_of env (known ns at)) (breaks_in more)))
        ∙ ap (λ (l : List ℕ). b || is_broken (breaks_in l)) (sym er)
        ∙ i

    pub next_operands : (rest more : List ℕ) (at : ℕ) (t : Typed) (e : List Bounds) (a b x : Operands) → rest ≡ at ∷ more → t ≡ known ns at → e ≡ env → b ≡ MoreOperands a (operand_for e t) → operands_in rest a ≡ x →
        operands_in more b ≡ x
    next_operands rest more at t e a b x er et ee m i =
        let here : operand_for e t ≡ operand_for env (known ns at) = ap (λ (y : List Bounds). operand_for y t) ee ∙ ap (λ (u : Typed). operand_for env u) et in
        ap (λ (q : Operands). operands_in more q) (m ∙ ap (λ (q : Operand). MoreOperands a q) here)
        ∙ ap (λ (l : List ℕ). operands_in l a) (sym er)
        ∙ i
