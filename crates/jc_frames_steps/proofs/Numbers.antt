-- Numbers of places, as a loop goes from the last one to the first.
use Rattle.std.proofs.Common.{◌≡◌, ◌∙◌, ◌+◌, ◌<◌, ℕ, cond, List, length, drop, get_or, sym, ap}
use Rattle.std.proofs.lemmas.List.{drop_more}
use Rattle.std.specs.List.{position_from}
use Rattle.std.specs.Prelude.{nat_eq}
use Rattle.std.specs.declared.option.Option.{Option}
use Rattle.std.specs.declared.option.Option.TheVariants.{Some}

-- one place more in front of those that have numbers
pub numbers_more : (list : List ℕ) (i : ℕ) (before after : Option ℕ) (at : ℕ) → i < length list → before ≡ position_from (λ (p : ℕ). nat_eq p at) (i + 1) (drop (i + 1) list) →
    after ≡ cond (nat_eq (get_or list i 0) at) (Some i) before → after ≡ position_from (λ (p : ℕ). nat_eq p at) i (drop i list)
numbers_more list i before after at less was is =
    is ∙ ap (cond (nat_eq (get_or list i 0) at) (Some i)) was ∙ sym (ap (position_from (λ (p : ℕ). nat_eq p at) i) (drop_more list i 0 less))
