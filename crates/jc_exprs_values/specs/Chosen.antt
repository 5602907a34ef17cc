-- Conditionals: their branches in an arena, with the numbers of the captured variables before and behind these.
use Rattle.std.specs.Prelude.{◌≡◌, List, Option, length}
use Rattle.jc_typed.specs.declared.nodes.Node.{Node}
use Rattle.jc_exprs_nodes_spec.specs.Told.{Run, Spanned, Standing, both, onward, ran, spanned}
use Rattle.jc_exprs_nodes_spec.specs.Gates.{gated_two}
use Rattle.jc_exprs_nodes_spec.specs.Typeds.{Typed}
use Rattle.jc_exprs_nodes.specs.Laws.{paired, span_of}
use Rattle.jc_exprs_nodes.specs.Walks.{IsPart, known}
use Rattle.jc_exprs_values.specs.declared.choices.Choice.{Choice}

-- both branches
abbrev pub branches : List Node → Choice → Spanned (Typed × Typed)
branches ns c = record { it = (known ns c.first.at, known ns c.second.at); from = c.from; up_to = c.up_to }

-- a test and two branches that have typings
pub record IsChoice (ns : List Node) (c : Choice) : Type 0 where
  pub test : IsPart ns c.test
  pub first : IsPart ns c.first
  pub second : IsPart ns c.second

-- a test, and two branches behind it: the rule is asked where all three have typings
abbrev pub ChoiceParts : Type 0
ChoiceParts =
    (f : Typed → Spanned (Typed × Typed) → Run Typed) (m a b : Run Typed) (s0 s1 s2 s3 : Standing) (x y z : Option Typed) →
    (ran m s0).state ≡ s1 → (ran m s0).has ≡ x → (ran a s1).state ≡ s2 → (ran a s1).has ≡ y → (ran b s2).state ≡ s3 → (ran b s2).has ≡ z →
    ran (onward (both m (spanned (both a b))) (λ p. f p.0 p.1)) s0 ≡ gated_two f x (span_of (paired y z) (length s1.env) (length s3.env)) s3
