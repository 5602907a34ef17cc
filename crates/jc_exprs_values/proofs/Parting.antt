-- How a walk goes through a test and two branches behind it.
use Rattle.std.proofs.Common.{◌≡◌, refl, ◌∙◌, Option, length}
use Rattle.jc_exprs_nodes_spec.specs.Told.{Run, Standing, both, ran, spanned}
use Rattle.jc_exprs_nodes_spec.proofs.Runs.{ran_two}
use Rattle.jc_exprs_nodes.specs.Laws.{paired, span_of}
use Rattle.jc_exprs_nodes.proofs.Gathering.{ran_both, ran_spanned}
use Rattle.jc_exprs_values.specs.Chosen.{ChoiceParts}

-- both branches, with the numbers of the captured variables
spanned_both : {B C : Type 0} (a : Run B) (b : Run C) (s1 s2 s3 : Standing) (y : Option B) (z : Option C) →
    (ran a s1).state ≡ s2 → (ran a s1).has ≡ y → (ran b s2).state ≡ s3 → (ran b s2).has ≡ z →
    ran (spanned (both a b)) s1 ≡ record { state = s3; has = span_of (paired y z) (length s1.env) (length s3.env) }
spanned_both a b s1 s2 s3 y z p u q v = ran_spanned (both a b) s1 ∙ rw (ran_both a b s1, p, u, q, v) refl

pub choice_parts : ChoiceParts
choice_parts f m a b s0 s1 s2 s3 x y z p u q v r w =
    ran_two f m (spanned (both a b)) s0 ∙ rw (p, u, spanned_both a b s1 s2 s3 y z q v r w) refl
