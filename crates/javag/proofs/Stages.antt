-- What sources are that break no rule.
use Rattle.std.proofs.Common.{◌≡◌, ℕ, List, [], Ok, Err, sym, ap, ◌∙◌}
use Rattle.std.specs.Prelude.{Result}
use Rattle.jc_rules.specs.declared.rule.Refusal.{Refusal}
use Rattle.jc_lexer.specs.declared.token.Token.{Token}
use Rattle.jc_front.specs.Stages.{AreRead}

abbrev lists_of : Result (List (List Token)) Refusal → List (List Token)
lists_of (Ok lists) = lists
lists_of (Err refusal) = []

-- sources have one list of tokens each
pub one_reading : (texts : List (List ℕ)) (lists others : List (List Token)) → AreRead texts lists → AreRead texts others → lists ≡ others
one_reading texts lists others a b =
    sym a.tokens ∙ ap lists_of (sym a.are_sources.declared.trees.tokens ∙ b.are_sources.declared.trees.tokens) ∙ b.tokens
