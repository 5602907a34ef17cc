use Rattle.std.proofs.Common.{◌∙◌, ap, sym, List, ℕ, [], ◌∷◌, ◌++◌, codes, append_assoc}
use Rattle.std.specs.Fmt.{decimal}
use Rattle.javag.proofs.closing.steps_line.Goals as goal

pub returns : goal.returns
returns c = c.in_ok-format.ensures.ok ∙ ap (λ (l : List ℕ). codes "javag: stopped after " ++ l) (sym (append_assoc (decimal c.args.steps) (codes " steps") (10 ∷ [])))
