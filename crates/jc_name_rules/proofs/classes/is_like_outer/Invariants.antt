use Rattle.std.proofs.Common.{◌≡◌, ℕ, drop}
use Rattle.std.specs.Str.{bytes_eq}
use Rattle.jc_declares.specs.Heads.{name_of}
use Rattle.jc_declares.specs.HeadBreaks.{some_in}
use Rattle.jc_name_rules.proofs.classes.is_like_outer.Given as goal

abbrev pub invariant-loop-outer : goal.invariant-loop-outer
invariant-loop-outer l = some_in (λ (o : ℕ). bytes_eq (name_of l.heads o) l.class.name) (drop l.outer-index l.outer-items) ≡ some_in (λ (o : ℕ). bytes_eq (name_of l.heads o) l.class.name) l.outer-items
