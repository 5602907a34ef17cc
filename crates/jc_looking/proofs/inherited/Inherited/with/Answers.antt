use Rattle.std.proofs.Common.{◌≡◌, ◌++◌, ◌∷◌, [], ℕ, List, ap, ◌∙◌}
use Rattle.jc_looking.proofs.Noted.{noted_with}
use Rattle.jc_looking.proofs.inherited.Inherited.with.Goals as goal

pub invariant_of-result : goal.invariant_of-result
invariant_of-result c =
    let a = noted_with c.args.name.now c.args.class c.self.inside.members c.self.inside.firsts c.self.inside.repeated c.self.invariant in
    let m : c.push.new.self ≡ c.self.inside.members ++ (c.args.name.now, c.args.class) ∷ [] =
    c.in_ok-push.ensures.ok ∙ ap (λ (t : List ℕ). c.self.inside.members ++ (t, c.args.class) ∷ []) c.in_ok-text.ensures in
    rw (m, c.in_ok-note.ensures.firsts, c.in_ok-note.ensures.repeated) a
