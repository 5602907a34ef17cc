use Rattle.std.proofs.Common.{◌≡◌, ◌&&◌, true, rules, sym, ap, ◌∙◌}
use Rattle.jc_overriding.specs.Signatures.{override_equivalent}
use Rattle.jc_overriding.specs.Viewing.{declared_view}
use Rattle.jc_header_rules.specs.Headers.{is_before, is_same_sort}
use Rattle.jc_method_rules.proofs.pairs.repeats.Goals as goal

pub returns : goal.returns
returns c =
    let T = c.args.table.now in
    let earlier : (is_before T c.args.n c.args.m && is_same_sort T c.args.n c.args.m) ≡ true = search rules in
    c.in_ok-same.ensures ∙ ap (λ d. override_equivalent T d c.in_ok-earlier.earlier) c.requires ∙ ap (override_equivalent T (declared_view T c.args.m)) c.in_ok-earlier.ensures
    ∙ ap (λ b. b && override_equivalent T (declared_view T c.args.m) (declared_view T c.args.n)) (sym earlier)
