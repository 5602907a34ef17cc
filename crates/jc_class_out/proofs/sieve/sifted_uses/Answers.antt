use Rattle.std.proofs.Common.{◌∙◌, ap, List, ℕ, Option, Some, length, take}
use Rattle.jc_class_out.specs.declared.sieve.Sieve.{Sieve}
use Rattle.jc_class_out.specs.Pool.{Known}
use Rattle.jc_class_out.specs.Spelling.{knowns, uses}
use Rattle.jc_class_out.specs.Sifting.{sifted}
use Rattle.jc_class_out.proofs.Sieves.{told_sieve}
use Rattle.jc_class_out.proofs.sieve.sifted_uses.Goals as goal

pub returns : goal.returns
returns c =
    let us = uses c.args.class.now in
    let told = told_sieve (λ (s : Sieve). s.bucket) (λ (s : Sieve). knowns (take s.count s.kept)) c.new-sieve.result c.tell_uses.new.visitor (uses c.args.class.now) c.in-Ok.ensures in
    c.len.ensures ∙ ap (length {A = Known}) (told ∙ ap (λ (b : Option ℕ). sifted b (knowns (take c.new-sieve.result.count c.new-sieve.result.kept)) us) c.new-sieve.ensures.bucket ∙ ap (λ (x : List Known). sifted (Some c.args.bucket) x us) c.new-sieve.ensures.none)
