use Rattle.std.proofs.Common.{◌≡◌, false, rules, bytes_eq}
use Rattle.jc_types.specs.Accessors.{method_name_of}
use Rattle.jc_method_rules.proofs.Paired.{named_apart}
use Rattle.jc_method_rules.proofs.pairs.pair_broken.Goals as goal

pub returns-then-ne : goal.returns-then-ne
returns-then-ne c =
    let T = c.args.table.now in
    let other : bytes_eq (method_name_of T c.args.n) (method_name_of T c.args.m) ≡ false = search rules in named_apart T c.args.m c.args.n c.args.place c.args.found other
