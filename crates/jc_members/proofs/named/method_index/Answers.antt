use Rattle.std.proofs.Common.{◌++◌, [], ◌∷◌, cond, refl, ap, ◌∙◌}
use Rattle.std.specs.Str.{bytes_eq}
use Rattle.jc_members.specs.Named.{ids_in, if_named}
use Rattle.jc_members.proofs.Numbering.{named_more}
use Rattle.jc_members.proofs.named.method_index.Goals as goal

pub loop-i-preserved : goal.loop-i-preserved
loop-i-preserved c = record {
  numbered = c.in_ok-note.ensures.numbered;
  ids = λ q. named_more c.args.table.now q c.loop-i.i _ _ refl
      (c.in_ok-note.ensures.ids q ∙ ap (λ x. ids_in c.loop-i.names c.loop-i.groups.items q ++ cond (bytes_eq x q) (record { 0 = c.loop-i.i } ∷ []) []) c.method_name.ensures
      ∙ ap (λ xs. xs ++ if_named c.args.table.now q c.loop-i.i) (c.loop-i.invariant.ids q));
}
