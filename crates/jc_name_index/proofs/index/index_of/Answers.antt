use Rattle.std.proofs.Common.{ap, ◌∙◌}
use Rattle.jc_types.specs.Names.{named}
use Rattle.jc_name_index.specs.Index.{as_member, as_top, as_class_variable, as_method_variable}
use Rattle.jc_name_index.proofs.Picked.{members_picked, tops_picked, class_variables_picked, method_variables_picked, noted_from_empty}
use Rattle.jc_name_index.proofs.Packaged.{packages_named}
use Rattle.jc_name_index.proofs.index.index_of.Goals as goal

pub returns : goal.returns
returns c = record {
  members = λ s n. noted_from_empty as_member c.slice.result.now c.args.heads.now.classes c.in_ok-members.members c.note_members.new.spaces c.len.result c.slice.ensures c.in_ok-members.ensures c.in_ok-note_members.ensures s n
      ∙ ap (named n) (members_picked s 0 c.args.heads.now.classes);
  tops = λ s n. noted_from_empty as_top c.slice-2.result.now c.args.heads.now.classes c.in_ok-tops.tops c.note_tops.new.spaces c.len-2.result c.slice-2.ensures c.in_ok-tops.ensures c.in_ok-note_tops.ensures s n
      ∙ ap (named n) (tops_picked s 0 c.args.heads.now.classes);
  packages = packages_named c.args.heads.now c.in_ok-packages.packages c.in_ok-package_types.package_types c.note_package_types.new.spaces c.slice-3.result.now c.len-3.result c.in_ok-packages.ensures c.slice-3.ensures c.in_ok-package_types.ensures c.in_ok-note_package_types.ensures;
  class_variables = λ s n. noted_from_empty as_class_variable c.slice-4.result.now c.args.heads.now.variables c.in_ok-class_variables.class_variables c.note_class_variables.new.spaces c.len-4.result c.slice-4.ensures c.in_ok-class_variables.ensures c.in_ok-note_class_variables.ensures s n
      ∙ ap (named n) (class_variables_picked s 0 c.args.heads.now.variables);
  method_variables = λ s n. noted_from_empty as_method_variable c.slice-5.result.now c.args.heads.now.variables c.in_ok-method_variables.method_variables c.note_method_variables.new.spaces c.len-5.result c.slice-5.ensures c.in_ok-method_variables.ensures c.in_ok-note_method_variables.ensures s n
      ∙ ap (named n) (method_variables_picked s 0 c.args.heads.now.variables);
}
