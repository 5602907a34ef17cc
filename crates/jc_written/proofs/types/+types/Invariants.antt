use Rattle.std.proofs.Common.{◌≡◌, ◌++◌, drop, map}
use Rattle.jc_declares.specs.Making.{place_at}
use Rattle.jc_looking.specs.Members.{known_in}
use Rattle.jc_written.specs.At.{reading_at}
use Rattle.jc_written.specs.Trees.{args_meant, args_placed}
use Rattle.jc_written.proofs.types.+types.Given as goal

abbrev pub invariant-push_args-loop-arg : goal.invariant-push_args-loop-arg
invariant-push_args-loop-arg l =
    let H = l.scene.declared.heads.now in let K = known_in l.scene.known.now in
    record {
      list : l.list ++ args_meant H K (reading_at H K l.reading) (drop l.arg-index l.args) ≡ l.initial.list ++ args_meant H K (reading_at H K l.reading) l.args;
      places : l.places ++ map (place_at l.file) (args_placed H K (reading_at H K l.reading) (drop l.arg-index l.args)) ≡ l.initial.places ++ map (place_at l.file) (args_placed H K (reading_at H K l.reading) l.args);
    }
