use Rattle.std.proofs.Common.{◌≡◌, Bool, true, List, sym, subst}
use Rattle.jc_name_rules.specs.Cycles.{is_marked}
use Rattle.jc_names.proofs.stage.with_scene.Goals as goal

pub with_marks-requires-clause-marked : goal.with_marks-requires-clause-marked
with_marks-requires-clause-marked c =
    record {
      cyclic = λ k e. c.in_ok-marks.ensures.cyclic k (subst (λ (m : List Bool). is_marked m k ≡ true) c.slice-marked.ensures e);
      marked = λ k s g n. subst (λ (m : List Bool). is_marked m k ≡ true) (sym c.slice-marked.ensures) (c.in_ok-marks.ensures.marked k s g n);
    }
