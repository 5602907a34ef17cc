use Rattle.std.proofs.Common.{◌≡◌, ◌≤◌, take}
use Rattle.javag.specs.Objects.{HaveTexts}
use Rattle.javag.proofs.sources.read_sources.Given as goal

abbrev pub invariant-loop-at : goal.invariant-loop-at
invariant-loop-at g l = record {
  read : HaveTexts (g.S.Shelf.files l.initial.shelf) (take l.at l.names) l.texts;
  files : g.S.Shelf.files l.shelf ≡ g.S.Shelf.files l.initial.shelf;
  later : g.S.Shelf.faults l.initial.shelf ≤ g.S.Shelf.faults l.shelf;
}
