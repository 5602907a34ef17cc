use Rattle.std.proofs.Common.{◌≡◌, ◌-◌, length}
use Rattle.jc_frames_types.specs.Names.{is_in_line}
use Rattle.jc_frames_types.proofs.below.has_in_line.Given as goal

-- the line from here on tells it as the whole line does
abbrev pub invariant-loop : goal.invariant-loop
invariant-loop l = is_in_line l.types (length l.types - l.counter) l.to l.name ≡ is_in_line l.types (length l.types) l.to l.fn.name
