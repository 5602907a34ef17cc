-- One run, and then another.
use Rattle.std.specs.Prelude.{◌+◌, ◌++◌}
use Rattle.jc_jvm.specs.Runs.{Run}

-- outputs follow each other, bytes taken and failed checks add up, and the state is the one after the later run
abbrev pub joined : Run → Run → Run
joined first later = record {
  output = first.output ++ later.output;
  taken = first.taken + later.taken;
  failed = first.failed + later.failed;
  after = later.after;
}
