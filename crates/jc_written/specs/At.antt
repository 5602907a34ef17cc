-- A reading of the code as the definition has it.
use Rattle.std.specs.Prelude.{Bool, slice_get}
use Rattle.jc_declares.specs.declared.heads.Heads.{Heads}
use Rattle.jc_declares.specs.declared.heads.ScopeForm.{ScopeForm}
use Rattle.jc_declares.specs.declared.heads.ScopeForm.TheVariants as scope_of
use Rattle.jc_declares.specs.Readings.{unit_reading, body_reading, method_reading, class_of_method}
use Rattle.jc_declares.specs.Looking.{Knowledge}
use Rattle.jc_declares.specs.Writing as writing
use Rattle.jc_looking.specs.Standings.{find_at, asker_at}
use Rattle.jc_written.specs.declared.reading.Reading.{Reading}

-- how names are looked up, and who asks, where the code's reading stands
abbrev pub reading_at : Heads → Knowledge → Reading → writing.Reading
reading_at H K r = record { find = find_at H K r.standing; asker = asker_at H r.standing; own = r.own }

-- in a scope of a form
abbrev pub form_reading : Heads → Knowledge → ScopeForm → Bool → writing.Reading
form_reading H K (scope_of.Unit u) is_static = unit_reading H u
form_reading H K (scope_of.Class c) is_static = body_reading H K c is_static
form_reading H K (scope_of.Method m) is_static = method_reading H K m (class_of_method (slice_get H.methods m)) is_static
