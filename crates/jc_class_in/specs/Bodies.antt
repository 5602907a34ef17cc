-- A method's Code, where its flags want one (JVMS 4.7.3).
use Rattle.std.specs.Prelude.{ℕ, List, Option, Result, if◌then◌else◌}
use Rattle.jc_class_out.specs.declared.format.Flaw.{Flaw}
use Rattle.jc_class_out.specs.declared.format.Slot.{Slot}
use Rattle.jc_class_out.specs.declared.model.CodeModel.{CodeModel}
use Rattle.jc_class_out.specs.Descriptors.{entry_locals}
use Rattle.jc_class_out.specs.Format.{is_bodiless, with_code_at, without_code_at}

-- `class` is the name of the class
abbrev pub body_by : List Slot → List ℕ → ℕ → List ℕ → List ℕ → List ℕ → Result (Option CodeModel × List ℕ) Flaw
body_by pool class flags name descriptor bytes = if is_bodiless flags then without_code_at pool bytes else with_code_at pool (entry_locals class flags name descriptor) bytes
