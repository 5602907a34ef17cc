-- What a reader answers, beside the definition that it follows.
use Rattle.std.specs.Prelude.{◌≡◌, Result, Ok, Err}
use Rattle.jc_rules.specs.declared.stop.Stop.{Stop}
use Rattle.jc_rules.specs.declared.stop.Stop.TheVariants.{Refused, WantOfMemory}
use Rattle.jc_class_out.specs.declared.format.Flaw.{Flaw}

-- a reader that stops at a flaw stops at that of the definition; want of memory says nothing of the bytes
abbrev pub Fails : {Y : Type 0} → Stop Flaw → Result Y Flaw → Type 0
Fails (Refused flaw) read = read ≡ Err flaw
Fails WantOfMemory read = Unit {0}

-- what a reader answers, seen by view, is what the definition reads
abbrev pub Gives : {X Y : Type 0} → (X → Y) → Result X (Stop Flaw) → Result Y Flaw → Type 0
Gives view (Ok x) read = read ≡ Ok (view x)
Gives view (Err stop) read = Fails stop read
