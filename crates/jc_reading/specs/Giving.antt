-- What the code answers, against what is read.
use Rattle.std.specs.Prelude.{◌≡◌, Result, Ok, Err}
use Rattle.jc_reading.specs.declared.reading.Found.{Found}
use Rattle.jc_reading.specs.declared.reading.Halt.{Halt}
use Rattle.jc_reading.specs.declared.reading.Halt.TheVariants as halt_of
use Rattle.jc_reading.specs.Reading.{Read}
use Rattle.jc_reading.specs.Reading as reading

-- where the code stops, reading stops with the same reach; of want of memory nothing is said
abbrev pub Halts : {A : Type 0} → Halt → Read A → Type 0
Halts (halt_of.Stopped left) read = read ≡ reading.Stopped left
Halts halt_of.WantOfMemory read = Unit {0}

-- this is what is read
abbrev pub Is : {A : Type 0} → Found A → Read A → Type 0
Is f read = read ≡ reading.Found f.value f.rest.now f.left

-- the answer is what is read, want of memory aside
abbrev pub Gives : {A : Type 0} → Result (Found A) Halt → Read A → Type 0
Gives (Ok f) read = Is f read
Gives (Err halt) read = Halts halt read
