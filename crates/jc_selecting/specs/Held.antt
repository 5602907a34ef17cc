-- What stands at a number in a map by the bits of numbers.
use Rattle.std.specs.Prelude.{ℕ, zero, suc, ◌+◌, ◌==◌, ◌/◌, ◌%◌, if◌then◌else◌}
use Rattle.std.specs.Option.{option_map}
use Rattle.std.specs.declared.option.Option.{Option}
use Rattle.std.specs.declared.option.Option.TheVariants.{Some, None}
use Rattle.std.specs.declared.alloc.Global.{Global}
use Rattle.std.specs.declared.rc.Rc.{Rc}
use Rattle.jc_selecting.specs.declared.map.Branch.{Branch, out-Branch}

-- the branch behind a shared reference, if there is one
abbrev pub content : Option (Rc Branch Global) → Option Branch
content branch = option_map (λ b. b.value) branch

-- what stands at 0 in this branch: at the number whose bits lead just here
abbrev pub value_of : Option Branch → Option (ℕ × ℕ)
value_of (Some b) = (out-Branch b).value
value_of None = None

-- the branch for the numbers with a lowest bit of 1, and that for those with 0; a branch that isn't there has neither
abbrev pub odd_of : Option Branch → Option Branch
odd_of (Some b) = content (out-Branch b).odd
odd_of None = None

abbrev pub even_of : Option Branch → Option Branch
even_of (Some b) = content (out-Branch b).even
even_of None = None

-- what stands at the numbers that are odd, or even, as this one is
abbrev pub half_of : Option Branch → ℕ → Option Branch
half_of branch key = if key % 2 == 1 then odd_of branch else even_of branch

-- over so many bits
unfoldable pub held_on : ℕ → Option Branch → ℕ → Option (ℕ × ℕ)
held_on zero branch key = None
held_on (suc n) branch key = if key == 0 then value_of branch else if key % 2 == 1 then held_on n (odd_of branch) (key / 2) else held_on n (even_of branch) (key / 2)

-- A number has no more bits than it says.
abbrev pub held : Option Branch → ℕ → Option (ℕ × ℕ)
held branch key = held_on (key + 1) branch key
