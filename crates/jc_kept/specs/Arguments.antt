-- Closed and kept types at a type argument.
use Rattle.std.specs.Prelude.{List, [], ◌∷◌}
use Rattle.jc_types.specs.declared.form.Ty.{Ty}
use Rattle.jc_types.specs.declared.form.Arg.{Arg, fold-Arg, roll-Arg}
use Rattle.jc_types.specs.declared.table.Table.{Table}
use Rattle.jc_meaning.specs.declared.frame.Binding.{Binding}
use Rattle.jc_meaning.specs.Kept.{close_step, unbounded_step}

-- an argument with what its variables stand for in their places
unfoldable pub close_arg : List Binding → List Ty → Arg → Arg
close_arg vars captured a = fold-Arg Arg Ty roll-Arg (close_step vars captured) a

-- an argument in which a raw type has `?` for each parameter of its class
unfoldable pub unbounded_arg : Table → Arg → Arg
unbounded_arg T a = fold-Arg Arg Ty roll-Arg (unbounded_step T) a

-- a list without its first member
abbrev pub after_first : List Ty → List Ty
after_first [] = []
after_first (t ∷ ts) = ts
