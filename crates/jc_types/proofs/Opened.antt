-- One level of each variant, for functions that match on a type.
use Rattle.jc_types.specs.declared.form.Ty.TheVariants.{outs-Prim, outs-Class, outs-Raw, outs-Array, outs-Variable, outs-Captured, outs-Meet, outs-NullTy}
use Rattle.jc_types.specs.declared.form.Arg.TheVariants.{outs-Exact, outs-Any, outs-Extends, outs-Super}

pub ruleset opened = (outs-Prim, outs-Class, outs-Raw, outs-Array, outs-Variable, outs-Captured, outs-Meet, outs-NullTy, outs-Exact, outs-Any, outs-Extends, outs-Super)
