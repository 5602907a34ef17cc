-- How the types in two type arguments stand to each other where the class types round them stand so (JLS 15.12.2.7, 15.12.2.8).
use Rattle.std.specs.Prelude.{Option, Some, None}
use Rattle.jc_types.specs.declared.form.Arg.{Arg-F}
use Rattle.jc_constraints.specs.declared.standing.ArgKind.{ArgKind}
use Rattle.jc_constraints.specs.declared.standing.ArgKind.TheVariants as kind
use Rattle.jc_constraints.specs.declared.standing.Standing.{Standing}
use Rattle.jc_constraints.specs.declared.standing.Standing.TheVariants.{Below, Same, Above}

-- how an argument is written: a type, `?`, or a type behind `extends` or `super`
abbrev pub kind_of : {A X : Type 0} → Arg-F A X → ArgKind
kind_of (Arg-F.Exact t) = kind.Exact
kind_of Arg-F.Any = kind.Any
kind_of (Arg-F.Extends t) = kind.Extends
kind_of (Arg-F.Super t) = kind.Super

-- the type in an argument
abbrev pub part_of : {A X : Type 0} → Arg-F A X → Option X
part_of (Arg-F.Exact t) = Some t
part_of Arg-F.Any = None
part_of (Arg-F.Extends t) = Some t
part_of (Arg-F.Super t) = Some t

-- the same for a type, and nothing for wildcards
abbrev pub if_exact : ArgKind → Option Standing
if_exact kind.Exact = Some Same
if_exact _ = None

-- a type, or one behind `extends`
abbrev pub if_upper : Standing → ArgKind → Option Standing
if_upper s kind.Exact = Some s
if_upper s kind.Extends = Some s
if_upper s _ = None

-- a type, or one behind `super`
abbrev pub if_lower : Standing → ArgKind → Option Standing
if_lower s kind.Exact = Some s
if_lower s kind.Super = Some s
if_lower s _ = None

-- `A << G<U>` with V in the view of A as G, by the kind of U and then that of V: `V = U`, `V << U` under `extends`, `V >> U` under `super`
abbrev pub standing_below : ArgKind → ArgKind → Option Standing
standing_below kind.Exact actual = if_exact actual
standing_below kind.Extends actual = if_upper Below actual
standing_below kind.Super actual = if_lower Above actual
standing_below kind.Any actual = None

-- `G<V> = G<U>`: arguments of one kind
abbrev pub standing_same : ArgKind → ArgKind → Option Standing
standing_same kind.Exact kind.Exact = Some Same
standing_same kind.Extends kind.Extends = Some Same
standing_same kind.Super kind.Super = Some Same
standing_same _ _ = None

-- `G<W> >> G<U>`: `W = U`, `W >> U` where W stands behind `extends`, `W << U` behind `super`
abbrev pub standing_above : ArgKind → ArgKind → Option Standing
standing_above formal kind.Exact = if_exact formal
standing_above formal kind.Extends = if_upper Above formal
standing_above formal kind.Super = if_lower Below formal
standing_above formal kind.Any = None

-- by how the class types stand, and by the kinds of the formal and of the actual argument
abbrev pub standing_of : Standing → ArgKind → ArgKind → Option Standing
standing_of Below formal actual = standing_below formal actual
standing_of Same formal actual = standing_same formal actual
standing_of Above formal actual = standing_above formal actual
