-- The unchecked warnings of a typed program: by file, offset and kind, each once.
use Rattle.std.specs.Prelude.{◌==◌, nat_lt, Bool, ◌&&◌, ◌||◌, List, [], ◌∷◌, ◌++◌, Option, Some, None, if◌then◌else◌}
use Rattle.jc_types.specs.declared.environment.Bounds.{Bounds}
use Rattle.jc_types.specs.declared.table.Table.{Table}
use Rattle.jc_typed.specs.declared.program.Body.{Body}
use Rattle.jc_typed.specs.declared.program.TypedMethod.{TypedMethod}
use Rattle.jc_typed.specs.declared.program.TypedProgram.{TypedProgram}
use Rattle.jc_typed.specs.Parts.{stmt_of, stmts_of}
use Rattle.jc_unchecked_spec.specs.declared.warning.Warning.{Warning}
use Rattle.jc_unchecked_spec.specs.Bodies.{of_stmt, of_stmts}
use Rattle.jc_unchecked_spec.specs.Heads.{heads_warned}
use Rattle.jc_unchecked_spec.specs.Kinds.{kind_number}

-- the warnings of a method's body: the call of another constructor, the initialisers, and the block
abbrev pub body_warned : Table → TypedMethod → Option Body → List Warning
body_warned T m None = []
body_warned T m (Some b) =
    let env : List Bounds = m.captured.bounds in
    of_stmts T env (stmts_of m.nodes b.call) ++ of_stmts T env (stmts_of m.nodes b.initialisers) ++ of_stmt T env (stmt_of m.nodes b.rest)

abbrev pub bodies_warned : Table → List TypedMethod → List Warning
bodies_warned T [] = []
bodies_warned T (m ∷ ms) = body_warned T m m.body ++ bodies_warned T ms

-- all of them, some more than once: the initialisers stand in each constructor
abbrev pub all_warned : TypedProgram → List Warning
all_warned P = heads_warned P.table ++ bodies_warned P.table P.methods

-- ---- their order

-- by file, then by offset, then by kind
abbrev pub comes_before : Warning → Warning → Bool
comes_before a b =
    nat_lt a.place.file b.place.file
    || ((a.place.file == b.place.file) && (nat_lt a.place.at b.place.at || ((a.place.at == b.place.at) && nat_lt (kind_number a.kind) (kind_number b.kind))))

-- among ordered ones, where it isn't there yet
abbrev pub inserted : Warning → List Warning → List Warning
inserted w [] = w ∷ []
inserted w (v ∷ vs) = if comes_before w v then w ∷ v ∷ vs else if comes_before v w then v ∷ inserted w vs else v ∷ vs

abbrev pub in_order : List Warning → List Warning
in_order [] = []
in_order (w ∷ ws) = inserted w (in_order ws)

-- the warnings of a program
unfoldable pub warnings : TypedProgram → List Warning
warnings P = in_order (all_warned P)
