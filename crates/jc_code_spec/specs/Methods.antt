-- The code of an erased method: all of its variables but those that the call gives are set to 0 or null first, and behind its body it gives the default of its result.
use Rattle.std.specs.Prelude.{ℕ, ◌+◌, true, List, [], ◌∷◌, ◌++◌, length, drop, Option, Some, None}
use Rattle.jc_types.specs.declared.erased.Erased.{Erased}
use Rattle.jc_typed.specs.declared.nodes.Node.{Node}
use Rattle.jc_typed.specs.declared.program.Body.{Body}
use Rattle.jc_typed.specs.declared.program.TypedMethod.{TypedMethod}
use Rattle.jc_typed.specs.Parts.{stmt_of, stmts_of}
use Rattle.jc_erased.specs.declared.program.ErasedProgram.{ErasedProgram}
use Rattle.jc_right.specs.Bodies.{given_types, scene_of}
use Rattle.jc_code_spec.specs.Pieces.{Code, Coder, ◌>>◌, empty, skip}
use Rattle.jc_code_spec.specs.Simple.{all_units, give_back, push_default, store, units}
use Rattle.jc_code_spec.specs.Statements.{Round, stmt_code, stmts_code}

abbrev pub round_of : ErasedProgram → TypedMethod → Round
round_of P m = record {
  setting = record { program = P; scene = scene_of P.table P.known m; depth = 0; is_made = true };
  targets = [];
}

-- behind the body: a method with a result that came here gives its default, which no caller sees (JLS 8.4.7)
abbrev pub default_back : Option Erased → Coder
default_back None = give_back None
default_back (Some e) = push_default e >> give_back (Some e)

-- the call of another constructor, the initialisers, the block, and the return
abbrev pub body_code : Round → List Node → Body → Coder
body_code R nodes b =
    stmts_code R (stmts_of nodes b.call) >> stmts_code R (stmts_of nodes b.initialisers) >> stmt_code R (stmt_of nodes b.rest)
    >> default_back R.setting.scene.result

-- variables of these types from a slot on begin as 0 or null
abbrev pub zeros : ℕ → List Erased → Coder
zeros at [] = skip
zeros at (e ∷ es) = push_default e >> store e at >> zeros (at + units e) es

-- the types of all variables, the hidden ones behind the others
abbrev pub all_types : Round → Code → List Erased
all_types R c = R.setting.scene.locals ++ c.hidden

-- the variables that the call doesn't give
abbrev pub not_given : ErasedProgram → TypedMethod → List Erased → List Erased
not_given P m es = drop (length (given_types P.table m.id)) es

abbrev pub begun : ErasedProgram → TypedMethod → Code → Code
begun P m c =
    let first = zeros (all_units (given_types P.table m.id)) (not_given P m (all_types (round_of P m) c)) empty in
    record c { pieces = first.pieces ++ c.pieces }

-- the code of a method that has a body
abbrev pub code_by : ErasedProgram → TypedMethod → Option Body → Option Code
code_by P m None = None
code_by P m (Some b) = Some (begun P m (body_code (round_of P m) m.nodes b empty))

unfoldable pub method_code : ErasedProgram → TypedMethod → Option Code
method_code P m = code_by P m m.body
