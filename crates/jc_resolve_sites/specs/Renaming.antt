-- Members whose type parameters are renamed. A type parameter's name has no meaning of its own (JLS 8.4.4), so a member may have any others in its place that nothing else names.
use Rattle.std.specs.Prelude.{ℕ, zero, suc, ◌+◌, max, List, [], ◌∷◌, length, map}
use Rattle.std.specs.Option.{option_map}
use Rattle.jc_types.specs.declared.form.Ty.{Ty}
use Rattle.jc_types.specs.declared.ids.VarId.{VarId}
use Rattle.jc_types.specs.Substitution.{subst}
use Rattle.jc_overriding.specs.declared.view.MethodView.{MethodView}
use Rattle.jc_overriding.specs.Signatures.{variables}
use Rattle.jc_resolve_sites.specs.Above.{above_all}

-- type variables with so many numbers from i on
abbrev pub numbered : ℕ → ℕ → List VarId
numbered i zero = []
numbered i (suc n) = record { 0 = i } ∷ numbered (i + 1) n

-- a member with other type parameters, and with types put for variables
abbrev pub put_in : List VarId → List VarId → List Ty → MethodView → MethodView
put_in own vars by m =
    record {
      id = m.id;
      vars = own;
      bounds = map (map (subst vars by)) m.bounds;
      params = map (subst vars by) m.params;
      result = option_map (subst vars by) m.result;
      thrown = map (subst vars by) m.thrown;
      variable = m.variable;
    }

-- a member with its type parameters numbered from n on
abbrev pub renamed : ℕ → MethodView → MethodView
renamed n m = put_in (numbered n (length m.vars)) m.vars (variables (numbered n (length m.vars))) m

-- a member that is declared so, as a type has it that has these types for the parameters of its class: its type parameters are renamed first, to numbers that these types don't name
abbrev pub seen : ℕ → List VarId → List Ty → MethodView → MethodView
seen n vars by d = put_in (renamed (max n (above_all by)) d).vars vars by (renamed (max n (above_all by)) d)
