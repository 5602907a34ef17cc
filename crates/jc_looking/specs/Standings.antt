-- Where names stand (JLS 6.3): what a simple name means there, and who asks for access (JLS 6.6).
use Rattle.std.specs.Prelude.{ℕ, List, Option, None}
use Rattle.jc_types.specs.Names.{named}
use Rattle.jc_declares.specs.declared.heads.Heads.{Heads}
use Rattle.jc_declares.specs.Heads.{unit_package, method_variables}
use Rattle.jc_declares.specs.Looking.{Asker, Look, Knowledge, or_next, one_variable, in_unit, in_head, in_body, head_asker, body_asker}
use Rattle.jc_looking.specs.declared.scene.Standing.{Standing}
use Rattle.jc_looking.specs.declared.scene.Standing.TheVariants as standing

-- who asks in a package, inside of a type of a unit or (None) outside of all types
abbrev pub asking : List ℕ → Option ℕ → Asker
asking p top = record { «package» = p; top = top }

-- in a method first come its own type parameters (JLS 8.4.4)
abbrev pub find_at : Heads → Knowledge → Standing → List ℕ → Look
find_at H K (standing.Unit u) n = in_unit H u n
find_at H K (standing.Head c) n = in_head H K c n
find_at H K (standing.Body c) n = in_body H K c n
find_at H K (standing.Method m c) n = or_next (one_variable (named n (method_variables H m))) (in_body H K c n)

-- in a head, one asks from the classes round it; in a method, from the body of its class
abbrev pub asker_at : Heads → Standing → Asker
asker_at H (standing.Unit u) = asking (unit_package H u) None
asker_at H (standing.Head c) = head_asker H c
asker_at H (standing.Body c) = body_asker H c
asker_at H (standing.Method m c) = body_asker H c
