-- The types that bodies write, where they stand, and as the table has them.
use Rattle.std.specs.Prelude.{◌≡◌, ◌⊎◌, ◌||◌, List, [], ◌∷◌}
use Rattle.jc_tree.specs.declared.types.TypeTree.{TypeTree}
use Rattle.jc_types.specs.declared.scopes.Use.{Use}
use Rattle.jc_types.specs.declared.scopes.UseKind.TheVariants as use_kind
use Rattle.jc_declares.specs.declared.heads.Heads.{Heads}
use Rattle.jc_declares.specs.HeadBreaks.{class_file}
use Rattle.jc_declares.specs.Heads.{is_interface}
use Rattle.jc_declares.specs.Looking.{Knowledge}
use Rattle.jc_declares.specs.Making.{class_id}
use Rattle.jc_declares.specs.Sites.{UseSite}
use Rattle.jc_written_in.specs.declared.writing.Spot.{Spot}
use Rattle.jc_written_in.specs.Writings.{type_in}

-- x is in the list
abbrev pub IsAmong : {X : Type 0} → X → List X → Type 0
IsAmong x [] = ⊥
IsAmong x (y ∷ ys) = (x ≡ y) ⊎ IsAmong x ys

-- in an interface every place is static, since its fields are (JLS 9.3)
abbrev pub spot_of : Heads → UseSite → Spot
spot_of H u = record { file = class_file H u.class; scope = record { 0 = u.scope }; is_static = u.is_static || is_interface H u.class }

-- the entry of the table for a whole type that a body writes at this site
abbrev pub use_of : Heads → Knowledge → UseSite → TypeTree → Use
use_of H K u tree =
    record {
      class = class_id u.class;
      scope = record { 0 = u.scope };
      ty = type_in H K (spot_of H u) tree;
      kind = use_kind.Type;
    }
