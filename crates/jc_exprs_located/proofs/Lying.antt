-- What is found stays what it is where the arena grows.
use Rattle.std.proofs.Common.{◌≡◌, refl, ap, List, Option, None, Some, length}
use Rattle.jc_typed.specs.declared.nodes.Node.{Node}
use Rattle.jc_typed.specs.Parts.{Grows}
use Rattle.jc_typed.proofs.Growing.{within}
use Rattle.jc_exprs_located.specs.declared.located.FieldFound.{FieldFound}
use Rattle.jc_exprs_located.specs.declared.located.LocatedAt.{LocatedAt}
use Rattle.jc_exprs_located.specs.declared.located.LocatedAt.TheVariants as located
use Rattle.jc_exprs_located.specs.Locations.{FieldBelow, IsBelow, LocatedBelow, field_of, has_located, located_of}

pub field_stays : (ms ns : List Node) (f : FieldFound) → Grows ms ns → FieldBelow (length ms) f → field_of ns f ≡ field_of ms f
field_stays ms ns f g b = rw (g.kept f.before b.0, g.kept f.of b.1, g.kept f.ty b.2) refl

pub field_below : (ms ns : List Node) (f : FieldFound) → Grows ms ns → FieldBelow (length ms) f → FieldBelow (length ns) f
field_below ms ns f g b = (within ms ns f.before g b.0, within ms ns f.of g b.1, within ms ns f.ty g b.2)

pub located_stays : (ms ns : List Node) (l : LocatedAt) → Grows ms ns → IsBelow (length ms) l → located_of ns l ≡ located_of ms l
located_stays ms ns (located.Local place local) g b = refl
located_stays ms ns (located.Field f) g b = rw (g.kept f.before b.0, g.kept f.of b.1, g.kept f.ty b.2) refl
located_stays ms ns (located.Element place array index ty) g b = rw (g.kept array b.0, g.kept index b.1, g.kept ty b.2) refl
located_stays ms ns (located.Length place array) g b = rw (g.kept array b) refl

pub located_below : (ms ns : List Node) (l : LocatedAt) → Grows ms ns → IsBelow (length ms) l → IsBelow (length ns) l
located_below ms ns (located.Local place local) g b = b
located_below ms ns (located.Field f) g b = field_below ms ns f g b
located_below ms ns (located.Element place array index ty) g b = (within ms ns array g b.0, within ms ns index g b.1, within ms ns ty g b.2)
located_below ms ns (located.Length place array) g b = within ms ns array g b

pub has_located_stays : (ms ns : List Node) (l : Option LocatedAt) → Grows ms ns → LocatedBelow (length ms) l → has_located ns l ≡ has_located ms l
has_located_stays ms ns None g b = refl
has_located_stays ms ns (Some l) g b = ap Some (located_stays ms ns l g b)

pub has_located_below : (ms ns : List Node) (l : Option LocatedAt) → Grows ms ns → LocatedBelow (length ms) l → LocatedBelow (length ns) l
has_located_below ms ns None g b = b
has_located_below ms ns (Some l) g b = located_below ms ns l g b

pub ruleset lying = (field_stays, field_below, located_stays, located_below, has_located_stays, has_located_below)
