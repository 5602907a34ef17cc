-- Sites that follow one another, and parts of bodies at their places.
use Rattle.std.specs.Prelude.{List, ◌++◌, map, length}
use Rattle.jc_declares.specs.Sites as site
use Rattle.jc_declares.specs.Sites.{BodyPart, UseSite, Counts}
use Rattle.jc_sites.specs.declared.parts.Spot.{Spot}
use Rattle.jc_sites.specs.declared.places.Sites.{Sites}

-- the ones and then the others
abbrev pub with_sites : Sites → site.Sites → Sites
with_sites a b =
    record {
      units = a.units ++ b.units;
      classes = a.classes ++ b.classes;
      methods = a.methods ++ b.methods;
      fields = a.fields ++ b.fields;
      variables = a.variables ++ b.variables;
      scopes = a.scopes ++ b.scopes;
      uses = a.uses ++ b.uses;
    }

-- as the definition has them
abbrev pub sites_seen : Sites → site.Sites
sites_seen s =
    record {
      units = s.units;
      classes = s.classes;
      methods = s.methods;
      fields = s.fields;
      variables = s.variables;
      scopes = s.scopes;
      uses = s.uses;
    }

-- how many classes, methods and scopes there are
abbrev pub counted : Sites → Counts
counted s = record { classes = length s.classes; methods = length s.methods; scopes = length s.scopes }

-- these parts of a body, all at one place
abbrev pub placed : Spot → List BodyPart → List UseSite
placed p parts = map (λ t. record { class = p.class; scope = p.scope; is_static = p.is_static; part = t }) parts
