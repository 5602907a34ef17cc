-- What the names of a program are looked up in.
use Rattle.std.specs.Prelude.{◌≡◌, List}
use Rattle.jc_declares.specs.declared.heads.Heads.{Heads}
use Rattle.jc_declares.specs.declared.unit.SourceUnit.{SourceUnit}
use Rattle.jc_declares.specs.Heads.{heads_of}
use Rattle.jc_declares.specs.Knowing.{known}
use Rattle.jc_declares.specs.Sites.{sites_of}
use Rattle.jc_looking.specs.Members.{known_in}
use Rattle.jc_looking.specs.Scenes.{IsScene}
use Rattle.jc_written_in.specs.declared.naming.Naming.{Naming}

-- the names of these heads are looked up in that
pub record IsNamingOf (H : Heads) (N : Naming) : Type 0 where
  pub heads : N.heads ≡ H
  pub scene : IsScene N.heads N.index N.imports
  pub known : known_in N.known ≡ known N.heads

-- the names of these sources are looked up in that
abbrev pub IsNaming : List SourceUnit → Naming → Type 0
IsNaming units N = IsNamingOf (heads_of (sites_of units)) N
