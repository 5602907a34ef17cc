-- What names are looked up in: heads with their index and what their imports name.
use Rattle.jc_declares.specs.declared.heads.Heads.{Heads}
use Rattle.jc_name_index.specs.declared.index.Index.{Index}
use Rattle.jc_name_index.specs.Index.{IsIndex}
use Rattle.jc_imports.specs.declared.imports.Imports.{Imports}
use Rattle.jc_imports.specs.Imported.{IsImports}

-- the index and the imports are those of these heads
pub record IsScene (H : Heads) (I : Index) (M : Imports) : Type 0 where
  pub index : IsIndex H I
  pub imports : IsImports H M
