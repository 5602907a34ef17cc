-- What a canonical name names, as the definitions say it.
use Rattle.jc_declares.specs.Looking.{Found, InPackage, AtClass, Nowhere}
use Rattle.jc_imports.specs.declared.canonical.Found.{Found as Answer}
use Rattle.jc_imports.specs.declared.canonical.Found.TheVariants as answer

-- the code's answer as a package, a class by its number, or nothing
abbrev pub found_of : Answer → Found
found_of (answer.InPackage p) = InPackage p
found_of (answer.AtClass c) = AtClass c
found_of answer.Nowhere = Nowhere
