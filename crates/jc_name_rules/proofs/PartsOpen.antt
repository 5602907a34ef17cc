-- Whether the classes that an import names may be named is told part by part.
use Rattle.std.proofs.Common.{◌≡◌, ◌<◌, ◌+◌, Some, None, drop, length, get_or, ℕ, true, List, [], ◌∷◌, ◌++◌, refl, sym, ap, ◌∙◌}
use Rattle.std.specs.Prelude.{◌&&◌}
use Rattle.jc_declares.specs.declared.heads.Heads.{Heads}
use Rattle.jc_declares.specs.Looking.{Asker, Found, InPackage, AtClass, Nowhere, is_accessible, all_accessible, next_part, class_or_nowhere, type_or_package}
use Rattle.jc_types.specs.Names.{named}
use Rattle.jc_declares.specs.Heads.{declared_of, types_of_package}
use Rattle.jc_written.proofs.Counting.{first_left}
use Rattle.jc_declares.specs.HeadBreaks.{class_found, classes_found}
use Rattle.jc_name_rules.specs.Opened.{found_open, parts_open}

one_open : (H : Heads) (a : Asker) (f : Found) (cs : List ℕ) → all_accessible H a (class_found f ++ cs) ≡ found_open H a f && all_accessible H a cs
one_open H a (AtClass c) cs = refl
one_open H a (InPackage p) cs = refl
one_open H a Nowhere cs = refl

pub open_told : (H : Heads) (a : Asker) (f : Found) (ns : List (List ℕ)) → all_accessible H a (classes_found H f ns) ≡ parts_open H a f ns
open_told H a f [] = refl
open_told H a f (n ∷ ns) = one_open H a (next_part H f n) (classes_found H (next_part H f n) ns) ∙ ap (λ b. found_open H a (next_part H f n) && b) (open_told H a (next_part H f n) ns)

-- nothing is named behind what is nowhere
pub nowhere_open : (H : Heads) (a : Asker) (ns : List (List ℕ)) → parts_open H a Nowhere ns ≡ true
nowhere_open H a [] = refl
nowhere_open H a (n ∷ ns) = nowhere_open H a ns

-- where a class has no member type of a name
pub member_none : (H : Heads) (a : Asker) (parts : List (List ℕ)) (at outer : ℕ) (part n : List ℕ) → at < length parts → part ≡ get_or parts at part → n ≡ part → None ≡ named n (declared_of H outer)
    → true ≡ parts_open H a (AtClass outer) (drop at parts)
member_none H a parts at outer part n within is same e =
    sym (nowhere_open H a (drop (at + 1) parts))
    ∙ ap (λ o. found_open H a (class_or_nowhere o) && parts_open H a (class_or_nowhere o) (drop (at + 1) parts)) (e ∙ ap (λ m. named m (declared_of H outer)) same)
    ∙ ap (parts_open H a (AtClass outer)) (sym (first_left parts at part within is))

-- where a package has a type of a name
pub package_some : (H : Heads) (a : Asker) (parts : List (List ℕ)) (at class : ℕ) (p q part n : List ℕ) → at < length parts → part ≡ get_or parts at part → n ≡ part → q ≡ p → Some class ≡ named n (types_of_package H q)
    → (is_accessible H a class && parts_open H a (AtClass class) (drop (at + 1) parts)) ≡ parts_open H a (InPackage p) (drop at parts)
package_some H a parts at class p q part n within is same sp e =
    ap (λ o. found_open H a (type_or_package o p part) && parts_open H a (type_or_package o p part) (drop (at + 1) parts))
    (e ∙ ap (λ m. named m (types_of_package H q)) same ∙ ap (λ m. named part (types_of_package H m)) sp)
    ∙ ap (parts_open H a (InPackage p)) (sym (first_left parts at part within is))
