-- A written type whose names break no rule has a place for each class type inside it.
use Rattle.std.proofs.Common.{◌≡◌, ◌<◌, ◌+◌, ℕ, zero, suc, Bool, true, false, Option, Some, None, List, [], ◌∷◌, ◌++◌, map, length, refl, sym, ap, subst, ◌∙◌}
use Rattle.std.specs.Prelude.{cond, codes}
use Rattle.std.proofs.lemmas.List.{length-append}
use Rattle.jc_tree.specs.declared.types.BaseTree.{BaseTree, BaseTree-F, fold-roll-BaseTree, map-BaseTree, roll-BaseTree, ind-BaseTree}
use Rattle.jc_tree.specs.declared.types.ClassTree.{ClassTree, ClassTree-F, fold-roll-ClassTree, map-ClassTree, roll-ClassTree, ind-ClassTree}
use Rattle.jc_tree.specs.declared.types.TypeArg.{TypeArg, TypeArg-F, fold-roll-TypeArg, map-TypeArg, roll-TypeArg}
use Rattle.jc_tree.specs.declared.types.TypePart.{TypePart, TypePart-F, fold-roll-TypePart, fold_out-TypePart, map-TypePart, roll-TypePart}
use Rattle.jc_tree.specs.declared.types.TypeTree.{TypeTree, TypeTree-F, fold-roll-TypeTree, map-TypeTree, roll-TypeTree, ind-TypeTree}
use Rattle.jc_types.specs.declared.form.Arg.{Arg}
use Rattle.jc_types.specs.declared.form.Arg.TheVariants as anArg
use Rattle.jc_types.specs.declared.form.Ty.{Ty, Ty-F, out-Ty, roll-Ty, roll-out-Ty}
use Rattle.jc_types.specs.declared.form.Ty.TheVariants as aTy
use Rattle.jc_types.specs.Arrays.{array_over, array_over_at}
use Rattle.jc_types.specs.Inside.{inside, inside_arg, inside_args}
use Rattle.jc_types.specs.Names.{named}
use Rattle.jc_types.proofs.Insides.{inside-Class, inside-Raw, inside-Array, inside-Prim, inside-Variable, inside_arg-Exact, inside_arg-Any, inside_arg-Extends, inside_arg-Super}
use Rattle.jc_declares.specs.declared.heads.Heads.{Heads}
use Rattle.jc_declares.specs.Heads.{class_variables, types_of_package}
use Rattle.jc_declares.specs.Knowing.{is_some}
use Rattle.jc_declares.specs.Looking.{Knowledge, Look, AClass, AVariable, Asker, all_accessible, member, with_parts, or_longer, in_packages, or_package, look_up}
use Rattle.jc_declares.specs.Writing.{Reading, Broken, Wrote, WroteArg, WrotePart, is_empty, name_of_part, args_in, last_args, class_type, meant_type, is_class_meant, arg_places, arg_broken, part_broken, early_args, meaning_broken, if_accessible, name_broken, with_dims, primitive_of, base_wrote, arg_wrote, class_tree_wrote, class_wrote, part_wrote, type_wrote, wrote_base, wrote_arg, wrote_class, wrote_part, wrote_type}
use Rattle.jc_declares.specs.Knowing.{passed_all}
use Rattle.jc_table_laws.proofs.AllKnown.{sure_member}
use Rattle.jc_table_laws.proofs.Ranges.{LookIn, OneIn, SomeIn, found_in, member_in, package_types_in}

-- ---- lists that are empty

pub left_empty : {X : Type 0} (xs ys : List X) → xs ++ ys ≡ [] → xs ≡ []
left_empty [] ys e = refl
left_empty (x ∷ xs) ys e = cc

pub right_empty : {X : Type 0} (xs ys : List X) → xs ++ ys ≡ [] → ys ≡ []
right_empty [] ys e = e
right_empty (x ∷ xs) ys e = cc

pub not_empty : {X : Type 0} {P : Type 0} (x : X) (xs : List X) → x ∷ xs ≡ [] → P
not_empty x xs e = cc

-- ---- what is inside of a type

over_layer : (n : ℕ) (t : Ty) (l : Ty-F Arg Ty) → out-Ty t ≡ l → inside (array_over_at n t l) ≡ inside t
over_layer n t (Ty-F.Array u m) e =
    inside-Array u (m + n + 1) ∙ sym (inside-Array u m) ∙ ap inside (sym (aTy.rolls-Array u m) ∙ ap roll-Ty (sym e) ∙ roll-out-Ty t)
over_layer n t (Ty-F.Prim p) e = inside-Array t n
over_layer n t (Ty-F.Class i xs) e = inside-Array t n
over_layer n t (Ty-F.Raw i) e = inside-Array t n
over_layer n t (Ty-F.Variable v) e = inside-Array t n
over_layer n t (Ty-F.Captured v) e = inside-Array t n
over_layer n t (Ty-F.Meet ts) e = inside-Array t n
over_layer n t Ty-F.NullTy e = inside-Array t n

over_inside : (n : ℕ) (t : Ty) → inside (array_over n t) ≡ inside t
unfolding array_over
over_inside n t = over_layer n t (out-Ty t) refl

pub dims_inside : (n : ℕ) (t : Ty) → inside (with_dims n t) ≡ inside t
dims_inside zero t = refl
dims_inside (suc n) t = over_inside n t

-- as many places as class types
abbrev pub Zipped : List ℕ → List Ty → Type 0
Zipped places ts = length places ≡ length ts

-- What is read in one way has its places where the names that are read in another way break no rule; both ways find the same.
abbrev pub Zips : Wrote → Wrote → Type 0
Zips w v = w.broken ≡ [] → Zipped v.places (inside v.ty)

abbrev ArgZips : WroteArg → WroteArg → Type 0
ArgZips a b = a.broken ≡ [] → Zipped b.places (inside_arg b.arg)

abbrev ArgsZip : List WroteArg → List WroteArg → Type 0
ArgsZip [] [] = Unit {0}
ArgsZip [] (b ∷ bs) = ⊥
ArgsZip (a ∷ as_) [] = ⊥
ArgsZip (a ∷ as_) (b ∷ bs) = ArgZips a b × ArgsZip as_ bs

abbrev PartsZip : List WrotePart → List WrotePart → Type 0
PartsZip [] [] = Unit {0}
PartsZip [] (q ∷ qs) = ⊥
PartsZip (p ∷ ps) [] = ⊥
PartsZip (p ∷ ps) (q ∷ qs) = ArgsZip p.args q.args × PartsZip ps qs

arg_length : (a : Arg) (places : List ℕ) (ts : List Ty) → inside_arg a ≡ ts → Zipped places ts → Zipped places (inside_arg a)
arg_length a places ts e z = z ∙ sym (ap length e)

args_zip : (xs ys : List WroteArg) → ArgsZip xs ys → arg_broken xs ≡ [] → Zipped (arg_places ys) (inside_args (args_in ys))
args_zip [] [] z e = refl
args_zip [] (b ∷ ys) z e = absurd z
args_zip (a ∷ xs) [] z e = absurd z
args_zip (a ∷ xs) (b ∷ ys) z e =
    length-append b.places (arg_places ys)
    ∙ ap (λ n. n + length (arg_places ys)) (z.0 (left_empty a.broken (arg_broken xs) e))
    ∙ ap (λ n. length (inside_arg b.arg) + n) (args_zip xs ys z.1 (right_empty a.broken (arg_broken xs) e))
    ∙ sym (length-append (inside_arg b.arg) (inside_args (args_in ys)))

pub last_unbroken : (p : WrotePart) (ps : List WrotePart) → part_broken (p ∷ ps) ≡ [] → arg_broken (last_args p ps) ≡ []
last_unbroken p [] e = left_empty (arg_broken p.args) [] e
last_unbroken p (q ∷ qs) e = last_unbroken q qs (right_empty (arg_broken p.args) (part_broken (q ∷ qs)) e)

last_zips : (p q : WrotePart) (ps qs : List WrotePart) → ArgsZip p.args q.args → PartsZip ps qs → ArgsZip (last_args p ps) (last_args q qs)
last_zips p q [] [] h g = h
last_zips p q [] (y ∷ qs) h g = absurd g
last_zips p q (x ∷ ps) [] h g = absurd g
last_zips p q (x ∷ ps) (y ∷ qs) h g = last_zips x y ps qs g.0 g.1

pub accessible_unbroken : (b : Bool) (broken : List Broken) (at : ℕ) → if_accessible b broken at ≡ [] → broken ≡ []
accessible_unbroken true broken at e = e
accessible_unbroken false broken at e = not_empty _ [] e

one_more : {X Y : Type 0} (x : X) (xs : List X) (y : Y) (ys : List Y) → length xs ≡ length ys → length (x ∷ xs) ≡ length (y ∷ ys)
one_more x xs y ys e = ap suc e

bare_inside : (H : Heads) (b : Bool) (c : ℕ) → length (inside (cond b (aTy.Class (record { 0 = c }) []) (aTy.Raw (record { 0 = c })))) ≡ 1
bare_inside H true c = ap length (inside-Class (record { 0 = c }) [])
bare_inside H false c = ap length (inside-Raw (record { 0 = c }))

class_inside : (H : Heads) (c at : ℕ) (places : List ℕ) (args : List Arg) → Zipped places (inside_args args) → Zipped (at ∷ places) (inside (class_type H c args))
class_inside H c at places [] z = ap suc z ∙ sym (bare_inside H (is_empty (class_variables H c)) c)
class_inside H c at places (a ∷ args) z =
    ap suc z ∙ sym (ap length (inside-Class (record { 0 = c }) (a ∷ args)))

nothing_sure : {P : Type 0} → false ≡ true → P
nothing_sure e = cc

module _ (H : Heads) (K : Knowledge) (known_in : (c : ℕ) → SomeIn H (K c)) (known : (c : ℕ) → c < length H.classes → is_some (K c) ≡ true) where
  -- ---- where it is known of each class what it inherits, each name has an answer

  abbrev Sure : Look → Type 0
  Sure look = is_some look ≡ true

  sure_parts : (ps : List (List ℕ)) (look : Look) → LookIn H look → Sure look → Sure (with_parts H K ps look)
  sure_parts [] None l s = s
  sure_parts [] (Some ms) l s = refl
  sure_parts (p ∷ ps) None l s = s
  sure_parts (p ∷ ps) (Some []) l s = refl
  sure_parts (p ∷ ps) (Some (AClass c ∷ [])) l s = sure_parts ps (member H K c p) (member_in H K known_in c p) (sure_member H K c p (known c l.0))
  sure_parts (p ∷ ps) (Some (AVariable v ∷ [])) l s = refl
  sure_parts (p ∷ ps) (Some (AClass c ∷ n ∷ ms)) l s = refl
  sure_parts (p ∷ ps) (Some (AVariable v ∷ n ∷ ms)) l s = refl

  sure_longer : (ns : List (List ℕ)) (o : Option ℕ) (longer : Look) → OneIn (length H.classes) o → Sure longer → Sure (or_longer (with_parts H K ns) longer o)
  sure_longer ns None longer l s = s
  sure_longer ns (Some c) longer l s = sure_parts ns (Some (AClass c ∷ [])) (l, tt) refl

  sure_packages : (p : List ℕ) (ns : List (List ℕ)) → Sure (in_packages H K p ns)
  sure_packages p [] = refl
  sure_packages p (n ∷ ns) =
      sure_longer ns (named n (types_of_package H p)) (in_packages H K (p ++ codes "." ++ n) ns) (found_in (length H.classes) n (types_of_package H p) (package_types_in H p)) (sure_packages (p ++ codes "." ++ n) ns)

  sure_or_package : (n : List ℕ) (ps : List (List ℕ)) (look : Look) → LookIn H look → Sure look → Sure (or_package H K n ps look)
  sure_or_package n ps None l s = s
  sure_or_package n ps (Some []) l s = sure_packages n ps
  sure_or_package n ps (Some (m ∷ ms)) l s = sure_parts ps (Some (m ∷ ms)) l refl

  -- ---- written types

  module _ (find : List ℕ → Look) (asker : Asker) (strict own : Option ℕ) (finds_in : (n : List ℕ) → LookIn H (find n)) (finds : (n : List ℕ) → Sure (find n)) where
    abbrev r : Reading
    r = record { find = find; asker = asker; own = strict }

    abbrev s : Reading
    s = record { find = find; asker = asker; own = own }

    meant_zips : (look : Look) (at by : ℕ) (without : Bool) (args : List WroteArg) → Sure look → meaning_broken H r look without at ≡ [] → Zipped (arg_places args) (inside_args (args_in args))
        → Zipped (cond (is_class_meant look) (by ∷ arg_places args) []) (inside (meant_type H look (args_in args)))
    meant_zips None at by without args k e z = nothing_sure k
    meant_zips (Some []) at by without args k e z = not_empty _ [] e
    meant_zips (Some (AClass c ∷ [])) at by without args k e z = class_inside H c by (arg_places args) (args_in args) z
    meant_zips (Some (AVariable v ∷ [])) at by without args k e z = sym (ap length (inside-Variable (record { 0 = v })))
    meant_zips (Some (AClass c ∷ n ∷ ms)) at by without args k e z = not_empty _ [] e
    meant_zips (Some (AVariable v ∷ n ∷ ms)) at by without args k e z = not_empty _ [] e

    class_zips : (p q : WrotePart) (ps qs : List WrotePart) → name_of_part p ≡ name_of_part q → map name_of_part ps ≡ map name_of_part qs → ArgsZip p.args q.args → PartsZip ps qs
        → Zips (class_wrote H K r p ps) (class_wrote H K s q qs)
    class_zips p q ps qs n m h g e =
        let look : Look = look_up H K find (name_of_part p) (map name_of_part ps) in
        let same : look ≡ look_up H K find (name_of_part q) (map name_of_part qs) =
        ap (λ (x : List ℕ). look_up H K find x (map name_of_part ps)) n ∙ ap (λ (xs : List (List ℕ)). look_up H K find (name_of_part q) xs) m in
        let without : Bool = is_empty (last_args p ps) in
        let passed : List ℕ = passed_all H K (name_of_part p) (map name_of_part ps) (find (name_of_part p)) in
        let named_unbroken : name_broken H K r p ps ≡ [] = left_empty (name_broken H K r p ps) (part_broken (p ∷ ps)) e in
        let args_unbroken : arg_broken (last_args p ps) ≡ [] = last_unbroken p ps (right_empty (name_broken H K r p ps) (part_broken (p ∷ ps)) e) in
        let asked : if_accessible (all_accessible H asker passed) (meaning_broken H r look without p.name.at) p.name.at ≡ [] =
        left_empty (if_accessible (all_accessible H asker passed) (meaning_broken H r look without p.name.at) p.name.at) (early_args p ps) named_unbroken in
        subst (λ (l : Look). Zipped (cond (is_class_meant l) (q.name.at ∷ arg_places (last_args q qs)) []) (inside (meant_type H l (args_in (last_args q qs))))) same
        (meant_zips look p.name.at q.name.at without (last_args q qs)
        (sure_or_package (name_of_part p) (map name_of_part ps) (find (name_of_part p)) (finds_in (name_of_part p)) (finds (name_of_part p)))
        (accessible_unbroken (all_accessible H asker passed) (meaning_broken H r look without p.name.at) p.name.at asked)
        (args_zip (last_args p ps) (last_args q qs) (last_zips p q ps qs h g) args_unbroken))

    abbrev BaseZips : BaseTree → Type 0
    BaseZips x = Zips (wrote_base H K r x) (wrote_base H K s x)

    abbrev TreeArgZips : TypeArg → Type 0
    TreeArgZips x = ArgZips (wrote_arg H K r x) (wrote_arg H K s x)

    abbrev ClassZips : ClassTree → Type 0
    ClassZips x = Zips (wrote_class H K r x) (wrote_class H K s x)

    abbrev PartZips : TypePart → Type 0
    PartZips x = ArgsZip (wrote_part H K r x).args (wrote_part H K s x).args

    abbrev TreeZips : TypeTree → Type 0
    TreeZips x = Zips (wrote_type H K r x) (wrote_type H K s x)

    abbrev SomeBase : Type 0
    SomeBase = (x : BaseTree) × BaseZips x

    abbrev SomeArg : Type 0
    SomeArg = (x : TypeArg) × TreeArgZips x

    abbrev SomeClass : Type 0
    SomeClass = (x : ClassTree) × ClassZips x

    abbrev SomePart : Type 0
    SomePart = (x : TypePart) × PartZips x

    abbrev SomeTree : Type 0
    SomeTree = (x : TypeTree) × TreeZips x

    zips_along : (v w x y : Wrote) → v ≡ w → x ≡ y → Zips w y → Zips v x
    zips_along v w x y e f z b = subst (λ (u : Wrote). Zipped u.places (inside u.ty)) (sym f) (z (ap (λ (u : Wrote). u.broken) (sym e) ∙ b))

    arg_along : (v w x y : WroteArg) → v ≡ w → x ≡ y → ArgZips w y → ArgZips v x
    arg_along v w x y e f z b = subst (λ (u : WroteArg). Zipped u.places (inside_arg u.arg)) (sym f) (z (ap (λ (u : WroteArg). u.broken) (sym e) ∙ b))

    part_along : (v w x y : WrotePart) → v ≡ w → x ≡ y → ArgsZip w.args y.args → ArgsZip v.args x.args
    part_along v w x y e f z = subst (λ (u : WrotePart). ArgsZip u.args x.args) (sym e) (subst (λ (u : WrotePart). ArgsZip w.args u.args) (sym f) z)

    abbrev plain_base : BaseTree-F SomeBase SomeArg SomeClass SomePart SomeTree → BaseTree-F BaseTree TypeArg ClassTree TypePart TypeTree
    plain_base y = map-BaseTree SomeBase SomeArg SomeClass SomePart SomeTree BaseTree TypeArg ClassTree TypePart TypeTree (λ z. z.0) (λ z. z.0) (λ z. z.0) (λ z. z.0) (λ z. z.0) y

    abbrev plain_arg : TypeArg-F SomeBase SomeArg SomeClass SomePart SomeTree → TypeArg-F BaseTree TypeArg ClassTree TypePart TypeTree
    plain_arg y = map-TypeArg SomeBase SomeArg SomeClass SomePart SomeTree BaseTree TypeArg ClassTree TypePart TypeTree (λ z. z.0) (λ z. z.0) (λ z. z.0) (λ z. z.0) (λ z. z.0) y

    abbrev plain_class : ClassTree-F SomeBase SomeArg SomeClass SomePart SomeTree → ClassTree-F BaseTree TypeArg ClassTree TypePart TypeTree
    plain_class y = map-ClassTree SomeBase SomeArg SomeClass SomePart SomeTree BaseTree TypeArg ClassTree TypePart TypeTree (λ z. z.0) (λ z. z.0) (λ z. z.0) (λ z. z.0) (λ z. z.0) y

    abbrev plain_part : TypePart-F SomeBase SomeArg SomeClass SomePart SomeTree → TypePart-F BaseTree TypeArg ClassTree TypePart TypeTree
    plain_part y = map-TypePart SomeBase SomeArg SomeClass SomePart SomeTree BaseTree TypeArg ClassTree TypePart TypeTree (λ z. z.0) (λ z. z.0) (λ z. z.0) (λ z. z.0) (λ z. z.0) y

    abbrev plain_tree : TypeTree-F SomeBase SomeArg SomeClass SomePart SomeTree → TypeTree-F BaseTree TypeArg ClassTree TypePart TypeTree
    plain_tree y = map-TypeTree SomeBase SomeArg SomeClass SomePart SomeTree BaseTree TypeArg ClassTree TypePart TypeTree (λ z. z.0) (λ z. z.0) (λ z. z.0) (λ z. z.0) (λ z. z.0) y

    base_layer : (y : BaseTree-F SomeBase SomeArg SomeClass SomePart SomeTree)
        → Zips (base_wrote (map-BaseTree BaseTree TypeArg ClassTree TypePart TypeTree Wrote WroteArg Wrote WrotePart Wrote (wrote_base H K r) (wrote_arg H K r) (wrote_class H K r) (wrote_part H K r) (wrote_type H K r) (plain_base y)))
        (base_wrote (map-BaseTree BaseTree TypeArg ClassTree TypePart TypeTree Wrote WroteArg Wrote WrotePart Wrote (wrote_base H K s) (wrote_arg H K s) (wrote_class H K s) (wrote_part H K s) (wrote_type H K s) (plain_base y)))
    base_layer (BaseTree-F.Primitive at w) = λ e. sym (ap length (inside-Prim (primitive_of w)))
    base_layer (BaseTree-F.Class c) = c.1

    base_rolled : (y : BaseTree-F SomeBase SomeArg SomeClass SomePart SomeTree) → BaseZips (roll-BaseTree (plain_base y))
    unfolding wrote_base wrote_arg wrote_class wrote_part wrote_type
    base_rolled y =
        zips_along _ _ _ _
        (fold-roll-BaseTree Wrote WroteArg Wrote WrotePart Wrote base_wrote arg_wrote (class_tree_wrote H K r) part_wrote type_wrote (plain_base y))
        (fold-roll-BaseTree Wrote WroteArg Wrote WrotePart Wrote base_wrote arg_wrote (class_tree_wrote H K s) part_wrote type_wrote (plain_base y)) (base_layer y)

    arg_layer : (y : TypeArg-F SomeBase SomeArg SomeClass SomePart SomeTree)
        → ArgZips (arg_wrote (map-TypeArg BaseTree TypeArg ClassTree TypePart TypeTree Wrote WroteArg Wrote WrotePart Wrote (wrote_base H K r) (wrote_arg H K r) (wrote_class H K r) (wrote_part H K r) (wrote_type H K r) (plain_arg y)))
        (arg_wrote (map-TypeArg BaseTree TypeArg ClassTree TypePart TypeTree Wrote WroteArg Wrote WrotePart Wrote (wrote_base H K s) (wrote_arg H K s) (wrote_class H K s) (wrote_part H K s) (wrote_type H K s) (plain_arg y)))
    arg_layer (TypeArg-F.Exact t) = λ e. arg_length (anArg.Exact (wrote_type H K s t.0).ty) (wrote_type H K s t.0).places _ (inside_arg-Exact (wrote_type H K s t.0).ty) (t.1 e)
    arg_layer (TypeArg-F.Any at) = λ e. sym (ap length inside_arg-Any)
    arg_layer (TypeArg-F.Extends at t) = λ e. arg_length (anArg.Extends (wrote_type H K s t.0).ty) (wrote_type H K s t.0).places _ (inside_arg-Extends (wrote_type H K s t.0).ty) (t.1 e)
    arg_layer (TypeArg-F.Super at t) = λ e. arg_length (anArg.Super (wrote_type H K s t.0).ty) (wrote_type H K s t.0).places _ (inside_arg-Super (wrote_type H K s t.0).ty) (t.1 e)

    arg_rolled : (y : TypeArg-F SomeBase SomeArg SomeClass SomePart SomeTree) → TreeArgZips (roll-TypeArg (plain_arg y))
    unfolding wrote_base wrote_arg wrote_class wrote_part wrote_type
    arg_rolled y =
        arg_along _ _ _ _
        (fold-roll-TypeArg Wrote WroteArg Wrote WrotePart Wrote base_wrote arg_wrote (class_tree_wrote H K r) part_wrote type_wrote (plain_arg y))
        (fold-roll-TypeArg Wrote WroteArg Wrote WrotePart Wrote base_wrote arg_wrote (class_tree_wrote H K s) part_wrote type_wrote (plain_arg y)) (arg_layer y)

    given_args : (zs : List SomeArg) → ArgsZip (map (wrote_arg H K r) (map (λ (z : SomeArg). z.0) zs)) (map (wrote_arg H K s) (map (λ (z : SomeArg). z.0) zs))
    given_args [] = tt
    given_args (z ∷ zs) = (z.1, given_args zs)

    given_parts : (zs : List SomePart) → PartsZip (map (wrote_part H K r) (map (λ (z : SomePart). z.0) zs)) (map (wrote_part H K s) (map (λ (z : SomePart). z.0) zs))
    given_parts [] = tt
    given_parts (z ∷ zs) = (z.1, given_parts zs)

    same_name : (x : TypePart) → name_of_part (wrote_part H K r x) ≡ name_of_part (wrote_part H K s x)
    unfolding wrote_base wrote_arg wrote_class wrote_part wrote_type
    same_name x =
        ap name_of_part (fold_out-TypePart Wrote WroteArg Wrote WrotePart Wrote base_wrote arg_wrote (class_tree_wrote H K r) part_wrote type_wrote x)
        ∙ sym (ap name_of_part (fold_out-TypePart Wrote WroteArg Wrote WrotePart Wrote base_wrote arg_wrote (class_tree_wrote H K s) part_wrote type_wrote x))

    same_names : (zs : List SomePart) → map name_of_part (map (wrote_part H K r) (map (λ (z : SomePart). z.0) zs)) ≡ map name_of_part (map (wrote_part H K s) (map (λ (z : SomePart). z.0) zs))
    same_names [] = refl
    same_names (z ∷ zs) =
        ap (λ (n : List ℕ). n ∷ map name_of_part (map (wrote_part H K r) (map (λ (z : SomePart). z.0) zs))) (same_name z.0)
        ∙ ap (λ (ns : List (List ℕ)). name_of_part (wrote_part H K s z.0) ∷ ns) (same_names zs)

    class_rolled : (y : ClassTree-F SomeBase SomeArg SomeClass SomePart SomeTree) → ClassZips (roll-ClassTree (plain_class y))
    unfolding wrote_base wrote_arg wrote_class wrote_part wrote_type
    class_rolled y =
        zips_along _ _ _ _
        (fold-roll-ClassTree Wrote WroteArg Wrote WrotePart Wrote base_wrote arg_wrote (class_tree_wrote H K r) part_wrote type_wrote (plain_class y))
        (fold-roll-ClassTree Wrote WroteArg Wrote WrotePart Wrote base_wrote arg_wrote (class_tree_wrote H K s) part_wrote type_wrote (plain_class y))
        (class_zips (wrote_part H K r y.first.0) (wrote_part H K s y.first.0) (map (wrote_part H K r) (map (λ (z : SomePart). z.0) y.more)) (map (wrote_part H K s) (map (λ (z : SomePart). z.0) y.more))
        (same_name y.first.0) (same_names y.more) y.first.1 (given_parts y.more))

    part_rolled : (y : TypePart-F SomeBase SomeArg SomeClass SomePart SomeTree) → PartZips (roll-TypePart (plain_part y))
    unfolding wrote_base wrote_arg wrote_class wrote_part wrote_type
    part_rolled y =
        part_along _ _ _ _
        (fold-roll-TypePart Wrote WroteArg Wrote WrotePart Wrote base_wrote arg_wrote (class_tree_wrote H K r) part_wrote type_wrote (plain_part y))
        (fold-roll-TypePart Wrote WroteArg Wrote WrotePart Wrote base_wrote arg_wrote (class_tree_wrote H K s) part_wrote type_wrote (plain_part y)) (given_args y.args)

    with_dims_zips : (dims : ℕ) (a b : Wrote) → Zips a b → Zips (record a { ty = with_dims dims a.ty }) (record b { ty = with_dims dims b.ty })
    with_dims_zips dims a b z e = z e ∙ sym (ap length (dims_inside dims b.ty))

    tree_rolled : (y : TypeTree-F SomeBase SomeArg SomeClass SomePart SomeTree) → TreeZips (roll-TypeTree (plain_tree y))
    unfolding wrote_base wrote_arg wrote_class wrote_part wrote_type
    tree_rolled y =
        zips_along _ _ _ _
        (fold-roll-TypeTree Wrote WroteArg Wrote WrotePart Wrote base_wrote arg_wrote (class_tree_wrote H K r) part_wrote type_wrote (plain_tree y))
        (fold-roll-TypeTree Wrote WroteArg Wrote WrotePart Wrote base_wrote arg_wrote (class_tree_wrote H K s) part_wrote type_wrote (plain_tree y))
        (with_dims_zips y.dims (wrote_base H K r y.base.0) (wrote_base H K s y.base.0) y.base.1)

    pub class_tree_zips : (x : ClassTree) → ClassZips x
    class_tree_zips = ind-ClassTree BaseZips TreeArgZips ClassZips PartZips TreeZips
        (λ x y is. subst (λ (x : BaseTree-F BaseTree TypeArg ClassTree TypePart TypeTree). BaseZips (roll-BaseTree x)) is (base_rolled y))
        (λ x y is. subst (λ (x : TypeArg-F BaseTree TypeArg ClassTree TypePart TypeTree). TreeArgZips (roll-TypeArg x)) is (arg_rolled y))
        (λ x y is. subst (λ (x : ClassTree-F BaseTree TypeArg ClassTree TypePart TypeTree). ClassZips (roll-ClassTree x)) is (class_rolled y))
        (λ x y is. subst (λ (x : TypePart-F BaseTree TypeArg ClassTree TypePart TypeTree). PartZips (roll-TypePart x)) is (part_rolled y))
        (λ x y is. subst (λ (x : TypeTree-F BaseTree TypeArg ClassTree TypePart TypeTree). TreeZips (roll-TypeTree x)) is (tree_rolled y))

    pub base_tree_zips : (x : BaseTree) → BaseZips x
    base_tree_zips = ind-BaseTree BaseZips TreeArgZips ClassZips PartZips TreeZips
        (λ x y is. subst (λ (x : BaseTree-F BaseTree TypeArg ClassTree TypePart TypeTree). BaseZips (roll-BaseTree x)) is (base_rolled y))
        (λ x y is. subst (λ (x : TypeArg-F BaseTree TypeArg ClassTree TypePart TypeTree). TreeArgZips (roll-TypeArg x)) is (arg_rolled y))
        (λ x y is. subst (λ (x : ClassTree-F BaseTree TypeArg ClassTree TypePart TypeTree). ClassZips (roll-ClassTree x)) is (class_rolled y))
        (λ x y is. subst (λ (x : TypePart-F BaseTree TypeArg ClassTree TypePart TypeTree). PartZips (roll-TypePart x)) is (part_rolled y))
        (λ x y is. subst (λ (x : TypeTree-F BaseTree TypeArg ClassTree TypePart TypeTree). TreeZips (roll-TypeTree x)) is (tree_rolled y))

    pub type_tree_zips : (x : TypeTree) → TreeZips x
    type_tree_zips = ind-TypeTree BaseZips TreeArgZips ClassZips PartZips TreeZips
        (λ x y is. subst (λ (x : BaseTree-F BaseTree TypeArg ClassTree TypePart TypeTree). BaseZips (roll-BaseTree x)) is (base_rolled y))
        (λ x y is. subst (λ (x : TypeArg-F BaseTree TypeArg ClassTree TypePart TypeTree). TreeArgZips (roll-TypeArg x)) is (arg_rolled y))
        (λ x y is. subst (λ (x : ClassTree-F BaseTree TypeArg ClassTree TypePart TypeTree). ClassZips (roll-ClassTree x)) is (class_rolled y))
        (λ x y is. subst (λ (x : TypePart-F BaseTree TypeArg ClassTree TypePart TypeTree). PartZips (roll-TypePart x)) is (part_rolled y))
        (λ x y is. subst (λ (x : TypeTree-F BaseTree TypeArg ClassTree TypePart TypeTree). TreeZips (roll-TypeTree x)) is (tree_rolled y))
