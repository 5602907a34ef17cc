-- What the steps of the code of heads and imports read.
use Rattle.std.proofs.Common.{◌≡◌, ℕ, min, Bool, true, false, List, [], ◌∷◌, length, Option, Some, None, refl, ap, ◌∙◌}
use Rattle.std.specs.Option.{is_some}
use Rattle.std.proofs.lemmas.Bool.{cond-true, cond-false}
use Rattle.jc_lexer.specs.declared.token.Key.TheVariants as key_of
use Rattle.jc_lexer.specs.declared.token.Sign.TheVariants as sign_of
use Rattle.jc_lexer.specs.declared.token.Token.{Token}
use Rattle.jc_tree.specs.declared.name.Ident.{Ident}
use Rattle.jc_tree.specs.declared.types.ClassTree.{ClassTree}
use Rattle.jc_tree.specs.declared.statement.Import.{Import}
use Rattle.jc_tree.specs.declared.statement.TypeParam.{TypeParam}
use Rattle.jc_reading.specs.Kinds.{sign_code, key_code, one_of}
use Rattle.jc_reading.specs.Reading.{Read, Found, Stopped, Run, found, noting, becoming, as_new, in_turn, perhaps, Either, This, That, either, an_ident_at, of_kind, at_kind}
use Rattle.jc_parse_type.specs.TypeReading.{class_run}
use Rattle.jc_part_laws.specs.PartReading.{InterfaceHead, AnnotationHead, HeadRest, or_no_class, keyed_run, params_run, class_head_run, interface_head_run, annotation_head_run, head_rest_run, more_names_run}
use Rattle.jc_unit_laws.specs.MemberReading.{is_there, is_this, import_made, import_run}
use Rattle.jc_unit_laws.specs.UnitReading.{semicolon_run}
use Rattle.jc_parse_nodes.specs.declared.trees.HeadTree.{HeadTree}
use Rattle.jc_parse_nodes.specs.declared.trees.HeadTree.TheVariants as head_tree_of
use Rattle.jc_parse_parts.specs.declared.trees.SuperTrees.{SuperTrees}
use Rattle.jc_parse_parts.specs.Parts.{class_head_tree, interface_head_tree, head_tree, extended_run, supers_tree, supers_run, import_end_run}
use Rattle.jc_parse_expr.proofs.MeasuredSteps.{twice, then_made, mapped_made}
use Rattle.jc_parse_parts.proofs.ChainSteps.{then_stops, last_made, last_stops}

-- classes

abbrev Extended : ℕ → Run (Option (Unit {0} × ClassTree))
Extended h = perhaps (in_turn (of_kind (key_code key_of.Extends)) (class_run h))

abbrev Supers : ℕ → Run (Option (Unit {0} × ClassTree) × List ClassTree)
Supers h = in_turn (Extended h) (keyed_run key_of.Implements (class_run h))

abbrev types_tree : Option ClassTree → List ClassTree → SuperTrees
types_tree extends implements = record { extends = extends; implements = implements }

pub supers_found : (h : ℕ) (ts q r : List Token) (extends : Option ClassTree) (list : List ClassTree) (l k : ℕ) → extended_run h ts ≡ Found extends q l → keyed_run key_of.Implements (class_run h) q ≡ Found list r k → supers_run h ts ≡ Found (record { extends = extends; implements = list }) r (min l k)
supers_found h ts q r extends list l k e f =
    mapped_made supers_tree or_no_class (λ (x : Option ClassTree × List ClassTree). types_tree x.0 x.1) (λ a b. refl) (Extended h) (keyed_run key_of.Implements (class_run h)) ts q extends l e
    ∙ ap (λ (v : Read (List ClassTree)). noting l (becoming (λ (list : List ClassTree). types_tree extends list) v)) f

abbrev Named : ℕ → Run (Ident × (List TypeParam × (Option (Unit {0} × ClassTree) × List ClassTree)))
Named h = in_turn an_ident_at (in_turn (params_run (class_run h)) (Supers h))

pub class_shut : (h : ℕ) (ts : List Token) → at_kind (key_code key_of.Class) ts ≡ Stopped (length ts) → as_new head_tree (as_new This (class_head_run (class_run h))) ts ≡ Stopped (length ts)
unfolding class_head_run
class_shut h ts e = twice head_tree This class_head_tree (class_head_run (class_run h) ts) (λ a. refl) ∙ then_stops class_head_tree (at_kind (key_code key_of.Class)) (Named h) ts (length ts) e

pub class_unnamed : (h : ℕ) (ts q : List Token) (at l : ℕ) → at_kind (key_code key_of.Class) ts ≡ found at q → an_ident_at q ≡ Stopped l → as_new head_tree (as_new This (class_head_run (class_run h))) ts ≡ Stopped (min (length q) l)
unfolding class_head_run
class_unnamed h ts q at l e f =
    twice head_tree This class_head_tree (class_head_run (class_run h) ts) (λ a. refl)
    ∙ then_made class_head_tree (at_kind (key_code key_of.Class)) (Named h) ts q at (length q) e
    ∙ ap (noting (length q)) (then_stops (λ (x : Ident × (List TypeParam × (Option (Unit {0} × ClassTree) × List ClassTree))). class_head_tree (at, x)) an_ident_at (in_turn (params_run (class_run h)) (Supers h)) q l f)

pub class_found : (h : ℕ) (ts q r s t : List Token) (at : ℕ) (name : Ident) (params : List TypeParam) (types : SuperTrees) (l k j : ℕ) → at_kind (key_code key_of.Class) ts ≡ found at q → an_ident_at q ≡ Found name r l → params_run (class_run h) r ≡ Found params s k → supers_run h s ≡ Found types t j → as_new head_tree (as_new This (class_head_run (class_run h))) ts ≡ Found (head_tree_of.Class at name params types.extends types.implements) t (min (length q) (min l (min k j)))
unfolding class_head_run
class_found h ts q r s t at name params types l k j e f g i =
    twice head_tree This class_head_tree (class_head_run (class_run h) ts) (λ a. refl)
    ∙ then_made class_head_tree (at_kind (key_code key_of.Class)) (Named h) ts q at (length q) e
    ∙ ap (noting (length q)) (then_made (λ (x : Ident × (List TypeParam × (Option (Unit {0} × ClassTree) × List ClassTree))). class_head_tree (at, x)) an_ident_at (in_turn (params_run (class_run h)) (Supers h)) q r name l f)
    ∙ ap (λ (v : Read HeadTree). noting (length q) (noting l v)) (then_made (λ (x : List TypeParam × (Option (Unit {0} × ClassTree) × List ClassTree)). class_head_tree (at, (name, x))) (params_run (class_run h)) (Supers h) r s params k g)
    ∙ ap (λ (v : Read HeadTree). noting (length q) (noting l (noting k v))) (last_made (λ (x : Option (Unit {0} × ClassTree) × List ClassTree). class_head_tree (at, (name, (params, x)))) supers_tree (λ (types : SuperTrees). head_tree_of.Class at name params types.extends types.implements) (λ a. refl) (Supers h s) types t j i)

-- interfaces

abbrev Listed : ℕ → Run (Ident × (List TypeParam × List ClassTree))
Listed h = in_turn an_ident_at (in_turn (params_run (class_run h)) (keyed_run key_of.Extends (class_run h)))

interface_tree : (m : Read InterfaceHead) → becoming head_tree (becoming That (becoming This m)) ≡ becoming interface_head_tree m
interface_tree (Found p r l) = refl
interface_tree (Stopped l) = refl

pub interface_shut : (h : ℕ) (ts : List Token) → at_kind (key_code key_of.Interface) ts ≡ Stopped (length ts) → as_new head_tree (as_new That (as_new This (interface_head_run (class_run h)))) ts ≡ Stopped (length ts)
unfolding interface_head_run
interface_shut h ts e = interface_tree (interface_head_run (class_run h) ts) ∙ then_stops interface_head_tree (at_kind (key_code key_of.Interface)) (Listed h) ts (length ts) e

pub interface_unnamed : (h : ℕ) (ts q : List Token) (at l : ℕ) → at_kind (key_code key_of.Interface) ts ≡ found at q → an_ident_at q ≡ Stopped l → as_new head_tree (as_new That (as_new This (interface_head_run (class_run h)))) ts ≡ Stopped (min (length q) l)
unfolding interface_head_run
interface_unnamed h ts q at l e f =
    interface_tree (interface_head_run (class_run h) ts)
    ∙ then_made interface_head_tree (at_kind (key_code key_of.Interface)) (Listed h) ts q at (length q) e
    ∙ ap (noting (length q)) (then_stops (λ (x : Ident × (List TypeParam × List ClassTree)). interface_head_tree (at, x)) an_ident_at (in_turn (params_run (class_run h)) (keyed_run key_of.Extends (class_run h))) q l f)

pub interface_found : (h : ℕ) (ts q r s t : List Token) (at : ℕ) (name : Ident) (params : List TypeParam) (list : List ClassTree) (l k j : ℕ) → at_kind (key_code key_of.Interface) ts ≡ found at q → an_ident_at q ≡ Found name r l → params_run (class_run h) r ≡ Found params s k → keyed_run key_of.Extends (class_run h) s ≡ Found list t j → as_new head_tree (as_new That (as_new This (interface_head_run (class_run h)))) ts ≡ Found (head_tree_of.Interface at name params list) t (min (length q) (min l (min k j)))
unfolding interface_head_run
interface_found h ts q r s t at name params list l k j e f g i =
    interface_tree (interface_head_run (class_run h) ts)
    ∙ then_made interface_head_tree (at_kind (key_code key_of.Interface)) (Listed h) ts q at (length q) e
    ∙ ap (noting (length q)) (then_made (λ (x : Ident × (List TypeParam × List ClassTree)). interface_head_tree (at, x)) an_ident_at (in_turn (params_run (class_run h)) (keyed_run key_of.Extends (class_run h))) q r name l f)
    ∙ ap (λ (v : Read HeadTree). noting (length q) (noting l v)) (then_made (λ (x : List TypeParam × List ClassTree). interface_head_tree (at, (name, x))) (params_run (class_run h)) (keyed_run key_of.Extends (class_run h)) r s params k g)
    ∙ ap (λ (v : Read (List ClassTree)). noting (length q) (noting l (noting k (becoming (λ (x : List ClassTree). interface_head_tree (at, (name, (params, x)))) v)))) i

-- one of the three

pub rest_class : (class : Run ClassTree) (ts : List Token) → one_of (key_code key_of.Class ∷ []) ts ≡ true → as_new head_tree (head_rest_run class) ts ≡ as_new head_tree (as_new This (class_head_run class)) ts
unfolding head_rest_run
rest_class class ts e = ap (λ (v : Read HeadRest). becoming head_tree v) (cond-true (one_of (key_code key_of.Class ∷ []) ts) _ _ e)

pub rest_interface : (class : Run ClassTree) (ts : List Token) → one_of (key_code key_of.Class ∷ []) ts ≡ false → one_of (key_code key_of.Interface ∷ []) ts ≡ true → as_new head_tree (head_rest_run class) ts ≡ as_new head_tree (as_new That (as_new This (interface_head_run class))) ts
unfolding head_rest_run
rest_interface class ts e f =
    ap (λ (v : Read HeadRest). becoming head_tree v) (cond-false (one_of (key_code key_of.Class ∷ []) ts) _ _ e)
    ∙ ap (λ (v : Read (Either InterfaceHead AnnotationHead)). becoming head_tree (becoming That v)) (cond-true (one_of (key_code key_of.Interface ∷ []) ts) _ _ f)

pub rest_annotation : (class : Run ClassTree) (ts : List Token) → one_of (key_code key_of.Class ∷ []) ts ≡ false → one_of (key_code key_of.Interface ∷ []) ts ≡ false → as_new head_tree (head_rest_run class) ts ≡ as_new head_tree (as_new That (as_new That annotation_head_run)) ts
unfolding head_rest_run
rest_annotation class ts e f =
    ap (λ (v : Read HeadRest). becoming head_tree v) (cond-false (one_of (key_code key_of.Class ∷ []) ts) _ _ e)
    ∙ ap (λ (v : Read (Either InterfaceHead AnnotationHead)). becoming head_tree (becoming That v)) (cond-false (one_of (key_code key_of.Interface ∷ []) ts) _ _ f)

-- imports

abbrev Ends : Type 0
Ends = Either (Unit {0} × (Unit {0} × Unit {0})) (Unit {0})

abbrev Ending : Run Ends
Ending = either (sign_code sign_of.Dot ∷ []) (in_turn (of_kind (sign_code sign_of.Dot)) (in_turn (of_kind (sign_code sign_of.Star)) semicolon_run)) semicolon_run

abbrev Word : Run (Option (Unit {0}))
Word = perhaps (of_kind (key_code key_of.Static))

there_as : (o : Option (Unit {0})) → is_there o ≡ is_some o
there_as None = refl
there_as (Some u) = refl

abbrev import_tree : ℕ → Bool → Ident → List Ident → Bool → Import
import_tree at is_static first more on_demand = record { at = at; is_static = is_static; first = first; more = more; on_demand = on_demand }

pub import_shut : (ts : List Token) → at_kind (key_code key_of.Import) ts ≡ Stopped (length ts) → import_run ts ≡ Stopped (length ts)
unfolding import_run
import_shut ts e = then_stops import_made (at_kind (key_code key_of.Import)) (in_turn Word (in_turn an_ident_at (in_turn more_names_run Ending))) ts (length ts) e

import_word : (ts q r : List Token) (at : ℕ) (word : Option (Unit {0})) (l : ℕ) → at_kind (key_code key_of.Import) ts ≡ found at q → perhaps (of_kind (key_code key_of.Static)) q ≡ Found word r l → import_run ts ≡ noting (length q) (noting l (as_new (λ (x : Ident × (List Ident × Ends)). import_made (at, (word, x))) (in_turn an_ident_at (in_turn more_names_run Ending)) r))
unfolding import_run
import_word ts q r at word l e f =
    then_made import_made (at_kind (key_code key_of.Import)) (in_turn Word (in_turn an_ident_at (in_turn more_names_run Ending))) ts q at (length q) e
    ∙ ap (noting (length q)) (then_made (λ (x : Option (Unit {0}) × (Ident × (List Ident × Ends))). import_made (at, x)) Word (in_turn an_ident_at (in_turn more_names_run Ending)) q r word l f)

pub import_unnamed : (ts q r : List Token) (at : ℕ) (word : Option (Unit {0})) (l k : ℕ) → at_kind (key_code key_of.Import) ts ≡ found at q → perhaps (of_kind (key_code key_of.Static)) q ≡ Found word r l → an_ident_at r ≡ Stopped k → import_run ts ≡ Stopped (min (length q) (min l k))
import_unnamed ts q r at word l k e f g =
    import_word ts q r at word l e f
    ∙ ap (λ (v : Read Import). noting (length q) (noting l v)) (then_stops (λ (x : Ident × (List Ident × Ends)). import_made (at, (word, x))) an_ident_at (in_turn more_names_run Ending) r k g)

import_names : (ts q r s t : List Token) (at : ℕ) (word : Option (Unit {0})) (first : Ident) (more : List Ident) (l k j : ℕ) → at_kind (key_code key_of.Import) ts ≡ found at q → perhaps (of_kind (key_code key_of.Static)) q ≡ Found word r l → an_ident_at r ≡ Found first s k → more_names_run s ≡ Found more t j → import_run ts ≡ noting (length q) (noting l (noting k (noting j (as_new (λ (x : Ends). import_made (at, (word, (first, (more, x))))) Ending t))))
import_names ts q r s t at word first more l k j e f g h =
    import_word ts q r at word l e f
    ∙ ap (λ (v : Read Import). noting (length q) (noting l v)) (then_made (λ (x : Ident × (List Ident × Ends)). import_made (at, (word, x))) an_ident_at (in_turn more_names_run Ending) r s first k g)
    ∙ ap (λ (v : Read Import). noting (length q) (noting l (noting k v))) (then_made (λ (x : List Ident × Ends). import_made (at, (word, (first, x)))) more_names_run Ending s t more j h)

pub import_open : (ts q r s t : List Token) (at : ℕ) (word : Option (Unit {0})) (first : Ident) (more : List Ident) (l k j i : ℕ) → at_kind (key_code key_of.Import) ts ≡ found at q → perhaps (of_kind (key_code key_of.Static)) q ≡ Found word r l → an_ident_at r ≡ Found first s k → more_names_run s ≡ Found more t j → import_end_run t ≡ Stopped i → import_run ts ≡ Stopped (min (length q) (min l (min k (min j i))))
import_open ts q r s t at word first more l k j i e f g h m =
    import_names ts q r s t at word first more l k j e f g h
    ∙ ap (λ (v : Read Import). noting (length q) (noting l (noting k (noting j v)))) (last_stops (λ (x : Ends). import_made (at, (word, (first, (more, x))))) is_this (Ending t) i m)

pub import_found : (ts q r s t u : List Token) (at : ℕ) (word : Option (Unit {0})) (first : Ident) (more : List Ident) (end : Bool) (l k j i : ℕ) → at_kind (key_code key_of.Import) ts ≡ found at q → perhaps (of_kind (key_code key_of.Static)) q ≡ Found word r l → an_ident_at r ≡ Found first s k → more_names_run s ≡ Found more t j → import_end_run t ≡ Found end u i → import_run ts ≡ Found (record { at = at; is_static = is_some word; first = first; more = more; on_demand = end }) u (min (length q) (min l (min k (min j i))))
import_found ts q r s t u at word first more end l k j i e f g h m =
    import_names ts q r s t at word first more l k j e f g h
    ∙ ap (λ (v : Read Import). noting (length q) (noting l (noting k (noting j v)))) (last_made (λ (x : Ends). import_made (at, (word, (first, (more, x))))) is_this (import_tree at (is_there word) first more) (λ a. refl) (Ending t) end u i m)
    ∙ ap (λ (b : Bool). Found (import_tree at b first more end) u (min (length q) (min l (min k (min j i))))) (there_as word)
