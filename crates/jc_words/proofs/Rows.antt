-- What the rows of clap's matches hold after one more use of an argument.
use Rattle.std.proofs.Common.{◌≡◌, ◌∙◌, ◌||◌, Bool, cond, true, false, List, [], ◌∷◌, ◌++◌, refl, sym, ap, subst, Option, Some, None}
use Rattle.std.specs.Prelude.{find, option_map, is_some, unwrap_or}
use Rattle.std.specs.Str.{bytes_eq}
use Rattle.std.proofs.lemmas.Slice.Eq.{bytes_eq-Decides}
use Rattle.clap.specs.Walk.{Row, Text, all_of, has_row, with_values, without}
use Rattle.clap.specs.declared.builder.value_parser.Reading.{Reading}
use Rattle.clap.specs.declared.parser.matches.ValueSource.{ValueSource}

-- the values that an id has, none where it has no row
abbrev pub seen : Text → List Row → List Text
seen id rows = unwrap_or (all_of id rows) []

abbrev values_in : Option Row → Option (List Text)
values_in = option_map (λ r. r.values)

pub same_text : (id : Text) → bytes_eq id id ≡ true
same_text id = (bytes_eq-Decides id id).1 refl

first_in : (r : Row) (b : Bool) (x y : Option Row) → values_in x ≡ values_in y → values_in (cond b (Some r) x) ≡ values_in (cond b (Some r) y)
first_in r true x y e = refl
first_in r false x y e = e

module _ (id : Text) (how : Reading) (source : ValueSource) (values : List Text) where
  -- the id has these values more
  pub with_values-same : (rows : List Row) → all_of id (with_values id how source values rows) ≡ Some (seen id rows ++ values)
  with_values-same [] = rw (same_text id) refl
  with_values-same (r ∷ rs) = go (bytes_eq r.id id) refl (with_values-same rs)
    where
      go : (b : Bool) → bytes_eq r.id id ≡ b → all_of id (with_values id how source values rs) ≡ Some (seen id rs ++ values)
          → all_of id (with_values id how source values (r ∷ rs)) ≡ Some (seen id (r ∷ rs) ++ values)
      go true e more = rw (e, e) refl
      go false e more = rw (e, e) more

  -- another id has the values that it had
  pub with_values-other : (other : Text) → bytes_eq id other ≡ false → (rows : List Row) → all_of other (with_values id how source values rows) ≡ all_of other rows
  with_values-other other d [] = rw d refl
  with_values-other other d (r ∷ rs) = go (bytes_eq r.id id) refl (with_values-other other d rs)
    where
      go : (b : Bool) → bytes_eq r.id id ≡ b → all_of other (with_values id how source values rs) ≡ all_of other rs
          → all_of other (with_values id how source values (r ∷ rs)) ≡ all_of other (r ∷ rs)
      go true e more =
          let unlike : bytes_eq r.id other ≡ false = subst (λ (t : Text). bytes_eq t other ≡ false) (sym ((bytes_eq-Decides r.id id).0 e)) d in
          rw (e, unlike) refl
      go false e more = rw e (first_in r (bytes_eq r.id other) _ _ more)

-- an id without a row loses none
pub without-none : (id : Text) (rows : List Row) → has_row id rows ≡ false → without id rows ≡ rows
without-none id [] none = refl
without-none id (r ∷ rs) none = go (bytes_eq r.id id) refl (without-none id rs)
  where
    go : (b : Bool) → bytes_eq r.id id ≡ b → (has_row id rs ≡ false → without id rs ≡ rs) → without id (r ∷ rs) ≡ r ∷ rs
    go true e more = let no : true ≡ false = rw e at none in cc
    go false e more = rw e (ap (λ rows. r ∷ rows) (more (rw e at none)))

-- an id has a row where it has values, if only an empty list of them
pub has_row-all : (id : Text) (rows : List Row) → has_row id rows ≡ is_some (all_of id rows)
has_row-all id [] = refl
has_row-all id (r ∷ rs) = go (bytes_eq r.id id) (has_row-all id rs)
  where
    go : (b : Bool) → has_row id rs ≡ is_some (all_of id rs) → (b || has_row id rs) ≡ is_some (values_in (cond b (Some r) (find (λ r. bytes_eq r.id id) rs)))
    go true more = refl
    go false more = more

-- an id without a row has no values
pub seen-none : (id : Text) (rows : List Row) → has_row id rows ≡ false → seen id rows ≡ []
seen-none id rows none = go (all_of id rows) (sym (has_row-all id rows) ∙ none)
  where
    go : (o : Option (List Text)) → is_some o ≡ false → unwrap_or o [] ≡ []
    go None e = refl
    go (Some values) e = cc
