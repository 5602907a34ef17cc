-- What a simple name finds and means, where it names a local and where it names none.
use Rattle.std.proofs.Common.{◌≡◌, ap, sym, ℕ, List, None, Some}
use Rattle.jc_rules.specs.declared.rule.Place.{Place}
use Rattle.jc_exprs_nodes_spec.specs.Told.{Standing, fine, ran}
use Rattle.jc_exprs_parts_spec.specs.Names.{AtLocal, as_value, first_meant, local_meant, local_or, located_sense, sense_meant, simple_located}
use Rattle.jc_exprs_parts_spec.specs.Senses.{simple_sense}
use Rattle.jc_exprs_parts_spec.specs.Worlds.{World, LocalIn, local_named}

module _ (W : World) (place : Place) (n : List ℕ) (s : Standing) where
  pub local_found : (l : LocalIn) → Some l ≡ local_named W n → ran (simple_located W place n) s ≡ ran (fine (AtLocal place l)) s
  unfolding simple_located
  local_found l h = ap (λ o. ran (local_or W place n o) s) (sym h)

  pub no_local_found : None ≡ local_named W n → ran (simple_located W place n) s ≡ ran (located_sense W place (simple_sense W n)) s
  unfolding simple_located
  no_local_found h = ap (λ o. ran (local_or W place n o) s) (sym h)

  pub local_first : (l : LocalIn) → Some l ≡ local_named W n → ran (first_meant W place n) s ≡ ran (as_value W (fine (AtLocal place l))) s
  unfolding first_meant
  local_first l h = ap (λ o. ran (local_meant W place n o) s) (sym h)

  pub no_local_first : None ≡ local_named W n → ran (first_meant W place n) s ≡ ran (sense_meant W place (simple_sense W n)) s
  unfolding first_meant
  no_local_first h = ap (λ o. ran (local_meant W place n o) s) (sym h)
