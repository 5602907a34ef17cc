-- Calls whose members' type parameters are renamed are apart from them.
use Rattle.std.proofs.Common.{◌≡◌, ℕ, zero, suc, ◌+◌, ◌≤◌, max, Bool, true, false, not, ◌&&◌, List, [], ◌∷◌, length, map, Option, Some, None, refl, sym, subst, arith}
use Rattle.std.specs.Prelude.{◌||◌}
use Rattle.jc_types.specs.declared.form.Ty.{Ty}
use Rattle.jc_types.specs.declared.ids.VarId.{VarId}
use Rattle.jc_types.specs.declared.table.Table.{Table}
use Rattle.jc_types.specs.Accessors.{method_owner_of}
use Rattle.jc_overriding.specs.declared.view.MethodView.{MethodView}
use Rattle.jc_overriding.specs.Viewing.{Seeing, With, Raised, declared_view, is_static, seeing_of, view_of_owner}
use Rattle.jc_resolve.specs.declared.site.CallSite.{CallSite}
use Rattle.jc_resolve.specs.Apart.{is_apart, is_apart_from, names_one, site_names_one, target_names_one}
use Rattle.jc_infer.specs.Naming.{names}
use Rattle.jc_resolve_sites.specs.Above.{above, above_all, above_target}
use Rattle.jc_resolve_sites.specs.Renaming.{numbered, renamed, seen}
use Rattle.jc_resolve_sites.specs.Sites.{apart, apart_as, apart_by, apart_if, apart_in, apart_site, first_free, renamed_site, with_members}
use Rattle.jc_resolve_sites.specs.Laws.{AllFrom}
use Rattle.jc_resolve_sites.proofs.Below.{named_below, neither}

-- ---- numbers from n on

from_less : (m n : ℕ) (vars : List VarId) → m ≤ n → AllFrom n vars → AllFrom m vars
from_less m n [] le h = h
from_less m n (v ∷ vars) le h = ((let a = h.0 in omega arith), from_less m n vars le h.1)

numbered_from : (i k : ℕ) → AllFrom i (numbered i k)
numbered_from i zero = tt
numbered_from i (suc k) = (omega arith, from_less i (i + 1) (numbered (i + 1) k) (omega arith) (numbered_from (i + 1) k))

renamed_from : (n : ℕ) (m : MethodView) → AllFrom n (renamed n m).vars
renamed_from n m = numbered_from n (length m.vars)

seen_from : (n : ℕ) (vars : List VarId) (by : List Ty) (d : MethodView) → AllFrom (max n (above_all by)) (seen n vars by d).vars
seen_from n vars by d = numbered_from (max n (above_all by)) (length d.vars)

-- ---- types and calls

none_named : (n : ℕ) (vars : List VarId) → AllFrom n vars → (ts : List Ty) → above_all ts ≤ n → names_one vars ts ≡ false
none_named n vars h [] le = refl
none_named n vars h (t ∷ ts) le =
    neither (names vars t) (names_one vars ts) (named_below n vars h t (left (above t) (above_all ts) le)) (none_named n vars h ts (right (above t) (above_all ts) le))
  where
    left : (a b : ℕ) → max a b ≤ n → a ≤ n
    left a b le = omega arith

    right : (a b : ℕ) → max a b ≤ n → b ≤ n
    right a b le = omega arith

pub arguments_apart : (n : ℕ) (vars : List VarId) (by : List Ty) (d : MethodView) → names_one (seen n vars by d).vars by ≡ false
arguments_apart n vars by d = none_named (max n (above_all by)) (seen n vars by d).vars (seen_from n vars by d) by (most n (above_all by))
  where
    most : (a b : ℕ) → b ≤ max a b
    most a b = omega arith

target_named : (n : ℕ) (vars : List VarId) → AllFrom n vars → (o : Option Ty) → above_target o ≤ n → target_names_one vars o ≡ false
target_named n vars h None le = refl
target_named n vars h (Some t) le = named_below n vars h t le

module _ (site : CallSite) (n : ℕ) (explicit : above_all site.explicit ≤ n) (args : above_all site.args ≤ n) (target : above_target site.target ≤ n) where
  none_in_site : (vars : List VarId) → AllFrom n vars → site_names_one vars site ≡ false
  none_in_site vars h =
      neither (names_one vars site.explicit || names_one vars site.args) (target_names_one vars site.target)
      (neither (names_one vars site.explicit) (names_one vars site.args) (none_named n vars h site.explicit explicit) (none_named n vars h site.args args))
      (target_named n vars h site.target target)

  both : (b c : Bool) → b ≡ false → c ≡ true → (not b && c) ≡ true
  both b c e f = subst (λ x. (not x && c) ≡ true) (sym e) f

  abbrev AllRenamed : List MethodView → Type 0
  AllRenamed ms = (f : MethodView → MethodView) → ((m : MethodView) → AllFrom n (f m).vars) → is_apart_from (map f ms) site ≡ true

  all_apart : (ms : List MethodView) → AllRenamed ms
  all_apart [] f h = refl
  all_apart (m ∷ ms) f h = both (site_names_one (f m).vars site) (is_apart_from (map f ms) site) (none_in_site (f m).vars (h m)) (all_apart ms f h)

-- ---- members

module _ (T : Table) (n : ℕ) (m : MethodView) where
  by_from : (s : Seeing) → AllFrom n (apart_by T n m s).vars
  by_from (With vars by) = from_less n (max n (above_all by)) (seen n vars by (declared_view T m.id)).vars (most n (above_all by)) (seen_from n vars by (declared_view T m.id))
    where
      most : (a b : ℕ) → a ≤ max a b
      most a b = omega arith
  by_from Raised = renamed_from n m

  in_from : (o : Option Ty) → AllFrom n (apart_in T n m o).vars
  in_from None = renamed_from n m
  in_from (Some v) = by_from (seeing_of T v)

  if_from : (t : Ty) (b : Bool) → AllFrom n (apart_if T n t m b).vars
  if_from t true = renamed_from n (declared_view T m.id)
  if_from t false = in_from (view_of_owner T t (method_owner_of T m.id))

  as_from : (t : Ty) (vars : List VarId) → m.vars ≡ vars → AllFrom n (apart_as T n t m vars).vars
  as_from t [] e = subst (AllFrom n) (sym e) (tt)
  as_from t (v ∷ vars) e = if_from t (is_static T m.id)

apart_from : (T : Table) (n : ℕ) (t : Ty) (m : MethodView) → AllFrom n (apart T n t m).vars
apart_from T n t m = as_from T n m t m.vars refl

-- ---- the first free number

module _ (T : Table) (site : CallSite) where
  explicit_below : above_all site.explicit ≤ first_free T site
  explicit_below = first (length T.variables) (above_all site.explicit) (max (above_all site.args) (above_target site.target))
    where
      first : (a b c : ℕ) → b ≤ max a (max b c)
      first a b c = omega arith

  args_below : above_all site.args ≤ first_free T site
  args_below = second (length T.variables) (above_all site.explicit) (above_all site.args) (above_target site.target)
    where
      second : (a b c d : ℕ) → c ≤ max a (max b (max c d))
      second a b c d = omega arith

  target_below : above_target site.target ≤ first_free T site
  target_below = third (length T.variables) (above_all site.explicit) (above_all site.args) (above_target site.target)
    where
      third : (a b c d : ℕ) → d ≤ max a (max b (max c d))
      third a b c d = omega arith

  with_apart : (f : MethodView → MethodView) → ((m : MethodView) → AllFrom (first_free T site) (f m).vars) → is_apart (with_members site (map f site.members)) ≡ true
  with_apart f h = all_apart (with_members site (map f site.members)) (first_free T site) explicit_below args_below target_below site.members f h

  pub renamed_sites : is_apart (renamed_site T site) ≡ true
  renamed_sites = with_apart (renamed (first_free T site)) (renamed_from (first_free T site))

pub apart_sites : (T : Table) (t : Ty) (site : CallSite) → is_apart (apart_site T t site) ≡ true
apart_sites T t site = with_apart T site (apart T (first_free T site) t) (apart_from T (first_free T site) t)
