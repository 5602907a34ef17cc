-- What a table promises is kept with each declaration that stands in it.
use Rattle.std.proofs.Common.{Option, Some, None, MatchOption, ap, ◌∙◌, ◌≡◌, ℕ, ◌+◌, ◌≤◌, Bool, true, IsTrue, List, [], ◌∷◌, ◌++◌, length, length-append, arith, refl, sym}
use Rattle.std.specs.List.{list_all}
use Rattle.jc_rules.proofs.Truths.{and_first, and_second}
use Rattle.jc_types.specs.declared.declarations.ClassDecl.{ClassDecl}
use Rattle.jc_types.specs.declared.declarations.MethodDecl.{MethodDecl}
use Rattle.jc_types.specs.declared.declarations.FieldDecl.{FieldDecl}
use Rattle.jc_types.specs.declared.declarations.VariableDecl.{VariableDecl}
use Rattle.jc_types.specs.declared.scopes.Scope.{Scope}
use Rattle.jc_types.specs.declared.scopes.Use.{Use}
use Rattle.jc_types.specs.declared.table.Table.{Table}
use Rattle.jc_types.specs.Tables.{IsTable, class_fits, method_fits, field_fits, variable_fits, scope_fits, use_fits, types_zip, method_zips, written_zips}
use Rattle.jc_tables.specs.Making.{empty, with_class, with_method, with_field, with_variable, with_scope, with_use, class_stands, method_stands, field_stands, variable_stands, use_stands}
use Rattle.jc_tables.proofs.Grown.{Grown, Leads, both_lead, all_lead, class_fits_lead, method_fits_lead, field_fits_lead, variable_fits_lead, scope_fits_lead, use_fits_lead}
use Rattle.jc_tables.proofs.Indexed.{index_kept}

all_pushed : {A : Type 0} (f : A → Bool) (xs : List A) (x : A) → f x ≡ true → list_all f xs ≡ true → list_all f (xs ++ x ∷ []) ≡ true
all_pushed f [] x fit = λ e. both_lead true true (f x) true (λ _. fit) (λ _. refl) refl
all_pushed f (y ∷ xs) x fit = both_lead (f y) (list_all f xs) (f y) (list_all f (xs ++ x ∷ [])) (λ h. h) (all_pushed f xs x fit)

pub empty_kept : IsTable empty
empty_kept = record { index = (λ name. refl); ids = refl; places = refl }

longer : {A : Type 0} (xs : List A) (x : A) → length xs ≤ length (xs ++ x ∷ [])
longer xs x = omega (arith, length-append xs (x ∷ []))

same : (n : ℕ) → n ≤ n
same n = omega arith

class_grown : (T : Table) (c : ClassDecl) → Grown T (with_class T c)
class_grown T c = record { classes = longer T.classes c; methods = same _; fields = same _; variables = same _; scopes = same _ }

method_grown : (T : Table) (m : MethodDecl) → Grown T (with_method T m)
method_grown T m = record { classes = same _; methods = longer T.methods m; fields = same _; variables = same _; scopes = same _ }

field_grown : (T : Table) (f : FieldDecl) → Grown T (with_field T f)
field_grown T f = record { classes = same _; methods = same _; fields = longer T.fields f; variables = same _; scopes = same _ }

variable_grown : (T : Table) (v : VariableDecl) → Grown T (with_variable T v)
variable_grown T v = record { classes = same _; methods = same _; fields = same _; variables = longer T.variables v; scopes = same _ }

scope_grown : (T : Table) (s : Scope) → Grown T (with_scope T s)
scope_grown T s = record { classes = same _; methods = same _; fields = same _; variables = same _; scopes = longer T.scopes s }

use_grown : (T : Table) (u : Use) → Grown T (with_use T u)
use_grown T u = record { classes = same _; methods = same _; fields = same _; variables = same _; scopes = same _ }

same_leads : (b : Bool) → Leads b b
same_leads b e = e

module _ (T : Table) where
  pub class_kept : (c : ClassDecl) → IsTable T → IsTrue (class_stands (with_class T c) c) → IsTable (with_class T c)
  class_kept c is stands =
      let U : Table = with_class T c in
      let more = class_grown T c in
      record {
        index = index_kept c T.classes T.index is.index;
        ids = both_lead _ _ _ _ (both_lead _ _ _ _ (both_lead _ _ _ _ (both_lead _ _ _ _ (both_lead _ _ _ _ (λ e. all_pushed (class_fits U) T.classes c (and_first (class_fits U c) (types_zip c.supers) stands) (all_lead (class_fits T) (class_fits U) (class_fits_lead T U more) T.classes e)) (all_lead (method_fits T) (method_fits U) (method_fits_lead T U more) T.methods)) (all_lead (field_fits T) (field_fits U) (field_fits_lead T U more) T.fields)) (all_lead (variable_fits T) (variable_fits U) (variable_fits_lead T U more) T.variables)) (all_lead (scope_fits T) (scope_fits U) (scope_fits_lead T U more) T.scopes)) (all_lead (use_fits T) (use_fits U) (use_fits_lead T U more) T.uses) is.ids;
        places = both_lead _ _ _ _ (both_lead _ _ _ _ (both_lead _ _ _ _ (both_lead _ _ _ _ (all_pushed (λ (c : ClassDecl). types_zip c.supers) T.classes c (and_second (class_fits U c) (types_zip c.supers) stands)) (same_leads (list_all method_zips T.methods))) (same_leads (list_all (λ (f : FieldDecl). written_zips f.ty) T.fields))) (same_leads (list_all (λ (v : VariableDecl). types_zip v.bounds) T.variables))) (same_leads (list_all (λ (u : Use). written_zips u.ty) T.uses)) is.places;
      }

  pub method_kept : (m : MethodDecl) → IsTable T → IsTrue (method_stands (with_method T m) m) → IsTable (with_method T m)
  method_kept m is stands =
      let U : Table = with_method T m in
      let more = method_grown T m in
      record {
        index = is.index;
        ids = both_lead _ _ _ _ (both_lead _ _ _ _ (both_lead _ _ _ _ (both_lead _ _ _ _ (both_lead _ _ _ _ (all_lead (class_fits T) (class_fits U) (class_fits_lead T U more) T.classes) (λ e. all_pushed (method_fits U) T.methods m (and_first (method_fits U m) (method_zips m) stands) (all_lead (method_fits T) (method_fits U) (method_fits_lead T U more) T.methods e))) (all_lead (field_fits T) (field_fits U) (field_fits_lead T U more) T.fields)) (all_lead (variable_fits T) (variable_fits U) (variable_fits_lead T U more) T.variables)) (all_lead (scope_fits T) (scope_fits U) (scope_fits_lead T U more) T.scopes)) (all_lead (use_fits T) (use_fits U) (use_fits_lead T U more) T.uses) is.ids;
        places = both_lead _ _ _ _ (both_lead _ _ _ _ (both_lead _ _ _ _ (both_lead _ _ _ _ (same_leads (list_all (λ (c : ClassDecl). types_zip c.supers) T.classes)) (all_pushed method_zips T.methods m (and_second (method_fits U m) (method_zips m) stands))) (same_leads (list_all (λ (f : FieldDecl). written_zips f.ty) T.fields))) (same_leads (list_all (λ (v : VariableDecl). types_zip v.bounds) T.variables))) (same_leads (list_all (λ (u : Use). written_zips u.ty) T.uses)) is.places;
      }

  pub field_kept : (f : FieldDecl) → IsTable T → IsTrue (field_stands (with_field T f) f) → IsTable (with_field T f)
  field_kept f is stands =
      let U : Table = with_field T f in
      let more = field_grown T f in
      record {
        index = is.index;
        ids = both_lead _ _ _ _ (both_lead _ _ _ _ (both_lead _ _ _ _ (both_lead _ _ _ _ (both_lead _ _ _ _ (all_lead (class_fits T) (class_fits U) (class_fits_lead T U more) T.classes) (all_lead (method_fits T) (method_fits U) (method_fits_lead T U more) T.methods)) (λ e. all_pushed (field_fits U) T.fields f (and_first (field_fits U f) (written_zips f.ty) stands) (all_lead (field_fits T) (field_fits U) (field_fits_lead T U more) T.fields e))) (all_lead (variable_fits T) (variable_fits U) (variable_fits_lead T U more) T.variables)) (all_lead (scope_fits T) (scope_fits U) (scope_fits_lead T U more) T.scopes)) (all_lead (use_fits T) (use_fits U) (use_fits_lead T U more) T.uses) is.ids;
        places = both_lead _ _ _ _ (both_lead _ _ _ _ (both_lead _ _ _ _ (both_lead _ _ _ _ (same_leads (list_all (λ (c : ClassDecl). types_zip c.supers) T.classes)) (same_leads (list_all method_zips T.methods))) (all_pushed (λ (f : FieldDecl). written_zips f.ty) T.fields f (and_second (field_fits U f) (written_zips f.ty) stands))) (same_leads (list_all (λ (v : VariableDecl). types_zip v.bounds) T.variables))) (same_leads (list_all (λ (u : Use). written_zips u.ty) T.uses)) is.places;
      }

  pub variable_kept : (v : VariableDecl) → IsTable T → IsTrue (variable_stands (with_variable T v) v) → IsTable (with_variable T v)
  variable_kept v is stands =
      let U : Table = with_variable T v in
      let more = variable_grown T v in
      record {
        index = is.index;
        ids = both_lead _ _ _ _ (both_lead _ _ _ _ (both_lead _ _ _ _ (both_lead _ _ _ _ (both_lead _ _ _ _ (all_lead (class_fits T) (class_fits U) (class_fits_lead T U more) T.classes) (all_lead (method_fits T) (method_fits U) (method_fits_lead T U more) T.methods)) (all_lead (field_fits T) (field_fits U) (field_fits_lead T U more) T.fields)) (λ e. all_pushed (variable_fits U) T.variables v (and_first (variable_fits U v) (types_zip v.bounds) stands) (all_lead (variable_fits T) (variable_fits U) (variable_fits_lead T U more) T.variables e))) (all_lead (scope_fits T) (scope_fits U) (scope_fits_lead T U more) T.scopes)) (all_lead (use_fits T) (use_fits U) (use_fits_lead T U more) T.uses) is.ids;
        places = both_lead _ _ _ _ (both_lead _ _ _ _ (both_lead _ _ _ _ (both_lead _ _ _ _ (same_leads (list_all (λ (c : ClassDecl). types_zip c.supers) T.classes)) (same_leads (list_all method_zips T.methods))) (same_leads (list_all (λ (f : FieldDecl). written_zips f.ty) T.fields))) (all_pushed (λ (v : VariableDecl). types_zip v.bounds) T.variables v (and_second (variable_fits U v) (types_zip v.bounds) stands))) (same_leads (list_all (λ (u : Use). written_zips u.ty) T.uses)) is.places;
      }

  pub scope_kept : (s : Scope) → IsTable T → IsTrue (scope_fits (with_scope T s) s) → IsTable (with_scope T s)
  scope_kept s is stands =
      let U : Table = with_scope T s in
      let more = scope_grown T s in
      record {
        index = is.index;
        ids = both_lead _ _ _ _ (both_lead _ _ _ _ (both_lead _ _ _ _ (both_lead _ _ _ _ (both_lead _ _ _ _ (all_lead (class_fits T) (class_fits U) (class_fits_lead T U more) T.classes) (all_lead (method_fits T) (method_fits U) (method_fits_lead T U more) T.methods)) (all_lead (field_fits T) (field_fits U) (field_fits_lead T U more) T.fields)) (all_lead (variable_fits T) (variable_fits U) (variable_fits_lead T U more) T.variables)) (λ e. all_pushed (scope_fits U) T.scopes s stands (all_lead (scope_fits T) (scope_fits U) (scope_fits_lead T U more) T.scopes e))) (all_lead (use_fits T) (use_fits U) (use_fits_lead T U more) T.uses) is.ids;
        places = is.places;
      }

  pub use_kept : (u : Use) → IsTable T → IsTrue (use_stands (with_use T u) u) → IsTable (with_use T u)
  use_kept u is stands =
      let U : Table = with_use T u in
      let more = use_grown T u in
      record {
        index = is.index;
        ids = both_lead _ _ _ _ (both_lead _ _ _ _ (both_lead _ _ _ _ (both_lead _ _ _ _ (both_lead _ _ _ _ (all_lead (class_fits T) (class_fits U) (class_fits_lead T U more) T.classes) (all_lead (method_fits T) (method_fits U) (method_fits_lead T U more) T.methods)) (all_lead (field_fits T) (field_fits U) (field_fits_lead T U more) T.fields)) (all_lead (variable_fits T) (variable_fits U) (variable_fits_lead T U more) T.variables)) (all_lead (scope_fits T) (scope_fits U) (scope_fits_lead T U more) T.scopes)) (λ e. all_pushed (use_fits U) T.uses u (and_first (use_fits U u) (written_zips u.ty) stands) (all_lead (use_fits T) (use_fits U) (use_fits_lead T U more) T.uses e)) is.ids;
        places = both_lead _ _ _ _ (both_lead _ _ _ _ (both_lead _ _ _ _ (both_lead _ _ _ _ (same_leads (list_all (λ (c : ClassDecl). types_zip c.supers) T.classes)) (same_leads (list_all method_zips T.methods))) (same_leads (list_all (λ (f : FieldDecl). written_zips f.ty) T.fields))) (same_leads (list_all (λ (v : VariableDecl). types_zip v.bounds) T.variables))) (all_pushed (λ (u : Use). written_zips u.ty) T.uses u (and_second (use_fits U u) (written_zips u.ty) stands)) is.places;
      }

-- a table with its own classes and index
pub same_table : (T : Table) (cs : List ClassDecl) (ns : List (List ℕ × ℕ)) → cs ≡ T.classes → ns ≡ T.index → record T { classes = cs; index = ns } ≡ T
same_table T cs ns e f = ap (λ (cs : List ClassDecl). let U : Table = record T { classes = cs; index = ns } in U) e ∙ ap (λ (ns : List (List ℕ × ℕ)). let U : Table = record T { index = ns } in U) f

snoc_left : {A : Type 0} (xs ys : List A) (x y : A) → xs ++ x ∷ [] ≡ ys ++ y ∷ [] → xs ≡ ys
snoc_left [] [] x y e = refl
snoc_left [] (b ∷ ys) x y e = absurd (omega (arith, ap length e, length-append ys (y ∷ [])))
snoc_left (a ∷ xs) [] x y e = absurd (omega (arith, ap length e, length-append xs (x ∷ [])))
snoc_left (a ∷ xs) (b ∷ ys) x y e =
    let rest : xs ++ x ∷ [] ≡ ys ++ y ∷ [] = cc in
    let tail : xs ≡ ys = snoc_left xs ys x y rest in
    let head : a ≡ b = cc in
    cc

-- what is left when the last one is taken out again
pub popped : {A : Type 0} (r : Option A) (was left xs : List A) (x : A) → was ≡ xs ++ x ∷ [] → MatchOption r ((was ≡ []) × (left ≡ [])) (λ last. was ≡ left ++ last ∷ []) → left ≡ xs
popped None was left xs x e h = absurd (let n : length (xs ++ x ∷ []) ≡ 0 = ap length (sym e ∙ h.0) in omega (arith, length-append xs (x ∷ [])))
popped (Some last) was left xs x e h = snoc_left left xs last x (sym h ∙ e)
