-- Names and descriptors as keys: methods are called alike where their keys are one.
use Rattle.std.proofs.Common.{◌≡◌, ℕ, Bool, true, false, List, [], ◌∷◌, Option, Some, None, refl, sym, ◌∙◌, ap, map}
use Rattle.std.specs.Prelude.{◌&&◌, ◌==◌}
use Rattle.std.specs.Option.{option_map}
use Rattle.std.specs.Str.{bytes_eq}
use Rattle.jc_rules.proofs.Truths.{and_first, and_second, equal_numbers, self_equal, same_bytes, own_bytes}
use Rattle.jc_types.specs.declared.erased.Base.{Base}
use Rattle.jc_types.specs.declared.erased.Base.TheVariants as base
use Rattle.jc_types.specs.declared.erased.Erased.{Erased}
use Rattle.jc_types.specs.declared.form.Primitive.{Primitive}
use Rattle.jc_types.specs.declared.form.Primitive.TheVariants.{Boolean, Byte, Short, Char, Int, Long}
use Rattle.jc_types.specs.declared.form.Ty.{Ty}
use Rattle.jc_types.specs.declared.ids.MethodId.{MethodId}
use Rattle.jc_types.specs.declared.table.Table.{Table}
use Rattle.jc_types.specs.Accessors.{method_name_of, params_of, result_of}
use Rattle.jc_types.specs.Erasing.{erasure}
use Rattle.jc_bridges_spec.specs.Descriptors.{is_called_as, same_base, same_descriptor, same_erased, same_erasure, same_erasures, same_primitive, same_results}

-- ---- truths

pub both : (a b : Bool) → a ≡ true → b ≡ true → (a && b) ≡ true
both true b e f = f
both false b e f = cc

pub never : false ≡ true → ⊥
never e = cc

-- the method of a number
abbrev pub method : ℕ → MethodId
method i = record { 0 = i }

-- ---- erased types

abbrev erased : Base → ℕ → Erased
erased b n = record { base = b; dims = n }

abbrev of_class : ℕ → Base
of_class n = base.Class (record { 0 = n })

primitive_same : (p q : Primitive) → same_primitive p q ≡ true → p ≡ q
primitive_same Boolean Boolean e = refl
primitive_same Boolean Byte e = cc
primitive_same Boolean Short e = cc
primitive_same Boolean Char e = cc
primitive_same Boolean Int e = cc
primitive_same Boolean Long e = cc
primitive_same Byte Boolean e = cc
primitive_same Byte Byte e = refl
primitive_same Byte Short e = cc
primitive_same Byte Char e = cc
primitive_same Byte Int e = cc
primitive_same Byte Long e = cc
primitive_same Short Boolean e = cc
primitive_same Short Byte e = cc
primitive_same Short Short e = refl
primitive_same Short Char e = cc
primitive_same Short Int e = cc
primitive_same Short Long e = cc
primitive_same Char Boolean e = cc
primitive_same Char Byte e = cc
primitive_same Char Short e = cc
primitive_same Char Char e = refl
primitive_same Char Int e = cc
primitive_same Char Long e = cc
primitive_same Int Boolean e = cc
primitive_same Int Byte e = cc
primitive_same Int Short e = cc
primitive_same Int Char e = cc
primitive_same Int Int e = refl
primitive_same Int Long e = cc
primitive_same Long Boolean e = cc
primitive_same Long Byte e = cc
primitive_same Long Short e = cc
primitive_same Long Char e = cc
primitive_same Long Int e = cc
primitive_same Long Long e = refl

primitive_self : (p : Primitive) → same_primitive p p ≡ true
primitive_self Boolean = refl
primitive_self Byte = refl
primitive_self Short = refl
primitive_self Char = refl
primitive_self Int = refl
primitive_self Long = refl

base_same : (a b : Base) → same_base a b ≡ true → a ≡ b
base_same (base.Prim p) (base.Prim q) e = ap (λ x. base.Prim x) (primitive_same p q e)
base_same (base.Prim p) (base.Class c) e = cc
base_same (base.Prim p) base.NullTy e = cc
base_same (base.Class k) (base.Prim q) e = cc
base_same (base.Class k) (base.Class c) e = ap of_class (equal_numbers k.0 c.0 e)
base_same (base.Class k) base.NullTy e = cc
base_same base.NullTy (base.Prim q) e = cc
base_same base.NullTy (base.Class c) e = cc
base_same base.NullTy base.NullTy e = refl

base_self : (a : Base) → same_base a a ≡ true
base_self (base.Prim p) = primitive_self p
base_self (base.Class k) = self_equal k.0
base_self base.NullTy = refl

pub erased_same : (e f : Erased) → same_erased e f ≡ true → e ≡ f
erased_same e f h =
    let d : e.dims ≡ f.dims = equal_numbers e.dims f.dims (and_first (e.dims == f.dims) (same_base e.base f.base) h) in
    let b : e.base ≡ f.base = base_same e.base f.base (and_second (e.dims == f.dims) (same_base e.base f.base) h) in
    ap (λ n. erased e.base n) d ∙ ap (λ x. erased x f.dims) b

pub erased_self : (e : Erased) → same_erased e e ≡ true
erased_self e = both (e.dims == e.dims) (same_base e.base e.base) (self_equal e.dims) (base_self e.base)

-- ---- lists of them

same_all : List Erased → List Erased → Bool
same_all [] [] = true
same_all [] (f ∷ fs) = false
same_all (e ∷ es) [] = false
same_all (e ∷ es) (f ∷ fs) = same_erased e f && same_all es fs

same_one : Option Erased → Option Erased → Bool
same_one None None = true
same_one None (Some f) = false
same_one (Some e) None = false
same_one (Some e) (Some f) = same_erased e f

all_same : (es fs : List Erased) → same_all es fs ≡ true → es ≡ fs
unfolding same_all
all_same [] [] h = refl
all_same [] (f ∷ fs) h = cc
all_same (e ∷ es) [] h = cc
all_same (e ∷ es) (f ∷ fs) h =
    ap (λ x. x ∷ es) (erased_same e f (and_first (same_erased e f) (same_all es fs) h)) ∙ ap (λ xs. f ∷ xs) (all_same es fs (and_second (same_erased e f) (same_all es fs) h))

all_self : (es : List Erased) → same_all es es ≡ true
unfolding same_all
all_self [] = refl
all_self (e ∷ es) = both (same_erased e e) (same_all es es) (erased_self e) (all_self es)

one_same : (e f : Option Erased) → same_one e f ≡ true → e ≡ f
unfolding same_one
one_same None None h = refl
one_same None (Some f) h = cc
one_same (Some e) None h = cc
one_same (Some e) (Some f) h = ap (λ x. Some x) (erased_same e f h)

one_self : (e : Option Erased) → same_one e e ≡ true
unfolding same_one
one_self None = refl
one_self (Some e) = erased_self e

-- ---- keys

-- a method's name, and the erasures of its parameters and of its result
pub record Key : Type 0 where
  pub name : List ℕ
  pub params : List Erased
  pub result : Option Erased

abbrev keyed : List ℕ → List Erased → Option Erased → Key
keyed n p r = record { name = n; params = p; result = r }

abbrev pub key : Table → MethodId → Key
key T m = keyed (method_name_of T m) (map (erasure T []) (params_of T m)) (option_map (erasure T []) (result_of T m))

test : Key → Key → Bool
test k l = bytes_eq k.name l.name && (same_all k.params l.params && same_one k.result l.result)

test_is : (k l : Key) → test k l ≡ true → k ≡ l
unfolding test
test_is k l h =
    let n : k.name ≡ l.name = same_bytes k.name l.name (and_first (bytes_eq k.name l.name) (same_all k.params l.params && same_one k.result l.result) h) in
    let more : (same_all k.params l.params && same_one k.result l.result) ≡ true = and_second (bytes_eq k.name l.name) (same_all k.params l.params && same_one k.result l.result) h in
    let p : k.params ≡ l.params = all_same k.params l.params (and_first (same_all k.params l.params) (same_one k.result l.result) more) in
    let r : k.result ≡ l.result = one_same k.result l.result (and_second (same_all k.params l.params) (same_one k.result l.result) more) in
    ap (λ x. keyed x k.params k.result) n ∙ ap (λ x. keyed l.name x k.result) p ∙ ap (λ x. keyed l.name l.params x) r

test_self : (k : Key) → test k k ≡ true
unfolding test
test_self k =
    both (bytes_eq k.name k.name) (same_all k.params k.params && same_one k.result k.result) (own_bytes k.name)
    (both (same_all k.params k.params) (same_one k.result k.result) (all_self k.params) (one_self k.result))

one_erasure : (T : Table) (s t : Ty) → same_erasure T s t ≡ same_erased (erasure T [] s) (erasure T [] t)
unfolding same_erasure
one_erasure T s t = refl

all_erasures : (T : Table) (ss ts : List Ty) → same_erasures T ss ts ≡ same_all (map (erasure T []) ss) (map (erasure T []) ts)
unfolding same_all
all_erasures T [] [] = refl
all_erasures T [] (t ∷ ts) = refl
all_erasures T (s ∷ ss) [] = refl
all_erasures T (s ∷ ss) (t ∷ ts) =
    ap (λ b. b && same_erasures T ss ts) (one_erasure T s t) ∙ ap (λ b. same_erased (erasure T [] s) (erasure T [] t) && b) (all_erasures T ss ts)

results : (T : Table) (s t : Option Ty) → same_results T s t ≡ same_one (option_map (erasure T []) s) (option_map (erasure T []) t)
unfolding same_one
results T None None = refl
results T None (Some t) = refl
results T (Some s) None = refl
results T (Some s) (Some t) = one_erasure T s t

descriptor_test : (T : Table) (m n : MethodId) → same_descriptor T m n ≡ (same_all (key T m).params (key T n).params && same_one (key T m).result (key T n).result)
descriptor_test T m n =
    ap (λ b. b && same_results T (result_of T m) (result_of T n)) (all_erasures T (params_of T m) (params_of T n))
    ∙ ap (λ b. same_all (key T m).params (key T n).params && b) (results T (result_of T m) (result_of T n))

called_test : (T : Table) (m n : MethodId) → is_called_as T m n ≡ test (key T m) (key T n)
unfolding test
called_test T m n = ap (λ b. bytes_eq (method_name_of T m) (method_name_of T n) && b) (descriptor_test T m n)

-- methods that are called alike have one key, and the other way round
pub called_key : (T : Table) (m n : MethodId) → is_called_as T m n ≡ true → key T m ≡ key T n
called_key T m n h = test_is (key T m) (key T n) (sym (called_test T m n) ∙ h)

pub key_called : (T : Table) (m n : MethodId) → key T m ≡ key T n → is_called_as T m n ≡ true
key_called T m n e = called_test T m n ∙ ap (λ k. test (key T m) k) (sym e) ∙ test_self (key T m)

pub called_self : (T : Table) (m : MethodId) → is_called_as T m m ≡ true
called_self T m = key_called T m m refl

pub called_back : (T : Table) (m n : MethodId) → is_called_as T m n ≡ true → is_called_as T n m ≡ true
called_back T m n h = key_called T n m (sym (called_key T m n h))

pub called_on : (T : Table) (l m n : MethodId) → is_called_as T l m ≡ true → is_called_as T m n ≡ true → is_called_as T l n ≡ true
called_on T l m n g h = key_called T l n (called_key T l m g ∙ called_key T m n h)

-- of one name and one descriptor
pub named_called : (T : Table) (m n : MethodId) → method_name_of T m ≡ method_name_of T n → same_descriptor T m n ≡ true → is_called_as T m n ≡ true
named_called T m n e h =
    both (bytes_eq (method_name_of T m) (method_name_of T n)) (same_descriptor T m n) (ap (λ x. bytes_eq (method_name_of T m) x) (sym e) ∙ own_bytes (method_name_of T m)) h

pub called_descriptor : (T : Table) (m n : MethodId) → is_called_as T m n ≡ true → same_descriptor T m n ≡ true
called_descriptor T m n h = and_second (bytes_eq (method_name_of T m) (method_name_of T n)) (same_descriptor T m n) h
