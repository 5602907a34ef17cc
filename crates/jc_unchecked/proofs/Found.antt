-- What is told, in whatever order, is in order the list of warnings.
use Rattle.std.proofs.Common.{◌≡◌, ◌⊎◌, inl, inr, List, [], ◌∷◌, ◌++◌}
use Rattle.jc_types.specs.declared.table.Table.{Table}
use Rattle.jc_typed.specs.declared.program.TypedMethod.{TypedMethod}
use Rattle.jc_typed.specs.declared.program.TypedProgram.{TypedProgram}
use Rattle.jc_unchecked_spec.specs.declared.warning.Warning.{Warning}
use Rattle.jc_unchecked_spec.specs.Heads.{class_warned, heads_warned, method_warned, of_each}
use Rattle.jc_unchecked_spec.specs.Warnings.{all_warned, bodies_warned, body_warned, in_order, warnings}
use Rattle.jc_unchecked_laws.specs.Told.{IsTold}
use Rattle.jc_unchecked_laws.proofs.Lists.{parts_told}
use Rattle.jc_unchecked_list.specs.Telling.{each_told, told}
use Rattle.jc_unchecked_list.proofs.Halves.{same_order}
use Rattle.jc_unchecked_list.proofs.Told.{each_before, each_own, in_each, in_told, told_before, told_own}
use Rattle.jc_unchecked.specs.All.{bodies_told}

-- ---- bodies

module _ (T : Table) (x : Warning) where
  in_bodies : (ms : List TypedMethod) (before : List Warning) → IsTold x (bodies_told T ms before) → IsTold x (bodies_warned T ms) ⊎ IsTold x before
  in_bodies [] before t = inr t
  in_bodies (m ∷ ms) before t = by (in_bodies ms (told (body_warned T m m.body) before) t)
    where
      own : IsTold x (body_warned T m m.body) ⊎ IsTold x before → IsTold x (body_warned T m m.body ++ bodies_warned T ms) ⊎ IsTold x before
      own (inl t) = inl (parts_told.of_first x (body_warned T m m.body) (bodies_warned T ms) t)
      own (inr t) = inr t

      by : IsTold x (bodies_warned T ms) ⊎ IsTold x (told (body_warned T m m.body) before) → IsTold x (body_warned T m m.body ++ bodies_warned T ms) ⊎ IsTold x before
      by (inl t) = inl (parts_told.of_second x (body_warned T m m.body) (bodies_warned T ms) t)
      by (inr t) = own (in_told x (body_warned T m m.body) before t)

  bodies_before : (ms : List TypedMethod) (before : List Warning) → IsTold x before → IsTold x (bodies_told T ms before)
  bodies_before [] before t = t
  bodies_before (m ∷ ms) before t = bodies_before ms (told (body_warned T m m.body) before) (told_before x (body_warned T m m.body) before t)

  bodies_own : (ms : List TypedMethod) (before : List Warning) → IsTold x (bodies_warned T ms) → IsTold x (bodies_told T ms before)
  bodies_own [] before t = absurd t
  bodies_own (m ∷ ms) before t = by (bodies_own ms (told (body_warned T m m.body) before)) (parts_told.of_two x (body_warned T m m.body) (bodies_warned T ms) t)
    where
      by : (IsTold x (bodies_warned T ms) → IsTold x (bodies_told T ms (told (body_warned T m m.body) before))) → IsTold x (body_warned T m m.body) ⊎ IsTold x (bodies_warned T ms)
          → IsTold x (bodies_told T ms (told (body_warned T m m.body) before))
      by further (inl t) = bodies_before ms (told (body_warned T m m.body) before) (told_own x (body_warned T m m.body) before t)
      by further (inr t) = further t

-- ---- all

abbrev of_classes : Table → List Warning
of_classes T = of_each (class_warned T) 0 T.classes

abbrev of_methods : Table → List Warning
of_methods T = of_each (method_warned T) 0 T.methods

abbrev classes_told : Table → List Warning
classes_told T = each_told (class_warned T) 0 T.classes []

abbrev heads_told : Table → List Warning
heads_told T = each_told (method_warned T) 0 T.methods (classes_told T)

in_classes : (T : Table) (x : Warning) → IsTold x (of_classes T) ⊎ IsTold x [] → IsTold x (of_classes T ++ of_methods T)
in_classes T x (inl t) = parts_told.of_first x (of_classes T) (of_methods T) t
in_classes T x (inr t) = absurd t

in_methods : (T : Table) (x : Warning) → IsTold x (of_methods T) ⊎ IsTold x (classes_told T) → IsTold x (of_classes T ++ of_methods T)
in_methods T x (inl t) = parts_told.of_second x (of_classes T) (of_methods T) t
in_methods T x (inr t) = in_classes T x (in_each x (class_warned T) 0 T.classes [] t)

in_all : (P : TypedProgram) (x : Warning) → IsTold x (bodies_warned P.table P.methods) ⊎ IsTold x (heads_told P.table) → IsTold x (all_warned P)
in_all P x (inl t) = parts_told.of_second x (heads_warned P.table) (bodies_warned P.table P.methods) t
in_all P x (inr t) =
    parts_told.of_first x (heads_warned P.table) (bodies_warned P.table P.methods) (in_methods P.table x (in_each x (method_warned P.table) 0 P.table.methods (classes_told P.table) t))

heads_own : (T : Table) (x : Warning) → IsTold x (of_classes T) ⊎ IsTold x (of_methods T) → IsTold x (heads_told T)
heads_own T x (inl t) = each_before x (method_warned T) 0 T.methods (classes_told T) (each_own x (class_warned T) 0 T.classes [] t)
heads_own T x (inr t) = each_own x (method_warned T) 0 T.methods (classes_told T) t

all_own : (P : TypedProgram) (x : Warning) → IsTold x (heads_warned P.table) ⊎ IsTold x (bodies_warned P.table P.methods) → IsTold x (bodies_told P.table P.methods (heads_told P.table))
all_own P x (inl t) = bodies_before P.table x P.methods (heads_told P.table) (heads_own P.table x (parts_told.of_two x (of_classes P.table) (of_methods P.table) t))
all_own P x (inr t) = bodies_own P.table x P.methods (heads_told P.table) t

pub all_found : (P : TypedProgram) → in_order (bodies_told P.table P.methods (each_told (method_warned P.table) 0 P.table.methods (each_told (class_warned P.table) 0 P.table.classes []))) ≡ warnings P
unfolding warnings
all_found P =
    same_order (bodies_told P.table P.methods (heads_told P.table)) (all_warned P) (λ x t. in_all P x (in_bodies P.table x P.methods (heads_told P.table) t))
    (λ x t. all_own P x (parts_told.of_two x (heads_warned P.table) (bodies_warned P.table P.methods) t))
