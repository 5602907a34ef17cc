-- The class and raw types inside a type.
use Rattle.std.specs.Prelude.{List, [], ◌∷◌, ◌++◌, map}
use Rattle.jc_types.specs.declared.form.Ty.{Ty, Ty-F, para-Ty}
use Rattle.jc_types.specs.declared.form.Ty.TheVariants.{Class, Raw}
use Rattle.jc_types.specs.declared.form.Arg.{Arg, Arg-F, para-Arg}

-- each part stands with the types inside it: here are those of all arguments, or of all types, in their order
abbrev pub parts_of_args : List (Arg × List Ty) → List Ty
parts_of_args [] = []
parts_of_args (x ∷ xs) = x.1 ++ parts_of_args xs

abbrev pub parts_of_types : List (Ty × List Ty) → List Ty
parts_of_types [] = []
parts_of_types (x ∷ xs) = x.1 ++ parts_of_types xs

-- an argument has what is inside its type or its bound, and `?` has nothing
abbrev pub inside_arg_at : Arg-F (Arg × List Ty) (Ty × List Ty) → List Ty
inside_arg_at (Arg-F.Exact x) = x.1
inside_arg_at Arg-F.Any = []
inside_arg_at (Arg-F.Extends x) = x.1
inside_arg_at (Arg-F.Super x) = x.1

-- a layer of a type whose parts are done: a class or raw type is inside itself, an array and an intersection have what their
-- parts have, and a primitive type, a variable and the null type have nothing
abbrev pub inside_at : Ty-F (Arg × List Ty) (Ty × List Ty) → List Ty
inside_at (Ty-F.Class id xs) = Class id (map (λ x. x.0) xs) ∷ parts_of_args xs
inside_at (Ty-F.Raw id) = Raw id ∷ []
inside_at (Ty-F.Array x n) = x.1
inside_at (Ty-F.Meet xs) = parts_of_types xs
inside_at _ = []

-- the class and raw types in a type, itself first, in the order in which they are written
unfoldable pub inside : Ty → List Ty
inside t = para-Ty (List Ty) (List Ty) inside_arg_at inside_at t

-- the class and raw types in an argument: in its type, or in the bound of a wildcard
unfoldable pub inside_arg : Arg → List Ty
inside_arg a = para-Arg (List Ty) (List Ty) inside_arg_at inside_at a

-- those in all arguments, and in all types, in their order
abbrev pub inside_args : List Arg → List Ty
inside_args [] = []
inside_args (a ∷ args) = inside_arg a ++ inside_args args

abbrev pub inside_types : List Ty → List Ty
inside_types [] = []
inside_types (t ∷ ts) = inside t ++ inside_types ts
