-- The rules: their numbers, stages and texts.
use Rattle.std.specs.Prelude.{ℕ, ◌/◌, Bool, nat_le, ◌&&◌, ◌||◌, ◌==◌, List, [], codes, if◌then◌else◌}
use Rattle.jc_rules.specs.declared.rule.Stage.{Stage}
use Rattle.jc_rules.specs.declared.rule.Stage.TheVariants.{Lexical, Syntax, Names, Types, Headers, Bodies, Flow, Clashes, Limits}

-- a number is one of those from `low` to `high`, both ends included
abbrev pub between : ℕ → ℕ → ℕ → Bool
between low high n = nat_le low n && nat_le n high

-- the numbers of the table
abbrev pub is_rule : ℕ → Bool
is_rule n =
    between 101 109 n || between 201 203 n || between 301 311 n || between 401 409 n ||
    between 501 514 n || between 601 626 n || between 701 708 n || between 801 801 n || between 900 905 n

-- the stage whose rules have these hundreds; Limits has 9 and whatever no other stage has
abbrev pub stage_at : ℕ → Stage
stage_at hundreds =
    if hundreds == 1 then Lexical else if hundreds == 2 then Syntax else if hundreds == 3 then Names else if hundreds == 4 then Types else if hundreds == 5 then Headers else if hundreds == 6 then Bodies else if hundreds == 7 then Flow else if hundreds == 8 then Clashes else Limits

-- the stage that asks for a rule: the hundreds of its number
abbrev pub stage_of : ℕ → Stage
stage_of n = stage_at (n / 100)

-- the texts of the rules 101 to 109, which the lexical stage asks for; empty of any other number
abbrev pub lexical_text : ℕ → List ℕ
lexical_text n =
    if n == 101 then codes "source too long" else
    if n == 102 then codes "not UTF-8" else
    if n == 103 then codes "bad Unicode escape" else
    if n == 104 then codes "bad character" else
    if n == 105 then codes "bad literal" else
    if n == 106 then codes "comment not closed" else
    if n == 107 then codes "literal not closed" else
    if n == 108 then codes "floating-point literal" else
    if n == 109 then codes "dollar sign" else
    []

-- the texts of the rules 201 to 203, on the grammar (JLS 18); empty of any other number
abbrev pub syntax_text : ℕ → List ℕ
syntax_text n =
    if n == 201 then codes "word left out" else
    if n == 202 then codes "syntax error or nesting above 200" else
    if n == 203 then codes "form left out" else
    []

-- the texts of the rules 301 to 311, on declared and imported names and supertypes; empty of any other number
abbrev pub names_text : ℕ → List ℕ
names_text n =
    if n == 301 then codes "type declared twice" else
    if n == 302 then codes "unknown type" else
    if n == 303 then codes "ambiguous type" else
    if n == 304 then codes "cyclic supertypes" else
    if n == 305 then codes "wrong kind of supertype" else
    if n == 306 then codes "unknown import" else
    if n == 307 then codes "member or type parameter declared twice" else
    if n == 308 then codes "wrong package" else
    if n == 309 then codes "wrong modifiers" else
    if n == 310 then codes "type not accessible" else
    if n == 311 then codes "type variable in a static place" else
    []

-- the texts of the rules 401 to 409, on types and their arguments and bounds (JLS 4); empty of any other number
abbrev pub types_text : ℕ → List ℕ
types_text n =
    if n == 401 then codes "wrong count of type arguments" else
    if n == 402 then codes "type argument outside its bound" else
    if n == 403 then codes "super bound outside the declared bound" else
    if n == 404 then codes "primitive type argument" else
    if n == 405 then codes "two classes meet in a bound" else
    if n == 406 then codes "subtyping question deeper than 64" else
    if n == 407 then codes "cyclic type variable" else
    if n == 408 then codes "wildcard in a supertype" else
    if n == 409 then codes "wrong kind of bound" else
    []

-- the texts of the rules 501 to 514, on the heads of classes and methods (JLS 8, 9); empty of any other number
abbrev pub headers_text : ℕ → List ℕ
headers_text n =
    if n == 501 then codes "generic class extends Throwable" else
    if n == 502 then codes "one interface with different arguments" else
    if n == 503 then codes "same signature twice" else
    if n == 504 then codes "final method overridden" else
    if n == 505 then codes "static and instance methods meet" else
    if n == 506 then codes "weaker access" else
    if n == 507 then codes "result does not fit" else
    if n == 508 then codes "exception not in the overridden clause" else
    if n == 509 then codes "abstract method left open" else
    if n == 510 then codes "overrides nothing" else
    if n == 511 then codes "inherited methods do not agree" else
    if n == 512 then codes "subtyping question deeper than 64" else
    if n == 513 then codes "thrown type is not a Throwable" else
    if n == 514 then codes "body missing or unwanted" else
    []

-- the texts of the rules 601 to 626, on expressions and statements (JLS 14, 15); empty of any other number
abbrev pub bodies_text : ℕ → List ℕ
bodies_text n =
    if n == 601 then codes "literal out of range" else
    if n == 602 then codes "unknown name" else
    if n == 603 then codes "unknown member" else
    if n == 604 then codes "no applicable member" else
    if n == 605 then codes "call is ambiguous" else
    if n == 606 then codes "subtyping question deeper than 64" else
    if n == 607 then codes "types do not convert" else
    if n == 608 then codes "cast cannot succeed" else
    if n == 609 then codes "operator does not take these types" else
    if n == 610 then codes "not a variable" else
    if n == 611 then codes "no this here" else
    if n == 612 then codes "type is not reifiable" else
    if n == 613 then codes "abstract type cannot be created" else
    if n == 614 then codes "wrong switch" else
    if n == 615 then codes "wrong jump or label" else
    if n == 616 then codes "local declared twice" else
    if n == 617 then codes "not an array or Iterable" else
    if n == 618 then codes "member not accessible" else
    if n == 619 then codes "wrong return" else
    if n == 620 then codes "wrong constructor call" else
    if n == 621 then codes "abstract method called through super" else
    if n == 622 then codes "field is ambiguous" else
    if n == 623 then codes "wrong explicit arguments or diamond" else
    if n == 624 then codes "two classes meet in a capture" else
    if n == 625 then codes "not a Throwable, or related alternatives" else
    if n == 626 then codes "forward reference" else
    []

-- the texts of the rules 701 to 708, on reachability, exceptions and definite assignment (JLS 14.21, 11, 16); empty of any other number
abbrev pub flow_text : ℕ → List ℕ
flow_text n =
    if n == 701 then codes "statement cannot be reached" else
    if n == 702 then codes "end without a value" else
    if n == 703 then codes "exception not caught" else
    if n == 704 then codes "catch clause never used" else
    if n == 705 then codes "variable not assigned" else
    if n == 706 then codes "final variable assigned" else
    if n == 707 then codes "final field not assigned" else
    if n == 708 then codes "initialiser cannot complete" else
    []

-- the text of the one rule 801, on methods whose erasures are the same (JLS 8.4.8.3); empty of any other number
abbrev pub clashes_text : ℕ → List ℕ
clashes_text n =
    if n == 801 then codes "methods clash after erasure" else
    []

-- the texts of the rules 900 to 905, on forms that aren't built yet and limits of class files (JVMS 4.11); empty of any other number
abbrev pub limits_text : ℕ → List ℕ
limits_text n =
    if n == 900 then codes "form not built yet" else
    if n == 901 then codes "method too large" else
    if n == 902 then codes "too many constants" else
    if n == 903 then codes "too many parameters" else
    if n == 904 then codes "text too long" else
    if n == 905 then codes "too many dimensions" else
    []

-- the text that a stage has for a rule of this number; empty where the rule isn't one of the stage's
abbrev pub text_in : Stage → ℕ → List ℕ
text_in Lexical n = lexical_text n
text_in Syntax n = syntax_text n
text_in Names n = names_text n
text_in Types n = types_text n
text_in Headers n = headers_text n
text_in Bodies n = bodies_text n
text_in Flow n = flow_text n
text_in Clashes n = clashes_text n
text_in Limits n = limits_text n

-- the text of a rule, by its number
abbrev pub text_at : ℕ → List ℕ
text_at n = text_in (stage_of n) n
