-- Methods that a class has, beside an abstract one (JLS 8.4.8).
use Rattle.std.specs.Prelude.{Bool, ◌&&◌}
use Rattle.jc_types.specs.declared.ids.ClassId.{ClassId}
use Rattle.jc_types.specs.declared.ids.MethodId.{MethodId}
use Rattle.jc_types.specs.declared.table.Table.{Table}
use Rattle.jc_overriding.specs.Overriding.{overrides}
use Rattle.jc_header_rules.specs.Inheriting.{is_member_above}

-- class k declares method w or may inherit it, and w overrides method m
unfoldable pub has_over : Table → ClassId → MethodId → MethodId → Bool
has_over T k m w = is_member_above T k w && overrides T w m
