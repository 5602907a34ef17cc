-- What is read of the world of a setting.
use Rattle.std.proofs.Common.{◌≡◌, refl, List}
use Rattle.jc_declares.specs.HeadBreaks.{class_file}
use Rattle.jc_exprs_parts_spec.specs.Worlds.{LocalIn}
use Rattle.jc_stmts_items.specs.declared.setting.Setting.{Setting}
use Rattle.jc_stmts_items.specs.Settings.{world_within}

pub table_within : (s : Setting) (ls : List LocalIn) → (world_within s ls).table ≡ s.table.now
unfolding world_within
table_within s ls = refl

pub file_within : (s : Setting) (ls : List LocalIn) → class_file (world_within s ls).heads (world_within s ls).class.0 ≡ class_file s.names.declared.heads.now s.class.0
unfolding world_within
file_within s ls = refl

pub ruleset tables = (table_within)
