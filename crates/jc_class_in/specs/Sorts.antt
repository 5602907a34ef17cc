-- Which entries of a pool are descriptors.
use Rattle.jc_class_out.specs.declared.format.Slot.{Slot}
use Rattle.jc_class_out.specs.Descriptors.{is_field_descriptor, is_method_descriptor}
use Rattle.jc_class_out.specs.Pool.{a_text, text_is}
use Rattle.jc_class_in.specs.declared.sorts.Sort.{Sort}

-- what sort of descriptor an entry is, as far as it is a text
abbrev pub sort_of : Slot → Sort
sort_of s = record { field = text_is is_field_descriptor (a_text s.entry); method = text_is is_method_descriptor (a_text s.entry) }
