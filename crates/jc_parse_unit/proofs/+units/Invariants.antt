use Rattle.std.proofs.Common.{◌+◌, ◌*◌, ◌<◌, ◌^◌, length}
use Rattle.jc_reading.specs.Reading.{noting}
use Rattle.jc_expr_laws.specs.ExprReading.{exprs}
use Rattle.jc_unit_laws.specs.UnitReading.{arm_run}
use Rattle.jc_unit_laws.specs.MemberReading.{levels}
use Rattle.jc_parse_heads.specs.UnitCode.{arms_run}
use Rattle.jc_parse_unit.proofs.Elses.{Turns}
use Rattle.jc_parse_unit.proofs.+units.Given as goal

abbrev pub decreases-statements::body_within : goal.decreases-statements::body_within
decreases-statements::body_within l = 60 * l.height

abbrev pub decreases-statements::other_within : goal.decreases-statements::other_within
decreases-statements::other_within l = 60 * l.height

abbrev pub decreases-statements::item_within : goal.decreases-statements::item_within
decreases-statements::item_within l = 60 * l.height

abbrev pub decreases-statements::case_item_within : goal.decreases-statements::case_item_within
decreases-statements::case_item_within l = 60 * l.height

abbrev pub decreases-statements::items : goal.decreases-statements::items
decreases-statements::items l = 60 * l.height + 2

abbrev pub decreases-statements::case_items : goal.decreases-statements::case_items
decreases-statements::case_items l = 60 * l.height + 2

abbrev pub decreases-statements::items_until : goal.decreases-statements::items_until
decreases-statements::items_until l = 60 * l.height + 3

abbrev pub decreases-statements::braced_items : goal.decreases-statements::braced_items
decreases-statements::braced_items l = 60 * l.height + 4

abbrev pub decreases-statements::block : goal.decreases-statements::block
decreases-statements::block l = 60 * l.height + 5

abbrev pub decreases-statements::while_at : goal.decreases-statements::while_at
decreases-statements::while_at l = 60 * l.height + 5

abbrev pub decreases-statements::do_at : goal.decreases-statements::do_at
decreases-statements::do_at l = 60 * l.height + 5

abbrev pub decreases-statements::for_at : goal.decreases-statements::for_at
decreases-statements::for_at l = 60 * l.height + 5

abbrev pub decreases-statements::labeled : goal.decreases-statements::labeled
decreases-statements::labeled l = 60 * l.height + 5

abbrev pub decreases-statements::group : goal.decreases-statements::group
decreases-statements::group l = 60 * l.height + 5

abbrev pub decreases-statements::groups : goal.decreases-statements::groups
decreases-statements::groups l = 60 * l.height + 7

abbrev pub decreases-statements::braced_groups : goal.decreases-statements::braced_groups
decreases-statements::braced_groups l = 60 * l.height + 8

abbrev pub decreases-statements::switch_at : goal.decreases-statements::switch_at
decreases-statements::switch_at l = 60 * l.height + 9

abbrev pub decreases-statements::finally_at : goal.decreases-statements::finally_at
decreases-statements::finally_at l = 60 * l.height + 6

abbrev pub decreases-statements::catch_at : goal.decreases-statements::catch_at
decreases-statements::catch_at l = 60 * l.height + 6

abbrev pub decreases-statements::catches : goal.decreases-statements::catches
decreases-statements::catches l = 60 * l.height + 8

abbrev pub decreases-statements::some_catches : goal.decreases-statements::some_catches
decreases-statements::some_catches l = 60 * l.height + 8

abbrev pub decreases-statements::clauses : goal.decreases-statements::clauses
decreases-statements::clauses l = 60 * l.height + 9

abbrev pub decreases-statements::some_clauses : goal.decreases-statements::some_clauses
decreases-statements::some_clauses l = 60 * l.height + 9

abbrev pub decreases-statements::guarded : goal.decreases-statements::guarded
decreases-statements::guarded l = 60 * l.height + 10

abbrev pub decreases-statements::plain_guarded : goal.decreases-statements::plain_guarded
decreases-statements::plain_guarded l = 60 * l.height + 10

abbrev pub decreases-statements::try_with : goal.decreases-statements::try_with
decreases-statements::try_with l = 60 * l.height + 11

abbrev pub decreases-statements::try_at : goal.decreases-statements::try_at
decreases-statements::try_at l = 60 * l.height + 12

abbrev pub decreases-statements::plain : goal.decreases-statements::plain
decreases-statements::plain l = 60 * l.height + 6

abbrev pub decreases-statements::worded : goal.decreases-statements::worded
decreases-statements::worded l = 60 * l.height + 6

abbrev pub decreases-statements::arm : goal.decreases-statements::arm
decreases-statements::arm l = 60 * l.height + 5

abbrev pub decreases-statements::branch : goal.decreases-statements::branch
decreases-statements::branch l = 60 * l.height + 6

abbrev pub decreases-statements::arms : goal.decreases-statements::arms
decreases-statements::arms l = 60 * l.height + 7

abbrev pub decreases-statements::if_at : goal.decreases-statements::if_at
decreases-statements::if_at l = 60 * l.height + 8

abbrev pub decreases-statements::keyed : goal.decreases-statements::keyed
decreases-statements::keyed l = 60 * l.height + 13

abbrev pub decreases-statements::simple : goal.decreases-statements::simple
decreases-statements::simple l = 60 * l.height + 14

abbrev pub decreases-statements::other_at : goal.decreases-statements::other_at
decreases-statements::other_at l = 60 * l.height + 15

abbrev pub decreases-statements::body_at : goal.decreases-statements::body_at
decreases-statements::body_at l = 60 * l.height + 16

abbrev pub decreases-statements::case_item_at : goal.decreases-statements::case_item_at
decreases-statements::case_item_at l = 60 * l.height + 16

abbrev pub decreases-members::rest_within : goal.decreases-members::rest_within
decreases-members::rest_within l = 60 * l.height

abbrev pub decreases-members::rest_at : goal.decreases-members::rest_at
decreases-members::rest_at l = 60 * l.height + 35

abbrev pub decreases-members::braced_members : goal.decreases-members::braced_members
decreases-members::braced_members l = 60 * l.height + 34

abbrev pub decreases-members::members : goal.decreases-members::members
decreases-members::members l = 60 * l.height + 33

abbrev pub decreases-members::member_at : goal.decreases-members::member_at
decreases-members::member_at l = 60 * l.height + 30

abbrev pub decreases-members::instance_block : goal.decreases-members::instance_block
decreases-members::instance_block l = 60 * l.height + 5

abbrev pub decreases-members::static_block : goal.decreases-members::static_block
decreases-members::static_block l = 60 * l.height + 5

abbrev pub decreases-members::moded_member : goal.decreases-members::moded_member
decreases-members::moded_member l = 60 * l.height + 25

abbrev pub decreases-members::moded_item : goal.decreases-members::moded_item
decreases-members::moded_item l = 60 * l.height + 36

abbrev pub decreases-members::item_at : goal.decreases-members::item_at
decreases-members::item_at l = 60 * l.height + 37

abbrev pub invariant-statements::arms-arms : goal.invariant-statements::arms-arms
invariant-statements::arms-arms l =
    Turns (arm_run exprs l.height (levels exprs l.height)) (levels exprs l.height).other (noting l.fn.first.left (arms_run l.height l.fn.first.value l.fn.first.rest.now)) l.arms l.left l.«open» l.rest × (length l.rest < 2 ^ 32)

abbrev pub decreases-statements::arms-arms : goal.decreases-statements::arms-arms
decreases-statements::arms-arms l = length l.rest

abbrev pub decreases-members::members-many : goal.decreases-members::members-many
decreases-members::members-many l = 60 * l.height + 31

abbrev pub decreases-statements::case_items-many : goal.decreases-statements::case_items-many
decreases-statements::case_items-many l = 60 * l.height + 1

abbrev pub decreases-statements::catches-many : goal.decreases-statements::catches-many
decreases-statements::catches-many l = 60 * l.height + 7

abbrev pub decreases-statements::groups-many : goal.decreases-statements::groups-many
decreases-statements::groups-many l = 60 * l.height + 6

abbrev pub decreases-statements::items-many : goal.decreases-statements::items-many
decreases-statements::items-many l = 60 * l.height + 1

abbrev pub decreases-statements::some_catches-row : goal.decreases-statements::some_catches-row
decreases-statements::some_catches-row l = 60 * l.height + 7

abbrev pub decreases-members::member_end : goal.decreases-members::member_end
decreases-members::member_end l = 60 * l.height + 19

abbrev pub decreases-members::method_end : goal.decreases-members::method_end
decreases-members::method_end l = 60 * l.height + 18

abbrev pub decreases-members::constructor_end : goal.decreases-members::constructor_end
decreases-members::constructor_end l = 60 * l.height + 18

abbrev pub decreases-members::method_items : goal.decreases-members::method_items
decreases-members::method_items l = 60 * l.height + 17

abbrev pub decreases-members::constructor_list : goal.decreases-members::constructor_list
decreases-members::constructor_list l = 60 * l.height + 17

abbrev pub decreases-members::first_items : goal.decreases-members::first_items
decreases-members::first_items l = 60 * l.height + 16

abbrev pub decreases-members::first_ended : goal.decreases-members::first_ended
decreases-members::first_ended l = 60 * l.height + 15

abbrev pub decreases-members::first_row : goal.decreases-members::first_row
decreases-members::first_row l = 60 * l.height + 14

abbrev pub decreases-members::first_within : goal.decreases-members::first_within
decreases-members::first_within l = 60 * l.height

abbrev pub decreases-members::first_at : goal.decreases-members::first_at
decreases-members::first_at l = 60 * l.height + 39

abbrev pub decreases-members::super_or_item : goal.decreases-members::super_or_item
decreases-members::super_or_item l = 60 * l.height + 38

abbrev pub decreases-members::coded_member : goal.decreases-members::coded_member
decreases-members::coded_member l = 60 * l.height + 20

abbrev pub decreases-members::first_row-row : goal.decreases-members::first_row-row
decreases-members::first_row-row l = 60 * l.height + 13
