-- One name that opens all of the rules, so that an example computes: whoever writes `unfolding rules` may say `refl` of any job. No definition of a rule.
use Rattle.mem.specs.Slice.{splice}
use Rattle.mem.specs.Loops.{run, over, steps, each, times}
use Rattle.mem.specs.Tab.{tab}
use Rattle.mem.specs.Packed.{packed}
use Rattle.rules.specs.Lists.{next, prev, apart, when, or_else, down, without, swap_remove, count}
use Rattle.rules.specs.Plane.{D, fan, area, is_left, is_left_on, collinear, vequal, squared, intersect_prop, within, between, intersect}
use Rattle.rules.specs.Diagonal.{left_by, in_cone, at_ends, shares_end, hits, stops, is_blocked, is_diagonal}
use Rattle.rules.specs.Ears.{index_of, is_marked, with_mark, indices, point_at, remark, mark_from, mark_all, key_of, is_cuttable, key_end, key_from, beats, better, try_ear, least_ear, find_ear, triangle_at, remark_gap, cut_ear, cut_all, triangulate}
use Rattle.rules.specs.Weld.{is_same, highest_below, number_or, number_of, flagged, add_vertex, weld_one, weld_all, bucket}
use Rattle.rules.specs.Mesh.{place_of}
use Rattle.rules.specs.Merge.{is_along, is_opposite, is_equal, sides_at, or_sides, shared_by, shared_side, fits, turns_left, may_join, pair_at, merge_value, greater, best_of_row, best_pair, past_side, joined, join_pair, merge_loop, merge_all}
use Rattle.rules.specs.Removal.{holds, untouched_side, side_into, untouched, take_one, taken_out, dropped, dropped_in, dropped_side, polygons_left, sides_left, brought_by, fit_of, walk_by, walk_one, walk_once, walk_start, walk, held_once, other_end, neighbours_in, neighbours, met_once, can_remove, is_closed, hole_of, places_of, hole_triangle, fill_hole, remove_vertex, goes, remove_from, remove_all}
use Rattle.rules.specs.Links.{each_side, record_side, is_free, newest, joined_to, join_at, join_side, edges_of, set_link, store_edge, no_links, links_of}
use Rattle.rules.specs.Portals.{portal_of, portal_at, portals_in, portals}
use Rattle.rules.specs.Job.{vertex_at, flag_at, contour_vertices, contour_flags, sum_over, count_all, count_v, count_t}
use Rattle.rules.specs.Replies.{refusal_number, refusal_second, writes_nothing, number_of_reply, second_of, third_of}
use Rattle.rules.specs.Checks.{work_words, least_lengths, lengths_of, or_next, refuse_if, refuse_at, check_nvp, counts_agree, check_counts, is_high, first_high, first_bad_flag, check_v, first_short, check}
use Rattle.rules.specs.Build.{contour_triangle, add_contour, add_from, add_all, linked, cleared, after_check, outcome, reply_of, answer}
use Rattle.rules.specs.Exits.{wiped, only_wiped, vertex_words, padded, corner_words, filled, exit_of, exits, vertex_of, up_to_none, stored_polygon, stored_links, decoded}
use Rattle.rules.specs.Units.{size_in, per_inch, millimetres, thousandths, zero_float, no_place, header_of}
use Rattle.rules.specs.Lines.{ascii, is_empty, is_same_text, on_first, parts, whole_lines, lines_of, is_digit, are_digits, is_decimal, value_from, decimal_in, whole_from, signed_in, with_number, numbers_in, numbers_of, digits_of, decimal, signed, cell, signed_cell, number_line}
use Rattle.rules.specs.Sheet.{unit_name, mm_name, in_name, cell_name, nvp_name, grid_name, contour_name, v_name, refused_name, mesh_name, p_name, n_name, and_then, line_at, need, need_unit, too_many, with_contour, with_vertex, contour_numbers, vertex_numbers, read_body, no_contours, cell_numbers, nvp_numbers, grid_numbers, read_heading, read_sheet, outcome_of, refused_text, unit_line, mesh_line, vertex_line, polygon_lines, vertices_text, polygons_text, mesh_text, built_text, read_text, text_by, text_of}
use Rattle.rules.specs.Areas.{sum_of, points_of, polygon_area, mesh_area, stored_area, contour_areas, job_area, area_taken, spare_corners, spares_of, corners_taken}
use Rattle.rules.specs.Boxes.{before, boxes_apart, are_apart}
use Rattle.rules.specs.Outlines.{turned, arc}

unfoldable pub rules : Unit {0}
unfolding splice run over steps each times tab packed next prev apart when or_else down without swap_remove count D fan area is_left is_left_on collinear vequal squared intersect_prop within between intersect left_by in_cone at_ends shares_end hits stops is_blocked is_diagonal index_of is_marked with_mark indices point_at remark mark_from mark_all key_of is_cuttable key_end key_from beats better try_ear least_ear find_ear triangle_at remark_gap cut_ear cut_all triangulate is_same highest_below number_or number_of flagged add_vertex weld_one weld_all bucket place_of is_along is_opposite is_equal sides_at or_sides shared_by shared_side fits turns_left may_join pair_at merge_value greater best_of_row best_pair past_side joined join_pair merge_loop merge_all holds untouched_side side_into untouched take_one taken_out dropped dropped_in dropped_side polygons_left sides_left brought_by fit_of walk_by walk_one walk_once walk_start walk held_once other_end neighbours_in neighbours met_once can_remove is_closed hole_of places_of hole_triangle fill_hole remove_vertex goes remove_from remove_all each_side record_side is_free newest joined_to join_at join_side edges_of set_link store_edge no_links links_of portal_of portal_at portals_in portals vertex_at flag_at contour_vertices contour_flags sum_over count_all count_v count_t refusal_number refusal_second writes_nothing number_of_reply second_of third_of work_words least_lengths lengths_of or_next refuse_if refuse_at check_nvp counts_agree check_counts is_high first_high first_bad_flag check_v first_short check contour_triangle add_contour add_from add_all linked cleared after_check outcome reply_of answer wiped only_wiped vertex_words padded corner_words filled exit_of exits vertex_of up_to_none stored_polygon stored_links decoded per_inch millimetres thousandths ascii is_empty is_same_text on_first parts whole_lines lines_of is_digit are_digits is_decimal value_from decimal_in whole_from signed_in with_number numbers_in numbers_of digits_of decimal signed cell signed_cell number_line unit_name mm_name in_name cell_name nvp_name grid_name contour_name v_name refused_name mesh_name p_name n_name and_then line_at need need_unit too_many with_contour with_vertex contour_numbers vertex_numbers read_body no_contours cell_numbers nvp_numbers grid_numbers read_heading read_sheet zero_float no_place size_in header_of outcome_of refused_text unit_line mesh_line vertex_line polygon_lines vertices_text polygons_text mesh_text built_text read_text text_by text_of sum_of points_of polygon_area mesh_area stored_area contour_areas job_area area_taken spare_corners spares_of corners_taken before boxes_apart are_apart turned arc
rules = tt
