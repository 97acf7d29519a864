-- The worked list, by one computation: a lesser bound would be passed by it.
use mathlib.Core.Path.{refl}
use Rattle.rules.specs.Choice.{any, sum, first}
use Rattle.rules.specs.Core.{advance}
use Rattle.rules.specs.Plan.{deepest}
use Rattle.ports.specs.Mask.{shows, mask_up_to}
use Rattle.ports.specs.Ports.{with_port, put_port, at_or_after, any_up_to}
use Rattle.ports.specs.Search.{first_of, lowest_from}
use Rattle.plan_tree.specs.Tables.{put_node, put_hub, put_ports, put_root}
use Rattle.plan.specs.Tables.{put_figures, plan_of}
use Rattle.cells.specs.Layout.{put_time}
use Rattle.cells.specs.Decode.{core_of}
use Rattle.cells.specs.Fresh.{pointed, fresh_cells}
use Rattle.cells.specs.Masks.{mend, mend_bit, mend_class, put_request, grant_node}
use Rattle.cells.specs.Waits.{put_since, turn_cells, turn_nodes, turn_all, record_since}
use Rattle.cells.specs.Build.{clear_masks, show_port, show_request, show_nodes, show_hub, show_hubs, build_masks}
use Rattle.cells.specs.Frames.{start_cells, start_nodes, start_frame, advance_by}
use Rattle.cells.specs.Instants.{sought_by, resting_due, due_by}
use Rattle.cells.specs.Turns.{down_by, take_by, up_by, hand_up_by, found_by, look_by, after_look, walk_by, nearer_by, nearest_by, walked, settled, choose_by}
use Rattle.cells.specs.Calls.{rows_by, row_by, change_by, event_by, busy_until, resting, grant_by, rest_by, handled_by, step_due, step_by, step_answer, event_left, perform_by}
use Rattle.cells.specs.Run.{made_by}
use Rattle.cells.specs.Looks.{walk_by_looks, nearest_by_looks, walked_looks, handled_looks, step_due_looks, step_looks, looks_by}
use Rattle.cells.specs.Written.{mend_writes, mend_bit_writes, mend_class_writes, put_request_writes, grant_node_writes, clear_writes, show_nodes_writes, show_hub_writes, show_hubs_writes, build_writes, advance_writes, change_writes, event_writes, grant_writes, handled_writes, step_due_writes, step_writes, call_writes}
use Rattle.refinement.specs.WrittenRuns.{each, figures, AsWorked}

pub as_worked : AsWorked
unfolding
    any sum first advance deepest shows mask_up_to with_port put_port at_or_after any_up_to first_of lowest_from
    put_node put_hub put_ports put_root put_figures plan_of put_time core_of pointed fresh_cells
    put_since turn_cells turn_nodes turn_all record_since
    mend mend_bit mend_class put_request grant_node clear_masks show_port show_request show_nodes show_hub show_hubs build_masks start_cells start_nodes start_frame advance_by
    sought_by resting_due due_by
    down_by take_by up_by hand_up_by found_by look_by after_look walk_by nearer_by nearest_by walked settled choose_by
    rows_by row_by change_by event_by busy_until resting grant_by rest_by handled_by step_due step_by step_answer event_left perform_by made_by
    walk_by_looks nearest_by_looks walked_looks handled_looks step_due_looks step_looks looks_by
    mend_writes mend_bit_writes mend_class_writes put_request_writes grant_node_writes clear_writes show_nodes_writes show_hub_writes show_hubs_writes build_writes
    advance_writes change_writes event_writes grant_writes handled_writes step_due_writes step_writes call_writes each figures
as_worked = refl
