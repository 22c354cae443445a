-- the definitions at work; no clause needs them
mod Examples
-- the value of each limit, which the definitions take from the code
mod Limits
-- `edited` of each edit, `undo` and `slot_edit_is_path_edit`: what an edit does by slot and at a path, and what stands
-- there after it
pub mod Edits
-- `Tree::new`, `node_mut`, `path_of`, `built`, `copy_node` and `Node::copy`: nodes and trees that are made, lent and
-- found
pub mod Trees
-- `fill`, `fill_assign`, `insert` and `take`, `put_keeps_tree`: nodes that come into the place of others
pub mod Puts
-- `put_part` and `set_phrase`, `set_part_keeps_tree`, `part_keeps_tree`: phrases put into parts
pub mod Parts
-- `add_hole` and `drop_hole`, `add_keeps_tree`, `drop_keeps_tree`: holes that come into lists, or leave them
pub mod Lists
-- `revert`, and `can_revert` of each edit: earlier trees that come back
pub mod Reversals
-- `room_is_not_shown`, `edits_ignore_room`, and what every edit says without room
pub mod Room
-- `checks_ignore_room_and_elision`
mod CheckedContents
-- `items_are_nodes`
mod NodeItems
-- `put_listing`, `listing_splits_in_lines`: lines, and the bytes of a listing
pub mod Listings
