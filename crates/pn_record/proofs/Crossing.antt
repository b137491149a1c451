-- Keys, cells, names, and tables of records and of positions may go to another thread, and may be shared.
use denote.Param.Send.{IsSend, IsSync, sendable}
use Rattle.std.proofs.Crossing.{crosses}
use Rattle.pn_join.specs.contracts.marks.name.Name as name
use Rattle.pn_join.specs.contracts.marks.name.NameOrd as name_ord
use Rattle.pn_join.specs.contracts.marks.name.NameDup as name_dup
use Rattle.pn_join.specs.contracts.marks.name.NameEq as name_eq
use Rattle.pn_join.specs.contracts.marks.name.NamePartialEq as name_equal
use Rattle.pn_join.specs.contracts.marks.name.NamePartialOrd as name_order
use Rattle.pn_join.specs.contracts.marks.Highest as highest
use Rattle.pn_join.specs.contracts.marks.HighestDup as highest_dup
use Rattle.pn_join.specs.contracts.marks.HighestJoin as highest_join
use Rattle.pn_join.specs.contracts.table.Table as table
use Rattle.pn_record.specs.contracts.content.Content as content
use Rattle.pn_record.specs.contracts.held_contents.HeldContents as held
use Rattle.pn_record.specs.contracts.cell.Cell as cell
use Rattle.pn_record.specs.contracts.cell.CellDup as cell_dup
use Rattle.pn_record.specs.contracts.cell.CellJoin as cell_join
use Rattle.pn_record.specs.contracts.key.Key as key
use Rattle.pn_record.specs.contracts.key.KeyOrd as key_ord
use Rattle.pn_record.specs.contracts.key.KeyDup as key_dup
use Rattle.pn_record.specs.contracts.key.KeyEq as key_eq
use Rattle.pn_record.specs.contracts.key.KeyPartialEq as key_equal
use Rattle.pn_record.specs.contracts.key.KeyPartialOrd as key_order

pub name_send : IsSend name.the_row
name_send = search (sendable, crosses) depth 40

pub name_sync : IsSync name.the_row
name_sync = search (sendable, crosses) depth 40

highest_send : IsSend highest.the_row
highest_send = search (sendable, crosses) depth 40

highest_sync : IsSync highest.the_row
highest_sync = search (sendable, crosses) depth 40

pub content_send : IsSend content.the_row
content_send = search (sendable, crosses) depth 40

pub content_sync : IsSync content.the_row
content_sync = search (sendable, crosses) depth 40

held_send : IsSend held.the_row
held_send = search (sendable, crosses, content_send) depth 40

held_sync : IsSync held.the_row
held_sync = search (sendable, crosses, content_sync) depth 40

pub cell_send : IsSend cell.the_row
cell_send = search (sendable, crosses, held_send, held_sync) depth 40

pub cell_sync : IsSync cell.the_row
cell_sync = search (sendable, crosses, held_send, held_sync) depth 40

pub key_send : IsSend key.the_row
key_send = search (sendable, crosses) depth 40

pub key_sync : IsSync key.the_row
key_sync = search (sendable, crosses) depth 40

-- Tables of records, and of positions.

pub record_table_send : IsSend (table.the_row key.the_row cell.the_row key_ord.TheImpl.ghosts key_eq.TheImpl.ghosts key_equal.TheImpl.ghosts key_order.TheImpl.ghosts key_dup.TheImpl.ghosts cell_join.TheImpl.ghosts cell_dup.TheImpl.ghosts)
record_table_send = search (sendable, crosses, key_send, key_sync, cell_send, cell_sync) depth 60 fits 20000

pub record_table_sync : IsSync (table.the_row key.the_row cell.the_row key_ord.TheImpl.ghosts key_eq.TheImpl.ghosts key_equal.TheImpl.ghosts key_order.TheImpl.ghosts key_dup.TheImpl.ghosts cell_join.TheImpl.ghosts cell_dup.TheImpl.ghosts)
record_table_sync = search (sendable, crosses, key_send, key_sync, cell_send, cell_sync) depth 60 fits 20000

pub mark_table_send : IsSend (table.the_row name.the_row highest.the_row name_ord.TheImpl.ghosts name_eq.TheImpl.ghosts name_equal.TheImpl.ghosts name_order.TheImpl.ghosts name_dup.TheImpl.ghosts highest_join.TheImpl.ghosts highest_dup.TheImpl.ghosts)
mark_table_send = search (sendable, crosses, name_send, name_sync, highest_send, highest_sync) depth 60 fits 20000

pub mark_table_sync : IsSync (table.the_row name.the_row highest.the_row name_ord.TheImpl.ghosts name_eq.TheImpl.ghosts name_equal.TheImpl.ghosts name_order.TheImpl.ghosts name_dup.TheImpl.ghosts highest_join.TheImpl.ghosts highest_dup.TheImpl.ghosts)
mark_table_sync = search (sendable, crosses, name_send, name_sync, highest_send, highest_sync) depth 60 fits 20000
