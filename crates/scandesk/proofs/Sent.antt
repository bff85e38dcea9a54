-- A keeper of a database file may be sent to a thread: each part of its store may. (Written out, since `search` breaks off at a store.)
use denote.RattleType.{RattleType}
use denote.Param.Send.{IsSend, sendable, struct_send, recorded_send}
use denote.Struct.Declared.{shape}
use Rattle.std.proofs.Crossing as plain
use Rattle.keeper_sqlite.proofs.keeper.SqliteKeeper.TheSendSync as keeper_laws
use Rattle.sqlite_store.specs.contracts.store.FileStore as store
use Rattle.sqlite_store.proofs.store.FileStore.TheSendSync as store_laws
use Rattle.sqlite_disk.specs.contracts.modelled.Modelled as modelled
use Rattle.sqlite_disk.proofs.modelled.Modelled.TheSendSync as modelled_laws
use Rattle.sqlite_std_file.specs.contracts.host.Host as host
use Rattle.sqlite_disk.specs.contracts.start.Unknown as unknown
use Rattle.sqlite_std_file.specs.contracts.host.HostCalls.TheImpl as host_calls
use Rattle.sqlite_disk.specs.contracts.start.UnknownStart.TheImpl as unknown_start
use Rattle.sqlite_disk.specs.contracts.modelled.ModelledDisk.TheImpl as file_disk
use Rattle.sqlite_store.specs.contracts.store.FileStoreStore.TheImpl as file_store
use Rattle.scandesk.specs.contracts.file_cabinet.FileKeeper as kept

host_send : IsSend host.the_row
host_send = search (sendable, plain.crosses) depth 60

abbrev file_row : RattleType
file_row = modelled.the_row host.the_row unknown.the_row host_calls.ghosts unknown_start.ghosts

file_send : IsSend file_row
file_send = modelled_laws.the_send host.the_row unknown.the_row host_calls.ghosts unknown_start.ghosts host_send

pub file_keeper_send : IsSend kept.the_row
file_keeper_send =
    let disk = file_disk.ghosts host.the_row unknown.the_row host_calls.ghosts file_disk.no_dict unknown_start.ghosts file_disk.no_dict file_disk.no_dict in
    let keeper = keeper_laws.the_field_send (store.the_row file_row disk) (file_store.ghosts file_row disk file_store.no_dict) (store_laws.the_send file_row disk file_send) in
    recorded_send kept.the_field.row _ _ kept.the_type.to_one (struct_send (shape kept.the_type) (keeper, (search sendable, tt)))
