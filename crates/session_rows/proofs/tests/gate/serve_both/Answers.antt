use denote.Param.Send.{sendable}
use Rattle.std.proofs.Crossing as plain
use Rattle.shared_desk.proofs.Shared.{desk_sync}
use Rattle.session_rows.proofs.tests.gate.serve_both.Goals as goal

pub for_each_mut-requires-sync-F : goal.for_each_mut-requires-sync-F
for_each_mut-requires-sync-F g c κs within = search (desk_sync, plain.sync, plain.crosses, sendable) depth 20
