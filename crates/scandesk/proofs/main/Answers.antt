use denote.Param.Send.{sendable}
use Rattle.scandesk.proofs.Sent.{file_keeper_send}
use Rattle.scandesk.proofs.main.Goals as goal

pub run-status-requires-send-C-K : goal.run-status-requires-send-C-K
run-status-requires-send-C-K g c κs = search (file_keeper_send, sendable) depth 20
