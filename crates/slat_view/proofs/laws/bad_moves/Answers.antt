use Rattle.std.proofs.Common.{arith}
use Rattle.slat_view.proofs.Fitting.{moves}
use Rattle.slat_view.proofs.laws.bad_moves.Goals as goal

pub returns : goal.returns
returns c F P d n k lt fresh apart = moves F P d k fresh apart 0 n (omega arith) (omega arith)
