use Rattle.std.proofs.Common.{◌≡◌, ◌++◌, take, drop}
use Rattle.scan_model.specs.ScanText.{stands_again}
use Rattle.text_parts.specs.Views.{nows, before_repeat}
use Rattle.text_parts.proofs.names.Names.add_new.Given as goal

abbrev pub invariant-loop-name : goal.invariant-loop-name
invariant-loop-name l = record {
  added : l.self ≡ l.fn.self ++ nows (take l.name-index l.names);
  rest : stands_again l.self (nows (drop l.name-index l.names)) ≡ stands_again l.fn.self (nows l.names);
  before : before_repeat l.fn.self (nows l.names) ≡ nows (take l.name-index l.names) ++ before_repeat l.self (nows (drop l.name-index l.names));
}
