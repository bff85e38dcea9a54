use Rattle.std.proofs.Common.{refl, arith}
use Rattle.csv.specs.Records.{fields_of}
use Rattle.bridge_pairs.proofs.FieldFacts.{names_of_two, field_missing, second_missing}
use Rattle.bridge_pairs.proofs.fields.NetNames.of_record.Goals as goal

pub returns-in_err-a : goal.returns-in_err-a
returns-in_err-a c = absurd (field_missing (fields_of c.args.row.now) 0 (omega arith) c.in_err-a.ensures.value refl)

pub returns-in_err-b : goal.returns-in_err-b
returns-in_err-b c = absurd (second_missing (fields_of c.args.row.now) (omega arith) c.in_err-b.ensures.value)

pub returns : goal.returns
returns c = rw (c.trim.ensures, c.trim-2.ensures) (names_of_two (fields_of c.args.row.now) c.in_ok-a.a.now c.in_ok-b.b.now (omega arith) c.in_ok-a.ensures.value c.in_ok-b.ensures.value)
