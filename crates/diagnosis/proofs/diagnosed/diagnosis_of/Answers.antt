use Rattle.diagnosis.specs.Subjects.{subject_case}
use Rattle.diagnosis.proofs.Cases.{logs_stand}
use Rattle.diagnosis.proofs.diagnosed.diagnosis_of.Goals as goal

pub joined_of-requires : goal.joined_of-requires
joined_of-requires g c = record { stand = logs_stand (subject_case c.args.subject.now) c.requires.subject.case }
