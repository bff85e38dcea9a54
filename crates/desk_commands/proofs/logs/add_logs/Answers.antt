use Rattle.std.proofs.Common.{◌≡◌, ◌≤◌, ◌+◌, ◌∙◌, ℕ, List, [], Err, Bor, get_or, map, length, drop, sym, refl, subst, rules, arith}
use Rattle.std.proofs.lemmas.List.{drop_all, length-map}
use Rattle.scan_model.specs.LogText.{LogFrame}
use Rattle.desk_commands.specs.CommandStops.{Follows}
use Rattle.desk_commands.specs.Work.{log_file}
use Rattle.desk_commands.specs.Logs.{IsFileTaken}
use Rattle.desk_commands.proofs.ReadLogs.{AreReadBefore, next_name, none_before, one_more, one_stops, none_left}
use Rattle.desk_commands.proofs.logs.add_logs.Goals as goal

-- what is read past the last name
abbrev no_name : Bor (List ℕ)
no_name = record { ref_ptr = (0, 0); now = [] }

pub loop-name-init : goal.loop-name-init
loop-name-init g c = record {
  told = λ held e.
      let names = map (λ name. name.now) c.args.names.now in
      let frame = g.D.DieLogs.frame c.args.die.now in
      subst (AreReadBefore held frame names names) (sym c.requires) (none_before held frame names);
  kept = refl;
  same_frame = refl;
  same = refl;
  later = omega arith;
}

pub returns-in_err-add_log-clause-stops : goal.returns-in_err-add_log-clause-stops
returns-in_err-add_log-clause-stops g c = λ held e.
    let is : c.from_residual.result ≡ Err c.in_err-add_log.field-0.0 = search rules in
    let names = map (λ name. name.now) c.args.names.now in
    let i = c.loop-name.name-index in
    let name = (get_or c.args.names.now i no_name).now in
    let stop = c.in_err-add_log.field-0.0 in
    let Stops : LogFrame → Type 0 = λ frame. Follows {X = List ℕ} (Err stop) (log_file held frame name) in
    let follows = subst Stops c.loop-name.invariant.same_frame (c.in_err-add_log.ensures.told held (c.loop-name.invariant.same ∙ e)) in
    rw is (one_stops held (g.D.DieLogs.frame c.args.die.now) names (drop i names) (drop (i + 1) names) name (next_name c.args.names.now i no_name c.loop-name-test.true)
    (g.D.DieLogs.texts c.loop-name.die) (c.loop-name.invariant.told held e) stop follows)

pub loop-name-preserved : goal.loop-name-preserved
loop-name-preserved g c = record {
  told = λ held e.
      let names = map (λ name. name.now) c.args.names.now in
      let i = c.loop-name.name-index in
      let name = (get_or c.args.names.now i no_name).now in
      let texts = g.D.DieLogs.texts c.loop-name.die in
      let new = g.D.DieLogs.texts c.add_log.new.die in
      let Taken : LogFrame → Type 0 = λ frame. IsFileTaken frame (log_file held frame name) texts new in
      let file = subst Taken c.loop-name.invariant.same_frame (c.in_ok-add_log.ensures.told held (c.loop-name.invariant.same ∙ e)) in
      one_more held (g.D.DieLogs.frame c.args.die.now) names (drop i names) (drop (i + 1) names) name (next_name c.args.names.now i no_name c.loop-name-test.true)
      texts (c.loop-name.invariant.told held e) new file;
  kept = c.add_log.ensures.kept ∙ c.loop-name.invariant.kept;
  same_frame = c.add_log.ensures.same_frame ∙ c.loop-name.invariant.same_frame;
  same = c.add_log.ensures.same ∙ c.loop-name.invariant.same;
  later = omega (arith, c.add_log.ensures.later, c.loop-name.invariant.later);
}

pub returns-clause-read : goal.returns-clause-read
returns-clause-read g c = λ held e.
    let names = map (λ name. name.now) c.args.names.now in
    let i = c.loop-name.name-index in
    let past : length names ≤ i = rw (length-map c.args.names.now (λ name. name.now)) c.loop-name-test.false in
    none_left held (g.D.DieLogs.frame c.args.die.now) names (drop i names) (g.D.DieLogs.texts c.loop-name.die) (c.loop-name.invariant.told held e) (drop_all i names past)
