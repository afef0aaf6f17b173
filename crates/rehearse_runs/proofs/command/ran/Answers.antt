use Rattle.std.proofs.Common.{subst}
use Rattle.std.proofs.lemmas.Result.{IfOk-weaker}
use Rattle.front_plants.specs.MemoryPlant.{plant_tells}
use Rattle.front_plants.specs.MemorySinks.{told_openings}
use Rattle.shared_runs.specs.Setup.{options_of}
use Rattle.rehearse_plan.specs.Words.{asked_by}
use Rattle.rehearse_runs.specs.Handles.{mem_handles}
use Rattle.rehearse_runs.specs.Served.{WasServed}
use Rattle.serve_runs.specs.Served.{RunServed}
use Rattle.rehearse_runs.proofs.command.ran.Goals as goal

pub rehearse-requires-clause-options : goal.rehearse-requires-clause-options
rehearse-requires-clause-options g c κs within =
    c.can_run.ensures.options c.in_ok-config.field-0.config.words.listen c.if-not-can_run.false

pub returns-clause-served : goal.returns-clause-served
returns-clause-served g c =
    let T = g.row.R.Denot in
    let plan = c.args.plan in
    let setting = c.in_ok-config.field-0 in
    let words = setting.config.words in
    let before = plant_tells c.in_ok-plant.plant in
    let after = plant_tells c.rehearse.new.plant in
    let options = options_of words words.listen in
    IfOk-weaker c.rehearse.result
    (RunServed mem_handles T c.settings_of-settings.result.0 options told_openings before after setting.routes.items)
    (WasServed T plan.bays (asked_by plan)) (λ ended run. record {
      config = setting.config;
      config_is = c.in_ok-config.ensures.config;
      tables = setting.routes.items;
      opens = c.in_ok-config.ensures.opening;
      before = before;
      after = after;
      unused = c.in_ok-plant.ensures.unused;
      sent = c.in_ok-plant.ensures.sent;
      run = subst (λ s. RunServed mem_handles T s options told_openings before after setting.routes.items ended)
          c.settings_of-settings.ensures.settings run;
    }) c.rehearse.ensures.run
