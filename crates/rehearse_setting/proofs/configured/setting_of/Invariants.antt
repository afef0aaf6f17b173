use Rattle.std.proofs.Common.{◌≡◌, length, All}
use Rattle.rehearse_plan.specs.Files.{HoldsFiles}
use Rattle.rehearse_setting.specs.Setting.{Opens, words_of}
use Rattle.rehearse_setting.proofs.configured.setting_of.Given as goal

abbrev pub invariant-loop : goal.invariant-loop
invariant-loop l = record {
  count : length l.routes.items ≡ l.counter;
  files : HoldsFiles l.files;
  opens : All (Opens (words_of l.fn.plan.count l.fn.plan.bays)) l.routes.items;
}
