use Rattle.std.proofs.Common.{subst}
use Rattle.lfs_model.specs.crash.Premises.{MeetsPowerLossPremises}
use Rattle.lfs_fs.specs.SessionView.{system_state}
use Rattle.lfs_fs.proofs.Users.{cleanly}
use Rattle.saved_files.proofs.files.memory_erases_cleanly.Goals as goal

pub returns : goal.returns
returns c = λ from lived. cleanly from (system_state c.args.session.now) lived (subst MeetsPowerLossPremises c.device.ensures.history (c.lemma_ram_premises.ensures c.device.result.now).premises)
