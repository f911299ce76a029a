use Rattle.std.proofs.Common.{refl, ap}
use Rattle.lfs_model.proofs.Common.{All-nil, Disk, CallConforms, HasEitherTree, with_blocks}
use Rattle.lfs_model.proofs.Standing.{stands_since, one_device, device_survives_loss}
use Rattle.lfs_model.proofs.losses.disk_after_last_call_is_power_loss_outcome.Goals as goal

pub returns-clause-left : goal.returns-clause-left
returns-clause-left c = λ disk old new first last before after called then now conforms survives cleanly fails here.
    stands_since {P = λ blocks. HasEitherTree (with_blocks blocks disk) before after} first last called then now conforms (survives cleanly) cleanly fails here

pub returns-clause-called : goal.returns-clause-called
returns-clause-called c = one_device

pub returns-clause-survives_loss : goal.returns-clause-survives_loss
returns-clause-survives_loss c = λ from to op agrees device survives. device_survives_loss from to op agrees device survives

pub returns-clause-silent : goal.returns-clause-silent
returns-clause-silent c = record { stays = λ silent. refl; same = refl; newest = λ e older is. absurd (cc); conforms = All-nil CallConforms }

pub returns-clause-lost : goal.returns-clause-lost
returns-clause-lost c = λ h. absurd (let k = ap (λ (disk : Disk). disk.blocks) (h.stays refl) in cc)
