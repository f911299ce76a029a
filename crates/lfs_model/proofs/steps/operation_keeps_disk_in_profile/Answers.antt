use Rattle.std.proofs.Common.{◌≡◌, refl, ap}
use Rattle.lfs_model.proofs.KeptFile.{left_unreached, size_of_pairs}
use Rattle.lfs_model.proofs.WrittenFile.{synced_completed}
use Rattle.lfs_model.proofs.steps.operation_keeps_disk_in_profile.Goals as goal

pub returns-clause-fills : goal.returns-clause-fills
returns-clause-fills c = λ calls h. absurd (let k : 2 ≡ 0 = ap size_of_pairs (h.fills refl).0 in cc)

pub returns-clause-recovered : goal.returns-clause-recovered
returns-clause-recovered c = λ calls new h. left_unreached (h.recovered refl)

pub returns-clause-stays : goal.returns-clause-stays
returns-clause-stays c = λ calls new h. left_unreached (h.stays synced_completed.recovered)

pub returns-clause-profile : goal.returns-clause-profile
returns-clause-profile c = λ calls new h. (h.profile synced_completed.writable).no_empty_pair.1.0 refl refl
