use Rattle.std.proofs.Common.{ℕ, zero, suc, ◌≡◌, ◌≤◌, ◌<◌, true, refl, arith}
use Rattle.lfs_model.proofs.Common.{is_unprogrammed_byte, after_read}
use Rattle.lfs_model.proofs.calls.bytes_are_unprogrammed_after_erase.Goals as goal

from_there : (k : ℕ) → 2 ≤ k → k < 4 → is_unprogrammed_byte after_read 0 k ≡ true
from_there zero low high = absurd (omega arith)
from_there (suc zero) low high = absurd (omega arith)
from_there (suc (suc zero)) low high = refl
from_there (suc (suc (suc zero))) low high = refl
from_there (suc (suc (suc (suc k)))) low high = absurd (omega arith)

pub returns-clause-from_there : goal.returns-clause-from_there
returns-clause-from_there c = from_there

pub returns-clause-not_before : goal.returns-clause-not_before
returns-clause-not_before c = λ h. absurd (let k = h 1 (omega arith) (omega arith) in cc)
