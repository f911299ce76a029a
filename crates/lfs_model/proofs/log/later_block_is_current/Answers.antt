use Rattle.std.proofs.Common.{refl}
use Rattle.lfs_model.proofs.log.later_block_is_current.Goals as goal

pub returns-clause-only_second : goal.returns-clause-only_second
returns-clause-only_second c = λ a b p q. rw (p, q) refl

pub returns-clause-only_first : goal.returns-clause-only_first
returns-clause-only_first c = λ a b p q. rw (p, q) refl

pub returns-clause-neither : goal.returns-clause-neither
returns-clause-neither c = λ a b p q. rw (p, q) refl

pub returns-clause-second : goal.returns-clause-second
returns-clause-second c = λ a b p q r. rw (p, q, r) refl

pub returns-clause-first : goal.returns-clause-first
returns-clause-first c = λ a b p q r. rw (p, q, r) refl
