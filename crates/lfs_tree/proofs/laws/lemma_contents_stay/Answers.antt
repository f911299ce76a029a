use Rattle.lfs_tree.proofs.WritersStay.{contents_stay, flying_of}
use Rattle.lfs_tree.proofs.laws.lemma_contents_stay.Goals as goal

pub returns-clause-over : goal.returns-clause-over
returns-clause-over c = λ old new op path contents over sound carried away. (contents_stay old new op path contents over sound carried away).0

pub returns-clause-bytes : goal.returns-clause-bytes
returns-clause-bytes c = λ old new op path contents over sound carried away. (contents_stay old new op path contents over sound carried away).1

pub returns-clause-flying : goal.returns-clause-flying
returns-clause-flying c = λ t path contents over. flying_of t path contents over
