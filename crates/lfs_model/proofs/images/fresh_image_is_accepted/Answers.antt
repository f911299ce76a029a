use Rattle.lfs_model.proofs.Fresh as fresh
use Rattle.lfs_model.proofs.images.fresh_image_is_accepted.Goals as goal

pub returns-clause-accepted : goal.returns-clause-accepted
returns-clause-accepted c = fresh.accepted

pub returns-clause-writable : goal.returns-clause-writable
returns-clause-writable c = fresh.writable

pub returns-clause-shows : goal.returns-clause-shows
returns-clause-shows c = fresh.shows
