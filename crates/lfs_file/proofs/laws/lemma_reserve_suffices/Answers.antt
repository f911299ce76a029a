use Rattle.lfs_file.proofs.Forms.{held_covers}
use Rattle.lfs_file.proofs.Rooms.{kept_large, room_to_end, room_to_truncate, room_to_write}
use Rattle.lfs_file.proofs.laws.lemma_reserve_suffices.Goals as goal

pub returns-clause-covers : goal.returns-clause-covers
returns-clause-covers c = λ profile block_size form w kept. held_covers profile block_size form w kept

pub returns-clause-large : goal.returns-clause-large
returns-clause-large c = λ profile block_size form w kept. kept_large profile block_size form w kept

pub returns-clause-write : goal.returns-clause-write
returns-clause-write c = λ profile block_size form w byte bytes used all kept room many. room_to_write profile block_size form w byte bytes used all kept room many

pub returns-clause-truncate : goal.returns-clause-truncate
returns-clause-truncate c = λ profile block_size form w size used all kept before after needs. room_to_truncate profile block_size form w size used all kept before after needs

pub returns-clause-end : goal.returns-clause-end
returns-clause-end c = λ profile block_size form w used all kept room. room_to_end profile block_size form w used all kept room
