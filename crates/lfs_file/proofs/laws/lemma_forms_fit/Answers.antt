use Rattle.lfs_file.proofs.Forms.{kept_opened_inline, kept_opened_list, kept_synced, kept_truncated, kept_written}
use Rattle.lfs_file.proofs.Rooms.{kept_moved}
use Rattle.lfs_file.proofs.laws.lemma_forms_fit.Goals as goal

pub returns-clause-opened_inline : goal.returns-clause-opened_inline
returns-clause-opened_inline c = λ profile block_size path flags bytes few. kept_opened_inline profile block_size path flags bytes few

pub returns-clause-opened_list : goal.returns-clause-opened_list
returns-clause-opened_list c = λ profile block_size path flags bytes. kept_opened_list profile block_size path flags bytes

pub returns-clause-moved : goal.returns-clause-moved
returns-clause-moved c = λ profile block_size place form w kept. kept_moved profile block_size place form w kept

pub returns-clause-written : goal.returns-clause-written
returns-clause-written c = λ profile block_size form w byte bytes kept. kept_written profile block_size form w byte bytes kept

pub returns-clause-truncated : goal.returns-clause-truncated
returns-clause-truncated c = λ profile block_size form w size kept. kept_truncated profile block_size form w size kept

pub returns-clause-synced : goal.returns-clause-synced
returns-clause-synced c = λ profile block_size form w kept. kept_synced profile block_size form w kept
