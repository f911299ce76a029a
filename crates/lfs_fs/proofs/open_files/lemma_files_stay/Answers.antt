use Rattle.lfs_fs.proofs.FilesStay.{are_left, few_in_flight}
use Rattle.lfs_fs.proofs.open_files.lemma_files_stay.Goals as goal

pub returns-clause-few : goal.returns-clause-few
returns-clause-few c = λ t files ready. few_in_flight c.lemma_contents_stay.ensures.flying c.lemma_reserve_suffices.ensures.covers t files ready

pub returns-clause-stay : goal.returns-clause-stay
returns-clause-stay c = λ old new op files ready spares keeps carried. are_left c.lemma_contents_stay.ensures.over c.lemma_contents_stay.ensures.bytes c.lemma_few_blocks.ensures old new op ready.sound carried files ready spares keeps
