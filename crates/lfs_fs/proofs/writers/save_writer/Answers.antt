use Rattle.std.proofs.Common.{◌∙◌, sym}
use Rattle.lfs_fs.proofs.Writing.{can_store, has_saved}
use Rattle.lfs_fs.proofs.StoppedCalls.{store_left}
use Rattle.lfs_fs.proofs.writers.save_writer.Goals as goal

pub commit_writer_contents-requires : goal.commit_writer_contents-requires
commit_writer_contents-requires g c = can_store c.args.tree.now c.args.writer.now c.in-Some.unsaved _ c.requires (sym c.take.ensures.value ∙ c.in-Some.is) c.lend.ensures c.lemma_reserve_suffices.ensures.end

pub returns-clause-saved : goal.returns-clause-saved
returns-clause-saved g c = rw c.take.ensures.after (has_saved c.args.tree.now c.commit_writer_contents.new.self c.args.writer.now c.in-Some.unsaved _ c.requires (sym c.take.ensures.value ∙ c.in-Some.is) c.lend.ensures c.in_ok-commit_writer_contents.ensures.stored)

pub returns-in_err-commit_writer_contents-clause-survives : goal.returns-in_err-commit_writer_contents-clause-survives
returns-in_err-commit_writer_contents-clause-survives g c = store_left c.args.tree.now c.commit_writer_contents.new.self c.args.writer.now c.in-Some.unsaved _ (sym c.take.ensures.value ∙ c.in-Some.is) c.lend.ensures c.commit_writer_contents.ensures.survives

pub returns-clause-survives : goal.returns-clause-survives
returns-clause-survives g c = store_left c.args.tree.now c.commit_writer_contents.new.self c.args.writer.now c.in-Some.unsaved _ (sym c.take.ensures.value ∙ c.in-Some.is) c.lend.ensures c.commit_writer_contents.ensures.survives
