use Rattle.std.proofs.Common.{subst, sym}
use Rattle.lfs_tree.proofs.Common.{err_from_is_err_and, tree_removing, disk_tree, WritesThreadAndFree, PowerLossLeavesEither, CanRemoveFound, HasRemovedEntry, RemovalKeepsUnrelatedBlocks, answered, passed}
use Rattle.lfs_tree.proofs.Carried.{read_is}
use Rattle.lfs_tree.proofs.CarryFreed.{ok_then}
use Rattle.lfs_tree.proofs.CarryGone.{can_go, entry_on, entry_to_remove, remove_does}
use Rattle.lfs_tree.proofs.Operated.{only_read_change, works_reported}
use Rattle.lfs_tree.proofs.removals_at.remove_at.Goals as goal

pub remove_found_entry-requires : goal.remove_found_entry-requires
remove_found_entry-requires g c =
    let t = c.args.thread.now in
    let mid = c.find_at_path.new.thread in
    let found = c.in_ok-target.target.found in
    record {
      works = c.find_at_path.ensures.reading.works;
      can = (
          let entry = entry_on t.kept c.args.path.now found (entry_to_remove t.kept c.args.path.now c.requires.can) c.in_ok-target.ensures.target.leads in (
            c.args.path.now,
            subst (λ k. CanRemoveFound k c.args.path.now found) (sym (read_is t.kept mid.kept c.find_at_path.ensures.reading.only))
                (can_go t c.args.root c.requires.rests c.args.path.now c.lemma_block_facts.ensures.large c.lemma_block_facts.ensures.bytes c.requires.can mid.kept.history found entry),
          )
          );
    }

pub returns-in_err-target : goal.returns-in_err-target
returns-in_err-target g c =
    let p = err_from_is_err_and c.from_residual.result c.from_residual.ensures.1 in
    only_read_change c.args.thread.now c.args.root c.requires.rests c.find_at_path.new.thread _ _ c.from_residual.result p.0 p.1
    (passed _ _ c.find_at_path.result c.from_residual.result _ p.0 c.in_err-target.was p.1 p.2 c.find_at_path.ensures.reading)

pub returns : goal.returns
returns g c =
    let t = c.args.thread.now in
    let mid = c.find_at_path.new.thread in
    let new = c.remove_found_entry.new.thread in
    let path = c.args.path.now in
    let found = c.in_ok-target.target.found in
    let entry = entry_on t.kept path found (entry_to_remove t.kept path c.requires.can) c.in_ok-target.ensures.target.leads in
    let can = can_go t c.args.root c.requires.rests path c.lemma_block_facts.ensures.large c.lemma_block_facts.ensures.bytes c.requires.can mid.kept.history found entry in
    let read = answered t mid c.find_at_path.result c.in_ok-target.target c.in_ok-target.was c.find_at_path.ensures.reading in
    let is = read_is t.kept mid.kept read.only in
    let e = c.remove_found_entry.ensures in
    let old = subst (λ k. CanRemoveFound k path found) (sym is) can in
    let gone = ok_then c.remove_found_entry.result _ _ (λ h. subst (λ k. HasRemovedEntry k path new.kept) is (h path old)) e.gone in
    let spared = ok_then c.remove_found_entry.result _ _ (λ h. subst (λ k. RemovalKeepsUnrelatedBlocks k path new.kept) is (h path old)) e.alone in
    remove_does t c.args.root c.requires.rests path mid.kept.history new read.only.reads (subst (λ k. WritesThreadAndFree k new.kept) is e.device) c.remove_found_entry.result c.lemma_path_bytes.ensures.0 c.lemma_path_bytes.ensures.1
    read.same gone spared (record { errors = e.errors.errors; fault = e.errors.fault; no_fault = e.errors.no_fault }) (works_reported new c.remove_found_entry.result e.errors.failed)
    (subst (λ k. PowerLossLeavesEither k new.kept (tree_removing path (disk_tree k.disk k.pairs))) is (e.survives path old))
