use Rattle.std.proofs.Common.{subst}
use Rattle.lfs_tree.proofs.Common.{Path, ArePredecessorsChangedOrDropped, CanRemoveDirectory, IsDirectoryRemoved, CanRemoveFound, CanRemoveFile, HasRemovedEntry, RemovalKeepsUnrelatedBlocks}
use Rattle.lfs_tree.proofs.CarryFreed.{ok_then}
use Rattle.lfs_tree.proofs.CarryGone.{directory_gone, directory_writes, removal_survives}
use Rattle.lfs_tree.proofs.CarrySpared.{directory_spares}
use Rattle.lfs_tree.proofs.removals_at.remove_found_entry.Goals as goal

pub returns-in-File-clause-gone : goal.returns-in-File-clause-gone
returns-in-File-clause-gone g c =
    let t = c.args.thread.now.kept in
    let new = c.remove_with_list.new.thread.kept in
    let f = c.in-File in
    ok_then c.remove_with_list.result ((path : Path) → CanRemoveFile t path f.parent f.slot f.contents → HasRemovedEntry t path new) ((path : Path) → CanRemoveFound t path c.args.found → HasRemovedEntry t path new)
    (λ gives path can. gives path (subst (λ k. CanRemoveFound t path k) c.in-File.is can)) c.remove_with_list.ensures.gone

pub returns-in-Directory-clause-gone : goal.returns-in-Directory-clause-gone
returns-in-Directory-clause-gone g c =
    let t = c.args.thread.now.kept in
    let new = c.remove_directory.new.thread.kept in
    let f = c.in-Directory in
    ok_then c.remove_directory.result ((take : CanRemoveDirectory t f.slot.pair f.slot.id f.parent f.first) → IsDirectoryRemoved t new take.can.path take.can.name) ((path : Path) → CanRemoveFound t path c.args.found → HasRemovedEntry t path new)
    (λ gives path can. let k = subst (λ k. CanRemoveFound t path k) c.in-Directory.is can in directory_gone t new path k.take.can.path k.take.can.name k.is (gives k.take)) c.remove_directory.ensures.is_removed

pub returns-in-Directory-clause-device : goal.returns-in-Directory-clause-device
returns-in-Directory-clause-device g c =
    let t = c.args.thread.now.kept in
    let f = c.in-Directory in
    let k = subst (λ k. CanRemoveFound t c.requires.can.0 k) c.in-Directory.is c.requires.can.1 in
    directory_writes t c.remove_directory.new.thread.kept f.slot.pair f.slot.id f.parent f.first k.take c.remove_directory.ensures.device

pub returns-in-File-clause-survives : goal.returns-in-File-clause-survives
returns-in-File-clause-survives g c path can = c.remove_with_list.ensures.survives path (subst (λ k. CanRemoveFound c.args.thread.now.kept path k) c.in-File.is can)

pub returns-in-Directory-clause-survives : goal.returns-in-Directory-clause-survives
returns-in-Directory-clause-survives g c path can =
    let k = subst (λ k. CanRemoveFound c.args.thread.now.kept path k) c.in-Directory.is can in
    removal_survives c.args.thread.now.kept c.remove_directory.new.thread.kept path k.take.can.path k.take.can.name k.is (c.remove_directory.ensures.survives k.take)

pub returns-in-File-clause-alone : goal.returns-in-File-clause-alone
returns-in-File-clause-alone g c =
    let t = c.args.thread.now.kept in
    let new = c.remove_with_list.new.thread.kept in
    let f = c.in-File in
    ok_then c.remove_with_list.result ((path : Path) → CanRemoveFile t path f.parent f.slot f.contents → RemovalKeepsUnrelatedBlocks t path new) ((path : Path) → CanRemoveFound t path c.args.found → RemovalKeepsUnrelatedBlocks t path new)
    (λ gives path can. gives path (subst (λ k. CanRemoveFound t path k) c.in-File.is can)) c.remove_with_list.ensures.alone

pub returns-in-Directory-clause-alone : goal.returns-in-Directory-clause-alone
returns-in-Directory-clause-alone g c =
    let t = c.args.thread.now.kept in
    let new = c.remove_directory.new.thread.kept in
    let f = c.in-Directory in
    ok_then c.remove_directory.result (ArePredecessorsChangedOrDropped t f.slot.pair f.parent f.first new) ((path : Path) → CanRemoveFound t path c.args.found → RemovalKeepsUnrelatedBlocks t path new)
    (λ alters path can. let k = subst (λ k. CanRemoveFound t path k) c.in-Directory.is can in directory_spares t new path f.slot.pair f.slot.id f.parent f.first k.take k.is alters c.remove_directory.ensures.device) c.remove_directory.ensures.alters
