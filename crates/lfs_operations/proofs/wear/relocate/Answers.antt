use Rattle.lfs_model.proofs.Histories.{began}
use Rattle.lfs_operations.proofs.Common.{◌≡◌, ◌<◌, ◌-◌, ◌∙◌, true, length, sym, subst, arith, address_of_array, thread_pair, is_worn, is_hard_tail}
use Rattle.lfs_operations.specs.Wear.{IsNonRootFirstPair}
use Rattle.lfs_operations.proofs.MakingReported.{makes_again, makes_done}
use Rattle.lfs_operations.proofs.OntoWritten.{writes_of_pair}
use Rattle.lfs_operations.proofs.Putting.{thread_stays}
use Rattle.lfs_operations.proofs.WornRelocated.{can_go, is_below, known_there, next_joined, none_moves, pair_goes, root_goes, slots_go}
use Rattle.lfs_operations.proofs.wear.relocate.Goals as goal

pub returns-in_default-clause-done : goal.returns-in_default-clause-done
returns-in_default-clause-done g c = none_moves c.args.thread.now.kept c.args.root c.args.plan c.requires.ready c.requires.root_is

pub returns-then-not-is_free-clause-done : goal.returns-then-not-is_free-clause-done
returns-then-not-is_free-clause-done g c = none_moves c.args.thread.now.kept c.args.root c.args.plan c.requires.ready c.requires.root_is

pub returns-then-not-is_worn_pair-clause-done : goal.returns-then-not-is_worn_pair-clause-done
returns-then-not-is_worn_pair-clause-done g c = none_moves c.args.thread.now.kept c.args.root c.args.plan c.requires.ready c.requires.root_is

pub returns-else-is_non_root_first_pair-clause-done : goal.returns-else-is_non_root_first_pair-clause-done
returns-else-is_non_root_first_pair-clause-done g c = none_moves c.args.thread.now.kept c.args.root c.args.plan c.requires.ready c.requires.root_is

pub next-requires-clause-below : goal.next-requires-clause-below
next-requires-clause-below g c = is_below c.args.thread.now.kept.pairs (address_of_array c.args.plan.at) c.in-Some.index c.in-Some.ensures.there

pub is_worn_pair-requires-2-clause-below : goal.is_worn_pair-requires-2-clause-below
is_worn_pair-requires-2-clause-below g c = is_below c.args.thread.now.kept.pairs (address_of_array c.args.plan.at) c.in-Some.index c.in-Some.ensures.there

pub is_non_root_first_pair-requires-clause-below : goal.is_non_root_first_pair-requires-clause-below
is_non_root_first_pair-requires-clause-below g c = is_below c.args.thread.now.kept.pairs (address_of_array c.args.plan.at) c.in-Some.index c.in-Some.ensures.there

pub returns-else-is_non_root_first_pair-clause-device : goal.returns-else-is_non_root_first_pair-clause-device
returns-else-is_non_root_first_pair-clause-device g c = thread_stays c.args.thread.now.kept

pub returns-else-is_non_root_first_pair-clause-survives : goal.returns-else-is_non_root_first_pair-clause-survives
returns-else-is_non_root_first_pair-clause-survives g c = λ clean. began

pub relocate_pair-requires-clause-can : goal.relocate_pair-requires-clause-can
relocate_pair-requires-clause-can g c =
    can_go c.args.thread.now.kept c.in-Some.index c.in-Some-next.next (address_of_array c.args.plan.fresh) c.requires.ready c.in-Some-next.ensures.next c.in-Some-next.ensures.below (sym c.is_worn_pair.ensures ∙ c.if-is_worn_pair.true)
    (record { apart = c.requires.blocks.apart; first = c.is_free.ensures.0 c.if-not-is_free.false; second = c.is_free-else-not-is_free.ensures.0 c.if-not-is_free-2.false })

pub returns-in_err-relocate_pair-clause-errors : goal.returns-in_err-relocate_pair-clause-errors
returns-in_err-relocate_pair-clause-errors g c = makes_again c.from_residual.result c.in_err-relocate_pair.was c.from_residual.ensures.1 c.relocate_pair.ensures.errors

pub returns-in_err-relocate_pair-clause-device : goal.returns-in_err-relocate_pair-clause-device
returns-in_err-relocate_pair-clause-device g c = writes_of_pair c.args.thread.now.kept c.relocate_pair.new.thread.kept (c.in-Some-next.next - 1) (let b : c.in-Some-next.next < length c.args.thread.now.kept.pairs = c.in-Some-next.ensures.below in omega arith) c.relocate_pair.ensures.device

pub returns-then-is_worn_pair-clause-device : goal.returns-then-is_worn_pair-clause-device
returns-then-is_worn_pair-clause-device g c = writes_of_pair c.args.thread.now.kept c.relocate_pair.new.thread.kept (c.in-Some-next.next - 1) (let b : c.in-Some-next.next < length c.args.thread.now.kept.pairs = c.in-Some-next.ensures.below in omega arith) c.relocate_pair.ensures.device

pub returns-then-is_worn_pair-clause-done : goal.returns-then-is_worn_pair-clause-done
returns-then-is_worn_pair-clause-done g c =
    pair_goes c.args.thread.now.kept c.args.root c.in-Some.index c.args.plan c.requires.ready c.requires.root_is c.in-Some.ensures.there c.relocate_pair.new.thread.kept c.in-Some-next.next (next_joined (is_hard_tail (thread_pair c.args.thread.now.kept c.in-Some.index).content.tail) c.in-Some-next.next c.in-Some.index c.in-Some-next.ensures.next).1 c.in_ok-relocate_pair.ensures.moved

pub expand_superblock-requires-clause-can : goal.expand_superblock-requires-clause-can
expand_superblock-requires-clause-can g c = record {
  ready = c.requires.ready;
  root = sym c.requires.root_is ∙ c.if-root-eq0.true;
  worn = subst (λ i. is_worn c.args.thread.now.kept.disk (thread_pair c.args.thread.now.kept i) ≡ true) c.if-index-eq0.true (sym c.is_worn_pair-2.ensures ∙ c.if-not-is_worn_pair.false);
  eighth = (known_there c.has_free_blocks_for_move.result c.has_free_blocks_for_move.ensures c.if-not-has_free_blocks_for_move.false).eighth;
  free = record { apart = c.requires.blocks.apart; first = c.is_free.ensures.0 c.if-not-is_free.false; second = c.is_free-else-not-is_free.ensures.0 c.if-not-is_free-2.false };
}

pub returns-in_err-expand_superblock-clause-errors : goal.returns-in_err-expand_superblock-clause-errors
returns-in_err-expand_superblock-clause-errors g c = makes_again c.from_residual-in_err-expand_superblock.result c.in_err-expand_superblock.was c.from_residual-in_err-expand_superblock.ensures.1 c.expand_superblock.ensures.errors

pub returns-in_err-expand_superblock-clause-device : goal.returns-in_err-expand_superblock-clause-device
returns-in_err-expand_superblock-clause-device g c = writes_of_pair c.args.thread.now.kept c.expand_superblock.new.thread.kept 0 (let b : c.in-Some.index < length c.args.thread.now.kept.pairs = is_below c.args.thread.now.kept.pairs (address_of_array c.args.plan.at) c.in-Some.index c.in-Some.ensures.there in omega arith) c.expand_superblock.ensures.device

pub returns-then-root-eq0-clause-device : goal.returns-then-root-eq0-clause-device
returns-then-root-eq0-clause-device g c = writes_of_pair c.args.thread.now.kept c.expand_superblock.new.thread.kept 0 (let b : c.in-Some.index < length c.args.thread.now.kept.pairs = is_below c.args.thread.now.kept.pairs (address_of_array c.args.plan.at) c.in-Some.index c.in-Some.ensures.there in omega arith) c.expand_superblock.ensures.device

pub returns-then-root-eq0-clause-done : goal.returns-then-root-eq0-clause-done
returns-then-root-eq0-clause-done g c =
    root_goes c.args.thread.now.kept c.args.root c.in-Some.index c.args.plan c.requires.ready c.requires.root_is c.in-Some.ensures.there c.expand_superblock.new.thread.kept c.if-index-eq0.true (known_there c.has_free_blocks_for_move.result c.has_free_blocks_for_move.ensures c.if-not-has_free_blocks_for_move.false) c.in_ok-expand_superblock.ensures.expanded

pub returns-then-root-eq0-clause-errors : goal.returns-then-root-eq0-clause-errors
returns-then-root-eq0-clause-errors g c = makes_done c.args.thread.now c.expand_superblock.new.thread c.in_ok-expand_superblock.field-0 1 c.expand_superblock.result c.in_ok-expand_superblock.was c.expand_superblock.ensures.errors

pub move_all_slots-requires-clause-can : goal.move_all_slots-requires-clause-can
move_all_slots-requires-clause-can g c = record {
  ready = c.requires.ready;
  below = is_below c.args.thread.now.kept.pairs (address_of_array c.args.plan.at) c.in-Some.index c.in-Some.ensures.there;
  begins = subst (λ r. IsNonRootFirstPair c.args.thread.now.kept r c.in-Some.index) c.requires.root_is (known_there c.is_non_root_first_pair.result c.is_non_root_first_pair.ensures c.if-is_non_root_first_pair.true);
  worn = sym c.is_worn_pair-2.ensures ∙ c.if-not-is_worn_pair.false;
  eighth = (known_there c.has_free_blocks_for_move.result c.has_free_blocks_for_move.ensures c.if-not-has_free_blocks_for_move.false).eighth;
  free = record { apart = c.requires.blocks.apart; first = c.is_free.ensures.0 c.if-not-is_free.false; second = c.is_free-else-not-is_free.ensures.0 c.if-not-is_free-2.false };
}

pub returns-in_err-move_all_slots-clause-errors : goal.returns-in_err-move_all_slots-clause-errors
returns-in_err-move_all_slots-clause-errors g c = makes_again c.from_residual-in_err-move_all_slots.result c.in_err-move_all_slots.was c.from_residual-in_err-move_all_slots.ensures.1 c.move_all_slots.ensures.errors

pub returns-in_err-move_all_slots-clause-device : goal.returns-in_err-move_all_slots-clause-device
returns-in_err-move_all_slots-clause-device g c = writes_of_pair c.args.thread.now.kept c.move_all_slots.new.thread.kept c.in-Some.index (is_below c.args.thread.now.kept.pairs (address_of_array c.args.plan.at) c.in-Some.index c.in-Some.ensures.there) c.move_all_slots.ensures.device

pub returns-in_ok-move_all_slots-clause-device : goal.returns-in_ok-move_all_slots-clause-device
returns-in_ok-move_all_slots-clause-device g c = writes_of_pair c.args.thread.now.kept c.move_all_slots.new.thread.kept c.in-Some.index (is_below c.args.thread.now.kept.pairs (address_of_array c.args.plan.at) c.in-Some.index c.in-Some.ensures.there) c.move_all_slots.ensures.device

pub returns-in_ok-move_all_slots-clause-done : goal.returns-in_ok-move_all_slots-clause-done
returns-in_ok-move_all_slots-clause-done g c =
    slots_go c.args.thread.now.kept c.args.root c.in-Some.index c.args.plan c.requires.ready c.requires.root_is c.in-Some.ensures.there c.move_all_slots.new.thread.kept (known_there c.has_free_blocks_for_move.result c.has_free_blocks_for_move.ensures c.if-not-has_free_blocks_for_move.false) c.in_ok-move_all_slots.ensures.unloaded
