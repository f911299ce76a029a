use Rattle.std.proofs.Common.{ℕ, ◌≡◌, drop, length, refl, sym, ap, ◌∙◌, subst, arith}
use Rattle.lfs_file.proofs.Common.{err_from_is_err_and, Blocks, BlockState, BlockStates, Free, Used, AreListBlocks, blocks_to_head, skip_list_block_count, length_back, KeepsOtherStates, SetsState, IsSharedCount}
use Rattle.lfs_device.specs.declared.geometry.Geometry.{Geometry}
use Rattle.lfs_file.proofs.ContentsCalled.{quiet, read_on, reported_as, reported_on}
use Rattle.lfs_file.proofs.Ends.{base_chain}
use Rattle.lfs_file.proofs.Others.{others_left, others_more}
use Rattle.lfs_file.proofs.SharedFronts.{apart_is, settles_apart, shared_once}
use Rattle.lfs_file.proofs.named_lists.settle_list.Goals as goal

-- what is said of the blocks that were read is said of those from before, by the number that the list has
puts_in : (state : BlockState) (old new : BlockStates) (d e : Blocks) (head n m from : ℕ) → e ≡ d → n ≡ m → SetsState state old new (drop from (blocks_to_head e n head)) → SetsState state old new (drop from (blocks_to_head d m head))
puts_in state old new d e head n m from same count puts =
    subst (λ k. SetsState state old new (drop from (blocks_to_head d k head))) count
    (subst (λ (x : Blocks). SetsState state old new (drop from (blocks_to_head x n head))) same puts)

keeps_in : (old new : BlockStates) (d e : Blocks) (head n m : ℕ) → e ≡ d → n ≡ m → KeepsOtherStates old new (blocks_to_head e n head) → KeepsOtherStates old new (blocks_to_head d m head)
keeps_in old new d e head n m same count keeps =
    subst (λ k. KeepsOtherStates old new (blocks_to_head d k head)) count
    (subst (λ (x : Blocks). KeepsOtherStates old new (blocks_to_head x n head)) same keeps)

shared_in : (d : Blocks) (head one one_is other two two_is n : ℕ) → one ≡ one_is → two ≡ two_is → IsSharedCount (blocks_to_head d one head) (blocks_to_head d two other) n → IsSharedCount (blocks_to_head d one_is head) (blocks_to_head d two_is other) n
shared_in d head one one_is other two two_is n first second is =
    subst (λ k. IsSharedCount (blocks_to_head d k head) (blocks_to_head d two_is other) n) first
    (subst (λ k. IsSharedCount (blocks_to_head d one head) (blocks_to_head d k other) n) second is)

counted_in : (made now : Geometry) (size n : ℕ) → made ≡ now → n ≡ skip_list_block_count made.block_size size → n ≡ skip_list_block_count now.block_size size
counted_in made now size n same is = is ∙ ap (λ (k : Geometry). skip_list_block_count k.block_size size) same

pub shared_block_count-requires-clause-chain : goal.shared_block_count-requires-clause-chain
shared_block_count-requires-clause-chain g c = base_chain _ _ _ _ _ _ c.geometry-block_size.ensures c.blocks_for-gone.ensures c.requires.gone

pub shared_block_count-requires-clause-other : goal.shared_block_count-requires-clause-other
shared_block_count-requires-clause-other g c = base_chain _ _ _ _ _ _ c.geometry-block_size.ensures c.blocks_for-kept.ensures c.requires.kept

pub set_list_from-requires-clause-chain : goal.set_list_from-requires-clause-chain
set_list_from-requires-clause-chain g c =
    subst (λ (d : Blocks). AreListBlocks d c.blocks_for-gone.result c.args.before.head) (sym c.shared_block_count.ensures.reading.device.same)
    (base_chain (g.D.BlockDevice.blocks c.args.dev.now) _ _ c.args.before.head c.args.before.size c.blocks_for-gone.result c.geometry-block_size.ensures c.blocks_for-gone.ensures c.requires.gone)

pub set_list_from-requires-clause-map : goal.set_list_from-requires-clause-map
set_list_from-requires-clause-map g c = c.requires.count ∙ sym (ap length c.shared_block_count.ensures.reading.device.same)

pub set_list_from-requires-clause-within : goal.set_list_from-requires-clause-within
set_list_from-requires-clause-within g c =
    omega (arith, c.in_ok-shared.ensures.shared.within.0, length_back (g.D.BlockDevice.blocks c.args.dev.now) c.blocks_for-gone.result c.args.before.head)

pub set_list_from-requires-2-clause-chain : goal.set_list_from-requires-2-clause-chain
set_list_from-requires-2-clause-chain g c =
    subst (λ (d : Blocks). AreListBlocks d c.blocks_for-kept.result c.args.stored.head) (sym (c.set_list_from.ensures.reading.device.same ∙ c.shared_block_count.ensures.reading.device.same))
    (base_chain (g.D.BlockDevice.blocks c.args.dev.now) _ _ c.args.stored.head c.args.stored.size c.blocks_for-kept.result c.geometry-block_size.ensures c.blocks_for-kept.ensures c.requires.kept)

pub set_list_from-requires-2-clause-map : goal.set_list_from-requires-2-clause-map
set_list_from-requires-2-clause-map g c =
    c.in_ok-set_list_from.ensures.put.count ∙ c.requires.count ∙ sym (ap length (c.set_list_from.ensures.reading.device.same ∙ c.shared_block_count.ensures.reading.device.same))

pub set_list_from-requires-2-clause-within : goal.set_list_from-requires-2-clause-within
set_list_from-requires-2-clause-within g c =
    omega (arith, c.in_ok-shared.ensures.shared.within.1, length_back (g.D.BlockDevice.blocks c.args.dev.now) c.blocks_for-kept.result c.args.stored.head)

pub returns-in_err-set_list_from-clause-reading : goal.returns-in_err-set_list_from-clause-reading
returns-in_err-set_list_from-clause-reading g c =
    let p = err_from_is_err_and c.from_residual-in_err-set_list_from.result c.from_residual-in_err-set_list_from.ensures.1 in
    let read = c.in_err-set_list_from.ensures.reading in
    rw (p.1, p.2) (record {
      device = read_on g.D.BlockDevice c.shared_block_count.ensures.reading.device read.device;
      reports = record { faults = reported_on g.D.BlockDevice (quiet g.D.BlockDevice c.in_ok-shared.ensures.reading.reports.faults) (reported_as g.D.BlockDevice read.reports.faults); errors = read.reports.errors };
    })

pub returns-in_err-set_list_from-2-clause-reading : goal.returns-in_err-set_list_from-2-clause-reading
returns-in_err-set_list_from-2-clause-reading g c =
    let p = err_from_is_err_and c.from_residual-in_err-set_list_from-2.result c.from_residual-in_err-set_list_from-2.ensures.1 in
    let read = c.in_err-set_list_from-2.ensures.reading in
    rw (p.1, p.2) (record {
      device = read_on g.D.BlockDevice (read_on g.D.BlockDevice c.shared_block_count.ensures.reading.device c.set_list_from.ensures.reading.device) read.device;
      reports = record {
        faults = reported_on g.D.BlockDevice (quiet g.D.BlockDevice c.in_ok-set_list_from.ensures.reading.reports.faults ∙ quiet g.D.BlockDevice c.in_ok-shared.ensures.reading.reports.faults) (reported_as g.D.BlockDevice read.reports.faults);
        errors = read.reports.errors;
      };
    })

pub returns-clause-reading : goal.returns-clause-reading
returns-clause-reading g c =
    let last = c.in_ok-set_list_from-2.ensures.reading in
    record {
      device = read_on g.D.BlockDevice (read_on g.D.BlockDevice c.shared_block_count.ensures.reading.device c.set_list_from.ensures.reading.device) last.device;
      reports = record {
        faults = record { fault = λ is. absurd (cc); no_fault = λ _. quiet g.D.BlockDevice last.reports.faults ∙ quiet g.D.BlockDevice c.in_ok-set_list_from.ensures.reading.reports.faults ∙ quiet g.D.BlockDevice c.in_ok-shared.ensures.reading.reports.faults };
        errors = tt;
      };
    }

pub returns-clause-settled : goal.returns-clause-settled
returns-clause-settled g c =
    let d : Blocks = g.D.BlockDevice.blocks c.args.dev.now in
    let now : Geometry = g.D.BlockDevice.geometry c.args.dev.now in
    let n : ℕ = c.in_ok-shared.shared in
    let gone = counted_in c.geometry-block_size.result now c.args.before.size c.blocks_for-gone.result c.geometry-block_size.ensures c.blocks_for-gone.ensures in
    let kept = counted_in c.geometry-block_size.result now c.args.stored.size c.blocks_for-kept.result c.geometry-block_size.ensures c.blocks_for-kept.ensures in
    let chain = base_chain d now now c.args.before.head c.args.before.size (skip_list_block_count now.block_size c.args.before.size) refl refl c.requires.gone in
    settles_apart c.args.map.now c.set_list_from.new.map c.set_list_from-2.new.map (blocks_to_head d (skip_list_block_count now.block_size c.args.before.size) c.args.before.head) (blocks_to_head d (skip_list_block_count now.block_size c.args.stored.size) c.args.stored.head)
    n chain.distinct (shared_in d c.args.before.head _ _ c.args.stored.head _ _ n gone kept c.in_ok-shared.ensures.shared).same c.requires.shared
    (puts_in Free c.args.map.now c.set_list_from.new.map d _ c.args.before.head _ _ n c.shared_block_count.ensures.reading.device.same gone c.in_ok-set_list_from.ensures.put)
    (puts_in Used c.set_list_from.new.map c.set_list_from-2.new.map d _ c.args.stored.head _ _ n (c.set_list_from.ensures.reading.device.same ∙ c.shared_block_count.ensures.reading.device.same) kept c.in_ok-set_list_from-2.ensures.put)

pub returns-clause-few : goal.returns-clause-few
returns-clause-few g c = λ n is.
    let d : Blocks = g.D.BlockDevice.blocks c.args.dev.now in
    let now : Geometry = g.D.BlockDevice.geometry c.args.dev.now in
    let m : ℕ = c.in_ok-shared.shared in
    let gone = counted_in c.geometry-block_size.result now c.args.before.size c.blocks_for-gone.result c.geometry-block_size.ensures c.blocks_for-gone.ensures in
    let kept = counted_in c.geometry-block_size.result now c.args.stored.size c.blocks_for-kept.result c.geometry-block_size.ensures c.blocks_for-kept.ensures in
    let same = shared_once (blocks_to_head d (skip_list_block_count now.block_size c.args.before.size) c.args.before.head) (blocks_to_head d (skip_list_block_count now.block_size c.args.stored.size) c.args.stored.head)
    n m is (shared_in d c.args.before.head _ _ c.args.stored.head _ _ m gone kept c.in_ok-shared.ensures.shared) in
    let one = c.in_ok-shared.ensures.few in
    let two = c.in_ok-set_list_from.ensures.reading.few in
    let three = c.in_ok-set_list_from-2.ensures.reading.few in
    let here = apart_is d c.blocks_for-gone.result c.args.before.head c.blocks_for-kept.result c.args.stored.head m in
    let there = apart_is d (skip_list_block_count now.block_size c.args.before.size) c.args.before.head (skip_list_block_count now.block_size c.args.stored.size) c.args.stored.head n in
    omega arith

pub returns-in_err-set_list_from-clause-others : goal.returns-in_err-set_list_from-clause-others
returns-in_err-set_list_from-clause-others g c =
    let d : Blocks = g.D.BlockDevice.blocks c.args.dev.now in
    let now : Geometry = g.D.BlockDevice.geometry c.args.dev.now in
    let gone = counted_in c.geometry-block_size.result now c.args.before.size c.blocks_for-gone.result c.geometry-block_size.ensures c.blocks_for-gone.ensures in
    others_left _ _ (blocks_to_head d (skip_list_block_count now.block_size c.args.before.size) c.args.before.head) (blocks_to_head d (skip_list_block_count now.block_size c.args.stored.size) c.args.stored.head)
    (keeps_in c.args.map.now c.set_list_from.new.map d _ c.args.before.head _ _ c.shared_block_count.ensures.reading.device.same gone c.set_list_from.ensures.others)

pub returns-in_err-set_list_from-2-clause-others : goal.returns-in_err-set_list_from-2-clause-others
returns-in_err-set_list_from-2-clause-others g c =
    let d : Blocks = g.D.BlockDevice.blocks c.args.dev.now in
    let now : Geometry = g.D.BlockDevice.geometry c.args.dev.now in
    let gone = counted_in c.geometry-block_size.result now c.args.before.size c.blocks_for-gone.result c.geometry-block_size.ensures c.blocks_for-gone.ensures in
    let kept = counted_in c.geometry-block_size.result now c.args.stored.size c.blocks_for-kept.result c.geometry-block_size.ensures c.blocks_for-kept.ensures in
    others_more _ _ _ (blocks_to_head d (skip_list_block_count now.block_size c.args.before.size) c.args.before.head) (blocks_to_head d (skip_list_block_count now.block_size c.args.stored.size) c.args.stored.head)
    (keeps_in c.args.map.now c.set_list_from.new.map d _ c.args.before.head _ _ c.shared_block_count.ensures.reading.device.same gone c.set_list_from.ensures.others)
    (keeps_in c.set_list_from.new.map c.set_list_from-2.new.map d _ c.args.stored.head _ _ (c.set_list_from.ensures.reading.device.same ∙ c.shared_block_count.ensures.reading.device.same) kept c.set_list_from-2.ensures.others)

pub returns-clause-others : goal.returns-clause-others
returns-clause-others g c =
    let d : Blocks = g.D.BlockDevice.blocks c.args.dev.now in
    let now : Geometry = g.D.BlockDevice.geometry c.args.dev.now in
    let gone = counted_in c.geometry-block_size.result now c.args.before.size c.blocks_for-gone.result c.geometry-block_size.ensures c.blocks_for-gone.ensures in
    let kept = counted_in c.geometry-block_size.result now c.args.stored.size c.blocks_for-kept.result c.geometry-block_size.ensures c.blocks_for-kept.ensures in
    others_more _ _ _ (blocks_to_head d (skip_list_block_count now.block_size c.args.before.size) c.args.before.head) (blocks_to_head d (skip_list_block_count now.block_size c.args.stored.size) c.args.stored.head)
    (keeps_in c.args.map.now c.set_list_from.new.map d _ c.args.before.head _ _ c.shared_block_count.ensures.reading.device.same gone c.set_list_from.ensures.others)
    (keeps_in c.set_list_from.new.map c.set_list_from-2.new.map d _ c.args.stored.head _ _ (c.set_list_from.ensures.reading.device.same ∙ c.shared_block_count.ensures.reading.device.same) kept c.set_list_from-2.ensures.others)
