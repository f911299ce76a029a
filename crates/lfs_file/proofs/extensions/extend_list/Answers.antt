use Rattle.std.proofs.Common.{ℕ, ◌≡◌, ◌+◌, ◌-◌, ◌≤◌, List, length, sym, ap, ◌∙◌, subst, arith, length-append}
use Rattle.lfs_file.proofs.Common.{slice_get_within, BlockStates, IsFree, Free, skip_list_block_count, lasting_blocks, unwritten_block, growing_size_with, TakesFreeBlocks}
use Rattle.lfs_device.specs.declared.geometry.Geometry.{Geometry}
use Rattle.lfs_file.proofs.Pushed.{length-kept, leaves_apart, grows, marks}
use Rattle.lfs_file.proofs.extensions.extend_list.Goals as goal

pub take_blocks-requires : goal.take_blocks-requires
take_blocks-requires g c =
    let few = c.needed-count.ensures.count in
    let within = c.needed-count.ensures.within in
    let room = c.requires.room in
    let kept = length-kept (g.D.BlockDevice.blocks c.args.dev.now) c.args.list.now in
    omega arith

-- the blocks that were taken, as they are handed in
handed : (map later : BlockStates) (taken shown : List ℕ) → shown ≡ taken → TakesFreeBlocks map later taken → TakesFreeBlocks map later shown
handed map later taken shown is takes = subst (TakesFreeBlocks map later) (sym is) takes

pub push-requires : goal.push-requires
push-requires g c =
    let takes = handed _ _ _ c.as_slice.result.now c.as_slice.ensures.value c.in_ok-blocks.ensures.taken in
    let marked = c.requires.marked in
    record {
      stands = record { growing = c.requires.growing; geometry = c.requires.geometry };
      some = c.requires.some;
      room = c.requires.small;
      count = ap length c.as_slice.ensures.value ∙ c.in_ok-blocks.ensures.count ∙ c.needed-count.ensures.count;
      in_device = λ k x l.
          let within = slice_get_within c.args.map.now _ Free (takes.free k x l) in
          omega (arith, within, (g.met.D.BlockDevice.shape c.args.dev.now).count, marked.count);
      distinct = takes.distinct;
      apart = λ k x l j y m e. marked.kept j y m (subst (IsFree c.args.map.now) (sym e) (takes.free k x l));
    }

pub returns-in_err-push-clause-device : goal.returns-in_err-push-clause-device
returns-in_err-push-clause-device g c =
    leaves_apart g.D.BlockDevice _ _ (unwritten_block c.args.list.now) c.as_slice.result.now (handed _ _ _ c.as_slice.result.now c.as_slice.ensures.value c.in_ok-blocks.ensures.taken) c.push.ensures.device

pub returns-clause-device : goal.returns-clause-device
returns-clause-device g c =
    leaves_apart g.D.BlockDevice _ _ (unwritten_block c.args.list.now) c.as_slice.result.now (handed _ _ _ c.as_slice.result.now c.as_slice.ensures.value c.in_ok-blocks.ensures.taken) c.push.ensures.device

-- as many blocks as the list's size needs
many : (geometry now : Geometry) (size total all kept few added : ℕ) → now ≡ geometry → size ≡ total → all ≡ kept + added → added ≡ few → few ≡ skip_list_block_count geometry.block_size total - kept → kept ≤ skip_list_block_count geometry.block_size total
    → all ≡ skip_list_block_count now.block_size size
many geometry now size total all kept few added same is sum taken count within =
    let e : skip_list_block_count now.block_size size ≡ skip_list_block_count geometry.block_size total = ap (λ (k : Geometry). skip_list_block_count k.block_size size) same ∙ ap (skip_list_block_count geometry.block_size) is in
    omega arith

pub returns-clause-extended : goal.returns-clause-extended
returns-clause-extended g c =
    let d = g.D.BlockDevice.blocks c.args.dev.now in
    let was = c.args.list.now in
    let now = c.push.new.self in
    let pushed = c.in_ok-push.ensures.pushed.grown in
    let waits = c.in_ok-push.ensures.pushed.waits in
    let takes = handed _ _ _ c.as_slice.result.now c.as_slice.ensures.value c.in_ok-blocks.ensures.taken in
    let kept = length-kept d was in
    let within = c.needed-count.ensures.within in
    let count = c.needed-count.ensures.count in
    let len = ap length c.as_slice.ensures.value in
    let all = ap length pushed.kept in
    let sum = length-append (lasting_blocks d was) c.as_slice.result.now in
    let taken = c.in_ok-blocks.ensures.count in
    let size : growing_size_with now.geometry.block_size now ≡ growing_size_with c.args.list.now.geometry.block_size was + length c.args.bytes.now =
    ap (λ (k : Geometry). growing_size_with k.block_size now) pushed.geometry ∙ pushed.sum in
    record {
      geometry = pushed.geometry;
      growing = pushed.growing;
      content = pushed.content;
      sum = size;
      own = record {
        own = pushed.blocks ∙ sym pushed.kept;
        many = many c.args.list.now.geometry now.geometry _ (growing_size_with c.args.list.now.geometry.block_size was + length c.args.bytes.now) _ (length (lasting_blocks d was)) c.needed-count.result (length c.as_slice.result.now)
            pushed.geometry size (omega arith) (omega arith) (omega arith) (omega arith);
        listed = waits.listed;
      };
      grown = grows _ _ _ _ _ _ c.as_slice.result.now takes c.requires.marked waits.pending pushed.kept (let e = ap length c.as_slice.ensures.value in let f = c.in_ok-blocks.ensures.flying in omega arith);
      marked = marks _ _ _ _ _ _ c.as_slice.result.now takes c.requires.marked waits.pending pushed.kept c.push.ensures.device.others.count;
    }
