use Rattle.std.proofs.Common.{ℕ, ◌+◌, List, Result, Ok, Err, ap₂, length, sym, subst}
use Rattle.std.specs.Prelude.{OnOk}
use Rattle.lfs_file.specs.declared.known.IndexCache.{IndexCache}
use Rattle.lfs_file.specs.Known.{ReadsKnownList}
use Rattle.lfs_thread.proofs.Common.{disk_of_blocks, CallEvent, IsCacheCurrent, IsKeptOnDisk, ThreadView}
use Rattle.lfs_thread.proofs.Changing.{kept_read}
use Rattle.lfs_thread.proofs.thread.Thread.read_known_list.Goals as goal

pub invariant_of-self : goal.invariant_of-self
invariant_of-self g c works =
    let e = c.read_part_cached.ensures in (
      subst (λ d. IsKeptOnDisk d (g.D.BlockDevice.history c.read_part_cached.new.device) c.self.inside.parts.pairs.items c.self.inside.parts.map) (sym (ap₂ disk_of_blocks e.reading.device.geometry e.reading.device.same))
          (kept_read _ _ _ _ c.self.inside.parts.pairs.items c.self.inside.parts.map e.reading.device.reads (c.self.invariant works).0),
      e.current,
    )

pub invariant_of-self-2 : goal.invariant_of-self-2
invariant_of-self-2 g c works =
    let e = c.read_at.ensures.reading in (
      subst (λ d. IsKeptOnDisk d (g.D.BlockDevice.history c.read_at.new.dev) c.self.inside.parts.pairs.items c.self.inside.parts.map) (sym (ap₂ disk_of_blocks e.device.geometry e.device.same))
          (kept_read _ _ _ _ c.self.inside.parts.pairs.items c.self.inside.parts.map e.device.reads (c.self.invariant works).0),
      subst (λ bs. IsCacheCurrent bs c.self.inside.parts.cache) (sym e.device.same) (c.self.invariant works).1,
    )

-- the end of a read says nothing of the cached blocks
as_noted : (block_size size position count end : ℕ) (known later : IndexCache) (old new : List CallEvent) → ReadsKnownList block_size size position count (record { indices = known.indices; blocks = known.blocks; end = end }) later old new → ReadsKnownList block_size size position count known later old new
as_noted block_size size position count end known later old new reads first last off there is_first is_last = let few = reads first last off there is_first is_last in record { now = few.now; few = few.few; near = few.near }

on_ok : {X E P : Type 0} (r : Result X E) → P → OnOk r P
on_ok (Ok x) p = p
on_ok (Err e) p = tt

noted_if_ok : {X E : Type 0} (r : Result X E) (block_size size position count end : ℕ) (known later : IndexCache) (old new : List CallEvent) → OnOk r (ReadsKnownList block_size size position count (record { indices = known.indices; blocks = known.blocks; end = end }) later old new) → OnOk r (ReadsKnownList block_size size position count known later old new)
noted_if_ok (Ok x) block_size size position count end known later old new reads = as_noted block_size size position count end known later old new reads
noted_if_ok (Err e) block_size size position count end known later old new reads = tt

pub returns-then-goes_on-clause-few : goal.returns-then-goes_on-clause-few
returns-then-goes_on-clause-few g c =
    let noted : IndexCache = record { indices = c.args.known.now.indices; blocks = c.args.known.now.blocks; end = c.args.pos + c.min.result } in
    subst (λ (t : ThreadView). OnOk c.read_part_cached.result (ReadsKnownList t.kept.disk.block_size c.args.size c.args.pos (length c.args.buf.now) c.args.known.now noted t.kept.history (g.D.BlockDevice.history c.read_part_cached.new.device))) c.self.view_is
    (on_ok c.read_part_cached.result (as_noted _ _ _ _ _ c.args.known.now noted _ _ (c.in-Some.ensures.few (g.D.BlockDevice.history c.self.inside.parts.device) (g.D.BlockDevice.history c.read_part_cached.new.device) c.read_part_cached.ensures.few.few)))

pub returns-clause-few : goal.returns-clause-few
returns-clause-few g c =
    subst (λ (t : ThreadView). OnOk c.read_at.result (ReadsKnownList t.kept.disk.block_size c.args.size c.args.pos (length c.args.buf.now) c.args.known.now c.read_at.new.self t.kept.history (g.D.BlockDevice.history c.read_at.new.dev))) c.self.view_is
    (noted_if_ok c.read_at.result _ _ _ _ _ c.args.known.now c.read_at.new.self _ _ c.read_at.ensures.few)
