use Rattle.std.proofs.Common.{◌≡◌, Some, ap, sym, subst, ◌∙◌, ◌<◌, List, ℕ, length, arith}
use Rattle.lfs_thread.proofs.Common.{ElementsAreBytes, cached_bytes, current_block, ThreadView, disk_of_device, IsContentLog, cached_log, thread_pair}
use Rattle.lfs_thread.proofs.Changing.{at_there}
use Rattle.lfs_thread.proofs.CachedPair.{active_is, active_there, block_there, end_there, holder_there, last_there}
use Rattle.lfs_thread.proofs.thread.Thread.lend.Goals as goal

pub with_known_end-requires-clause-end : goal.with_known_end-requires-clause-end
with_known_end-requires-clause-end g c =
    let works = ap (λ (v : ThreadView). v.failed) c.self.view_is ∙ c.requires.works in
    let below = subst (λ (v : ThreadView). c.args.index < length v.kept.pairs) (sym c.self.view_is) c.requires.below in
    let disk = disk_of_device g.D.BlockDevice c.self.inside.parts.device in
    let a = at_there disk c.self.inside.parts.pairs.items c.args.index c.index-pair.result.now below c.index-pair.ensures in
    end_there disk (g.D.BlockDevice.history c.self.inside.parts.device) c.self.inside.parts.pairs.items c.self.inside.parts.map c.args.index c.index-pair.result.now a (c.self.invariant works).0
    c.in-Some.block.now ((c.self.invariant works).1 c.index-pair.result.now.active c.in-Some.block.now (sym c.in-Some.ensures))

pub with_known_end-requires-clause-last : goal.with_known_end-requires-clause-last
with_known_end-requires-clause-last g c =
    let works = ap (λ (v : ThreadView). v.failed) c.self.view_is ∙ c.requires.works in
    let below = subst (λ (v : ThreadView). c.args.index < length v.kept.pairs) (sym c.self.view_is) c.requires.below in
    let disk = disk_of_device g.D.BlockDevice c.self.inside.parts.device in
    let a = at_there disk c.self.inside.parts.pairs.items c.args.index c.index-pair.result.now below c.index-pair.ensures in
    last_there disk (g.D.BlockDevice.history c.self.inside.parts.device) c.self.inside.parts.pairs.items c.self.inside.parts.map c.args.index c.index-pair.result.now a (c.self.invariant works).0
    c.in-Some.block.now ((c.self.invariant works).1 c.index-pair.result.now.active c.in-Some.block.now (sym c.in-Some.ensures))

pub returns-in-Some-clause-lent : goal.returns-in-Some-clause-lent
returns-in-Some-clause-lent g c =
    let works = ap (λ (v : ThreadView). v.failed) c.self.view_is ∙ c.requires.works in
    let below = subst (λ (v : ThreadView). c.args.index < length v.kept.pairs) (sym c.self.view_is) c.requires.below in
    let disk = disk_of_device g.D.BlockDevice c.self.inside.parts.device in
    let a = at_there disk c.self.inside.parts.pairs.items c.args.index c.index-pair.result.now below c.index-pair.ensures in
    ap Some c.with_known_end.ensures ∙ c.in-Some.ensures ∙ ap (cached_bytes c.self.inside.parts.cache) (active_is disk (g.D.BlockDevice.history c.self.inside.parts.device) c.self.inside.parts.pairs.items c.self.inside.parts.map c.args.index c.index-pair.result.now a (c.self.invariant works).0)
    ∙ ap (λ (v : ThreadView). cached_log v c.args.index) c.self.view_is

pub returns-in-None-clause-lent : goal.returns-in-None-clause-lent
returns-in-None-clause-lent g c =
    let works = ap (λ (v : ThreadView). v.failed) c.self.view_is ∙ c.requires.works in
    let below = subst (λ (v : ThreadView). c.args.index < length v.kept.pairs) (sym c.self.view_is) c.requires.below in
    let disk = disk_of_device g.D.BlockDevice c.self.inside.parts.device in
    let a = at_there disk c.self.inside.parts.pairs.items c.args.index c.index-pair.result.now below c.index-pair.ensures in
    c.in-None.ensures ∙ ap (cached_bytes c.self.inside.parts.cache) (active_is disk (g.D.BlockDevice.history c.self.inside.parts.device) c.self.inside.parts.pairs.items c.self.inside.parts.map c.args.index c.index-pair.result.now a (c.self.invariant works).0)
    ∙ ap (λ (v : ThreadView). cached_log v c.args.index) c.self.view_is

pub returns-in-Some-clause-holds : goal.returns-in-Some-clause-holds
returns-in-Some-clause-holds g c =
    let works = ap (λ (v : ThreadView). v.failed) c.self.view_is ∙ c.requires.works in
    let below = subst (λ (v : ThreadView). c.args.index < length v.kept.pairs) (sym c.self.view_is) c.requires.below in
    let disk = disk_of_device g.D.BlockDevice c.self.inside.parts.device in
    let a = at_there disk c.self.inside.parts.pairs.items c.args.index c.index-pair.result.now below c.index-pair.ensures in
    let shape = g.met.D.BlockDevice.shape c.self.inside.parts.device in
    let size = shape.sizes c.index-pair.result.now.active (active_there disk (g.D.BlockDevice.history c.self.inside.parts.device) c.self.inside.parts.pairs.items c.self.inside.parts.map c.args.index c.index-pair.result.now a (c.self.invariant works).0 _ shape.count) in
    let most = (g.D.BlockDevice.geometry c.self.inside.parts.device).valid.no_larger in
    let is = (c.self.invariant works).1 c.index-pair.result.now.active c.in-Some.block.now (sym c.in-Some.ensures) in
    subst (λ (b : List ℕ). IsContentLog b (thread_pair c.args.self.now.kept c.args.index).content) (sym c.with_known_end.ensures)
    (subst (λ (v : ThreadView). IsContentLog c.in-Some.block.now (thread_pair v.kept c.args.index).content) c.self.view_is
    (block_there disk (g.D.BlockDevice.history c.self.inside.parts.device) c.self.inside.parts.pairs.items c.self.inside.parts.map c.args.index c.index-pair.result.now a (c.self.invariant works).0
    c.in-Some.block.now is (let l = ap length is in omega arith) (subst ElementsAreBytes (sym is) (g.met.D.BlockDevice.bytes c.self.inside.parts.device c.index-pair.result.now.active))))

pub returns-in-Some-clause-holder : goal.returns-in-Some-clause-holder
returns-in-Some-clause-holder g c =
    let works = ap (λ (v : ThreadView). v.failed) c.self.view_is ∙ c.requires.works in
    let below = subst (λ (v : ThreadView). c.args.index < length v.kept.pairs) (sym c.self.view_is) c.requires.below in
    let disk = disk_of_device g.D.BlockDevice c.self.inside.parts.device in
    let a = at_there disk c.self.inside.parts.pairs.items c.args.index c.index-pair.result.now below c.index-pair.ensures in
    subst (λ (v : ThreadView). current_block v.kept.disk (thread_pair v.kept c.args.index).at ≡ Some c.with_known_end.result) c.self.view_is
    (holder_there disk (g.D.BlockDevice.history c.self.inside.parts.device) c.self.inside.parts.pairs.items c.self.inside.parts.map c.args.index c.index-pair.result.now a (c.self.invariant works).0
    c.in-Some.block.now ((c.self.invariant works).1 c.index-pair.result.now.active c.in-Some.block.now (sym c.in-Some.ensures)) ∙ ap Some (sym c.with_known_end.ensures))
