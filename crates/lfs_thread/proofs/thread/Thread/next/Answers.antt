use Rattle.std.proofs.Common.{ℕ, ap, sym, subst, ◌∙◌, ◌+◌, ◌<◌, length, Bool, Option, None, Some, if◌then◌else◌}
use Rattle.lfs_thread.proofs.Common.{is_hard_tail, ThreadView, disk_of_device, thread_pair}
use Rattle.lfs_thread.proofs.Changing.{at_there}
use Rattle.lfs_thread.proofs.CachedPair.{next_there, tail_there}
use Rattle.lfs_thread.proofs.thread.Thread.next.Goals as goal

pub returns-then-has_hard_tail-clause-next : goal.returns-then-has_hard_tail-clause-next
returns-then-has_hard_tail-clause-next g c =
    let works = ap (λ (v : ThreadView). v.failed) c.self.view_is ∙ c.requires.works in
    let below = subst (λ (v : ThreadView). c.args.index < length v.kept.pairs) (sym c.self.view_is) c.requires.below in
    let disk = disk_of_device g.D.BlockDevice c.self.inside.parts.device in
    let a = at_there disk c.self.inside.parts.pairs.items c.args.index c.index.result.now below c.index.ensures in
    let is = c.has_hard_tail.ensures
    ∙ ap is_hard_tail (tail_there disk (g.D.BlockDevice.history c.self.inside.parts.device) c.self.inside.parts.pairs.items c.self.inside.parts.map c.args.index c.index.result.now a (c.self.invariant works).0)
    ∙ ap (λ (v : ThreadView). is_hard_tail (thread_pair v.kept c.args.index).content.tail) c.self.view_is in
    let none : Option ℕ = None in
    ap (λ (b : Bool). if b then Some (c.args.index + 1) else none) (sym c.if-has_hard_tail.true ∙ is)

pub returns-then-has_hard_tail-clause-below : goal.returns-then-has_hard_tail-clause-below
returns-then-has_hard_tail-clause-below g c =
    let works = ap (λ (v : ThreadView). v.failed) c.self.view_is ∙ c.requires.works in
    let below = subst (λ (v : ThreadView). c.args.index < length v.kept.pairs) (sym c.self.view_is) c.requires.below in
    let disk = disk_of_device g.D.BlockDevice c.self.inside.parts.device in
    let a = at_there disk c.self.inside.parts.pairs.items c.args.index c.index.result.now below c.index.ensures in
    let is = c.has_hard_tail.ensures
    ∙ ap is_hard_tail (tail_there disk (g.D.BlockDevice.history c.self.inside.parts.device) c.self.inside.parts.pairs.items c.self.inside.parts.map c.args.index c.index.result.now a (c.self.invariant works).0) in
    subst (λ (v : ThreadView). c.args.index + 1 < length v.kept.pairs) c.self.view_is
    (next_there disk (g.D.BlockDevice.history c.self.inside.parts.device) c.self.inside.parts.pairs.items c.self.inside.parts.map c.args.index c.index.result.now a (c.self.invariant works).0 (sym is ∙ c.if-has_hard_tail.true))

pub returns-else-has_hard_tail-clause-next : goal.returns-else-has_hard_tail-clause-next
returns-else-has_hard_tail-clause-next g c =
    let works = ap (λ (v : ThreadView). v.failed) c.self.view_is ∙ c.requires.works in
    let below = subst (λ (v : ThreadView). c.args.index < length v.kept.pairs) (sym c.self.view_is) c.requires.below in
    let disk = disk_of_device g.D.BlockDevice c.self.inside.parts.device in
    let a = at_there disk c.self.inside.parts.pairs.items c.args.index c.index.result.now below c.index.ensures in
    let is = c.has_hard_tail.ensures
    ∙ ap is_hard_tail (tail_there disk (g.D.BlockDevice.history c.self.inside.parts.device) c.self.inside.parts.pairs.items c.self.inside.parts.map c.args.index c.index.result.now a (c.self.invariant works).0)
    ∙ ap (λ (v : ThreadView). is_hard_tail (thread_pair v.kept c.args.index).content.tail) c.self.view_is in
    let none : Option ℕ = None in
    ap (λ (b : Bool). if b then Some (c.args.index + 1) else none) (sym c.if-has_hard_tail.false ∙ is)
