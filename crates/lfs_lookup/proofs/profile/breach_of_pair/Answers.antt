use Rattle.std.proofs.Common.{List, slice_index_or, subst, sym}
use Rattle.std.specs.Prelude.{All, IfSome}
use Rattle.lfs_lookup.proofs.Common.{HasSuperblockStruct, Pair, IsContentLog, empty_anchor, thread_pair}
use Rattle.lfs_lookup.proofs.profile.breach_of_pair.Goals as goal

pub breach_of_log-requires : goal.breach_of_log-requires
breach_of_log-requires g c = (
  (thread_pair c.load_pair.new.self.kept c.args.index).content,
  (
    subst (λ o. IfSome o (λ log. IsContentLog log (thread_pair c.load_pair.new.self.kept c.args.index).content)) c.unwrap.ensures c.lend.ensures.holds,
    subst (λ (ps : List Pair). All HasSuperblockStruct (slice_index_or ps c.args.index empty_anchor).content.slots) (sym c.load_pair.ensures.only.pairs) c.requires.shaped,
  ),
)
