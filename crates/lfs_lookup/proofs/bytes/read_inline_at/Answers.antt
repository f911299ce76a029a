use Rattle.std.proofs.Common.{◌≡◌, List, Some, slice_get, slice_index_or, subst, sym}
use Rattle.lfs_lookup.proofs.Common.{Pair, IsContentLog, empty_anchor, thread_pair}
use Rattle.std.specs.Prelude.{IfSome}
use Rattle.lfs_lookup.proofs.bytes.read_inline_at.Goals as goal

pub returns-clause-bytes : goal.returns-clause-bytes
returns-clause-bytes g c held bytes there e =
    c.copy_inline_bytes.ensures.bytes (thread_pair c.load_pair.new.self.kept c.args.slot.pair).content held bytes
    (subst (λ o. IfSome o (λ log. IsContentLog log (thread_pair c.load_pair.new.self.kept c.args.slot.pair).content)) c.unwrap.ensures c.lend.ensures.holds)
    (subst (λ (ps : List Pair). slice_get (slice_index_or ps c.args.slot.pair empty_anchor).content.slots c.args.slot.id ≡ Some held) (sym c.load_pair.ensures.only.pairs) there) e

pub returns-clause-no_call : goal.returns-clause-no_call
returns-clause-no_call g c = c.load_pair.ensures.no_call
