use Rattle.std.proofs.Common.{◌≡◌, List, Some, slice_get, slice_index_or, subst, sym}
use Rattle.lfs_lookup.proofs.Common.{Pair, IsContentLog, empty_anchor, thread_pair}
use Rattle.std.specs.Prelude.{IfSome}
use Rattle.lfs_lookup.proofs.attribute_sizes.cached_attributes_size.Goals as goal

pub returns-clause-is : goal.returns-clause-is
returns-clause-is g c held there =
    c.log_attributes_size.ensures.is (thread_pair c.load_pair.new.self.kept c.args.slot.pair).content held
    (subst (λ o. IfSome o (λ log. IsContentLog log (thread_pair c.load_pair.new.self.kept c.args.slot.pair).content)) c.unwrap.ensures c.lend.ensures.holds)
    (subst (λ (ps : List Pair). slice_get (slice_index_or ps c.args.slot.pair empty_anchor).content.slots c.args.slot.id ≡ Some held) (sym c.load_pair.ensures.only.pairs) there)

pub returns-clause-no_call : goal.returns-clause-no_call
returns-clause-no_call g c = c.load_pair.ensures.no_call c.requires.cached_log
