use Rattle.std.proofs.Common.{inl, inr, ap, subst, ◌≡◌, arith, map, option_map, Some}
use Rattle.lfs_mount.proofs.Common.{length-map, err_from_is_err_and, RawContent, slot_view, HasInvalidMovedSlot, raw_block_slots}
use Rattle.lfs_tag.specs.ContentView.{content_view}
use Rattle.lfs_mount.proofs.Called.{same_error}
use Rattle.lfs_mount.proofs.SlotCounts.{few_slots}
use Rattle.lfs_mount.proofs.pass.read_entry_slots.Goals as goal

pub returns-in_err-remove_moved_slot-clause-broken : goal.returns-in_err-remove_moved_slot-clause-broken
returns-in_err-remove_moved_slot-clause-broken c = λ v is.
    let e = err_from_is_err_and c.from_residual.result c.from_residual.ensures.1 in
    let b = c.in_err-remove_moved_slot.ensures.broken in
    let same : b.0 ≡ v = let f = same_error e.1 e.2 is in let h = b.1.0 in cc in
    let slots : raw_block_slots c.args.log.now ≡ Some (map slot_view c.in-Ok.content.slots.items) = ap (option_map (λ (x : RawContent). x.slots)) c.in-Ok.ensures.content in
    inr (_, (slots, inl (subst (HasInvalidMovedSlot c.args.member.now (map slot_view c.in-Ok.content.slots.items)) same b.1.1)))

pub returns-clause-few : goal.returns-clause-few
returns-clause-few c = λ small.
    let few = few_slots c.args.log.now (content_view c.in-Ok.content) small c.in-Ok.ensures.content in
    let len = length-map c.in-Ok.content.slots.items slot_view in
    let one = c.in_ok-remove_moved_slot.ensures.fewer in
    let two = c.in_ok-remove_superblock_slot.ensures.fewer in
    omega arith
