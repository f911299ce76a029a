use Rattle.std.proofs.Common.{refl, sym, ap, inr, is_some, ◌∙◌, map, arith, option_map}
use Rattle.lfs_mount.proofs.Common.{same_Some, slice_get-map, slice_get_read, slot_view, raw_slot_entry, slots_without_moved}
use Rattle.lfs_tag.specs.declared.content.Slot.{Slot}
use Rattle.lfs_mount.proofs.Kept.{moved_goes, no_entry}
use Rattle.lfs_mount.proofs.pass.remove_moved_slot.Goals as goal

pub returns-then-not-is_file_or_directory-clause-broken : goal.returns-then-not-is_file_or_directory-clause-broken
returns-then-not-is_file_or_directory-clause-broken c =
    let at = slice_get_read c.args.slots.now.items _ c.in-Some.id c.index.result.now refl (omega arith) c.index.ensures in
    let again = slice_get_read c.args.slots.now.items _ c.in-Some.id c.index-2.result.now refl (omega arith) c.index-2.ensures in
    let same = same_Some c.index.result.now c.index-2.result.now (sym at ∙ again) in
    let none = ap (λ (s : Slot). is_some (raw_slot_entry (slot_view s))) same ∙ sym c.is_file_or_directory.ensures ∙ c.if-not-is_file_or_directory.true in (
      _,
      (
        refl,
        (
          c.in-Some.id,
          (
            c.in-Some.is,
            inr (
              refl,
              slot_view c.index.result.now,
              (
                slice_get-map slot_view c.args.slots.now.items c.in-Some.id ∙ ap (option_map slot_view) at,
                sym c.is_superblock.ensures.named ∙ c.if-is_superblock.false,
                no_entry (slot_view c.index.result.now) none,
              ),
            ),
          ),
        ),
      ),
    )

pub returns-clause-ok : goal.returns-clause-ok
returns-clause-ok c = ap (λ m. slots_without_moved m (map slot_view c.args.slots.now.items)) c.in-Some.is ∙ moved_goes slot_view c.args.slots.now.items c.remove.new.self.items c.in-Some.id c.index-2.result.now
    (slice_get_read c.args.slots.now.items _ c.in-Some.id c.index-2.result.now refl (omega arith) c.index-2.ensures) (sym c.is_file_or_directory.ensures ∙ c.if-not-is_file_or_directory.false) c.remove.ensures.items
