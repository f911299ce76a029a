use Rattle.lfs_operations.proofs.Common.{◌∙◌, ◌<◌, ℕ, length, sym, ap, subst, same_Some, RawContent, slot_of_id, slot_without_name}
use Rattle.lfs_operations.proofs.RenameCopied.{is_named, is_structured, read_below, there_read}
use Rattle.lfs_operations.proofs.slot_copies.copy_log_slot.Goals as goal

pub index-requires : goal.index-requires
index-requires c =
    subst (λ (n : ℕ). c.from.result < n) (sym c.in_ok-content.content.slots.ok.0)
    (read_below c.args.log.now c.requires.0 c.requires.1.0 c.from.result (subst (λ (n : ℕ). n < length c.requires.0.slots) (sym c.from.ensures) c.requires.1.1) c.in_ok-content.content
    c.in_ok-content.ensures.content)

pub copy_slot-requires-clause-named : goal.copy_slot-requires-clause-named
copy_slot-requires-clause-named c =
    is_named c.args.log.now c.requires.0 c.requires.1.0 c.from.result (subst (λ (n : ℕ). n < length c.requires.0.slots) (sym c.from.ensures) c.requires.1.1) c.in_ok-content.content
    c.in_ok-content.ensures.content c.index.result.now c.index.ensures

pub copy_slot-requires-clause-structured : goal.copy_slot-requires-clause-structured
copy_slot-requires-clause-structured c =
    is_structured c.args.log.now c.requires.0 c.requires.1.0 c.from.result (subst (λ (n : ℕ). n < length c.requires.0.slots) (sym c.from.ensures) c.requires.1.1) c.in_ok-content.content
    c.in_ok-content.ensures.content c.index.result.now c.index.ensures

pub returns-clause-copied : goal.returns-clause-copied
returns-clause-copied c raw is =
    let read = c.in_ok-content.ensures.content in
    let same = same_Some c.requires.1.0.raw raw (sym c.requires.1.0.log ∙ is) in
    c.in_ok-copy.ensures
    ∙ ap slot_without_name (sym (there_read c.args.log.now c.requires.0 c.requires.1.0 c.from.result (subst (λ (n : ℕ). n < length c.requires.0.slots) (sym c.from.ensures) c.requires.1.1) c.in_ok-content.content read c.index.result.now c.index.ensures))
    ∙ ap (λ (i : ℕ). slot_without_name (slot_of_id c.requires.1.0.raw.slots i)) c.from.ensures ∙ ap (λ (r : RawContent). slot_without_name (slot_of_id r.slots c.args.id)) same
