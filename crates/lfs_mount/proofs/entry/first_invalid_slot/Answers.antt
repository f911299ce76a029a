use Rattle.std.proofs.Common.{refl, sym, ap, ◌≡◌, ◌∙◌, true, is_some, map, option_map, arith, ⊎_elim, slice_get}
use Rattle.lfs_mount.proofs.Common.{cases_eq, length-map, same_Some, slice_get-map, slice_get_read, slice_get_within, slot_view, raw_slot_entry}
use Rattle.lfs_mount.proofs.Kept.{no_entry}
use Rattle.lfs_mount.proofs.entry.first_invalid_slot.Goals as goal

pub returns-then-not-is_file_or_directory-clause-holds : goal.returns-then-not-is_file_or_directory-clause-holds
returns-then-not-is_file_or_directory-clause-holds c = λ other h.
    let at = slice_get_read c.args.slots.now _ c.loop-index.index c.index-slots-index.result refl c.loop-index-test.true c.index-slots-index.is in (
      slot_view c.index-slots-index.result,
      (
        slice_get-map slot_view c.args.slots.now c.loop-index.index ∙ ap (option_map slot_view) at,
        no_entry (slot_view c.index-slots-index.result) (sym c.is_file_or_directory.ensures ∙ c.if-not-is_file_or_directory.true),
      ),
    )

pub loop-index-preserved : goal.loop-index-preserved
loop-index-preserved c = λ other h. ⊎_elim
    (λ is. absurd (
    let at = slice_get_read c.args.slots.now _ c.loop-index.index c.index-slots-index.result refl c.loop-index-test.true c.index-slots-index.is in
    let here = slice_get-map slot_view c.args.slots.now c.loop-index.index ∙ ap (option_map slot_view) at in
    let same = same_Some h.0 (slot_view c.index-slots-index.result) (sym h.1.0 ∙ ap (slice_get (map slot_view c.args.slots.now)) (sym is) ∙ here) in
    let some : is_some (raw_slot_entry (slot_view c.index-slots-index.result)) ≡ true = sym c.is_file_or_directory.ensures ∙ c.if-not-is_file_or_directory.false in
    let clash = ap (λ s. is_some (raw_slot_entry s)) same ∙ some in
    let none = ap is_some h.1.1 in
    cc))
    (λ apart. let before = c.loop-index.invariant other h in omega arith)
    (cases_eq c.loop-index.index other)

pub returns-clause-holds : goal.returns-clause-holds
returns-clause-holds c = λ other h.
    let before = c.loop-index.invariant other h in
    let within = slice_get_within (map slot_view c.args.slots.now) other h.0 h.1.0 in
    let len = length-map c.args.slots.now slot_view in
    absurd (omega arith)
