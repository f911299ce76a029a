use Rattle.std.proofs.Common.{◌∙◌, ap, drop, sym, take}
use Rattle.lfs_lookup.proofs.Common.{same_Some, option_copied}
use Rattle.lfs_lookup.proofs.bytes.copy_inline_bytes.Goals as goal

pub returns-in_default-clause-bytes : goal.returns-in_default-clause-bytes
returns-in_default-clause-bytes c content slot bytes is at e =
    let held = c.inline_in_log.ensures content slot bytes is at e in
    absurd (let k = sym (ap option_copied c.in_default.is) ∙ held in cc)

pub returns-clause-bytes : goal.returns-clause-bytes
returns-clause-bytes c content slot bytes is at e =
    let held = c.inline_in_log.ensures content slot bytes is at e in
    c.in_ok-copy_bytes_from.ensures ∙ ap (λ b. take c.args.count (drop c.args.position b)) (same_Some c.in-Some.bytes.now bytes (sym (ap option_copied c.in-Some.is) ∙ held))
