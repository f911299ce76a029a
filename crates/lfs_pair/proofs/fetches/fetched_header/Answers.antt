use Rattle.std.proofs.Common.{◌∙◌, arith, ap, sym}
use Rattle.lfs_pair.proofs.Common.{logged, block_entries, content_after, empty_raw_content}
use Rattle.lfs_pair.proofs.fetches.fetched_header.Goals as goal

pub returns-clause-describes : goal.returns-clause-describes
returns-clause-describes c =
    let held = c.in_ok-summary.ensures.summary.0 in
    let sums = c.in_ok-summary.ensures.summary.1 in
    let content = ap (λ z. content_after empty_raw_content (block_entries z)) (sym c.with_known_end-log.ensures) ∙ sums.content in (
      held,
      record {
        content = content;
        end = c.requires.end;
        last = c.requires.last;
        revision = c.requires.revision;
        sums = record { slot_count = sums.slot_count; tail = sums.tail; move = sums.move_state; complete = sums.complete };
        logged = logged c.args.bytes.now held (λ i. omega (arith, c.type_inv.bytes i)) content;
      },
    )
