use Rattle.std.proofs.Common.{◌≡◌, ℕ, ◌+◌, ◌-◌, ap, ◌∙◌, arith}
use Rattle.lfs_tag.proofs.Common.{make_tag, no_id, checksum_type, checksum_start, padded_commit_end}
use Rattle.lfs_tag.proofs.BuilderChecksums.{padded}
use Rattle.lfs_tag.proofs.BuilderPages.{committed}
use Rattle.lfs_tag.proofs.BuilderEnds.{Sealed, are_pages}
use Rattle.lfs_tag.proofs.builder.CommitBuilder.finish.Goals as goal

pub returns-clause-commit : goal.returns-clause-commit
returns-clause-commit c =
    let s = c.self.inside in
    let end = c.padded_end-end.result in
    let sealed : Sealed s.page s.len s.last c.encode.result end c.checksum_tag-tag.result s.buf.now c.write_checksum.new.buf c.args.self = record {
      kept = rw (← c.self.view_is) c.self.invariant;
      end_is = omega (arith, c.padded_end-end.ensures, c.if-buf-end.false);
      within = c.if-buf-end.false;
      room = omega arith;
      stored_is = c.encode.ensures.stored;
      fits = c.encode.type_inv;
      small = c.write_checksum.ensures.fits;
      bytes = c.write_checksum.ensures.bytes;
    } in
    let low = (padded c.args.self sealed.kept.power).low in
    let size : end - (s.len + 4) ≡ padded_commit_end c.args.self - checksum_start c.args.self - 4 = omega (arith, c.padded_end-end.ensures, c.if-buf-end.false, sealed.kept.len_is, low) in
    let tag = c.checksum_tag-tag.ensures.tag ∙ ap (λ (n : ℕ). make_tag (checksum_type c.args.next) no_id n) size in
    committed c.args.self c.args.next _ _ _ (are_pages _ _ _ _ _ _ _ _ _ sealed c.args.next c.checksum_tag-tag.ensures.bytes tag)
