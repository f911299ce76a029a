use Rattle.std.proofs.Common.{length, ap, subst, sym, ◌≡◌, ◌<◌}
use Rattle.lfs_file.proofs.Common.{and_parts, eqb-true, AreUsedAmong, contents_blocks, HaveBytesInForm, contents_form, written_form, growing_size, unfinished_bytes, unfinished_length, written_contents}
use Rattle.lfs_file.specs.Contents.{memory_limit}
use Rattle.lfs_file.specs.declared.contents.WriterContents.TheVariants.{InHand}
use Rattle.lfs_file.specs.declared.writes.PendingList.{PendingList}
use Rattle.lfs_file.proofs.Owning.{hand_owned, owned_right}
use Rattle.lfs_file.proofs.ContentsCalled.{writes_same}
use Rattle.lfs_file.proofs.Forms.{written_hand}
use Rattle.lfs_file.proofs.Within.{written_within}
use Rattle.lfs_file.proofs.contents.write_to_unfinished.Goals as goal

pub returns-then-buffer_within_block-clause-written : goal.returns-then-buffer_within_block-clause-written
returns-then-buffer_within_block-clause-written g c =
    let d = g.D.BlockDevice.blocks c.args.dev.now in
    let now = g.D.BlockDevice.geometry c.args.dev.now in
    let hand = c.args.hand in
    let bytes = c.args.bytes.now in
    let parts = and_parts _ _ (sym c.if-buffer_within_block.ensures.fits) in
    subst (λ (h : PendingList). HaveBytesInForm c.args.map.now d now (InHand h) (written_contents (unfinished_bytes d hand) c.args.place bytes) (written_form (memory_limit now) c.args.place (length bytes) (contents_form (InHand hand))))
    (sym c.if-buffer_within_block.ensures.written)
    (written_within c.args.map.now d now hand bytes c.requires.stands parts.1 (memory_limit now) c.args.place now.block_count (g.met.D.BlockDevice.shape c.args.dev.now) (eqb-true _ _ parts.0) c.requires.fits.large)

pub returns-clause-written : goal.returns-clause-written
returns-clause-written g c =
    let d = g.D.BlockDevice.blocks c.args.dev.now in
    let now = g.D.BlockDevice.geometry c.args.dev.now in
    let hand : PendingList = c.buffer_within_block.new.hand in
    let same : hand ≡ c.args.hand = c.if-buffer_within_block.ensures.same in
    let wrote = c.in_ok-hand.ensures.written in
    let over = c.in_ok-hand.ensures.over.over in
    subst (λ (h : PendingList). HaveBytesInForm c.write_at_position.new.map (g.D.BlockDevice.blocks c.write_at_position.new.dev) now (InHand c.in_ok-hand.hand) (written_contents (unfinished_bytes d h) c.args.place c.args.bytes.now) (written_form (memory_limit now) c.args.place (length c.args.bytes.now) (contents_form (InHand h)))) same (record {
      stands = wrote.going;
      has = wrote.bytes;
      form = written_hand (memory_limit now) c.args.place (length c.args.bytes.now) (growing_size hand.list) hand.base.size hand.base.in_flight _ _ _ (subst (λ (h : PendingList). memory_limit now < unfinished_length h) (sym same) c.requires.fits.large) wrote.size
          (λ e. (ap (λ s. s.size) (over.same e), ap (λ s. s.in_flight) (over.same e))) (λ ne. (over.size ne, over.flying ne));
    })

pub returns-clause-owned : goal.returns-clause-owned
returns-clause-owned g c =
    let old = g.D.BlockDevice.blocks c.args.dev.now in
    let now = g.D.BlockDevice.geometry c.args.dev.now in
    let new = g.D.BlockDevice.blocks c.write_at_position.new.dev in
    let same : c.buffer_within_block.new.hand ≡ c.args.hand = c.if-buffer_within_block.ensures.same in
    subst (λ (h : PendingList). AreUsedAmong c.write_at_position.new.map (contents_blocks old now.block_size (InHand h)) (contents_blocks new now.block_size (InHand c.in_ok-hand.hand))) same
    (hand_owned c.write_at_position.new.map new now c.in_ok-hand.hand _ c.in_ok-hand.ensures.written.going (owned_right _ c.in_ok-hand.ensures.over.owned))

pub returns-clause-reports : goal.returns-clause-reports
returns-clause-reports g c = (writes_same g.D.BlockDevice c.in_ok-hand.ensures.writing).reports
