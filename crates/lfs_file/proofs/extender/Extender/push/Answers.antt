use Rattle.std.proofs.Common.{rules, ⊎_elim, ℕ, ◌≡◌, ◌≢◌, ◌≤◌, ◌<◌, ◌+◌, ◌-◌, ◌++◌, List, [], ◌∷◌, length, take, drop, refl, sym, ap, subst, ◌∙◌, arith, append_assoc, length-append, length-drop}
use Rattle.std.specs.Prelude.{All}
use Rattle.lfs_file.proofs.Common.{take-add, cases_lt, FillsFew, further_pointers, ArePointersKnown, CallEvent, read_count, append-nil, get_or_append_left, take_all, length-take-le, take-take, All-cons, All-nil, err_from_is_err_and, Blocks, block_capacity, blocks_to_head, GrowingList, IsRestShort, growing_bytes, lasting_blocks, unwritten_block, unwritten_rest_block, growing_size, block_for_push, growing_size_with, appended_count}
use Rattle.lfs_file.proofs.Called.{changes_none, changes_one, quiet, reported_as, reported_on}
use Rattle.lfs_file.proofs.Geometries.{shaped}
use Rattle.lfs_file.proofs.Stands.{is_grown}
use Rattle.lfs_device.specs.declared.geometry.Geometry.{Geometry}
use Rattle.lfs_file.specs.declared.rest.RestLocation.{RestLocation}
use Rattle.lfs_file.proofs.Pushing.{next_among, next_inside, next_apart, next_some, next_kept, still_some, all_used}
use Rattle.lfs_file.proofs.extender.Extender.push.Goals as goal

-- part of the blocks handed in
front_of : (pending blocks : List ℕ) (other : ℕ) → All (λ b. b ≢ other) (pending ++ blocks) → All (λ b. b ≢ other) pending
front_of pending blocks other apart k x l = subst (λ b. b ≢ other) (get_or_append_left pending blocks x k l) (apart k x (omega (arith, length-append pending blocks)))

pub loop-done-init : goal.loop-done-init
loop-done-init g c = record {
  low = omega arith;
  some = omega arith;
  growing = c.requires.stands.growing;
  bytes = sym (append-nil _);
  sum = omega arith;
  kept = sym (append-nil _);
  own = λ some. absurd (omega arith);
  pending = λ other apart. front_of _ c.args.blocks.now other apart;
  same = refl;
  device = changes_none g.D.BlockDevice _ c.args.dev.now;
  writes = record { erased = refl; programmed = refl };
  few = record { few = omega arith; none = λ all. (refl, all); longer = omega arith; unfilled = λ same. (refl, refl); first = λ known more. absurd (omega arith) };
  quiet = refl;
}

-- the size by the geometry as it was
sum_by : (geometry now : Geometry) (g : GrowingList) (n : ℕ) → now ≡ geometry → growing_size_with now.block_size g ≡ n → growing_size_with geometry.block_size g ≡ n
sum_by geometry now g n e is = subst (λ (k : Geometry). growing_size_with k.block_size g ≡ n) e is

still : (d e : Blocks) (was now : GrowingList) (blocks : List ℕ) (used done total : ℕ) → now.geometry ≡ was.geometry → used ≤ length blocks → lasting_blocks e now ≡ lasting_blocks d was ++ take used blocks
    → length blocks ≡ appended_count was total → growing_size now ≡ growing_size was + done → done < total
    → unwritten_block now ≡ [] → used < length blocks
still d e was now blocks used done total same le is count sum lt none =
    still_some d e was.geometry.block_size was now blocks used done total was.geometry.valid.no_smaller le is count (sum_by was.geometry now.geometry now _ same sum) lt none

pub next_push_block-block-requires : goal.next_push_block-block-requires
next_push_block-block-requires g c =
    let inv = c.loop-done.invariant in
    still _ _ c.args.self.now c.loop-done.self c.args.blocks.now c.loop-done.used c.loop-done.done _ inv.same inv.some inv.kept c.requires.count inv.sum c.loop-done-test.true

pub fill_current_block-requires : goal.fill_current_block-requires
fill_current_block-requires g c = record {
  follows =
      let inv = c.loop-done.invariant in
      let some = still _ _ c.args.self.now c.loop-done.self c.args.blocks.now c.loop-done.used c.loop-done.done _ inv.same inv.some inv.kept c.requires.count inv.sum c.loop-done-test.true in
      record {
        chain = inv.growing.chain;
        in_device = subst (λ b. b < (g.D.BlockDevice.geometry c.loop-done.dev).block_count) (sym (ap (λ r. r.0) c.next_push_block-block.ensures))
            (next_inside (g.D.BlockDevice.blocks c.loop-done.dev) c.loop-done.self.full c.loop-done.self.head c.loop-done.self.rest c.loop-done.self.stand c.args.blocks.now c.loop-done.used _ (g.met.D.BlockDevice.shape c.loop-done.dev).count inv.growing.stand some
            (subst (λ (k : Geometry). All (λ b. b < k.block_count) c.args.blocks.now) (sym inv.device.geometry) c.requires.in_device));
        apart = subst (λ b. All (λ x. x ≢ b) (blocks_to_head (g.D.BlockDevice.blocks c.loop-done.dev) c.loop-done.self.full c.loop-done.self.head)) (sym (ap (λ r. r.0) c.next_push_block-block.ensures))
            (next_apart (g.D.BlockDevice.blocks c.loop-done.dev) c.loop-done.self.full c.loop-done.self.head _ c.loop-done.self.stand _ c.args.blocks.now c.loop-done.used inv.growing.stand some inv.kept c.requires.distinct c.requires.apart);
      };
  known = search rules;
  geometry = search rules;
  some = search rules;
  room = search rules;
}

-- the block is one of those handed in
among : (was : GrowingList) (t : RestLocation) (blocks : List ℕ) (used block : ℕ) (next : ℕ × ℕ) → next ≡ block_for_push t blocks used → block ≡ next.0 → (unwritten_rest_block t ≡ [] → used < length blocks)
    → ((other : ℕ) → All (λ b. b ≢ other) (unwritten_block was ++ blocks) → All (λ b. b ≢ other) (unwritten_rest_block t)) → (other : ℕ) → All (λ b. b ≢ other) (unwritten_block was ++ blocks) → block ≢ other
among was t blocks used block next e f some pending other apart =
    subst (λ b. b ≢ other) (sym (f ∙ ap (λ r. r.0) e)) (next_among t (unwritten_block was ++ blocks) (unwritten_block was) blocks used refl some pending other apart)

pub returns-in_err-done-clause-device : goal.returns-in_err-done-clause-device
returns-in_err-done-clause-device g c =
    let inv = c.loop-done.invariant in
    let some = still _ _ c.args.self.now c.loop-done.self c.args.blocks.now c.loop-done.used c.loop-done.done _ inv.same inv.some inv.kept c.requires.count inv.sum c.loop-done-test.true in
    changes_one g.D.BlockDevice (among c.args.self.now c.loop-done.self.stand c.args.blocks.now c.loop-done.used _ _ c.next_push_block-block.ensures refl some inv.pending) inv.device c.fill_current_block.ensures.device

pub returns-in_err-done-clause-io : goal.returns-in_err-done-clause-io
returns-in_err-done-clause-io g c =
    let reported = c.in_err-done.ensures.io in
    let p = err_from_is_err_and c.from_residual.result c.from_residual.ensures.1 in
    rw (p.1, p.2) (record { faults = reported_on g.D.BlockDevice c.loop-done.invariant.quiet (reported_as g.D.BlockDevice reported.faults); errors = reported.errors })

sum_more : (before : Geometry) (size done n all : ℕ) (e : GrowingList) → e.geometry ≡ before → all ≡ size + done → growing_size_with before.block_size e ≡ all + n
    → growing_size_with e.geometry.block_size e ≡ size + (done + n)
sum_more before size done n all e same was is = subst (λ (k : Geometry). growing_size_with k.block_size e ≡ size + (done + n)) (sym same) (omega (arith, was, is))

-- more of the bytes
bytes_more : (front content bytes : List ℕ) (done n : ℕ) → done ≤ length bytes → n ≤ length (take (length bytes - done) (drop done bytes)) → content ≡ front ++ take done bytes
    → (done + n ≤ length bytes) × (content ++ take n (take (length bytes - done) (drop done bytes)) ≡ front ++ take (done + n) bytes)
bytes_more front content bytes done n le few is =
    let all = length-take-le (length bytes - done) (drop done bytes) (omega (arith, length-drop done bytes)) in (
      omega arith,
      ap (λ (l : List ℕ). content ++ l) (take-take n (length bytes - done) (drop done bytes) (omega arith))
          ∙ ap (λ (l : List ℕ). l ++ take n (drop done bytes)) is
          ∙ append_assoc front (take done bytes) (take n (drop done bytes))
          ∙ ap (λ (l : List ℕ). front ++ l) (sym (take-add done n bytes)),
    )

-- the first block's pointers, whether that block is filled by the bytes that follow or was before
first_known : {was mid now : GrowingList} {old between new : List CallEvent} → FillsFew was mid old between → FillsFew mid now between new → ArePointersKnown was.full was.known → was.full < now.full
    → read_count new + further_pointers (was.full + 1) ≤ read_count old + further_pointers now.full
first_known {was} {mid} {now} before after known more =
    ⊎_elim
    (λ less. omega (arith, before.first known less, after.few))
    (λ same.
    let so_far = before.unfilled same in
    let count : mid.full ≡ was.full = omega (arith, before.longer, same) in
    let here = after.first (subst (λ n. ArePointersKnown n mid.known) (sym count) (subst (ArePointersKnown was.full) (sym so_far.1) known)) (omega (arith, count, more)) in
    omega (arith, here, so_far.0, ap (λ n. further_pointers (n + 1)) count))
    (cases_lt was.full mid.full)

pub loop-done-preserved : goal.loop-done-preserved
loop-done-preserved g c =
    let inv = c.loop-done.invariant in
    let some = still _ _ c.args.self.now c.loop-done.self c.args.blocks.now c.loop-done.used c.loop-done.done _ inv.same inv.some inv.kept c.requires.count inv.sum c.loop-done-test.true in
    let next = c.next_push_block-block.ensures in
    let here = among c.args.self.now c.loop-done.self.stand c.args.blocks.now c.loop-done.used _ _ next refl some inv.pending in
    let now = c.in_ok-done.ensures.filled.grown in
    let written = c.in_ok-done.ensures.calls.writes in
    let read = c.in_ok-done.ensures.calls.few in
    let more = bytes_more _ _ c.args.bytes.now c.loop-done.done c.in_ok-done.field-0 inv.low c.in_ok-done.ensures.filled.count.1 inv.bytes in
    record {
      low = more.0;
      some = subst (λ r. r.1 ≤ length c.args.blocks.now) (sym next) (next_some c.loop-done.self.stand c.args.blocks.now c.loop-done.used some inv.some);
      growing = now.growing;
      bytes = now.content ∙ more.1;
      sum = sum_more _ _ _ _ _ c.fill_current_block.new.self now.geometry inv.sum now.sum;
      kept = now.kept
          ∙ ap (λ r. blocks_to_head (g.D.BlockDevice.blocks c.loop-done.dev) c.loop-done.self.full c.loop-done.self.head ++ r.0 ∷ []) next
          ∙ next_kept c.loop-done.self.stand _ _ c.args.blocks.now c.loop-done.used some inv.kept
          ∙ ap (λ r. lasting_blocks (g.D.BlockDevice.blocks c.args.dev.now) c.args.self.now ++ take r.1 c.args.blocks.now) (sym next);
      own = λ _. (now.blocks ∙ sym now.kept, (c.in_ok-done.ensures.waits.listed, subst (λ (k : Geometry). IsRestShort k.block_size c.fill_current_block.new.self) (sym now.geometry) now.short));
      pending = λ other apart. c.in_ok-done.ensures.waits.pending other (All-cons (λ b. b ≢ other) _ [] (here other apart) (All-nil (λ b. b ≢ other)));
      same = now.geometry ∙ inv.same;
      device = changes_one g.D.BlockDevice here inv.device c.fill_current_block.ensures.device;
      writes = record { erased = omega (arith, written.erased, inv.writes.erased); programmed = omega (arith, written.programmed, inv.writes.programmed) };
      few = record {
        few = omega (arith, read.few, inv.few.few);
        none = λ all.
            let so_far = inv.few.none all in
            let here = read.none so_far.1 in
            (here.0 ∙ so_far.0, here.1);
        longer = omega (arith, read.longer, inv.few.longer);
        unfilled = λ same.
            let so_far = inv.few.unfilled (omega (arith, same, read.longer)) in
            let here = read.unfilled (omega (arith, same, inv.few.longer)) in
            (here.0 ∙ so_far.0, here.1 ∙ so_far.1);
        first = first_known inv.few read;
      };
      quiet = quiet g.D.BlockDevice c.in_ok-done.ensures.io.faults ∙ inv.quiet;
    }

pub returns-clause-pushed : goal.returns-clause-pushed
returns-clause-pushed g c =
    let inv = c.loop-done.invariant in
    let was = c.args.self.now in
    let now = c.loop-done.self in
    let own = inv.own (let s = c.requires.some in let l = inv.low in omega arith) in
    let all : c.loop-done.done ≡ length c.args.bytes.now = (let l = inv.low in omega arith) in
    let sum = sum_by was.geometry now.geometry now _ inv.same (inv.sum ∙ ap (λ n. growing_size was + n) all) in
    let short = subst (λ (k : Geometry). length now.rest < block_capacity k.block_size now.full) inv.same own.1.1 in
    let used = all_used _ _ was.geometry.block_size was now c.args.blocks.now c.loop-done.used _ was.geometry.valid.no_smaller inv.some inv.kept c.requires.count sum inv.growing short own.0 own.1.0 in
    let kept = inv.kept ∙ ap (λ (l : List ℕ). lasting_blocks (g.D.BlockDevice.blocks c.args.dev.now) was ++ l) (take_all c.loop-done.used c.args.blocks.now used) in
    record {
      grown =
          is_grown was.geometry _ now _ _ _ _ _ (shaped _ _ was.geometry (sym (inv.device.geometry ∙ c.requires.stands.geometry)) (g.met.D.BlockDevice.shape c.loop-done.dev)) inv.same own.1.1 inv.growing
          (inv.bytes ∙ ap (λ (l : List ℕ). growing_bytes (g.D.BlockDevice.blocks c.args.dev.now) was ++ l) (take_all c.loop-done.done c.args.bytes.now (omega arith)))
          sum kept (own.0 ∙ kept);
      waits = record { listed = own.1.0; pending = inv.pending };
    }
