use Rattle.std.proofs.Common.{rules, ◌≡◌, ◌≢◌, ◌≤◌, ◌<◌, ◌+◌, ◌++◌, ◌⊎◌, ℕ, List, Some, inl, inr, arith, sym, ap, subst, ◌∙◌, refl, take, drop, length}
use Rattle.std.specs.Prelude.{IsSome}
use Rattle.std.proofs.Math.Seq.{take-append_seam}
use Rattle.lfs_device.specs.declared.geometry.Geometry.{Geometry}
use Rattle.lfs_model.proofs.Cache.{cached_bytes-without_same}
use Rattle.lfs_thread.proofs.Common.{IsCacheCurrent, block_bytes, block_count, cached_bytes, cached_bytes-without_other, disk_of_blocks, header_address, read_count, reads_unless_cached}
use Rattle.lfs_thread.proofs.BehindRead.{can_commit_behind, commit_left, commit_stops_behind, commits_behind, fails_behind, faults_behind, only_read, reading_behind, refuses_behind}
use Rattle.lfs_thread.proofs.CachedLogs.{current_filled, current_without, current_written, inactive_other, of_active, on_err, outside_both, uncached, uncached_filled}
use Rattle.lfs_thread.proofs.CachedPair.{fill_reads}
use Rattle.lfs_thread.proofs.InOrder.{on_ok}
use Rattle.lfs_thread.proofs.cached_pairs.commit_cached.Goals as goal

-- a vector that was lent as a slice, and is written whole
written_back : {len : ℕ} {now block : List ℕ} (items : List ℕ) → now ≡ block → length now ≡ len → take len (now ++ drop (length now) items) ≡ block
written_back {now = now} items same long = ap (λ n. take n (now ++ drop (length now) items)) (sym long) ∙ take-append_seam now (drop (length now) items) ∙ same

pub fill-requires : goal.fill-requires
fill-requires g c =
    let can = c.requires.can in
    let below = of_active (λ b. b < block_count (disk_of_blocks (g.D.BlockDevice.geometry c.args.dev.now) (g.D.BlockDevice.blocks c.args.dev.now))) can.is_pair can.address.first can.address.second in
    let count = (g.met.D.BlockDevice.shape c.args.dev.now).count in
    omega (arith, below, count)

pub returns-in_err-fill-clause-device : goal.returns-in_err-fill-clause-device
returns-in_err-fill-clause-device g c =
    let other = inactive_other (header_address c.args.pair.now) c.args.pair.now.active c.requires.can.address.apart in
    let same = ap (λ z. cached_bytes z c.args.pair.now.active) c.forget.ensures ∙ cached_bytes-without_other c.args.cache.now _ c.args.pair.now.active (λ e. other (sym c.inactive_block.ensures ∙ sym e)) in
    let few = subst (λ o. read_count (g.D.BlockDevice.history c.fill.new.device) ≤ read_count (g.D.BlockDevice.history c.args.dev.now) + reads_unless_cached o) same (fill_reads g.D.BlockDevice _ _ _ _ _ c.fill.ensures.calls c.fill.ensures.reading.reports.errors) in
    record { only = only_read c.fill.ensures.reading.device; few = omega (arith, few) }

pub returns-in_err-fill-clause-stops : goal.returns-in_err-fill-clause-stops
returns-in_err-fill-clause-stops g c cleanly = commit_left c.fill.ensures.reading.device

pub commit-requires : goal.commit-requires
commit-requires g c =
    let read = c.in_ok-fill.ensures.reading.device in
    let current = current_filled _ _ _ c.args.pair.now.active c.fill.result c.fill.ensures.filled c.fill.ensures.err (subst (IsCacheCurrent _) (sym c.forget.ensures) (current_without _ _ _ c.requires.current)) in
    record {
      can = can_commit_behind read c.requires.can;
      holds = c.deref_mut.ensures.value ∙ current c.args.pair.now.active _ (sym c.in-Some.ensures.bytes) ∙ ap (λ d. block_bytes d c.args.pair.now.active) (sym read.same);
    }

pub returns-clause-ends : goal.returns-clause-ends
returns-clause-ends g c =
    let read = c.in_ok-fill.ensures.reading.device in
    let at = header_address c.args.pair.now in
    let active = c.args.pair.now.active in
    let current = current_filled _ _ _ active c.fill.result c.fill.ensures.filled c.fill.ensures.err (subst (IsCacheCurrent _) (sym c.forget.ensures) (current_without _ _ _ c.requires.current)) in
    let some : IsSome (Some c.in-Some.block.now.items) = search rules in
    let other = subst (λ o. o ≢ active) (sym c.inactive_block.ensures) (inactive_other at active c.requires.can.address.apart) in
    let none = ap (λ z. cached_bytes z c.inactive_block.result) c.forget.ensures ∙ cached_bytes-without_same c.args.cache.now c.inactive_block.result in
    let among = of_active (λ a. (a ≡ at.0) ⊎ (a ≡ at.1)) c.requires.can.is_pair (inl refl) (inr refl) in
    let holds = c.deref_mut.ensures.value ∙ current active _ (sym c.in-Some.ensures.bytes) ∙ ap (λ d. block_bytes d active) (sym read.same) in
    let can = c.requires.can in
    let below = of_active (λ b. b < block_count (disk_of_blocks (g.D.BlockDevice.geometry c.args.dev.now) (g.D.BlockDevice.blocks c.args.dev.now))) can.is_pair can.address.first can.address.second in
    let count = (g.met.D.BlockDevice.shape c.args.dev.now).count in
    let same = ap (λ (k : Geometry). k.block_count) read.geometry in
    let new_same = ap (λ (k : Geometry). k.block_count) c.commit.ensures.device.only.geometry in
    let size = (g.met.D.BlockDevice.shape c.fill.new.device).sizes active (omega (arith, below, count, same)) in
    let new_size = (g.met.D.BlockDevice.shape c.commit.new.dev).sizes active (omega (arith, below, count, same, new_same)) ∙ ap (λ (k : Geometry). k.block_size) c.commit.ensures.device.only.geometry in
    record {
      done = λ done. commits_behind read (c.commit.ensures.ends.done done);
      full = λ full. refuses_behind read (c.commit.ensures.ends.full full);
      current = on_ok c.commit.result (λ held.
          current_written c.fill.new.self active c.inactive_block.result at
          (subst (λ b. IsCacheCurrent b c.fill.new.self) (sym read.same) current) c.commit.ensures.device.only.others
          (subst IsSome c.in-Some.ensures.bytes some)
          (uncached_filled c.forget.new.self c.fill.new.self active c.inactive_block.result _ c.in_ok-fill.ensures.filled other (uncached c.forget.new.self c.inactive_block.result none))
          (subst (λ o. (b : ℕ) → b ≢ active → b ≢ o → (at.0 ≢ b) × (at.1 ≢ b)) (sym c.inactive_block.ensures) (outside_both at active among))
          (written_back _ held (ap length held ∙ new_size ∙ sym size ∙ sym (ap length holds) ∙ c.deref_mut.ensures.len))) c.commit.ensures.ends.held;
    }

pub returns-clause-error : goal.returns-clause-error
returns-clause-error g c = on_err c.commit.result (λ e. fails_behind c.in_ok-fill.ensures.reading.device) c.commit.ensures.error

pub returns-clause-device : goal.returns-clause-device
returns-clause-device g c =
    let other = inactive_other (header_address c.args.pair.now) c.args.pair.now.active c.requires.can.address.apart in
    let same = ap (λ z. cached_bytes z c.args.pair.now.active) c.forget.ensures ∙ cached_bytes-without_other c.args.cache.now _ c.args.pair.now.active (λ e. other (sym c.inactive_block.ensures ∙ sym e)) in
    let few = subst (λ o. read_count (g.D.BlockDevice.history c.fill.new.device) ≤ read_count (g.D.BlockDevice.history c.args.dev.now) + reads_unless_cached o) same (fill_reads g.D.BlockDevice _ _ _ _ _ c.fill.ensures.calls c.fill.ensures.reading.reports.errors) in
    reading_behind c.in_ok-fill.ensures.reading.device (reads_unless_cached (cached_bytes c.args.cache.now c.args.pair.now.active)) 1 few c.commit.ensures.device

pub returns-clause-faults : goal.returns-clause-faults
returns-clause-faults g c = faults_behind c.in_ok-fill.ensures.reading.device (c.in_ok-fill.ensures.reading.reports.faults.no_fault (λ gives. absurd (cc))) c.commit.ensures.faults

pub returns-clause-stops : goal.returns-clause-stops
returns-clause-stops g c = commit_stops_behind c.in_ok-fill.ensures.reading.device c.commit.ensures.device.only c.commit.ensures.stops
