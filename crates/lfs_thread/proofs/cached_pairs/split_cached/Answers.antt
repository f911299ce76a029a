use Rattle.std.proofs.Common.{◌≡◌, ◌≢◌, ◌≤◌, ◌<◌, ◌+◌, ◌⊎◌, ℕ, inl, inr, arith, sym, ap, subst, ◌∙◌, refl}
use Rattle.lfs_model.proofs.Cache.{cached_bytes-without_same}
use Rattle.lfs_thread.proofs.Common.{IsCacheCurrent, block_bytes, block_count, cached_bytes, cached_bytes-without_other, disk_of_blocks, address_of_array, header_address, read_count, reads_unless_cached}
use Rattle.lfs_thread.proofs.BehindRead.{can_split_behind, fails_behind, faults_behind, only_read, reading_behind, split_left, split_stops_behind, splits_behind}
use Rattle.lfs_thread.proofs.CachedLogs.{current_filled, IsUncached, current_without, current_split, if_ok, inactive_other, of_active, on_err, outside_both, uncached, uncached_filled, uncached_without}
use Rattle.lfs_thread.proofs.CachedPair.{fill_reads}
use Rattle.lfs_thread.proofs.cached_pairs.split_cached.Goals as goal

pub fill-requires : goal.fill-requires
fill-requires g c =
    let can = c.requires.can.commit in
    let below = of_active (λ b. b < block_count (disk_of_blocks (g.D.BlockDevice.geometry c.args.dev.now) (g.D.BlockDevice.blocks c.args.dev.now))) can.is_pair can.address.first can.address.second in
    let count = (g.met.D.BlockDevice.shape c.args.dev.now).count in
    omega (arith, below, count)

pub returns-in_err-fill-clause-device : goal.returns-in_err-fill-clause-device
returns-in_err-fill-clause-device g c =
    let other = inactive_other (header_address c.args.pair.now) c.args.pair.now.active c.requires.can.commit.address.apart in
    let same = ap (λ z. cached_bytes z c.args.pair.now.active) c.forget.ensures ∙ cached_bytes-without_other c.args.cache.now _ c.args.pair.now.active (λ e. other (sym c.inactive_block.ensures ∙ sym e)) in
    let few = subst (λ o. read_count (g.D.BlockDevice.history c.fill.new.device) ≤ read_count (g.D.BlockDevice.history c.args.dev.now) + reads_unless_cached o) same (fill_reads g.D.BlockDevice _ _ _ _ _ c.fill.ensures.calls c.fill.ensures.reading.reports.errors) in
    record { only = only_read c.fill.ensures.reading.device; few = omega (arith, few) }

pub returns-in_err-fill-clause-stops : goal.returns-in_err-fill-clause-stops
returns-in_err-fill-clause-stops g c cleanly = split_left c.fill.ensures.reading.device

pub split-requires : goal.split-requires
split-requires g c =
    let read = c.in_ok-fill.ensures.reading.device in
    let current = current_filled _ _ _ c.args.pair.now.active c.fill.result c.fill.ensures.filled c.fill.ensures.err (subst (IsCacheCurrent _) (sym c.forget.ensures) (current_without _ _ _ c.requires.current)) in
    record {
      can = can_split_behind read c.requires.can;
      holds = current c.args.pair.now.active _ (sym c.in-Some.ensures) ∙ ap (λ d. block_bytes d c.args.pair.now.active) (sym read.same);
    }

pub returns-clause-splits : goal.returns-clause-splits
returns-clause-splits g c =
    let read = c.in_ok-fill.ensures.reading.device in
    let at = header_address c.args.pair.now in
    let fresh = address_of_array c.args.fresh in
    let active = c.args.pair.now.active in
    let inactive = c.inactive_block.result in
    let can = c.requires.can in
    let current = current_filled _ _ _ active c.fill.result c.fill.ensures.filled c.fill.ensures.err (subst (IsCacheCurrent _) (sym c.forget.ensures) (current_without _ _ _ c.requires.current)) in
    let other = subst (λ o. o ≢ active) (sym c.inactive_block.ensures) (inactive_other at active can.commit.address.apart) in
    let among = of_active (λ a. (a ≡ at.0) ⊎ (a ≡ at.1)) can.commit.is_pair (inl refl) (inr refl) in
    let first = of_active (λ a. fresh.0 ≢ a) can.commit.is_pair (λ e. can.apart.first_first (sym e)) (λ e. can.apart.second_first (sym e)) in
    let second = of_active (λ a. fresh.1 ≢ a) can.commit.is_pair (λ e. can.apart.first_second (sym e)) (λ e. can.apart.second_second (sym e)) in
    let without = λ (b : ℕ) (none : IsUncached c.args.cache.now b). subst (λ z. IsUncached z b) (sym c.forget.ensures) (uncached_without c.args.cache.now inactive b none) in
    let gone = subst (λ z. IsUncached z inactive) (sym c.forget.ensures) (uncached _ inactive (cached_bytes-without_same c.args.cache.now inactive)) in
    let filled = c.in_ok-fill.ensures.filled in
    if_ok c.split.result (λ fresh_pair splits. record {
      splits = splits_behind read c.split.ensures.device.only splits;
      current = current_split c.fill.new.self active inactive at fresh (subst (λ b. IsCacheCurrent b c.fill.new.self) (sym read.same) current) c.split.ensures.device.only.others splits.kept
          (uncached_filled c.forget.new.self c.fill.new.self active inactive _ filled other gone)
          (uncached_filled c.forget.new.self c.fill.new.self active fresh.0 _ filled first (without fresh.0 (uncached c.args.cache.now fresh.0 c.requires.first)))
          (uncached_filled c.forget.new.self c.fill.new.self active fresh.1 _ filled second (without fresh.1 (uncached c.args.cache.now fresh.1 c.requires.second)))
          (subst (λ o. (b : ℕ) → b ≢ active → b ≢ o → (at.0 ≢ b) × (at.1 ≢ b)) (sym c.inactive_block.ensures) (outside_both at active among));
    }) c.split.ensures.splits

pub returns-clause-error : goal.returns-clause-error
returns-clause-error g c = on_err c.split.result (λ e. fails_behind c.in_ok-fill.ensures.reading.device) c.split.ensures.error

pub returns-clause-device : goal.returns-clause-device
returns-clause-device g c =
    let other = inactive_other (header_address c.args.pair.now) c.args.pair.now.active c.requires.can.commit.address.apart in
    let same = ap (λ z. cached_bytes z c.args.pair.now.active) c.forget.ensures ∙ cached_bytes-without_other c.args.cache.now _ c.args.pair.now.active (λ e. other (sym c.inactive_block.ensures ∙ sym e)) in
    let few = subst (λ o. read_count (g.D.BlockDevice.history c.fill.new.device) ≤ read_count (g.D.BlockDevice.history c.args.dev.now) + reads_unless_cached o) same (fill_reads g.D.BlockDevice _ _ _ _ _ c.fill.ensures.calls c.fill.ensures.reading.reports.errors) in
    reading_behind c.in_ok-fill.ensures.reading.device (reads_unless_cached (cached_bytes c.args.cache.now c.args.pair.now.active)) 3 few c.split.ensures.device

pub returns-clause-faults : goal.returns-clause-faults
returns-clause-faults g c = faults_behind c.in_ok-fill.ensures.reading.device (c.in_ok-fill.ensures.reading.reports.faults.no_fault (λ gives. absurd (cc))) c.split.ensures.faults

pub returns-clause-stops : goal.returns-clause-stops
returns-clause-stops g c = split_stops_behind c.in_ok-fill.ensures.reading.device c.split.ensures.device.only c.split.ensures.stops
