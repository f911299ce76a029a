-- From what an operation does to the disk to its step in a run.
use Rattle.std.proofs.Common.{◌≡◌, true, false, cond, List, [], ◌++◌, Option, Some, None, refl, sym, ap, subst, ◌∙◌}
use Rattle.lfs_model.proofs.Common.{Disk, SameGeometry, block_count, disk_with_order, content_at, zero_gstate, Pair, pairs_gstate, IsAccepted, DiskView, HasDiskView, disk_view, disk_tree, IsWritable, AllCalls, CallEvent, IsRead, Operation, Reply, Refusal, Session, DiskSummary, FileReader, file_reader, file_numbered, operation_refusal, operation_effect, read_effect, unless_refused, IsDiskSummary, SessionHealth, HasFailed, Healthy, is_remount, remount_result, nonremount_result, mounted_session, IsRecovered, is_refusal, IsDiskEffectWithLayout, IsStep}
use Rattle.lfs_model.specs.declared.order.NameOrder.{NameOrder}
use Rattle.lfs_model.specs.declared.order.NameOrder.TheVariants.{LongerFirst, ShorterFirst}
use Rattle.lfs_model.specs.session.Operations as ops
use Rattle.lfs_model.specs.session.Operations.{Failed}
use Rattle.lfs_model.specs.session.Recovery.{recovers_first}
use Rattle.lfs_model.specs.session.Run.{IsReply, is_read_only, opens_existing_file, writes_or_truncates, needs_no_device, renames_itself, is_recover, edits_slots, WriteNothing, IsUntouched, operation_disk}
use Rattle.lfs_model.proofs.Uniqueness.{one_thread}
use Rattle.lfs_model.proofs.OtherOrder.{same_pairs, writable_in_order}
use Rattle.lfs_model.proofs.Arranged.{IsFinished}
use Rattle.lfs_model.proofs.Unmoved.{IsSpread, finished_unmoved}

same_session : (s t : Session) → Healthy s ≡ Healthy t → s ≡ t
same_session s t e = ap or_else e
  where
    or_else : SessionHealth → Session
    or_else HasFailed = s
    or_else (Healthy z) = z

-- a session over a disk whose tree it has
pub record IsOver (disk : Disk) (ps : List Pair) (s : Session) (around : DiskSummary) : Type 0 where
  pub accepted : IsAccepted disk ps
  pub surrounds : IsDiskSummary disk ps around
  pub tree : s.tree ≡ disk_tree disk ps

answered_by : (disk : Disk) (order : NameOrder) (ps : List Pair) (s : Session) (around : DiskSummary) (op : Operation) (reply : Reply) (after : Session) → IsOver disk ps s around → is_remount op ≡ false →
    unless_refused (operation_refusal around s op) s (operation_effect around s op) ≡ (reply, after) → IsReply disk order (Healthy s) op reply (Healthy after)
answered_by disk order ps s around op reply after over other e = record {
  around = around;
  shown = None;
  surrounds = λ t f. (ps, (over.accepted, over.surrounds));
  shows = λ f. absurd (let k = sym other ∙ f in cc);
  answers = ap (λ b. cond b (remount_result None) (nonremount_result around (Healthy s) op)) other ∙ ap (λ z. (Some z.0, Healthy z.1)) e;
}

-- a remount alone finds another order of names
same_disk_read : (op : Operation) (order : NameOrder) (disk : Disk) → is_remount op ≡ false → operation_disk op order disk ≡ disk
same_disk_read op order disk other = ap (λ b. cond b (disk_with_order order disk) disk) other

same_geometry : (op : Operation) (disk new : Disk) → is_remount op ≡ false → SameGeometry disk new → SameGeometry (operation_disk op new.order disk) new
same_geometry op disk new other geometry = subst (λ d. SameGeometry d new) (sym (same_disk_read op new.order disk other)) geometry

-- what an applied operation does is said of any pairs, and those of an accepted disk are known
carried_any : (disk new : Disk) (ps qs : List Pair) (s : Session) (op : Operation) (calls : List CallEvent) → IsAccepted disk ps → IsAccepted new qs → IsDiskEffectWithLayout disk ps s op calls new qs →
    (t : Session) → Healthy s ≡ Healthy t → (xs ys : List Pair) → IsAccepted disk xs → IsAccepted new ys → IsDiskEffectWithLayout disk xs t op calls new ys
carried_any disk new ps qs s op calls a b c t e xs ys x y =
    subst (λ z. IsDiskEffectWithLayout disk xs z op calls new ys) (same_session s t e)
    (subst (λ z. IsDiskEffectWithLayout disk z s op calls new ys) (one_thread (content_at disk) (block_count disk) ps xs a.thread x.thread)
    (subst (IsDiskEffectWithLayout disk ps s op calls new) (one_thread (content_at new) (block_count new) qs ys b.thread y.thread) c))

-- an operation that is applied isn't answered by a refusal
pub no_refusal : (around : DiskSummary) (s : Session) (op : Operation) → is_refusal (operation_effect around s op).0 ≡ false
no_refusal around s (ops.Read fd count) = go (file_reader (file_numbered s.files fd))
  where
    go : (r : Option FileReader) → is_refusal (read_effect s fd count r).0 ≡ false
    go None = refl
    go (Some r) = refl
no_refusal around s _ = refl

-- ---- a refusal

pub refused_step : (disk : Disk) (ps : List Pair) (s : Session) (around : DiskSummary) (op : Operation) (error : Refusal) (calls old : List CallEvent) → IsOver disk ps s around → is_remount op ≡ false →
    operation_refusal around s op ≡ Some error → WriteNothing calls →
    IsStep (record { disk = disk; calls = old; state = Healthy s }) op (ops.Refused error) (record { disk = disk; calls = calls ++ old; state = Healthy s })
refused_step disk ps s around op error calls old over other e writes = record {
  answered = answered_by disk disk.order ps s around op (ops.Refused error) s over other (ap (λ r. unless_refused r s (operation_effect around s op)) e);
  agrees = (ps, (over.accepted, over.tree));
  geometry = same_geometry op disk disk other (record { block_size = refl; page = refl; order = refl; profile = refl; count = refl });
  calls = calls;
  called = refl;
  refused = λ h. (refl, writes);
  remounted = λ h. absurd (let k = sym other ∙ h in cc);
  failed = λ h f. absurd (cc);
  effect_on_disk = λ h. absurd (cc);
}

-- ---- an operation that changes the tree, or recovers

-- what is to be known beside what the operation comes to
pub record IsProper (disk : Disk) (ps : List Pair) (s : Session) (op : Operation) (calls : List CallEvent) (new : Disk) : Type 0 where
  pub geometry : SameGeometry disk new
  pub other : is_remount op ≡ false
  pub asks : is_read_only s op ≡ false
  pub fills : writes_or_truncates op ≡ false
  pub opens : opens_existing_file s op ≡ true → pairs_gstate ps ≡ zero_gstate → new ≡ disk
  pub silent : needs_no_device s op ≡ true → (new ≡ disk) × (calls ≡ [])
  pub itself : renames_itself op ≡ true → IsUntouched disk calls new
  pub nothing_left : is_recover op ≡ true → IsRecovered ps → IsUntouched disk calls new

pub spread_step : (disk : Disk) (ps : List Pair) (s : Session) (around : DiskSummary) (op : Operation) (new : Disk) (qs : List Pair) (calls old : List CallEvent) → IsOver disk ps s around →
    operation_refusal around s op ≡ None → IsProper disk ps s op calls new → IsSpread disk ps s op calls new qs →
    IsStep (record { disk = disk; calls = old; state = Healthy s }) op (operation_effect around s op).0 (record { disk = new; calls = calls ++ old; state = Healthy (operation_effect around s op).1 })
spread_step disk ps s around op new qs calls old over accepted proper done = record {
  answered = answered_by disk new.order ps s around op (operation_effect around s op).0 (operation_effect around s op).1 over proper.other (ap (λ r. unless_refused r s (operation_effect around s op)) accepted);
  agrees = (qs, (done.accepted, sym (done.tree around)));
  geometry = same_geometry op disk new proper.other proper.geometry;
  calls = calls;
  called = refl;
  refused = λ h. absurd (never h);
  remounted = λ h. absurd (let k = sym proper.other ∙ h in cc);
  failed = λ h f. absurd (cc);
  effect_on_disk = λ h t e xs ys x y. carried_any disk new ps qs s op calls over.accepted done.accepted carried t e xs ys x y;
}
  where
    -- no effect is a refusal
    never : is_refusal (operation_effect around s op).0 ≡ true → ⊥
    never h = let k = sym (no_refusal around s op) ∙ h in absurd (cc)

    carried : IsDiskEffectWithLayout disk ps s op calls new qs
    carried = record {
      effect = record {
        asks = λ e. absurd (let k = sym proper.asks ∙ e in cc);
        opens = proper.opens;
        fills = λ e. absurd (let k = sym proper.fills ∙ e in cc);
        recovered = λ e. done.recovered;
        stays = λ h. done.recovered;
        profile = λ h. done.writable;
        silent = proper.silent;
        itself = proper.itself;
        nothing_left = proper.nothing_left;
      };
      arranged = λ e. done.arranged;
    }

pub completed_step : (disk : Disk) (ps : List Pair) (s : Session) (around : DiskSummary) (op : Operation) (new : Disk) (qs : List Pair) (calls old : List CallEvent) → IsOver disk ps s around →
    operation_refusal around s op ≡ None → IsProper disk ps s op calls new → IsFinished disk ps s op new qs →
    IsStep (record { disk = disk; calls = old; state = Healthy s }) op (operation_effect around s op).0 (record { disk = new; calls = calls ++ old; state = Healthy (operation_effect around s op).1 })
completed_step disk ps s around op new qs calls old over accepted proper done =
    spread_step disk ps s around op new qs calls old over accepted proper (finished_unmoved disk ps s op calls new qs proper.geometry done)

-- ---- an operation that leaves the disk: a question, or one that finds nothing to do

pub idle_step : (disk : Disk) (ps : List Pair) (s : Session) (around : DiskSummary) (op : Operation) (calls old : List CallEvent) → IsOver disk ps s around → operation_refusal around s op ≡ None →
    is_remount op ≡ false → (operation_effect around s op).1.tree ≡ s.tree → recovers_first op ≡ false → edits_slots s op ≡ false → WriteNothing calls → (needs_no_device s op ≡ true → calls ≡ []) →
    IsStep (record { disk = disk; calls = old; state = Healthy s }) op (operation_effect around s op).0 (record { disk = disk; calls = calls ++ old; state = Healthy (operation_effect around s op).1 })
idle_step disk ps s around op calls old over accepted other same none still writes silent = record {
  answered = answered_by disk disk.order ps s around op (operation_effect around s op).0 (operation_effect around s op).1 over other (ap (λ r. unless_refused r s (operation_effect around s op)) accepted);
  agrees = (ps, (over.accepted, same ∙ over.tree));
  geometry = same_geometry op disk disk other (record { block_size = refl; page = refl; order = refl; profile = refl; count = refl });
  calls = calls;
  called = refl;
  refused = λ h. (refl, writes);
  remounted = λ h. absurd (let k = sym other ∙ h in cc);
  failed = λ h f. absurd (cc);
  effect_on_disk = λ h t e xs ys x y. carried_any disk disk ps ps s op calls over.accepted over.accepted carried t e xs ys x y;
}
  where
    carried : IsDiskEffectWithLayout disk ps s op calls disk ps
    carried = record {
      effect = record {
        asks = λ e. (sym (same_disk_read op disk.order disk other), writes);
        opens = λ e f. refl;
        fills = λ e. (refl, λ view h. h);
        recovered = λ e. absurd (let k = sym none ∙ e in cc);
        stays = λ h. h;
        profile = λ h. h;
        silent = λ e. (refl, silent e);
        itself = λ e. (refl, writes);
        nothing_left = λ e h. (refl, writes);
      };
      arranged = λ e. absurd (let k = sym still ∙ e in cc);
    }

pub asked_step : (disk : Disk) (ps : List Pair) (s : Session) (around : DiskSummary) (op : Operation) (calls old : List CallEvent) → IsOver disk ps s around → operation_refusal around s op ≡ None →
    is_remount op ≡ false → is_read_only s op ≡ true → (operation_effect around s op).1.tree ≡ s.tree → recovers_first op ≡ false → edits_slots s op ≡ false → WriteNothing calls → (needs_no_device s op ≡ true → calls ≡ []) →
    IsStep (record { disk = disk; calls = old; state = Healthy s }) op (operation_effect around s op).0 (record { disk = disk; calls = calls ++ old; state = Healthy (operation_effect around s op).1 })
asked_step disk ps s around op calls old over accepted other asks same none still writes silent = idle_step disk ps s around op calls old over accepted other same none still writes silent

-- ---- a write or a truncate: blocks that the view doesn't show

pub filled_step : (disk : Disk) (ps : List Pair) (s : Session) (around : DiskSummary) (op : Operation) (new : Disk) (qs : List Pair) (calls old : List CallEvent) → IsOver disk ps s around →
    operation_refusal around s op ≡ None → writes_or_truncates op ≡ true → needs_no_device s op ≡ false → SameGeometry disk new → IsAccepted new qs → qs ≡ ps → disk_view new qs ≡ disk_view disk ps → IsRecovered qs → (IsWritable disk ps → IsWritable new qs) →
    IsStep (record { disk = disk; calls = old; state = Healthy s }) op (operation_effect around s op).0 (record { disk = new; calls = calls ++ old; state = Healthy (operation_effect around s op).1 })
filled_step disk ps s around op new qs calls old over accepted fill needs geometry ok pairs same recovered profile = record {
  answered = answered_by disk new.order ps s around op (operation_effect around s op).0 (operation_effect around s op).1 over (other op fill) (ap (λ r. unless_refused r s (operation_effect around s op)) accepted);
  agrees = (qs, (ok, tree op fill ∙ over.tree ∙ sym (ap (λ (v : DiskView). v.tree) same)));
  geometry = same_geometry op disk new (other op fill) geometry;
  calls = calls;
  called = refl;
  refused = λ h. absurd (let k = sym (no_refusal around s op) ∙ h in cc);
  remounted = λ h. absurd (let k = sym (other op fill) ∙ h in cc);
  failed = λ h f. absurd (cc);
  effect_on_disk = λ h t e xs ys x y. carried_any disk new ps qs s op calls over.accepted ok (carried op fill needs) t e xs ys x y;
}
  where
    other : (op : Operation) → writes_or_truncates op ≡ true → is_remount op ≡ false
    other (ops.Write fd bytes) e = refl
    other (ops.Truncate fd size) e = refl
    other _ e = absurd (cc)

    tree : (op : Operation) → writes_or_truncates op ≡ true → (operation_effect around s op).1.tree ≡ s.tree
    tree (ops.Write fd bytes) e = refl
    tree (ops.Truncate fd size) e = refl
    tree _ e = absurd (cc)

    views : (view : DiskView) → HasDiskView disk view → HasDiskView new view
    views view h =
        let k = one_thread (content_at disk) (block_count disk) h.0 ps h.1.0.thread over.accepted.thread in
        (qs, (ok, h.1.1 ∙ ap (disk_view disk) k ∙ sym same))

    carried : (op : Operation) → writes_or_truncates op ≡ true → needs_no_device s op ≡ false → IsDiskEffectWithLayout disk ps s op calls new qs
    carried (ops.Write fd bytes) e needs = record {
      effect = record {
        asks = λ f. absurd (cc);
        opens = λ f. absurd (cc);
        fills = λ f. (pairs, views);
        recovered = λ f. absurd (cc);
        stays = λ f. recovered;
        profile = profile;
        silent = λ f. absurd (let k = sym needs ∙ f in cc);
        itself = λ f. absurd (cc);
        nothing_left = λ f. absurd (cc);
      };
      arranged = λ f. absurd (cc);
    }
    carried (ops.Truncate fd size) e needs = record {
      effect = record {
        asks = λ f. absurd (cc);
        opens = λ f. absurd (cc);
        fills = λ f. (pairs, views);
        recovered = λ f. absurd (cc);
        stays = λ f. recovered;
        profile = profile;
        silent = λ f. absurd (let k = sym needs ∙ f in cc);
        itself = λ f. absurd (cc);
        nothing_left = λ f. absurd (cc);
      };
      arranged = λ f. absurd (cc);
    }
    carried _ e needs = absurd (cc)

-- ---- a failed session, and a remount

pub failed_step : (disk : Disk) (around : DiskSummary) (op : Operation) (old : List CallEvent) → is_remount op ≡ false →
    IsStep (record { disk = disk; calls = old; state = HasFailed }) op (ops.Refused Failed) (record { disk = disk; calls = old; state = HasFailed })
failed_step disk around op old other = record {
  answered = record {
    around = around;
    shown = None;
    surrounds = λ s e. absurd (cc);
    shows = λ f. absurd (let k = sym other ∙ f in cc);
    answers = ap (λ b. cond b (remount_result None) (nonremount_result around HasFailed op)) other;
  };
  agrees = tt;
  geometry = same_geometry op disk disk other (record { block_size = refl; page = refl; order = refl; profile = refl; count = refl });
  calls = [];
  called = refl;
  refused = λ h. (refl, (refl, refl));
  remounted = λ h. absurd (let k = sym other ∙ h in cc);
  failed = λ h f. refl;
  effect_on_disk = λ h. absurd (cc);
}

-- What surrounds a session that worked is asked for, and not used.
pub remounted_step : (disk : Disk) (order : NameOrder) (ps : List Pair) (around : DiskSummary) (state : SessionHealth) (calls old : List CallEvent) → ((s : Session) → state ≡ Healthy s → (xs : List Pair) × (IsAccepted disk xs × IsDiskSummary disk xs around)) →
    IsAccepted (disk_with_order order disk) ps → (order ≡ ShorterFirst → (qs : List Pair) → IsAccepted (disk_with_order LongerFirst disk) qs → ⊥) → WriteNothing calls → AllCalls (IsRead disk.blocks) calls →
    IsStep (record { disk = disk; calls = old; state = state }) ops.Remount ops.Done (record { disk = disk_with_order order disk; calls = calls ++ old; state = Healthy (mounted_session (disk_tree disk ps)) })
remounted_step disk order ps around state calls old surrounds ok longer writes reads = record {
  answered = record {
    around = around;
    shown = Some (disk_tree disk ps);
    surrounds = surrounds;
    shows = λ f. (ps, (ok, refl));
    answers = refl;
  };
  agrees = (ps, (ok, refl));
  geometry = record { block_size = refl; page = refl; order = refl; profile = refl; count = refl };
  calls = calls;
  called = refl;
  refused = λ h. absurd (cc);
  remounted = λ h. record { untouched = (refl, writes); reads = reads; longer = longer };
  failed = λ h. absurd (cc);
  effect_on_disk = λ h t e xs ys x y. carried_of t xs ys x y;
}
  where
    carried_of : (t : Session) (xs ys : List Pair) → IsAccepted disk xs → IsAccepted (disk_with_order order disk) ys → IsDiskEffectWithLayout disk xs t ops.Remount calls (disk_with_order order disk) ys
    carried_of t xs ys x y =
        let same = same_pairs order disk xs ys x y in
        record {
          effect = record {
            asks = λ f. (refl, writes);
            opens = λ f. absurd (cc);
            fills = λ f. absurd (cc);
            recovered = λ f. absurd (cc);
            stays = subst IsRecovered same;
            profile = λ w. writable_in_order order disk ys (subst (IsWritable disk) same w);
            silent = λ f. absurd (cc);
            itself = λ f. absurd (cc);
            nothing_left = λ f. absurd (cc);
          };
          arranged = λ f. absurd (cc);
        }
