-- The laws of a session's device, after calls.
use Rattle.std.proofs.Common.{◌≡◌, false, List, [], ◌∷◌, ◌++◌, Result, refl, sym, ap, subst, ◌∙◌}
use Rattle.lfs_device.specs.declared.device.BlockDevice.{Ghosts}
use Rattle.lfs_device.specs.declared.error.Error.{Error}
use Rattle.lfs_fs.proofs.Common.{Blocks, Disk, CallEvent, AllCalls, LeftByLatestCall, IsRead, OnlyReadsSince, call_reads, Operation, OnlyReadsTree, TreeState, RuntimeFiles, IsChecksResult, session_view, HasSessionInvariant, DeviceConforms}
use Rattle.lfs_model.specs.crash.Conformance.{CallsConform, CallConforms}
use Rattle.lfs_model.proofs.Conformance.{conforms_next}
use Rattle.lfs_fs.proofs.Answered.{asked_by_checks, checked_ready}

-- of the device that is lent
pub laws_met : {D : Type 0} (g : Ghosts D) (device : D) (t : TreeState) → g.blocks device ≡ t.disk.blocks → g.history device ≡ t.history → LeftByLatestCall (g.history device) (g.blocks device) → CallsConform (g.history device) → DeviceConforms t
laws_met g device t blocks history newest conforms = record {
  newest = subst (λ (bs : Blocks). LeftByLatestCall t.history bs) blocks (subst (λ (h : List CallEvent). LeftByLatestCall h (g.blocks device)) history newest);
  conforms = subst CallsConform history conforms;
}

-- ---- after reads

conforming_reads : (blocks : Blocks) (e : CallEvent) → IsRead blocks e → CallConforms e
conforming_reads blocks e read = record {
  reads = λ b o n is ok. read.after ∙ sym read.before;
  programs = λ b o bytes is ok. absurd (let k = sym (ap call_reads is) ∙ read.reads in cc);
  others = λ b o bytes is ok. absurd (let k = sym (ap call_reads is) ∙ read.reads in cc);
  erases = λ b is ok. absurd (let k = sym (ap call_reads is) ∙ read.reads in cc);
  blanks = λ b o n is ok. absurd (let k = sym (ap call_reads is) ∙ read.reads in cc);
}

abbrev left_by : List CallEvent → Blocks
left_by [] = []
left_by (e ∷ older) = e.after

reported_later : (t new : TreeState) → DeviceConforms t → OnlyReadsSince t.disk.blocks t.history new.history → new.disk ≡ t.disk → DeviceConforms new
reported_later t new reported reads same = record {
  newest = subst (λ (d : Disk). LeftByLatestCall new.history d.blocks) (sym same) (subst (λ h. LeftByLatestCall h t.disk.blocks) (sym reads.extends) (newest_on reads.events reads.each));
  conforms = subst CallsConform (sym reads.extends) (conforming_on reads.events reads.each);
}
  where
    newest_on : (events : List CallEvent) → AllCalls (IsRead t.disk.blocks) events → LeftByLatestCall (events ++ t.history) t.disk.blocks
    newest_on [] each = reported.newest
    newest_on (e ∷ events) each = λ first older is. ap left_by (sym is) ∙ each.0.after

    conforming_on : (events : List CallEvent) → AllCalls (IsRead t.disk.blocks) events → CallsConform (events ++ t.history)
    conforming_on [] each = reported.conforms
    conforming_on (e ∷ events) each = conforms_next refl (conforming_reads t.disk.blocks e each.0) (conforming_on events each.1)

pub reported_asked : (t new : TreeState) → (t.failed ≡ false → DeviceConforms t) → OnlyReadsTree t new → new.failed ≡ false → DeviceConforms new
reported_asked t new reported asked works = reported_later t new (reported (sym (ap (λ (s : TreeState). s.failed) asked.same) ∙ works)) asked.reads (ap (λ (s : TreeState). s.disk) asked.same)

-- after checks
pub between_checked : {A : Type 0} (t : TreeState) (files : RuntimeFiles) (op : Operation) (P : A → Type 0) (r : Result A Error) (tree : TreeState) → HasSessionInvariant t files → IsChecksResult (session_view t files) op P r tree → HasSessionInvariant tree files
between_checked t files op P r tree between h = record {
  ready = checked_ready t files op P r tree between.ready h;
  reported = λ works. reported_asked t tree between.reported (asked_by_checks t files op P r tree h works) works;
}
