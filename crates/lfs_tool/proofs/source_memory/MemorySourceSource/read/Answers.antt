use Rattle.std.proofs.Common.{◌≡◌, ◌∙◌, List, None, ap, arith, false, map, subst, sym, take, true}
use Rattle.std.proofs.lemmas.List.{take_all}
use Rattle.std.proofs.lemmas.Result.{IfOk-weaker}
use Rattle.std.proofs.lemmas.Grind.{common_steps}
use Rattle.std.specs.Prelude.{Some, find, option_and_then}
use Rattle.std.specs.Str.{bytes_eq}
use Rattle.lfs_tool.specs.MemorySources.{PathAndBytes, file_bytes_at, memory_view, optional_bytes_view}
use Rattle.lfs_tool.proofs.HeldItems.{found_here, not_here}
use Rattle.lfs_tool.specs.declared.entries.SourceEntry.{SourceEntry}
use Rattle.lfs_tool.proofs.source_memory.MemorySourceSource.read.Goals as goal
use Rattle.lfs_tool.proofs.source_memory.MemorySourceSource.read.Goals.{else-loop-held-test, then-loop-held-test+then-eq+in_default}

pub returns-in-Some-clause-bytes : goal.returns-in-Some-clause-bytes
returns-in-Some-clause-bytes c =
    let hit : bytes_eq c.held-item.result.path.items c.args.file.now ≡ true = grind (arith, common_steps) in
    let here = found_here c.args.file.now c.deref-held-items.result.now c.loop-held.held-index c.held-item.result (omega arith) c.held-item.is c.loop-held.invariant hit in
    let at : file_bytes_at (map memory_view c.args.self.now.held.items) c.args.file.now ≡ Some c.in-Some.bytes.items =
    ap (λ xs. file_bytes_at (map memory_view xs) c.args.file.now) (sym c.deref-held-items.ensures.value)
    ∙ (ap (option_and_then (λ e. e.1)) here ∙ ap (λ b. optional_bytes_view b) c.in-Some.is) in
    IfOk-weaker c.copy_bytes.result _ _ (λ v e. at ∙ ap Some (sym (e ∙ c.as_slice-in-Some.ensures.value))) c.copy_bytes.ensures.bytes

pub loop-held-preserved : goal.loop-held-preserved
loop-held-preserved c =
    let miss : bytes_eq c.held-item.result.path.items c.args.file.now ≡ false = grind (arith, common_steps) in
    not_here c.args.file.now c.deref-held-items.result.now c.loop-held.held-index c.held-item.result (omega arith) c.held-item.is c.loop-held.invariant miss

pub returns-clause-missing : goal.returns-clause-missing
returns-clause-missing c is =
    let file = c.args.file.now in
    let items = c.deref-held-items.result.now in
    let past : find (λ (e : PathAndBytes). bytes_eq e.0 file) (map memory_view (take c.loop-held.held-index items)) ≡ None = c.loop-held.invariant in
    elim c.loop-held-test.branch [
      | else-loop-held-test w ↦
          let none = subst (λ (xs : List SourceEntry). find (λ (e : PathAndBytes). bytes_eq e.0 file) (map memory_view xs) ≡ None)
          (take_all c.loop-held.held-index items (omega arith) ∙ c.deref-held-items.ensures.value) past in
          ap (option_and_then (λ e. e.1)) none
      | then-loop-held-test+then-eq+in_default w ↦
          let hit : bytes_eq w.held-item.result.path.items file ≡ true = grind (arith, common_steps) in
          let here = found_here file items c.loop-held.held-index w.held-item.result (omega arith) w.held-item.is past hit in
          ap (λ (xs : List SourceEntry). file_bytes_at (map memory_view xs) file) (sym c.deref-held-items.ensures.value)
          ∙ (ap (option_and_then (λ e. e.1)) here ∙ ap (λ b. optional_bytes_view b) w.in_default.is)
    ]
