use Rattle.std.proofs.Common.{◌≡◌, ◌∙◌, ◌++◌, ◌∷◌, [], Err, List, ap, arith, map, refl, reverse, subst, sym}
use Rattle.std.proofs.lemmas.List.{map-append}
use Rattle.lfs_tool.specs.SourceTrees.{is_folder}
use Rattle.lfs_tool.specs.MemorySources.{optional_bytes_view}
use Rattle.lfs_tool.specs.SourceEntries.{PathAndKind, pending_entry_view, paths_in_folder}
use Rattle.lfs_tool.proofs.Reading.{AreFolders, Goes, all_of, bad_below, begins, either, folders_on, goes_on, holds_along, none_left, rests_both, same_error, top_folders}
use Rattle.lfs_tool.proofs.entries.read_tree.Goals as goal

pub loop-init : goal.loop-init
loop-init g c =
    let known = g.S.Source.shown c.args.source.now in
    let top = c.in_ok-push_folder_names.ensures.within in
    let places : List PathAndKind = map pending_entry_view c.push_folder_names.new.waiting.items in
    let begun : places ≡ reverse (paths_in_folder [] top.0) = top.1.1 ∙ ap (λ ws. map pending_entry_view ws ++ reverse (paths_in_folder [] top.0)) c.new-waiting.ensures.items in
    record {
      goes = subst (Goes known places) (sym c.new-entries.ensures.items) (begins known top.0 places top.1.0 begun);
      folders = top_folders known top.0 places top.1.0 begun;
      shown = c.in_ok-push_folder_names.ensures.shown;
      kept = c.in_ok-push_folder_names.ensures.kept;
    }

pub returns-in_default-clause-entries : goal.returns-in_default-clause-entries
returns-in_default-clause-entries g c =
    all_of (g.S.Source.shown c.args.source.now) (map pending_entry_view c.loop.waiting.items) c.loop.entries.items c.loop.invariant.goes (none_left pending_entry_view c.loop.waiting.items (omega (arith, c.in_default.ensures.cases.0)))

pub returns-in_err-bytes-clause-fault : goal.returns-in_err-bytes-clause-fault
returns-in_err-bytes-clause-fault g c = λ e.
    let known = g.S.Source.shown c.args.source.now in
    let front = map pending_entry_view c.pop.new.self.items in
    let p = pending_entry_view c.in-Some.one in
    let popped : map pending_entry_view c.loop.waiting.items ≡ front ++ p ∷ [] = ap (map pending_entry_view) c.in-Some.ensures.items ∙ map-append pending_entry_view c.pop.new.self.items (c.in-Some.one ∷ []) in
    either _ _ _ _ (λ h. h)
    (λ bad. (bad.0, bad_below known (g.S.Source.shown c.loop.source) front p (subst (AreFolders known) popped c.loop.invariant.folders) c.loop.invariant.shown bad.1.0 bad.1.1))
    (c.in_err-bytes.ensures.fault (ap Err (same_error c.from_residual-in_err-bytes.result _ _ c.from_residual-in_err-bytes.ensures.1 e)))

pub loop-preserved : goal.loop-preserved
loop-preserved g c =
    let known = g.S.Source.shown c.args.source.now in
    let now = g.S.Source.shown c.loop.source in
    let front = map pending_entry_view c.pop.new.self.items in
    let p = pending_entry_view c.in-Some.one in
    let places = map pending_entry_view c.read_pending_entry.new.waiting.items in
    let popped : map pending_entry_view c.loop.waiting.items ≡ front ++ p ∷ [] = ap (map pending_entry_view) c.in-Some.ensures.items ∙ map-append pending_entry_view c.pop.new.self.items (c.in-Some.one ∷ []) in
    let read = c.in_ok-bytes.ensures.holds in
    let holds = holds_along known now c.in-Some.one.path.items (is_folder c.in-Some.one.kind) (optional_bytes_view c.in_ok-bytes.bytes) read.0 c.loop.invariant.shown read.1.0 in
    record {
      goes = goes_on known front p places c.loop.entries.items c.push_source_entry.new.entries.items (record { path = c.in-Some.one.path; bytes = c.in_ok-bytes.bytes; modified = c.in-Some.one.modified }) read.0
          (subst (λ ps. Goes known ps c.loop.entries.items) popped c.loop.invariant.goes) refl holds read.1.1 c.in_ok-push_source_entry.ensures.entries;
      folders = folders_on known front p places (optional_bytes_view c.in_ok-bytes.bytes) read.0 (subst (AreFolders known) popped c.loop.invariant.folders) holds read.1.1;
      shown = rests_both known now (g.S.Source.shown c.read_pending_entry.new.source) c.loop.invariant.shown c.in_ok-bytes.ensures.shown;
      kept = c.in_ok-bytes.ensures.kept;
    }
