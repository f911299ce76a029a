use Rattle.std.proofs.Common.{refl, sym, ap, ◌≡◌, ◌∙◌, List, Option, map, not, true, false, Ok}
use Rattle.std.specs.Option.{option_and_then, option_map}
use Rattle.lfs_tree.specs.TreeState.{visible_tree}
use Rattle.std.specs.List.{position_or_len}
use Rattle.lfs_fs.specs.Replies.{reply_from}
use Rattle.lfs_model.specs.session.Operations as ops
use Rattle.lfs_volume.specs.Calls.{Perform, has_path, renamed_path}
use Rattle.lfs_volume.specs.Volume.{NodeView, VolumeView}
use Rattle.lfs_volume.specs.VolumeCalls.{IsSoundIfWorking, IsSoundVolume, IsVolumeCall}
use Rattle.lfs_volume.proofs.PathMoves.{apart_nodes, aside_bytes, rename_done, renamed_nodes, sound_renamed}
use Rattle.lfs_volume.proofs.Soundness.{failed_not_working}
use Rattle.lfs_volume.proofs.Unlinking.{IsReady, accepted_after, ended_after, ended_sound, ready_sound, rename_on_entries}
use Rattle.lfs_volume.proofs.VolumeSteps.{call_in_parts, ended_call, failed_call, failed_reply, no_memory, of_whole, passed_error, wants_memory}
use Rattle.lfs_volume.proofs.volume.Volume.rename_apart.Goals as goal

pub returns-in_err-check_not_failed : goal.returns-in_err-check_not_failed
returns-in_err-check_not_failed g c =
    passed_error (λ _. ops.Done) c.from_residual.result _ (λ z. IsVolumeCall c.args.self.now (Perform (ops.Rename c.args.from.now c.args.to.now)) z c.args.self.now) c.from_residual.ensures.1 (failed_reply _ c.args.self.now (Perform (ops.Rename c.args.from.now c.args.to.now)) c.in_err-check_not_failed.ensures.failed)

pub returns-in_err-load_node_at : goal.returns-in_err-load_node_at
returns-in_err-load_node_at g c =
    let start : VolumeView = record { session = c.self.inside.session; nodes = c.self.inside.nodes.items; handles = c.self.inside.handles.items } in
    let new : VolumeView = record { session = c.load_node_at.new.session; nodes = c.load_node_at.new.nodes.items; handles = c.self.inside.handles.items } in
    call_in_parts start c.args.self.now new (Perform (ops.Rename c.args.from.now c.args.to.now)) (reply_from (λ _. ops.Done) c.from_residual-in_err-load_node_at.result) c.self.view_is c.in_ok-check_not_failed.ensures.sound (λ sound.
    ended_call (λ _. ops.Done) c.from_residual-in_err-load_node_at.result _ start new (Perform (ops.Rename c.args.from.now c.args.to.now)) c.from_residual-in_err-load_node_at.ensures.1
    (failed_call _ start new (Perform (ops.Rename c.args.from.now c.args.to.now)) (c.in_err-load_node_at.ensures.failed sound.idle (λ n e. sound.nodes c.find_node_index-place.result n e))))

pub invariant_of-self : goal.invariant_of-self
invariant_of-self g c =
    let start : VolumeView = record { session = c.self.inside.session; nodes = c.self.inside.nodes.items; handles = c.self.inside.handles.items } in
    let new : VolumeView = record { session = c.load_node_at.new.session; nodes = c.load_node_at.new.nodes.items; handles = c.self.inside.handles.items } in
    of_whole start c.args.self.now c.self.view_is (λ v. IsSoundIfWorking new) (λ sound works. absurd (failed_not_working _ start.session new.session (c.in_err-load_node_at.ensures.failed sound.idle (λ n e. sound.nodes c.find_node_index-place.result n e)) works)) c.in_ok-check_not_failed.ensures.sound

pub returns-in_err-rename : goal.returns-in_err-rename
returns-in_err-rename g c =
    let start : VolumeView = record { session = c.self.inside.session; nodes = c.self.inside.nodes.items; handles = c.self.inside.handles.items } in
    let mid : VolumeView = record { session = c.load_node_at.new.session; nodes = c.load_node_at.new.nodes.items; handles = c.self.inside.handles.items } in
    let new : VolumeView = record { session = c.rename.new.self; nodes = c.load_node_at.new.nodes.items; handles = c.self.inside.handles.items } in
    let ready = λ (sound : IsSoundVolume start). (let r : IsReady start mid c.find_node_index-place.result = record { loaded = c.in_ok-load_node_at.ensures.loaded sound.idle (λ n e. sound.nodes c.find_node_index-place.result n e); handles = refl } in r) in
    call_in_parts start c.args.self.now new (Perform (ops.Rename c.args.from.now c.args.to.now)) (reply_from (λ _. ops.Done) c.from_residual-in_err-rename.result) c.self.view_is c.in_ok-check_not_failed.ensures.sound (λ sound.
    ended_call (λ _. ops.Done) c.from_residual-in_err-rename.result _ start new (Perform (ops.Rename c.args.from.now c.args.to.now)) c.from_residual-in_err-rename.ensures.1
    (ended_after start mid c.find_node_index-place.result sound (ready sound) (ops.Rename c.args.from.now c.args.to.now) (rename_on_entries c.args.from.now c.args.to.now) _ new c.in_err-rename.ensures refl refl))

pub invariant_of-self-in_err-rename : goal.invariant_of-self-in_err-rename
invariant_of-self-in_err-rename g c =
    let start : VolumeView = record { session = c.self.inside.session; nodes = c.self.inside.nodes.items; handles = c.self.inside.handles.items } in
    let mid : VolumeView = record { session = c.load_node_at.new.session; nodes = c.load_node_at.new.nodes.items; handles = c.self.inside.handles.items } in
    let new : VolumeView = record { session = c.rename.new.self; nodes = c.load_node_at.new.nodes.items; handles = c.self.inside.handles.items } in
    of_whole start c.args.self.now c.self.view_is (λ v. IsSoundIfWorking new) (λ sound.
    let ready : IsReady start mid c.find_node_index-place.result = record { loaded = c.in_ok-load_node_at.ensures.loaded sound.idle (λ n e. sound.nodes c.find_node_index-place.result n e); handles = refl } in
    ended_sound start mid c.find_node_index-place.result sound ready (ops.Rename c.args.from.now c.args.to.now) (rename_on_entries c.args.from.now c.args.to.now) _ new c.in_err-rename.ensures refl refl) c.in_ok-check_not_failed.ensures.sound

pub returns : goal.returns
returns g c =
    let start : VolumeView = record { session = c.self.inside.session; nodes = c.self.inside.nodes.items; handles = c.self.inside.handles.items } in
    let mid : VolumeView = record { session = c.load_node_at.new.session; nodes = c.load_node_at.new.nodes.items; handles = c.self.inside.handles.items } in
    let new : VolumeView = record { session = c.rename.new.self; nodes = c.set_renamed_paths.new.nodes.items; handles = c.self.inside.handles.items } in
    call_in_parts start c.args.self.now new (Perform (ops.Rename c.args.from.now c.args.to.now)) (Ok ops.Done) c.self.view_is c.in_ok-check_not_failed.ensures.sound (λ sound.
    let ready : IsReady start mid c.find_node_index-place.result = record { loaded = c.in_ok-load_node_at.ensures.loaded sound.idle (λ n e. sound.nodes c.find_node_index-place.result n e); handles = refl } in
    let aside = aside_bytes (visible_tree mid.session.tree) c.args.from.now c.args.to.now (rename_done start mid new.session c.find_node_index-place.result c.args.from.now c.args.to.now sound ready c.requires c.in_ok-rename.ensures) in
    let moved : map (option_map (λ p. p.items)) c.in_ok-paths.paths.items ≡ map (option_and_then (renamed_path c.args.from.now c.args.to.now)) c.load_node_at.new.nodes.items = c.in_ok-paths.ensures ∙ ap (λ (ns : List (Option NodeView)). map (option_and_then (renamed_path c.args.from.now c.args.to.now)) ns) c.deref-2.ensures.value in
    let nodes = renamed_nodes start mid c.find_node_index-place.result c.args.from.now c.args.to.now (map (option_map (λ p. p.items)) c.in_ok-paths.paths.items) c.unlink_path.new.nodes.items new.nodes sound ready (c.find_node_index-place.ensures ∙ ap (λ (ns : List (Option NodeView)). position_or_len (has_path c.args.to.now) ns) c.deref.ensures.value) aside moved c.unlink_path.ensures c.set_renamed_paths.ensures in
    accepted_after start mid c.find_node_index-place.result sound ready (ops.Rename c.args.from.now c.args.to.now) (rename_on_entries c.args.from.now c.args.to.now) new ops.Done refl c.in_ok-rename.ensures
    (nodes ∙ apart_nodes (visible_tree mid.session.tree) c.args.from.now c.args.to.now start.nodes c.requires) refl)

pub invariant_of-self-2 : goal.invariant_of-self-2
invariant_of-self-2 g c =
    let start : VolumeView = record { session = c.self.inside.session; nodes = c.self.inside.nodes.items; handles = c.self.inside.handles.items } in
    let mid : VolumeView = record { session = c.load_node_at.new.session; nodes = c.load_node_at.new.nodes.items; handles = c.self.inside.handles.items } in
    let new : VolumeView = record { session = c.rename.new.self; nodes = c.set_renamed_paths.new.nodes.items; handles = c.self.inside.handles.items } in
    of_whole start c.args.self.now c.self.view_is (λ v. IsSoundIfWorking new) (λ sound works.
    let ready : IsReady start mid c.find_node_index-place.result = record { loaded = c.in_ok-load_node_at.ensures.loaded sound.idle (λ n e. sound.nodes c.find_node_index-place.result n e); handles = refl } in
    let aside = aside_bytes (visible_tree mid.session.tree) c.args.from.now c.args.to.now (rename_done start mid new.session c.find_node_index-place.result c.args.from.now c.args.to.now sound ready c.requires c.in_ok-rename.ensures) in
    let moved : map (option_map (λ p. p.items)) c.in_ok-paths.paths.items ≡ map (option_and_then (renamed_path c.args.from.now c.args.to.now)) c.load_node_at.new.nodes.items = c.in_ok-paths.ensures ∙ ap (λ (ns : List (Option NodeView)). map (option_and_then (renamed_path c.args.from.now c.args.to.now)) ns) c.deref-2.ensures.value in
    let nodes = renamed_nodes start mid c.find_node_index-place.result c.args.from.now c.args.to.now (map (option_map (λ p. p.items)) c.in_ok-paths.paths.items) c.unlink_path.new.nodes.items new.nodes sound ready (c.find_node_index-place.ensures ∙ ap (λ (ns : List (Option NodeView)). position_or_len (has_path c.args.to.now) ns) c.deref.ensures.value) aside moved c.unlink_path.ensures c.set_renamed_paths.ensures in
    sound_renamed start mid new c.find_node_index-place.result c.args.from.now c.args.to.now sound ready c.requires c.in_ok-rename.ensures
    nodes refl) c.in_ok-check_not_failed.ensures.sound

pub returns-in_err-paths : goal.returns-in_err-paths
returns-in_err-paths g c =
    let start : VolumeView = record { session = c.self.inside.session; nodes = c.self.inside.nodes.items; handles = c.self.inside.handles.items } in
    let new : VolumeView = record { session = c.load_node_at.new.session; nodes = c.load_node_at.new.nodes.items; handles = c.self.inside.handles.items } in
    call_in_parts start c.args.self.now new (Perform (ops.Rename c.args.from.now c.args.to.now)) (reply_from (λ _. ops.Done) c.from_residual-in_err-paths.result) c.self.view_is c.in_ok-check_not_failed.ensures.sound (λ sound.
    ended_call (λ _. ops.Done) c.from_residual-in_err-paths.result _ start new (Perform (ops.Rename c.args.from.now c.args.to.now)) c.from_residual-in_err-paths.ensures.1
    (no_memory _ start new (Perform (ops.Rename c.args.from.now c.args.to.now)) refl (wants_memory start new (Perform (ops.Rename c.args.from.now c.args.to.now)) c.find_node_index-place.result (c.in_ok-load_node_at.ensures.loaded sound.idle (λ n e. sound.nodes c.find_node_index-place.result n e)) refl (ap not c.requires))))

pub invariant_of-self-in_err-paths : goal.invariant_of-self-in_err-paths
invariant_of-self-in_err-paths g c =
    let start : VolumeView = record { session = c.self.inside.session; nodes = c.self.inside.nodes.items; handles = c.self.inside.handles.items } in
    let new : VolumeView = record { session = c.load_node_at.new.session; nodes = c.load_node_at.new.nodes.items; handles = c.self.inside.handles.items } in
    of_whole start c.args.self.now c.self.view_is (λ v. IsSoundIfWorking new) (λ sound works.
    ready_sound start new c.find_node_index-place.result sound (record { loaded = c.in_ok-load_node_at.ensures.loaded sound.idle (λ n e. sound.nodes c.find_node_index-place.result n e); handles = refl })) c.in_ok-check_not_failed.ensures.sound
