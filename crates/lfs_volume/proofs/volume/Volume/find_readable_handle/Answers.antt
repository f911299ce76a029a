use Rattle.std.proofs.Common.{refl, sym, subst, Ok}
use Rattle.lfs_model.specs.session.Operations as ops
use Rattle.lfs_volume.specs.Calls.{Read}
use Rattle.lfs_volume.specs.SessionCalls.{error_result}
use Rattle.lfs_volume.specs.Volume.{VolumeView}
use Rattle.lfs_volume.specs.VolumeCalls.{IsHandleLookup, IsReadyToRead, IsSoundIfWorking}
use Rattle.lfs_volume.proofs.Soundness.{failed_not_working, handles_stay, sound_loaded}
use Rattle.lfs_volume.proofs.Steps.{passed_err}
use Rattle.lfs_volume.proofs.VolumeSteps.{call_in_parts, failed_call, no_handle, not_else, not_then, of_whole, read_forbidden, read_none, working_call}
use Rattle.lfs_volume.proofs.volume.Volume.find_readable_handle.Goals as goal

pub returns-in_err-found-clause-ended : goal.returns-in_err-found-clause-ended
returns-in_err-found-clause-ended g c =
    passed_err c.from_residual.result _ _ c.from_residual.ensures.1 (λ count. no_handle _ c.args.self.now c.args.handle (Read c.args.handle count) c.in_err-found.ensures.found (λ around none. read_none c.args.self.now c.args.handle count around none))

pub returns-then-not-found-clause-ended : goal.returns-then-not-found-clause-ended
returns-then-not-found-clause-ended g c count =
    working_call c.args.self.now c.args.self.now (Read c.args.handle count) (Ok (ops.Refused ops.BadFile)) c.in_ok-found.ensures.sound.idle.works
    (read_forbidden c.args.self.now c.args.handle count c.in_ok-found.found c.in_ok-found.ensures.found (not_then c.in_ok-found.found.reads c.if-not-found.true))

pub returns-in_err-load_node_at-clause-ended : goal.returns-in_err-load_node_at-clause-ended
returns-in_err-load_node_at-clause-ended g c =
    let start : VolumeView = record { session = c.self.inside.session; nodes = c.self.inside.nodes.items; handles = c.self.inside.handles.items } in
    let new : VolumeView = record { session = c.load_node_at.new.session; nodes = c.load_node_at.new.nodes.items; handles = c.self.inside.handles.items } in
    passed_err c.from_residual-in_err-load_node_at.result _ _ c.from_residual-in_err-load_node_at.ensures.1 (λ count.
    call_in_parts start c.args.self.now new (Read c.args.handle count) (error_result _) c.self.view_is c.in_ok-found.ensures.sound (λ sound.
    failed_call _ start new (Read c.args.handle count) (c.in_err-load_node_at.ensures.failed sound.idle (λ n e. sound.nodes c.in_ok-found.found.node n e))))

pub returns-clause-found : goal.returns-clause-found
returns-clause-found g c =
    let start : VolumeView = record { session = c.self.inside.session; nodes = c.self.inside.nodes.items; handles = c.self.inside.handles.items } in
    let new : VolumeView = record { session = c.load_node_at.new.session; nodes = c.load_node_at.new.nodes.items; handles = c.self.inside.handles.items } in
    let found = subst (λ v. IsHandleLookup v c.args.handle (Ok c.in_ok-found.found)) (sym c.self.view_is) c.in_ok-found.ensures.found in
    of_whole start c.args.self.now c.self.view_is (λ v. IsReadyToRead v c.args.handle c.in_ok-found.found new) (λ sound. record {
      sound = sound;
      working = found.0;
      at = found.1;
      reads = not_else c.in_ok-found.found.reads c.if-not-found.false;
      handles = refl;
      loaded = c.in_ok-load_node_at.ensures.loaded sound.idle (λ n e. sound.nodes c.in_ok-found.found.node n e);
    }) c.in_ok-found.ensures.sound

pub invariant_of-self : goal.invariant_of-self
invariant_of-self g c =
    let start : VolumeView = record { session = c.self.inside.session; nodes = c.self.inside.nodes.items; handles = c.self.inside.handles.items } in
    let new : VolumeView = record { session = c.load_node_at.new.session; nodes = c.load_node_at.new.nodes.items; handles = c.self.inside.handles.items } in
    of_whole start c.args.self.now c.self.view_is (λ v. IsSoundIfWorking new) (λ sound works. absurd (failed_not_working _ start.session new.session (c.in_err-load_node_at.ensures.failed sound.idle (λ n e. sound.nodes c.in_ok-found.found.node n e)) works)) c.in_ok-found.ensures.sound

pub invariant_of-self-2 : goal.invariant_of-self-2
invariant_of-self-2 g c =
    let start : VolumeView = record { session = c.self.inside.session; nodes = c.self.inside.nodes.items; handles = c.self.inside.handles.items } in
    let new : VolumeView = record { session = c.load_node_at.new.session; nodes = c.load_node_at.new.nodes.items; handles = c.self.inside.handles.items } in
    let found = subst (λ v. IsHandleLookup v c.args.handle (Ok c.in_ok-found.found)) (sym c.self.view_is) c.in_ok-found.ensures.found in
    of_whole start c.args.self.now c.self.view_is (λ v. IsSoundIfWorking new) (λ sound works.
    sound_loaded start new new c.args.handle c.in_ok-found.found sound found.1 (c.in_ok-load_node_at.ensures.loaded sound.idle (λ n e. sound.nodes c.in_ok-found.found.node n e)) refl refl (handles_stay start.handles new.handles refl)) c.in_ok-found.ensures.sound
